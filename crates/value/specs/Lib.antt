pub mod Symbol
pub mod Class
pub mod Change
pub mod Real
