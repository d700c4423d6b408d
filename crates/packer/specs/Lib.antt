pub mod Notation
pub mod Number
pub mod Given
