pub mod Walk
pub mod Open
