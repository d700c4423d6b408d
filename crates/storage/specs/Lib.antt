pub mod Storage
pub mod Stored
