pub mod Decided
pub mod Stream
pub mod Times
