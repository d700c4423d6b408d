pub mod Stream
pub mod Answer
pub mod Entries
