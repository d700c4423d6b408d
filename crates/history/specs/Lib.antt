pub mod History
pub mod Followed
