pub mod Opener
pub mod Loading
pub mod EntryBytes
pub mod Reader
