pub mod Join
pub mod Groupings
