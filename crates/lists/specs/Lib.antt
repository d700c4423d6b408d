pub mod Choice
pub mod Bytes
pub mod Got
pub mod Same
pub mod Last
