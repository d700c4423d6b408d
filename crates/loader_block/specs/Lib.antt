pub mod Output
pub mod Blocks
