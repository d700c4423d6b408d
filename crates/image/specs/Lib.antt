pub mod Block
pub mod Head
pub mod Image
