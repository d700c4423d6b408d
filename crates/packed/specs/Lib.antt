pub mod Packed
pub mod Raw
