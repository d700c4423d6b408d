pub mod Ascii
pub mod Put
