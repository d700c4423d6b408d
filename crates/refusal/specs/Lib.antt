pub mod Refusal
pub mod Named
