pub mod Plan
pub mod Carry
pub mod Begin
