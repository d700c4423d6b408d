pub mod FormLaws
pub mod WholeLaws
pub mod Unique
