pub mod Outcomes
pub mod Way
