pub mod Measure
pub mod Counting
