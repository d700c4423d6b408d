pub mod Calls
pub mod State
pub mod Work
pub mod Memory
pub mod Refusals
pub mod Step
pub mod Runs
