pub mod RunLoads
pub mod LoadsLaws
pub mod JoinLaws
pub mod TellsLaws
pub mod Demand3
pub mod PowerLoss
