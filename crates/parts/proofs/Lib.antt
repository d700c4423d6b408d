pub mod PartLaws
pub mod PartsLaws
pub mod SignalLaws
