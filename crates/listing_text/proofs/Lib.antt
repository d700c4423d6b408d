pub mod LengthLaws
pub mod BoundLaws
pub mod Cases
pub mod LineLaws
pub mod EntryLaws
pub mod SignalLaws
pub mod TableLaws
