pub mod EntryLaws
pub mod BenchLoads
pub mod TableLaws
pub mod JoinedLoads
pub mod CursorLaws
