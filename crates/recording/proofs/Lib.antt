pub mod CallsLaws
pub mod Cases
pub mod ProbeCases
pub mod StartLaws
pub mod StartCases
pub mod TestsLaws
pub mod GatherLaws
