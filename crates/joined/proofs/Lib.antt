pub mod JoinLaws
pub mod Cases
pub mod Groupings
pub mod GroupingCases
