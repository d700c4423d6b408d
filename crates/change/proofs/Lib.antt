pub mod NotationLaws
pub mod FoundLaws
pub mod ChangeLaws
