pub mod PackLaws
pub mod NotationLaws
