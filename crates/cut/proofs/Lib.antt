pub mod TurnLaws
pub mod CutLaws
