pub mod LineLaws
pub mod BoundLaws
pub mod AnswerLaws
pub mod TextLaws
pub mod Cases
