pub mod AnswerLaws
pub mod AnswerTrip
pub mod Cases
