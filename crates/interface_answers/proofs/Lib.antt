pub mod ToldLaws
pub mod AnswerLaws
