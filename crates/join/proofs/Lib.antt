pub mod BytesLaws
pub mod TestLaws
