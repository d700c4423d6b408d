pub mod FrontLaws
pub mod BodyLaws
pub mod BlockLaws
pub mod TestLaws
