pub mod OutputLaws
pub mod StreamLaws
pub mod BlockLaws
