pub mod StreamLaws
pub mod PointLaws
pub mod LoadLaws
pub mod BlockLaws
