pub mod BlocksLaws
pub mod KeptLaws
pub mod LoadLaws
