pub mod KindLaws
pub mod HeadLaws
pub mod BlocksLaws
pub mod OpenLaws
