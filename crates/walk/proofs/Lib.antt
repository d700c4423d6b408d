pub mod StandLaws
pub mod HeadLaws
pub mod BlockLaws
pub mod OpenLaws
pub mod OpenBlock
mod FromPlace
