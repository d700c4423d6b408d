pub mod Twins
pub mod ImageLaws
pub mod Apart
pub mod Cases
