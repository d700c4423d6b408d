pub mod Cases
pub mod PutLaws
pub mod NumberLaws
