pub mod LengthLaws
pub mod ReadThere
pub mod WideLaws
pub mod EntriesLaws
pub mod Cases
