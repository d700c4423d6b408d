pub mod StreamTrip
pub mod LengthLaws
pub mod ReadLaws
pub mod WriteLaws
pub mod Cases
pub mod RepeatLaws
