pub mod DecodeLaws
pub mod SayLaws
pub mod Cases
