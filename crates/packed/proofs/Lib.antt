pub mod PackedLaws
pub mod RawLaws
pub mod Cases
pub mod RawSaid
