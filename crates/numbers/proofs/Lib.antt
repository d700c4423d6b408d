pub mod Cases
pub mod Leb128Laws
pub mod Leb128Trip
pub mod LittleEndianLaws
pub mod GroupLaws
