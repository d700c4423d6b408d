pub mod SymbolsLaws
pub mod ExtendedLaws
pub mod VcdLaws
pub mod Cases
