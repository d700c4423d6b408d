pub mod SymbolLaws
pub mod ClassLaws
pub mod OrLaws
pub mod RealLaws
pub mod Cases
