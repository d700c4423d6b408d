pub mod BeginLaws
pub mod CarryLaws
pub mod FinishLaws
pub mod RefusedLaws
pub mod TimeLaws
