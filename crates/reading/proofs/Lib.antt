pub mod DecidedLaws
pub mod PlaceLaws
pub mod EntryLaws
pub mod StreamLaws
pub mod TimesLaws
