pub mod FlagLaws
pub mod StateLaws
