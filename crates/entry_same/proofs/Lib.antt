pub mod FewLaws
pub mod SameLaws
pub mod KeptLaws
