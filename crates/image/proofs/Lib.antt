pub mod KindLaws
pub mod SizeLaws
