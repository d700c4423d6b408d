pub mod ShownLaws
pub mod CursorLaws
