pub mod Layout
pub mod ImageForm
pub mod Valid
pub mod Parse
pub mod Walk
pub mod Ends
