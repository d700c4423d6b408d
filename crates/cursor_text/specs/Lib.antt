pub mod At
pub mod Written
