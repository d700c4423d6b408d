pub mod SaysLaws
