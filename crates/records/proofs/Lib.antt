pub mod BadLaws
