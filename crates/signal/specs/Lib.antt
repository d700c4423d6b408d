pub mod Kind
pub mod Content
pub mod Answer
