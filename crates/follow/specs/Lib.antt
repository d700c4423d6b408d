pub mod Records
pub mod Marked
pub mod Answers
pub mod Replies
