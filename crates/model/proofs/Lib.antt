pub mod JoinLaws
pub mod LoadLaws
pub mod AfterLaws
pub mod HistoryLaws
pub mod ValidLaws
pub mod Rebuild
