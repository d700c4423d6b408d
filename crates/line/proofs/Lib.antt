pub mod MaybeLaws
pub mod WordLaws
pub mod HexLaws
pub mod EachLaws
pub mod KindLaws
pub mod CallLaws
pub mod Cases
