pub mod AppendingLaws
pub mod LineLaws
pub mod NumberLaws
pub mod RowLine
