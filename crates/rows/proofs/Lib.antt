pub mod EntryLaws
pub mod LengthLaws
pub mod NameLaws
pub mod OldRowLaws
pub mod RowLaws
