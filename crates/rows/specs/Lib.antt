pub mod Entries
pub mod Names
pub mod OldRows
pub mod Rows
