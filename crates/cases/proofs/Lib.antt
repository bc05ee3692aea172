pub mod BufferLaws
pub mod InputLaws
pub mod LineLaws
pub mod ReadingLaws
