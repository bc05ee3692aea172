pub mod EntryLaws
pub mod FieldLaws
pub mod GoodLists
pub mod LimitLaws
pub mod NameLaws
pub mod ReadingLaws
pub mod WatchLaws
