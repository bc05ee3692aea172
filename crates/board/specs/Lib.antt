pub mod ListSteps
pub mod OldDisplays
pub mod Reading
pub mod ReadingSteps
pub mod WatchList
