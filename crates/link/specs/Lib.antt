pub mod Reader
pub mod Walk
pub mod Counts
pub mod Closing
pub mod Receiving
pub mod Steps
pub mod Seen
