pub mod Counters
pub mod Control
pub mod State
pub mod Frames
pub mod Results
pub mod Events
pub mod Receiving
pub mod Steps
