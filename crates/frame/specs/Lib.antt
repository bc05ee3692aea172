pub mod Stuffing
pub mod Content
pub mod Writing
pub mod Reading
pub mod Answers
pub mod ReaderSteps
pub mod Damage
pub mod Places
