pub mod Cutting
pub mod Calls
pub mod Turns
pub mod History
