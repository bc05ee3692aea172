pub mod Fragment
pub mod Transfer
pub mod Calls
pub mod Steps
