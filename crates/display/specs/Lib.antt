pub mod Display
pub mod Sending
pub mod Taking
