pub mod Appending
pub mod Fields
pub mod Lines
pub mod Numbers
