pub mod ItemTypes
pub mod Items
pub mod Packet
pub mod Names
pub mod Answers
pub mod Requests
pub mod ReaderSteps
pub mod WriterSteps
