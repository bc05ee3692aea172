pub mod Burst
pub mod Crc
pub mod Table
