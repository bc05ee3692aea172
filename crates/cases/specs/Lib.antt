pub mod Buffer
pub mod Counts
pub mod Lending
pub mod Line
