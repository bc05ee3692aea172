pub mod LengthLaws
pub mod HandedLaws
pub mod DisplayLaws
pub mod TakingLaws
