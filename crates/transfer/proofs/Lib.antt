pub mod AcceptedLaws
pub mod JudgeLaws
pub mod PartLaws
pub mod StepLaws
pub mod FileCalls
pub mod WholeFile
