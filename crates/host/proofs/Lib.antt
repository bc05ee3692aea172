pub mod ReportLaws
pub mod HostCalls
pub mod DamagedFrames
pub mod PlaceReports
