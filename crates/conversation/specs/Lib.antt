pub mod Ledger
pub mod Events
pub mod OurEvents
pub mod PeerFrames
pub mod Steps
pub mod Shown
