pub mod ControlLaws
pub mod FrameLaws
pub mod ResultLaws
pub mod EventLaws
pub mod HoldingLaws
pub mod ReceivingLaws
pub mod TakenLaws
