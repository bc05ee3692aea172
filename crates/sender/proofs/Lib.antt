pub mod EventLaws
pub mod EventTheorems
