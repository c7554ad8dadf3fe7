pub mod State
pub mod Fresh
pub mod Records
