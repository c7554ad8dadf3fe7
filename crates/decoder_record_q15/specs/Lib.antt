pub mod Fit
pub mod Fresh
pub mod Records
