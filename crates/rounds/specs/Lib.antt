pub mod Rounds
pub mod Fit
