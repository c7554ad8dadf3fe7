pub mod Quiet
pub mod Rounds
