pub mod Parts
pub mod Working
pub mod Turns
pub mod Wide
pub mod Rounds
