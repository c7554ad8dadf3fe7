pub mod Calm
pub mod Blocks
pub mod Claims
pub mod Rounds
