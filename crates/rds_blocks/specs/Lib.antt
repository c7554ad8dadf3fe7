pub mod Division
pub mod Blocks
