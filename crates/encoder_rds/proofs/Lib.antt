pub mod Passes
pub mod Blocks
pub mod Free
