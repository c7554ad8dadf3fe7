pub mod Loops
pub mod Steps
pub mod Blocks
pub mod Free
