pub mod Twice
pub mod Blocks
pub mod Bs450
pub mod Free
