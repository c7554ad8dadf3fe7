pub mod Early
pub mod Samples
pub mod Level
pub mod Kept
pub mod Free
