pub mod Free
pub mod Wideless
