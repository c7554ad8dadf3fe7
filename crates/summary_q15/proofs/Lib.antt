pub mod Difference
pub mod Free
