pub mod Counting
pub mod Free
