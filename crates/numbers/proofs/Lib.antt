pub mod Integers
pub mod Flush
pub mod Free
