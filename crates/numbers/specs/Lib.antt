pub mod Integers
pub mod Flush
