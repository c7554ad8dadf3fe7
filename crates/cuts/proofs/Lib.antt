pub mod Digits
pub mod Free
