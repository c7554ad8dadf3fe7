pub mod Answer
pub mod Coded
pub mod Samples
