pub mod Answers
pub mod Free
