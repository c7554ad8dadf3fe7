pub mod Beside
pub mod Loops
pub mod Answers
pub mod Agreement
pub mod Free
