pub mod Finite
pub mod Claims
pub mod Loops
pub mod Free
