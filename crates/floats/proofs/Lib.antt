pub mod Floats
pub mod Narrow
pub mod Ints
pub mod Free
