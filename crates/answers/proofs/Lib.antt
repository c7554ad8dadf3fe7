pub mod Samples
pub mod Passes
pub mod Causes
pub mod Tests
pub mod Whole
pub mod Free
