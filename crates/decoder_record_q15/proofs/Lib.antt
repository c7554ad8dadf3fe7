pub mod Ranges
pub mod Fit
pub mod Held
pub mod Fresh
pub mod Free
