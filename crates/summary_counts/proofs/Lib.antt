pub mod Fits
pub mod Free
