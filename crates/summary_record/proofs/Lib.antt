pub mod Fits
pub mod Sign
pub mod Negative
pub mod Free
