pub mod Fits
pub mod Noting
pub mod Ways
