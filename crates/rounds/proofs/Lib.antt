pub mod Places
pub mod Runs
pub mod Lists
pub mod InPlace
pub mod Kept
pub mod Fits
pub mod Witness
pub mod Claims
