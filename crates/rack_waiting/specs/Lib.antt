pub mod Beside
pub mod Waiting
pub mod Agreed
