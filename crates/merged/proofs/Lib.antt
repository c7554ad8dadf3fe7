pub mod InPlace
pub mod Merges
pub mod Free
