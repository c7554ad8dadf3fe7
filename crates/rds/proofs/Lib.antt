pub mod Codes
pub mod Groups
pub mod Claims
pub mod Free
