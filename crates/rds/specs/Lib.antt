pub mod Coding
pub mod Former
pub mod Claims
