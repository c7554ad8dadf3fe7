pub mod Cut
pub mod Pattern
