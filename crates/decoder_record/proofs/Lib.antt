pub mod Fresh
pub mod Free
