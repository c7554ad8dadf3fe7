pub mod Quick
pub mod Free
