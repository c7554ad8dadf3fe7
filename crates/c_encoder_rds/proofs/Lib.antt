pub mod NumbersRds
pub mod Free
