pub mod NumbersNco
pub mod Free
