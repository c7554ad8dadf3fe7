pub mod NumbersQ15
pub mod Free
