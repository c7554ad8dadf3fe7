pub mod Numbers
pub mod Free
