pub mod Cosine
pub mod Between
pub mod Free
