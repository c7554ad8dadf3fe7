pub mod Inside
pub mod Scan
pub mod Free
