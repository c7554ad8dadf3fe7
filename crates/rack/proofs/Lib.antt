pub mod Free
pub mod Absent
