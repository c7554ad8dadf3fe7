pub mod Cores
pub mod Callable
