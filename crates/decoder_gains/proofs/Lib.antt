pub mod Plus
pub mod Sound
pub mod Free
