pub mod Phases
pub mod Encoders
pub mod Passes
pub mod Free
