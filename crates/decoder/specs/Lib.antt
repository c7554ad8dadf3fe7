pub mod Machine
pub mod F32
