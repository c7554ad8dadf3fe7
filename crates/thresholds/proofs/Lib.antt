pub mod Compare
pub mod Rising
pub mod Tenths
pub mod F32
pub mod Q15
