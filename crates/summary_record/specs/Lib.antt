pub mod Record
pub mod F32
pub mod Q15
