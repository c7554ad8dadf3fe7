pub mod Q15
