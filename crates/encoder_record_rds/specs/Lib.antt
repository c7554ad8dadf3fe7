pub mod EncodeRds
