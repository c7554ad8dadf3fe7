pub mod Multiplex
