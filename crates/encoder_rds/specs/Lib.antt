pub mod MultiplexRds
