pub mod Functions
pub mod Witness
pub mod Demand
