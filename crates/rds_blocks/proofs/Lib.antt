pub mod Exclusive
pub mod Divide
pub mod Remainders
pub mod Checks
pub mod Free
