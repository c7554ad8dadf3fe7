pub mod Events
pub mod Calls
pub mod Demand
pub mod Periods
pub mod Summaries
