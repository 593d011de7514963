pub mod Prices
pub mod Bounds
pub mod Intervals
