pub mod Cells
pub mod Sums
pub mod Gathers
pub mod Connects
pub mod Orders
pub mod Extremes
