pub mod Belows
pub mod Listed
pub mod Wholes
pub mod Sums
pub mod Falls
pub mod Fills
pub mod Risings
