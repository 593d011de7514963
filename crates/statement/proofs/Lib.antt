pub mod Lists
pub mod Kept
pub mod Theorem
pub mod Order
