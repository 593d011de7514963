pub mod Journal
pub mod Formulas
pub mod Balanced
pub mod Joining
