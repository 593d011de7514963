pub mod Parts
pub mod Falls
