pub mod Notices
pub mod Kinds
pub mod Parts
pub mod Texts
pub mod Reading
pub mod Writing
pub mod Laws
