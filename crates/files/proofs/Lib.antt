pub mod Bytes
pub mod Elements
pub mod Frames
pub mod Pieces
