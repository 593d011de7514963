pub mod Record
pub mod Recorded
pub mod Leaders
pub mod Joining
pub mod Laws
