pub mod Table
pub mod Groups
pub mod Joined
pub mod Swing
pub mod Laws
