pub mod Words
pub mod Request
pub mod Replies
