pub mod Model
pub mod Steps
pub mod Journey
pub mod Sound
pub mod View
