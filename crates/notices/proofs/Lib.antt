pub mod Stretches
pub mod Notes
pub mod Printed
