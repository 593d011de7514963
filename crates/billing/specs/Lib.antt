pub mod Month
pub mod Credits
pub mod Shares
pub mod Dues
pub mod Notes
pub mod Standing
pub mod Run
