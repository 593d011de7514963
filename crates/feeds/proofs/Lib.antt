pub mod Records
pub mod Leads
pub mod Afters
pub mod Steps
pub mod Made
