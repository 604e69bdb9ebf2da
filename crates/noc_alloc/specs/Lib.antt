pub mod Arbiter
pub mod Allocation
pub mod Steps
pub mod Switch
pub mod Members
pub mod Requests
