pub mod Ways
pub mod Reached
pub mod Falls
