pub mod Counted
pub mod Ending
pub mod Requests
pub mod Telling
pub mod Version
