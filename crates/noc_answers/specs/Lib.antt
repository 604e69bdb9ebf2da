pub mod Answered
pub mod Arriving
pub mod Prelude
