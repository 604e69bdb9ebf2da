pub mod Joined
pub mod Keys
pub mod Reading
pub mod Titles
pub mod Writing
