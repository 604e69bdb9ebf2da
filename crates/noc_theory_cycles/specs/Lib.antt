pub mod Fits
pub mod Blank
pub mod Granted
pub mod Nodes
pub mod Firsts
pub mod Steps
