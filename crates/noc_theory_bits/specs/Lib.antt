pub mod Owners
pub mod Wires
pub mod Network
pub mod Starts
pub mod Sends
