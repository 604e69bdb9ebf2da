pub mod ByNode
pub mod Packet
pub mod Set
