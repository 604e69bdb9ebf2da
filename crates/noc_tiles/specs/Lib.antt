pub mod Ends
pub mod TileStep
pub mod Rings
pub mod Tiles
pub mod Partition
pub mod Phases
pub mod Prelude
pub mod Together
