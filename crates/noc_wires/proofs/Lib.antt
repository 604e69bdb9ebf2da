pub mod BelowLemmas
pub mod RoomLemmas
