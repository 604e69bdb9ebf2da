pub mod CountedLemmas
pub mod DeviceLemmas
pub mod RequestLemmas
pub mod TellingLemmas
