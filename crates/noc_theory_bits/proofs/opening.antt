pub mod ListedLemmas
pub mod OpeningLemmas
pub mod OpeningWireLemmas
pub mod StartLemmas
