pub mod LinkLemmas
pub mod WireLemmas
