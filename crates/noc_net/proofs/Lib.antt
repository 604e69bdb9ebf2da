pub mod FaultLemmas
pub mod LimitLemmas
pub mod NetworkLemmas
pub mod PacketLemmas
pub mod PartsLemmas
pub mod ReaderLemmas
pub mod StoredLemmas
