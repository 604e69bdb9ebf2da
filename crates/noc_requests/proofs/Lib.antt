pub mod EndingLemmas
pub mod AskedLemmas
pub mod CheckLemmas
pub mod FaultLemmas
