pub mod ComeLemmas
pub mod LandFlitLemmas
pub mod LandInputLemmas
pub mod LandLemmas
pub mod LandOutputLemmas
pub mod TakeAllLemmas
pub mod TakeLemmas
pub mod TakePortLemmas
