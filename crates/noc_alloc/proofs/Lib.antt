pub mod WordLemmas
pub mod ArbiterLemmas
pub mod SwitchLemmas
pub mod OfferLemmas
pub mod RequestLemmas
pub mod RoundExamples
