pub mod HeldLemmas
pub mod SlotLemmas
pub mod RingLemmas
pub mod BankExamples
pub mod SendLemmas
