pub mod WrittenLemmas
pub mod AnyLemmas
