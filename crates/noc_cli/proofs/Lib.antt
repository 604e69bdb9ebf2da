pub mod CommandLemmas
pub mod SaidLemmas
