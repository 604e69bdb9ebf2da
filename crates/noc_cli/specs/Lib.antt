pub mod Args
pub mod CommandLine
