pub mod Mails
pub mod Rounds
pub mod Workers
pub mod Cuts
pub mod Prelude
