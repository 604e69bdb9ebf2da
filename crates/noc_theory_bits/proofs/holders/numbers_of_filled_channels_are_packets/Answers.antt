use Rattle.noc_theory_bits.proofs.bits.KnownLemmas.{filled-known}
use Rattle.noc_theory_bits.proofs.holders.numbers_of_filled_channels_are_packets.Goals as goal

pub returns : goal.returns
returns c = filled-known
