use Rattle.std.proofs.Common.{◌≡◌, ℕ, true, bit_or}
use Rattle.std.specs.Prelude.{nat_eq, if◌then◌else◌}
use Rattle.noc_packet.specs.Set.{has_bit}
use Rattle.noc_sets.specs.Sets.{less}
use Rattle.noc_columns.specs.Picks.{channels_of}
use Rattle.noc_columns.specs.Words.{set_of}
use Rattle.noc_columns.proofs.channel_table.ChannelTable.put.Given as goal

abbrev pub invariant-loop-rest : goal.invariant-loop-rest
invariant-loop-rest l = record {
  part : (k : ℕ) → has_bit l.rest k ≡ true → has_bit l.set k ≡ true;
  done : (r : ℕ) → set_of (channels_of l.self.ports) r l.words
      ≡ (if nat_eq r l.router then bit_or (set_of (channels_of l.self.ports) r l.fn.words) (less l.set l.rest) else set_of (channels_of l.self.ports) r l.fn.words);
}

abbrev pub decreases-loop-rest : goal.decreases-loop-rest
decreases-loop-rest l = l.rest
