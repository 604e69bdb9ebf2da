-- What leaves the network, and which output channels that gives back.
use Rattle.std.specs.Prelude.{◌≡◌, ℕ, ◌+◌, ◌*◌, ◌^◌, ◌<◌, Bool, ◌&&◌, List, nat_eq, if◌then◌else◌}
use Rattle.noc_packet.specs.Set.{has_bit}
use Rattle.noc_sets.specs.Unions.{union_from}
use Rattle.noc_columns.specs.Marks.{ChangesIdle}
use Rattle.noc_columns.specs.Picks.{channels_of}
use Rattle.noc_columns.specs.Supply.{digits_by, number_in}
use Rattle.noc_columns.specs.Words.{set_of, word}
use Rattle.noc_columns.specs.declared.marks.Marks.{Marks}
use Rattle.noc_columns.specs.declared.ports.RouterPorts.{RouterPorts}
use Rattle.noc_columns.specs.declared.supply.Digits.{Digits}
use Rattle.noc_columns.specs.declared.words.TheConstants.{ROUTERS}

-- whether a packet leaves the network from input channel c: its tail is the last flit there, moves,
-- and goes by the local port, where the output channel of each channel is of this port
abbrev pub leaves_from : ℕ → ℕ → ℕ → (ℕ → ℕ) → ℕ → Bool
leaves_from local moved last port c = (has_bit moved c && has_bit last c) && nat_eq (port c) local

-- these idle channels, and those by which packets leave from a set of so many input channels: each
-- of them sends by this virtual channel of the local port, whose channels stand behind so many
abbrev pub given_back : ℕ → ℕ → ℕ → ℕ → (ℕ → ℕ) → ℕ
given_back idle size links set vc =
    union_from idle size (λ c. if has_bit set c then 2 ^ (links + vc c) else 0)

-- the local output channels by which packets leave the routers of a block from these input channels
-- are idle again, and all else is as it was
pub record HasGivenBack (ports : RouterPorts) (arrived : List ℕ) (vc : Digits (List ℕ))
    (old new : Marks) : Type 0 where
  pub idle : (r : ℕ) → r < ROUTERS
      → word r new.idle
      ≡ given_back (word r old.idle) ((ports.links.width + 1) * ports.links.vcs)
      (ports.links.width * ports.links.vcs) (set_of (channels_of ports) r arrived)
      (number_in (digits_by (set_of (channels_of ports) r) vc))
  pub kept : ChangesIdle old new
