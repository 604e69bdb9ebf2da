-- The words of ports, and which of their channels are in turn and picked.
use Rattle.std.specs.Prelude.{◌≡◌, ℕ, ◌+◌, ◌*◌, ◌/◌, ◌%◌, ◌<◌, Bool, true, false, List, nat_eq, nat_lt, not, slice_index, if◌then◌else◌}
use Rattle.noc_packet.specs.Set.{has_bit}
use Rattle.noc_sets.specs.Sets.{less}
use Rattle.noc_sets.specs.Turns.{first_bit, in_turn}
use Rattle.noc_sets.specs.Unions.{some_below}
use Rattle.noc_columns.specs.Supply.{digits_by, number_in}
use Rattle.noc_columns.specs.Words.{Numbering, set_of, word}
use Rattle.noc_columns.specs.declared.channels.Decided.{Decided}
use Rattle.noc_columns.specs.declared.channels.Standing.{Standing}
use Rattle.noc_columns.specs.declared.ports.Ports.{Ports}
use Rattle.noc_columns.specs.declared.ports.RouterPorts.{RouterPorts}
use Rattle.noc_columns.specs.declared.supply.Digits.{Digits}
use Rattle.noc_columns.specs.declared.supply.Sends.{Sends}
use Rattle.noc_columns.specs.declared.picks.Picks.{Picks}
use Rattle.noc_columns.specs.declared.words.TheConstants.{ROUTERS}

-- the virtual channels of port j of those that stand side by side
abbrev pub port_at : Ports → ℕ → Numbering
port_at ports j = record { size = ports.vcs; index = λ v. ports.first + v * ports.width + j }

-- all channels of these ports
abbrev pub links_of : Ports → Numbering
links_of ports = record {
  size = ports.width * ports.vcs;
  index = λ c. (port_at ports (c / ports.vcs)).index (c % ports.vcs);
}

-- the virtual channels of port p of a router, of which the local port is the last
abbrev pub port_of : RouterPorts → ℕ → Numbering
port_of ports p = record {
  size = ports.links.vcs;
  index = λ v. if nat_lt p ports.links.width then (port_at ports.links p).index v
      else (port_at ports.local 0).index v;
}

-- the words of output port q in a switch: one for each input port
abbrev pub output_of : RouterPorts → ℕ → Numbering
output_of ports q = record {
  size = ports.links.width + 1;
  index = λ p. if nat_lt q ports.links.width then p * ports.links.width + q
      else (ports.links.width + 1) * ports.links.width + p;
}

-- all its channels
abbrev pub channels_of : RouterPorts → Numbering
channels_of ports = record {
  size = (ports.links.width + 1) * ports.links.vcs;
  index = λ c. (port_of ports (c / ports.links.vcs)).index (c % ports.links.vcs);
}

-- the routers in which a channel is in turn, where these have one at or after the pointer: it is
-- ready, and at or after the pointer, unless there is no such one
abbrev pub turn_word : ℕ → ℕ → ℕ → ℕ
turn_word first ready ahead = less ready (less first ahead)

-- each of these channels sends by a virtual channel that a port has
abbrev pub SendByVcs : RouterPorts → List ℕ → Digits (List ℕ) → Type 0
SendByVcs ports set vc =
    (r i : ℕ) → r < ROUTERS → has_bit (set_of (channels_of ports) r set) i ≡ true
    → number_in (digits_by (set_of (channels_of ports) r) vc) i < ports.links.vcs

-- of a port the first channel in turn is picked, and these are past it
pub record IsPicked (n : Numbering) (r : ℕ) (ready ahead picked past : List ℕ) : Type 0 where
  pub first : set_of n r picked ≡ first_bit (set_of n r ready) (set_of n r ahead)
  pub after : (c : ℕ) → c < n.size
      → has_bit (set_of n r past) c
      ≡ some_below c (has_bit (in_turn (set_of n r ready) (set_of n r ahead)))

-- of a port a channel is picked, and the port may send where it has a ready one, which all its
-- channels are told
pub record IsPassedBy (n : Numbering) (r : ℕ) (ready ahead picked past sends : List ℕ)
    (sending : Bool) : Type 0 where
  pub picks : IsPicked n r ready ahead picked past
  pub told : (c : ℕ) → c < n.size → has_bit (set_of n r sends) c ≡ sending
  pub some : sending ≡ true → nat_eq (set_of n r ready) 0 ≡ false

-- port p of router r picks channel c, which has what `picks` says of the port
pub record HasPick (n : Numbering) (r p c : ℕ) (last : List ℕ) (sends : Sends (List ℕ))
    (picks : Picks) : Type 0 where
  pub any : has_bit (word p picks.any) r ≡ true
  pub tail : has_bit (word p picks.tail) r ≡ has_bit (set_of n r last) c
  pub port : number_in (digits_by (word p) picks.port) r
      ≡ number_in (digits_by (set_of n r) sends.port) c
  pub vc : number_in (digits_by (word p) picks.vc) r ≡ number_in (digits_by (set_of n r) sends.vc) c

-- the ports of router r pick these channels of the ready ones, and `picks` says of each port
-- whether it picks one, and what that has
pub record HavePicked (ports : RouterPorts) (r : ℕ) (ready ahead picked past last : List ℕ)
    (sends : Sends (List ℕ)) (picks : Picks) : Type 0 where
  pub first : (p : ℕ) → p < ports.links.width + 1
      → IsPicked (port_of ports p) r ready ahead picked past
  pub has : (p c : ℕ) → p < ports.links.width + 1 → c < ports.links.vcs
      → has_bit (set_of (port_of ports p) r picked) c ≡ true
      → HasPick (port_of ports p) r p c last sends picks
  pub any : (p : ℕ) → p < ports.links.width + 1
      → has_bit (slice_index picks.any p) r ≡ not (nat_eq (set_of (port_of ports p) r ready) 0)

-- the ports of a block pick of the channels that can do this, and what else is decided stays
pub record PicksAll (ports : RouterPorts) (standing : Standing (List ℕ)) (ahead : List ℕ)
    (sends : Sends (List ℕ)) (old new : Decided (List ℕ)) (picks : Picks) : Type 0 where
  pub picked : (r : ℕ)
      → HavePicked ports r standing.ready ahead new.picked new.past standing.last sends picks
  pub rest : new ≡ record old { picked = new.picked; past = new.past }
