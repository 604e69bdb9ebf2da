-- What goes through the switch of one router, port by port.
use Rattle.std.specs.Prelude.{◌≡◌, ℕ, ◌+◌, ◌*◌, ◌/◌, ◌%◌, ◌^◌, ◌<◌, Bool, true, false, ◌&&◌, List, nat_eq, nat_lt, if◌then◌else◌}
use Rattle.noc_packet.specs.Set.{has_bit}
use Rattle.noc_alloc.specs.Members.{MembersAreBelow}
use Rattle.noc_sets.specs.Column.{RouterMarks}
use Rattle.noc_sets.specs.Moves.{chosen_by}
use Rattle.noc_sets.specs.Passes.{Effects}
use Rattle.noc_sets.specs.Sets.{less}
use Rattle.noc_sets.specs.Turns.{first_bit, in_turn}
use Rattle.noc_sets.specs.Unions.{some_below}
use Rattle.noc_columns.specs.Supply.{digits_by, number_in}
use Rattle.noc_columns.specs.Picks.{output_of, port_of}
use Rattle.noc_columns.specs.Words.{set_below, set_of, word}
use Rattle.noc_columns.specs.declared.ports.RouterPorts.{RouterPorts}
use Rattle.noc_columns.specs.declared.picks.Picks.{Picks}
use Rattle.noc_columns.specs.declared.channels.Decided.{Decided}
use Rattle.noc_columns.specs.declared.channels.Links.{Links}
use Rattle.noc_columns.specs.declared.words.TheConstants.{ROUTERS}

-- what the input ports pick: whether they do, and of the picked channel whether it has a tail in
-- front, and the port and the virtual channel of its output channel
pub record PortPicks : Type 0 where
  pub any : ℕ → Bool
  pub tail : ℕ → Bool
  pub port : ℕ → ℕ
  pub vc : ℕ → ℕ

-- what the input ports of router r of a block pick
abbrev pub picks_in : Picks → ℕ → PortPicks
picks_in picks r = record {
  any = λ p. has_bit (word p picks.any) r;
  tail = λ p. has_bit (word p picks.tail) r;
  port = λ p. number_in (digits_by (word p) picks.port) r;
  vc = λ p. number_in (digits_by (word p) picks.vc) r;
}

-- each picked channel sends by a virtual channel that a port has
abbrev pub PickVcs : RouterPorts → Picks → Type 0
PickVcs ports picks =
    (r p : ℕ) → r < ROUTERS → p < ports.links.width + 1 → (picks_in picks r).any p ≡ true
    → (picks_in picks r).vc p < ports.links.vcs

-- the input ports that ask for output port q: those whose picked channel sends by it
abbrev pub asks_for : ℕ → PortPicks → ℕ → ℕ
asks_for ports picks q = set_below ports (λ p. picks.any p && nat_eq (picks.port p) q)

-- the one that it takes: the first from its pointer on and around
abbrev pub taken_by : ℕ → PortPicks → (ℕ → ℕ) → ℕ → ℕ
taken_by ports picks ahead q = first_bit (asks_for ports picks q) (ahead q)

-- the one that it takes in router r of a block
abbrev pub taken_in : RouterPorts → Picks → List ℕ → ℕ → ℕ → ℕ
taken_in ports picks ahead r q =
    taken_by (ports.links.width + 1) (picks_in picks r) (λ o. set_of (output_of ports o) r ahead) q

-- each output port takes one of the input ports that ask for it, and its pointer goes past that
-- port; these input ports send, and flits and tails leave by these channels of links. (The last
-- port is the local one.)
pub record HasTraversed (ports vcs : ℕ) (picks : PortPicks) (ahead after : ℕ → ℕ)
    (sends flits tails : ℕ → ℕ → Bool) : Type 0 where
  pub turns : (q p : ℕ) → q < ports → p < ports
      → has_bit (after q) p
      ≡ (if nat_eq (asks_for ports picks q) 0
      then has_bit (ahead q) p
      else some_below p (has_bit (in_turn (asks_for ports picks q) (ahead q))))
  pub sending : (p v : ℕ) → p < ports → v < vcs
      → sends p v ≡ some_below ports (λ q. has_bit (taken_by ports picks ahead q) p)
  pub goes : (q p v : ℕ) → q + 1 < ports → v < vcs → has_bit (taken_by ports picks ahead q) p ≡ true
      → (flits q v ≡ nat_eq (picks.vc p) v) × (tails q v ≡ (nat_eq (picks.vc p) v && picks.tail p))
  pub none : (q v : ℕ) → q + 1 < ports → v < vcs → nat_eq (asks_for ports picks q) 0 ≡ true
      → (flits q v ≡ false) × (tails q v ≡ false)

-- through the switch of router r of a block goes what these ports pick, where these are the
-- pointers of the output ports before and after
abbrev pub Traverses : RouterPorts → Picks → List ℕ → List ℕ → List ℕ → Links (List ℕ) → ℕ → Type 0
Traverses ports picks ahead after sends left r =
    HasTraversed (ports.links.width + 1) ports.links.vcs (picks_in picks r)
    (λ q. set_of (output_of ports q) r ahead) (λ q. set_of (output_of ports q) r after)
    (λ p. has_bit (set_of (port_of ports p) r sends))
    (λ q. has_bit (set_of (port_of ports q) r left.flits))
    (λ q. has_bit (set_of (port_of ports q) r left.tails))

-- what the ports of a block pick goes through its switches, and all else stays
pub record TraversesAll (ports : RouterPorts) (picks : Picks) (ahead after : List ℕ)
    (old new : Decided (List ℕ)) (was gone : Links (List ℕ)) : Type 0 where
  pub traversed : (r : ℕ) → Traverses ports picks ahead after new.sends gone r
  pub decided : new ≡ record old { sends = new.sends }
  pub left : gone.credits ≡ was.credits

-- what leaves by virtual channel v of output port q: by a link what is told, and by the local port,
-- which is the last, what is taken and passes a test
abbrev pub leaves_by : ℕ → PortPicks → (ℕ → ℕ) → (ℕ → Bool) → (ℕ → ℕ → Bool) → ℕ → ℕ → Bool
leaves_by ports picks ahead test told q v =
    if nat_lt (q + 1) ports
    then told q v
    else some_below ports
    (λ p. has_bit (taken_by ports picks ahead q) p && (nat_eq (picks.vc p) v && test p))

-- ---- of the marks of a router
-- all channels of these ports
abbrev pub channels_at : ℕ → ℕ → ℕ → ℕ
channels_at ports vcs set = set_below (ports * vcs) (λ c. has_bit set (c / vcs))

-- channel i, which port p picks, has what the picks say of the port
pub record ShowsPick (ports vcs p i : ℕ) (is_tail : ℕ → Bool) (m : RouterMarks) (picks : PortPicks)
    : Type 0 where
  pub any : picks.any p ≡ true
  pub tail : picks.tail p ≡ is_tail i
  pub port : picks.port p < ports
  pub vc : picks.vc p < vcs
  pub taken : m.taken i ≡ 2 ^ (picks.port p * vcs + picks.vc p)
  pub to_port : (q : ℕ) → q < ports → has_bit (m.to_port q) i ≡ nat_eq (picks.port p) q

-- the ports pick these channels, each one at most
pub record ShowsPicks (ports vcs picked : ℕ) (is_tail : ℕ → Bool) (m : RouterMarks)
    (picks : PortPicks) : Type 0 where
  pub each : (p v : ℕ) → p < ports → v < vcs → has_bit picked (p * vcs + v) ≡ true
      → ShowsPick ports vcs p (p * vcs + v) is_tail m picks
  pub some : (p : ℕ) → p < ports → picks.any p ≡ true
      → (v : ℕ) × (v < vcs) × (has_bit picked (p * vcs + v) ≡ true)
  pub alone : (p v w : ℕ) → p < ports → v < vcs → w < vcs → has_bit picked (p * vcs + v) ≡ true
      → has_bit picked (p * vcs + w) ≡ true → w ≡ v
  pub below : MembersAreBelow (ports * vcs) picked

-- the marks of these channels show by which output channels they send
pub record ShowsSends (ports vcs picked : ℕ) (out_port out_vc : ℕ → ℕ) (m : RouterMarks)
    : Type 0 where
  pub port : (i : ℕ) → has_bit picked i ≡ true → out_port i < ports
  pub vc : (i : ℕ) → has_bit picked i ≡ true → out_vc i < vcs
  pub taken : (i : ℕ) → has_bit picked i ≡ true → m.taken i ≡ 2 ^ (out_port i * vcs + out_vc i)
  pub to_port : (i q : ℕ) → has_bit picked i ≡ true → q < ports
      → has_bit (m.to_port q) i ≡ nat_eq (out_port i) q

-- these input ports are at or after the pointers of the output ports
abbrev pub ShowsOutputs : ℕ → ℕ → (ℕ → ℕ) → RouterMarks → Type 0
ShowsOutputs ports vcs ahead m =
    (q : ℕ) → q < ports → m.port_turn q ≡ channels_at ports vcs (ahead q)

-- the marks after the switch: pointers are these, and who sends a tail owns no channel
abbrev pub switched_marks : ℕ → ℕ → ℕ → (ℕ → Bool) → (ℕ → ℕ) → RouterMarks → RouterMarks
switched_marks ports vcs picked tail after m = record m {
  port_turn = λ q. channels_at ports vcs (after q);
  to_port = λ q. less (m.to_port q)
      (set_below (ports * vcs) (λ i. has_bit (chosen_by picked m q) i && tail i));
}

-- what moves, and leaves
abbrev pub switched_effects : ℕ → ℕ → ℕ → (ℕ → Bool) → (ℕ → ℕ → Bool) → (ℕ → ℕ → Bool)
    → (ℕ → ℕ → Bool) → Effects → Effects
switched_effects ports vcs picked tail sends flits tails e = record e {
  moved = set_below (ports * vcs) (λ i. has_bit picked i && sends (i / vcs) (i % vcs));
  out = set_below (ports * vcs) (λ o. flits (o / vcs) (o % vcs));
  released = set_below (ports * vcs)
      (λ i. (has_bit picked i && sends (i / vcs) (i % vcs)) && tail i);
  freed = set_below (ports * vcs) (λ o. tails (o / vcs) (o % vcs));
}
