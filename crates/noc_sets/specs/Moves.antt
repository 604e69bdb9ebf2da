-- What goes through the switch of a router, by sets of channels: for each output port one input
-- channel at most.
use Rattle.std.specs.Prelude.{◌≡◌, ℕ, ◌*◌, ◌/◌, ◌^◌, ◌<◌, Bool, true, ◌&&◌, not, ◌∷◌, List, nat_eq, nat_lt, bit_and, if◌then◌else◌}
use Rattle.noc_packet.specs.Set.{has_bit}
use Rattle.noc_packet.specs.declared.packet.Flit.{Flit}
use Rattle.noc_view.specs.View.{View, size_of, view_buffer}
use Rattle.noc_sets.specs.Column.{Column, RouterMarks}
use Rattle.noc_sets.specs.Passes.{Effects}
use Rattle.noc_sets.specs.Planes.{more_than_one}
use Rattle.noc_sets.specs.Sets.{less, of_one}
use Rattle.noc_sets.specs.Turns.{first_bit}
use Rattle.noc_sets.specs.Unions.{rest_from, union_from}

-- the input channel that an output port takes, alone: of the picked channels that go by the port
-- the first in its turn
abbrev pub selected_by : ℕ → (ℕ → ℕ) → (ℕ → ℕ) → ℕ → ℕ
selected_by picked to_port port_turn q = first_bit (bit_and picked (to_port q)) (port_turn q)

abbrev pub chosen_by : ℕ → RouterMarks → ℕ → ℕ
chosen_by picked m q = selected_by picked m.to_port m.port_turn q

-- that input channel, where it takes the last credit of its output channel
abbrev pub dry_by : ℕ → (ℕ → ℕ) → ℕ → ℕ
dry_by single taken set = if nat_eq (bit_and single (of_one set taken)) 0 then 0 else set

-- the link channels with one credit at most
abbrev pub single_in : ℕ → Column → ℕ
single_in links c = less links (more_than_one c.credit)

-- the pointer of an output port is past the port of the one member of this set, or where it was
pub record HasAdvanced (vcs size set before after : ℕ) : Type 0 where
  pub stays : set ≡ 0 → after ≡ before
  pub passes : (i k : ℕ) → has_bit set i ≡ true → k < size
      → has_bit after k ≡ nat_lt (i / vcs) (k / vcs)

-- of each of so many output ports one of the picked channels moves a flit, where `tail` tells which
-- channels have a tail in front: a tail gives its channels back, and who takes the last credit is
-- supplied no more. m is before and w after it, and so are these supplied
pub record HasSwitched (vcs ports picked single : ℕ) (tail : ℕ → Bool) (m w : RouterMarks)
    (e : Effects) (old new : ℕ) : Type 0 where
  pub moved : e.moved ≡ union_from 0 ports (chosen_by picked m)
  pub out : e.out ≡ union_from 0 ports (λ q. of_one (chosen_by picked m q) m.taken)
  pub supplied : new ≡ rest_from old ports (λ q. dry_by single m.taken (chosen_by picked m q))
  pub released : (i : ℕ) → i < ports * vcs → has_bit e.released i ≡ (has_bit e.moved i && tail i)
  pub freed : (o : ℕ) → o < ports * vcs
      → has_bit e.freed o
      ≡ has_bit (union_from 0 ports
      (λ q. of_one (chosen_by picked m q) (λ i. if tail i then m.taken i else 0))) o
  pub turns : (q : ℕ) → q < ports
      → HasAdvanced vcs (ports * vcs) (chosen_by picked m q) (m.port_turn q) (w.port_turn q)
  pub to_port : (q i : ℕ) → q < ports → i < ports * vcs
      → has_bit (w.to_port q) i
      ≡ (has_bit (m.to_port q) i && not (has_bit (chosen_by picked m q) i && tail i))
  pub rest : w ≡ record m { port_turn = w.port_turn; to_port = w.to_port }
  pub released_fits : e.released < 2 ^ 64
  pub freed_fits : e.freed < 2 ^ 64

-- whether the first flit of each buffer that has one is a tail
pub record AreTails (tail : ℕ → Bool) (v : View) : Type 0 where
  pub each : (i : ℕ) (f : Flit) (rest : List Flit) → i < size_of v.site → view_buffer v i ≡ f ∷ rest
      → tail i ≡ f.last
