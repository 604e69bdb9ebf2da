-- What is on the wires of a network, as sets: of each channel three bits, a flit, whether it is a
-- tail, and a credit.
use Rattle.std.specs.Prelude.{◌≡◌, ℕ, ◌+◌, ◌*◌, ◌/◌, ◌%◌, ◌<◌, Bool, false, ◌&&◌, List, Option, Some, None, is_some, slice_index_or}
use Rattle.noc_topo.specs.Lists.{is_some_of}
use Rattle.noc_packet.specs.Set.{has_bit}
use Rattle.noc_packet.specs.declared.packet.Beat.{Beat}
use Rattle.noc_alloc.specs.Members.{MembersAreBelow}
use Rattle.noc_view.specs.States.{is_won_from}
use Rattle.noc_view.specs.View.{View, size_of, view_input, view_round, first_flit, is_tail, mover_to}
use Rattle.noc_sets.specs.Cycle.{Links}
use Rattle.noc_sets.specs.Taken.{flit_from, flit_on_vc, credit_from}

-- ---- on the wires to a router
-- by the beats on them: the input channels that a flit comes to, those that a tail comes to, and
-- the output channels that a credit comes to
pub record ShowsWires (v : View) (flits tails credits : ℕ) (beats : List Beat) : Type 0 where
  pub comes : (i : ℕ) → i < size_of v.site
      → has_bit flits i ≡ is_some (flit_from v.site.vcs 0 beats i)
  pub comes_below : MembersAreBelow (size_of v.site) flits
  pub tail_comes : (i : ℕ) → i < size_of v.site
      → has_bit tails i ≡ is_tail (flit_from v.site.vcs 0 beats i)
  pub tail_comes_below : MembersAreBelow (size_of v.site) tails
  pub returns : (o : ℕ) → o < size_of v.site → has_bit credits o ≡ credit_from v.site.vcs 0 beats o
  pub returns_below : MembersAreBelow (size_of v.site) credits

-- ---- what leaves a router
-- whether the first flit of the input channel that moves, if one does, is a tail
abbrev pub is_tail_of : View → Option ℕ → Bool
is_tail_of v None = false
is_tail_of v (Some i) = is_tail (first_flit v i)

-- these leave a router in this frozen state
pub record ShowsLeaving (v : View) (left : Links) : Type 0 where
  pub flits : (o : ℕ) → o < size_of v.site
      → has_bit left.flits o ≡ is_some (mover_to v (view_round v) o)
  pub tails : (o : ℕ) → o < size_of v.site
      → has_bit left.tails o ≡ is_tail_of v (mover_to v (view_round v) o)
  pub credits : (k : ℕ) → k < size_of v.site
      → has_bit left.credits k
      ≡ (is_some_of (slice_index_or (view_round v).picks (k / v.site.vcs) None) (k % v.site.vcs)
      && is_won_from v (view_round v) k (view_input v k).phase)

-- ---- on the wire of a link
-- by the beat that a router puts on the link of a port: of the channels of that port, those by
-- which a flit leaves, those by which a tail does, and those of which a credit goes back
pub record ShowsBeat (vcs port : ℕ) (beat : Beat) (left : Links) : Type 0 where
  pub flits : (vc : ℕ) → vc < vcs
      → has_bit left.flits (port * vcs + vc) ≡ is_some (flit_on_vc vc beat.flit)
  pub tails : (vc : ℕ) → vc < vcs
      → has_bit left.tails (port * vcs + vc) ≡ is_tail (flit_on_vc vc beat.flit)
  pub credits : (vc : ℕ) → vc < vcs
      → has_bit left.credits (port * vcs + vc) ≡ is_some_of beat.credit vc
