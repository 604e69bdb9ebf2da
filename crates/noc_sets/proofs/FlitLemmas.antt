-- Flits come, and are injected.
use Rattle.std.proofs.Common.{◌≡◌, ℕ, ◌+◌, ◌^◌, ◌<◌, Bool, true, false, List, [], ◌∷◌, length, Option, Some, None, refl, ap, sym, ◌∙◌, arith, bit_or, length-append}
use Rattle.std.specs.Prelude.{◌&&◌, ◌||◌, not, is_some, nat_lt, nat_eq, nat_le, if◌then◌else◌}
use Rattle.std.proofs.lemmas.Bool.{lt-ltb, le-ltb}
use Rattle.noc_topo.specs.Lists.{one_if}
use Rattle.noc_packet.specs.Set.{has_bit}
use Rattle.noc_packet.specs.declared.packet.Flit.{Flit}
use Rattle.noc_packet.proofs.SetLemmas.{either_members}
use Rattle.noc_vc.specs.Input.{Input, is_empty}
use Rattle.noc_sets.specs.Planes.{plane_number, any_from}
use Rattle.noc_sets.specs.Taken.{with_one, landed_by}
use Rattle.noc_sets.specs.Column.{Column}
use Rattle.noc_sets.specs.Passes.{lane_begins, lane_free}
use Rattle.noc_sets.proofs.MemberLemmas.{less_fits, less_members, or-false}
use Rattle.noc_sets.proofs.PlaneLemmas.{filled-members}

pub with-one-length : (flits : List Flit) (f : Option Flit) → length (with_one flits f) ≡ length flits + one_if (is_some f)
with-one-length flits None = omega arith
with-one-length flits (Some f) = length-append flits (f ∷ [])

pub empty-length : (flits : List Flit) → nat_lt 0 (length flits) ≡ not (is_empty flits)
empty-length [] = le-ltb 0 0 (omega arith)
empty-length (f ∷ flits) = lt-ltb 0 (length (f ∷ flits)) (omega arith)

pub with-one-empty : (flits : List Flit) (f : Option Flit) → not (is_empty (with_one flits f)) ≡ (not (is_empty flits) || is_some f)
with-one-empty flits None = sym (or-false (not (is_empty flits)))
with-one-empty [] (Some f) = refl
with-one-empty (g ∷ flits) (Some f) = refl

pub phase-kept : (input : Input) (f : Option Flit) → (landed_by input f).phase ≡ input.phase
phase-kept input None = refl
phase-kept input (Some f) = refl

-- the local channels that hold nothing
pub free-members : (c : Column) (local i : ℕ)
    → has_bit (lane_free local c) i ≡ (has_bit local i && not ((has_bit c.waiting i || has_bit c.active i) || nat_lt 0 (plane_number c.len i)))
free-members c local i =
    less_members local (bit_or (bit_or c.waiting c.active) (any_from 0 c.len)) i
    ∙ ap (λ b. has_bit local i && not b)
    (either_members (bit_or c.waiting c.active) (any_from 0 c.len) i ∙ ap (λ b. b || has_bit (any_from 0 c.len) i) (either_members c.waiting c.active i) ∙ ap (λ b. (has_bit c.waiting i || has_bit c.active i) || b) (filled-members c.len i))

pub begins_fits : (local cycle due : ℕ) (c : Column) → local < 2 ^ 64 → lane_begins local cycle due c < 2 ^ 64
begins_fits local cycle due c fits = at (nat_le due cycle && nat_eq c.injecting 0)
  where
    at : (b : Bool) → (if b then lane_free local c else 0) < 2 ^ 64
    at true = less_fits local (bit_or (bit_or c.waiting c.active) (any_from 0 c.len)) fits
    at false = omega arith
