-- Whether something came to a router or was injected before its verdicts, by its words.
use Rattle.std.proofs.Common.{◌≡◌, ◌≢◌, ℕ, ◌+◌, ◌^◌, ◌<◌, ◌≤◌, Bool, true, false, List, [], ◌∷◌, ◌++◌, Option, Some, None, refl, ap, ap₂, sym, ◌∙◌, subst, arith, inl, inr, bit_or}
use Rattle.std.specs.Prelude.{◌⊎◌, ◌&&◌, ◌||◌, not, is_some, nat_eq}
use Rattle.std.proofs.lemmas.Nat.{le_or_l, le_or_r}
use Rattle.noc_vc.specs.Output.{credit_fits_at, output_with_credit}
use Rattle.noc_sets.specs.Passes.{lane_landed}
use Rattle.noc_sets.specs.Taken.{credited_by}
use Rattle.noc_sets.proofs.MemberLemmas.{either-zero}
use Rattle.noc_sets.specs.Cycle.{came_in}
use Rattle.noc_theory_bits.proofs.Common.{cases_eq, eq-eqb, false≢true, ne_eqb, same_Some, nodes, has_bit, Flit, zero_from_none, Output, credit_fits, output_after_credit, View, view_after_takes, size_of, view_buffer, view_output, CYCLE_LIMIT, IsGoodSetup, beats_in, view_at, view_in, beats_at, Setup, state_at, lowest, injection_in, AreOwners, lane_begins, lane_injected, lane_raised, Start, credit_from, flit_from, with_one, Router, IsLayoutOf, Layout, ShowsWires, ShowsRouter}
use Rattle.noc_theory_bits.proofs.routers.InjectLemmas.{HasSent}
use Rattle.noc_theory_bits.proofs.routers.CameLemmas.{injected-event, taken-quiet, went-some}
use Rattle.noc_theory_bits.proofs.network.NetworkLemmas.{beats, beats-taken, frozen_view, taken-seen, taken_view}
use Rattle.noc_theory_bits.proofs.routers.SilentLemmas.{all-silent, words-silent}
use Rattle.noc_theory_bits.proofs.bits.FreezeLemmas.{worded-sent, low}

-- something came or was injected where one of four words has a member
any-of-four : (a j b d : Bool) → (not (a && d) || not (j && b)) ≡ not (((a && j) && b) && d)
any-of-four false j b d = refl
any-of-four true false b false = refl
any-of-four true false b true = refl
any-of-four true true false false = refl
any-of-four true true false true = refl
any-of-four true true true false = refl
any-of-four true true true true = refl

longer : (flits : List Flit) (f : Flit) → flits ≡ flits ++ f ∷ [] → ⊥
longer [] f e = cc e
longer (g ∷ flits) f e = longer flits f (ap tail e)
  where
    tail : List Flit → List Flit
    tail [] = []
    tail (x ∷ xs) = xs

-- a channel to which a credit came has one more
raised-credit : (o : Output) → credit_fits o ≡ true → o ≡ output_after_credit o → ⊥
raised-credit o fits same = at o.credit refl
  where
    at : (credit : Option ℕ) → o.credit ≡ credit → ⊥
    at None e = false≢true (sym (ap (credit_fits_at o.depth) e) ∙ fits)
    at (Some n) e =
        let more : Some n ≡ Some (n + 1) = sym e ∙ ap (λ (x : Output). x.credit) same ∙ ap (λ (c : Option ℕ). (output_with_credit o c).credit) e in
        let m : n ≡ n + 1 = same_Some n (n + 1) more in
        omega (arith, m)

module _ (net : Setup) (setup : IsGoodSetup net) (n r : ℕ) (l : r < nodes net.relation.grid) (few : n < CYCLE_LIMIT) where
  abbrev v : View
  v = view_at net n r

  abbrev w : View
  w = view_after_takes net.relation (beats net setup n r l) (view_at net n r)

  no-event-yet : (view_at net n r).had_event ≡ false
  unfolding view_at view_in
  no-event-yet = refl

  -- beats that are no event change nothing
  pub all-quiet : w.had_event ≡ false → w ≡ view_at net n r
  unfolding view_after_takes
  all-quiet e = taken-quiet net.relation 0 (beats net setup n r l) (view_at net n r) e (taken-seen net setup n r l).seen.misfits

  module _ (flits tails credits : ℕ) (wires : ShowsWires (view_at net n r) flits tails credits (beats net setup n r l)) where
    pub nothing-comes : w ≡ view_at net n r → flits ≡ 0
    nothing-comes same = zero_from_none flits (λ i. at i (has_bit flits i) refl)
      where
        at : (i : ℕ) (b : Bool) → has_bit flits i ≡ b → has_bit flits i ≡ false
        at i true e = absurd (by (flit_from v.site.vcs 0 (beats net setup n r l) i) refl)
          where
            within : i < size_of v.site
            within = wires.comes_below i e

            by : (o : Option Flit) → flit_from v.site.vcs 0 (beats net setup n r l) i ≡ o → ⊥
            by None q = false≢true (sym (ap is_some q) ∙ sym (wires.comes i within) ∙ e)
            by (Some f) q =
                longer (view_buffer v i) f
                (sym (ap (λ (y : View). view_buffer y i) same) ∙ (beats-taken net setup n r l few).buffer i within ∙ ap (with_one (view_buffer v i)) q)
        at i false e = e

    pub nothing-returns : w ≡ view_at net n r → credits ≡ 0
    nothing-returns same = zero_from_none credits (λ o. at o (has_bit credits o) refl)
      where
        at : (o : ℕ) (b : Bool) → has_bit credits o ≡ b → has_bit credits o ≡ false
        at o true e =
            let within : o < size_of v.site = wires.returns_below o e in
            let comes : credit_from v.site.vcs 0 (beats net setup n r l) o ≡ true = sym (wires.returns o within) ∙ e in
            absurd (raised-credit (view_output v o) ((beats-taken net setup n r l few).credits o within comes)
            (sym (ap (λ (y : View). view_output y o) same) ∙ (beats-taken net setup n r l few).output o within ∙ ap (credited_by (view_output v o)) comes))
        at o false e = e

    -- beats that carry something are an event
    taken-event : w.had_event ≡ not (nat_eq (bit_or flits credits) 0)
    taken-event = by w.had_event refl
      where
        by : (b : Bool) → w.had_event ≡ b → w.had_event ≡ not (nat_eq (bit_or flits credits) 0)
        by false e =
            let same = all-quiet e in
            e ∙ sym (ap not (eq-eqb (bit_or flits credits) 0 (ap₂ (λ x y. bit_or x y) (nothing-comes same) (nothing-returns same))))
        by true e = e ∙ sym (ap not (some (cases_eq (bit_or flits credits) 0)))
          where
            some : (bit_or flits credits ≡ 0) ⊎ (bit_or flits credits ≢ 0) → nat_eq (bit_or flits credits) 0 ≡ false
            some (inl none) =
                let a : flits ≤ bit_or flits credits = le_or_l flits credits in
                let b : credits ≤ bit_or flits credits = le_or_r flits credits in
                let no_flit : flits ≡ 0 = omega (arith, none, a) in
                let no_credit : credits ≡ 0 = omega (arith, none, b) in
                let silent = words-silent net setup n r l tails
                (subst (λ c. ShowsWires (view_at net n r) 0 tails c (beats net setup n r l)) no_credit (subst (λ f. ShowsWires (view_at net n r) f tails credits (beats net setup n r l)) no_flit wires)) in
                absurd (false≢true (sym no-event-yet ∙ sym (ap (λ (y : View). y.had_event) (all-silent net.relation (beats net setup n r l) v silent)) ∙ e))
            some (inr other) = ne_eqb (bit_or flits credits) 0 other

-- whether something came to router r or was injected, by its words
module _ {count : ℕ} (net : Setup) (setup : IsGoodSetup net) (n r : ℕ) (l : r < nodes net.relation.grid) (starts : List Start) (b : Router) (shows : ShowsRouter count net n r starts b) (few : n < CYCLE_LIMIT) (layout : Layout) (up : ℕ)
    (is_layout : IsLayoutOf count net.relation net.depth layout)
    (ups : AreOwners (lane_raised b.links.credits b.column) b.marks.owner up) (up_fits : up < 2 ^ 64) where
  abbrev u : View
  u = record (taken_view net setup n r l) { given = n }

  abbrev begins : ℕ
  begins = lane_begins layout.local n b.source.due b.column

  abbrev went : ℕ
  went = bit_or (lane_injected layout.places b.column) (lowest (lane_begins layout.local n b.source.due b.column))

  pub came-event : (frozen_view net setup n r l).had_event ≡ not (nat_eq (came_in layout n b) 0)
  came-event =
      injected-event n (taken_view net setup n r l)
      ∙ ap₂ (λ a b. a || b) (taken-event net setup n r l few b.links.flits b.links.tails b.links.credits shows.wires)
      (went-some u went (injection_in n (taken_view net setup n r l)) goes.goes (λ i e. (goes.local i e).1) (λ vc f e. low net setup n r l starts b shows few layout up is_layout ups up_fits vc f e))
      ∙ ap₂ (λ a b. not a || not b) (either-zero b.links.flits b.links.credits) (either-zero (lane_injected layout.places b.column) (lowest begins))
      ∙ any-of-four (nat_eq b.links.flits 0) (nat_eq (lane_injected layout.places b.column) 0) (nat_eq (lowest begins) 0) (nat_eq b.links.credits 0)
      ∙ sym (ap not words)
    where
      goes : HasSent b.column starts b.source (record (view_after_takes net.relation (beats_at (beats_in net (state_at net n)) r) (view_at net n r)) { given = n }) (frozen_view net setup n r l)
          (lane_injected layout.places b.column) begins went (injection_in n (taken_view net setup n r l))
      goes = worded-sent net setup n r l starts b shows few layout up is_layout ups up_fits

      words : nat_eq (came_in layout n b) 0
          ≡ (((nat_eq b.links.flits 0 && nat_eq (lane_injected layout.places b.column) 0) && nat_eq (lowest begins) 0) && nat_eq b.links.credits 0)
      words =
          either-zero (bit_or (lane_landed layout.places b.links.flits b.column) (lowest begins)) b.links.credits
          ∙ ap (λ y. y && nat_eq b.links.credits 0) (either-zero (bit_or b.links.flits (lane_injected layout.places b.column)) (lowest begins)
          ∙ ap (λ y. y && nat_eq (lowest begins) 0) (either-zero b.links.flits (lane_injected layout.places b.column)))
