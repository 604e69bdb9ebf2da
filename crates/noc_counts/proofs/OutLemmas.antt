-- What a waiting channel asks for is an output channel that is granted in the cycle.
use Rattle.std.proofs.Common.{◌≡◌, ◌≢◌, ◌⊎◌, ℕ, ◌^◌, ◌<◌, ◌≤◌, Bool, true, false, Option, Some, None, refl, ap, ap₂, sym, ◌∙◌, subst, arith, inl, inr, bit_and}
use Rattle.std.specs.Prelude.{◌&&◌, nat_eq, not, if◌then◌else◌}
use Rattle.std.proofs.lemmas.Nat.{and_le_r}
use Rattle.std.proofs.lemmas.Bool.{and_parts, cases_eq, false≢true, true≢false, ne_eqb, eq-eqb}
use Rattle.noc_topo.specs.Lists.{is_some_of}
use Rattle.noc_packet.specs.Set.{has_bit}
use Rattle.noc_packet.proofs.SetLemmas.{both_members, has_bit-zero, zero_from_none}
use Rattle.noc_alloc.specs.Members.{MembersAreBelow}
use Rattle.noc_sets.specs.Grants.{Allocation, HasAllocated, asked_of, winner}
use Rattle.noc_sets.specs.Sets.{least}
use Rattle.noc_sets.specs.Turns.{in_turn}
use Rattle.noc_sets.proofs.MemberLemmas.{below_fits, least_below, least_is, power-members}
use Rattle.noc_sets.proofs.TurnLemmas.{first-is}
use Rattle.noc_columns.proofs.AskLemmas.{asks-wait, in-word}
use Rattle.noc_columns.proofs.LoopLemmas.{least-same}
use Rattle.noc_columns.proofs.PickLemmas.{Found, find-first, none-each}
use Rattle.noc_counts.proofs.VerdictLemmas.{AreAmong}

-- ---- the same is asked for of a part of the idle channels that has it
module _ (idle outs set : ℕ) (fits : idle < 2 ^ 64) (outs_fit : outs < 2 ^ 64) (among : AreAmong idle outs) (has : (o : ℕ) → asked_of idle set ≡ Some o → has_bit outs o ≡ true) where
  part-members : (k : ℕ) → has_bit (bit_and set idle) k ≡ false → has_bit (bit_and set outs) k ≡ false
  part-members k none = at (has_bit (bit_and set outs) k) refl
    where
      at : (b : Bool) → has_bit (bit_and set outs) k ≡ b → has_bit (bit_and set outs) k ≡ false
      at false e = e
      at true e =
          let parts = and_parts (has_bit set k) (has_bit outs k) (sym (both_members set outs k) ∙ e) in
          absurd (true≢false (sym (both_members set idle k ∙ ap₂ (λ a b. a && b) parts.0 (among k parts.1)) ∙ none))

  pub asked-same : asked_of idle set ≡ asked_of outs set
  asked-same = at (cases_eq (bit_and set idle) 0)
    where
      at : (bit_and set idle ≡ 0) ⊎ (bit_and set idle ≢ 0) → asked_of idle set ≡ asked_of outs set
      at (inl none) =
          let empty : bit_and set outs ≡ 0 = zero_from_none (bit_and set outs) (λ k. part-members k (ap (λ x. has_bit x k) none ∙ has_bit-zero k)) in
          ap (λ x. if nat_eq x 0 then None else Some (least x)) (none ∙ sym empty)
      at (inr some) =
          let pos : 0 < bit_and set idle = omega arith in
          let o = least (bit_and set idle) in
          let is = least_is (bit_and set idle) pos (omega (arith, and_le_r set idle, fits)) in
          let asks : asked_of idle set ≡ Some o = ap (λ b. if b then None else Some o) (ne_eqb (bit_and set idle) 0 some) in
          let here : has_bit (bit_and set outs) o ≡ true =
          both_members set outs o ∙ ap₂ (λ a b. a && b) (and_parts (has_bit set o) (has_bit idle o) (sym (both_members set idle o) ∙ is.0)).0 (has o asks) in
          let there : bit_and set outs ≢ 0 = λ z. false≢true (sym (has_bit-zero o) ∙ ap (λ x. has_bit x o) (sym z) ∙ here) in
          let same : o ≡ least (bit_and set outs) =
          least-same (bit_and set outs) o (omega (arith, there)) (omega (arith, and_le_r set outs, outs_fit)) (here, λ k l. part-members k (is.1 k l)) in
          asks ∙ ap (λ (x : ℕ). Some x) same ∙ ap (λ b. if b then None else Some (least (bit_and set outs))) (sym (ne_eqb (bit_and set outs) 0 there))

-- what is asked for is an idle one of the set
pub asked-one : (idle set o : ℕ) → idle < 2 ^ 64 → asked_of idle set ≡ Some o → (has_bit set o ≡ true) × (has_bit idle o ≡ true) × (o < 64)
asked-one idle set o fits asks = at (cases_eq (bit_and set idle) 0)
  where
    at : (bit_and set idle ≡ 0) ⊎ (bit_and set idle ≢ 0) → (has_bit set o ≡ true) × (has_bit idle o ≡ true) × (o < 64)
    at (inl none) = let e : None ≡ Some o = sym (ap (λ x. if nat_eq x 0 then None else Some (least x)) none) ∙ asks in absurd (cc)
    at (inr some) =
        let small : bit_and set idle < 2 ^ 64 = omega (arith, and_le_r set idle, fits) in
        let is = least_is (bit_and set idle) (omega (arith, some)) small in
        let e : Some (least (bit_and set idle)) ≡ Some o = sym (ap (λ b. if b then None else Some (least (bit_and set idle))) (ne_eqb (bit_and set idle) 0 some)) ∙ asks in
        let same : least (bit_and set idle) ≡ o = cc in
        let here = subst (λ k. has_bit (bit_and set idle) k ≡ true) same is.0 in
        let parts = and_parts (has_bit set o) (has_bit idle o) (sym (both_members set idle o) ∙ here) in
        (parts.0, parts.1, subst (λ k. k < 64) same (least_below (bit_and set idle) (omega (arith, some)) small))

-- ---- who is granted an output channel has asked for it, and who asks for one tells one that is granted
module _ (size : ℕ) (port : ℕ → ℕ) (a b : Allocation) (has : HasAllocated size port a b) (few : size ≤ 64) (below : MembersAreBelow size a.column.waiting) where
  out-below : (o : ℕ) → has_bit has.outs o ≡ true → o < 64
  out-below o out = in-word has.outs o has.outs_fit out

  pub winner-of : (k : ℕ) → has_bit b.granted k ≡ true → (o : ℕ) × (has_bit has.outs o ≡ true) × (has_bit (winner has.requests a.marks o) k ≡ true)
  winner-of k e = at (find-first 64 (λ o. has_bit has.outs o && has_bit (winner has.requests a.marks o) k))
    where
      at : Found 64 (λ o. has_bit has.outs o && has_bit (winner has.requests a.marks o) k) → (o : ℕ) × (has_bit has.outs o ≡ true) × (has_bit (winner has.requests a.marks o) k ≡ true)
      at (inl nobody) = absurd (true≢false (sym e ∙ has.marks.none k (λ o out. by o out (has_bit (winner has.requests a.marks o) k) refl)))
        where
          by : (o : ℕ) → has_bit has.outs o ≡ true → (w : Bool) → has_bit (winner has.requests a.marks o) k ≡ w → has_bit (winner has.requests a.marks o) k ≡ false
          by o out false won = won
          by o out true won =
              absurd (true≢false (sym (ap₂ (λ x y. x && y) out won) ∙ none-each 64 (λ p. has_bit has.outs p && has_bit (winner has.requests a.marks p) k) nobody o (out-below o out)))
      at (inr found) = let parts = and_parts (has_bit has.outs found.0) (has_bit (winner has.requests a.marks found.0) k) found.2 in (found.0, parts.0, parts.1)

  -- the output channel that channel i asks for goes to one that asks for it
  pub asked-won : (i o : ℕ) → has_bit a.column.waiting i ≡ true → asked_of a.column.idle (a.marks.set i) ≡ Some o → o < 64
      → (t : ℕ) × (has_bit has.outs o ≡ true) × (has_bit (winner has.requests a.marks o) t ≡ true)
  asked-won i o waits asks low =
      let asked : has_bit (has.requests o) i ≡ true =
      has.asks.asked o i low ∙ ap₂ (λ x (y : Option ℕ). x && is_some_of y o) waits asks ∙ eq-eqb o o refl in
      let some : has.requests o ≢ 0 = λ z. false≢true (sym (has_bit-zero i) ∙ ap (λ x. has_bit x i) (sym z) ∙ asked) in
      let out : has_bit has.outs o ≡ true = has.asks.asked_for o low ∙ ap not (ne_eqb (has.requests o) 0 some) in
      let fits : has.requests o < 2 ^ 64 = below_fits 64 (has.requests o) (λ k e.
      let l : k < size = below k (asks-wait (has_bit a.column.waiting) a.column.idle a.marks.set has.requests has.outs has.inputs has.wanted has.asks o k low e) in omega arith) in
      let first = first-is (has.requests o) (a.marks.turn o) (omega (arith, some)) fits in
      let t = least (in_turn (has.requests o) (a.marks.turn o)) in
      (t, out, ap (λ x. has_bit x t) first.2 ∙ power-members t t ∙ eq-eqb t t refl)
