-- The channels that an output port selects are those that move through it.
use Rattle.std.proofs.Common.{◌≡◌, ℕ, ◌+◌, ◌*◌, ◌/◌, ◌%◌, ◌^◌, ◌<◌, ◌≤◌, Bool, true, false, Option, Some, None, refl, ap, ap₂, sym, ◌∙◌, arith, inl, inr, w64, bit_and, get_or, div-add-mod'}
use Rattle.std.specs.Prelude.{nat_eq, ◌⊎◌, ◌&&◌, not, is_some, option_and_then, slice_index, slice_index_or, if◌then◌else◌}
use Rattle.std.specs.Int.{trailing_zeros}
use Rattle.std.proofs.lemmas.Bool.{eq-eqb, ne_eqb, cases_eq, cases_lt, false≢true, and_parts, eqb-true}
use Rattle.std.proofs.lemmas.Nat.{div_below, div-mul-add, mod-mul-add, mul-add-lt, and_le_l}
use Rattle.noc_topo.specs.Lists.{is_some_of}
use Rattle.noc_topo.specs.Shape.{ports}
use Rattle.noc_topo.proofs.ListLemmas.{get_or-tabulate}
use Rattle.noc_packet.specs.Set.{has_bit, IsLeast}
use Rattle.noc_packet.proofs.SetLemmas.{both_members}
use Rattle.noc_alloc.specs.Arbiter.{pointers_of}
use Rattle.noc_alloc.specs.Allocation.{pick_of, picked_port, winner_of}
use Rattle.noc_alloc.proofs.ArbiterLemmas.{first_in_turn-picks}
use Rattle.noc_alloc.specs.Members.{MembersAreBelow}
use Rattle.noc_vc.specs.Input.{is_empty}
use Rattle.noc_vc.specs.Output.{has_credit}
use Rattle.noc_vc.specs.declared.input.InputState.{InputState}
use Rattle.noc_vc.specs.declared.input.InputState.TheVariants.{Idle, Waiting, Active}
use Rattle.noc_view.specs.Verdict.{ready_of, ready_port, Holds}
use Rattle.noc_view.specs.View.{View, size_of, view_buffer, view_input, view_output, view_claim, claim_in, view_round, view_stands}
use Rattle.noc_view.proofs.StandLemmas.{ready_of-stands}
use Rattle.noc_sets.specs.Sets.{lowest}
use Rattle.noc_sets.specs.Column.{sends_by}
use Rattle.noc_sets.specs.Turns.{in_turn, first_bit}
use Rattle.noc_sets.proofs.MemberLemmas.{and_fits, least_is, lowest_members, zero_members}
use Rattle.noc_sets.proofs.WinnerLemmas.{AreAsking, ShowsPorts, winner-is}

some-of : (o : Option ℕ) (x : ℕ) → is_some_of o x ≡ true → o ≡ Some x
some-of None x e = absurd (false≢true e)
some-of (Some y) x e = ap Some (eqb-true y x e)

same-some : (a b : ℕ) → Some a ≡ Some b → a ≡ b
same-some a b e = cc e

module _ (v : View) (picked to q : ℕ) (some_vc : 0 < v.site.vcs) (fits : picked < 2 ^ 64) (below : MembersAreBelow (size_of v.site) picked) (lq : q < ports v.site.grid)
    (draws : (k : ℕ) → k < size_of v.site → has_bit picked k ≡ is_some_of (slice_index_or (view_round v).picks (k / v.site.vcs) None) (k % v.site.vcs))
    (to_is : (k : ℕ) → k < size_of v.site → has_bit picked k ≡ true → has_bit to k ≡ sends_by v.site.vcs q (view_input v k).phase) where
  -- whether the pick of a port goes to this output port
  abbrev pub asks_for : ℕ → Bool
  asks_for p = is_some_of (picked_port (ready_of v.site.vcs (view_stands v)) v.site.vcs (view_round v).picks p) q

  ready-at : (k : ℕ) → k < size_of v.site → slice_index_or (ready_of v.site.vcs (view_stands v)) k None ≡ ready_port v.site.vcs (view_claim v k) (not (is_empty (view_buffer v k)))
  ready-at k l = ap (λ xs. get_or xs k None) (ready_of-stands v) ∙ get_or-tabulate (size_of v.site) k (λ i. ready_port v.site.vcs (view_claim v i) (not (is_empty (view_buffer v i)))) None l

  goes : (phase : InputState) (e : Bool) → is_some (ready_port v.site.vcs (claim_in v phase) (not e)) ≡ true → is_some_of (ready_port v.site.vcs (claim_in v phase) (not e)) q ≡ sends_by v.site.vcs q phase
  goes Idle e z = absurd (false≢true z)
  goes (Waiting set) e z = absurd (false≢true z)
  goes (Active o) true z = at (has_credit (view_output v o)) z
    where
      at : (b : Bool) → is_some (ready_port v.site.vcs (Holds o b) false) ≡ true → is_some_of (ready_port v.site.vcs (Holds o b) false) q ≡ nat_eq (o / v.site.vcs) q
      at true y = absurd (false≢true y)
      at false y = absurd (false≢true y)
  goes (Active o) false z = at (has_credit (view_output v o)) z
    where
      at : (b : Bool) → is_some (ready_port v.site.vcs (Holds o b) true) ≡ true → is_some_of (ready_port v.site.vcs (Holds o b) true) q ≡ nat_eq (o / v.site.vcs) q
      at true y = refl
      at false y = absurd (false≢true y)

  -- the pick of a port is ready
  pick-ready : (p d : ℕ) → p < ports v.site.grid → slice_index_or (view_round v).picks p None ≡ Some d → (is_some (slice_index_or (ready_of v.site.vcs (view_stands v)) (p * v.site.vcs + d) None) ≡ true) × (d < v.site.vcs)
  unfolding view_round
  pick-ready p d lp is =
      first_in_turn-picks v.site.vcs (slice_index (pointers_of v.arbiters.inputs) p) d (λ c. is_some (slice_index_or (ready_of v.site.vcs (view_stands v)) (p * v.site.vcs + c) None))
      (sym (get_or-tabulate (ports v.site.grid) p (pick_of (ready_of v.site.vcs (view_stands v)) v.site.vcs (pointers_of v.arbiters.inputs)) None lp) ∙ is)

  asks-at : (p d : ℕ) → p < ports v.site.grid → slice_index_or (view_round v).picks p None ≡ Some d → asks_for p ≡ sends_by v.site.vcs q (view_input v (p * v.site.vcs + d)).phase
  asks-at p d lp is =
      let ready = pick-ready p d lp is in
      let m : p * v.site.vcs + d < v.site.vcs * ports v.site.grid = mul-add-lt p v.site.vcs d (ports v.site.grid) lp ready.1 in
      let l : p * v.site.vcs + d < size_of v.site = omega arith in
      ap (λ (o : Option ℕ). is_some_of (option_and_then (λ c. slice_index_or (ready_of v.site.vcs (view_stands v)) (p * v.site.vcs + c) None) o) q) is
      ∙ ap (λ o. is_some_of o q) (ready-at (p * v.site.vcs + d) l)
      ∙ goes (view_input v (p * v.site.vcs + d)).phase (is_empty (view_buffer v (p * v.site.vcs + d))) (ap is_some (sym (ready-at (p * v.site.vcs + d) l)) ∙ ready.0)

  pub pick-of-member : (k : ℕ) → has_bit picked k ≡ true → (k < size_of v.site) × (k / v.site.vcs < ports v.site.grid) × (slice_index_or (view_round v).picks (k / v.site.vcs) None ≡ Some (k % v.site.vcs))
  pick-of-member k e =
      let l : k < size_of v.site = below k e in
      (l, div_below k v.site.vcs (ports v.site.grid) some_vc l, some-of (slice_index_or (view_round v).picks (k / v.site.vcs) None) (k % v.site.vcs) (sym (draws k l) ∙ e))

  pub asking : AreAsking v.site.vcs (ports v.site.grid) (bit_and picked to) asks_for
  asking = record {
    some = some_vc;
    fits = and_fits picked to fits;
    each = λ k e. each k (and_parts (has_bit picked k) (has_bit to k) (sym (both_members picked to k) ∙ e));
    from = λ p lp e. from p lp e (slice_index_or (view_round v).picks p None) refl;
  }
    where
      each : (k : ℕ) → (has_bit picked k ≡ true) × (has_bit to k ≡ true) → (k / v.site.vcs < ports v.site.grid) × (asks_for (k / v.site.vcs) ≡ true)
      each k e =
          let pick = pick-of-member k e.0 in
          let place : k / v.site.vcs * v.site.vcs + k % v.site.vcs ≡ k = div-add-mod' k v.site.vcs in
          (pick.1, asks-at (k / v.site.vcs) (k % v.site.vcs) pick.1 pick.2 ∙ ap (λ n. sends_by v.site.vcs q (view_input v n).phase) place ∙ sym (to_is k pick.0 e.0) ∙ e.1)

      from : (p : ℕ) → p < ports v.site.grid → asks_for p ≡ true → (o : Option ℕ) → slice_index_or (view_round v).picks p None ≡ o → (d : ℕ) × (d < v.site.vcs) × (has_bit (bit_and picked to) (p * v.site.vcs + d) ≡ true)
      from p lp e None is = absurd (false≢true (sym (ap (λ (o : Option ℕ). is_some_of (option_and_then (λ c. slice_index_or (ready_of v.site.vcs (view_stands v)) (p * v.site.vcs + c) None) o) q) is) ∙ e))
      from p lp e (Some d) is =
          let ready = pick-ready p d lp is in
          let m : p * v.site.vcs + d < v.site.vcs * ports v.site.grid = mul-add-lt p v.site.vcs d (ports v.site.grid) lp ready.1 in
          let l : p * v.site.vcs + d < size_of v.site = omega arith in
          let in_picked : has_bit picked (p * v.site.vcs + d) ≡ true =
          draws (p * v.site.vcs + d) l ∙ ap₂ (λ a b. is_some_of (slice_index_or (view_round v).picks a None) b) (div-mul-add p v.site.vcs d ready.1) (mod-mul-add p v.site.vcs d ready.1) ∙ ap (λ o. is_some_of o d) is ∙ eq-eqb d d refl in
          let in_to : has_bit to (p * v.site.vcs + d) ≡ true = to_is (p * v.site.vcs + d) l in_picked ∙ sym (asks-at p d lp is) ∙ e in
          (d, ready.1, both_members picked to (p * v.site.vcs + d) ∙ rw (in_picked, in_to) refl)

  -- the winner of the output port
  pub wins-is : (mask : ℕ) → slice_index (pointers_of v.arbiters.outputs) q < ports v.site.grid → ShowsPorts v.site.vcs (ports v.site.grid) mask (slice_index (pointers_of v.arbiters.outputs) q)
      → slice_index_or (view_round v).wins q None ≡ (if nat_eq (bit_and picked to) 0 then None else Some (trailing_zeros w64 (in_turn (bit_and picked to) mask) / v.site.vcs))
  unfolding view_round
  wins-is mask few shows =
      get_or-tabulate (ports v.site.grid) q (winner_of (ready_of v.site.vcs (view_stands v)) v.site.vcs (ports v.site.grid) (view_round v).picks (pointers_of v.arbiters.outputs)) None lq
      ∙ winner-is v.site.vcs (ports v.site.grid) (bit_and picked to) mask (slice_index (pointers_of v.arbiters.outputs) q) asks_for asking few shows

  pub in_turn-among : (asks mask t : ℕ) → has_bit (in_turn asks mask) t ≡ true → has_bit asks t ≡ true
  in_turn-among asks mask t e = at (nat_eq (bit_and asks mask) 0) e
    where
      at : (b : Bool) → has_bit (if b then asks else bit_and asks mask) t ≡ true → has_bit asks t ≡ true
      at true z = z
      at false z = (and_parts (has_bit asks t) (has_bit mask t) (sym (both_members asks mask t) ∙ z)).0

  pub in_turn-some : (asks mask : ℕ) → 0 < asks → asks < 2 ^ 64 → (0 < in_turn asks mask) × (in_turn asks mask < 2 ^ 64)
  in_turn-some asks mask some small = at (cases_eq (bit_and asks mask) 0)
    where
      at : (bit_and asks mask ≡ 0) ⊎ (bit_and asks mask ≡ 0 → ⊥) → (0 < in_turn asks mask) × (in_turn asks mask < 2 ^ 64)
      at (inl z) = rw (eq-eqb (bit_and asks mask) 0 z) (some, small)
      at (inr o) = rw (ne_eqb (bit_and asks mask) 0 o) (omega arith, and_fits asks mask small)

  -- the channel that is selected: the pick of the input port that wins
  pub selected : (mask k : ℕ) → slice_index (pointers_of v.arbiters.outputs) q < ports v.site.grid → ShowsPorts v.site.vcs (ports v.site.grid) mask (slice_index (pointers_of v.arbiters.outputs) q)
      → has_bit (first_bit (bit_and picked to) mask) k ≡ (has_bit (bit_and picked to) k && is_some_of (slice_index_or (view_round v).wins q None) (k / v.site.vcs))
  selected mask k few shows = at (cases_lt 0 (bit_and picked to))
    where
      none : (b : Bool) → (b && false) ≡ false
      none true = refl
      none false = refl

      at : (0 < bit_and picked to) ⊎ (bit_and picked to ≤ 0) → has_bit (first_bit (bit_and picked to) mask) k ≡ (has_bit (bit_and picked to) k && is_some_of (slice_index_or (view_round v).wins q None) (k / v.site.vcs))
      at (inr u) =
          let z : bit_and picked to ≡ 0 = omega arith in
          let won : slice_index_or (view_round v).wins q None ≡ None = wins-is mask few shows ∙ ap (λ b. if b then None else Some (trailing_zeros w64 (in_turn (bit_and picked to) mask) / v.site.vcs)) (eq-eqb (bit_and picked to) 0 z) in
          let empty : in_turn (bit_and picked to) mask ≡ 0 = by_turn z in
          ap (λ m. has_bit (lowest m) k) empty ∙ zero_members k ∙ sym (ap (λ o. has_bit (bit_and picked to) k && is_some_of o (k / v.site.vcs)) won ∙ none (has_bit (bit_and picked to) k))
        where
          by_turn : bit_and picked to ≡ 0 → in_turn (bit_and picked to) mask ≡ 0
          by_turn z = by (nat_eq (bit_and (bit_and picked to) mask) 0)
            where
              by : (b : Bool) → (if b then bit_and picked to else bit_and (bit_and picked to) mask) ≡ 0
              by true = z
              by false = let le : bit_and (bit_and picked to) mask ≤ bit_and picked to = and_le_l (bit_and picked to) mask in omega arith
      at (inl some) =
          let turn = in_turn-some (bit_and picked to) mask some (and_fits picked to fits) in
          let least : IsLeast (has_bit (in_turn (bit_and picked to) mask)) (Some (trailing_zeros w64 (in_turn (bit_and picked to) mask))) = least_is (in_turn (bit_and picked to) mask) turn.0 turn.1 in
          let won : slice_index_or (view_round v).wins q None ≡ Some (trailing_zeros w64 (in_turn (bit_and picked to) mask) / v.site.vcs)
          = wins-is mask few shows ∙ ap (λ b. if b then None else Some (trailing_zeros w64 (in_turn (bit_and picked to) mask) / v.site.vcs)) (ne_eqb (bit_and picked to) 0 (λ e. absurd (omega arith))) in
          lowest_members (in_turn (bit_and picked to) mask) (trailing_zeros w64 (in_turn (bit_and picked to) mask)) k least
          ∙ same (trailing_zeros w64 (in_turn (bit_and picked to) mask)) (in_turn-among (bit_and picked to) mask (trailing_zeros w64 (in_turn (bit_and picked to) mask)) least.0) (cases_eq k (trailing_zeros w64 (in_turn (bit_and picked to) mask)))
          ∙ ap (λ o. has_bit (bit_and picked to) k && is_some_of o (k / v.site.vcs)) (sym won)
        where
          same : (t : ℕ) → has_bit (bit_and picked to) t ≡ true → (k ≡ t) ⊎ (k ≡ t → ⊥) → nat_eq k t ≡ (has_bit (bit_and picked to) k && nat_eq (t / v.site.vcs) (k / v.site.vcs))
          same t e (inl is) =
              let in_k : has_bit (bit_and picked to) k ≡ true = ap (has_bit (bit_and picked to)) is ∙ e in
              eq-eqb k t is ∙ sym (rw in_k (eq-eqb (t / v.site.vcs) (k / v.site.vcs) (ap (λ n. n / v.site.vcs) (sym is))))
          same t e (inr other) = ne_eqb k t other ∙ sym (by (has_bit (bit_and picked to) k) refl (cases_eq (t / v.site.vcs) (k / v.site.vcs)))
            where
              by : (b : Bool) → has_bit (bit_and picked to) k ≡ b → (t / v.site.vcs ≡ k / v.site.vcs) ⊎ (t / v.site.vcs ≡ k / v.site.vcs → ⊥) → (b && nat_eq (t / v.site.vcs) (k / v.site.vcs)) ≡ false
              by false eb _ = refl
              by true eb (inr apart) = ne_eqb (t / v.site.vcs) (k / v.site.vcs) apart
              by true eb (inl port) =
                  let a = pick-of-member t (and_parts (has_bit picked t) (has_bit to t) (sym (both_members picked to t) ∙ e)).0 in
                  let b = pick-of-member k (and_parts (has_bit picked k) (has_bit to k) (sym (both_members picked to k) ∙ eb)).0 in
                  let vc : t % v.site.vcs ≡ k % v.site.vcs = same-some (t % v.site.vcs) (k % v.site.vcs) (sym a.2 ∙ ap (λ p. slice_index_or (view_round v).picks p None) port ∙ b.2) in
                  absurd (other (sym (div-add-mod' k v.site.vcs) ∙ ap₂ (λ p c. p * v.site.vcs + c) (sym port) (sym vc) ∙ div-add-mod' t v.site.vcs))
