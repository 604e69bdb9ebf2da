-- The credits that routers put on their wires: one for the flit that leaves a buffer of the port.
use Rattle.std.proofs.Common.{◌≡◌, ◌≢◌, ℕ, ◌+◌, ◌*◌, ◌/◌, ◌%◌, ◌<◌, ◌≤◌, Bool, true, false, Option, Some, None, refl, ap, ap₂, sym, ◌∙◌, arith, inl, inr}
use Rattle.std.specs.Prelude.{◌⊎◌, ◌&&◌, not, is_some, find, slice_index_or, if◌then◌else◌}
use Rattle.noc_view.specs.Verdict.{verdict_of, Holds, Waits}
use Rattle.noc_view.specs.View.{asked_for}
use Rattle.noc_view.proofs.FindLemmas.{find-below, find-none}
use Rattle.noc_theory_bits.proofs.Common.{eq-eqb, ne_eqb, cases_eq, cases_lt, false≢true, div-mul-add, mod-mul-add, mul-add-lt, below, is_some_of, ports, has_bit, Routes, is_empty, has_credit, InputState, Idle, Waiting, Active, is_won_from, is_moved, ready_port, Moved, LostSwitch, View, size_of, view_buffer, view_input, view_output, view_claim, claim_in, view_round, decisions_of, decided_verdict, beat_out, AreMoved}
use Rattle.noc_theory_bits.proofs.routers.CommittedLemmas.{verdict-planned}
use Rattle.noc_sets.proofs.MemberLemmas.{and-false}

module _ (relation : Routes) (v : View) (moved : ℕ) (some_vc : 0 < v.site.vcs) (are : AreMoved v moved)
    (ready : (k : ℕ) → k < size_of v.site → is_some_of (slice_index_or (view_round v).picks (k / v.site.vcs) None) (k % v.site.vcs) ≡ true → is_some (ready_port v.site.vcs (view_claim v k) (not (is_empty (view_buffer v k)))) ≡ true) where
  -- whether the pick of a channel's port is the channel
  abbrev is_pick : ℕ → Bool
  is_pick k = is_some_of (slice_index_or (view_round v).picks (k / v.site.vcs) None) (k % v.site.vcs)

  verdict-moves : (k : ℕ) → k < size_of v.site → is_moved (decided_verdict (decisions_of relation v) k) ≡ has_bit moved k
  verdict-moves k l = ap is_moved (verdict-planned relation v k l) ∙ by (view_input v k).phase refl ∙ sym (are.each k l)
    where
      by : (phase : InputState) → (view_input v k).phase ≡ phase
          → is_moved (verdict_of v.site.vcs (view_round v) k (view_claim v k) (not (is_empty (view_buffer v k)))) ≡ (is_pick k && is_won_from v (view_round v) k (view_input v k).phase)
      by Idle e =
          ap (λ (p : InputState). is_moved (verdict_of v.site.vcs (view_round v) k (claim_in v p) (not (is_empty (view_buffer v k))))) e ∙ at (not (is_empty (view_buffer v k)))
          ∙ sym (ap (λ (p : InputState). is_pick k && is_won_from v (view_round v) k p) e ∙ and-false (is_pick k))
        where
          at : (b : Bool) → is_moved (verdict_of v.site.vcs (view_round v) k (claim_in v Idle) b) ≡ false
          at true = refl
          at false = refl
      by (Waiting set) e =
          ap (λ (p : InputState). is_moved (verdict_of v.site.vcs (view_round v) k (claim_in v p) (not (is_empty (view_buffer v k))))) e ∙ at (asked_for v set) (not (is_empty (view_buffer v k)))
          ∙ sym (ap (λ (p : InputState). is_pick k && is_won_from v (view_round v) k p) e ∙ and-false (is_pick k))
        where
          given : (o : ℕ) (b : Bool) → is_some_of (slice_index_or (view_round v).grants o None) k ≡ b → is_moved (verdict_of v.site.vcs (view_round v) k (Waits (Some o)) true) ≡ false
          given o true z = rw z refl
          given o false z = rw z refl

          at : (ask : Option ℕ) (b : Bool) → is_moved (verdict_of v.site.vcs (view_round v) k (Waits ask) b) ≡ false
          at None true = refl
          at None false = refl
          at (Some o) true = given o (is_some_of (slice_index_or (view_round v).grants o None) k) refl
          at (Some o) false = given o (is_some_of (slice_index_or (view_round v).grants o None) k) refl
      by (Active o) e =
          ap (λ (p : InputState). is_moved (verdict_of v.site.vcs (view_round v) k (claim_in v p) (not (is_empty (view_buffer v k))))) e
          ∙ at (has_credit (view_output v o)) (not (is_empty (view_buffer v k))) (is_pick k) refl (λ z. ap (λ (p : InputState). is_some (ready_port v.site.vcs (claim_in v p) (not (is_empty (view_buffer v k))))) (sym e) ∙ ready k l z)
          ∙ sym (ap (λ (p : InputState). is_pick k && is_won_from v (view_round v) k p) e)
        where
          at : (credit flit pick : Bool) → is_pick k ≡ pick → (is_pick k ≡ true → is_some (ready_port v.site.vcs (Holds o credit) flit) ≡ true)
              → is_moved (verdict_of v.site.vcs (view_round v) k (Holds o credit) flit) ≡ (is_pick k && is_some_of (slice_index_or (view_round v).wins (o / v.site.vcs) None) (k / v.site.vcs))
          at true true true z h = rw z (won (is_some_of (slice_index_or (view_round v).wins (o / v.site.vcs) None) (k / v.site.vcs)))
            where
              won : (b : Bool) → is_moved (if b then Moved else LostSwitch) ≡ b
              won true = refl
              won false = refl
          at true true false z h = rw z refl
          at true false true z h = absurd (false≢true (h z))
          at true false false z h = rw z refl
          at false true true z h = absurd (false≢true (h z))
          at false true false z h = rw z refl
          at false false true z h = absurd (false≢true (h z))
          at false false false z h = rw z refl

  -- a credit goes back for the channel of the port of which a flit moves
  pub credit-left : (q vc : ℕ) → q < ports v.site.grid → vc < v.site.vcs → is_some_of (beat_out (decisions_of relation v) v q).credit vc ≡ has_bit moved (q * v.site.vcs + vc)
  credit-left q vc lq lv = by (slice_index_or (view_round v).picks q None) refl
    where
      place : (x : ℕ) → x < v.site.vcs → q * v.site.vcs + x < size_of v.site
      place x lx = let m : q * v.site.vcs + x < v.site.vcs * ports v.site.grid = mul-add-lt q v.site.vcs x (ports v.site.grid) lq lx in omega arith

      bit : (x : ℕ) → x < v.site.vcs → (o : Option ℕ) → slice_index_or (view_round v).picks q None ≡ o → is_some_of o x ≡ false → has_bit moved (q * v.site.vcs + x) ≡ false
      bit x lx o e z =
          are.each (q * v.site.vcs + x) (place x lx)
          ∙ ap (λ b. b && is_won_from v (view_round v) (q * v.site.vcs + x) (view_input v (q * v.site.vcs + x)).phase)
          (ap₂ (λ a b. is_some_of (slice_index_or (view_round v).picks a None) b) (div-mul-add q v.site.vcs x lx) (mod-mul-add q v.site.vcs x lx) ∙ ap (λ p. is_some_of p x) e ∙ z)

      test : (x : ℕ) → x < v.site.vcs → is_moved (decided_verdict (decisions_of relation v) (q * v.site.vcs + x)) ≡ has_bit moved (q * v.site.vcs + x)
      test x lx = verdict-moves (q * v.site.vcs + x) (place x lx)

      by : (o : Option ℕ) → slice_index_or (view_round v).picks q None ≡ o
          → is_some_of (find (λ x. is_moved (decided_verdict (decisions_of relation v) (q * v.site.vcs + x))) (below v.site.vcs)) vc ≡ has_bit moved (q * v.site.vcs + vc)
      by None e =
          ap (λ (f : Option ℕ). is_some_of f vc) (find-none (λ x. is_moved (decided_verdict (decisions_of relation v) (q * v.site.vcs + x))) v.site.vcs (λ x lx. test x lx ∙ bit x lx None e refl))
          ∙ sym (bit vc lv None e refl)
      by (Some d) e = won (cases_eq d vc) (has_bit moved (q * v.site.vcs + vc)) refl
        where
          apart : (x : ℕ) → x < v.site.vcs → d ≢ x → has_bit moved (q * v.site.vcs + x) ≡ false
          apart x lx other = bit x lx (Some d) e (ne_eqb d x other)

          found : (f : Option ℕ) → find (λ x. is_moved (decided_verdict (decisions_of relation v) (q * v.site.vcs + x))) (below v.site.vcs) ≡ f
              → is_some_of (find (λ x. is_moved (decided_verdict (decisions_of relation v) (q * v.site.vcs + x))) (below v.site.vcs)) vc ≡ is_some_of f vc
          found f h = ap (λ (g : Option ℕ). is_some_of g vc) h

          won : (d ≡ vc) ⊎ (d ≢ vc) → (b : Bool) → has_bit moved (q * v.site.vcs + vc) ≡ b
              → is_some_of (find (λ x. is_moved (decided_verdict (decisions_of relation v) (q * v.site.vcs + x))) (below v.site.vcs)) vc ≡ has_bit moved (q * v.site.vcs + vc)
          won (inl same) true m =
              found (Some vc) (find-below (λ x. is_moved (decided_verdict (decisions_of relation v) (q * v.site.vcs + x))) v.site.vcs vc lv (test vc lv ∙ m)
              (λ x lx. test x (omega (arith, lx, lv)) ∙ apart x (omega (arith, lx, lv)) (λ z. absurd (omega (arith, z, same, lx)))))
              ∙ eq-eqb vc vc refl ∙ sym m
          won (inl same) false m =
              found None (find-none (λ x. is_moved (decided_verdict (decisions_of relation v) (q * v.site.vcs + x))) v.site.vcs
              (λ x lx. test x lx ∙ elim (cases_eq d x) [ inl here ↦ ap (λ n. has_bit moved (q * v.site.vcs + n)) (sym here ∙ same) ∙ m | inr other ↦ apart x lx other ]))
              ∙ sym m
          won (inr other) b m =
              beyond (find (λ x. is_moved (decided_verdict (decisions_of relation v) (q * v.site.vcs + x))) (below v.site.vcs)) refl ∙ sym (apart vc lv other)
            where
              beyond : (f : Option ℕ) → find (λ x. is_moved (decided_verdict (decisions_of relation v) (q * v.site.vcs + x))) (below v.site.vcs) ≡ f
                  → is_some_of (find (λ x. is_moved (decided_verdict (decisions_of relation v) (q * v.site.vcs + x))) (below v.site.vcs)) vc ≡ false
              beyond f h = at (has_bit moved (q * v.site.vcs + d)) refl (cases_lt d v.site.vcs)
                where
                  at : (b : Bool) → has_bit moved (q * v.site.vcs + d) ≡ b → (d < v.site.vcs) ⊎ (v.site.vcs ≤ d)
                      → is_some_of (find (λ x. is_moved (decided_verdict (decisions_of relation v) (q * v.site.vcs + x))) (below v.site.vcs)) vc ≡ false
                  at true m (inl l) =
                      ap (λ (g : Option ℕ). is_some_of g vc) (find-below (λ x. is_moved (decided_verdict (decisions_of relation v) (q * v.site.vcs + x))) v.site.vcs d l (test d l ∙ m)
                      (λ x lx. test x (omega (arith, lx, l)) ∙ apart x (omega (arith, lx, l)) (λ z. absurd (omega (arith, z, lx)))))
                      ∙ ne_eqb d vc other
                  at false m (inl l) =
                      ap (λ (g : Option ℕ). is_some_of g vc) (find-none (λ x. is_moved (decided_verdict (decisions_of relation v) (q * v.site.vcs + x))) v.site.vcs
                      (λ x lx. test x lx ∙ elim (cases_eq d x) [ inl here ↦ ap (λ n. has_bit moved (q * v.site.vcs + n)) (sym here) ∙ m | inr o ↦ apart x lx o ]))
                  at b m (inr u) =
                      ap (λ (g : Option ℕ). is_some_of g vc) (find-none (λ x. is_moved (decided_verdict (decisions_of relation v) (q * v.site.vcs + x))) v.site.vcs
                      (λ x lx. test x lx ∙ apart x lx (λ z. absurd (omega (arith, z, lx, u)))))
