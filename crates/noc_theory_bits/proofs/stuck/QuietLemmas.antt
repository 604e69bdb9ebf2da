-- A router that had no event in a cycle: nothing came to it, nothing was injected, and no verdict
-- took effect.
use Rattle.std.proofs.Common.{◌≡◌, ℕ, suc, ◌<◌, ◌≤◌, Bool, true, false, List, [], ◌∷◌, length, Option, Some, None, refl, ap, sym, ◌∙◌, subst, arith, inl, inr}
use Rattle.std.specs.Prelude.{◌⊎◌, find, is_some, nat_le, nat_lt, option_map, if◌then◌else◌, slice_index_or, ◌||◌}
use Rattle.std.specs.List.{list_any}
use Rattle.noc_view.proofs.StillLemmas.{still-committed}
use Rattle.noc_theory_bits.proofs.Common.{cases_lt, le-leb, lt-leb, true≢false, nodes, below, flit_at, Flit, Packet, Routes, IsHeldBefore, takes_effect, is_event, Round, Decisions, View, begun_on, decisions_of, has_event, is_vacant, local_channel, local_step, view_after_inject, view_after_inject_from, view_after_takes, view_buffer, view_round, with_injected, Site, size_of, Finding, CYCLE_LIMIT, IsGoodSetup, IsSilent, view_at, has_event_at, Setup, size, injection_from, injection_in, due_of, ShowsWires, frozen_of}
use Rattle.noc_theory_bits.proofs.bits.CameLemmas.{all-quiet, nothing-comes, nothing-returns}
use Rattle.noc_theory_bits.proofs.routers.CameLemmas.{injected-event}
use Rattle.noc_theory_bits.proofs.network.NetworkLemmas.{beats, frozen_view, next-count, frozen-seen, frozen-size, frozen-tidy}
use Rattle.noc_theory_bits.proofs.bits.CountedLemmas.{event-is}
use Rattle.noc_theory_bits.proofs.routers.SilentLemmas.{words-silent}
use Rattle.noc_theory_bits.proofs.stuck.StillVerdictLemmas.{no-grant}

neither : (a b : Bool) → (a || b) ≡ false → (a ≡ false) × (b ≡ false)
neither true b e = absurd (true≢false e)
neither false b e = (refl, e)

-- ---- the source
-- one that injects nothing in cycle n injects nothing in cycle m, unless its next packet becomes
-- due
held-at : (n m : ℕ) (queue : List (ℕ × Packet)) (sending : Option (ℕ × ℕ)) (v : View) → is_some (injection_from n queue sending v) ≡ false → (n < due_of queue → m < due_of queue)
    → view_after_inject_from m queue sending (record v { given = m }) ≡ record v { given = m }
held-at n m [] sending v none due = refl
held-at n m ((number, p) ∷ rest) (Some (vc, index)) v none due = room (nat_lt (length (view_buffer v (local_channel v.site vc))) v.site.depth) none
  where
    room : (b : Bool) → is_some {T = ℕ × Flit} (if b then Some (vc, flit_at p number index) else None) ≡ false
        → (if b then with_injected vc index number p rest (record v { given = m }) else (record v { given = m })) ≡ record v { given = m }
    room true e = absurd (true≢false e)
    room false e = refl
held-at n m ((number, p) ∷ rest) None v none due = at (cases_lt m p.due)
  where
    begun : (vc : Option ℕ) → is_some (option_map {U = ℕ × Flit} (λ vc. (vc, flit_at p number 0)) vc) ≡ false → begun_on vc number p rest (record v { given = m }) ≡ record v { given = m }
    begun None e = refl
    begun (Some vc) e = absurd (true≢false e)

    by : (m < p.due) ⊎ (p.due ≤ m) → (n < p.due) ⊎ (p.due ≤ n)
        → (if nat_le p.due m then begun_on (find (is_vacant v) (below v.site.vcs)) number p rest (record v { given = m }) else record v { given = m }) ≡ record v { given = m }
    by (inl l) case = ap (λ b. if b then begun_on (find (is_vacant v) (below v.site.vcs)) number p rest (record v { given = m }) else record v { given = m }) (lt-leb p.due m l)
    by (inr u) (inl k) = let l = due k in absurd (omega (arith, l, u))
    by (inr u) (inr k) =
        ap (λ b. if b then begun_on (find (is_vacant v) (below v.site.vcs)) number p rest (record v { given = m }) else record v { given = m }) (le-leb p.due m u)
        ∙ begun (find (is_vacant v) (below v.site.vcs))
        (sym (ap (λ b. is_some (if b then option_map {U = ℕ × Flit} (λ vc. (vc, flit_at p number 0)) (find (is_vacant v) (below v.site.vcs)) else None)) (le-leb p.due n k)) ∙ none)

    at : (m < p.due) ⊎ (p.due ≤ m)
        → (if nat_le p.due m then begun_on (find (is_vacant v) (below v.site.vcs)) number p rest (record v { given = m }) else record v { given = m }) ≡ record v { given = m }
    at case = by case (cases_lt n p.due)

held-then : (n m : ℕ) (v : View) → is_some (injection_in n v) ≡ false → (n < due_of v.queue → m < due_of v.queue) → view_after_inject m v ≡ record v { given = m }
unfolding view_after_inject
held-then n m v none due = held-at n m v.queue v.sending v none due

-- the cycle that was last changes nothing of what is decided
given-planned : (relation : Routes) (n : ℕ) (v : View) → decisions_of relation (record v { given = n }) ≡ decisions_of relation v
unfolding decisions_of view_round
given-planned relation n v = refl

-- ---- the router
module _ (net : Setup) (setup : IsGoodSetup net) (n r : ℕ) (l : r < nodes net.relation.grid) (few : n < CYCLE_LIMIT) (none : has_event_at net n r ≡ false) where
  abbrev v : View
  v = view_at net n r

  abbrev taken : View
  taken = view_after_takes net.relation (beats net setup n r l) (view_at net n r)

  abbrev frozen : View
  frozen = frozen_view net setup n r l

  no-event : has_event (decisions_of net.relation frozen) frozen ≡ false
  no-event = event-is net setup n r l few ∙ none

  none-came : (taken.had_event ≡ false) × (is_some (injection_in n taken) ≡ false)
  none-came = neither taken.had_event (is_some (injection_in n taken)) (sym (injected-event n taken) ∙ (neither frozen.had_event _ no-event).0)

  taken-is : taken ≡ view_at net n r
  taken-is = all-quiet net setup n r l few none-came.0

  -- nothing is injected
  pub none-injected : is_some (injection_in n taken) ≡ false
  none-injected = none-came.1

  uninjected : is_some (injection_in n (view_at net n r)) ≡ false
  uninjected = ap (λ (x : View). is_some (injection_in n x)) (sym taken-is) ∙ none-came.1

  frozen-is : frozen ≡ record (view_at net n r) { given = n }
  frozen-is = ap (view_after_inject n) taken-is ∙ held-then n n (view_at net n r) uninjected (λ k. k)

  -- nothing was in flight to it
  pub quiet-silent : (flits tails credits : ℕ) → ShowsWires (view_at net n r) flits tails credits (beats net setup n r l) → IsSilent (beats net setup n r l)
  quiet-silent flits tails credits wires =
      words-silent net setup n r l tails
      (subst (λ c. ShowsWires (view_at net n r) 0 tails c (beats net setup n r l)) (nothing-returns net setup n r l few flits tails credits wires taken-is)
      (subst (λ f. ShowsWires (view_at net n r) f tails credits (beats net setup n r l)) (nothing-comes net setup n r l few flits tails credits wires taken-is) wires))

  -- no verdict took effect
  pub frozen-effect : takes_effect net.relation frozen ≡ false
  frozen-effect = (neither frozen.had_event _ no-event).1

  pub quiet-effect : takes_effect net.relation (view_at net n r) ≡ false
  quiet-effect =
      ap (λ (d : Decisions). list_any (λ (f : Finding). is_event f.verdict) d.findings) (sym (given-planned net.relation n (view_at net n r)))
      ∙ ap (takes_effect net.relation) (sym frozen-is)
      ∙ frozen-effect

  queue-same : (view_at net (suc n) r).queue ≡ (view_at net n r).queue
  unfolding local_step
  queue-same =
      ap (λ (x : View). x.queue) (sym (next-count net setup n r l few))
      ∙ ap (λ (x : View). x.queue) (still-committed net.relation frozen (neither frozen.had_event _ no-event).1)
      ∙ ap (λ (x : View). x.queue) frozen-is

  -- nothing is injected before a cycle, unless a packet becomes due
  pub quiet-held : (end : ℕ) → (suc n ≤ due_of (view_at net (suc n) r).queue → end ≤ due_of (view_at net (suc n) r).queue) → IsHeldBefore end (view_at net n r)
  quiet-held end due m less =
      held-then n m (view_at net n r) uninjected
      (subst (λ queue. n < due_of queue → m < due_of queue) queue-same (λ k. let u = due k in omega (arith, u, less)))

  same-round : (x : View) → (decisions_of net.relation x).round ≡ view_round x
  unfolding decisions_of
  same-round x = refl

  -- nothing is granted
  pub quiet-grants : (o : ℕ) → o < size net → slice_index_or (view_round (frozen_of net n r)).grants o None ≡ None
  quiet-grants o u =
      ap (λ (round : Round). slice_index_or round.grants o None) (sym (same-round frozen))
      ∙ no-grant net.relation frozen frozen-effect (frozen-size net setup n r l).some (frozen-tidy net setup n r l).owned_below o
      (subst (λ (s : Site). o < size_of s) (sym (frozen-seen net setup n r l).site) u)
