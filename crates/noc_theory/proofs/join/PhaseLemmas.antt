-- What each phase of a cycle does to a view that shows a state: it shows the state after the same
-- phase of the whole network.
use Rattle.std.specs.Prelude.{◌≡◌, ℕ, ◌<◌, Bool, false, ◌||◌, length, Some, option_map, unwrap_or, is_some, if◌then◌else◌, slice_index_or}
use Rattle.noc_theory.proofs.Common.{list_any, below, tabulate, map_indexed, is_some_of, nodes, neighbour, sending_router, is_event, View, view_after_takes, view_after_inject, decisions_of, view_after_commit, counts_after, idle_beat, opening_view, Verdict, Empty, Setup, State, Located, size, arriving, after_landing, after_credits, after_injection, after_verdicts, injection_at, verdict_in, beats_at, beat_by, beats_in, flies_to, finding_in, view_at, site_at, starts_at, ends_at, IsSeen}
use Rattle.noc_theory.proofs.join.OrderedLemmas.{IsOrdered, IsOrderedFrozen}
use Rattle.noc_theory.specs.Seen.{IsAsNoted}

module _ (net : Setup) where
  -- the state after the landings and the credits
  abbrev pub mid : State → State
  mid S = after_credits net (after_landing net S)

  -- whether a flit or a credit comes to router r
  abbrev pub has_arrival : ℕ → State → Bool
  has_arrival r S = list_any (λ (f : Located). flies_to net r f.place) S.at || list_any (λ c. is_some_of (sending_router c) r) S.back

  pub record IsTaken (S : State) (r : ℕ) (v w : View) : Type 0 where
    pub seen : IsSeen net (mid S) r w
    pub noted : IsAsNoted net v w
    pub event : w.had_event ≡ has_arrival r S

  pub record IsInjected (M : State) (n r : ℕ) (v w : View) : Type 0 where
    pub seen : IsSeen net (after_injection net n M) r w
    pub noted : IsAsNoted net v w
    pub given : w.given ≡ n
    pub event : w.had_event ≡ (v.had_event || is_some (injection_at net M n r))

  -- the verdict of input channel i of router r
  abbrev pub verdict_by : State → ℕ → ℕ → Verdict
  verdict_by F r i = unwrap_or (option_map (verdict_in net F) (arriving net r i)) Empty

  pub record IsCommitted (F : State) (n r : ℕ) (v w : View) : Type 0 where
    pub seen : IsSeen net (after_verdicts net n F) r w
    pub findings : w.findings ≡ tabulate (size net) (λ i. finding_in net F r i (arriving net r i))
    pub given : w.given ≡ n
    pub event : w.had_event ≡ false
    pub last_event : w.last_event ≡ (if v.had_event || list_any (λ i. is_event (verdict_by F r i)) (below (size net)) then Some n else v.last_event)
    pub counts : w.counts ≡ map_indexed (λ i counts. counts_after (verdict_by F r i) counts) v.counts
    pub beats : (port s q : ℕ) → neighbour net.relation.grid s q ≡ Some (r, port) → s < nodes net.relation.grid → slice_index_or w.to_put port idle_beat ≡ beat_by net (after_verdicts net n F) s q (Some (r, port))

  pub record ArePhases : Type 0 where
    pub takes : (S : State) → IsOrdered net S → (r : ℕ) → r < nodes net.relation.grid → (v : View) → IsSeen net S r v → v.had_event ≡ false
        → IsTaken S r v (view_after_takes net.relation (beats_at (beats_in net S) r) v)
    pub injects : (M : State) → IsOrderedFrozen net M → (n r : ℕ) → r < nodes net.relation.grid → (v : View) → IsSeen net M r v → IsInjected M n r v (view_after_inject n v)
    pub commits : (F : State) → IsOrderedFrozen net F → (n r : ℕ) → r < nodes net.relation.grid → (v : View) → IsSeen net F r v → v.given ≡ n → length v.counts ≡ size net
        → IsCommitted F n r v (view_after_commit (decisions_of net.relation v) v)
    pub opens : (r : ℕ) → r < nodes net.relation.grid → opening_view (site_at net r) (starts_at net r) (ends_at net r) ≡ view_at net 0 r
