-- The verdicts take effect on what waits at the source, on the arbiters and on what is counted.
use Rattle.std.proofs.Common.{◌≡◌, ℕ, ◌<◌, false, List, [], length, get_or, Option, Some, None, refl, ap, sym, ◌∙◌, arith}
use Rattle.std.specs.Prelude.{find, count_by, option_map, unwrap_or, ◌||◌, not, nat_eq}
use Rattle.noc_view.specs.View.{has_event}
use Rattle.noc_theory.proofs.Common.{list_any, none-some, below, tabulate, map_indexed, Has, nodes, get_or-map_indexed, length-map_indexed, map_indexed-from_each, Channel, Link, Inject, Eject, channel_vc, is_event, arbiters_after, View, Decisions, decisions_of, counts_after, decided_verdict, Verdict, Empty, Finding, finding_in, seen_sending, Setup, State, Located, Source, In, size, arriving, tail_place, flits_of, owned_by, is_at_source, is_injection_of, first_waiting, arbiters_at, round_at, verdict_in, gone_to, after_verdicts, IsSeen}
use Rattle.noc_theory.proofs.worms.InjectionStateLemmas.{waiting-is}
use Rattle.noc_theory.proofs.worms.PathLemmas.{no-inject}
use Rattle.noc_theory.proofs.worms.VerdictPhaseLemmas.{inject-kept, tail-of}
use Rattle.noc_theory.proofs.worms.StateWordLemmas.{class_of, goal}
use Rattle.noc_theory.proofs.worms.MemberLemmas.{any-same}
use Rattle.noc_theory.proofs.verdicts.AfterLemmas.{whole, wormT, step, goes, Goes, stays, moves, was-owned, WasOwned, kept, given}
use Rattle.noc_theory.proofs.verdicts.CommitInputLemmas.{decided-none, decided-some}
use Rattle.noc_theory.proofs.join.OrderedLemmas.{IsGood, IsOrderedFrozen}
use Rattle.noc_theory.proofs.join.PhaseLemmas.{verdict_by}
use Rattle.noc_theory.proofs.injection.SourceStateLemmas.{any-map, injection-at, injection-own, injection-none, waiting-same}
use Rattle.noc_theory.proofs.verdicts.StandLemmas.{InputCase, none, some, input-case, findings-are}
use Rattle.noc_theory.proofs.join.LockstepStepLemmas.{count-step, any-step}

module _ (net : Setup) (good : IsGood net) (F : State) (x : IsOrderedFrozen net F) (n : ℕ) where
  abbrev T : State
  T = after_verdicts net n F

  gone-source : (c : Channel) (o : Option Channel) → is_at_source (gone_to net n c o) ≡ false
  gone-source c None = refl
  gone-source c (Some (Link a b w)) = refl
  gone-source c (Some (Inject a w)) = refl
  gone-source c (Some (Eject a w)) = refl

  pub source-same : (f : Located) → Has f F.at → is_at_source (step net good F x n f).place ≡ is_at_source f.place
  source-same f h = by (goes net good F x n f h)
    where
      by : Goes net good F x n f → is_at_source (step net good F x n f).place ≡ is_at_source f.place
      by (stays s t) = ap is_at_source s
      by (moves c o m was now) = ap is_at_source now ∙ gone-source c (Some o) ∙ sym (ap is_at_source was)

  pub waits-same : (p : ℕ) → list_any (λ (f : Located). is_at_source f.place) (flits_of net T p) ≡ list_any (λ (f : Located). is_at_source f.place) (flits_of net F p)
  unfolding after_verdicts
  waits-same p =
      any-step (λ (f : Located). is_at_source f.place) (λ (f : Located). is_at_source f.place) (λ (f : Located). nat_eq p f.packet) (step net good F x n) (λ f. refl) F.at (λ f h q. source-same f h)

  count-same : (p : ℕ) → count_by (λ (f : Located). not (is_at_source f.place)) (flits_of net T p) ≡ count_by (λ (f : Located). not (is_at_source f.place)) (flits_of net F p)
  unfolding after_verdicts
  count-same p =
      count-step (λ (f : Located). not (is_at_source f.place)) (λ (f : Located). not (is_at_source f.place)) (λ (f : Located). nat_eq p f.packet) (step net good F x n) (λ f. refl) F.at (λ f h q. ap not (source-same f h))

  -- a packet that waits keeps its injection channel, and gets none
  channel-same : (p node : ℕ) → tail_place net F p ≡ Source → find (is_injection_of net node) (owned_by net T p) ≡ find (is_injection_of net node) (owned_by net F p)
  channel-same p node tail = at (find (is_injection_of net node) (owned_by net F p)) refl
    where
      at : (o : Option Channel) → find (is_injection_of net node) (owned_by net F p) ≡ o → find (is_injection_of net node) (owned_by net T p) ≡ find (is_injection_of net node) (owned_by net F p)
      at (Some c) e =
          let r = injection-own net good.built F x.whole.sound.keyed x.whole.sound.worm p node c e in
          let own = inject-kept net good.built good.wired F x.whole.sound.keyed x.whole.sound.worm n x.whole.sound.still node r.0 p r.2
          (λ t.
          let z : Source ≡ In (Inject node r.0) = sym tail ∙ (tail-of net good.built good.wired F x.whole.sound.keyed x.whole.sound.worm n x.whole.sound.still (Inject node r.0) p r.2 t).1.there in cc z) in
          injection-at net good.built T (whole net good F x n).sound.keyed (wormT net good F x n) p node r.0 own ∙ sym (e ∙ ap Some r.1)
      at None e = injection-none net good.built T (whole net good F x n).sound.keyed (wormT net good F x n) p node (λ v h. by v (was-owned net good F x n (Inject node v) p h)) ∙ sym e
        where
          by : (v : ℕ) → WasOwned net good F x n (Inject node v) p → ⊥
          by v (kept own rel) = none-some (Inject node v) (sym e ∙ injection-at net good.built F x.whole.sound.keyed x.whole.sound.worm p node v own)
          by v (given d member pair g) = no-inject net good.built (class_of net p) (goal net p) d node v g.allowed

  pub sending-after : (r : ℕ) → seen_sending net T r (first_waiting net T r) ≡ seen_sending net F r (first_waiting net F r)
  sending-after r = ap (seen_sending net T r) (waiting-same net F T waits-same r) ∙ at (first_waiting net F r) refl
    where
      at : (o : Option ℕ) → first_waiting net F r ≡ o → seen_sending net T r o ≡ seen_sending net F r o
      at None e = refl
      at (Some p) e =
          let tail : tail_place net F p ≡ Source = (waiting-is net good.built F x.whole.sound.keyed x.whole.sound.worm n r p e).2 in
          ap (option_map (λ c. (channel_vc c, count_by (λ (f : Located). not (is_at_source f.place)) (flits_of net T p)))) (channel-same p r tail)
          ∙ ap (λ k. option_map (λ c. (channel_vc c, k)) (find (is_injection_of net r) (owned_by net F p))) (count-same p)

  pub arbiters-after : (r : ℕ) → r < nodes net.relation.grid → arbiters_after (round_at net F r) (arbiters_at net F r) ≡ arbiters_at net T r
  unfolding after_verdicts
  arbiters-after r l =
      sym (get_or-map_indexed (λ s arbiters. arbiters_after (round_at net F s) arbiters) F.arbiters r (record { channels = []; inputs = []; outputs = [] }) (record { channels = []; inputs = []; outputs = [] }) (let e = x.more.n_arbiters in omega (arith, e)))

  module _ (r : ℕ) (l : r < nodes net.relation.grid) (v : View) (seen : IsSeen net F r v) where
    abbrev D : Decisions
    D = decisions_of net.relation v

    finding-verdict : (i : ℕ) (o : Option Channel) → (finding_in net F r i o).verdict ≡ unwrap_or (option_map (verdict_in net F) o) Empty
    finding-verdict i None = refl
    finding-verdict i (Some c) = refl

    pub decided-by : (i : ℕ) → i < size net → decided_verdict D i ≡ verdict_by net F r i
    decided-by i u = by (input-case net good F x r l v seen i u)
      where
        by : InputCase net good F x r l v seen i → decided_verdict D i ≡ verdict_by net F r i
        by (none e) = decided-none net good F x n r l v seen i u e ∙ sym (ap (λ (o : Option Channel). unwrap_or (option_map (verdict_in net F) o) Empty) e)
        by (some c e at) = decided-some net good F x n r l v seen i c u e ∙ sym (ap (λ (o : Option Channel). unwrap_or (option_map (verdict_in net F) o) Empty) e)

    pub event-is : has_event D v ≡ (v.had_event || list_any (λ i. is_event (verdict_by net F r i)) (below (size net)))
    unfolding tabulate
    event-is =
        ap (λ (fs : List Finding). v.had_event || list_any (λ (f : Finding). is_event f.verdict) fs) (findings-are net good F x r l v seen)
        ∙ ap (λ b. v.had_event || b)
        (any-map (λ (f : Finding). is_event f.verdict) (λ i. finding_in net F r i (arriving net r i)) (below (size net))
        ∙ any-same (λ i. is_event (finding_in net F r i (arriving net r i)).verdict) (λ i. is_event (verdict_by net F r i)) (below (size net)) (λ i h. ap is_event (finding-verdict i (arriving net r i))))

    pub counts-are : length v.counts ≡ size net → map_indexed (λ i counts. counts_after (decided_verdict D i) counts) v.counts ≡ map_indexed (λ i counts. counts_after (verdict_by net F r i) counts) v.counts
    counts-are len =
        map_indexed-from_each (λ i counts. counts_after (verdict_by net F r i) counts) v.counts (map_indexed (λ i counts. counts_after (decided_verdict D i) counts) v.counts) [] [] (length-map_indexed _ v.counts)
        (λ i u. get_or-map_indexed (λ i counts. counts_after (decided_verdict D i) counts) v.counts i [] [] u ∙ ap (λ (y : Verdict). counts_after y (get_or v.counts i [])) (decided-by i (omega (arith, len))))
