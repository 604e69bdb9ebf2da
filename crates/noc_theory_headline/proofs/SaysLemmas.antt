-- Each input channel gets each verdict exactly where that says what holds.
use Rattle.std.proofs.Common.{◌≡◌, ℕ, ◌/◌, ◌%◌, ◌<◌, Bool, true, false, get_or, Option, Some, None, refl, ap, sym, ◌∙◌, subst}
use Rattle.std.specs.Prelude.{nat_lt, if◌then◌else◌, ◌↔◌}
use Rattle.std.proofs.lemmas.Bool.{false≢true, lt-ltb, ltb-true, false_from_ne_true}
use Rattle.noc_topo.specs.Lists.{is_some_of}
use Rattle.noc_topo.specs.Shape.{nodes}
use Rattle.noc_alloc.proofs.WordLemmas.{is_some_of-true, is_some_of-some}
use Rattle.noc_route.specs.Channel.{Channel}
use Rattle.noc_view.specs.Verdict.{Claim, Unrouted, Waits, Holds, verdict_of}
use Rattle.noc_view.specs.declared.verdict.Verdict.{Verdict}
use Rattle.noc_view.specs.declared.verdict.Verdict.TheVariants.{Empty, Routed, Granted, Moved, NoFlit, NoIdleChannel, LostChannel, NoCredit, LostInput, LostSwitch}
use Rattle.noc_theory.specs.Network.{Setup, State, leaving, has_credit_in, claim_of, count_in, round_at, verdict_in}
use Rattle.noc_theory.proofs.join.OrderedLemmas.{IsGood, IsOrderedFrozen}
use Rattle.noc_theory.proofs.join.PlaceViewLemmas.{IsAt, port-below}
use Rattle.noc_theory_headline.specs.Headline.{HasFlit, GoesOnBy, AsksForChannel, CanSend, Says, IsPick}
use Rattle.noc_theory_headline.proofs.ClaimLemmas.{Case, off, all_taken, asks, goes, case-of, claim-off, claim-waits, claim-goes, ask-none, credit-true, credit-from, verdict-at}
use Rattle.noc_theory_headline.proofs.RoundLemmas.{asks-claim, sends-claim, granted-wins, wins-granted, picked-is, is-picked, won-is, is-won}

none-of : (o : Option ℕ) (k : ℕ) → (o ≡ Some k → ⊥) → is_some_of o k ≡ false
none-of o k n = false_from_ne_true (is_some_of o k) (λ t. n (is_some_of-true o k t))

module _ (net : Setup) (good : IsGood net) (F : State) (x : IsOrderedFrozen net F) (r : ℕ) (l : r < nodes net.relation.grid) (i : ℕ) (c : Channel) (at : IsAt net good r i c) where
  abbrev vcs : ℕ
  vcs = net.relation.vcs

  abbrev Is : Verdict → Type 0
  Is v = Says net F r i c v

  value : (claim : Claim) (b : Bool) → claim_of net F r c ≡ claim → nat_lt 0 (count_in net F c) ≡ b → verdict_in net F c ≡ verdict_of vcs (round_at net F r) i claim b
  value claim b e h =
      verdict-at net good F x r i c at ∙ ap (λ (y : Claim). verdict_of vcs (round_at net F r) i y (nat_lt 0 (count_in net F c))) e
      ∙ ap (verdict_of vcs (round_at net F r) i claim) h

  no_flits : (o : ℕ) (b : Bool) → verdict_of vcs (round_at net F r) i (Holds o b) false ≡ NoFlit
  no_flits o true = refl
  no_flits o false = refl

  empty : nat_lt 0 (count_in net F c) ≡ false → ¬ HasFlit net F r c
  empty f h = false≢true (sym f ∙ lt-ltb _ _ h)

  in_port : i / net.relation.vcs < Rattle.noc_topo.specs.Shape.ports net.relation.grid
  in_port = port-below net good i at.index

  holds : Is (verdict_in net F c)
  holds = by (case-of net good F x r i c at) (nat_lt 0 (count_in net F c)) refl
    where
      choice : (o : ℕ) → AsksForChannel net F r c o → (t : Bool) → is_some_of (get_or (round_at net F r).grants o None) i ≡ t → Is (if t then Granted else LostChannel)
      choice o a true t = (o, a, granted-wins net good F x r l i o a.may.exists (is_some_of-true _ i t))
      choice o a false t = (o, a, λ w. false≢true (sym t ∙ is_some_of-some _ i (wins-granted net good F x r l i o a.may.exists w)))

      switch : (o : ℕ) → CanSend net F r c o → (s : Bool) → is_some_of (get_or (round_at net F r).picks (i / vcs) None) (i % vcs) ≡ s
          → (t : Bool) → is_some_of (get_or (round_at net F r).wins (o / vcs) None) (i / vcs) ≡ t → Is (if s then (if t then Moved else LostSwitch) else LostInput)
      switch o a false s t w = (o, a, λ p. false≢true (sym s ∙ is_some_of-some _ (i % vcs) (is-picked net good F x r l (i / vcs) (i % vcs) in_port p)))
      switch o a true s false w = (
        o,
        a,
        picked-is net good F x r l (i / vcs) (i % vcs) in_port (is_some_of-true _ (i % vcs) s),
        λ q. false≢true (sym w ∙ is_some_of-some _ (i / vcs) (is-won net good F x r l (o / vcs) (i / vcs) (port-below net good o a.goes.exists) q)),
      )
      switch o a true s true w = (
        o,
        a,
        picked-is net good F x r l (i / vcs) (i % vcs) in_port (is_some_of-true _ (i % vcs) s),
        won-is net good F x r l (o / vcs) (i / vcs) (port-below net good o a.goes.exists) (is_some_of-true _ (i / vcs) w),
      )

      sends : (o : ℕ) → GoesOnBy net F r c o → HasFlit net F r c → (b : Bool) → has_credit_in net F (leaving net r o) ≡ b → Is (verdict_of vcs (round_at net F r) i (Holds o b) true)
      sends o g f false h = (o, g, f, λ k. false≢true (sym h ∙ credit-from net good F x r (leaving net r o) k))
      sends o g f true h =
          switch o (record { goes = g; flit = f; credit = credit-true net good F x r (leaving net r o) h })
          (is_some_of (get_or (round_at net F r).picks (i / vcs) None) (i % vcs)) refl (is_some_of (get_or (round_at net F r).wins (o / vcs) None) (i / vcs)) refl

      by : Case net good F x r c → (b : Bool) → nat_lt 0 (count_in net F c) ≡ b → Is (verdict_in net F c)
      by (off n k) true f = subst Is (sym (value Unrouted true k f)) (n, ltb-true _ _ f)
      by (off n k) false f = subst Is (sym (value Unrouted false k f)) (n, empty f)
      by (all_taken w none k) b f = subst Is (sym (value (Waits None) b k f)) (w, none)
      by (asks o a k) b f = subst Is (sym (value (Waits (Some o)) b k f)) (choice o a (is_some_of (get_or (round_at net F r).grants o None) i) refl)
      by (goes o g k) false f = subst Is (sym (value (Holds o (has_credit_in net F (leaving net r o))) false k f ∙ no_flits o (has_credit_in net F (leaving net r o)))) (o, g, empty f)
      by (goes o g k) true f = subst Is (sym (value (Holds o (has_credit_in net F (leaving net r o))) true k f)) (sends o g (ltb-true _ _ f) (has_credit_in net F (leaving net r o)) refl)

  some : HasFlit net F r c → nat_lt 0 (count_in net F c) ≡ true
  some h = lt-ltb _ _ h

  none : (¬ HasFlit net F r c) → nat_lt 0 (count_in net F c) ≡ false
  none n = false_from_ne_true (nat_lt 0 (count_in net F c)) (λ t. n (ltb-true _ _ t))

  granted : (o : ℕ) → AsksForChannel net F r c o → (t : Bool) → is_some_of (get_or (round_at net F r).grants o None) i ≡ t → verdict_in net F c ≡ (if t then Granted else LostChannel)
  granted o a t e =
      value (Waits (Some o)) (nat_lt 0 (count_in net F c)) (asks-claim net good F x r l i c at o a) refl
      ∙ ap (λ b. if b then Granted else LostChannel) e

  sent : (o : ℕ) → CanSend net F r c o → (s : Bool) → is_some_of (get_or (round_at net F r).picks (i / vcs) None) (i % vcs) ≡ s
      → (t : Bool) → is_some_of (get_or (round_at net F r).wins (o / vcs) None) (i / vcs) ≡ t → verdict_in net F c ≡ (if s then (if t then Moved else LostSwitch) else LostInput)
  sent o a s e t h =
      value (Holds o true) true (sends-claim net good F x r l i c at o a) (some a.flit)
      ∙ ap (λ b. if b then (if is_some_of (get_or (round_at net F r).wins (o / vcs) None) (i / vcs) then Moved else LostSwitch) else LostInput) e
      ∙ ap (λ b. if s then (if b then Moved else LostSwitch) else LostInput) h

  picked : IsPick net F r (i / net.relation.vcs) (i % net.relation.vcs) → is_some_of (get_or (round_at net F r).picks (i / vcs) None) (i % vcs) ≡ true
  picked p = is_some_of-some _ (i % vcs) (is-picked net good F x r l (i / vcs) (i % vcs) in_port p)

  back : (v : Verdict) → Is v → verdict_in net F c ≡ v
  back Empty s = value Unrouted false (claim-off net good F x r c s.0) (none s.1)
  back Routed s = value Unrouted true (claim-off net good F x r c s.0) (some s.1)
  back NoIdleChannel s =
      let held = x.whole.routed.mid.only c s.0.routed in
      value (Waits None) (nat_lt 0 (count_in net F c))
      (claim-waits net good F x r i c at s.0
      ∙ ap Waits (ask-none net good F x r held.0 c (Rattle.noc_theory.proofs.worms.OwnedLemmas.owner-is net F c held.0 x.whole.sound.worm.once held.1.0) s.1)) refl
  back LostChannel s = granted s.0 s.1 false (none-of _ i (λ g. s.2 (granted-wins net good F x r l i s.0 s.1.may.exists g)))
  back Granted s = granted s.0 s.1 true (is_some_of-some _ i (wins-granted net good F x r l i s.0 s.1.may.exists s.2))
  back NoFlit s = value (Holds s.0 (has_credit_in net F (leaving net r s.0))) false (claim-goes net good F x r i c at s.0 s.1) (none s.2) ∙ no_flits s.0 (has_credit_in net F (leaving net r s.0))
  back NoCredit s =
      value (Holds s.0 false) true
      (claim-goes net good F x r i c at s.0 s.1 ∙ ap (Holds s.0) (false_from_ne_true (has_credit_in net F (leaving net r s.0)) (λ t. s.3 (credit-true net good F x r (leaving net r s.0) t)))) (some s.2)
  back LostInput s =
      sent s.0 s.1 false (none-of _ (i % vcs) (λ g. s.2 (picked-is net good F x r l (i / vcs) (i % vcs) in_port g)))
      (is_some_of (get_or (round_at net F r).wins (s.0 / vcs) None) (i / vcs)) refl
  back LostSwitch s =
      sent s.0 s.1 true (picked s.2) false
      (none-of _ (i / vcs) (λ g. s.3 (won-is net good F x r l (s.0 / vcs) (i / vcs) (port-below net good s.0 s.1.goes.exists) g)))
  back Moved s =
      sent s.0 s.1 true (picked s.2) true
      (is_some_of-some _ (i / vcs) (is-won net good F x r l (s.0 / vcs) (i / vcs) (port-below net good s.0 s.1.goes.exists) s.3))

  pub verdict-says : (v : Verdict) → (verdict_in net F c ≡ v) ↔ Is v
  verdict-says v = ((λ e. subst Is e holds), back v)
