-- Two flits that leave by one output port in one cycle are one. So there is one flit on each link.
use Rattle.std.proofs.Common.{◌≡◌, ℕ, ◌+◌, ◌*◌, ◌/◌, ◌%◌, ◌<◌, Bool, true, false, cond, get_or, Option, Some, None, refl, ap, sym, ◌∙◌, inl, inr, subst, arith}
use Rattle.std.specs.Prelude.{nat_lt, option_map}
use Rattle.noc_theory.proofs.Common.{same_Some, div-mul-add, mod-mul-add, is_some_of, Has, local_port, Channel, Link, Inject, Eject, inputs, arrival_of, channel_vc, output_index, sending_router, Claim, Unrouted, Waits, Holds, Round, verdict_of, Setup, State, On, place_of_flit, end_of, next_channel, has_channel, verdict_in, verdict_at, claim_of, has_credit_in, round_at, count_in, gone_to, after_verdicts, Empty, Granted, Moved, LostChannel, LostInput, LostSwitch, is_some_of-true, IsValid}
use Rattle.noc_theory.proofs.worms.BuiltRecordLemmas.{IsBuilt}
use Rattle.noc_theory.proofs.worms.OwnedLemmas.{once-same}
use Rattle.noc_theory.proofs.worms.GrantLemmas.{IsWired}
use Rattle.noc_theory.proofs.worms.MoveLemmas.{IsMoving, IsMoved, moved-or-not, leads-end, no-end-eject, IsFirst}
use Rattle.noc_theory.proofs.worms.RoutedStateLemmas.{IsWholeFrozen}

-- a verdict Moved is that of the pick of its port, which won the output port
pub moved-wins : (vcs : ℕ) (rd : Round) (i : ℕ) (claim : Claim) (flit : Bool) → verdict_of vcs rd i claim flit ≡ Moved
    → (o : ℕ) × (claim ≡ Holds o true) × (get_or rd.picks (i / vcs) None ≡ Some (i % vcs)) × (get_or rd.wins (o / vcs) None ≡ Some (i / vcs))
moved-wins vcs rd i Unrouted true e = absurd (cc e)
moved-wins vcs rd i Unrouted false e = absurd (cc e)
moved-wins vcs rd i (Waits None) flit e = absurd (cc e)
moved-wins vcs rd i (Waits (Some o)) flit e = absurd (at (is_some_of (get_or rd.grants o None) i) e)
  where
    at : (b : Bool) → cond b Granted LostChannel ≡ Moved → ⊥
    at true k = cc k
    at false k = cc k
moved-wins vcs rd i (Holds o false) true e = absurd (cc e)
moved-wins vcs rd i (Holds o false) false e = absurd (cc e)
moved-wins vcs rd i (Holds o true) false e = absurd (cc e)
moved-wins vcs rd i (Holds o true) true e = at (is_some_of (get_or rd.picks (i / vcs) None) (i % vcs)) refl (is_some_of (get_or rd.wins (o / vcs) None) (i / vcs)) refl e
  where
    at : (a : Bool) → is_some_of (get_or rd.picks (i / vcs) None) (i % vcs) ≡ a → (b : Bool) → is_some_of (get_or rd.wins (o / vcs) None) (i / vcs) ≡ b → cond a (cond b Moved LostSwitch) LostInput ≡ Moved
        → (x : ℕ) × (Holds o true ≡ Holds x true) × (get_or rd.picks (i / vcs) None ≡ Some (i % vcs)) × (get_or rd.wins (x / vcs) None ≡ Some (i / vcs))
    at true h true k m = (o, refl, is_some_of-true _ _ h, is_some_of-true _ _ k)
    at true h false k m = absurd (cc m)
    at false h b k m = absurd (cc m)

module _ (net : Setup) (built : IsBuilt net) (wired : IsWired net) (F : State) (w : IsWholeFrozen net F) (n : ℕ) where
  abbrev T : State
  T = after_verdicts net n F

  abbrev Moves : ℕ → ℕ → Channel → Channel → Type 0
  Moves p i c o = IsMoving net built F w.sound.keyed w.sound.worm n w.sound.still p i c o

  -- where a channel moves by output port a of router r
  record IsThrough (c : Channel) (r a : ℕ) : Type 0 where
    port : ℕ
    arrives : arrival_of net.relation.grid c ≡ Some (r, port)
    pick : get_or (round_at net F r).picks port None ≡ Some (channel_vc c)
    win : get_or (round_at net F r).wins a None ≡ Some port

  -- a channel of output port a of router r
  pub record IsOutput (o : Channel) (r a : ℕ) : Type 0 where
    pub begins : sending_router o ≡ Some r
    pub port : output_index net.relation.grid net.relation.vcs o / net.relation.vcs ≡ a

  pub link-output : (r a v : ℕ) → v < net.relation.vcs → IsOutput (Link r a v) r a
  link-output r a v l = record { begins = refl; port = div-mul-add a net.relation.vcs v l }

  pub eject-output : (r v : ℕ) → v < net.relation.vcs → IsOutput (Eject r v) r (local_port net.relation.grid)
  eject-output r v l = record { begins = refl; port = div-mul-add (local_port net.relation.grid) net.relation.vcs v l }

  through : (c o : Channel) (r a : ℕ) → Has c (inputs net.relation.grid net.relation.vcs) → IsOutput o r a → verdict_in net F c ≡ Moved → next_channel net F c ≡ Some o → end_of net.relation c ≡ Some r → IsThrough c r a
  through c o r a h output m next ends = at (arrival_of net.relation.grid c) refl
    where
      holds : (y i : ℕ) → claim_of net F y c ≡ Holds i true → output_index net.relation.grid net.relation.vcs o ≡ i
      holds y i e = by (has_channel F.routed c) refl
        where
          by : (b : Bool) → has_channel F.routed c ≡ b → output_index net.relation.grid net.relation.vcs o ≡ i
          by false k = let g : Unrouted ≡ Holds i true = sym (rw k) ∙ e in absurd (cc g)
          by true k = let g : Holds (output_index net.relation.grid net.relation.vcs o) (has_credit_in net F o) ≡ Holds i true = sym (rw (k, next)) ∙ e in cc

      at : (y : Option (ℕ × ℕ)) → arrival_of net.relation.grid c ≡ y → IsThrough c r a
      at None e = let g : Empty ≡ Moved = sym (ap (verdict_at net F c) e) ∙ m in absurd (cc g)
      at (Some place) e =
          let i : ℕ = place.1 * net.relation.vcs + channel_vc c in
          let w = moved-wins net.relation.vcs (round_at net F place.0) (place.1 * net.relation.vcs + channel_vc c) (claim_of net F place.0 c) (nat_lt 0 (count_in net F c)) (sym (ap (verdict_at net F c) e) ∙ m) in
          let router : place.0 ≡ r = same_Some place.0 r (sym (ap (option_map (λ (z : ℕ × ℕ). z.0)) e) ∙ ends) in
          let port : (place.1 * net.relation.vcs + channel_vc c) / net.relation.vcs ≡ place.1 = div-mul-add place.1 net.relation.vcs (channel_vc c) (wired.low c h) in
          let vc : (place.1 * net.relation.vcs + channel_vc c) % net.relation.vcs ≡ channel_vc c = mod-mul-add place.1 net.relation.vcs (channel_vc c) (wired.low c h) in
          let out : w.0 / net.relation.vcs ≡ a = ap (λ z. z / net.relation.vcs) (sym (holds place.0 w.0 w.1)) ∙ output.port in
          record {
            port = place.1;
            arrives = e ∙ ap (λ z. Some (z, place.1)) router;
            pick = ap (λ z. get_or (round_at net F z).picks place.1 None) (sym router) ∙ ap (λ z. get_or (round_at net F place.0).picks z None) (sym port) ∙ w.2 ∙ ap Some vc;
            win = ap (λ z. get_or (round_at net F z).wins a None) (sym router) ∙ ap (λ z. get_or (round_at net F place.0).wins z None) (sym out) ∙ w.3 ∙ ap Some port;
          }

  one-through : (c d : Channel) (r a : ℕ) → Has c (inputs net.relation.grid net.relation.vcs) → Has d (inputs net.relation.grid net.relation.vcs) → IsThrough c r a → IsThrough d r a → c ≡ d
  one-through c d r a hc hd s t =
      let ports : s.port ≡ t.port = same_Some _ _ (sym s.win ∙ t.win) in
      let vcs : channel_vc c ≡ channel_vc d = same_Some _ _ (sym s.pick ∙ ap (λ z. get_or (round_at net F r).picks z None) ports ∙ t.pick) in
      wired.found c d hc hd (s.arrives ∙ ap (λ z. Some (r, z)) ports ∙ sym t.arrives) vcs

  -- a flit on a wire came there from a buffer
  came : (p i : ℕ) (o : Channel) → IsValid net p i → place_of_flit net T p i ≡ On o → (c : Channel) × Moves p i c o
  came p i o v e = at (moved-or-not net built F w.sound.keyed w.sound.worm n w.sound.still p i v)
    where
      by : (c d : Channel) → Moves p i c d → gone_to net n c (Some d) ≡ On o → (c : Channel) × Moves p i c o
      by c (Link r a u) m z = let s : Link r a u ≡ o = cc in (c, subst (λ (y : Channel). Moves p i c y) s m)
      by c (Inject k u) m z = absurd (cc z)
      by c (Eject k u) m z = absurd (cc z)

      at : IsMoved net built F w.sound.keyed w.sound.worm n w.sound.still p i → (c : Channel) × Moves p i c o
      at (inl s) = absurd (w.sound.still p i v o (sym s.now ∙ e))
      at (inr r) = by r.0 r.1 r.2 (sym r.2.now ∙ e)

  -- two flits that leave by one output port are one
  pub one-mover : (p i q j r a : ℕ) (c x d y : Channel) → Moves p i c x → Moves q j d y → IsOutput x r a → IsOutput y r a → (p ≡ q) × (i ≡ j)
  one-mover p i q j r a c x d y s t outx outy =
      let lc = leads-end net c x s.next.leads in
      let ld = leads-end net d y t.next.leads in
      let ec : end_of net.relation c ≡ Some r = lc.2 ∙ sym lc.1 ∙ outx.begins in
      let ed : end_of net.relation d ≡ Some r = ld.2 ∙ sym ld.1 ∙ outy.begins in
      let hc : Has c (inputs net.relation.grid net.relation.vcs) = w.covered c p (s.owns, no-end-eject net c r ec) in
      let hd : Has d (inputs net.relation.grid net.relation.vcs) = w.covered d q (t.owns, no-end-eject net d r ed) in
      let same : c ≡ d = one-through c d r a hc hd (through c x r a hc outx s.moves s.goes ec) (through d y r a hd outy t.moves t.goes ed) in
      let own : Has (c, q) F.own = subst (λ (z : Channel). Has (z, q) F.own) (sym same) t.owns in
      let pairs : ◌≡◌ {A = Channel × ℕ} (c, p) (c, q) = once-same (c, p) (c, q) F.own w.sound.worm.once s.owns own refl in
      let packets : p ≡ q = ap (λ (z : Channel × ℕ). z.1) pairs in
      let mine : IsFirst net built F w.sound.keyed w.sound.worm c q i = subst (λ (z : ℕ). IsFirst net built F w.sound.keyed w.sound.worm c z i) packets s.first in
      let other : IsFirst net built F w.sound.keyed w.sound.worm c q j = subst (λ (z : Channel). IsFirst net built F w.sound.keyed w.sound.worm z q j) (sym same) t.first in
      let low = mine.least j other.valid other.there in
      let high = other.least i mine.valid mine.there in
      (packets, omega arith)

  -- two flits on one link are one
  pub one-on-link : (p i q j r a v u : ℕ) → IsValid net p i → IsValid net q j → place_of_flit net T p i ≡ On (Link r a v) → place_of_flit net T q j ≡ On (Link r a u) → (p ≡ q) × (i ≡ j)
  one-on-link p i q j r a v u vi vj e f =
      let s = came p i (Link r a v) vi e in
      let t = came q j (Link r a u) vj f in
      let low : (p v : ℕ) → Has (Link r a v, p) F.own → v < net.relation.vcs = λ p v h. wired.low (Link r a v) (w.covered (Link r a v) p (h, (λ z. z))) in
      one-mover p i q j r a s.0 (Link r a v) t.0 (Link r a u) s.1 t.1 (link-output r a v (low p v s.1.next.owns)) (link-output r a u (low q u t.1.next.owns))
