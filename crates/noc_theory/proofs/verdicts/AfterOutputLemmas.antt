-- After the verdicts: how many flits are on a wire and in a buffer, and how many credits there are.
use Rattle.std.proofs.Common.{◌≡◌, ℕ, zero, suc, ◌+◌, ◌-◌, ◌≤◌, Bool, true, false, length, refl, ap, sym, ◌∙◌, inl, inr, subst, arith}
use Rattle.std.specs.Prelude.{◌⊎◌, ◌&&◌}
use Rattle.std.proofs.lemmas.List.{length-drop}
use Rattle.noc_theory.proofs.Common.{false≢true, Has, one_if, Channel, is_link, is_moved, Setup, State, Located, is_on, count_on, count_in, credit_of, has_channel, verdict_in, after_verdicts, all_inputs, is_moved-true}
use Rattle.noc_theory.proofs.worms.BufferLemmas.{buffer-moved, buffer-stays, next-some}
use Rattle.noc_theory.proofs.worms.InjectionRoomLemmas.{filter-none}
use Rattle.noc_theory.proofs.worms.MemberLemmas.{Has-mapped, Has-map}
use Rattle.noc_theory.proofs.worms.MoveLemmas.{next-once}
use Rattle.noc_theory.proofs.worms.PlaceLemmas.{place-of-flit, is_on-is}
use Rattle.noc_theory.proofs.worms.RoomLemmas.{count-one_more, filter-some, Gains}
use Rattle.noc_theory.proofs.worms.RoutedVerdictLemmas.{has-channel}
use Rattle.noc_theory.proofs.worms.VerdictRoomLemmas.{comes-on, moved-facts, sorted-distinct}
use Rattle.noc_theory.proofs.verdicts.AfterLemmas.{step, Moves}
use Rattle.noc_theory.proofs.verdicts.NextViewLemmas.{channel-filter}
use Rattle.noc_theory.proofs.join.OrderedLemmas.{IsGood, IsOrderedFrozen}
use Rattle.noc_theory.proofs.injection.SourceLemmas.{same-owner, next-owner, not-end}

module _ (net : Setup) (good : IsGood net) (F : State) (x : IsOrderedFrozen net F) (n : ℕ) where
  abbrev T : State
  T = after_verdicts net n F

  abbrev Goes : ℕ → ℕ → Channel → Channel → Type 0
  Goes p i c o = Moves net good F x n p i c o

  pub comes : (o : Channel) (f : Located) → Has f F.at → is_on o (step net good F x n f).place ≡ true → (c : Channel) × Goes f.packet f.index c o
  comes o f h e = comes-on net good.built F x.whole.sound.keyed x.whole.sound.worm n x.whole.sound.still o f h e

  none-on : (o : Channel) → count_on net F o ≡ 0
  none-on o = cases (filter-some (λ (f : Located). is_on o f.place) F.at)
    where
      cases : (count_on net F o ≡ 0) ⊎ ((f : Located) × Has f F.at × (is_on o f.place ≡ true)) → count_on net F o ≡ 0
      cases (inl e) = e
      cases (inr r) =
          let f : Located = r.0 in
          absurd (x.whole.sound.still f.packet f.index (x.whole.sound.keyed.valid f r.1) o (place-of-flit net F x.whole.sound.keyed f r.1 ∙ is_on-is o f.place r.2))

  one-comes : (o : Channel) (f g : Located) → Has f F.at → Has g F.at → Gains (λ (y : Located). is_on o y.place) (step net good F x n) f → Gains (λ (y : Located). is_on o y.place) (step net good F x n) g
      → (f.packet ≡ g.packet) × (f.index ≡ g.index)
  one-comes o f g hf hg a b =
      let y = comes o f hf a.1 in
      let z = comes o g hg b.1 in
      let packets : f.packet ≡ g.packet = same-owner net good F x.whole.sound.keyed x.whole.sound.worm o f.packet g.packet y.1.next.owns z.1.next.owns in
      same_index y.0 z.0 g.packet f.index g.index packets y.1 z.1
    where
      same_index : (c d : Channel) (q i j : ℕ) → f.packet ≡ q → Goes f.packet i c o → Goes q j d o → (f.packet ≡ q) × (i ≡ j)
      same_index c d q i j e m k =
          let m' : Goes q i c o = subst (λ (z : ℕ). Goes z i c o) e m in
          let same : c ≡ d = next-once net good.built F x.whole.sound.keyed x.whole.sound.worm q c d o m'.owns k.owns m'.next k.next in
          let k' : Goes q j c o = subst (λ (z : Channel). Goes q j z o) (sym same) k in
          let a = m'.first.least j k'.first.valid k'.was in
          let b = k'.first.least i m'.first.valid m'.was in
          (e, omega arith)

  -- nothing comes on the wire of a channel to which nothing moves
  pub on-none : (o : Channel) → ((c : Channel) (p i : ℕ) → Goes p i c o → ⊥) → count_on net T o ≡ 0
  unfolding after_verdicts
  on-none o never = cases (filter-some (λ (f : Located). is_on o f.place) T.at)
    where
      cases : (count_on net T o ≡ 0) ⊎ ((f : Located) × Has f T.at × (is_on o f.place ≡ true)) → count_on net T o ≡ 0
      cases (inl e) = e
      cases (inr r) =
          let m = Has-map (step net good F x n) r.0 F.at r.1 in
          let y = comes o m.0 m.1 (ap (λ (z : Located). is_on o z.place) m.2 ∙ r.2) in
          absurd (never y.0 m.0.packet m.0.index y.1)

  -- just one flit comes on the wire of a channel to which one moves
  pub on-one : (o : Channel) (f : Located) → Has f F.at → is_on o (step net good F x n f).place ≡ true → count_on net T o ≡ 1
  unfolding after_verdicts
  on-one o f h e = at (count_on net T o) refl
    where
      most : count_on net T o ≤ count_on net F o + 1
      most = count-one_more (λ (y : Located). is_on o y.place) (step net good F x n) F.at x.whole.sound.keyed.sorted (one-comes o)

      at : (k : ℕ) → count_on net T o ≡ k → count_on net T o ≡ 1
      at zero k = absurd (false≢true (sym (filter-none (λ (y : Located). is_on o y.place) T.at (step net good F x n f) k (Has-mapped (step net good F x n) f F.at h)) ∙ e))
      at (suc k) q = let m = most in let z = none-on o in omega (arith, m, z, q)

  -- buffer and credit: a flit that leaves gives a credit
  pub in-back : (c : Channel) → is_link c ≡ true → count_in net T c + one_if (has_channel T.back c) ≡ count_in net F c
  unfolding after_verdicts
  in-back c link = at (is_moved (verdict_in net F c)) refl
    where
      back : (b : Bool) → is_moved (verdict_in net F c) ≡ b → has_channel T.back c ≡ (has_channel (all_inputs net) c && b)
      back b e = channel-filter (λ y. is_link y && is_moved (verdict_in net F y)) c (all_inputs net) ∙ ap (λ a. has_channel (all_inputs net) c && (a && is_moved (verdict_in net F c))) link ∙ ap (λ a. has_channel (all_inputs net) c && a) e

      none : (a : Bool) → (a && false) ≡ false
      none true = refl
      none false = refl

      at : (b : Bool) → is_moved (verdict_in net F c) ≡ b → count_in net T c + one_if (has_channel T.back c) ≡ count_in net F c
      at false e =
          let same : count_in net T c ≡ count_in net F c = ap length (buffer-stays net F n c e) in
          let no_back : has_channel T.back c ≡ false = back false e ∙ none (has_channel (all_inputs net) c) in
          let zero_back : one_if (has_channel T.back c) ≡ 0 = ap one_if no_back in
          omega (arith, same, zero_back)
      at true e =
          let v = is_moved-true (verdict_in net F c) e in
          let next = next-some net F n c v in
          let own = next-owner net good F x.whole.sound.keyed x.whole.sound.worm c next.0 next.1 in
          let member : Has c (all_inputs net) = x.whole.covered c own.0 (own.1, not-end net good F x.whole.sound.keyed x.whole.sound.worm c next.0 own.2.leads) in
          let is_back : has_channel T.back c ≡ true = back true e ∙ ap (λ b. b && true) (has-channel c (all_inputs net) member) in
          let one_back : one_if (has_channel T.back c) ≡ 1 = ap one_if is_back in
          let some = (moved-facts net F c next.0 v next.1).0 in
          let less : count_in net T c ≡ count_in net F c - 1 = ap length (buffer-moved net F n c v (sorted-distinct net F.at x.whole.sound.keyed.sorted)) ∙ length-drop 1 (Rattle.noc_theory.specs.Network.buffer_of net F c) in
          omega (arith, some, less, one_back)

  credit-at : (S : State) (c : Channel) (on inside back : ℕ) → count_on net S c ≡ on → count_in net S c ≡ inside → one_if (has_channel S.back c) ≡ back → credit_of net S c ≡ net.depth - on - inside - back
  credit-at S c on inside back a b e = ap (λ k. net.depth - k - count_in net S c - one_if (has_channel S.back c)) a ∙ ap (λ k. net.depth - on - k - one_if (has_channel S.back c)) b ∙ ap (λ k. net.depth - on - inside - k) e

  credit-now : (c : Channel) → credit_of net F c ≡ net.depth - count_in net F c
  credit-now c = credit-at F c 0 (count_in net F c) 0 (none-on c) refl (ap one_if (x.no_credit c)) ∙ omega arith

  -- the credits of a channel to which nothing moves stay
  pub credit-stays : (o : Channel) → is_link o ≡ true → count_on net T o ≡ 0 → credit_of net T o ≡ credit_of net F o
  credit-stays o link e =
      let k = in-back o link in
      credit-at T o 0 (count_in net T o) (one_if (has_channel T.back o)) e refl refl ∙ omega (arith, k) ∙ sym (credit-now o)

  -- and one is spent where a flit moves
  pub credit-spent : (o : Channel) → is_link o ≡ true → count_on net T o ≡ 1 → credit_of net T o ≡ credit_of net F o - 1
  credit-spent o link e =
      let k = in-back o link in
      let c = credit-now o in
      credit-at T o 1 (count_in net T o) (one_if (has_channel T.back o)) e refl refl ∙ omega (arith, k) ∙ sym (ap (λ y. y - 1) c)
