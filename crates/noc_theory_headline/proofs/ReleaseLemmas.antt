-- What is owned in the frozen state stays owned, until the tail leaves.
use Rattle.std.proofs.Common.{◌≡◌, ℕ, Bool, true, false, Option, Some, None, refl, ap, sym, ◌∙◌, inl, inr, subst}
use Rattle.std.specs.Prelude.{◌⊎◌, filter, filter_map, option_map, unwrap_or, not}
use Rattle.std.proofs.lemmas.Bool.{false≢true, and_parts, and_from}
use Rattle.std.proofs.lemmas.Option.{none-some}
use Rattle.noc_topo.specs.Lists.{Has}
use Rattle.noc_route.specs.Channel.{Channel, Link, Inject, Eject, same_channel}
use Rattle.noc_view.specs.declared.verdict.Verdict.TheVariants.{Moved}
use Rattle.noc_theory.specs.Network.{Setup, State, In, owner_of, owned_by, next_channel, all_inputs, granted_pair, is_released, tail_leaves, tail_leaves_to, verdict_in, after_verdicts}
use Rattle.noc_theory.proofs.worms.BufferLemmas.{same_channel-refl, same_channel-true}
use Rattle.noc_theory.proofs.worms.GrantLemmas.{granted-is, once-after_verdicts}
use Rattle.noc_theory.proofs.worms.MemberLemmas.{Has-append, Has-filter, Has-filter_map, Has-kept, Has-left, list_any-from, list_any-has}
use Rattle.noc_theory.proofs.worms.OwnedLemmas.{has-of, of-has, owner-has, owner-is}
use Rattle.noc_theory.specs.Good.{IsValid}
use Rattle.noc_theory.proofs.worms.VerdictPhaseLemmas.{leaves-tail, tail-of}
use Rattle.noc_theory.proofs.worms.StateWordLemmas.{last_of}
use Rattle.noc_theory.proofs.worms.WormRecordLemmas.{valid-last}
use Rattle.noc_theory.proofs.join.OrderedLemmas.{IsGood, IsOrderedFrozen}
use Rattle.noc_theory.proofs.injection.SourceLemmas.{same-owner}
use Rattle.noc_theory_headline.specs.Effects.{IsLeftBy, IsSentOn}
use Rattle.noc_theory_headline.proofs.EffectLemmas.{First, first-sent, owns-placed, sent-first}

module _ (net : Setup) (good : IsGood net) (F : State) (x : IsOrderedFrozen net F) (n : ℕ) where
  abbrev T : State
  T = after_verdicts net n F

  pub valid-tail : (o : Channel) (p : ℕ) → Has (o, p) F.own → IsValid net p (last_of net p)
  valid-tail o p h = valid-last net good.built p (x.whole.sound.worm.known o p h)

  -- ---- a channel that is released

  released-left : (o : Channel) (p : ℕ) → Has (o, p) F.own → is_released net F (o, p) ≡ true → IsLeftBy net F p o
  released-left (Link r a v) p h e = absurd (false≢true e)
  released-left (Inject m v) p h e =
      let t = tail-of net good.built good.wired F x.whole.sound.keyed x.whole.sound.worm n x.whole.sound.still (Inject m v) p h e in
      let s = first-sent net good F x n p (last_of net p) (Inject m v) t.0 t.1 h (λ z. z) in
      (t.1.there, s.0, s.1)
  released-left (Eject m v) p h e =
      let some = list_any-has (tail_leaves_to net F (Eject m v)) (owned_by net F p) e in
      let parts = and_parts (tail_leaves net F some.0) (unwrap_or (option_map (same_channel (Eject m v)) (next_channel net F some.0)) false) some.2 in
      let own = of-has some.0 p F.own some.1 in
      let t = tail-of net good.built good.wired F x.whole.sound.keyed x.whole.sound.worm n x.whole.sound.still some.0 p own parts.0 in
      let through = (owns-placed net good F x n p (last_of net p) some.0 t.1.valid t.1.there).1 in
      let s = first-sent net good F x n p (last_of net p) some.0 t.0 t.1 own through in
      let goes : same_channel (Eject m v) s.0 ≡ true = sym (ap (λ (c : Option Channel). unwrap_or (option_map (same_channel (Eject m v)) c) false) s.2) ∙ parts.1 in
      subst (IsSentOn net F p (last_of net p)) (sym (same_channel-true (Eject m v) s.0 goes)) s.1

  -- a tail that moves leaves its buffer
  pub leaves : (c : Channel) (p : ℕ) → IsValid net p (last_of net p) → verdict_in net F c ≡ Moved → First net good F x n c p (last_of net p) → tail_leaves net F c ≡ true
  leaves c p v moves first = leaves-tail net good.built good.wired F x.whole.sound.keyed x.whole.sound.worm n x.whole.sound.still c p v.0 moves first

  left-released : (o : Channel) (p : ℕ) → Has (o, p) F.own → IsLeftBy net F p o → is_released net F (o, p) ≡ true
  left-released (Link r a v) p h l = absurd l
  left-released (Inject m v) p h (there, o, s) =
      let f = sent-first net good F x n p (last_of net p) o (valid-tail (Inject m v) p h) s in
      let place : In (Inject m v) ≡ In s.channel = sym there ∙ s.there in
      let same : s.channel ≡ Inject m v = cc in
      ap (tail_leaves net F) (sym same) ∙ leaves s.channel p (valid-tail (Inject m v) p h) f.0 f.1
  left-released (Eject m v) p h s =
      let valid = valid-tail (Eject m v) p h in
      let f = sent-first net good F x n p (last_of net p) (Eject m v) valid s in
      let own = owns-placed net good F x n p (last_of net p) s.channel valid s.there in
      let next : unwrap_or (option_map (same_channel (Eject m v)) (next_channel net F s.channel)) false ≡ true =
      ap (λ (c : Option Channel). unwrap_or (option_map (same_channel (Eject m v)) c) false) f.2 ∙ same_channel-refl (Eject m v) in
      list_any-from (tail_leaves_to net F (Eject m v)) (owned_by net F p) s.channel (has-of s.channel p F.own own.0)
      (and_from _ _ (leaves s.channel p valid f.0 f.1) next)

  -- ---- owners

  pub kept-by : (o : Channel) (p : ℕ) → owner_of net F o ≡ Some p → (IsLeftBy net F p o → ⊥) → owner_of net T o ≡ Some p
  unfolding after_verdicts
  kept-by o p own stays = by (is_released net F (o, p)) refl
    where
      has : Has (o, p) F.own
      has = owner-has net F o p own

      by : (b : Bool) → is_released net F (o, p) ≡ b → owner_of net T o ≡ Some p
      by true e = absurd (stays (released-left o p has e))
      by false e =
          owner-is net T o p (once-after_verdicts net good.wired F n x.whole.sound.worm.once)
          (Has-left (o, p) (filter (λ pair. not (is_released net F pair)) F.own) (filter_map (granted_pair net F) (all_inputs net))
          (Has-kept (λ pair. not (is_released net F pair)) (o, p) F.own has (ap not e)))

  pub released-by : (o : Channel) (p : ℕ) → owner_of net F o ≡ Some p → IsLeftBy net F p o → owner_of net T o ≡ None
  unfolding after_verdicts
  released-by o p own left = by (owner_of net T o) refl
    where
      has : Has (o, p) F.own
      has = owner-has net F o p own

      nobody : (q : ℕ) → Has (o, q) (filter (λ pair. not (is_released net F pair)) F.own) ⊎ Has (o, q) (filter_map (granted_pair net F) (all_inputs net)) → ⊥
      nobody q (inl h) =
          let f = Has-filter (λ pair. not (is_released net F pair)) (o, q) F.own h in
          let same = same-owner net good F x.whole.sound.keyed x.whole.sound.worm o q p f.0 has in
          let gone : is_released net F (o, q) ≡ true = ap (λ k. is_released net F (o, k)) same ∙ left-released o p has left in
          false≢true (sym (ap not gone) ∙ f.1)
      nobody q (inr h) =
          let m = Has-filter_map (granted_pair net F) (o, q) (all_inputs net) h in
          none-some p (sym (granted-is net F m.0 o q m.2).idle ∙ own)

      by : (a : Option ℕ) → owner_of net T o ≡ a → owner_of net T o ≡ None
      by None e = e
      by (Some q) e = absurd (nobody q (Has-append (o, q) (filter (λ pair. not (is_released net F pair)) F.own) (filter_map (granted_pair net F) (all_inputs net)) (owner-has net T o q e)))
