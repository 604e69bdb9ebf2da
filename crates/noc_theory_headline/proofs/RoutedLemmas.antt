-- Which channels are routed after the verdicts of a cycle, and which credits go back.
use Rattle.std.proofs.Common.{◌≡◌, ℕ, Bool, true, false, List, ap, sym, refl, ◌∙◌, inl, inr}
use Rattle.std.specs.Prelude.{◌⊎◌, ◌↔◌, ◌&&◌, ◌++◌, filter, not}
use Rattle.std.proofs.lemmas.Bool.{false≢true, and_parts, and_from}
use Rattle.noc_topo.specs.Lists.{Has}
use Rattle.noc_route.specs.Channel.{Channel, is_link}
use Rattle.noc_view.specs.Verdict.{is_routed, is_moved}
use Rattle.noc_view.specs.declared.verdict.Verdict.{Verdict}
use Rattle.noc_view.specs.declared.verdict.Verdict.TheVariants.{Routed, Moved}
use Rattle.noc_theory.specs.Network.{Setup, State, In, all_inputs, tail_leaves, verdict_in, after_verdicts}
use Rattle.noc_view.proofs.MoverLemmas.{is_moved-true}
use Rattle.noc_theory.proofs.worms.MemberLemmas.{Has-append, Has-filter, Has-kept, Has-left, Has-right}
use Rattle.noc_theory.proofs.worms.OwnedLemmas.{owner-has, owner-is}
use Rattle.noc_theory.proofs.worms.VerdictPhaseLemmas.{tail-of}
use Rattle.noc_theory.proofs.worms.StateWordLemmas.{last_of}
use Rattle.noc_theory.proofs.worms.RoutedVerdictLemmas.{has-channel, channel-has, is_routed-true}
use Rattle.noc_theory.proofs.join.OrderedLemmas.{IsGood, IsOrderedFrozen}
use Rattle.noc_theory.proofs.join.PlaceViewLemmas.{IsAt, arrives-in}
use Rattle.noc_theory_headline.specs.Effects.{IsTailSent}
use Rattle.noc_theory_headline.specs.Headline.{IsRouted, Owns, Says}
use Rattle.noc_theory_headline.proofs.EffectLemmas.{first-sent, owns-placed, sent-first}
use Rattle.noc_theory_headline.proofs.ReleaseLemmas.{leaves, valid-tail}
use Rattle.noc_theory_headline.proofs.SaysLemmas.{verdict-says}

module _ (net : Setup) (good : IsGood net) (F : State) (x : IsOrderedFrozen net F) (n : ℕ) where
  abbrev T : State
  T = after_verdicts net n F

  abbrev Stays : Channel → ℕ → Type 0
  Stays c r = (p : ℕ) → Owns net F r p c → IsTailSent net F p c → ⊥

  abbrev old : List Channel
  old = filter (λ c. not (tail_leaves net F c)) F.routed

  abbrev new : List Channel
  new = filter (λ c. is_routed (verdict_in net F c)) (all_inputs net)

  -- a tail that is sent leaves its buffer
  sent-leaves : (c : Channel) (p : ℕ) → Has (c, p) F.own → IsTailSent net F p c → tail_leaves net F c ≡ true
  sent-leaves c p h (there, o, s) =
      let f = sent-first net good F x n p (last_of net p) o (valid-tail net good F x n c p h) s in
      let place : In c ≡ In s.channel = sym there ∙ s.there in
      let same : s.channel ≡ c = cc in
      ap (tail_leaves net F) (sym same) ∙ leaves net good F x n s.channel p (valid-tail net good F x n c p h) f.0 f.1

  leaves-sent : (c : Channel) (p : ℕ) → Has (c, p) F.own → tail_leaves net F c ≡ true → IsTailSent net F p c
  leaves-sent c p h e =
      let t = tail-of net good.built good.wired F x.whole.sound.keyed x.whole.sound.worm n x.whole.sound.still c p h e in
      let through = (owns-placed net good F x n p (last_of net p) c t.1.valid t.1.there).1 in
      let s = first-sent net good F x n p (last_of net p) c t.0 t.1 h through in
      (t.1.there, s.0, s.1)

  module _ (r i : ℕ) (c : Channel) (at : IsAt net good r i c) where
    says : (v : Verdict) → (verdict_in net F c ≡ v) ↔ Says net F r i c v
    says = verdict-says net good F x r at.router i c at

    routed-so : IsRouted net T r c → Says net F r i c Routed ⊎ (IsRouted net F r c × Stays c r)
    unfolding after_verdicts
    routed-so e = by (Has-append c old new (channel-has c (old ++ new) e))
      where
        by : Has c old ⊎ Has c new → Says net F r i c Routed ⊎ (IsRouted net F r c × Stays c r)
        by (inl h) =
            let f = Has-filter (λ c. not (tail_leaves net F c)) c F.routed h in
            inr (has-channel c F.routed f.0, λ p own sent. false≢true (sym (ap not (sent-leaves c p (owner-has net F c p own) sent)) ∙ f.1))
        by (inr h) =
            let f = Has-filter (λ c. is_routed (verdict_in net F c)) c (all_inputs net) h in
            inl ((says Routed).0 (is_routed-true _ f.1))

    so-routed : Says net F r i c Routed ⊎ (IsRouted net F r c × Stays c r) → IsRouted net T r c
    unfolding after_verdicts
    so-routed (inl s) =
        has-channel c (old ++ new)
        (Has-right c old new (Has-kept (λ c. is_routed (verdict_in net F c)) c (all_inputs net) (arrives-in net good at) (ap is_routed ((says Routed).1 s))))
    so-routed (inr (routed, stays)) = by (tail_leaves net F c) refl
      where
        by : (b : Bool) → tail_leaves net F c ≡ b → IsRouted net T r c
        by true e =
            let held = x.whole.routed.mid.only c routed in
            absurd (stays held.0 (owner-is net F c held.0 x.whole.sound.worm.once held.1.0) (leaves-sent c held.0 held.1.0 e))
        by false e = has-channel c (old ++ new) (Has-left c old new (Has-kept (λ c. not (tail_leaves net F c)) c F.routed (channel-has c F.routed routed) (ap not e)))

    pub routed-after : IsRouted net T r c ↔ (Says net F r i c Routed ⊎ (IsRouted net F r c × Stays c r))
    routed-after = (routed-so, so-routed)

    pub credit-after : Has c T.back ↔ ((is_link c ≡ true) × Says net F r i c Moved)
    unfolding after_verdicts
    credit-after = (
      (λ h. let f = and_parts _ _ (Has-filter (λ c. is_link c && is_moved (verdict_in net F c)) c (all_inputs net) h).1 in (f.0, (says Moved).0 (is_moved-true _ f.1))),
      (λ s. Has-kept (λ c. is_link c && is_moved (verdict_in net F c)) c (all_inputs net) (arrives-in net good at) (and_from _ _ s.0 (ap is_moved ((says Moved).1 s.1)))),
    )
