-- The input channel from which an output channel is owned.
use Rattle.std.proofs.Common.{◌≡◌, ℕ, ◌<◌, true, false, Option, Some, None, refl, ap, sym, ◌∙◌, subst}
use Rattle.std.specs.Prelude.{find, option_map, option_and_then, unwrap_or}
use Rattle.noc_view.proofs.FindLemmas.{find-at}
use Rattle.noc_theory.proofs.Common.{false≢true, none-some, same_Some, Has, Channel, same_channel, seen_sender, Setup, State, size, arriving, leaving, place_of_flit, owner_of, owned_by, next_channel, leads_from, all_inputs}
use Rattle.noc_theory.specs.Lockstep.{goes_on_by}
use Rattle.noc_theory.proofs.worms.BufferLemmas.{same_channel-refl, same_channel-true}
use Rattle.noc_theory.proofs.worms.MoveLemmas.{IsNext, next-is, next-once, leads-end, no-end-eject}
use Rattle.noc_theory.proofs.worms.OwnedLemmas.{owner-has, once-same}
use Rattle.noc_theory.proofs.worms.StateWordLemmas.{IsEject, IsKeyed}
use Rattle.noc_theory.proofs.worms.WormRecordLemmas.{IsWorm}
use Rattle.noc_theory.proofs.worms.NextLemmas.{next-from}
use Rattle.noc_theory.proofs.join.OrderedLemmas.{IsGood}
use Rattle.noc_theory.proofs.join.PlaceViewLemmas.{IsAt, arriving-at, input-at, same-place, begins-at}

module _ (net : Setup) (good : IsGood net) (S : State) (keyed : IsKeyed net S.at) (w : IsWorm net S.own (place_of_flit net S)) where
  -- one owner
  pub same-owner : (c : Channel) (p q : ℕ) → Has (c, p) S.own → Has (c, q) S.own → p ≡ q
  same-owner c p q h k = ap (λ (z : Channel × ℕ). z.1) (once-same (c, p) (c, q) S.own w.once h k refl)

  -- what has a next channel is owned
  pub next-owner : (c o : Channel) → next_channel net S c ≡ Some o → (p : ℕ) × Has (c, p) S.own × IsNext net good.built S keyed w p c o
  next-owner c o e = at (owner_of net S c) refl
    where
      at : (q : Option ℕ) → owner_of net S c ≡ q → (p : ℕ) × Has (c, p) S.own × IsNext net good.built S keyed w p c o
      at None k = absurd (none-some o (sym (ap (option_and_then (λ p. find (leads_from net c) (owned_by net S p))) k) ∙ e))
      at (Some p) k = let h = owner-has net S c p k in (p, h, next-is net good.built S keyed w p c o h e)

  pub not-end : (c o : Channel) → leads_from net c o ≡ true → IsEject c → ⊥
  not-end c o e = let l = leads-end net c o e in no-end-eject net c l.0 l.2

  -- an input channel that leads to an output channel of router r arrives at r
  pub at-router : (r j : ℕ) (c : Channel) → Has c (all_inputs net) → leads_from net c (leaving net r j) ≡ true → (i : ℕ) × IsAt net good r i c
  at-router r j c covered e =
      let l = leads-end net c (leaving net r j) e in
      let a = input-at net good c covered in
      let begin_is : l.0 ≡ r = same_Some _ _ (sym l.1 ∙ begins-at net good r j) in
      let end_is : l.0 ≡ a.0 = same_Some _ _ (sym l.2 ∙ ap (option_map (λ (place : ℕ × ℕ). place.0)) a.2.arrives) in
      let same : a.0 ≡ r = sym end_is ∙ begin_is in
      (a.1, subst (λ (s : ℕ). IsAt net good s a.1 c) same a.2)

  pub sender-is : (r i : ℕ) (p : ℕ) (c o : Channel) → IsAt net good r i c → Has (c, p) S.own → IsNext net good.built S keyed w p c o → seen_sender net S r o ≡ i
  sender-is r i p c o at h m = ap (λ (k : Option ℕ). unwrap_or k 0) (find-at (λ k. unwrap_or (option_map (goes_on_by net S o) (arriving net r k)) false) (size net) i at.index here only)
    where
      here : unwrap_or (option_map (goes_on_by net S o) (arriving net r i)) false ≡ true
      here =
          ap (λ (k : Option Channel). unwrap_or (option_map (goes_on_by net S o) k) false) at.found
          ∙ ap (λ (k : Option Channel). unwrap_or (option_map (same_channel o) k) false) (next-from net good.built S keyed w p c o h m)
          ∙ same_channel-refl o

      by : (k : ℕ) → k < size net → (d : Option Channel) → arriving net r k ≡ d → unwrap_or (option_map (goes_on_by net S o) d) false ≡ true → k ≡ i
      by k u None e t = absurd (false≢true t)
      by k u (Some d) e t = next (next_channel net S d) refl t
        where
          next : (q : Option Channel) → next_channel net S d ≡ q → unwrap_or (option_map (same_channel o) q) false ≡ true → k ≡ i
          next None f t = absurd (false≢true t)
          next (Some q) f t =
              let same : o ≡ q = same_channel-true o q t in
              let own = next-owner d o (f ∙ ap Some (sym same)) in
              let packet : own.0 ≡ p = same-owner o own.0 p own.2.owns m.owns in
              let hd : Has (d, p) S.own = subst (λ (y : ℕ). Has (d, y) S.own) packet own.1 in
              let is_c : d ≡ c = next-once net good.built S keyed w p d c o hd h (record { owns = m.owns; leads = own.2.leads }) m in
              let at_k : IsAt net good r k c = subst (λ (y : Channel). IsAt net good r k y) is_c (arriving-at net good r k d at.router u e) in
              (same-place net good r k r i c at_k at).1

      only : (k : ℕ) → k < size net → unwrap_or (option_map (goes_on_by net S o) (arriving net r k)) false ≡ true → k ≡ i
      only k u t = by k u (arriving net r k) refl t
