-- A packet that is not due has its head at its source, and what is out stays out.
use Rattle.std.proofs.Common.{◌≡◌, ℕ, zero, suc, ◌<◌, ◌≤◌, true, false, length, Option, Some, None, refl, ap, sym, ◌∙◌, arith, inl, inr}
use Rattle.std.specs.Prelude.{find, option_map, nat_le, nat_lt, ◌⊎◌}
use Rattle.noc_theory.proofs.Common.{leb-true, cases_eq, same_Some, below, Has, nodes, Channel, Inject, Setup, State, Located, Source, Out, Injection, packet_at, place_of_flit, landed_place, moved_place, is_idle, is_injection_of, owned_by, count_in, first_waiting, injection_at, injection_with, after_landing, after_credits, after_injection, after_verdicts, frozen_state, frozen_at, network_cycle, state_at, head_place, IsWellFormedSetup, IsValid}
use Rattle.noc_theory.proofs.runs.PostLemmas.{some_of_map}
use Rattle.noc_theory.proofs.worms.BuiltRecordLemmas.{IsBuilt}
use Rattle.noc_theory.proofs.worms.BuiltLemmas.{good-built}
use Rattle.noc_theory.proofs.worms.OptionLemmas.{and_then-some, cond-some}
use Rattle.noc_theory.proofs.worms.MemberLemmas.{find-has, Has-filter_map}
use Rattle.noc_theory.proofs.worms.OwnedLemmas.{of-has}
use Rattle.noc_theory.proofs.worms.PlaceLemmas.{place-stepped}
use Rattle.noc_theory.proofs.worms.WormRecordLemmas.{valid-first}
use Rattle.noc_theory.proofs.worms.InjectionPhaseLemmas.{IsInjected}
use Rattle.noc_theory.proofs.worms.InjectionStateLemmas.{entries-move, entries-are, entries-apart, all_entries}
use Rattle.noc_theory.proofs.worms.OpeningLemmas.{at-source}
use Rattle.noc_theory.proofs.worms.RoutedStateLemmas.{IsWholeFrozen}
use Rattle.noc_theory.proofs.worms.WormOrderLemmas.{whole-at, whole-frozen_at}
use Rattle.noc_theory.proofs.worms.NetworkLemmas.{mid_at, whole-mid_at}

module _ (net : Setup) (built : IsBuilt net) (n : ℕ) (S : State) (whole : IsWholeFrozen net S) where
  -- a packet that is injected while its head is at its source is due
  entry-due : (node : ℕ) (one : Injection net) → injection_at net S n node ≡ Some one → head_place net S one.packet ≡ Source → (packet_at net one.packet).due ≤ n
  entry-due node one e here =
      let r = and_then-some (λ q. injection_with net S n node q (find (is_injection_of net node) (owned_by net S q))) (first_waiting net S node) one e in
      at r.0 (find (is_injection_of net node) (owned_by net S r.0)) refl r.2
    where
      at : (q : ℕ) (o : Option Channel) → find (is_injection_of net node) (owned_by net S q) ≡ o → injection_with net S n node q o ≡ Some one → (packet_at net one.packet).due ≤ n
      at q None f g =
          let b = cond-some (nat_le (packet_at net q).due n) (option_map (λ v. (record { packet = q; channel = Inject node v; begins = true })) (find (λ v. is_idle net S (Inject node v)) (below net.relation.vcs))) one g in
          let m = some_of_map {Y = Injection net} (λ v. (record { packet = q; channel = Inject node v; begins = true })) (find (λ v. is_idle net S (Inject node v)) (below net.relation.vcs)) one b.1 in
          let same : (packet_at net q).due ≡ (packet_at net one.packet).due = ap (λ (x : Injection net). (packet_at net x.packet).due) m.2 in
          let early : (packet_at net q).due ≤ n = leb-true (packet_at net q).due n b.0 in
          omega arith
      at q (Some j) f g =
          let b = cond-some (nat_lt (count_in net S j) net.depth) (Some (record { packet = q; channel = j; begins = false })) one g in
          let s : record { packet = q; channel = j; begins = false } ≡ one = same_Some (record { packet = q; channel = j; begins = false }) one b.1 in
          let own : Has (j, q) S.own = of-has j q S.own (find-has (is_injection_of net node) (owned_by net S q) j f) in
          absurd (whole.sound.worm.begun j q own (ap (λ (x : Injection net). head_place net S x.packet) s ∙ here))

  -- so the head of a packet that is not due stays at its source
  undue-injected : (q : ℕ) → q < length net.packets → n < (packet_at net q).due → head_place net S q ≡ Source → head_place net (after_injection net n S) q ≡ Source
  undue-injected q l late here = at (entries-move net built S whole.sound.keyed whole.sound.worm n q l)
    where
      at : IsInjected net built S.own (place_of_flit net S) whole.sound.worm (all_entries net built S whole.sound.keyed whole.sound.worm n) (entries-are net built S whole.sound.keyed whole.sound.worm n)
          (entries-apart net built S whole.sound.keyed whole.sound.worm n) (place_of_flit net (after_injection net n S)) q → head_place net (after_injection net n S) q ≡ Source
      at (inl x) = x.0 0 (valid-first net built q l) ∙ here
      at (inr x) =
          let m = Has-filter_map (injection_at net S n) x.0 (below (nodes net.relation.grid)) x.1 in
          let due = entry-due m.0 x.0 m.2 (ap (head_place net S) x.2 ∙ here) in
          let same : (packet_at net x.0.packet).due ≡ (packet_at net q).due = ap (λ y. (packet_at net y).due) x.2 in
          absurd (omega arith)

  -- what is out before the injections is out after them
  pub out-injected : (p i m : ℕ) → IsValid net p i → place_of_flit net S p i ≡ Out m → place_of_flit net (after_injection net n S) p i ≡ Out m
  out-injected p i m v e = at (entries-move net built S whole.sound.keyed whole.sound.worm n p v.0)
    where
      at : IsInjected net built S.own (place_of_flit net S) whole.sound.worm (all_entries net built S whole.sound.keyed whole.sound.worm n) (entries-are net built S whole.sound.keyed whole.sound.worm n)
          (entries-apart net built S whole.sound.keyed whole.sound.worm n) (place_of_flit net (after_injection net n S)) p → place_of_flit net (after_injection net n S) p i ≡ Out m
      at (inl x) = x.0 i v ∙ e
      at (inr x) = by (cases_eq i x.3.flit)
        where
          by : (i ≡ x.3.flit) ⊎ (i ≡ x.3.flit → ⊥) → place_of_flit net (after_injection net n S) p i ≡ Out m
          by (inl f) = let z : Source ≡ Out m = sym (ap (place_of_flit net S p) f ∙ x.3.was) ∙ e in absurd (cc z)
          by (inr f) = x.3.others i v f ∙ e

module _ (net : Setup) (good : IsWellFormedSetup net) where
  abbrev built : IsBuilt net
  built = good-built net good

  -- where a flit is after the landings and the credits
  pub place-mid : (n p i : ℕ) → IsValid net p i → place_of_flit net (mid_at net good n) p i ≡ landed_place net (place_of_flit net (state_at net n) p i)
  unfolding after_landing after_credits
  place-mid n p i v = place-stepped net (λ (f : Located). landed_place net f.place) (state_at net n) (mid_at net good n) (whole-at net good n).sound.keyed refl p i v

  undue-verdicts : (n q : ℕ) → q < length net.packets → head_place net (frozen_at net n) q ≡ Source → head_place net (after_verdicts net n (frozen_at net n)) q ≡ Source
  unfolding after_verdicts
  undue-verdicts n q l e =
      place-stepped net (λ (f : Located). moved_place net (frozen_at net n) n f f.place) (frozen_at net n) (after_verdicts net n (frozen_at net n)) (whole-frozen_at net good n).sound.keyed refl q 0 (valid-first net built q l)
      ∙ ap (moved_place net (frozen_at net n) n (record { packet = q; index = 0; place = head_place net (frozen_at net n) q })) e

  -- in cycle n, from a state in which its head is at its source
  undue-mid_from : (n q : ℕ) → q < length net.packets → head_place net (state_at net n) q ≡ Source → head_place net (mid_at net good n) q ≡ Source
  undue-mid_from n q l here = place-mid n q 0 (valid-first net built q l) ∙ ap (landed_place net) here

  undue-frozen_from : (n q : ℕ) → q < length net.packets → n < (packet_at net q).due → head_place net (state_at net n) q ≡ Source → head_place net (frozen_at net n) q ≡ Source
  unfolding frozen_state
  undue-frozen_from n q l late here = undue-injected net built n (mid_at net good n) (whole-mid_at net good n) q l late (undue-mid_from n q l here)

  -- before its due time the head of a packet is at its source
  pub undue-at : (n q : ℕ) → q < length net.packets → n ≤ (packet_at net q).due → head_place net (state_at net n) q ≡ Source
  unfolding state_at network_cycle
  undue-at zero q l late = at-source net q 0 (valid-first net built q l)
  undue-at (suc n) q l late = undue-verdicts n q l (undue-frozen_from n q l (omega arith) (undue-at n q l (omega arith)))

  pub undue-mid : (n q : ℕ) → q < length net.packets → n ≤ (packet_at net q).due → head_place net (mid_at net good n) q ≡ Source
  undue-mid n q l late = undue-mid_from n q l (undue-at n q l late)

  pub undue-frozen : (n q : ℕ) → q < length net.packets → n < (packet_at net q).due → head_place net (frozen_at net n) q ≡ Source
  undue-frozen n q l late = undue-frozen_from n q l late (undue-at n q l (omega arith))

  -- what is out at the start of a cycle is out in the middle of it
  pub out-mid : (n p i m : ℕ) → IsValid net p i → place_of_flit net (state_at net n) p i ≡ Out m → place_of_flit net (mid_at net good n) p i ≡ Out m
  out-mid n p i m v e = place-mid n p i v ∙ ap (landed_place net) e

  pub out-frozen : (n p i m : ℕ) → IsValid net p i → place_of_flit net (state_at net n) p i ≡ Out m → place_of_flit net (frozen_at net n) p i ≡ Out m
  unfolding frozen_state
  out-frozen n p i m v e = out-injected net built n (mid_at net good n) (whole-mid_at net good n) p i m v (out-mid n p i m v e)
