-- After the injections: what is the same at each router, but on the channel on
-- which its source injects.
use Rattle.std.proofs.Common.{◌≡◌, ◌≢◌, ℕ, ◌<◌, ◌≤◌, Bool, true, false, length, Option, Some, None, refl, ap, sym, ◌∙◌, inl, inr, subst, arith}
use Rattle.std.specs.Prelude.{find, option_and_then, ◌⊎◌, ◌||◌, nat_eq, nat_lt}
use Rattle.noc_theory.proofs.Common.{false≢true, eqb-true, cases_eq, le-ltb, Has, distance, Channel, Link, Inject, Eject, same_channel, has_come, come_count, Setup, State, Located, Place, Source, In, Injection, place_of_flit, owner_of, owned_by, next_channel, leads_from, injections, injected_place, after_injection, hops, IsValid}
use Rattle.noc_theory.proofs.worms.BufferLemmas.{same_channel-true}
use Rattle.noc_theory.proofs.worms.InjectionPhaseLemmas.{IsEntry, IsEnteredBy, IsInjected}
use Rattle.noc_theory.proofs.worms.InjectionStateLemmas.{all_entries, entries-are, entries-apart, entries-move, worm-after_injection, keyed-after_injection}
use Rattle.noc_theory.proofs.worms.MemberLemmas.{Has-left}
use Rattle.noc_theory.proofs.worms.MoveLemmas.{IsNext, next-is}
use Rattle.noc_theory.proofs.worms.OwnedLemmas.{owner-has, idle-none}
use Rattle.noc_theory.proofs.worms.StateWordLemmas.{IsEject, IsKeyed, IsHeld, IsNear, goal, last_of, far_of}
use Rattle.noc_theory.proofs.worms.PlaceLemmas.{place-of-flit, place-stepped}
use Rattle.noc_theory.proofs.worms.RoutedInjectionLemmas.{split, is-new, added, routed-injection}
use Rattle.noc_theory.proofs.worms.RoutedRecordLemmas.{IsRoutedFrozen}
use Rattle.noc_theory.proofs.worms.WormRecordLemmas.{IsWorm}
use Rattle.noc_theory.proofs.worms.NextLemmas.{next-from}
use Rattle.noc_theory.proofs.verdicts.NextViewLemmas.{owner-at, owner-none, next-none, no-next}
use Rattle.noc_theory.proofs.join.OrderedLemmas.{IsGood, IsOrderedFrozen}
use Rattle.noc_theory.proofs.join.LockstepStepLemmas.{count-step}

module _ (net : Setup) (good : IsGood net) (M : State) (x : IsOrderedFrozen net M) (n : ℕ) where
  abbrev pub T : State
  T = after_injection net n M

  abbrev pub step : Located → Located
  step f = record f { place = injected_place net M f (find (λ (one : Injection net). nat_eq one.packet f.packet) (injections net M n)) }

  abbrev pub keyed : IsKeyed net M.at
  keyed = x.whole.sound.keyed

  abbrev pub worm : IsWorm net M.own (place_of_flit net M)
  worm = x.whole.sound.worm

  pub wormT : IsWorm net T.own (place_of_flit net T)
  wormT = worm-after_injection net good.built M keyed worm n

  pub keyedT : IsKeyed net T.at
  keyedT = keyed-after_injection net good.built M keyed worm n

  pub routedT : IsRoutedFrozen net T
  routedT = routed-injection net good.built M keyed worm n x.whole.routed

  pub entry : (one : Injection net) → Has one (injections net M n) → (node : ℕ) × IsEntry net good.built M.own (place_of_flit net M) worm node one
  entry one h = entries-are net good.built M keyed worm n one h

  abbrev pub Enters : ℕ → Injection net → Type 0
  Enters p one = IsEnteredBy net good.built M.own (place_of_flit net M) worm (all_entries net good.built M keyed worm n) (entries-are net good.built M keyed worm n) (entries-apart net good.built M keyed worm n) (place_of_flit net T) p one

  pub data Moved (p : ℕ) : Type 0 where
    still : ((i : ℕ) → IsValid net p i → place_of_flit net T p i ≡ place_of_flit net M p i) → ((one : Injection net) → Has one (injections net M n) → one.packet ≢ p) → Moved p
    enters : (one : Injection net) → Has one (injections net M n) → one.packet ≡ p → Enters p one → Moved p

  pub moved : (p : ℕ) → p < length net.packets → Moved p
  moved p l = by (entries-move net good.built M keyed worm n p l)
    where
      by : IsInjected net good.built M.own (place_of_flit net M) worm (all_entries net good.built M keyed worm n) (entries-are net good.built M keyed worm n) (entries-apart net good.built M keyed worm n) (place_of_flit net T) p → Moved p
      by (inl s) = still s.0 s.1
      by (inr r) = enters r.0 r.1 r.2 r.3

  -- where a flit is and goes
  pub data Goes (p i : ℕ) : Type 0 where
    stays : place_of_flit net T p i ≡ place_of_flit net M p i → Goes p i
    goes_in : (one : Injection net) → Has one (injections net M n) → one.packet ≡ p → place_of_flit net M p i ≡ Source → place_of_flit net T p i ≡ In one.channel → Goes p i

  pub goes : (p i : ℕ) → IsValid net p i → Goes p i
  goes p i v = by (moved p v.0)
    where
      by : Moved p → Goes p i
      by (still s t) = stays (s i v)
      by (enters one h e k) = at (cases_eq i k.flit)
        where
          at : (i ≡ k.flit) ⊎ (i ≡ k.flit → ⊥) → Goes p i
          at (inl z) = goes_in one h e (ap (place_of_flit net M p) z ∙ k.was) (ap (place_of_flit net T p) z ∙ k.now)
          at (inr z) = stays (k.others i v z)

  pub to-place : (f : Located) → Has f M.at → place_of_flit net T f.packet f.index ≡ (step f).place
  unfolding after_injection
  to-place f h =
      place-stepped net (λ (g : Located). injected_place net M g (find (λ (one : Injection net). nat_eq one.packet g.packet) (injections net M n))) M T keyed refl f.packet f.index (keyed.valid f h)
      ∙ ap (λ (y : Place). (step (record f { place = y })).place) (place-of-flit net M keyed f h)

  -- ---- owners

  pub owned-left : (c : Channel) (p : ℕ) → Has (c, p) M.own → Has (c, p) T.own
  unfolding after_injection
  owned-left c p h = Has-left (c, p) M.own (added net good.built M keyed worm n x.whole.routed) h

  pub data WasHeld (c : Channel) (p : ℕ) : Type 0 where
    held : Has (c, p) M.own → WasHeld c p
    begun : (one : Injection net) → Has one (injections net M n) → one.begins ≡ true → one.channel ≡ c → one.packet ≡ p → WasHeld c p

  pub was-held : (c : Channel) (p : ℕ) → Has (c, p) T.own → WasHeld c p
  was-held c p h = by (split net good.built M keyed worm n x.whole.routed c p h)
    where
      by : Has (c, p) M.own ⊎ Has (c, p) (added net good.built M keyed worm n x.whole.routed) → WasHeld c p
      by (inl k) = held k
      by (inr k) = let r = is-new net good.built M keyed worm n x.whole.routed c p k in begun r.0 r.1 r.2 r.3 r.4

  -- nobody injects on c
  abbrev pub Quiet : Channel → Type 0
  Quiet c = (one : Injection net) → Has one (injections net M n) → one.channel ≢ c

  pub owner-quiet : (c : Channel) → Quiet c → owner_of net T c ≡ owner_of net M c
  owner-quiet c quiet = at (owner_of net M c) refl
    where
      at : (o : Option ℕ) → owner_of net M c ≡ o → owner_of net T c ≡ owner_of net M c
      at (Some p) e = owner-at net good.built T keyedT wormT c p (owned-left c p (owner-has net M c p e)) ∙ sym e
      at None e = owner-none net good.built T keyedT wormT c (λ p h. by p (was-held c p h)) ∙ sym e
        where
          by : (p : ℕ) → WasHeld c p → ⊥
          by p (held k) = idle-none net M c p e k
          by p (begun one h b k j) = quiet one h k

  -- ---- next channels are the same everywhere

  pub next-same : (c : Channel) → next_channel net T c ≡ next_channel net M c
  next-same c = at (owner_of net M c) refl
    where
      no-inject-next : (p : ℕ) (o : Channel) (one : Injection net) → Has one (injections net M n) → one.channel ≡ o → leads_from net c o ≡ true → ⊥
      no-inject-next p o one h e l = let k = entry one h in false≢true (ap (leads_from net c) (sym k.1.channel ∙ e) ∙ l)

      at : (q : Option ℕ) → owner_of net M c ≡ q → next_channel net T c ≡ next_channel net M c
      at (Some p) e = by (next_channel net M c) refl
        where
          own : Has (c, p) M.own
          own = owner-has net M c p e

          by : (o : Option Channel) → next_channel net M c ≡ o → next_channel net T c ≡ next_channel net M c
          by (Some o) k =
              let m = next-is net good.built M keyed worm p c o own k in
              next-from net good.built T keyedT wormT p c o (owned-left c p own) (record { owns = owned-left o p m.owns; leads = m.leads }) ∙ sym k
          by None k = next-none net good.built T keyedT wormT p c (owned-left c p own) (λ o m. was o m (was-held o p m.owns)) ∙ sym k
            where
              was : (o : Channel) → IsNext net good.built T keyedT wormT p c o → WasHeld o p → ⊥
              was o m (held h) = no-next net good.built M keyed worm p c o own k (record { owns = h; leads = m.leads })
              was o m (begun one h b j q) = no-inject-next p o one h j m.leads
      at None e = by (owner_of net T c) refl
        where
          none : next_channel net M c ≡ None
          none = ap (option_and_then (λ p. find (leads_from net c) (owned_by net M p))) e

          by : (q : Option ℕ) → owner_of net T c ≡ q → next_channel net T c ≡ next_channel net M c
          by None k = ap (option_and_then (λ p. find (leads_from net c) (owned_by net T p))) k ∙ sym none
          by (Some p) k = first (was-held c p own) ∙ sym none
            where
              own : Has (c, p) T.own
              own = owner-has net T c p k

              first : WasHeld c p → next_channel net T c ≡ None
              first (held h) = absurd (idle-none net M c p e h)
              first (begun one h b j q) = next-none net good.built T keyedT wormT p c own (λ o m. was o m (was-held o p m.owns))
                where
                  fresh : (d : Channel) → Has (d, p) M.own → ⊥
                  fresh d y = way (entry one h).1.goes
                    where
                      way : ((one.begins ≡ false) × Has (one.channel, one.packet) M.own) ⊎ ((one.begins ≡ true) × ((q : ℕ) → Has (one.channel, q) M.own → ⊥) × ((d : Channel) → Has (d, one.packet) M.own → ⊥)) → ⊥
                      way (inl s) = false≢true (sym s.0 ∙ b)
                      way (inr s) = s.2 d (subst (λ z. Has (d, z) M.own) (sym q) y)

                  was : (o : Channel) → IsNext net good.built T keyedT wormT p c o → WasHeld o p → ⊥
                  was o m (held y) = fresh o y
                  was o m (begun two y z u t) = no-inject-next p o two y u m.leads

  -- ---- what has come to a channel on which nobody injects

  far-source : (p a v : ℕ) → Has (Inject a v, p) T.own → far_of net p (Inject a v) ≡ hops net p
  far-source p a v h = ap (λ q. distance net.relation.grid q (goal net p)) (wormT.near (Inject a v) p h)

  low-far : (p : ℕ) (c : Channel) → Has (c, p) T.own → (IsEject c → ⊥) → far_of net p c ≤ hops net p
  low-far p (Link a b w) h e = let k = (wormT.near (Link a b w) p h).0 in omega (arith, k)
  low-far p (Inject a w) h e = let k = far-source p a w h in omega (arith, k)
  low-far p (Eject a w) h e = absurd (e tt)

  pub entry-own : (one : Injection net) → Has one (injections net M n) → (a v p i : ℕ) → IsValid net p i → one.packet ≡ p → place_of_flit net T p i ≡ In one.channel → one.channel ≡ Inject a v → Has (Inject a v, p) T.own
  entry-own one h a v p i valid e now is = subst (λ (y : Place). Rattle.noc_theory.proofs.worms.StateWordLemmas.IsPlaced net T.own p y) (now ∙ ap In is) (wormT.placed p i valid)

  pub come-quiet : (p i : ℕ) (c : Channel) → IsValid net p i → IsHeld net M c p → Quiet c → has_come net c (goal net p) (place_of_flit net T p i) ≡ has_come net c (goal net p) (place_of_flit net M p i)
  come-quiet p i c v h quiet = by (goes p i v)
    where
      by : Goes p i → has_come net c (goal net p) (place_of_flit net T p i) ≡ has_come net c (goal net p) (place_of_flit net M p i)
      by (stays e) = ap (has_come net c (goal net p)) e
      by (goes_in one k e was now) =
          let r = entry one k in
          let is : one.channel ≡ Inject r.0 r.1.vc = r.1.channel in
          let own = entry-own one k r.0 r.1.vc p i v e now is in
          let f = far-source p r.0 r.1.vc own in
          let g = low-far p c (owned-left c p h.0) h.1 in
          let past : nat_lt (far_of net p (Inject r.0 r.1.vc)) (far_of net p c) ≡ false = le-ltb _ _ (omega (arith, f, g)) in
          let other : same_channel c (Inject r.0 r.1.vc) ≡ false = differs (same_channel c (Inject r.0 r.1.vc)) refl (λ z. quiet one k (is ∙ sym z)) in
          ap (has_come net c (goal net p)) (now ∙ ap In is) ∙ ap (λ b. b || nat_lt (far_of net p (Inject r.0 r.1.vc)) (far_of net p c)) other ∙ past ∙ sym (ap (has_come net c (goal net p)) was)
        where
          differs : {a v : ℕ} (b : Bool) → same_channel c (Inject a v) ≡ b → (c ≡ Inject a v → ⊥) → same_channel c (Inject a v) ≡ false
          differs false e k = e
          differs {a = a} {v = v} true e k = absurd (k (same_channel-true c (Inject a v) e))

  pub count-quiet : (p : ℕ) (c : Channel) → IsHeld net M c p → Quiet c → come_count net T c p ≡ come_count net M c p
  unfolding after_injection
  count-quiet p c h quiet =
      count-step (λ (f : Located). has_come net c (goal net p) f.place) (λ (f : Located). has_come net c (goal net p) f.place) (λ (f : Located). nat_eq p f.packet) step (λ f. refl) M.at
      (λ f m q.
      let e : f.packet ≡ p = sym (eqb-true p f.packet q) in
      let v = keyed.valid f m in
      ap (has_come net c (goal net p)) (sym (to-place f m))
      ∙ subst (λ k. has_come net c (goal net p) (place_of_flit net T f.packet f.index) ≡ has_come net c (goal net p) (place_of_flit net M f.packet f.index)) e
      (subst (λ k. has_come net c (goal net k) (place_of_flit net T f.packet f.index) ≡ has_come net c (goal net k) (place_of_flit net M f.packet f.index)) e
      (come-quiet f.packet f.index c v (subst (λ k. IsHeld net M c k) (sym e) h) quiet))
      ∙ ap (has_come net c (goal net p)) (place-of-flit net M keyed f m))
