-- Phase three keeps buffers within their slots.
use Rattle.std.proofs.Common.{◌≡◌, ℕ, ◌+◌, ◌<◌, ◌≤◌, Bool, true, false, cond, List, [], ◌∷◌, length, Option, Some, None, refl, ap, sym, ◌∙◌, inl, inr, subst, arith}
use Rattle.std.specs.Prelude.{filter, find, option_map, ◌⊎◌, nat_eq, nat_lt, nat_le, ◌&&◌, not}
use Rattle.noc_theory.proofs.Common.{false≢true, true≢false, eqb-true, and_parts, and_from, ltb-true, not-true, none-some, same_Some, below, Has, Pairs, Channel, Inject, Setup, Injection, State, Located, In, packet_at, place_of_flit, is_in, count_in, after_injection, injection_at, injections, injected_place, injection_with, beginning, first_waiting, is_injection_of, owned_by, first_at_source, is_the_flit, is_at_source, is_idle, nodes}
use Rattle.noc_theory.proofs.worms.BuiltRecordLemmas.{IsBuilt}
use Rattle.noc_theory.proofs.worms.OptionLemmas.{and_then-some, cond-some}
use Rattle.noc_theory.proofs.worms.BufferLemmas.{find-passes, same_channel-true}
use Rattle.noc_theory.proofs.worms.MemberLemmas.{Has-kept, Has-filter_map, find-has, each-at}
use Rattle.noc_theory.proofs.worms.StateWordLemmas.{IsKeyed}
use Rattle.noc_theory.proofs.worms.WormRecordLemmas.{IsWorm}
use Rattle.noc_theory.proofs.worms.InjectionPhaseLemmas.{IsApart}
use Rattle.noc_theory.proofs.worms.InjectionStateLemmas.{entry-of, entries-apart}
use Rattle.noc_theory.proofs.worms.RoomLemmas.{Gains, count-no_more, count-one_more, filter-some, unowned-empty}

pub filter-none : (t : Located → Bool) (xs : List Located) (x : Located) → length (filter t xs) ≡ 0 → Has x xs → t x ≡ false
filter-none t xs x e h = at (t x) refl
  where
    empty : (ys : List Located) → length ys ≡ 0 → Has x ys → ⊥
    empty [] l k = k
    empty (y ∷ ys) l k = omega arith

    at : (b : Bool) → t x ≡ b → t x ≡ false
    at false k = k
    at true k = absurd (empty (filter t xs) e (Has-kept t x xs h k))

apart-by_channel : (net : Setup) (a b : Injection net) (xs : List (Injection net)) → Pairs (IsApart net) xs → Has a xs → Has b xs → a.channel ≡ b.channel → a ≡ b
apart-by_channel net a b [] p h k e = elim h [ ]
apart-by_channel net a b (x ∷ xs) p (inl s) (inl t) e = s ∙ sym t
apart-by_channel net a b (x ∷ xs) p (inl s) (inr t) e = absurd ((each-at (IsApart net x) xs b p.0 t).1 (ap (λ (z : Injection net). z.channel) (sym s) ∙ e))
apart-by_channel net a b (x ∷ xs) p (inr s) (inl t) e = absurd ((each-at (IsApart net x) xs a p.0 s).1 (ap (λ (z : Injection net). z.channel) (sym t) ∙ sym e))
apart-by_channel net a b (x ∷ xs) p (inr s) (inr t) e = apart-by_channel net a b xs p.1 s t e

module _ (net : Setup) (built : IsBuilt net) (S : State) (keyed : IsKeyed net S.at) (w : IsWorm net S.own (place_of_flit net S)) (n : ℕ) where
  abbrev all : List (Injection net)
  all = injections net S n

  abbrev step : Located → Located
  step f = record f { place = injected_place net S f (find (λ (one : Injection net). nat_eq one.packet f.packet) all) }

  begins-new : (node q : ℕ) (one : Injection net) → beginning net S n node q ≡ Some one → one.begins ≡ true
  begins-new node q one e =
      let b = cond-some (nat_le (packet_at net q).due n) (option_map (λ v. (record { packet = q; channel = Inject node v; begins = true })) (find (λ v. is_idle net S (Inject node v)) (below net.relation.vcs))) one e in
      found (find (λ v. is_idle net S (Inject node v)) (below net.relation.vcs)) b.1
    where
      found : (o : Option ℕ) → option_map (λ v. (record { packet = q; channel = Inject node v; begins = true })) o ≡ Some one → one.begins ≡ true
      found None g = absurd (none-some one g)
      found (Some v) g = let s : record { packet = q; channel = Inject node v; begins = true } ≡ one = same_Some (record { packet = q; channel = Inject node v; begins = true }) one g in ap (λ (x : Injection net). x.begins) (sym s)

  -- where a flit is injected there was room
  entry-room : (node : ℕ) (one : Injection net) → injection_at net S n node ≡ Some one → count_in net S one.channel < net.depth
  entry-room node one e =
      let r = and_then-some (λ q. injection_with net S n node q (find (is_injection_of net node) (owned_by net S q))) (first_waiting net S node) one e in
      at r.0 (find (is_injection_of net node) (owned_by net S r.0)) r.2
    where
      fresh : one.begins ≡ true → count_in net S one.channel < net.depth
      fresh t = of_way (entry-of net built S keyed w n node one e).goes
        where
          of_way : ((one.begins ≡ false) × Has (one.channel, one.packet) S.own) ⊎ ((one.begins ≡ true) × ((p : ℕ) → Has (one.channel, p) S.own → ⊥) × ((c : Channel) → Has (c, one.packet) S.own → ⊥)) → count_in net S one.channel < net.depth
          of_way (inl s) = absurd (false≢true (sym s.0 ∙ t))
          of_way (inr s) = let z = unowned-empty net built S keyed w one.channel s.1 in let b = built.some_depth in omega arith

      at : (q : ℕ) (o : Option Channel) → injection_with net S n node q o ≡ Some one → count_in net S one.channel < net.depth
      at q None g = fresh (begins-new node q one g)
      at q (Some j) g =
          let b = cond-some (nat_lt (count_in net S j) net.depth) (Some (record { packet = q; channel = j; begins = false })) one g in
          let s : record { packet = q; channel = j; begins = false } ≡ one = same_Some (record { packet = q; channel = j; begins = false }) one b.1 in
          subst (λ (x : Injection net). count_in net S x.channel < net.depth) s (ltb-true _ _ b.0)

  gain-entry : (c : Channel) (f : Located) → Gains (λ (g : Located). is_in c g.place) step f
      → (one : Injection net) × Has one all × (one.packet ≡ f.packet) × (one.channel ≡ c) × (is_the_flit net f (first_at_source net S f.packet) ≡ true)
  gain-entry c f g = at (find (λ (one : Injection net). nat_eq one.packet f.packet) all) refl g.1
    where
      at : (o : Option (Injection net)) → find (λ (one : Injection net). nat_eq one.packet f.packet) all ≡ o → is_in c (injected_place net S f o) ≡ true
          → (one : Injection net) × Has one all × (one.packet ≡ f.packet) × (one.channel ≡ c) × (is_the_flit net f (first_at_source net S f.packet) ≡ true)
      at None e t = absurd (false≢true (sym g.0 ∙ t))
      at (Some one) e t = by (is_at_source f.place && is_the_flit net f (first_at_source net S f.packet)) refl t
        where
          by : (b : Bool) → (is_at_source f.place && is_the_flit net f (first_at_source net S f.packet)) ≡ b → is_in c (cond b (In one.channel) f.place) ≡ true
              → (one : Injection net) × Has one all × (one.packet ≡ f.packet) × (one.channel ≡ c) × (is_the_flit net f (first_at_source net S f.packet) ≡ true)
          by false k u = absurd (false≢true (sym g.0 ∙ u))
          by true k u = (
            one,
            find-has (λ (x : Injection net). nat_eq x.packet f.packet) all one e,
            eqb-true one.packet f.packet (find-passes (λ (x : Injection net). nat_eq x.packet f.packet) all one e),
            sym (same_channel-true c one.channel u),
            (and_parts (is_at_source f.place) (is_the_flit net f (first_at_source net S f.packet)) k).1,
          )

  one-flit : (f g : Located) (o : Option Located) → is_the_flit net f o ≡ true → is_the_flit net g o ≡ true → (f.packet ≡ g.packet) × (f.index ≡ g.index)
  one-flit f g None a b = absurd (false≢true a)
  one-flit f g (Some x) a b =
      let p = and_parts (nat_eq f.packet x.packet) (nat_eq f.index x.index) a in
      let q = and_parts (nat_eq g.packet x.packet) (nat_eq g.index x.index) b in
      (eqb-true _ _ p.0 ∙ sym (eqb-true _ _ q.0), eqb-true _ _ p.1 ∙ sym (eqb-true _ _ q.1))

  one-gain : (c : Channel) (f g : Located) → Has f S.at → Has g S.at → Gains (λ (x : Located). is_in c x.place) step f → Gains (λ (x : Located). is_in c x.place) step g → (f.packet ≡ g.packet) × (f.index ≡ g.index)
  one-gain c f g hf hg a b =
      let x = gain-entry c f a in
      let y = gain-entry c g b in
      let same : x.0 ≡ y.0 = apart-by_channel net x.0 y.0 all (entries-apart net built S keyed w n) x.1 y.1 (x.3 ∙ sym y.3) in
      let packets : f.packet ≡ g.packet = sym x.2 ∙ ap (λ (z : Injection net). z.packet) same ∙ y.2 in
      one-flit f g (first_at_source net S f.packet) x.4 (ap (λ z. is_the_flit net g (first_at_source net S z)) packets ∙ y.4)

  -- so injection keeps every buffer within its slots
  pub room-after_injection : (c : Channel) → count_in net S c ≤ net.depth → count_in net (after_injection net n S) c ≤ net.depth
  unfolding after_injection
  room-after_injection c room = cases (filter-some (λ (f : Located). not (is_in c f.place) && is_in c (step f).place) S.at)
    where
      cases : (length (filter (λ (f : Located). not (is_in c f.place) && is_in c (step f).place) S.at) ≡ 0)
          ⊎ ((f : Located) × Has f S.at × ((not (is_in c f.place) && is_in c (step f).place) ≡ true)) → count_in net (after_injection net n S) c ≤ net.depth
      cases (inl e) =
          let more : count_in net (after_injection net n S) c ≤ count_in net S c = count-no_more (λ (f : Located). is_in c f.place) step S.at (λ f h k. comes f (is_in c (step f).place) refl k (filter-none (λ (g : Located). not (is_in c g.place) && is_in c (step g).place) S.at f e h)) in
          omega arith
        where
          comes : (f : Located) (b : Bool) → is_in c (step f).place ≡ b → is_in c f.place ≡ false → (not (is_in c f.place) && is_in c (step f).place) ≡ false → is_in c (step f).place ≡ false
          comes f false e k z = e
          comes f true e k z = absurd (true≢false (sym (and_from _ _ (ap not k) e) ∙ z))
      cases (inr r) =
          let f : Located = r.0 in
          let parts = and_parts (not (is_in c f.place)) (is_in c (step f).place) r.2 in
          let x = gain-entry c f (not-true _ parts.0, parts.1) in
          let node = Has-filter_map (injection_at net S n) x.0 (below (nodes net.relation.grid)) x.1 in
          let room_there : count_in net S c < net.depth = subst (λ (d : Channel). count_in net S d < net.depth) x.3 (entry-room node.0 x.0 node.2) in
          let more : count_in net (after_injection net n S) c ≤ count_in net S c + 1 = count-one_more (λ (g : Located). is_in c g.place) step S.at keyed.sorted (one-gain c) in
          omega arith
