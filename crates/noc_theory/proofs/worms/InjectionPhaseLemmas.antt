-- Phase three, on owners and places.
use Rattle.std.proofs.Common.{◌≡◌, ◌≢◌, ℕ, ◌+◌, ◌*◌, ◌<◌, ◌≤◌, Bool, true, false, List, [], ◌∷◌, ◌++◌, map, length, refl, ap, sym, ◌∙◌, inl, inr, subst, arith, append-nil}
use Rattle.std.specs.Prelude.{filter, ◌⊎◌, nat_eq}
use Rattle.noc_theory.proofs.Common.{false≢true, cases_eq, eqb-true, Channel, Link, Inject, Eject, Setup, Injection, Place, Source, On, In, Out, packet_at, weight, hops, IsPath, Has, Pairs, IsValid}
use Rattle.noc_theory.proofs.worms.BuiltRecordLemmas.{IsBuilt}
use Rattle.noc_theory.proofs.worms.MemberLemmas.{Has-append, Has-left, Has-right, Has-filter, Has-kept, Has-map, Has-mapped, Pairs-filter, Pairs-append, Pairs-map, each-at, each-from}
use Rattle.noc_theory.proofs.worms.OwnedLemmas.{IsOnce, of, of-append, of-has, has-of}
use Rattle.noc_theory.proofs.worms.StateWordLemmas.{IsOtherChannel, IsPlaced, IsNear, IsEntering, class_of, goal, last_of}
use Rattle.noc_theory.proofs.worms.PathLemmas.{IsBehind, path-behind, path-tail}
use Rattle.noc_theory.proofs.worms.WormRecordLemmas.{IsWorm, valid-last, valid-first, valid-below}

-- of different packets, to different channels
abbrev pub IsApart : (net : Setup) → Injection net → Injection net → Type 0
IsApart net a b = (a.packet ≢ b.packet) × (a.channel ≢ b.channel)

pub apart-same : (net : Setup) (a b : Injection net) (xs : List (Injection net)) → Pairs (IsApart net) xs → Has a xs → Has b xs → a.packet ≡ b.packet → a ≡ b
apart-same net a b [] p h k e = elim h [ ]
apart-same net a b (x ∷ xs) p (inl s) (inl t) e = s ∙ sym t
apart-same net a b (x ∷ xs) p (inl s) (inr t) e = absurd ((each-at (IsApart net x) xs b p.0 t).0 (ap (λ (z : Injection net). z.packet) (sym s) ∙ e))
apart-same net a b (x ∷ xs) p (inr s) (inl t) e = absurd ((each-at (IsApart net x) xs a p.0 s).0 (ap (λ (z : Injection net). z.packet) (sym t) ∙ sym e))
apart-same net a b (x ∷ xs) p (inr s) (inr t) e = apart-same net a b xs p.1 s t e

-- where each packet comes once, it comes at most once
pub of-one : (q : ℕ) (ys : List (Channel × ℕ)) → Pairs (λ (a b : Channel × ℕ). a.1 ≢ b.1) ys → (of q ys ≡ []) ⊎ ((j : Channel) × Has (j, q) ys × (of q ys ≡ j ∷ []))
of-one q [] p = inl refl
of-one q (y ∷ ys) p = at (nat_eq q y.1) refl (of-one q ys p.1)
  where
    at : (b : Bool) → nat_eq q y.1 ≡ b → (of q ys ≡ []) ⊎ ((j : Channel) × Has (j, q) ys × (of q ys ≡ j ∷ [])) → (of q (y ∷ ys) ≡ []) ⊎ ((j : Channel) × Has (j, q) (y ∷ ys) × (of q (y ∷ ys) ≡ j ∷ []))
    at false e (inl z) = inl (rw e z)
    at false e (inr r) = inr (r.0, inr r.1, rw e r.2)
    at true e (inl z) = let s : q ≡ y.1 = eqb-true q y.1 e in inr (y.0, inl (ap (λ x. (y.0, x)) s), rw e (ap (λ xs. y.0 ∷ xs) z))
    at true e (inr r) = let s : q ≡ y.1 = eqb-true q y.1 e in absurd (each-at (λ (b : Channel × ℕ). y.1 ≢ b.1) ys (r.0, q) p.0 r.1 (sym s))

module _ (net : Setup) (built : IsBuilt net) (own : List (Channel × ℕ)) (at : ℕ → ℕ → Place) (w : IsWorm net own at) where
  -- a flit other than one at its source weighs less
  pub light : (p : ℕ) (x : Place) → IsPlaced net own p x → x ≢ Source → weight net p x ≤ 3 * hops net p + 1
  light p Source h s = absurd (s refl)
  light p (On (Link r a v)) h s = let n = (w.near (Link r a v) p h).0 in omega arith
  light p (On (Inject n v)) h s = elim h [ ]
  light p (On (Eject n v)) h s = elim h [ ]
  light p (In (Link r a v)) h s = let n = (w.near (Link r a v) p h).0 in omega arith
  light p (In (Inject n v)) h s = omega arith
  light p (In (Eject n v)) h s = elim h [ ]
  light p (Out n) h s = omega arith

  -- so behind a flit at its source all are
  pub heavy-source : (p : ℕ) (x : Place) → IsPlaced net own p x → 3 * hops net p + 2 ≤ weight net p x → x ≡ Source
  heavy-source p Source h l = refl
  heavy-source p (On (Link r a v)) h l = let n = (w.near (Link r a v) p h).0 in absurd (omega arith)
  heavy-source p (On (Inject n v)) h l = elim h [ ]
  heavy-source p (On (Eject n v)) h l = elim h [ ]
  heavy-source p (In (Link r a v)) h l = let n = (w.near (Link r a v) p h).0 in absurd (omega arith)
  heavy-source p (In (Inject n v)) h l = absurd (omega arith)
  heavy-source p (In (Eject n v)) h l = elim h [ ]
  heavy-source p (Out n) h l = absurd (omega arith)

  pub source-behind : (p i j : ℕ) → IsValid net p j → i ≤ j → at p i ≡ Source → at p j ≡ Source
  source-behind p i j v l e =
      let o = w.order p i j v l in
      let we : weight net p (at p i) ≡ 3 * hops net p + 2 = ap (weight net p) e in
      heavy-source p (at p j) (w.placed p j v) (omega arith)

  two-injects-in : (p : ℕ) (a b : Channel) (xs : List Channel) → IsPath net (class_of net p) (goal net p) xs → Has a xs → Has b xs
      → (n v : ℕ) → a ≡ Inject n v → (m u : ℕ) → b ≡ Inject m u → a ≡ b
  two-injects-in p a b [] path h k n v e m u f = elim h [ ]
  two-injects-in p a b (x ∷ xs) path (inl s) (inl t) n v e m u f = s ∙ sym t
  two-injects-in p a b (x ∷ xs) path (inl s) (inr t) n v e m u f =
      absurd (subst (λ (z : Channel). IsBehind net built (class_of net p) (goal net p) x z) f (path-behind net built (class_of net p) (goal net p) x xs path b t))
  two-injects-in p a b (x ∷ xs) path (inr s) (inl t) n v e m u f =
      absurd (subst (λ (z : Channel). IsBehind net built (class_of net p) (goal net p) x z) e (path-behind net built (class_of net p) (goal net p) x xs path a s))
  two-injects-in p a b (x ∷ xs) path (inr s) (inr t) n v e m u f =
      two-injects-in p a b xs (path-tail net built (class_of net p) (goal net p) x xs path) s t n v e m u f

  -- a packet owns at most one injection channel
  pub two-injects : (p n v m u : ℕ) → Has (Inject n v, p) own → Has (Inject m u, p) own → Inject n v ≡ Inject m u
  two-injects p n v m u h k =
      two-injects-in p (Inject n v) (Inject m u) (of p own) (w.path p) (has-of (Inject n v) p own h) (has-of (Inject m u) p own k) n v refl m u refl

  -- an entry is of a packet whose tail is at its source, on an injection channel of its node: its
  -- own, or one that is new to it, and it owns nothing
  pub record IsEntry (node : ℕ) (one : Injection net) : Type 0 where
    pub low : one.packet < length net.packets
    pub from : node ≡ (packet_at net one.packet).source
    pub vc : ℕ
    pub channel : one.channel ≡ Inject node vc
    pub waits : at one.packet (last_of net one.packet) ≡ Source
    pub goes : ((one.begins ≡ false) × Has (one.channel, one.packet) own)
        ⊎ ((one.begins ≡ true) × ((p : ℕ) → Has (one.channel, p) own → ⊥) × ((c : Channel) → Has (c, one.packet) own → ⊥))

  module _ (all : List (Injection net)) (entries : (one : Injection net) → Has one all → (node : ℕ) × IsEntry node one) (apart : Pairs (IsApart net) all) (to : ℕ → ℕ → Place) where
    -- the first flit of p at its source goes to its entry's channel
    pub record IsEnteredBy (p : ℕ) (one : Injection net) : Type 0 where
      pub flit : ℕ
      pub valid : IsValid net p flit
      pub was : at p flit ≡ Source
      pub first : (i : ℕ) → i < flit → at p i ≢ Source
      pub now : to p flit ≡ In one.channel
      pub others : (i : ℕ) → IsValid net p i → i ≢ flit → to p i ≡ at p i

    abbrev pub IsInjected : ℕ → Type 0
    IsInjected p = (((i : ℕ) → IsValid net p i → to p i ≡ at p i) × ((one : Injection net) → Has one all → one.packet ≢ p))
        ⊎ ((one : Injection net) × Has one all × (one.packet ≡ p) × IsEnteredBy p one)

    abbrev pub news : List (Channel × ℕ)
    news = map (λ (one : Injection net). (one.channel, one.packet)) (filter (λ (one : Injection net). one.begins) all)

    pub new-entry : (c : Channel) (p : ℕ) → Has (c, p) news → (one : Injection net) × Has one all × (one.begins ≡ true) × (one.channel ≡ c) × (one.packet ≡ p)
    new-entry c p h =
        let m = Has-map (λ (one : Injection net). (one.channel, one.packet)) (c, p) (filter (λ (one : Injection net). one.begins) all) h in
        let f = Has-filter (λ (one : Injection net). one.begins) m.0 all m.1 in
        (m.0, f.0, f.1, ap (λ (x : Channel × ℕ). x.0) m.2, ap (λ (x : Channel × ℕ). x.1) m.2)

    -- a new pair is of a packet that owns nothing, on a channel that nobody owns
    pub new-fresh : (c : Channel) (p : ℕ) → Has (c, p) news → ((q : ℕ) → Has (c, q) own → ⊥) × ((d : Channel) → Has (d, p) own → ⊥)
    new-fresh c p h = at_one (new-entry c p h)
      where
        of_way : (one : Injection net) → one.begins ≡ true → one.channel ≡ c → one.packet ≡ p
            → ((one.begins ≡ false) × Has (one.channel, one.packet) own) ⊎ ((one.begins ≡ true) × ((q : ℕ) → Has (one.channel, q) own → ⊥) × ((d : Channel) → Has (d, one.packet) own → ⊥))
            → ((q : ℕ) → Has (c, q) own → ⊥) × ((d : Channel) → Has (d, p) own → ⊥)
        of_way one n e f (inl s) = absurd (false≢true (sym s.0 ∙ n))
        of_way one n e f (inr s) = ((λ q k. s.1 q (subst (λ (x : Channel). Has (x, q) own) (sym e) k)), (λ d k. s.2 d (subst (λ (x : ℕ). Has (d, x) own) (sym f) k)))

        at_one : (one : Injection net) × Has one all × (one.begins ≡ true) × (one.channel ≡ c) × (one.packet ≡ p) → ((q : ℕ) → Has (c, q) own → ⊥) × ((d : Channel) → Has (d, p) own → ⊥)
        at_one r = of_way r.0 r.2 r.3 r.4 (entries r.0 r.1).1.goes

    placed-left : (p : ℕ) (x : Place) → IsPlaced net own p x → IsPlaced net (own ++ news) p x
    placed-left p Source h = tt
    placed-left p (On (Link r a v)) h = Has-left (Link r a v, p) own news h
    placed-left p (On (Inject n v)) h = elim h [ ]
    placed-left p (On (Eject n v)) h = elim h [ ]
    placed-left p (In (Link r a v)) h = Has-left (Link r a v, p) own news h
    placed-left p (In (Inject n v)) h = Has-left (Inject n v, p) own news h
    placed-left p (In (Eject n v)) h = elim h [ ]
    placed-left p (Out n) h = tt

    -- an entry's channel is owned afterwards
    entry-owned : (one : Injection net) → Has one all → Has (one.channel, one.packet) (own ++ news)
    entry-owned one h = of_way (entries one h).1.goes
      where
        of_way : ((one.begins ≡ false) × Has (one.channel, one.packet) own) ⊎ ((one.begins ≡ true) × ((q : ℕ) → Has (one.channel, q) own → ⊥) × ((d : Channel) → Has (d, one.packet) own → ⊥)) → Has (one.channel, one.packet) (own ++ news)
        of_way (inl s) = Has-left (one.channel, one.packet) own news s.1
        of_way (inr s) = Has-right (one.channel, one.packet) own news (Has-mapped (λ (x : Injection net). (x.channel, x.packet)) one (filter (λ (x : Injection net). x.begins) all) (Has-kept (λ (x : Injection net). x.begins) one all h s.0))

    news-apart : Pairs (λ (a b : Channel × ℕ). (a.0 ≢ b.0) × (a.1 ≢ b.1)) news
    news-apart = Pairs-map (λ (a b : Channel × ℕ). (a.0 ≢ b.0) × (a.1 ≢ b.1)) (IsApart net) (λ (one : Injection net). (one.channel, one.packet)) (λ a b s. (s.1, s.0)) (filter (λ (one : Injection net). one.begins) all) (Pairs-filter (IsApart net) (λ (one : Injection net). one.begins) all apart)

    pairs-part : {X : Type 0} (R S : X → X → Type 0) → ((a b : X) → R a b → S a b) → (xs : List X) → Pairs R xs → Pairs S xs
    pairs-part R S f [] p = tt
    pairs-part R S f (x ∷ xs) p = (each-from (S x) xs (λ y h. f x y (each-at (R x) xs y p.0 h)), pairs-part R S f xs p.1)

    once-new : IsOnce (own ++ news)
    once-new =
        Pairs-append IsOtherChannel own news w.once (pairs-part (λ (a b : Channel × ℕ). (a.0 ≢ b.0) × (a.1 ≢ b.1)) IsOtherChannel (λ a b s. s.0) news news-apart)
        (λ x y h k s. (new-fresh y.0 y.1 k).0 x.1 (subst (λ (z : Channel). Has (z, x.1) own) s h))

    path-new : (p : ℕ) → IsPath net (class_of net p) (goal net p) (of p (own ++ news))
    path-new p = subst (λ (xs : List Channel). IsPath net (class_of net p) (goal net p) xs) (sym (of-append p own news))
        (with_news (of-one p news (pairs-part (λ (a b : Channel × ℕ). (a.0 ≢ b.0) × (a.1 ≢ b.1)) (λ (a b : Channel × ℕ). a.1 ≢ b.1) (λ a b s. s.1) news news-apart)))
      where
        alone : (j : Channel) (xs : List Channel) → ((c : Channel) → Has c xs → ⊥) → IsPath net (class_of net p) (goal net p) (xs ++ j ∷ [])
        alone j [] none = tt
        alone j (x ∷ xs) none = absurd (none x (inl refl))

        with_news : (of p news ≡ []) ⊎ ((j : Channel) × Has (j, p) news × (of p news ≡ j ∷ [])) → IsPath net (class_of net p) (goal net p) (of p own ++ of p news)
        with_news (inl e) = rw e (rw append-nil (w.path p))
        with_news (inr r) = rw r.2 (alone r.0 (of p own) (λ c h. (new-fresh r.0 p r.1).1 c (of-has c p own h)))

    known-new : (c : Channel) (p : ℕ) → Has (c, p) (own ++ news) → (p < length net.packets) × IsNear net p c
    known-new c p h = cases (Has-append (c, p) own news h)
      where
        cases : Has (c, p) own ⊎ Has (c, p) news → (p < length net.packets) × IsNear net p c
        cases (inl k) = (w.known c p k, w.near c p k)
        cases (inr k) =
            let r = new-entry c p k in
            let e = (entries r.0 r.1).1 in
            let is : Inject (entries r.0 r.1).0 e.vc ≡ c = sym e.channel ∙ r.3 in
            let from : (entries r.0 r.1).0 ≡ (packet_at net p).source = e.from ∙ ap (λ x. (packet_at net x).source) r.4 in
            let low : p < length net.packets = subst (λ (x : ℕ). x < length net.packets) r.4 e.low in
            (low, subst (λ (x : Channel). IsNear net p x) is from)

    -- the place of an entry's channel
    entry-place : (p : ℕ) (one : Injection net) → Has one all → one.packet ≡ p → IsPlaced net (own ++ news) p (In one.channel)
    entry-place p one h e =
        let r = (entries one h).1 in
        let owns : Has (Inject (entries one h).0 r.vc, p) (own ++ news) = subst (λ (x : Channel). Has (x, p) (own ++ news)) r.channel (subst (λ (x : ℕ). Has (one.channel, x) (own ++ news)) e (entry-owned one h)) in
        subst (λ (x : Channel). IsPlaced net (own ++ news) p (In x)) (sym r.channel) owns

    entry-weight : (p : ℕ) (one : Injection net) → Has one all → weight net p (In one.channel) ≡ 3 * hops net p + 1
    entry-weight p one h = ap (λ (x : Channel). weight net p (In x)) (entries one h).1.channel

    module _ (moves : (p : ℕ) → p < length net.packets → IsInjected p) where
      placed-new : (p i : ℕ) → IsValid net p i → IsPlaced net (own ++ news) p (to p i)
      placed-new p i v = cases (moves p v.0)
        where
          at_flit : (one : Injection net) → Has one all → one.packet ≡ p → (e : IsEnteredBy p one) → (i ≡ e.flit) ⊎ (i ≡ e.flit → ⊥) → IsPlaced net (own ++ news) p (to p i)
          at_flit one h q e (inl s) = subst (λ (x : Place). IsPlaced net (own ++ news) p x) (sym (ap (to p) s ∙ e.now)) (entry-place p one h q)
          at_flit one h q e (inr s) = subst (λ (x : Place). IsPlaced net (own ++ news) p x) (sym (e.others i v s)) (placed-left p (at p i) (w.placed p i v))

          cases : IsInjected p → IsPlaced net (own ++ news) p (to p i)
          cases (inl s) = subst (λ (x : Place). IsPlaced net (own ++ news) p x) (sym (s.0 i v)) (placed-left p (at p i) (w.placed p i v))
          cases (inr r) = at_flit r.0 r.1 r.2 r.3 (cases_eq i r.3.flit)

      order-new : (p i j : ℕ) → IsValid net p j → i ≤ j → weight net p (to p i) ≤ weight net p (to p j)
      order-new p i j v l = cases (moves p v.0)
        where
          vi : IsValid net p i
          vi = valid-below net built p i j v l

          at_flits : (one : Injection net) → Has one all → (e : IsEnteredBy p one) → (i ≡ e.flit) ⊎ (i ≡ e.flit → ⊥) → (j ≡ e.flit) ⊎ (j ≡ e.flit → ⊥) → weight net p (to p i) ≤ weight net p (to p j)
          at_flits one h e (inl s) (inl t) = let same : weight net p (to p i) ≡ weight net p (to p j) = ap (λ x. weight net p (to p x)) (s ∙ sym t) in omega arith
          at_flits one h e (inl s) (inr t) =
              let wi : weight net p (to p i) ≡ 3 * hops net p + 1 = ap (λ x. weight net p (to p x)) s ∙ ap (weight net p) e.now ∙ entry-weight p one h in
              let wj : weight net p (to p j) ≡ weight net p (at p j) = ap (weight net p) (e.others j v t) in
              let wa : weight net p (at p i) ≡ 3 * hops net p + 2 = ap (λ x. weight net p (at p x)) s ∙ ap (weight net p) e.was in
              let o = w.order p i j v l in
              omega arith
          at_flits one h e (inr s) (inl t) =
              let wi : weight net p (to p i) ≡ weight net p (at p i) = ap (weight net p) (e.others i vi s) in
              let wj : weight net p (to p j) ≡ 3 * hops net p + 1 = ap (λ x. weight net p (to p x)) t ∙ ap (weight net p) e.now ∙ entry-weight p one h in
              let b = light p (at p i) (w.placed p i vi) (e.first i (omega arith)) in
              omega arith
          at_flits one h e (inr s) (inr t) =
              let wi : weight net p (to p i) ≡ weight net p (at p i) = ap (weight net p) (e.others i vi s) in
              let wj : weight net p (to p j) ≡ weight net p (at p j) = ap (weight net p) (e.others j v t) in
              let o = w.order p i j v l in
              omega arith

          cases : IsInjected p → weight net p (to p i) ≤ weight net p (to p j)
          cases (inl s) =
              let wi : weight net p (to p i) ≡ weight net p (at p i) = ap (weight net p) (s.0 i vi) in
              let wj : weight net p (to p j) ≡ weight net p (at p j) = ap (weight net p) (s.0 j v) in
              let o = w.order p i j v l in
              omega arith
          cases (inr r) = at_flits r.0 r.1 r.3 (cases_eq i r.3.flit) (cases_eq j r.3.flit)

      -- an injection channel that p owns afterwards is that of its entry, if it has one
      entry-channel : (p n v : ℕ) (one : Injection net) → Has one all → one.packet ≡ p → Has (Inject n v, p) (own ++ news) → one.channel ≡ Inject n v
      entry-channel p n v one h q k = cases (Has-append (Inject n v, p) own news k)
        where
          e : IsEntry (entries one h).0 one
          e = (entries one h).1

          of_way : Has (Inject n v, p) own → ((one.begins ≡ false) × Has (one.channel, one.packet) own) ⊎ ((one.begins ≡ true) × ((x : ℕ) → Has (one.channel, x) own → ⊥) × ((d : Channel) → Has (d, one.packet) own → ⊥)) → one.channel ≡ Inject n v
          of_way m (inl s) =
              let mine : Has (Inject (entries one h).0 e.vc, p) own = subst (λ (x : Channel). Has (x, p) own) e.channel (subst (λ (x : ℕ). Has (one.channel, x) own) q s.1) in
              e.channel ∙ two-injects p (entries one h).0 e.vc n v mine m
          of_way m (inr s) = absurd (s.2 (Inject n v) (subst (λ (x : ℕ). Has (Inject n v, x) own) (sym q) m))

          cases : Has (Inject n v, p) own ⊎ Has (Inject n v, p) news → one.channel ≡ Inject n v
          cases (inl m) = of_way m e.goes
          cases (inr m) =
              let r = new-entry (Inject n v) p m in
              let same : one ≡ r.0 = apart-same net one r.0 all apart h r.1 (q ∙ sym r.4) in
              ap (λ (x : Injection net). x.channel) same ∙ r.3

      -- who has no entry owns what it did
      pub not-new : (c : Channel) (p : ℕ) → ((one : Injection net) → Has one all → one.packet ≢ p) → Has (c, p) (own ++ news) → Has (c, p) own
      not-new c p none h = cases (Has-append (c, p) own news h)
        where
          cases : Has (c, p) own ⊎ Has (c, p) news → Has (c, p) own
          cases (inl k) = k
          cases (inr k) = let r = new-entry c p k in absurd (none r.0 r.1 r.4)

      entering-new : (n v p : ℕ) → Has (Inject n v, p) (own ++ news) → IsEntering net (Inject n v) (to p (last_of net p))
      entering-new n v p h = cases (moves p low)
        where
          low : p < length net.packets
          low = (known-new (Inject n v) p h).0

          last : IsValid net p (last_of net p)
          last = valid-last net built p low

          at_flit : (one : Injection net) → Has one all → one.packet ≡ p → (e : IsEnteredBy p one) → (last_of net p ≡ e.flit) ⊎ (last_of net p ≡ e.flit → ⊥) → IsEntering net (Inject n v) (to p (last_of net p))
          at_flit one k q e (inl s) = subst (λ (x : Place). IsEntering net (Inject n v) x) (sym (ap (to p) s ∙ e.now)) (entry-channel p n v one k q h)
          at_flit one k q e (inr s) =
              let waits : at p (last_of net p) ≡ Source = ap (λ x. at x (last_of net x)) (sym q) ∙ (entries one k).1.waits in
              subst (λ (x : Place). IsEntering net (Inject n v) x) (sym (e.others (last_of net p) last s ∙ waits)) tt

          cases : IsInjected p → IsEntering net (Inject n v) (to p (last_of net p))
          cases (inl s) = subst (λ (x : Place). IsEntering net (Inject n v) x) (sym (s.0 (last_of net p) last)) (w.entering n v p (not-new (Inject n v) p s.1 h))
          cases (inr r) = at_flit r.0 r.1 r.2 r.3 (cases_eq (last_of net p) r.3.flit)

      begun-new : (c : Channel) (p : ℕ) → Has (c, p) (own ++ news) → to p 0 ≢ Source
      begun-new c p h = cases (moves p low)
        where
          low : p < length net.packets
          low = (known-new c p h).0

          at_flit : (one : Injection net) → (e : IsEnteredBy p one) → (0 ≡ e.flit) ⊎ (0 ≡ e.flit → ⊥) → to p 0 ≢ Source
          at_flit one e (inl s) z = let x : In one.channel ≡ Source = sym (ap (to p) s ∙ e.now) ∙ z in absurd (cc x)
          at_flit one e (inr s) z = e.first 0 (omega arith) (sym (e.others 0 (valid-first net built p low) s) ∙ z)

          cases : IsInjected p → to p 0 ≢ Source
          cases (inl s) z = w.begun c p (not-new c p s.1 h) (sym (s.0 0 (valid-first net built p low)) ∙ z)
          cases (inr r) z = at_flit r.0 r.3 (cases_eq 0 r.3.flit) z

      holds-new : (p : ℕ) → p < length net.packets → to p 0 ≢ Source → to p (last_of net p) ≡ Source → (v : ℕ) × Has (Inject (packet_at net p).source v, p) (own ++ news)
      holds-new p low b s = cases (moves p low)
        where
          cases : IsInjected p → (v : ℕ) × Has (Inject (packet_at net p).source v, p) (own ++ news)
          cases (inl still) =
              let r = w.holds p low (λ z. b (still.0 0 (valid-first net built p low) ∙ z)) (sym (still.0 (last_of net p) (valid-last net built p low)) ∙ s) in
              (r.0, Has-left (Inject (packet_at net p).source r.0, p) own news r.1)
          cases (inr r) =
              let one : Injection net = r.0 in
              let e = (entries one r.1).1 in
              let owns : Has (one.channel, p) (own ++ news) = subst (λ (x : ℕ). Has (one.channel, x) (own ++ news)) r.2 (entry-owned one r.1) in
              let named : one.channel ≡ Inject (packet_at net p).source e.vc = e.channel ∙ ap (λ x. Inject x e.vc) (e.from ∙ ap (λ x. (packet_at net x).source) r.2) in
              (e.vc, subst (λ (x : Channel). Has (x, p) (own ++ news)) named owns)

      pub worm-injected : IsWorm net (own ++ news) to
      worm-injected = record {
        once = once-new;
        path = path-new;
        known = λ c p h. (known-new c p h).0;
        near = λ c p h. (known-new c p h).1;
        placed = placed-new;
        order = order-new;
        entering = entering-new;
        begun = begun-new;
        holds = holds-new;
      }
