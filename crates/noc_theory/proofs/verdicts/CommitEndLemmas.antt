-- A tail that is out is noted as the arrival of its packet, and never as a misfit.
use Rattle.std.proofs.Common.{◌≡◌, ◌≢◌, ℕ, zero, suc, ◌+◌, ◌-◌, ◌*◌, ◌/◌, ◌%◌, ◌<◌, ◌≤◌, Bool, true, false, cond, List, [], ◌∷◌, map, length, get_or, Option, Some, None, refl, ap, sym, ◌∙◌, inl, inr, subst, arith}
use Rattle.std.specs.Prelude.{filter, is_none, ◌⊎◌, ◌&&◌, nat_eq, if◌then◌else◌}
use Rattle.noc_theory.proofs.Common.{list_any, enumerate_from, false≢true, eqb-true, eq-eqb, ne_eqb, and_from, cases_eq, Has, nodes, ports, local_port, Packet, Channel, Link, Inject, Eject, Site, View, Decisions, decisions_of, flit_out, tail_packet, with_arrival, mover, ends_at, Setup, State, On, In, Out, size, leaving, packet_at, place_of_flit, tail_place, out_cycle, gone_to, after_verdicts, IsSeen}
use Rattle.noc_theory.proofs.worms.MemberLemmas.{Has-map, Has-mapped, Has-filter, Has-kept, list_any-from}
use Rattle.noc_theory.proofs.worms.MoveLemmas.{IsMoved, moved-or-not, next-once}
use Rattle.noc_theory.proofs.worms.StateWordLemmas.{last_of}
use Rattle.noc_theory.proofs.worms.WormRecordLemmas.{valid-last}
use Rattle.noc_theory.proofs.verdicts.AfterLemmas.{Moves}
use Rattle.noc_theory.proofs.verdicts.MoverLemmas.{MoverTo}
use Rattle.noc_theory.proofs.join.OrderedLemmas.{IsGood, IsOrderedFrozen}
use Rattle.noc_theory.proofs.join.PlaceViewLemmas.{OutputCase, ejects, links, output-case, eject-from}
use Rattle.noc_theory.proofs.verdicts.PortLemmas.{ByPort, nothing, something, by-port, port-idle, port-one, flit_of}
use Rattle.noc_theory.proofs.injection.SourceLemmas.{same-owner}

-- ---- the packets that end at a node

abbrev pub no_packet : Packet
no_packet = record { source = 0; destination = 0; class = 0; length = 0; due = 0 }

pub enumerate-has : (a : ℕ) (xs : List Packet) (one : ℕ × Packet) → Has one (enumerate_from a xs) → (k : ℕ) × (k < length xs) × (one.0 ≡ a + k) × (one.1 ≡ get_or xs k no_packet)
enumerate-has a [] one h = elim h [ ]
enumerate-has a (x ∷ xs) one (inl e) = (0, omega arith, ap (λ (y : ℕ × Packet). y.0) e ∙ omega arith, ap (λ (y : ℕ × Packet). y.1) e)
enumerate-has a (x ∷ xs) one (inr h) = let r = enumerate-has (a + 1) xs one h in (r.0 + 1, omega (arith, r.1), r.2 ∙ omega arith, r.3 ∙ next r.0)
  where
    next : (k : ℕ) → get_or xs k no_packet ≡ get_or (x ∷ xs) (k + 1) no_packet
    next k = ap (λ j. get_or (x ∷ xs) j no_packet) (sym (Rattle.std.proofs.Common.add-one k))

pub enumerate-member : (a k : ℕ) (xs : List Packet) → k < length xs → Has (a + k, get_or xs k no_packet) (enumerate_from a xs)
enumerate-member a k [] l = absurd (omega arith)
enumerate-member a zero (x ∷ xs) l = let e : a + zero ≡ a = omega arith in inl (ap (λ j. (j, x)) e)
enumerate-member a (suc k) (x ∷ xs) l = let e : a + 1 + k ≡ a + suc k = omega arith in inr (subst (λ j. Has (j, get_or xs k no_packet) (enumerate_from (a + 1) xs)) e (enumerate-member (a + 1) k xs (omega arith)))

module _ (net : Setup) where
  pub ends-here : (r q : ℕ) → Has q (ends_at net r) → (q < length net.packets) × ((packet_at net q).destination ≡ r)
  ends-here r q h =
      let m = Has-map (λ (one : ℕ × Packet). one.0) q (filter (λ (one : ℕ × Packet). nat_eq one.1.destination r) (enumerate_from 0 net.packets)) h in
      let f = Has-filter (λ (one : ℕ × Packet). nat_eq one.1.destination r) m.0 (enumerate_from 0 net.packets) m.1 in
      let e = enumerate-has 0 net.packets m.0 f.0 in
      let same : e.0 ≡ q = let k = e.2 in let j = m.2 in omega (arith, k, j) in
      (subst (λ k. k < length net.packets) same e.1, ap (λ k. (packet_at net k).destination) (sym same) ∙ ap (λ (p : Packet). p.destination) (sym e.3) ∙ eqb-true _ _ f.1)

  pub here-ends : (r q : ℕ) → q < length net.packets → (packet_at net q).destination ≡ r → Has q (ends_at net r)
  here-ends r q l e =
      let m : Has (q, packet_at net q) (enumerate_from 0 net.packets) = let z : 0 + q ≡ q = omega arith in subst (λ j. Has (j, packet_at net q) (enumerate_from 0 net.packets)) z (enumerate-member 0 q net.packets l) in
      Has-mapped (λ (one : ℕ × Packet). one.0) (q, packet_at net q) (filter (λ (one : ℕ × Packet). nat_eq one.1.destination r) (enumerate_from 0 net.packets))
      (Has-kept (λ (one : ℕ × Packet). nat_eq one.1.destination r) (q, packet_at net q) (enumerate_from 0 net.packets) m (eq-eqb _ _ e))

pub map-each : {X Y : Type 0} (f g : X → Y) (xs : List X) → ((x : X) → Has x xs → f x ≡ g x) → map f xs ≡ map g xs
map-each f g [] same = refl
map-each f g (x ∷ xs) same = ap (λ y. y ∷ map f xs) (same x (inl refl)) ∙ ap (λ ys. g x ∷ ys) (map-each f g xs (λ y h. same y (inr h)))

pub map-again : {X Y Z : Type 0} (g : Y → Z) (f : X → Y) (xs : List X) → map g (map f xs) ≡ map (λ x. g (f x)) xs
map-again g f [] = refl
map-again g f (x ∷ xs) = ap (λ ys. g (f x) ∷ ys) (map-again g f xs)

module _ (net : Setup) (good : IsGood net) (F : State) (x : IsOrderedFrozen net F) (n r : ℕ) (l : r < nodes net.relation.grid) (v : View) (seen : IsSeen net F r v) where
  abbrev T : State
  T = after_verdicts net n F

  abbrev D : Decisions
  D = decisions_of net.relation v

  abbrev pub arrival : Option ℕ
  arrival = tail_packet (flit_out v D.round (local_port v.site.grid))

  -- a tail that goes out here goes by an ejection channel of this router
  record Leaves (q : ℕ) : Type 0 where
    before : Channel
    out : ℕ
    within : out < size net
    port : out / net.relation.vcs ≡ local_port net.relation.grid
    moves : Moves net good F x n q (last_of net q) before (leaving net r out)

  data Tail (q : ℕ) : Type 0 where
    stays : out_cycle (tail_place net T q) ≡ out_cycle (tail_place net F q) → (Leaves q → ⊥) → Tail q
    leaves : Leaves q → out_cycle (tail_place net T q) ≡ Some n → out_cycle (tail_place net F q) ≡ None → Tail q

  tail : (q : ℕ) → q < length net.packets → (packet_at net q).destination ≡ r → Tail q
  tail q low dest = by (moved-or-not net good.built F x.whole.sound.keyed x.whole.sound.worm n x.whole.sound.still q (last_of net q) (valid-last net good.built q low))
    where
      moving : (d c : Channel) → Moves net good F x n q (last_of net q) d c → Tail q
      moving d (Link a b w) m =
          stays (ap out_cycle m.now ∙ sym (ap out_cycle m.was))
          (λ k.
          let z : In d ≡ In k.before = sym m.was ∙ k.moves.was in
          let out : place_of_flit net T q (last_of net q) ≡ gone_to net n k.before (Some (leaving net r k.out)) = k.moves.now in
          ejected k.out k.within k.port k.before (sym m.now ∙ out))
        where
          ejected : (o : ℕ) → o < size net → o / net.relation.vcs ≡ local_port net.relation.grid → (e : Channel) → On (Link a b w) ≡ gone_to net n e (Some (leaving net r o)) → ⊥
          ejected o u p e z = case (output-case net good r o u)
            where
              case : OutputCase net good r o → ⊥
              case (ejects _ k) = let y : On (Link a b w) ≡ Out n = z ∙ ap (λ (c : Channel). gone_to net n e (Some c)) k in cc y
              case (links k _) = absurd (omega (arith, k, p))
      moving d (Inject a w) m = absurd (false≢true m.next.leads)
      moving d (Eject a w) m =
          let here : a ≡ r = x.more.at_goal a w q m.next.owns ∙ dest in
          let f = eject-from net good r w (x.more.low a w q m.next.owns) in
          let same : Eject a w ≡ leaving net r (local_port net.relation.grid * net.relation.vcs + w) = ap (λ k. Eject k w) here ∙ sym f.found in
          leaves
          (record {
            before = d;
            out = local_port net.relation.grid * net.relation.vcs + w;
            within = f.index;
            port = Rattle.std.proofs.lemmas.Nat.div-mul-add (local_port net.relation.grid) net.relation.vcs w (x.more.low a w q m.next.owns);
            moves = subst (λ (c : Channel). Moves net good F x n q (last_of net q) d c) same m;
          })
          (ap out_cycle m.now) (ap out_cycle m.was)

      by : IsMoved net good.built F x.whole.sound.keyed x.whole.sound.worm n x.whole.sound.still q (last_of net q) → Tail q
      by (inl s) = stays (ap out_cycle s.now) (λ k. s.not_first k.before k.moves.moves k.moves.first)
      by (inr m) = moving m.0 m.1 m.2

  -- what leaves by the local port, if it is a tail
  local-low : local_port net.relation.grid < ports net.relation.grid
  local-low = omega arith

  same_local : flit_out v D.round (local_port v.site.grid) ≡ flit_out v D.round (local_port net.relation.grid)
  same_local = ap (λ (s : Site). flit_out v D.round (local_port s.grid)) seen.site

  -- the tail that leaves is the flit that moves by the local port
  the-tail : (i o q : ℕ) → mover v.site D.round (local_port net.relation.grid) ≡ Some i → (m : MoverTo net good F x n r l v seen o i) → Leaves q → (m.flit.packet ≡ q) × ((flit_of net good F x n r l v seen m.flit).last ≡ true)
  the-tail i o q e m k =
      let same : k.out ≡ o = port-one net good F x n r l v seen (local_port net.relation.grid) o i k.out q (last_of net q) k.before k.within k.port e m.claim k.moves in
      let moving : Moves net good F x n q (last_of net q) k.before (leaving net r o) = subst (λ j. Moves net good F x n q (last_of net q) k.before (leaving net r j)) same k.moves in
      let packet : m.flit.packet ≡ q = same-owner net good F x.whole.sound.keyed x.whole.sound.worm (leaving net r o) m.flit.packet q m.goes.next.owns moving.next.owns in
      let mine : Moves net good F x n q m.flit.index m.channel (leaving net r o) = subst (λ p. Moves net good F x n p m.flit.index m.channel (leaving net r o)) packet m.goes in
      let before : k.before ≡ m.channel = next-once net good.built F x.whole.sound.keyed x.whole.sound.worm q k.before m.channel (leaving net r o) moving.owns mine.owns moving.next mine.next in
      let moving' : Moves net good F x n q (last_of net q) m.channel (leaving net r o) = subst (λ (c : Channel). Moves net good F x n q (last_of net q) c (leaving net r o)) before moving in
      let a = mine.first.least (last_of net q) moving'.first.valid moving'.was in
      let b = moving'.first.least m.flit.index mine.first.valid mine.was in
      let some = good.built.some_flit q moving'.first.valid.0 in
      let len : m.flit.index + 1 ≡ (packet_at net m.flit.packet).length = last-index m.flit.index q a b some ∙ ap (λ p. (packet_at net p).length) (sym packet) in
      (packet, eq-eqb _ _ len)
    where
      last-index : (j q : ℕ) → j ≤ last_of net q → last_of net q ≤ j → 1 ≤ (packet_at net q).length → j + 1 ≡ (packet_at net q).length
      last-index j q a b some = omega arith

  pub data Arrives : Type 0 where
    nobody : arrival ≡ None → ((q : ℕ) → Has q (ends_at net r) → out_cycle (tail_place net T q) ≡ out_cycle (tail_place net F q)) → Arrives
    somebody : (p : ℕ) → arrival ≡ Some p → Has p (ends_at net r) → out_cycle (tail_place net F p) ≡ None
        → ((q : ℕ) → Has q (ends_at net r) → out_cycle (tail_place net T q) ≡ (if nat_eq q p then Some n else out_cycle (tail_place net F q))) → Arrives

  pub arrives : Arrives
  arrives = by (by-port net good F x n r l v seen (local_port net.relation.grid) local-low)
    where
      known : (q : ℕ) → Has q (ends_at net r) → Tail q
      known q h = let k = ends-here net r q h in tail q k.0 k.1

      none-leaves : ((q : ℕ) → Leaves q → ⊥) → (q : ℕ) → Has q (ends_at net r) → out_cycle (tail_place net T q) ≡ out_cycle (tail_place net F q)
      none-leaves never q h = at (known q h)
        where
          at : Tail q → out_cycle (tail_place net T q) ≡ out_cycle (tail_place net F q)
          at (stays e k) = e
          at (leaves k e f) = absurd (never q k)

      by : ByPort net good F x n r l v seen (local_port net.relation.grid) → Arrives
      by (nothing e none) =
          nobody (ap tail_packet (same_local ∙ none))
          (none-leaves (λ q k. port-idle net good F x n r l v seen (local_port net.relation.grid) k.out q (last_of net q) k.before k.within k.port e k.moves))
      by (something i o e u to m out) = last (flit_of net good F x n r l v seen m.flit).last refl
        where
          is_arrival : arrival ≡ (if (flit_of net good F x n r l v seen m.flit).last then Some m.flit.packet else None)
          is_arrival = ap tail_packet (same_local ∙ out)

          last : (b : Bool) → (flit_of net good F x n r l v seen m.flit).last ≡ b → Arrives
          last false f = nobody (is_arrival ∙ ap (λ b. if b then Some m.flit.packet else None) f) (none-leaves (λ q k. false≢true (sym f ∙ (the-tail i o q e m k).1)))
          last true f =
              let p : ℕ = m.flit.packet in
              let is_out : Eject r (o % net.relation.vcs) ≡ leaving net r o = out-channel (output-case net good r o u) in
              let valid = m.goes.first.valid in
              let len : m.flit.index + 1 ≡ (packet_at net p).length = eqb-true _ _ f in
              let is_last : m.flit.index ≡ last_of net p = last-one m.flit.index (packet_at net p).length len in
              let moving : Moves net good F x n p (last_of net p) m.channel (leaving net r o) = subst (λ j. Moves net good F x n p j m.channel (leaving net r o)) is_last m.goes in
              let dest : (packet_at net p).destination ≡ r = sym (x.more.at_goal r (o % net.relation.vcs) p (subst (λ (c : Channel). Has (c, p) F.own) (sym is_out) moving.next.owns)) in
              let leaving_p : Leaves p = record { before = m.channel; out = o; within = u; port = to; moves = moving } in
              somebody p (is_arrival ∙ ap (λ b. if b then Some m.flit.packet else None) f) (here-ends net r p valid.0 dest) (ap out_cycle moving.was) (λ q h. at q (known q h) leaving_p)
            where
              last-one : (j k : ℕ) → j + 1 ≡ k → j ≡ k - 1
              last-one j k e = omega arith

              out-channel : OutputCase net good r o → Eject r (o % net.relation.vcs) ≡ leaving net r o
              out-channel (ejects _ k) = sym k
              out-channel (links k _) = absurd (omega (arith, k, to))

              at : (q : ℕ) → Tail q → Leaves m.flit.packet → out_cycle (tail_place net T q) ≡ (if nat_eq q m.flit.packet then Some n else out_cycle (tail_place net F q))
              at q (stays s k) lp = other (cases_eq q m.flit.packet)
                where
                  other : (q ≡ m.flit.packet) ⊎ (q ≡ m.flit.packet → ⊥) → out_cycle (tail_place net T q) ≡ (if nat_eq q m.flit.packet then Some n else out_cycle (tail_place net F q))
                  other (inl z) = absurd (k (subst (λ p. Leaves p) (sym z) lp))
                  other (inr z) = s ∙ sym (ap (λ b. if b then Some n else out_cycle (tail_place net F q)) (ne_eqb q m.flit.packet z))
              at q (leaves k s t) lp =
                  let same : m.flit.packet ≡ q = (the-tail i o q e m k).0 in
                  s ∙ sym (ap (λ b. if b then Some n else out_cycle (tail_place net F q)) (eq-eqb q m.flit.packet (sym same)))

  -- with the arrival of the tail, if there is one, the ends are those of the
  -- state, and there is no misfit
  pub arrival-noted : (w : View) → w.given ≡ n → w.ends ≡ map (λ q. (q, out_cycle (tail_place net F q))) (ends_at net r)
      → with_arrival arrival w ≡ record w { ends = map (λ q. (q, out_cycle (tail_place net T q))) (ends_at net r) }
  arrival-noted w given ends = by arrives
    where
      by : Arrives → with_arrival arrival w ≡ record w { ends = map (λ q. (q, out_cycle (tail_place net T q))) (ends_at net r) }
      by (nobody e same) =
          ap (λ (a : Option ℕ). with_arrival a w) e
          ∙ ap (λ (es : List (ℕ × Option ℕ)). record w { ends = es }) (ends ∙ map-each (λ q. (q, out_cycle (tail_place net F q))) (λ q. (q, out_cycle (tail_place net T q))) (ends_at net r) (λ q h. ap (λ (k : Option ℕ). (q, k)) (sym (same q h))))
      by (somebody p e member before same) =
          let t : ℕ × Option ℕ → Bool = λ one. nat_eq one.0 p && is_none one.1 in
          let there : Has (p, out_cycle (tail_place net F p)) w.ends = subst (λ (es : List (ℕ × Option ℕ)). Has (p, out_cycle (tail_place net F p)) es) (sym ends) (Has-mapped (λ q. (q, out_cycle (tail_place net F q))) p (ends_at net r) member) in
          let passes : (nat_eq p p && is_none (out_cycle (tail_place net F p))) ≡ true = and_from _ _ (eq-eqb p p refl) (ap is_none before) in
          let expected : list_any (λ (one : ℕ × Option ℕ). nat_eq one.0 p && is_none one.1) w.ends ≡ true = list_any-from (λ (one : ℕ × Option ℕ). nat_eq one.0 p && is_none one.1) w.ends (p, out_cycle (tail_place net F p)) there passes in
          ap (λ (a : Option ℕ). with_arrival a w) e
          ∙ ap (λ b. cond b (record w { ends = map (λ (one : ℕ × Option ℕ). (one.0, if nat_eq one.0 p then Some w.given else one.1)) w.ends }) (Rattle.noc_view.specs.View.with_misfit w)) expected
          ∙ ap (λ (es : List (ℕ × Option ℕ)). record w { ends = es })
          (ap (λ (es : List (ℕ × Option ℕ)). map (λ (one : ℕ × Option ℕ). (one.0, if nat_eq one.0 p then Some w.given else one.1)) es) ends
          ∙ ap (λ k. map (λ (one : ℕ × Option ℕ). (one.0, if nat_eq one.0 p then Some k else one.1)) (map (λ q. (q, out_cycle (tail_place net F q))) (ends_at net r))) given
          ∙ map-again (λ (one : ℕ × Option ℕ). (one.0, if nat_eq one.0 p then Some n else one.1)) (λ q. (q, out_cycle (tail_place net F q))) (ends_at net r)
          ∙ map-each (λ q. (q, if nat_eq q p then Some n else out_cycle (tail_place net F q))) (λ q. (q, out_cycle (tail_place net T q))) (ends_at net r) (λ q h. ap (λ (k : Option ℕ). (q, k)) (sym (same q h))))
