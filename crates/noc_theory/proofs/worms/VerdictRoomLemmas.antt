-- Phase five keeps what is on the wire, in the buffer and on its way back
-- within the slots of a buffer.
use Rattle.std.proofs.Common.{◌≡◌, ◌≢◌, ℕ, ◌+◌, ◌-◌, ◌*◌, ◌<◌, ◌≤◌, Bool, true, false, cond, List, [], ◌∷◌, length, Option, Some, None, refl, ap, sym, ◌∙◌, inl, inr, subst, arith, length-drop}
use Rattle.std.specs.Prelude.{◌⊎◌, nat_eq, nat_lt, ◌&&◌, not, if◌then◌else◌}
use Rattle.noc_theory.proofs.Common.{AllByRecursion, false≢true, eqb-true, ne_eqb, and_parts, and_left, and_right, ltb-true, or_cases, Channel, Link, Inject, Eject, same_channel, is_link, inputs, arrival_of, channel_vc, output_index, Unrouted, Holds, is_moved, Setup, State, Located, Place, On, In, Out, place_of_flit, is_on, has_channel, buffer_of, count_on, count_in, credit_of, has_credit_in, after_verdicts, verdict_in, verdict_at, next_channel, gone_to, moved_place, claim_of, round_at, Empty, Moved, is_moved-true, Has, Pairs, IsValid, slots_taken}
use Rattle.noc_theory.proofs.worms.BufferLemmas.{same_flit, same_channel-true, moved-holds, buffer-moved, buffer-stays, next-some, IsDistinct}
use Rattle.noc_theory.proofs.worms.BuiltRecordLemmas.{IsBuilt}
use Rattle.noc_theory.proofs.worms.MemberLemmas.{Has-filter, Has-map, list_any-has, each-at}
use Rattle.noc_theory.proofs.worms.OwnedLemmas.{once-same}
use Rattle.noc_theory.proofs.worms.StateWordLemmas.{IsKeyed, IsSortedPair}
use Rattle.noc_theory.proofs.worms.PlaceLemmas.{place-of-flit, place-stepped, is_on-is}
use Rattle.noc_theory.proofs.worms.WormRecordLemmas.{IsWorm}
use Rattle.noc_theory.proofs.worms.MoveLemmas.{IsMoving, IsMoved, moved-or-not, next-once}
use Rattle.noc_theory.proofs.worms.RoomLemmas.{Gains, count-one_more, filter-some}

-- flits in order are of different keys
pub sorted-distinct : (net : Setup) (fs : List Located) → Pairs IsSortedPair fs → IsDistinct same_flit fs
sorted-distinct net [] s = tt
sorted-distinct net (f ∷ fs) s = (others fs (λ g m. each-at (IsSortedPair f) fs g s.0 m), sorted-distinct net fs s.1)
  where
    other : (g : Located) → IsSortedPair f g → same_flit g f ≡ false
    other g l = by (nat_eq g.packet f.packet) refl
      where
        by : (b : Bool) → nat_eq g.packet f.packet ≡ b → same_flit g f ≡ false
        by false e = and_left _ _ e
        by true e = let k : f.index < g.index = l (sym (eqb-true g.packet f.packet e)) in and_right _ _ (ne_eqb g.index f.index (λ z. omega arith))

    others : (gs : List Located) → ((g : Located) → Has g gs → IsSortedPair f g) → AllByRecursion (λ g. same_flit g f ≡ false) gs
    others [] h = tt
    others (g ∷ gs) h = (other g (h g (inl refl)), others gs (λ x m. h x (inr m)))

module _ (net : Setup) (F : State) where
  -- where the flit of c moves, c's buffer holds one and its next channel has a credit
  pub moved-facts : (c o : Channel) → verdict_in net F c ≡ Moved → next_channel net F c ≡ Some o → (0 < count_in net F c) × (has_credit_in net F o ≡ true)
  moved-facts c o e next = at (arrival_of net.relation.grid c) refl
    where
      holding : (r i : ℕ) → claim_of net F r c ≡ Holds i true → has_credit_in net F o ≡ true
      holding r i h = by (has_channel F.routed c) refl
        where
          by : (b : Bool) → has_channel F.routed c ≡ b → has_credit_in net F o ≡ true
          by false k = let g : Unrouted ≡ Holds i true = sym (rw k) ∙ h in absurd (cc g)
          by true k = let g : Holds (output_index net.relation.grid net.relation.vcs o) (has_credit_in net F o) ≡ Holds i true = sym (rw (k, next)) ∙ h in cc

      at : (a : Option (ℕ × ℕ)) → arrival_of net.relation.grid c ≡ a → (0 < count_in net F c) × (has_credit_in net F o ≡ true)
      at None h = let g : Empty ≡ Moved = sym (ap (verdict_at net F c) h) ∙ e in absurd (cc g)
      at (Some place) h =
          let slots_taken = moved-holds net.relation.vcs (round_at net F place.0) (place.1 * net.relation.vcs + channel_vc c) (claim_of net F place.0 c) (nat_lt 0 (count_in net F c)) (sym (ap (verdict_at net F c) h) ∙ e) in
          (ltb-true _ _ slots_taken.2, holding place.0 slots_taken.0 slots_taken.1)

module _ (net : Setup) (built : IsBuilt net) (F : State) (keyed : IsKeyed net F.at) (w : IsWorm net F.own (place_of_flit net F))
    (n : ℕ) (still : (p i : ℕ) → IsValid net p i → (c : Channel) → place_of_flit net F p i ≢ On c) where
  abbrev T : State
  T = after_verdicts net n F

  abbrev step : Located → Located
  step f = record f { place = moved_place net F n f f.place }

  -- buffer and credit of c: a flit that leaves gives a credit, and no other
  pub in-and-back : (c : Channel) → count_in net T c + (if has_channel T.back c then 1 else 0) ≤ count_in net F c
  unfolding inputs after_verdicts
  in-and-back c = by (is_moved (verdict_in net F c)) refl
    where
      no_back : is_moved (verdict_in net F c) ≡ false → has_channel T.back c ≡ false
      no_back m = at (has_channel T.back c) refl
        where
          at : (b : Bool) → has_channel T.back c ≡ b → has_channel T.back c ≡ false
          at false e = e
          at true e =
              let r = list_any-has (same_channel c) T.back e in
              let f = Has-filter (λ d. is_link d && is_moved (verdict_in net F d)) r.0 (inputs net.relation.grid net.relation.vcs) r.1 in
              let parts = and_parts (is_link r.0) (is_moved (verdict_in net F r.0)) f.1 in
              let same : c ≡ r.0 = same_channel-true c r.0 r.2 in
              absurd (false≢true (sym m ∙ ap (λ (d : Channel). is_moved (verdict_in net F d)) same ∙ parts.1))

      at_most : (b : Bool) → cond b 1 0 ≤ 1
      at_most true = omega arith
      at_most false = omega arith

      by : (b : Bool) → is_moved (verdict_in net F c) ≡ b → count_in net T c + (if has_channel T.back c then 1 else 0) ≤ count_in net F c
      by false m =
          let nb = no_back m in
          let same : count_in net T c ≡ count_in net F c = ap length (buffer-stays net F n c m) in
          rw (nb, same) (omega arith)
      by true m =
          let v : verdict_in net F c ≡ Moved = is_moved-true _ m in
          let next = next-some net F n c v in
          let some = (moved-facts net F c next.0 v next.1).0 in
          let less : count_in net T c ≡ count_in net F c - 1 = ap length (buffer-moved net F n c v (sorted-distinct net F.at keyed.sorted)) ∙ length-drop 1 (buffer_of net F c) in
          let top = at_most (has_channel T.back c) in
          omega arith

  -- what comes on the wire of o moves there from a buffer
  pub comes-on : (o : Channel) (f : Located) → Has f F.at → is_on o (step f).place ≡ true → (c : Channel) × IsMoving net built F keyed w n still f.packet f.index c o
  unfolding after_verdicts
  comes-on o f h e = cases (moved-or-not net built F keyed w n still f.packet f.index v)
    where
      v : IsValid net f.packet f.index
      v = keyed.valid f h

      here : place_of_flit net F f.packet f.index ≡ f.place
      here = place-of-flit net F keyed f h

      goes : place_of_flit net T f.packet f.index ≡ (step f).place
      goes = place-stepped net (λ (g : Located). moved_place net F n g g.place) F T keyed refl f.packet f.index v
          ∙ ap (λ (x : Place). moved_place net F n (record { packet = f.packet; index = f.index; place = x }) x) here

      on : place_of_flit net T f.packet f.index ≡ On o
      on = goes ∙ is_on-is o (step f).place e

      to : (c x : Channel) → IsMoving net built F keyed w n still f.packet f.index c x → gone_to net n c (Some x) ≡ On o → (d : Channel) × IsMoving net built F keyed w n still f.packet f.index d o
      to c (Link r a u) m g = let s : Link r a u ≡ o = cc in (c, subst (λ (y : Channel). IsMoving net built F keyed w n still f.packet f.index c y) s m)
      to c (Inject k u) m g = absurd (cc g)
      to c (Eject k u) m g = absurd (cc g)

      cases : IsMoved net built F keyed w n still f.packet f.index → (c : Channel) × IsMoving net built F keyed w n still f.packet f.index c o
      cases (inl s) = absurd (still f.packet f.index v o (sym s.now ∙ on))
      cases (inr r) = to r.0 r.1 r.2 (sym r.2.now ∙ on)

  -- one flit at most
  one-comes : (o : Channel) (f g : Located) → Has f F.at → Has g F.at → Gains (λ (x : Located). is_on o x.place) step f → Gains (λ (x : Located). is_on o x.place) step g → (f.packet ≡ g.packet) × (f.index ≡ g.index)
  one-comes o f g hf hg a b =
      let x = comes-on o f hf a.1 in
      let y = comes-on o g hg b.1 in
      let pairs : ◌≡◌ {A = Channel × ℕ} (o, f.packet) (o, g.packet) = once-same (o, f.packet) (o, g.packet) F.own w.once x.1.next.owns y.1.next.owns refl in
      let packets : f.packet ≡ g.packet = ap (λ (z : Channel × ℕ). z.1) pairs in
      same_index x.0 y.0 g.packet f.index g.index packets x.1 y.1
    where
      same_index : (c d : Channel) (q i j : ℕ) → f.packet ≡ q → IsMoving net built F keyed w n still f.packet i c o → IsMoving net built F keyed w n still q j d o → (f.packet ≡ q) × (i ≡ j)
      same_index c d q i j e m k =
          let m' : IsMoving net built F keyed w n still q i c o = subst (λ (z : ℕ). IsMoving net built F keyed w n still z i c o) e m in
          let same : c ≡ d = next-once net built F keyed w q c d o m'.owns k.owns m'.next k.next in
          let k' : IsMoving net built F keyed w n still q j c o = subst (λ (z : Channel). IsMoving net built F keyed w n still q j z o) (sym same) k in
          let a = m'.first.least j k'.first.valid k'.was in
          let b = k'.first.least i m'.first.valid m'.was in
          (e, omega arith)

  pub none-on : (o : Channel) → count_on net F o ≡ 0
  none-on o = cases (filter-some (λ (f : Located). is_on o f.place) F.at)
    where
      cases : (count_on net F o ≡ 0) ⊎ ((f : Located) × Has f F.at × (is_on o f.place ≡ true)) → count_on net F o ≡ 0
      cases (inl e) = e
      cases (inr r) =
          let f : Located = r.0 in
          absurd (still f.packet f.index (keyed.valid f r.1) o (place-of-flit net F keyed f r.1 ∙ is_on-is o f.place r.2))

  -- the credit law: on + in + back ≤ the places of a buffer
  pub room-after_verdicts : (c : Channel) → count_in net F c ≤ net.depth → slots_taken net T c ≤ net.depth
  unfolding after_verdicts
  room-after_verdicts c room = cases (filter-some (λ (f : Located). is_on c f.place) T.at)
    where
      most : count_on net T c ≤ 1
      most =
          let one : count_on net T c ≤ count_on net F c + 1 = count-one_more (λ (f : Located). is_on c f.place) step F.at keyed.sorted (one-comes c) in
          let z = none-on c in omega arith

      rest : count_in net T c + (if has_channel T.back c then 1 else 0) ≤ count_in net F c
      rest = in-and-back c

      credit-is : (d : Channel) → is_link d ≡ true → has_credit_in net F d ≡ true → count_in net F d < net.depth
      credit-is d l h =
          let k : nat_lt 0 (credit_of net F d) ≡ true = second (or_cases (not (is_link d)) (nat_lt 0 (credit_of net F d)) h) in
          let m : 0 < credit_of net F d = ltb-true _ _ k in
          bounded (count_on net F d) (count_in net F d) (if has_channel F.back d then 1 else 0) m
        where
          second : (not (is_link d) ≡ true) ⊎ (nat_lt 0 (credit_of net F d) ≡ true) → nat_lt 0 (credit_of net F d) ≡ true
          second (inl e) = absurd (false≢true (sym (ap not l) ∙ e))
          second (inr e) = e

          bounded : (a b k : ℕ) → 0 < net.depth - a - b - k → b < net.depth
          bounded a b k m = omega arith

      link-of : (f : Located) → Has f F.at → (d o : Channel) → IsMoving net built F keyed w n still f.packet f.index d o → place_of_flit net T f.packet f.index ≡ On o → is_link o ≡ true
      link-of f h d (Link r a u) m e = refl
      link-of f h d (Inject k u) m e = let z : In d ≡ On (Inject k u) = sym m.now ∙ e in absurd (cc z)
      link-of f h d (Eject k u) m e = let z : Out n ≡ On (Eject k u) = sym m.now ∙ e in absurd (cc z)

      cases : (count_on net T c ≡ 0) ⊎ ((f : Located) × Has f T.at × (is_on c f.place ≡ true)) → slots_taken net T c ≤ net.depth
      cases (inl e) = let r = rest in omega arith
      cases (inr r) =
          let m = Has-map step r.0 F.at r.1 in
          let f : Located = m.0 in
          let on : is_on c (step f).place ≡ true = ap (λ (x : Located). is_on c x.place) m.2 ∙ r.2 in
          let x = comes-on c f m.1 on in
          let goes : place_of_flit net T f.packet f.index ≡ (step f).place
          = place-stepped net (λ (g : Located). moved_place net F n g g.place) F T keyed refl f.packet f.index (keyed.valid f m.1)
          ∙ ap (λ (y : Place). moved_place net F n (record { packet = f.packet; index = f.index; place = y }) y) (place-of-flit net F keyed f m.1) in
          let l = link-of f m.1 x.0 c x.1 (goes ∙ is_on-is c (step f).place on) in
          let k = credit-is c l (moved-facts net F x.0 c x.1.moves x.1.goes).1 in
          let a = most in
          let b = rest in
          omega arith
