-- A flit that is on a wire fits the input channel where it lands, and is the next of its packet.
use Rattle.std.proofs.Common.{◌≡◌, ◌≢◌, ℕ, zero, suc, ◌+◌, ◌-◌, ◌*◌, ◌/◌, ◌<◌, ◌≤◌, Bool, true, false, cond, List, [], ◌∷◌, ◌++◌, map, length, Option, Some, None, refl, ap, sym, ◌∙◌, inl, inr, subst, arith}
use Rattle.std.specs.Prelude.{find, option_map, option_and_then, ◌⊎◌, ◌&&◌, ◌||◌, not, nat_eq, nat_lt, if◌then◌else◌}
use Rattle.noc_packet.specs.declared.limits.TheConstants.{MAX_LENGTH}
use Rattle.noc_vc.specs.Input.{input_after_land as landed_on, is_expected, is_awaited, may_begin}
use Rattle.noc_theory.proofs.Common.{false≢true, true≢false, cases_eq, cases_lt, lt-ltb, le-ltb, le-leb, ne_eqb, eq-eqb, eqb-true, or_right, or_left, and_from, none-some, same_Some, map-append, length-map, Has, flit_at, Flit, Channel, Link, same_channel, set_at, Input, next_of, fits, is_empty, InputState, Idle, Waiting, flit_on, has_come, come_count, seen_flits, seen_input, seen_phase, seen_phase_with, seen_set, is_present, last_come, Setup, State, Located, Place, Source, On, In, Out, packet_at, place_of_flit, tail_place, buffer_of, count_in, count_on, is_on, is_in, is_past, landed_place, owner_of, next_channel, has_channel, after_landing, after_credits, weight, head_place, IsValid}
use Rattle.noc_theory.proofs.worms.BufferLemmas.{same_channel-refl, same_channel-true, find-passes}
use Rattle.noc_theory.proofs.worms.MemberLemmas.{Has-kept, find-has, Has-filter}
use Rattle.noc_theory.proofs.worms.PlaceLemmas.{place-of-flit, flit-there, is_in-is, is_on-is}
use Rattle.noc_theory.proofs.worms.StateWordLemmas.{IsHeld, IsPlaced, goal, last_of, far_of}
use Rattle.noc_theory.proofs.worms.UnmixedLemmas.{in-buffer}
use Rattle.noc_theory.proofs.worms.WormRecordLemmas.{valid-last, valid-below}
use Rattle.noc_theory.proofs.verdicts.AfterInputLemmas.{made, seen-held}
use Rattle.noc_theory.proofs.landing.ComeLemmas.{come-level, come-behind, count-to, count-none}
use Rattle.noc_theory.proofs.join.KeyLemmas.{count-places}
use Rattle.noc_theory.proofs.landing.LandLemmas.{keyed, worm, keyedM, landed, landed-tail, past-landed, come-landed, owner-still, next-still, wire-weight}
use Rattle.noc_theory.proofs.verdicts.NextViewLemmas.{owner-at}
use Rattle.noc_theory.proofs.join.OrderedLemmas.{IsGood, AreShort, IsOrdered}
use Rattle.noc_theory.proofs.join.PhaseLemmas.{mid}
use Rattle.noc_theory.proofs.join.PlaceViewLemmas.{IsAt}
use Rattle.noc_theory.proofs.join.LockstepStepLemmas.{filter-last}

module _ (net : Setup) (good : IsGood net) (S : State) (x : IsOrdered net S) (a b w : ℕ) (fl : Flit) (on : flit_on net S (Link a b w) ≡ Some fl) where
  abbrev flit_of : Located → Flit
  flit_of f = flit_at (packet_at net f.packet) f.packet f.index

  abbrev step : Located → Located
  step f = record f { place = landed_place net f.place }

  record OnWire : Type 0 where
    flit : Located
    member : Has flit S.at
    place : flit.place ≡ On (Link a b w)
    is_flit : flit_of flit ≡ fl

  it : OnWire
  it = at (find (λ (g : Located). is_on (Link a b w) g.place) S.at) refl
    where
      at : (o : Option Located) → find (λ (g : Located). is_on (Link a b w) g.place) S.at ≡ o → OnWire
      at None e = absurd (none-some fl (sym (ap (option_map flit_of) e) ∙ on))
      at (Some f) e = record {
        flit = f;
        member = find-has (λ (g : Located). is_on (Link a b w) g.place) S.at f e;
        place = is_on-is (Link a b w) f.place (find-passes (λ (g : Located). is_on (Link a b w) g.place) S.at f e);
        is_flit = same_Some _ _ (sym (ap (option_map flit_of) e) ∙ on);
      }

  valid : IsValid net it.flit.packet it.flit.index
  valid = (keyed net good S x).valid it.flit it.member

  here : place_of_flit net S it.flit.packet it.flit.index ≡ On (Link a b w)
  here = place-of-flit net S (keyed net good S x) it.flit it.member ∙ it.place

  own : Has (Link a b w, it.flit.packet) S.own
  own = subst (λ (y : Place). IsPlaced net S.own it.flit.packet y) here ((worm net good S x).placed it.flit.packet it.flit.index valid)

  holds : IsHeld net S (Link a b w) it.flit.packet
  holds = (own, (λ z. z))

  owner : owner_of net S (Link a b w) ≡ Some it.flit.packet
  owner = owner-at net good.built S (keyed net good S x) (worm net good S x) (Link a b w) it.flit.packet own

  -- no other flit is on this wire
  alone : (q j : ℕ) → IsValid net q j → place_of_flit net S q j ≡ On (Link a b w) → (q ≡ it.flit.packet) × (j ≡ it.flit.index)
  alone q j v e = x.one_on_link q j it.flit.packet it.flit.index a b w w v valid e here

  not-come : has_come net (Link a b w) (goal net it.flit.packet) (place_of_flit net S it.flit.packet it.flit.index) ≡ false
  not-come = ap (has_come net (Link a b w) (goal net it.flit.packet)) here ∙ le-ltb (far_of net it.flit.packet (Link a b w)) (far_of net it.flit.packet (Link a b w)) (omega arith)

  before : (j : ℕ) → j < it.flit.index → has_come net (Link a b w) (goal net it.flit.packet) (place_of_flit net S it.flit.packet j) ≡ true
  before j u =
      let v : IsValid net it.flit.packet j = valid-below net good.built it.flit.packet j it.flit.index valid (omega arith) in
      let o = (worm net good S x).order it.flit.packet j it.flit.index valid (omega arith) in
      let e : weight net it.flit.packet (place_of_flit net S it.flit.packet it.flit.index) ≡ 3 * far_of net it.flit.packet (Link a b w) + 3 = ap (weight net it.flit.packet) here in
      let placed = (worm net good S x).placed it.flit.packet j v in
      let m = wire-weight net good S x it.flit.packet a b w (place_of_flit net S it.flit.packet j) own placed (λ z. let s = (alone it.flit.packet j v z).1 in omega (arith, s)) (omega (arith, o, e)) in
      come-level net good.built S (keyed net good S x) (worm net good S x) it.flit.packet (Link a b w) (place_of_flit net S it.flit.packet j) holds placed ∙ le-leb _ _ m

  count-was : come_count net S (Link a b w) it.flit.packet ≡ it.flit.index
  count-was = count-to net good.built S (keyed net good S x) (worm net good S x) it.flit.packet it.flit.index (Link a b w) holds valid before not-come

  count-now : come_count net (mid net S) (Link a b w) it.flit.packet ≡ it.flit.index + 1
  count-now =
      count-places net (mid net S) (keyedM net good S x) (has_come net (Link a b w) (goal net it.flit.packet)) it.flit.packet (it.flit.index + 1) valid.0 (let v = valid.1 in omega (arith, v))
      (λ j u. front j u (cases_eq j it.flit.index))
      (λ j u m. ap (has_come net (Link a b w) (goal net it.flit.packet)) (landed net good S x it.flit.packet j (valid.0, m))
      ∙ come-landed net good S x it.flit.packet (Link a b w) (place_of_flit net S it.flit.packet j) (λ z. let s = (alone it.flit.packet j (valid.0, m) z).1 in omega (arith, s, u))
      ∙ come-behind net good.built S (keyed net good S x) (worm net good S x) it.flit.packet it.flit.index j (Link a b w) holds (valid.0, m) (omega arith) not-come)
    where
      front : (j : ℕ) → j < it.flit.index + 1 → (j ≡ it.flit.index) ⊎ (j ≡ it.flit.index → ⊥) → has_come net (Link a b w) (goal net it.flit.packet) (place_of_flit net (mid net S) it.flit.packet j) ≡ true
      front j u (inl e) =
          ap (λ y. has_come net (Link a b w) (goal net it.flit.packet) (place_of_flit net (mid net S) it.flit.packet y)) e
          ∙ ap (has_come net (Link a b w) (goal net it.flit.packet)) (landed net good S x it.flit.packet it.flit.index valid ∙ ap (landed_place net) here)
          ∙ or_left _ _ (same_channel-refl (Link a b w))
      front j u (inr e) =
          let v : IsValid net it.flit.packet j = valid-below net good.built it.flit.packet j it.flit.index valid (omega arith) in
          ap (has_come net (Link a b w) (goal net it.flit.packet)) (landed net good S x it.flit.packet j v)
          ∙ come-landed net good S x it.flit.packet (Link a b w) (place_of_flit net S it.flit.packet j) (λ z. e (alone it.flit.packet j v z).1) ∙ before j (omega (arith, u, e))

  -- the tail has not left the buffer
  behind : is_past net (Link a b w) (goal net it.flit.packet) (tail_place net S it.flit.packet) ≡ false
  behind =
      let l = valid.1 in
      second (is_in (Link a b w) (tail_place net S it.flit.packet)) (is_past net (Link a b w) (goal net it.flit.packet) (tail_place net S it.flit.packet))
      (come-behind net good.built S (keyed net good S x) (worm net good S x) it.flit.packet it.flit.index (last_of net it.flit.packet) (Link a b w) holds (valid-last net good.built it.flit.packet valid.0) (omega arith) not-come)
    where
      second : (y z : Bool) → (y || z) ≡ false → z ≡ false
      second true z e = absurd (true≢false e)
      second false z e = e

  owner-now : owner_of net (mid net S) (Link a b w) ≡ Some it.flit.packet
  owner-now = owner-still net good S x (Link a b w) it.flit.packet owner behind

  -- ---- the buffer and the channel after it

  pub flits-some : seen_flits net (mid net S) (Some (Link a b w)) ≡ seen_flits net S (Some (Link a b w)) ++ fl ∷ []
  unfolding after_landing after_credits
  flits-some =
      ap (map flit_of) (filter-last (λ (f : Located). is_in (Link a b w) f.place) step it.flit S.at (keyed net good S x).sorted it.member (ap (is_in (Link a b w)) it.place)
      (ap (λ (y : Place). is_in (Link a b w) (landed_place net y)) it.place ∙ same_channel-refl (Link a b w)) kept missed)
      ∙ map-append flit_of (buffer_of net S (Link a b w)) (step it.flit ∷ [])
      ∙ ap (λ y. seen_flits net S (Some (Link a b w)) ++ y ∷ []) it.is_flit
    where
      in-is : (y : Place) → is_in (Link a b w) y ≡ true → y ≡ In (Link a b w)
      in-is Source e = absurd (false≢true e)
      in-is (On d) e = absurd (false≢true e)
      in-is (In d) e = ap In (sym (same_channel-true (Link a b w) d e))
      in-is (Out n) e = absurd (false≢true e)

      kept : (g : Located) → Has g S.at → is_in (Link a b w) g.place ≡ true → (step g ≡ g) × (g.packet ≡ it.flit.packet) × (g.index < it.flit.index)
      kept g h e =
          let q = in-buffer net good.built S (keyed net good S x) (worm net good S x) (Link a b w) g (Has-kept (λ (f : Located). is_in (Link a b w) f.place) g S.at h e) in
          let same : g.packet ≡ it.flit.packet = same_Some _ _ (sym q.holder ∙ owner) in
          let there : place_of_flit net S it.flit.packet g.index ≡ In (Link a b w) = ap (λ j. place_of_flit net S j g.index) (sym same) ∙ q.there in
          let v : IsValid net it.flit.packet g.index = subst (λ j. IsValid net j g.index) same q.valid in
          (ap (λ (y : Place). record g { place = y }) (ap (landed_place net) (in-is g.place e) ∙ sym (in-is g.place e)), same, less g.index v there)
        where
          less : (j : ℕ) → IsValid net it.flit.packet j → place_of_flit net S it.flit.packet j ≡ In (Link a b w) → j < it.flit.index
          less j v there = by (cases_lt j it.flit.index)
            where
              by : (j < it.flit.index) ⊎ (it.flit.index ≤ j) → j < it.flit.index
              by (inl u) = u
              by (inr u) =
                  let z = come-behind net good.built S (keyed net good S x) (worm net good S x) it.flit.packet it.flit.index j (Link a b w) holds v u not-come in
                  absurd (false≢true (sym z ∙ ap (has_come net (Link a b w) (goal net it.flit.packet)) there ∙ or_left _ _ (same_channel-refl (Link a b w))))

      missed : (g : Located) → Has g S.at → is_in (Link a b w) g.place ≡ false → (g ≡ it.flit) ⊎ (is_in (Link a b w) (landed_place net g.place) ≡ false)
      missed g h e = at g.place refl e
        where
          at : (y : Place) → g.place ≡ y → is_in (Link a b w) y ≡ false → (g ≡ it.flit) ⊎ (is_in (Link a b w) (landed_place net g.place) ≡ false)
          at Source z e = inr (ap (λ (y : Place). is_in (Link a b w) (landed_place net y)) z)
          at (On d) z e = by (same_channel (Link a b w) d) refl
            where
              by : (t : Bool) → same_channel (Link a b w) d ≡ t → (g ≡ it.flit) ⊎ (is_in (Link a b w) (landed_place net g.place) ≡ false)
              by false t = inr (ap (λ (y : Place). is_in (Link a b w) (landed_place net y)) z ∙ t)
              by true t =
                  let on_c : g.place ≡ On (Link a b w) = z ∙ ap On (sym (same_channel-true (Link a b w) d t)) in
                  let s = alone g.packet g.index ((keyed net good S x).valid g h) (place-of-flit net S (keyed net good S x) g h ∙ on_c) in
                  inl (Rattle.noc_theory.proofs.worms.PlaceLemmas.sorted-same g it.flit S.at (keyed net good S x).sorted h it.member s.0 s.1)
          at (In d) z e = inr (ap (λ (y : Place). is_in (Link a b w) (landed_place net y)) z ∙ e)
          at (Out j) z e = inr (ap (λ (y : Place). is_in (Link a b w) (landed_place net y)) z)

  same-routed : (mid net S).routed ≡ S.routed
  unfolding after_landing after_credits
  same-routed = refl

  pub input-some : (r i : ℕ) → seen_input net (mid net S) r i (Some (Link a b w)) ≡ landed_on (seen_input net S r i (Some (Link a b w))) fl
  input-some r i =
      seen-held net (mid net S) r i it.flit.packet (Link a b w) owner-now
      ∙ ap (λ (ph : InputState). made ph (if is_present net (mid net S) (Link a b w) it.flit.packet then Some it.flit.packet else None) (option_and_then next_of (last_come net (mid net S) (Link a b w) it.flit.packet))) phase
      ∙ ap (λ y. made (seen_phase net S r i (Link a b w)) (if y then Some it.flit.packet else None) (option_and_then next_of (last_come net (mid net S) (Link a b w) it.flit.packet))) present
      ∙ ap (λ (f : Option Flit). made (seen_phase net S r i (Link a b w)) (Some it.flit.packet) (option_and_then next_of f)) last
      ∙ ap (λ (f : Flit). made (seen_phase net S r i (Link a b w)) (Some f.packet) (next_of f)) it.is_flit
    where
      with_next : (o : Option Channel) → seen_phase_with net (mid net S) r i (Link a b w) o ≡ seen_phase_with net S r i (Link a b w) o
      with_next None = ap (λ (o : Option ℕ). Waiting (seen_set net S r i o)) (owner-now ∙ sym owner)
      with_next (Some o) = refl

      phase : seen_phase net (mid net S) r i (Link a b w) ≡ seen_phase net S r i (Link a b w)
      phase =
          ap (λ (cs : List Channel). cond (has_channel cs (Link a b w)) (seen_phase_with net (mid net S) r i (Link a b w) (next_channel net (mid net S) (Link a b w))) Idle) same-routed
          ∙ ap (λ (o : Option Channel). cond (has_channel S.routed (Link a b w)) (seen_phase_with net (mid net S) r i (Link a b w) o) Idle) (next-still net good S x it.flit.packet (Link a b w) own behind)
          ∙ ap (λ (ph : InputState). cond (has_channel S.routed (Link a b w)) ph Idle) (with_next (next_channel net S (Link a b w)))

      present : is_present net (mid net S) (Link a b w) it.flit.packet ≡ true
      present =
          ap (λ j. nat_lt 0 j && not (is_past net (Link a b w) (goal net it.flit.packet) (tail_place net (mid net S) it.flit.packet))) count-now
          ∙ ap (λ y. y && not (is_past net (Link a b w) (goal net it.flit.packet) (tail_place net (mid net S) it.flit.packet))) (lt-ltb 0 (it.flit.index + 1) (omega arith))
          ∙ ap not (ap (is_past net (Link a b w) (goal net it.flit.packet)) (landed-tail net good S x it.flit.packet valid.0) ∙ past-landed net good S x it.flit.packet (Link a b w) (tail_place net S it.flit.packet) ∙ behind)

      last : last_come net (mid net S) (Link a b w) it.flit.packet ≡ Some (flit_of it.flit)
      last =
          ap (λ j. if nat_eq j 0 then None else Some (flit_at (packet_at net it.flit.packet) it.flit.packet (j - 1))) count-now
          ∙ ap (λ y. if y then None else Some (flit_at (packet_at net it.flit.packet) it.flit.packet (it.flit.index + 1 - 1))) (ne_eqb (it.flit.index + 1) 0 (λ e. omega arith))
          ∙ ap (λ j. Some (flit_at (packet_at net it.flit.packet) it.flit.packet j)) back
        where
          back : it.flit.index + 1 - 1 ≡ it.flit.index
          back = omega arith

  -- ---- it fits

  room : nat_lt (length (seen_flits net S (Some (Link a b w)))) net.depth ≡ true
  room =
      let r = x.whole.sound.room (Link a b w) in
      let one = some-on (count_on net S (Link a b w)) refl in
      let len : length (seen_flits net S (Some (Link a b w))) ≡ count_in net S (Link a b w) = length-map (buffer_of net S (Link a b w)) flit_of in
      lt-ltb _ _ (omega (arith, r, one, len))
    where
      some-on : (j : ℕ) → count_on net S (Link a b w) ≡ j → 0 < count_on net S (Link a b w)
      some-on zero e = absurd (false≢true (sym (Rattle.noc_theory.proofs.worms.InjectionRoomLemmas.filter-none (λ (f : Located). is_on (Link a b w) f.place) S.at it.flit e it.member) ∙ ap (is_on (Link a b w)) it.place ∙ same_channel-refl (Link a b w)))
      some-on (suc j) e = omega (arith, e)

  pub fits-some : AreShort net → (r i : ℕ) (at : IsAt net good r i (Link a b w)) → fits net.relation r (i / net.relation.vcs) w net.depth (seen_flits net S (Some (Link a b w))) (seen_input net S r i (Some (Link a b w))) fl ≡ true
  fits-some short r i at = and_from _ _ room (ap (λ (f : Flit). is_expected net.relation r (i / net.relation.vcs) w (seen_flits net S (Some (Link a b w))) (seen_input net S r i (Some (Link a b w))) f (seen_input net S r i (Some (Link a b w))).phase) (sym it.is_flit) ∙ by (has_channel S.routed (Link a b w)) refl)
    where
      faultless : Rattle.noc_theory.specs.Good.IsWellFormedPacket net.relation (packet_at net it.flit.packet)
      faultless = good.packets it.flit.packet valid.0

      -- the head, on a channel that is not routed
      head-fits : has_channel S.routed (Link a b w) ≡ false → (is_empty (seen_flits net S (Some (Link a b w))) && may_begin net.relation r (i / net.relation.vcs) w (flit_of it.flit)) ≡ true
      head-fits e = and_from _ _ empty (and_from _ _ (and_from _ _ (and_from _ _ (eq-eqb it.flit.index 0 head) (lt-ltb _ _ faultless.destination)) (lt-ltb _ _ faultless.class)) (ap not (ne_eqb _ 0 leads)))
        where
          none-come : has_come net (Link a b w) (goal net it.flit.packet) (head_place net S it.flit.packet) ≡ false
          none-come = at_head (has_come net (Link a b w) (goal net it.flit.packet) (head_place net S it.flit.packet)) refl
            where
              at_head : (y : Bool) → has_come net (Link a b w) (goal net it.flit.packet) (head_place net S it.flit.packet) ≡ y → has_come net (Link a b w) (goal net it.flit.packet) (head_place net S it.flit.packet) ≡ false
              at_head false z = z
              at_head true z = absurd (way (Rattle.std.proofs.lemmas.Bool.or_cases (is_in (Link a b w) (head_place net S it.flit.packet)) (is_past net (Link a b w) (goal net it.flit.packet) (head_place net S it.flit.packet)) z))
                where
                  way : (is_in (Link a b w) (head_place net S it.flit.packet) ≡ true) ⊎ (is_past net (Link a b w) (goal net it.flit.packet) (head_place net S it.flit.packet) ≡ true) → ⊥
                  way (inl t) = false≢true (sym e ∙ x.whole.routed.come (Link a b w) it.flit.packet holds (inl (is_in-is (Link a b w) (head_place net S it.flit.packet) t)) behind)
                  way (inr t) = false≢true (sym e ∙ x.whole.routed.come (Link a b w) it.flit.packet holds (inr t) behind)

          zero-count : come_count net S (Link a b w) it.flit.packet ≡ 0
          zero-count = count-none net good.built S (keyed net good S x) (worm net good S x) it.flit.packet (Link a b w) holds none-come

          head : it.flit.index ≡ 0
          head = sym count-was ∙ zero-count

          empty : is_empty (seen_flits net S (Some (Link a b w))) ≡ true
          empty = by_list (buffer_of net S (Link a b w)) refl
            where
              by_list : (fs : List Located) → buffer_of net S (Link a b w) ≡ fs → is_empty (map flit_of fs) ≡ true
              by_list [] q = refl
              by_list (g ∷ fs) q =
                  let m : Has g (buffer_of net S (Link a b w)) = subst (λ (ys : List Located). Has g ys) (sym q) (inl refl) in
                  let h = in-buffer net good.built S (keyed net good S x) (worm net good S x) (Link a b w) g m in
                  let same : g.packet ≡ it.flit.packet = same_Some _ _ (sym h.holder ∙ owner) in
                  let member = (Has-filter (λ (f : Located). is_in (Link a b w) f.place) g S.at m).0 in
                  let passes = (Has-filter (λ (f : Located). is_in (Link a b w) f.place) g S.at m).1 in
                  let mine : Has g (Rattle.noc_theory.specs.Network.flits_of net S it.flit.packet) = Has-kept (λ (f : Located). nat_eq it.flit.packet f.packet) g S.at member (eq-eqb _ _ (sym same)) in
                  let z = Rattle.noc_theory.proofs.join.LockstepStepLemmas.count-zero (λ (f : Located). has_come net (Link a b w) (goal net it.flit.packet) f.place) (Rattle.noc_theory.specs.Network.flits_of net S it.flit.packet) g zero-count mine in
                  absurd (false≢true (sym z ∙ or_left (is_in (Link a b w) g.place) (is_past net (Link a b w) (goal net it.flit.packet) g.place) passes))

          leads : set_at net.relation (packet_at net it.flit.packet).class r (i / net.relation.vcs) w (packet_at net it.flit.packet).destination ≢ 0
          leads = x.more.led a b w it.flit.packet (r, i / net.relation.vcs) own at.arrives

      -- the next flit, on one that is
      next-fits : has_channel S.routed (Link a b w) ≡ true → is_awaited (flit_of it.flit) (seen_input net S r i (Some (Link a b w))).awaited ≡ true
      next-fits e =
          let some : 0 < it.flit.index = positive it.flit.index refl in
          let lim = short it.flit.packet valid.0 in
          let inside = valid.1 in
          let awaited : (seen_input net S r i (Some (Link a b w))).awaited ≡ Some (record { packet = it.flit.packet; index = it.flit.index - 1 + 1; dst = (packet_at net it.flit.packet).destination; class = (packet_at net it.flit.packet).class })
          = ap (λ (y : Input). y.awaited) (seen-held net S r i it.flit.packet (Link a b w) owner)
          ∙ ap (λ j. option_and_then next_of (if nat_eq j 0 then None else Some (flit_at (packet_at net it.flit.packet) it.flit.packet (j - 1)))) count-was
          ∙ ap (λ y. option_and_then next_of (if y then None else Some (flit_at (packet_at net it.flit.packet) it.flit.packet (it.flit.index - 1)))) (ne_eqb it.flit.index 0 (λ z. omega (arith, some, z)))
          ∙ ap (λ y. if y then None else Some (record { packet = it.flit.packet; index = it.flit.index - 1 + 1; dst = (packet_at net it.flit.packet).destination; class = (packet_at net it.flit.packet).class }))
          (ne_eqb (it.flit.index - 1 + 1) (packet_at net it.flit.packet).length (λ z. omega (arith, some, z, inside))) in
          ap (is_awaited (flit_of it.flit)) awaited
          ∙ and_from _ _ (and_from _ _ (and_from _ _ (and_from _ _ (eq-eqb it.flit.packet it.flit.packet refl) (eq-eqb it.flit.index (it.flit.index - 1 + 1) (omega (arith, some))))
          (eq-eqb (packet_at net it.flit.packet).destination (packet_at net it.flit.packet).destination refl)) (eq-eqb (packet_at net it.flit.packet).class (packet_at net it.flit.packet).class refl)) (lt-ltb it.flit.index MAX_LENGTH (omega (arith, inside, lim)))
        where
          positive : (j : ℕ) → it.flit.index ≡ j → 0 < it.flit.index
          positive (suc j) z = omega (arith, z)
          positive zero z =
              let o = x.whole.routed.mid.only (Link a b w) e in
              let same : o.0 ≡ it.flit.packet = Rattle.noc_theory.proofs.injection.SourceLemmas.same-owner net good S (keyed net good S x) (worm net good S x) (Link a b w) o.0 it.flit.packet o.1.0 own in
              let head : head_place net S it.flit.packet ≡ On (Link a b w) = ap (place_of_flit net S it.flit.packet) (sym z) ∙ here in
              let come = Rattle.noc_theory.proofs.verdicts.CommitGrantLemmas.come-true net S it.flit.packet (Link a b w) (head_place net S it.flit.packet) (subst (λ q. Rattle.noc_theory.proofs.worms.StateWordLemmas.Come net q (Link a b w) (head_place net S q)) same o.2) in
              absurd (false≢true (sym not-come ∙ ap (has_come net (Link a b w) (goal net it.flit.packet)) (here ∙ sym head) ∙ come))

      by : (y : Bool) → has_channel S.routed (Link a b w) ≡ y → is_expected net.relation r (i / net.relation.vcs) w (seen_flits net S (Some (Link a b w))) (seen_input net S r i (Some (Link a b w))) (flit_of it.flit) (seen_input net S r i (Some (Link a b w))).phase ≡ true
      by false e =
          ap (λ y. is_expected net.relation r (i / net.relation.vcs) w (seen_flits net S (Some (Link a b w))) (seen_input net S r i (Some (Link a b w))) (flit_of it.flit) (cond y (seen_phase_with net S r i (Link a b w) (next_channel net S (Link a b w))) Idle)) e ∙ head-fits e
      by true e =
          ap (λ y. is_expected net.relation r (i / net.relation.vcs) w (seen_flits net S (Some (Link a b w))) (seen_input net S r i (Some (Link a b w))) (flit_of it.flit) (cond y (seen_phase_with net S r i (Link a b w) (next_channel net S (Link a b w))) Idle)) e
          ∙ routed_case (next_channel net S (Link a b w))
        where
          routed_case : (o : Option Channel) → is_expected net.relation r (i / net.relation.vcs) w (seen_flits net S (Some (Link a b w))) (seen_input net S r i (Some (Link a b w))) (flit_of it.flit) (seen_phase_with net S r i (Link a b w) o) ≡ true
          routed_case None = next-fits e
          routed_case (Some o) = next-fits e
