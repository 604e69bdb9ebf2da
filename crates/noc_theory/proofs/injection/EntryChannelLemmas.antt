-- After the injections: the channel on which a source injects.
use Rattle.std.proofs.Common.{◌≡◌, ◌≢◌, ℕ, ◌+◌, ◌-◌, ◌<◌, ◌≤◌, Bool, true, false, [], ◌∷◌, ◌++◌, map, Option, Some, None, refl, ap, sym, ◌∙◌, inl, inr, subst, arith}
use Rattle.std.specs.Prelude.{find, option_and_then, ◌⊎◌, ◌&&◌, not, nat_eq, nat_lt, if◌then◌else◌}
use Rattle.noc_theory.proofs.Common.{false≢true, true≢false, cases_eq, ne_eqb, lt-ltb, le-leb, cases_order, or_left, map-append, below, Has, nodes, flit_at, Flit, Channel, Inject, input_after_land, next_of, InputState, has_come, come_count, seen_flits, seen_input, seen_phase, is_present, last_come, Setup, State, Located, Place, Source, In, Injection, packet_at, place_of_flit, tail_place, buffer_of, owner_of, has_channel, is_in, is_past, injections, injection_at, after_injection, IsValid}
use Rattle.noc_theory.proofs.worms.BufferLemmas.{same_channel-refl, same_channel-true}
use Rattle.noc_theory.proofs.worms.InjectionPhaseLemmas.{IsEntry, light, source-behind, apart-same}
use Rattle.noc_theory.proofs.worms.InjectionStateLemmas.{entry-of, entries-apart}
use Rattle.noc_theory.proofs.worms.OwnedLemmas.{owner-has}
use Rattle.noc_theory.proofs.worms.StateWordLemmas.{IsEject, IsHeld, IsPlaced, goal}
use Rattle.noc_theory.proofs.worms.PlaceLemmas.{place-of-flit, flit-there}
use Rattle.noc_theory.proofs.worms.UnmixedLemmas.{in-buffer}
use Rattle.noc_theory.proofs.worms.MemberLemmas.{Has-kept, Has-filter_mapped}
use Rattle.noc_theory.proofs.worms.WormRecordLemmas.{valid-below}
use Rattle.noc_theory.proofs.worms.OpeningLemmas.{below-has}
use Rattle.noc_theory.proofs.verdicts.AfterInputLemmas.{made, seen-held}
use Rattle.noc_theory.proofs.landing.ComeLemmas.{come-level}
use Rattle.noc_theory.proofs.injection.EntryLemmas.{T, step, keyed, worm, wormT, keyedT, routedT, Enters, Moved, moved, still, enters, to-place, owned-left}
use Rattle.noc_theory.proofs.injection.EntryViewLemmas.{phase-same, injected-keeps}
use Rattle.noc_theory.proofs.join.KeyLemmas.{count-places}
use Rattle.noc_theory.proofs.verdicts.NextViewLemmas.{owner-at}
use Rattle.noc_theory.proofs.join.OrderedLemmas.{IsGood, IsOrderedFrozen}
use Rattle.noc_theory.proofs.join.LockstepStepLemmas.{filter-last}

module _ (net : Setup) (good : IsGood net) (M : State) (x : IsOrderedFrozen net M) (n r : ℕ) (l : r < nodes net.relation.grid) (one : Injection net) (found : injection_at net M n r ≡ Some one) where
  pub member : Has one (injections net M n)
  member = Has-filter_mapped (injection_at net M n) r one (below (nodes net.relation.grid)) (below-has r (nodes net.relation.grid) l) found

  pub is_entry : IsEntry net good.built M.own (place_of_flit net M) (worm net good M x n) r one
  is_entry = entry-of net good.built M (keyed net good M x n) (worm net good M x n) n r one found

  pub entered : Enters net good M x n one.packet one
  entered = by (moved net good M x n one.packet is_entry.low)
    where
      by : Moved net good M x n one.packet → Enters net good M x n one.packet one
      by (still s t) = absurd (t one member refl)
      by (enters two h e k) = subst (λ (y : Injection net). Enters net good M x n one.packet y) (apart-same net two one (injections net M n) (entries-apart net good.built M (keyed net good M x n) (worm net good M x n) n) h member e) k

  abbrev pub k : ℕ
  k = entered.flit

  is_link_no : IsEject one.channel → ⊥
  is_link_no e = subst (λ (y : Channel). IsEject y) is_entry.channel e

  pub own : Has (one.channel, one.packet) (after_injection net n M).own
  own =
      let h : Has (Inject r is_entry.vc, one.packet) (after_injection net n M).own
      = subst (λ (y : Place). IsPlaced net (after_injection net n M).own one.packet y) (entered.now ∙ ap In is_entry.channel) ((wormT net good M x n).placed one.packet entered.flit entered.valid) in
      subst (λ (y : Channel). Has (y, one.packet) (after_injection net n M).own) (sym is_entry.channel) h

  holdsT : IsHeld net (after_injection net n M) one.channel one.packet
  holdsT = (own, is_link_no)

  -- a place that is no source has come
  come-from : (y : Place) → IsPlaced net (after_injection net n M).own one.packet y → y ≢ Source → has_come net one.channel (goal net one.packet) y ≡ true
  come-from y placed off =
      let h : Has (Inject r is_entry.vc, one.packet) (after_injection net n M).own = subst (λ (z : Channel). Has (z, one.packet) (after_injection net n M).own) is_entry.channel own in
      let w = light net good.built (after_injection net n M).own (place_of_flit net (after_injection net n M)) (wormT net good M x n) one.packet y placed off in
      ap (λ (z : Channel). has_come net z (goal net one.packet) y) is_entry.channel
      ∙ come-level net good.built (after_injection net n M) (keyedT net good M x n) (wormT net good M x n) one.packet (Inject r is_entry.vc) y (h, (λ z. z)) placed
      ∙ le-leb _ _ w

  -- how many have come
  pub count-in : come_count net (after_injection net n M) one.channel one.packet ≡ entered.flit + 1
  count-in =
      count-places net (after_injection net n M) (keyedT net good M x n) (has_come net one.channel (goal net one.packet)) one.packet (entered.flit + 1) is_entry.low
      (let v = entered.valid.1 in omega (arith, v))
      (λ i u. at i u (cases_eq i entered.flit))
      (λ i u w. after i u w)
    where
      at : (i : ℕ) → i < entered.flit + 1 → (i ≡ entered.flit) ⊎ (i ≡ entered.flit → ⊥) → has_come net one.channel (goal net one.packet) (place_of_flit net (after_injection net n M) one.packet i) ≡ true
      at i u (inl e) = ap (λ j. has_come net one.channel (goal net one.packet) (place_of_flit net (after_injection net n M) one.packet j)) e ∙ ap (has_come net one.channel (goal net one.packet)) entered.now ∙ or_left _ _ (same_channel-refl one.channel)
      at i u (inr e) =
          let v : IsValid net one.packet i = valid-below net good.built one.packet i entered.flit entered.valid (omega arith) in
          come-from (place_of_flit net (after_injection net n M) one.packet i) ((wormT net good M x n).placed one.packet i v) (λ z. entered.first i (omega arith) (sym (entered.others i v e) ∙ z))

      after : (i : ℕ) → entered.flit + 1 ≤ i → i < (packet_at net one.packet).length → has_come net one.channel (goal net one.packet) (place_of_flit net (after_injection net n M) one.packet i) ≡ false
      after i u w =
          let v : IsValid net one.packet i = (is_entry.low, w) in
          let source : place_of_flit net M one.packet i ≡ Source = source-behind net good.built M.own (place_of_flit net M) (worm net good M x n) one.packet entered.flit i v (omega arith) entered.was in
          ap (has_come net one.channel (goal net one.packet)) (entered.others i v (λ e. omega arith) ∙ source)

  abbrev flit_of : Located → Flit
  flit_of f = flit_at (packet_at net f.packet) f.packet f.index

  abbrev last : Located
  last = record { packet = one.packet; index = entered.flit; place = place_of_flit net M one.packet entered.flit }

  -- the flit is behind those of the buffer
  pub flits-in : seen_flits net (after_injection net n M) (Some one.channel) ≡ seen_flits net M (Some one.channel) ++ flit_at (packet_at net one.packet) one.packet entered.flit ∷ []
  unfolding after_injection
  flits-in =
      ap (map flit_of)
      (filter-last (λ (f : Located). is_in one.channel f.place) (step net good M x n) last M.at (keyed net good M x n).sorted there (ap (is_in one.channel) entered.was)
      (ap (is_in one.channel) (sym (to-place net good M x n last there) ∙ entered.now) ∙ same_channel-refl one.channel) kept missed)
      ∙ map-append flit_of (buffer_of net M one.channel) (step net good M x n last ∷ [])
    where
      there : Has last M.at
      there = flit-there net M (keyed net good M x n) one.packet entered.flit entered.valid

      kept : (g : Located) → Has g M.at → is_in one.channel g.place ≡ true → (step net good M x n g ≡ g) × (g.packet ≡ one.packet) × (g.index < entered.flit)
      kept g h e =
          let b = in-buffer net good.built M (keyed net good M x n) (worm net good M x n) one.channel g (Has-kept (λ (f : Located). is_in one.channel f.place) g M.at h e) in
          let ownM : Has (one.channel, g.packet) M.own = owner-has net M one.channel g.packet b.holder in
          let same : g.packet ≡ one.packet = Rattle.noc_theory.proofs.injection.SourceLemmas.same-owner net good (after_injection net n M) (keyedT net good M x n) (wormT net good M x n) one.channel g.packet one.packet (owned-left net good M x n one.channel g.packet ownM) own in
          let at_g : place_of_flit net M one.packet g.index ≡ In one.channel = ap (λ q. place_of_flit net M q g.index) (sym same) ∙ b.there in
          let v : IsValid net one.packet g.index = subst (λ q. IsValid net q g.index) same b.valid in
          (ap (λ (y : Place). record g { place = y }) (injected-keeps net good M x n g (find (λ (o : Injection net). nat_eq o.packet g.packet) (injections net M n)) one.channel e), same, before g.index v at_g)
        where
          before : (i : ℕ) → IsValid net one.packet i → place_of_flit net M one.packet i ≡ In one.channel → i < entered.flit
          before i v z = by (Rattle.std.proofs.lemmas.Bool.cases_lt i entered.flit)
            where
              by : (i < entered.flit) ⊎ (entered.flit ≤ i) → i < entered.flit
              by (inl u) = u
              by (inr u) =
                  let source = source-behind net good.built M.own (place_of_flit net M) (worm net good M x n) one.packet entered.flit i v u entered.was in
                  let bad : Source ≡ In one.channel = sym source ∙ z in absurd (cc bad)

      missed : (g : Located) → Has g M.at → is_in one.channel g.place ≡ false → (g ≡ last) ⊎ (is_in one.channel (step net good M x n g).place ≡ false)
      missed g h e = at (is_in one.channel (step net good M x n g).place) refl
        where
          at : (b : Bool) → is_in one.channel (step net good M x n g).place ≡ b → (g ≡ last) ⊎ (is_in one.channel (step net good M x n g).place ≡ false)
          at false z = inr z
          at true z = inl (same (Rattle.noc_theory.proofs.injection.EntryLemmas.goes net good M x n g.packet g.index v))
            where
              v : IsValid net g.packet g.index
              v = (keyed net good M x n).valid g h

              here : place_of_flit net M g.packet g.index ≡ g.place
              here = place-of-flit net M (keyed net good M x n) g h

              same : Rattle.noc_theory.proofs.injection.EntryLemmas.Goes net good M x n g.packet g.index → g ≡ last
              same (Rattle.noc_theory.proofs.injection.EntryLemmas.stays y) =
                  absurd (false≢true (sym e ∙ ap (is_in one.channel) (sym here ∙ sym y ∙ to-place net good M x n g h) ∙ z))
              same (Rattle.noc_theory.proofs.injection.EntryLemmas.goes_in two m q was now) =
                  let in_two : In two.channel ≡ (step net good M x n g).place = sym now ∙ to-place net good M x n g h in
                  let is_c : one.channel ≡ two.channel = same_channel-true one.channel two.channel (ap (is_in one.channel) in_two ∙ z) in
                  let k2 = Rattle.noc_theory.proofs.injection.EntryLemmas.entry net good M x n two m in
                  let own_two = Rattle.noc_theory.proofs.injection.EntryLemmas.entry-own net good M x n two m k2.0 k2.1.vc g.packet g.index v q now k2.1.channel in
                  let own_g : Has (one.channel, g.packet) (after_injection net n M).own = subst (λ (y : Channel). Has (y, g.packet) (after_injection net n M).own) (sym (is_c ∙ k2.1.channel)) own_two in
                  let packet : g.packet ≡ one.packet = Rattle.noc_theory.proofs.injection.SourceLemmas.same-owner net good (after_injection net n M) (keyedT net good M x n) (wormT net good M x n) one.channel g.packet one.packet own_g own in
                  let index : g.index ≡ entered.flit = index-is g.index (subst (λ j. IsValid net j g.index) packet v) (ap (λ j. place_of_flit net M j g.index) (sym packet) ∙ was) (ap (λ j. place_of_flit net (after_injection net n M) j g.index) (sym packet) ∙ now) in
                  let place : g.place ≡ place_of_flit net M one.packet entered.flit = sym here ∙ ap (λ j. place_of_flit net M j g.index) packet ∙ ap (place_of_flit net M one.packet) index in
                  let all : record { packet = g.packet; index = g.index; place = g.place } ≡ last = cc in
                  all
                where
                  index-is : (i : ℕ) → IsValid net one.packet i → place_of_flit net M one.packet i ≡ Source → place_of_flit net (after_injection net n M) one.packet i ≡ In two.channel → i ≡ entered.flit
                  index-is i w a b = by (cases_eq i entered.flit)
                    where
                      by : (i ≡ entered.flit) ⊎ (i ≡ entered.flit → ⊥) → i ≡ entered.flit
                      by (inl u) = u
                      by (inr u) = let bad : Source ≡ In two.channel = sym a ∙ sym (entered.others i w u) ∙ b in absurd (cc bad)

  -- the input channel has the flit
  pub input-in : (i : ℕ) → seen_input net (after_injection net n M) r i (Some one.channel) ≡ input_after_land (seen_input net M r i (Some one.channel)) (flit_at (packet_at net one.packet) one.packet entered.flit)
  input-in i =
      seen-held net (after_injection net n M) r i one.packet one.channel ownerT
      ∙ ap (λ (ph : InputState). made ph (if is_present net (after_injection net n M) one.channel one.packet then Some one.packet else None) (option_and_then next_of (last_come net (after_injection net n M) one.channel one.packet))) phase
      ∙ ap (λ b. made (seen_phase net M r i one.channel) (if b then Some one.packet else None) (option_and_then next_of (last_come net (after_injection net n M) one.channel one.packet))) present
      ∙ ap (λ (f : Option Flit). made (seen_phase net M r i one.channel) (Some one.packet) (option_and_then next_of f)) last_is
    where
      ownerT : owner_of net (after_injection net n M) one.channel ≡ Some one.packet
      ownerT = owner-at net good.built (after_injection net n M) (keyedT net good M x n) (wormT net good M x n) one.channel one.packet own

      way : owner_of net (after_injection net n M) one.channel ≡ owner_of net M one.channel ⊎ (has_channel M.routed one.channel ≡ false)
      way = by is_entry.goes
        where
          by : ((one.begins ≡ false) × Has (one.channel, one.packet) M.own) ⊎ ((one.begins ≡ true) × ((q : ℕ) → Has (one.channel, q) M.own → ⊥) × ((d : Channel) → Has (d, one.packet) M.own → ⊥))
              → owner_of net (after_injection net n M) one.channel ≡ owner_of net M one.channel ⊎ (has_channel M.routed one.channel ≡ false)
          by (inl s) = inl (ownerT ∙ sym (owner-at net good.built M (keyed net good M x n) (worm net good M x n) one.channel one.packet s.1))
          by (inr s) = inr (no_route (has_channel M.routed one.channel) refl)
            where
              no_route : (b : Bool) → has_channel M.routed one.channel ≡ b → has_channel M.routed one.channel ≡ false
              no_route false e = e
              no_route true e = let o = x.whole.routed.mid.only one.channel e in absurd (s.1 o.0 o.1.0)

      phase : seen_phase net (after_injection net n M) r i one.channel ≡ seen_phase net M r i one.channel
      phase = phase-same net good M x n r i one.channel way

      present : is_present net (after_injection net n M) one.channel one.packet ≡ true
      present =
          ap (λ j. nat_lt 0 j && not (is_past net one.channel (goal net one.packet) (tail_place net (after_injection net n M) one.packet))) count-in
          ∙ ap (λ b. b && not (is_past net one.channel (goal net one.packet) (tail_place net (after_injection net n M) one.packet))) (lt-ltb 0 (entered.flit + 1) (omega arith))
          ∙ ap not ((routedT net good M x n).behind one.channel one.packet holdsT)

      last_is : last_come net (after_injection net n M) one.channel one.packet ≡ Some (flit_at (packet_at net one.packet) one.packet entered.flit)
      last_is =
          ap (λ j. if nat_eq j 0 then None else Some (flit_at (packet_at net one.packet) one.packet (j - 1))) count-in
          ∙ ap (λ b. if b then None else Some (flit_at (packet_at net one.packet) one.packet (entered.flit + 1 - 1))) (ne_eqb (entered.flit + 1) 0 (λ e. omega arith))
          ∙ ap (λ j. Some (flit_at (packet_at net one.packet) one.packet j)) back
        where
          back : entered.flit + 1 - 1 ≡ entered.flit
          back = omega arith
