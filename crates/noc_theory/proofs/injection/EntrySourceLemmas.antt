-- After the injections: what waits at the source of a router.
use Rattle.std.proofs.Common.{◌≡◌, ◌≢◌, ℕ, ◌+◌, ◌<◌, ◌≤◌, Bool, true, false, List, [], ◌∷◌, length, Option, Some, None, refl, ap, sym, ◌∙◌, inl, inr, subst, arith}
use Rattle.std.specs.Prelude.{filter, find, count_by, option_map, ◌⊎◌, ◌&&◌, not, nat_eq}
use Rattle.noc_theory.proofs.Common.{list_any, eq-eqb, eqb-true, ne_eqb, cases_eq, none-some, same_Some, below, Has, nodes, Packet, Channel, Inject, channel_vc, starts_at, has_flit_at_source, seen_sending, Setup, State, Located, Place, Source, In, Injection, packet_at, place_of_flit, tail_place, flits_of, owned_by, is_at_source, is_injection_of, first_waiting, injections, injection_at, after_injection, IsValid}
use Rattle.noc_theory.proofs.worms.StateWordLemmas.{Precedes, last_of}
use Rattle.noc_theory.proofs.worms.InjectionPhaseLemmas.{source-behind}
use Rattle.noc_theory.proofs.worms.InjectionStateLemmas.{waiting-is}
use Rattle.noc_theory.proofs.worms.MemberLemmas.{Has-filter, Has-kept, Has-filter_map, list_any-from}
use Rattle.noc_theory.proofs.worms.PlaceLemmas.{place-of-flit, flit-there}
use Rattle.noc_theory.proofs.worms.WormRecordLemmas.{valid-last, valid-below}
use Rattle.noc_theory.proofs.injection.EntryChannelLemmas.{entered, is_entry, own}
use Rattle.noc_theory.proofs.injection.EntryLemmas.{step, keyed, worm, wormT, keyedT, Moved, moved, still, enters, to-place, owned-left, WasHeld, was-held, held, begun}
use Rattle.noc_theory.proofs.join.KeyLemmas.{count-places}
use Rattle.noc_theory.proofs.join.OrderedLemmas.{IsGood, IsOrderedFrozen}
use Rattle.noc_theory.proofs.injection.QueueLemmas.{IsAhead, Queue, empty, front, queue-case, waits, in-starts, filter-both, filter-others}
use Rattle.noc_theory.proofs.injection.SourceStateLemmas.{filter-same, injection-at, injection-own, injection-none}
use Rattle.noc_theory.proofs.join.LockstepStepLemmas.{count-step, any-step}

-- whether none of a list passes
any-never : {X : Type 0} (t : X → Bool) (xs : List X) → ((y : X) → Has y xs → t y ≡ false) → list_any t xs ≡ false
any-never t [] never = refl
any-never t (y ∷ ys) never = rw (never y (inl refl)) (any-never t ys (λ z h. never z (inr h)))

module _ (net : Setup) (good : IsGood net) (M : State) (x : IsOrderedFrozen net M) (n : ℕ) where
  abbrev at_source : Located → Bool
  at_source f = is_at_source f.place

  -- a packet that has no entry waits as it did
  module _ (p : ℕ) (same : (i : ℕ) → IsValid net p i → place_of_flit net (after_injection net n M) p i ≡ place_of_flit net M p i) where
    place-same : (f : Located) → Has f M.at → nat_eq p f.packet ≡ true → (step net good M x n f).place ≡ f.place
    place-same f h e =
        let is_p : p ≡ f.packet = eqb-true p f.packet e in
        let v : IsValid net p f.index = subst (λ q. IsValid net q f.index) (sym is_p) ((keyed net good M x n).valid f h) in
        sym (to-place net good M x n f h) ∙ ap (λ q. place_of_flit net (after_injection net n M) q f.index) (sym is_p) ∙ same f.index v ∙ ap (λ q. place_of_flit net M q f.index) is_p ∙ place-of-flit net M (keyed net good M x n) f h

    pub waits-still : waits net (after_injection net n M) 0 p ≡ waits net M 0 p
    unfolding after_injection
    waits-still = any-step at_source at_source (λ (f : Located). nat_eq p f.packet) (step net good M x n) (λ f. refl) M.at (λ f h e. ap is_at_source (place-same f h e))

    pub count-still : count_by (λ (f : Located). not (is_at_source f.place)) (flits_of net (after_injection net n M) p) ≡ count_by (λ (f : Located). not (is_at_source f.place)) (flits_of net M p)
    unfolding after_injection
    count-still = count-step (λ (f : Located). not (is_at_source f.place)) (λ (f : Located). not (is_at_source f.place)) (λ (f : Located). nat_eq p f.packet) (step net good M x n) (λ f. refl) M.at
        (λ f h e. ap (λ (y : Place). not (is_at_source y)) (place-same f h e))

  -- ---- a router without an injection

  module _ (r : ℕ) (l : r < nodes net.relation.grid) where
    -- the entry of a packet of this node is the injection of this node
    pub entry-here : (one : Injection net) → Has one (injections net M n) → (packet_at net one.packet).source ≡ r → injection_at net M n r ≡ Some one
    entry-here one h e =
        let f = Has-filter_map (injection_at net M n) one (below (nodes net.relation.grid)) h in
        let k = Rattle.noc_theory.proofs.worms.InjectionStateLemmas.entry-of net good.built M (keyed net good M x n) (worm net good M x n) n f.0 one f.2 in
        ap (injection_at net M n) (sym (k.from ∙ e)) ∙ f.2

    no-entry : injection_at net M n r ≡ None → (p : ℕ) → p < length net.packets → (packet_at net p).source ≡ r → (i : ℕ) → IsValid net p i → place_of_flit net (after_injection net n M) p i ≡ place_of_flit net M p i
    no-entry none p low e = by (moved net good M x n p low)
      where
        by : Moved net good M x n p → (i : ℕ) → IsValid net p i → place_of_flit net (after_injection net n M) p i ≡ place_of_flit net M p i
        by (still s t) = s
        by (enters one h k m) = absurd (none-some one (sym none ∙ entry-here one h (ap (λ q. (packet_at net q).source) k ∙ e)))

    pub queue-none : injection_at net M n r ≡ None → filter (has_flit_at_source net (after_injection net n M)) (starts_at net r) ≡ filter (has_flit_at_source net M) (starts_at net r)
    queue-none none =
        filter-same (has_flit_at_source net (after_injection net n M)) (has_flit_at_source net M) (starts_at net r)
        (λ one h. let k = in-starts net M r one h in waits-still one.0 (no-entry none one.0 k.0 k.2))

    -- an injection channel that a packet without an entry owns is one that it owned
    channel-still : (p : ℕ) → ((one : Injection net) → Has one (injections net M n) → one.packet ≢ p) → find (is_injection_of net r) (owned_by net (after_injection net n M) p) ≡ find (is_injection_of net r) (owned_by net M p)
    channel-still p none = at (find (is_injection_of net r) (owned_by net M p)) refl
      where
        at : (o : Option Channel) → find (is_injection_of net r) (owned_by net M p) ≡ o → find (is_injection_of net r) (owned_by net (after_injection net n M) p) ≡ find (is_injection_of net r) (owned_by net M p)
        at (Some c) e =
            let k = injection-own net good.built M (keyed net good M x n) (worm net good M x n) p r c e in
            injection-at net good.built (after_injection net n M) (keyedT net good M x n) (wormT net good M x n) p r k.0 (owned-left net good M x n (Inject r k.0) p k.2) ∙ sym (e ∙ ap Some k.1)
        at None e = injection-none net good.built (after_injection net n M) (keyedT net good M x n) (wormT net good M x n) p r (λ v h. by v (was-held net good M x n (Inject r v) p h)) ∙ sym e
          where
            by : (v : ℕ) → WasHeld net good M x n (Inject r v) p → ⊥
            by v (held k) = none-some (Inject r v) (sym e ∙ injection-at net good.built M (keyed net good M x n) (worm net good M x n) p r v k)
            by v (begun one h b j q) = none one h q

    no-packet : injection_at net M n r ≡ None → (p : ℕ) → (packet_at net p).source ≡ r → (one : Injection net) → Has one (injections net M n) → one.packet ≢ p
    no-packet none p e one h k = none-some one (sym none ∙ entry-here one h (ap (λ q. (packet_at net q).source) k ∙ e))

    first-by-queue : (S : State) → Queue net S r → Queue net M r → filter (has_flit_at_source net S) (starts_at net r) ≡ filter (has_flit_at_source net M) (starts_at net r) → first_waiting net S r ≡ first_waiting net M r
    first-by-queue S (empty a b) (empty c e) q = b ∙ sym e
    first-by-queue S (empty a b) (front p rest c e o t) q = let z : [] ≡ (p, packet_at net p) ∷ rest = sym a ∙ q ∙ c in absurd (cc z)
    first-by-queue S (front p rest a b o t) (empty c e) q = let z : (p, packet_at net p) ∷ rest ≡ [] = sym a ∙ q ∙ c in absurd (cc z)
    first-by-queue S (front p rest a b o t) (front u more c e k w) q =
        let z : (p, packet_at net p) ∷ rest ≡ (u, packet_at net u) ∷ more = sym a ∙ q ∙ c in
        let y : ◌≡◌ {A = ℕ × Packet} (p, packet_at net p) (u, packet_at net u) = cc in
        b ∙ ap (λ (g : ℕ × Packet). Some g.0) y ∙ sym e

    pub sending-none : injection_at net M n r ≡ None → seen_sending net (after_injection net n M) r (first_waiting net (after_injection net n M) r) ≡ seen_sending net M r (first_waiting net M r)
    sending-none none = ap (seen_sending net (after_injection net n M) r) (first-by-queue (after_injection net n M) (queue-case net (after_injection net n M) r) (queue-case net M r) (queue-none none)) ∙ at (first_waiting net M r) refl
      where
        at : (o : Option ℕ) → first_waiting net M r ≡ o → seen_sending net (after_injection net n M) r o ≡ seen_sending net M r o
        at None e = refl
        at (Some p) e =
            let w = waiting-is net good.built M (keyed net good M x n) (worm net good M x n) n r p e in
            ap (option_map (λ c. (channel_vc c, count_by (λ (f : Located). not (is_at_source f.place)) (flits_of net (after_injection net n M) p)))) (channel-still p (no-packet none p (sym w.1)))
            ∙ ap (λ k. option_map (λ c. (channel_vc c, k)) (find (is_injection_of net r) (owned_by net M p))) (count-still p (no-entry none p w.0 (sym w.1)))

    -- ---- a router with an injection

    module _ (one : Injection net) (found : injection_at net M n r ≡ Some one) where
      abbrev k : ℕ
      k = (entered net good M x n r l one found).flit

      abbrev p : ℕ
      p = one.packet

      low : one.packet < length net.packets
      low = (is_entry net good M x n r l one found).low

      source : r ≡ (packet_at net one.packet).source
      source = (is_entry net good M x n r l one found).from

      -- the other packets of the node have no entry
      others : (q : ℕ) → q < length net.packets → (packet_at net q).source ≡ r → q ≢ one.packet → ((i : ℕ) → IsValid net q i → place_of_flit net (after_injection net n M) q i ≡ place_of_flit net M q i) × ((two : Injection net) → Has two (injections net M n) → two.packet ≢ q)
      others q lq e other = by (moved net good M x n q lq)
        where
          same : (two : Injection net) → Has two (injections net M n) → two.packet ≡ q → ⊥
          same two h z =
              let s : two ≡ one = same_Some _ _ (sym (entry-here two h (ap (λ j. (packet_at net j).source) z ∙ e)) ∙ found) in
              other (sym z ∙ ap (λ (y : Injection net). y.packet) s)

          by : Moved net good M x n q → ((i : ℕ) → IsValid net q i → place_of_flit net (after_injection net n M) q i ≡ place_of_flit net M q i) × ((two : Injection net) → Has two (injections net M n) → two.packet ≢ q)
          by (still s t) = (s, t)
          by (enters two h z m) = absurd (same two h z)

      -- its flits before k have left the source, and the others have not
      pub count-was : count_by (λ (f : Located). not (is_at_source f.place)) (flits_of net M one.packet) ≡ (entered net good M x n r l one found).flit
      count-was =
          let e = entered net good M x n r l one found in
          count-places net M (keyed net good M x n) (λ y. not (is_at_source y)) one.packet e.flit low (let v = e.valid.1 in omega (arith, v))
          (λ i u. off (place_of_flit net M one.packet i) (e.first i u))
          (λ i u w. ap (λ y. not (is_at_source y)) (source-behind net good.built M.own (place_of_flit net M) (worm net good M x n) one.packet e.flit i (low, w) u e.was))
        where
          off : (y : Place) → y ≢ Source → not (is_at_source y) ≡ true
          off Source z = absurd (z refl)
          off (Rattle.noc_theory.specs.Network.On c) z = refl
          off (In c) z = refl
          off (Rattle.noc_theory.specs.Network.Out c) z = refl

      count-now : count_by (λ (f : Located). not (is_at_source f.place)) (flits_of net (after_injection net n M) one.packet) ≡ (entered net good M x n r l one found).flit + 1
      count-now =
          let e = entered net good M x n r l one found in
          count-places net (after_injection net n M) (keyedT net good M x n) (λ y. not (is_at_source y)) one.packet (e.flit + 1) low (let v = e.valid.1 in omega (arith, v))
          (λ i u. before i u (cases_eq i e.flit))
          (λ i u w. ap (λ y. not (is_at_source y)) (e.others i (low, w) (λ z. omega arith) ∙ source-behind net good.built M.own (place_of_flit net M) (worm net good M x n) one.packet e.flit i (low, w) (omega arith) e.was))
        where
          off : (y : Place) → y ≢ Source → not (is_at_source y) ≡ true
          off Source z = absurd (z refl)
          off (Rattle.noc_theory.specs.Network.On c) z = refl
          off (In c) z = refl
          off (Rattle.noc_theory.specs.Network.Out c) z = refl

          before : (i : ℕ) → i < (entered net good M x n r l one found).flit + 1 → (i ≡ (entered net good M x n r l one found).flit) ⊎ (i ≡ (entered net good M x n r l one found).flit → ⊥) → not (is_at_source (place_of_flit net (after_injection net n M) one.packet i)) ≡ true
          before i u (inl z) = ap (λ j. not (is_at_source (place_of_flit net (after_injection net n M) one.packet j))) z ∙ ap (λ y. not (is_at_source y)) (entered net good M x n r l one found).now
          before i u (inr z) =
              let e = entered net good M x n r l one found in
              let v : IsValid net one.packet i = valid-below net good.built one.packet i e.flit e.valid (omega arith) in
              off (place_of_flit net (after_injection net n M) one.packet i) (λ y. e.first i (omega arith) (sym (e.others i v z) ∙ y))

      -- it waits on exactly where the flit was not its tail
      waits-now : waits net (after_injection net n M) 0 one.packet ≡ not (nat_eq ((entered net good M x n r l one found).flit + 1) (packet_at net one.packet).length)
      waits-now = by (cases_eq ((entered net good M x n r l one found).flit + 1) (packet_at net one.packet).length)
        where
          some : 1 ≤ (packet_at net one.packet).length
          some = good.built.some_flit one.packet low

          by : ((entered net good M x n r l one found).flit + 1 ≡ (packet_at net one.packet).length) ⊎ ((entered net good M x n r l one found).flit + 1 ≡ (packet_at net one.packet).length → ⊥)
              → waits net (after_injection net n M) 0 one.packet ≡ not (nat_eq ((entered net good M x n r l one found).flit + 1) (packet_at net one.packet).length)
          by (inl z) = any-never at_source (flits_of net (after_injection net n M) one.packet) never ∙ sym (ap not (eq-eqb _ _ z))
            where
              never : (f : Located) → Has f (flits_of net (after_injection net n M) one.packet) → is_at_source f.place ≡ false
              never f h =
                  let m = Has-filter (λ (g : Located). nat_eq one.packet g.packet) f (after_injection net n M).at h in
                  let is_p : f.packet ≡ one.packet = sym (eqb-true one.packet f.packet m.1) in
                  let v : IsValid net one.packet f.index = subst (λ q. IsValid net q f.index) is_p ((keyedT net good M x n).valid f m.0) in
                  let here : place_of_flit net (after_injection net n M) one.packet f.index ≡ f.place = ap (λ q. place_of_flit net (after_injection net n M) q f.index) (sym is_p) ∙ place-of-flit net (after_injection net n M) (keyedT net good M x n) f m.0 in
                  ap is_at_source (sym here) ∙ gone f.index v (cases_eq f.index (entered net good M x n r l one found).flit)
                where
                  off : (y : Place) → y ≢ Source → is_at_source y ≡ false
                  off Source z = absurd (z refl)
                  off (Rattle.noc_theory.specs.Network.On c) z = refl
                  off (In c) z = refl
                  off (Rattle.noc_theory.specs.Network.Out c) z = refl

                  gone : (i : ℕ) → IsValid net one.packet i → (i ≡ (entered net good M x n r l one found).flit) ⊎ (i ≡ (entered net good M x n r l one found).flit → ⊥) → is_at_source (place_of_flit net (after_injection net n M) one.packet i) ≡ false
                  gone i v (inl y) = ap (λ j. is_at_source (place_of_flit net (after_injection net n M) one.packet j)) y ∙ ap is_at_source (entered net good M x n r l one found).now
                  gone i v (inr y) =
                      let e = entered net good M x n r l one found in
                      let u = v.1 in
                      off (place_of_flit net (after_injection net n M) one.packet i) (λ q. e.first i (omega (arith, u, z, y)) (sym (e.others i v y) ∙ q))
          by (inr z) =
              let e = entered net good M x n r l one found in
              let lv = valid-last net good.built one.packet low in
              let v = e.valid.1 in
              let s = some in
              let tail : place_of_flit net (after_injection net n M) one.packet (last_of net one.packet) ≡ Source = e.others (last_of net one.packet) lv (λ y. z (omega arith)) ∙ (is_entry net good M x n r l one found).waits in
              let f : Located = record { packet = one.packet; index = last_of net one.packet; place = place_of_flit net (after_injection net n M) one.packet (last_of net one.packet) } in
              let m : Has f (flits_of net (after_injection net n M) one.packet) = Has-kept (λ (g : Located). nat_eq one.packet g.packet) f (after_injection net n M).at (flit-there net (after_injection net n M) (keyedT net good M x n) one.packet (last_of net one.packet) lv) (eq-eqb one.packet one.packet refl) in
              list_any-from at_source (flits_of net (after_injection net n M) one.packet) f m (ap is_at_source tail) ∙ sym (ap not (ne_eqb _ _ z))

      -- the queue
      module _ (rest : List (ℕ × Packet)) (queue_is : filter (has_flit_at_source net M) (starts_at net r) ≡ (one.packet, packet_at net one.packet) ∷ rest) (rest_other : (z : ℕ × Packet) → Has z rest → z.0 ≢ one.packet)
          (rest_ahead : (z : ℕ × Packet) → Has z rest → IsAhead (one.packet, packet_at net one.packet) z) where
        was-waiting : waits net M 0 one.packet ≡ true
        was-waiting = (Has-filter (has_flit_at_source net M) (one.packet, packet_at net one.packet) (starts_at net r) (subst (λ (ys : List (ℕ × Packet)). Has (one.packet, packet_at net one.packet) ys) (sym queue_is) (inl refl))).1

        other-waits : (z : ℕ × Packet) → Has z (starts_at net r) → z.0 ≢ one.packet → has_flit_at_source net (after_injection net n M) z ≡ has_flit_at_source net M z
        other-waits z h e = let i = in-starts net M r z h in waits-still z.0 (others z.0 i.0 i.2 e).0

        pub queue-more : nat_eq ((entered net good M x n r l one found).flit + 1) (packet_at net one.packet).length ≡ false
            → filter (has_flit_at_source net (after_injection net n M)) (starts_at net r) ≡ filter (has_flit_at_source net M) (starts_at net r)
        queue-more e = filter-same (has_flit_at_source net (after_injection net n M)) (has_flit_at_source net M) (starts_at net r) (λ z h. by z h (cases_eq z.0 one.packet))
          where
            by : (z : ℕ × Packet) → Has z (starts_at net r) → (z.0 ≡ one.packet) ⊎ (z.0 ≡ one.packet → ⊥) → has_flit_at_source net (after_injection net n M) z ≡ has_flit_at_source net M z
            by z h (inl k) = ap (waits net (after_injection net n M) 0) k ∙ waits-now ∙ ap not e ∙ sym was-waiting ∙ sym (ap (waits net M 0) k)
            by z h (inr k) = other-waits z h k

        pub queue-last : nat_eq ((entered net good M x n r l one found).flit + 1) (packet_at net one.packet).length ≡ true → filter (has_flit_at_source net (after_injection net n M)) (starts_at net r) ≡ rest
        queue-last e =
            filter-same (has_flit_at_source net (after_injection net n M)) (λ z. has_flit_at_source net M z && not (nat_eq z.0 one.packet)) (starts_at net r) (λ z h. by z h (cases_eq z.0 one.packet))
            ∙ filter-both (has_flit_at_source net M) (λ z. not (nat_eq z.0 one.packet)) (starts_at net r)
            ∙ ap (filter (λ (z : ℕ × Packet). not (nat_eq z.0 one.packet))) queue_is
            ∙ filter-others one.packet (packet_at net one.packet) rest rest_other
          where
            and-true : (b : Bool) → b ≡ (b && true)
            and-true true = refl
            and-true false = refl

            and-false : (b : Bool) → false ≡ (b && false)
            and-false true = refl
            and-false false = refl

            by : (z : ℕ × Packet) → Has z (starts_at net r) → (z.0 ≡ one.packet) ⊎ (z.0 ≡ one.packet → ⊥) → has_flit_at_source net (after_injection net n M) z ≡ (has_flit_at_source net M z && not (nat_eq z.0 one.packet))
            by z h (inl k) =
                ap (waits net (after_injection net n M) 0) k ∙ waits-now ∙ ap not e ∙ and-false (has_flit_at_source net M z)
                ∙ sym (ap (λ b. has_flit_at_source net M z && not b) (eq-eqb z.0 one.packet k))
            by z h (inr k) = other-waits z h k ∙ and-true (has_flit_at_source net M z) ∙ sym (ap (λ b. has_flit_at_source net M z && not b) (ne_eqb z.0 one.packet k))

        -- the source goes on with the packet, or has not begun the next
        pub sending-more : (vc : ℕ) → one.channel ≡ Inject r vc → nat_eq ((entered net good M x n r l one found).flit + 1) (packet_at net one.packet).length ≡ false
            → seen_sending net (after_injection net n M) r (first_waiting net (after_injection net n M) r) ≡ Some (vc, (entered net good M x n r l one found).flit + 1)
        sending-more vc is e =
            ap (seen_sending net (after_injection net n M) r) (first (queue-case net (after_injection net n M) r))
            ∙ ap (option_map (λ c. (channel_vc c, count_by (λ (f : Located). not (is_at_source f.place)) (flits_of net (after_injection net n M) one.packet))))
            (injection-at net good.built (after_injection net n M) (keyedT net good M x n) (wormT net good M x n) one.packet r vc (subst (λ (c : Channel). Has (c, one.packet) (after_injection net n M).own) is (own net good M x n r l one found)))
            ∙ ap (λ j. Some (vc, j)) count-now
          where
            first : Queue net (after_injection net n M) r → first_waiting net (after_injection net n M) r ≡ Some one.packet
            first (empty a b) = let z : [] ≡ (one.packet, packet_at net one.packet) ∷ rest = sym a ∙ queue-more e ∙ queue_is in absurd (cc z)
            first (front q more a b o w) =
                let z : (q, packet_at net q) ∷ more ≡ (one.packet, packet_at net one.packet) ∷ rest = sym a ∙ queue-more e ∙ queue_is in
                let y : ◌≡◌ {A = ℕ × Packet} (q, packet_at net q) (one.packet, packet_at net one.packet) = cc in
                b ∙ ap (λ (g : ℕ × Packet). Some g.0) y

        pub sending-last : nat_eq ((entered net good M x n r l one found).flit + 1) (packet_at net one.packet).length ≡ true → seen_sending net (after_injection net n M) r (first_waiting net (after_injection net n M) r) ≡ None
        sending-last e = next (queue-case net (after_injection net n M) r)
          where
            next : Queue net (after_injection net n M) r → seen_sending net (after_injection net n M) r (first_waiting net (after_injection net n M) r) ≡ None
            next (empty a b) = ap (seen_sending net (after_injection net n M) r) b
            next (front q more a b o w) =
                ap (seen_sending net (after_injection net n M) r) b
                ∙ ap (option_map (λ c. (channel_vc c, count_by (λ (f : Located). not (is_at_source f.place)) (flits_of net (after_injection net n M) q)))) none
              where
                in_rest : Has (q, packet_at net q) rest
                in_rest = subst (λ (ys : List (ℕ × Packet)). Has (q, packet_at net q) ys) (sym a ∙ queue-last e) (inl refl)

                waiting : (q < length net.packets) × (r ≡ (packet_at net q).source) × (place_of_flit net (after_injection net n M) q (last_of net q) ≡ Source)
                waiting = waiting-is net good.built (after_injection net n M) (keyedT net good M x n) (wormT net good M x n) n r q b

                still_q : ((i : ℕ) → IsValid net q i → place_of_flit net (after_injection net n M) q i ≡ place_of_flit net M q i) × ((two : Injection net) → Has two (injections net M n) → two.packet ≢ q)
                still_q = others q waiting.0 (sym waiting.1) (rest_other (q, packet_at net q) in_rest)

                tail : place_of_flit net M q (last_of net q) ≡ Source
                tail = sym (still_q.0 (last_of net q) (valid-last net good.built q waiting.0)) ∙ waiting.2

                clash : Precedes (λ j. (packet_at net j).due) q one.packet → IsAhead (one.packet, packet_at net one.packet) (q, packet_at net q) → ⊥
                clash (inl u) (inl v) = omega (arith, u, v)
                clash (inl u) (inr v) = let k = v.0 in omega (arith, u, k)
                clash (inr u) (inl v) = let k = u.0 in omega (arith, v, k)
                clash (inr u) (inr v) = let k = u.1 in let m = v.1 in omega (arith, k, m)

                by : (v : ℕ) → WasHeld net good M x n (Inject r v) q → ⊥
                by v (held h) =
                    clash (x.queued.first q waiting.0 ((worm net good M x n).begun (Inject r v) q h) tail one.packet low (sym source ∙ waiting.1) (is_entry net good M x n r l one found).waits)
                    (rest_ahead (q, packet_at net q) in_rest)
                by v (begun two h u j z) = still_q.1 two h z

                none : find (is_injection_of net r) (owned_by net (after_injection net n M) q) ≡ None
                none = injection-none net good.built (after_injection net n M) (keyedT net good M x n) (wormT net good M x n) q r (λ v h. by v (was-held net good M x n (Inject r v) q h))
