-- A router takes all its beats.
use Rattle.std.proofs.Common.{◌≡◌, ℕ, zero, suc, ◌+◌, ◌/◌, ◌%◌, ◌<◌, Bool, true, false, List, [], map, Option, Some, None, refl, ap, sym, ◌∙◌, inl, inr, subst, arith}
use Rattle.std.specs.Prelude.{find, count_by, option_map, option_and_then, is_some, ◌⊎◌, ◌||◌, not, nat_eq, if◌then◌else◌}
use Rattle.noc_route.proofs.BoolLemmas.{same_test}
use Rattle.noc_theory.proofs.Common.{list_any, range_with_len, false≢true, true≢false, lt-ltb, le-ltb, ltb-true, eq-eqb, or_left, or_right, or_cases, none-some, same_Some, below, tabulate, is_some_of, Has, nodes, local_port, neighbour, IsLinkBack, link_back, get_or-tabulate, Flit, Beat, Channel, Link, Inject, Eject, sending_router, channel_vc, same_channel, View, view_after_take, view_after_takes_from, view_after_takes, beat_by, beats_at, beats_in, flit_on, flies_to, seen_flits, seen_input, seen_output, seen_sending, starts_at, ends_at, Setup, State, Located, Place, Source, On, In, Out, size, arriving, leaving, packet_at, tail_place, flits_of, owned_by, arbiters_at, first_waiting, is_at_source, is_on, is_injection_of, landed_place, out_cycle, end_of, has_channel, after_landing, after_credits, is_some_of-true, flit_at, IsSeen}
use Rattle.noc_theory.proofs.worms.BufferLemmas.{same_channel-refl, same_channel-true, find-passes}
use Rattle.noc_theory.proofs.worms.MemberLemmas.{find-has, find-some, list_any-has, list_any-from}
use Rattle.noc_theory.proofs.worms.PlaceLemmas.{place-of-flit}
use Rattle.noc_theory.proofs.worms.StateWordLemmas.{IsPlaced}
use Rattle.noc_theory.proofs.worms.OpeningLemmas.{below-has}
use Rattle.noc_theory.proofs.verdicts.CommitEndLemmas.{map-each, ends-here}
use Rattle.noc_theory.proofs.landing.LandInputLemmas.{flits-none, input-none}
use Rattle.noc_theory.proofs.landing.LandLemmas.{keyed, worm, keyedM, wormM, landed-tail, owned-before, owned-still}
use Rattle.noc_theory.proofs.landing.LandOutputLemmas.{eject-same}
use Rattle.noc_theory.proofs.join.OrderedLemmas.{IsGood, AreShort, IsOrdered}
use Rattle.noc_theory.proofs.join.PhaseLemmas.{mid, has_arrival, IsTaken}
use Rattle.noc_theory.proofs.join.PlaceViewLemmas.{IsAt, input-at, mod-below, OutputCase, ejects, links, output-case}
use Rattle.noc_theory.proofs.injection.SourceStateLemmas.{injection-at, injection-own, injection-none, waiting-same, queue-same}
use Rattle.noc_theory.proofs.join.LockstepStepLemmas.{count-step, any-step}
use Rattle.noc_theory.proofs.landing.TakeLemmas.{at_port, came, IsUpTo}
use Rattle.noc_theory.proofs.landing.TakePortLemmas.{port-taken}

module _ (net : Setup) (good : IsGood net) (S : State) (x : IsOrdered net S) where
  -- ---- what landings and credits leave of the sources

  source-landed : (y : Place) → is_at_source (landed_place net y) ≡ is_at_source y
  source-landed Source = refl
  source-landed (On c) = refl
  source-landed (In c) = refl
  source-landed (Out n) = refl

  out-landed : (y : Place) → out_cycle (landed_place net y) ≡ out_cycle y
  out-landed Source = refl
  out-landed (On c) = refl
  out-landed (In c) = refl
  out-landed (Out n) = refl

  waits-same : (p : ℕ) → list_any (λ (f : Located). is_at_source f.place) (flits_of net (mid net S) p) ≡ list_any (λ (f : Located). is_at_source f.place) (flits_of net S p)
  unfolding after_landing after_credits
  waits-same p =
      any-step (λ (f : Located). is_at_source f.place) (λ (f : Located). is_at_source f.place) (λ (f : Located). nat_eq p f.packet) (λ (f : Located). record f { place = landed_place net f.place }) (λ f. refl) S.at (λ f h q. source-landed f.place)

  count-same : (p : ℕ) → count_by (λ (f : Located). not (is_at_source f.place)) (flits_of net (mid net S) p) ≡ count_by (λ (f : Located). not (is_at_source f.place)) (flits_of net S p)
  unfolding after_landing after_credits
  count-same p =
      count-step (λ (f : Located). not (is_at_source f.place)) (λ (f : Located). not (is_at_source f.place)) (λ (f : Located). nat_eq p f.packet) (λ (f : Located). record f { place = landed_place net f.place }) (λ f. refl) S.at (λ f h q. ap not (source-landed f.place))

  channel-same : (p node : ℕ) → find (is_injection_of net node) (owned_by net (mid net S) p) ≡ find (is_injection_of net node) (owned_by net S p)
  channel-same p node = at (find (is_injection_of net node) (owned_by net S p)) refl
    where
      at : (o : Option Channel) → find (is_injection_of net node) (owned_by net S p) ≡ o → find (is_injection_of net node) (owned_by net (mid net S) p) ≡ find (is_injection_of net node) (owned_by net S p)
      at (Some c) e =
          let r = injection-own net good.built S (keyed net good S x) (worm net good S x) p node c e in
          injection-at net good.built (mid net S) (keyedM net good S x) (wormM net good S x) p node r.0 (owned-still net good S x (Inject node r.0) p r.2 refl) ∙ sym (e ∙ ap Some r.1)
      at None e =
          injection-none net good.built (mid net S) (keyedM net good S x) (wormM net good S x) p node
          (λ v h. none-some (Inject node v) (sym e ∙ injection-at net good.built S (keyed net good S x) (worm net good S x) p node v (owned-before net good S x (Inject node v) p h).0)) ∙ sym e

  sending-same : (r : ℕ) → seen_sending net (mid net S) r (first_waiting net (mid net S) r) ≡ seen_sending net S r (first_waiting net S r)
  sending-same r = ap (seen_sending net (mid net S) r) (waiting-same net S (mid net S) waits-same r) ∙ at (first_waiting net S r)
    where
      at : (o : Option ℕ) → seen_sending net (mid net S) r o ≡ seen_sending net S r o
      at None = refl
      at (Some p) =
          ap (option_map (λ c. (channel_vc c, count_by (λ (f : Located). not (is_at_source f.place)) (flits_of net (mid net S) p)))) (channel-same p r)
          ∙ ap (λ k. option_map (λ c. (channel_vc c, k)) (find (is_injection_of net r) (owned_by net S p))) (count-same p)

  arbiters-same : (r : ℕ) → arbiters_at net (mid net S) r ≡ arbiters_at net S r
  unfolding after_landing after_credits
  arbiters-same r = refl

  module _ (short : AreShort net) (r : ℕ) (l : r < nodes net.relation.grid) (v0 : View) (seen : IsSeen net S r v0) (had : v0.had_event ≡ false) where
    abbrev beat : ℕ → Beat
    beat port = beat_by net S r port (neighbour net.relation.grid r port)

    abbrev UpTo : ℕ → View → Type 0
    UpTo k v = IsUpTo net good S x r l v0 k v

    first : UpTo 0 v0
    unfolding below
    first = record {
      site = refl;
      n_buffers = refl;
      n_inputs = refl;
      n_outputs = refl;
      buffer = λ i u. seen.buffer i u ∙ sym (ap (λ (t : State). seen_flits net t (arriving net r i)) (early i));
      input = λ i u. seen.input i u ∙ sym (ap (λ (t : State). seen_input net t r i (arriving net r i)) (early i));
      output = λ o u. seen.output o u ∙ sym (ap (λ (t : State). seen_output net t r (leaving net r o)) (early o));
      arbiters = refl;
      queue = refl;
      sending = refl;
      ends = refl;
      misfits = refl;
      noted = record { last_event = refl; counts = refl; findings = refl; to_put = refl };
      given = refl;
      event = or-false v0.had_event;
    }
      where
        early : (i : ℕ) → at_port net good S x r l v0 0 i ≡ S
        early i = ap (λ b. if b then mid net S else S) (le-ltb (i / net.relation.vcs) 0 (omega arith))

        or-false : (b : Bool) → b ≡ (b || false)
        or-false true = refl
        or-false false = refl

    all-from : (m a : ℕ) (v : View) → a + m ≡ local_port net.relation.grid → UpTo a v → UpTo (local_port net.relation.grid) (view_after_takes_from net.relation a (map (λ port. beat_by net S r port (neighbour net.relation.grid r port)) (range_with_len a m)) v)
    all-from zero a v e so_far = subst (λ k. UpTo k v) (let z : a ≡ local_port net.relation.grid = omega (arith, e) in z) so_far
    all-from (suc m) a v e so_far = all-from m (a + 1) (view_after_take net.relation a (beat_by net S r a (neighbour net.relation.grid r a)) v) (omega (arith, e)) (port-taken net good short S x r l v0 seen a (omega (arith, e)) v so_far)

    beats-are : beats_at (beats_in net S) r ≡ map (λ port. beat_by net S r port (neighbour net.relation.grid r port)) (range_with_len 0 (local_port net.relation.grid))
    unfolding beats_in tabulate below
    beats-are = get_or-tabulate (nodes net.relation.grid) r (λ s. tabulate (local_port net.relation.grid) (λ port. beat_by net S s port (neighbour net.relation.grid s port))) [] l

    w : View
    w = view_after_takes net.relation (beats_at (beats_in net S) r) v0

    done : UpTo (local_port net.relation.grid) (view_after_takes net.relation (beats_at (beats_in net S) r) v0)
    unfolding view_after_takes
    done = subst (λ (bs : List Beat). UpTo (local_port net.relation.grid) (view_after_takes_from net.relation 0 bs v0)) (sym beats-are) (all-from (local_port net.relation.grid) 0 v0 (omega arith) first)

    -- ---- the local port is as it was

    late : (i : ℕ) → i / net.relation.vcs < local_port net.relation.grid → at_port net good S x r l v0 (local_port net.relation.grid) i ≡ mid net S
    late i u = ap (λ b. if b then mid net S else S) (lt-ltb _ _ u)

    local : (i : ℕ) → i / net.relation.vcs ≡ local_port net.relation.grid → at_port net good S x r l v0 (local_port net.relation.grid) i ≡ S
    local i e = ap (λ b. if b then mid net S else S) (le-ltb _ _ (omega (arith, e)))

    no-wire : (u : ℕ) → flit_on net S (Inject r u) ≡ None
    no-wire u = at (find (λ (g : Located). is_on (Inject r u) g.place) S.at) refl
      where
        is-on : (y : Place) → is_on (Inject r u) y ≡ true → y ≡ On (Inject r u)
        is-on Source e = absurd (false≢true e)
        is-on (On d) e = ap On (sym (same_channel-true (Inject r u) d e))
        is-on (In d) e = absurd (false≢true e)
        is-on (Out k) e = absurd (false≢true e)

        at : (o : Option Located) → find (λ (g : Located). is_on (Inject r u) g.place) S.at ≡ o → flit_on net S (Inject r u) ≡ None
        at None e = ap (option_map (λ (g : Located). flit_at (packet_at net g.packet) g.packet g.index)) e
        at (Some g) e =
            let h = find-has (λ (y : Located). is_on (Inject r u) y.place) S.at g e in
            let on = is-on g.place (find-passes (λ (y : Located). is_on (Inject r u) y.place) S.at g e) in
            absurd (subst (λ (y : Place). IsPlaced net S.own g.packet y) (place-of-flit net S (keyed net good S x) g h ∙ on) ((worm net good S x).placed g.packet g.index ((keyed net good S x).valid g h)))

    port-case : (i : ℕ) → i < size net → (i / net.relation.vcs < local_port net.relation.grid) ⊎ (i / net.relation.vcs ≡ local_port net.relation.grid)
    port-case i u = by (output-case net good r i u)
      where
        by : OutputCase net good r i → (i / net.relation.vcs < local_port net.relation.grid) ⊎ (i / net.relation.vcs ≡ local_port net.relation.grid)
        by (ejects p e) = inr p
        by (links p e) = inl p

    local-arrives : (i : ℕ) → i / net.relation.vcs ≡ local_port net.relation.grid → arriving net r i ≡ Some (Inject r (i % net.relation.vcs))
    local-arrives i e = ap (λ b. if b then Some (Inject r (i % net.relation.vcs)) else option_map (λ (from : ℕ × ℕ). Link from.0 from.1 (i % net.relation.vcs)) (neighbour net.relation.grid r (i / net.relation.vcs))) (eq-eqb _ _ e)

    buffer-all : (i : ℕ) → i < size net → seen_flits net (at_port net good S x r l v0 (local_port net.relation.grid) i) (arriving net r i) ≡ seen_flits net (mid net S) (arriving net r i)
    buffer-all i u = by (port-case i u)
      where
        by : (i / net.relation.vcs < local_port net.relation.grid) ⊎ (i / net.relation.vcs ≡ local_port net.relation.grid) → seen_flits net (at_port net good S x r l v0 (local_port net.relation.grid) i) (arriving net r i) ≡ seen_flits net (mid net S) (arriving net r i)
        by (inl p) = ap (λ (t : State). seen_flits net t (arriving net r i)) (late i p)
        by (inr e) =
            ap (λ (t : State). seen_flits net t (arriving net r i)) (local i e) ∙ ap (seen_flits net S) (local-arrives i e) ∙ sym (ap (seen_flits net (mid net S)) (local-arrives i e) ∙ flits-none net good S x (Inject r (i % net.relation.vcs)) (no-wire (i % net.relation.vcs)))

    input-all : (i : ℕ) → i < size net → seen_input net (at_port net good S x r l v0 (local_port net.relation.grid) i) r i (arriving net r i) ≡ seen_input net (mid net S) r i (arriving net r i)
    input-all i u = by (port-case i u)
      where
        by : (i / net.relation.vcs < local_port net.relation.grid) ⊎ (i / net.relation.vcs ≡ local_port net.relation.grid) → seen_input net (at_port net good S x r l v0 (local_port net.relation.grid) i) r i (arriving net r i) ≡ seen_input net (mid net S) r i (arriving net r i)
        by (inl p) = ap (λ (t : State). seen_input net t r i (arriving net r i)) (late i p)
        by (inr e) =
            ap (λ (t : State). seen_input net t r i (arriving net r i)) (local i e) ∙ ap (seen_input net S r i) (local-arrives i e)
            ∙ sym (ap (seen_input net (mid net S) r i) (local-arrives i e) ∙ input-none net good S x (Inject r (i % net.relation.vcs)) (no-wire (i % net.relation.vcs)) r i (λ z. z))

    output-all : (o : ℕ) → o < size net → seen_output net (at_port net good S x r l v0 (local_port net.relation.grid) o) r (leaving net r o) ≡ seen_output net (mid net S) r (leaving net r o)
    output-all o u = by (output-case net good r o u)
      where
        by : OutputCase net good r o → seen_output net (at_port net good S x r l v0 (local_port net.relation.grid) o) r (leaving net r o) ≡ seen_output net (mid net S) r (leaving net r o)
        by (links p e) = ap (λ (t : State). seen_output net t r (leaving net r o)) (late o p)
        by (ejects p e) =
            ap (λ (t : State). seen_output net t r (leaving net r o)) (local o p) ∙ ap (seen_output net S r) e ∙ sym (ap (seen_output net (mid net S) r) e ∙ eject-same net good S x r o r (o % net.relation.vcs) e)

    ends-same : map {B = ℕ × Option ℕ} (λ q. (q, out_cycle (tail_place net S q))) (ends_at net r) ≡ map {B = ℕ × Option ℕ} (λ q. (q, out_cycle (tail_place net (mid net S) q))) (ends_at net r)
    ends-same = map-each (λ q. (q, out_cycle (tail_place net S q))) (λ q. (q, out_cycle (tail_place net (mid net S) q))) (ends_at net r)
        (λ q h. ap (λ (k : Option ℕ). (q, k)) (sym (ap out_cycle (landed-tail net good S x q (ends-here net r q h).0) ∙ out-landed (tail_place net S q))))

    -- ---- whether anything comes

    any-below : (t : ℕ → Bool) (n k : ℕ) → k < n → t k ≡ true → list_any t (below n) ≡ true
    any-below t n k u e = list_any-from t (below n) k (below-has k n u) e

    comes-is : list_any (λ port. came net good S x r l v0 port) (below (local_port net.relation.grid)) ≡ has_arrival net r S
    comes-is = same_test _ _ there back
      where
        grid : Rattle.noc_topo.specs.Shape.IsGrid net.relation.grid
        grid = good.relation.table.grid

        -- what comes by a port is on its way to this router
        by-flit : (k s q : ℕ) → neighbour net.relation.grid r k ≡ Some (s, q) → (o : Option ℕ) → find (λ vc. is_some (flit_on net S (Link s q vc))) (below net.relation.vcs) ≡ o
            → is_some {T = ℕ × Flit} (option_and_then (λ vc. option_map (λ g. (vc, g)) (flit_on net S (Link s q vc))) o) ≡ true → list_any (λ (f : Located). flies_to net r f.place) S.at ≡ true
        by-flit k s q link None e t = absurd (false≢true t)
        by-flit k s q link (Some vc) e t = at (find (λ (g : Located). is_on (Link s q vc) g.place) S.at) refl
          where
            back_link : IsLinkBack net.relation.grid r k s q
            back_link = link_back net.relation.grid r k s q grid l link

            passes : is_some (flit_on net S (Link s q vc)) ≡ true
            passes = find-passes (λ w. is_some (flit_on net S (Link s q w))) (below net.relation.vcs) vc e

            is-on : (y : Place) → is_on (Link s q vc) y ≡ true → y ≡ On (Link s q vc)
            is-on Source z = absurd (false≢true z)
            is-on (On d) z = ap On (sym (same_channel-true (Link s q vc) d z))
            is-on (In d) z = absurd (false≢true z)
            is-on (Out j) z = absurd (false≢true z)

            at : (o : Option Located) → find (λ (g : Located). is_on (Link s q vc) g.place) S.at ≡ o → list_any (λ (f : Located). flies_to net r f.place) S.at ≡ true
            at None z = absurd (false≢true (sym (ap (λ (y : Option Located). is_some (option_map (λ (g : Located). flit_at (packet_at net g.packet) g.packet g.index) y)) z) ∙ passes))
            at (Some g) z =
                let h = find-has (λ (y : Located). is_on (Link s q vc) y.place) S.at g z in
                let on = is-on g.place (find-passes (λ (y : Located). is_on (Link s q vc) y.place) S.at g z) in
                list_any-from (λ (f : Located). flies_to net r f.place) S.at g h
                (ap (flies_to net r) on ∙ ap (λ (o : Option (ℕ × ℕ)). is_some_of (option_map (λ (place : ℕ × ℕ). place.0) o) r) back_link.back ∙ eq-eqb r r refl)

        by-credit : (k : ℕ) → (o : Option ℕ) → find (λ vc. has_channel S.back (Link r k vc)) (below net.relation.vcs) ≡ o → is_some o ≡ true → list_any (λ c. is_some_of (sending_router c) r) S.back ≡ true
        by-credit k None e t = absurd (false≢true t)
        by-credit k (Some vc) e t =
            let h = find-passes (λ w. has_channel S.back (Link r k w)) (below net.relation.vcs) vc e in
            let m = list_any-has (same_channel (Link r k vc)) S.back h in
            list_any-from (λ c. is_some_of (sending_router c) r) S.back m.0 m.1 (ap (λ c. is_some_of (sending_router c) r) (sym (same_channel-true (Link r k vc) m.0 m.2)) ∙ eq-eqb r r refl)

        there : list_any (λ port. came net good S x r l v0 port) (below (local_port net.relation.grid)) ≡ true → has_arrival net r S ≡ true
        there t = at k.0 (neighbour net.relation.grid r k.0) refl k.2
          where
            k : (k : ℕ) × Has k (below (local_port net.relation.grid)) × (came net good S x r l v0 k ≡ true)
            k = list_any-has (λ port. came net good S x r l v0 port) (below (local_port net.relation.grid)) t

            at : (k : ℕ) (o : Option (ℕ × ℕ)) → neighbour net.relation.grid r k ≡ o → (is_some (beat_by net S r k (neighbour net.relation.grid r k)).flit || is_some (beat_by net S r k (neighbour net.relation.grid r k)).credit) ≡ true → has_arrival net r S ≡ true
            at k None e z = absurd (false≢true (sym (ap (λ (o : Option (ℕ × ℕ)). is_some (beat_by net S r k o).flit || is_some (beat_by net S r k o).credit) e) ∙ z))
            at k (Some from) e z =
                way (or_cases (is_some (beat_by net S r k (Some from)).flit) (is_some (beat_by net S r k (Some from)).credit) (sym (ap (λ (o : Option (ℕ × ℕ)). is_some (beat_by net S r k o).flit || is_some (beat_by net S r k o).credit) e) ∙ z))
              where
                way : (is_some (beat_by net S r k (Some from)).flit ≡ true) ⊎ (is_some (beat_by net S r k (Some from)).credit ≡ true) → has_arrival net r S ≡ true
                way (inl y) = or_left _ _ (by-flit k from.0 from.1 e (find (λ vc. is_some (flit_on net S (Link from.0 from.1 vc))) (below net.relation.vcs)) refl y)
                way (inr y) = or_right (list_any (λ (f : Located). flies_to net r f.place) S.at) _ (by-credit k (find (λ vc. has_channel S.back (Link r k vc)) (below net.relation.vcs)) refl y)

        -- and what is on its way comes by a port
        came-some : (k : ℕ) → k < local_port net.relation.grid → came net good S x r l v0 k ≡ true → list_any (λ port. came net good S x r l v0 port) (below (local_port net.relation.grid)) ≡ true
        came-some k u e = any-below (λ port. came net good S x r l v0 port) (local_port net.relation.grid) k u e

        from-flit : (f : Located) → Has f S.at → (y : Place) → f.place ≡ y → flies_to net r y ≡ true → list_any (λ port. came net good S x r l v0 port) (below (local_port net.relation.grid)) ≡ true
        from-flit f h Source e t = absurd (false≢true t)
        from-flit f h (In c) e t = absurd (false≢true t)
        from-flit f h (Out c) e t = absurd (false≢true t)
        from-flit f h (On (Inject a b)) e t = absurd (subst (λ (y : Place). IsPlaced net S.own f.packet y) (place-of-flit net S (keyed net good S x) f h ∙ e) ((worm net good S x).placed f.packet f.index ((keyed net good S x).valid f h)))
        from-flit f h (On (Eject a b)) e t = absurd (subst (λ (y : Place). IsPlaced net S.own f.packet y) (place-of-flit net S (keyed net good S x) f h ∙ e) ((worm net good S x).placed f.packet f.index ((keyed net good S x).valid f h)))
        from-flit f h (On (Link a b c)) e t =
            let own : Has (Link a b c, f.packet) S.own = subst (λ (y : Place). IsPlaced net S.own f.packet y) (place-of-flit net S (keyed net good S x) f h ∙ e) ((worm net good S x).placed f.packet f.index ((keyed net good S x).valid f h)) in
            let i = input-at net good (Link a b c) (x.whole.covered (Link a b c) f.packet (own, (λ z. z))) in
            let low : c < net.relation.vcs = subst (λ j. j < net.relation.vcs) (sym i.2.vc) (mod-below net good i.1) in
            let end : end_of net.relation (Link a b c) ≡ Some i.0 = ap (option_map (λ (place : ℕ × ℕ). place.0)) i.2.arrives in
            let here : i.0 ≡ r = same_Some _ _ (sym end ∙ is_some_of-true (end_of net.relation (Link a b c)) r t) in
            let from : i.0 < nodes net.relation.grid = i.2.router in
            comes i.0 i.1 i.2 here low
          where
            comes : (s i : ℕ) → IsAt net good s i (Link a b c) → s ≡ r → c < net.relation.vcs → list_any (λ port. came net good S x r l v0 port) (below (local_port net.relation.grid)) ≡ true
            comes s i at same low =
                let at_r : IsAt net good r i (Link a b c) = subst (λ j. IsAt net good j i (Link a b c)) same at in
                let back_link : neighbour net.relation.grid r (i / net.relation.vcs) ≡ Some (a, b) = link-of at_r in
                let port = Rattle.noc_route.proofs.BuiltLemmas.linked-port net.relation.grid r (i / net.relation.vcs) (a, b) back_link in
                let g = find-some (λ (y : Located). is_on (Link a b c) y.place) S.at f h (ap (is_on (Link a b c)) e ∙ same_channel-refl (Link a b c)) in
                let on : is_some (flit_on net S (Link a b c)) ≡ true = ap (λ (y : Option Located). is_some (option_map (λ (q : Located). flit_at (packet_at net q.packet) q.packet q.index) y)) g.1 in
                let w = find-some (λ vc. is_some (flit_on net S (Link a b vc))) (below net.relation.vcs) c (below-has c net.relation.vcs low) on in
                let w_on = find-passes (λ vc. is_some (flit_on net S (Link a b vc))) (below net.relation.vcs) w.0 w.1 in
                came-some (i / net.relation.vcs) port
                (ap (λ (o : Option (ℕ × ℕ)). is_some (beat_by net S r (i / net.relation.vcs) o).flit || is_some (beat_by net S r (i / net.relation.vcs) o).credit) back_link
                ∙ or_left _ _ (ap (λ (o : Option ℕ). is_some {T = ℕ × Flit} (option_and_then (λ vc. option_map (λ q. (vc, q)) (flit_on net S (Link a b vc))) o)) w.1 ∙ some-map w.0 (flit_on net S (Link a b w.0)) w_on))
              where
                some-map : (w : ℕ) (o : Option Flit) → is_some o ≡ true → is_some {T = ℕ × Flit} (option_map (λ q. (w, q)) o) ≡ true
                some-map w None z = absurd (false≢true z)
                some-map w (Some f) z = refl

                link-of : IsAt net good r i (Link a b c) → neighbour net.relation.grid r (i / net.relation.vcs) ≡ Some (a, b)
                link-of at_r = by (neighbour net.relation.grid r (i / net.relation.vcs)) refl (nat_eq (i / net.relation.vcs) (local_port net.relation.grid)) refl
                  where
                    by : (o : Option (ℕ × ℕ)) → neighbour net.relation.grid r (i / net.relation.vcs) ≡ o → (y : Bool) → nat_eq (i / net.relation.vcs) (local_port net.relation.grid) ≡ y → neighbour net.relation.grid r (i / net.relation.vcs) ≡ Some (a, b)
                    by o z true y =
                        let q : Some (Inject r (i % net.relation.vcs)) ≡ Some (Link a b c) = sym (ap (λ t. if t then Some (Inject r (i % net.relation.vcs)) else option_map (λ (from : ℕ × ℕ). Link from.0 from.1 (i % net.relation.vcs)) (neighbour net.relation.grid r (i / net.relation.vcs))) y) ∙ at_r.found in
                        absurd (cc q)
                    by None z false y =
                        let q : None ≡ Some (Link a b c) = sym (ap (λ t. if t then Some (Inject r (i % net.relation.vcs)) else option_map (λ (from : ℕ × ℕ). Link from.0 from.1 (i % net.relation.vcs)) (neighbour net.relation.grid r (i / net.relation.vcs))) y ∙ ap (option_map (λ (from : ℕ × ℕ). Link from.0 from.1 (i % net.relation.vcs))) z) ∙ at_r.found in
                        absurd (none-some (Link a b c) q)
                    by (Some from) z false y =
                        let q : Some (Link from.0 from.1 (i % net.relation.vcs)) ≡ Some (Link a b c) = sym (ap (λ t. if t then Some (Inject r (i % net.relation.vcs)) else option_map (λ (p : ℕ × ℕ). Link p.0 p.1 (i % net.relation.vcs)) (neighbour net.relation.grid r (i / net.relation.vcs))) y ∙ ap (option_map (λ (p : ℕ × ℕ). Link p.0 p.1 (i % net.relation.vcs))) z) ∙ at_r.found in
                        let e0 : from.0 ≡ a = cc q in
                        let e1 : from.1 ≡ b = cc q in
                        z ∙ ap (λ j. Some (j, from.1)) e0 ∙ ap (λ j. Some (a, j)) e1

        from-credit : (c : Channel) → Has c S.back → is_some_of (sending_router c) r ≡ true → list_any (λ port. came net good S x r l v0 port) (below (local_port net.relation.grid)) ≡ true
        from-credit (Inject a b) h t = absurd (false≢true t)
        from-credit (Eject a b) h t = absurd (false≢true (x.back_in (Eject a b) (Rattle.noc_theory.proofs.worms.RoutedVerdictLemmas.has-channel (Eject a b) S.back h)).0)
        from-credit (Link a b c) h t =
            let same : a ≡ r = Rattle.std.proofs.lemmas.Bool.eqb-true a r t in
            let bk : has_channel S.back (Link a b c) ≡ true = Rattle.noc_theory.proofs.worms.RoutedVerdictLemmas.has-channel (Link a b c) S.back h in
            let i = input-at net good (Link a b c) (x.back_in (Link a b c) bk).1 in
            let low : c < net.relation.vcs = subst (λ j. j < net.relation.vcs) (sym i.2.vc) (mod-below net good i.1) in
            let link : neighbour net.relation.grid r b ≡ Some (i.0, i.1 / net.relation.vcs) = ap (λ j. neighbour net.relation.grid j b) (sym same) ∙ i.2.arrives in
            let port = Rattle.noc_route.proofs.BuiltLemmas.linked-port net.relation.grid r b (i.0, i.1 / net.relation.vcs) link in
            let w = find-some (λ vc. has_channel S.back (Link r b vc)) (below net.relation.vcs) c (below-has c net.relation.vcs low) (ap (λ j. has_channel S.back (Link j b c)) (sym same) ∙ bk) in
            came-some b port
            (ap (λ (o : Option (ℕ × ℕ)). is_some (beat_by net S r b o).flit || is_some (beat_by net S r b o).credit) link
            ∙ or_right (is_some (beat_by net S r b (Some (i.0, i.1 / net.relation.vcs))).flit) _ (ap is_some w.1))

        back : has_arrival net r S ≡ true → list_any (λ port. came net good S x r l v0 port) (below (local_port net.relation.grid)) ≡ true
        back t = way (or_cases (list_any (λ (f : Located). flies_to net r f.place) S.at) (list_any (λ c. is_some_of (sending_router c) r) S.back) t)
          where
            way : (list_any (λ (f : Located). flies_to net r f.place) S.at ≡ true) ⊎ (list_any (λ c. is_some_of (sending_router c) r) S.back ≡ true) → list_any (λ port. came net good S x r l v0 port) (below (local_port net.relation.grid)) ≡ true
            way (inl y) = let m = list_any-has (λ (f : Located). flies_to net r f.place) S.at y in from-flit m.0 m.1 m.0.place refl m.2
            way (inr y) = let m = list_any-has (λ c. is_some_of (sending_router c) r) S.back y in from-credit m.0 m.1 m.2

    pub takes : IsTaken net S r v0 (view_after_takes net.relation (beats_at (beats_in net S) r) v0)
    takes = record {
      seen = record {
        site = done.site ∙ seen.site;
        n_buffers = done.n_buffers ∙ seen.n_buffers;
        n_inputs = done.n_inputs ∙ seen.n_inputs;
        n_outputs = done.n_outputs ∙ seen.n_outputs;
        buffer = λ i u. done.buffer i u ∙ buffer-all i u;
        input = λ i u. done.input i u ∙ input-all i u;
        output = λ o u. done.output o u ∙ output-all o u;
        arbiters = done.arbiters ∙ seen.arbiters ∙ sym (arbiters-same r);
        queue = done.queue ∙ seen.queue ∙ sym (queue-same net S (mid net S) waits-same (starts_at net r));
        sending = done.sending ∙ seen.sending ∙ sym (sending-same r);
        ends = done.ends ∙ seen.ends ∙ ends-same;
        misfits = done.misfits ∙ seen.misfits;
      };
      noted = done.noted;
      event = done.event ∙ ap (λ b. b || list_any (λ port. came net good S x r l v0 port) (below (local_port net.relation.grid))) had ∙ comes-is;
    }
