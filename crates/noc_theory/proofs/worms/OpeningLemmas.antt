-- The invariant at the start, and so at the start of each cycle and in each frozen state.
use Rattle.std.proofs.Common.{◌≡◌, ℕ, zero, suc, ◌+◌, ◌-◌, ◌<◌, ◌≤◌, true, List, [], ◌∷◌, map, length, get_or, refl, ap, sym, ◌∙◌, inl, inr, subst, arith}
use Rattle.std.specs.Prelude.{◌⊎◌}
use Rattle.noc_theory.proofs.Common.{flat_map, enumerate_from, range_with_len, false≢true, below, Has, Pairs, Channel, Setup, Located, Place, Source, place_of_flit, is_in, is_on, count_on, count_in, opening_state, frozen_state, state_at, weight, Packet, IsValid}
use Rattle.noc_theory.proofs.worms.BuiltRecordLemmas.{IsBuilt}
use Rattle.noc_theory.proofs.worms.MemberLemmas.{Has-append, Has-left, Has-right, Has-map, Has-mapped, Pairs-append, Pairs-map, each-from}
use Rattle.noc_theory.proofs.worms.GrantLemmas.{IsWired, Has-range}
use Rattle.noc_theory.proofs.worms.StateWordLemmas.{IsKeyed, IsSortedPair, IsPlaced}
use Rattle.noc_theory.proofs.worms.PlaceLemmas.{flit-there}
use Rattle.noc_theory.proofs.worms.WormRecordLemmas.{IsWorm, valid-below, valid-first}
use Rattle.noc_theory.proofs.worms.RoomLemmas.{filter-some}
use Rattle.noc_theory.proofs.worms.SoundLemmas.{IsSoundState, IsSoundFrozen, sound-cycle, sound-frozen}

pub range-has : (i a n : ℕ) → i < n → Has (a + i) (range_with_len a n)
range-has i a zero l = absurd (omega arith)
range-has zero a (suc n) l = inl (omega arith)
range-has (suc i) a (suc n) l =
    let same : (a + 1) + i ≡ a + suc i = omega arith in
    inr (subst (λ (x : ℕ). Has x (range_with_len (a + 1) n)) same (range-has i (a + 1) n (omega arith)))

pub range-rises : (a n : ℕ) → Pairs (λ (x y : ℕ). x < y) (range_with_len a n)
range-rises a zero = tt
range-rises a (suc n) = (each-from (λ y. a < y) (range_with_len (a + 1) n) (λ y h. let r = Has-range y (a + 1) n h in omega arith), range-rises (a + 1) n)

pub below-has : (i n : ℕ) → i < n → Has i (below n)
unfolding below
below-has i n l = let z : 0 + i ≡ i = omega arith in subst (λ (x : ℕ). Has x (range_with_len 0 n)) z (range-has i 0 n l)

pub below-rises : (n : ℕ) → Pairs (λ (x y : ℕ). x < y) (below n)
unfolding below
below-rises n = range-rises 0 n

abbrev row_of : ℕ × Packet → List Located
row_of one = map (λ i. record { packet = one.0; index = i; place = Source }) (below one.1.length)

abbrev rows : ℕ → List Packet → List Located
rows k ps = flat_map row_of (enumerate_from k ps)

abbrev no_packet : Packet
no_packet = record { source = 0; destination = 0; class = 0; length = 0; due = 0 }

row-has : (k : ℕ) (q : Packet) (f : Located) → Has f (row_of (k, q)) → (f.packet ≡ k) × (f.index < q.length) × (f.place ≡ Source)
unfolding below
row-has k q f h =
    let m = Has-map (λ i. record { packet = k; index = i; place = Source }) f (below q.length) h in
    let r = Has-range m.0 0 q.length m.1 in
    let i : m.0 ≡ f.index = ap (λ (g : Located). g.index) m.2 in
    (sym (ap (λ (g : Located). g.packet) m.2), omega arith, sym (ap (λ (g : Located). g.place) m.2))

rows-has : (k : ℕ) (ps : List Packet) (f : Located) → Has f (rows k ps)
    → (k ≤ f.packet) × (f.packet < k + length ps) × (f.index < (get_or ps (f.packet - k) no_packet).length) × (f.place ≡ Source)
rows-has k [] f h = elim h [ ]
rows-has k (q ∷ qs) f h = at (Has-append f (row_of (k, q)) (rows (k + 1) qs) h) (rows-has (k + 1) qs f)
  where
    at : Has f (row_of (k, q)) ⊎ Has f (rows (k + 1) qs)
        → (Has f (rows (k + 1) qs) → (k + 1 ≤ f.packet) × (f.packet < (k + 1) + length qs) × (f.index < (get_or qs (f.packet - (k + 1)) no_packet).length) × (f.place ≡ Source))
        → (k ≤ f.packet) × (f.packet < k + length (q ∷ qs)) × (f.index < (get_or (q ∷ qs) (f.packet - k) no_packet).length) × (f.place ≡ Source)
    at (inl m) rest =
        let r = row-has k q f m in
        let e = r.0 in
        let z : f.packet - k ≡ 0 = omega arith in
        (omega arith, omega arith, rw z r.1, r.2)
    at (inr m) rest =
        let r = rest m in
        let a = r.0 in
        let b = r.1 in
        let z : f.packet - k ≡ suc (f.packet - (k + 1)) = omega arith in
        (omega arith, omega arith, rw z r.2, r.3)

rows-sorted : (k : ℕ) (ps : List Packet) → Pairs IsSortedPair (rows k ps)
unfolding below
rows-sorted k [] = tt
rows-sorted k (q ∷ qs) =
    Pairs-append IsSortedPair (row_of (k, q)) (rows (k + 1) qs)
    (Pairs-map IsSortedPair (λ (x y : ℕ). x < y) (λ i. record { packet = k; index = i; place = Source }) (λ a b l e. l) (below q.length) (range-rises 0 q.length))
    (rows-sorted (k + 1) qs)
    (λ f g h m e.
    let a = (row-has k q f h).0 in
    let b = (rows-has (k + 1) qs g m).0 in
    absurd (omega arith))

rows-whole : (k : ℕ) (ps : List Packet) (j i : ℕ) → j < length ps → i < (get_or ps j no_packet).length → Has (record { packet = k + j; index = i; place = Source }) (rows k ps)
unfolding below
rows-whole k [] j i l v = absurd (omega arith)
rows-whole k (q ∷ qs) zero i l v =
    let m = range-has i 0 q.length v in
    let z : 0 + i ≡ i = omega arith in
    let zk : k ≡ k + 0 = omega arith in
    Has-left (record { packet = k + 0; index = i; place = Source }) (row_of (k, q)) (rows (k + 1) qs)
    (subst (λ (x : ℕ). Has (record { packet = x; index = i; place = Source }) (row_of (k, q))) zk
    (Has-mapped (λ x. record { packet = k; index = x; place = Source }) i (below q.length) (subst (λ (x : ℕ). Has x (below q.length)) z m)))
rows-whole k (q ∷ qs) (suc j) i l v =
    let z : (k + 1) + j ≡ k + suc j = omega arith in
    Has-right (record { packet = k + suc j; index = i; place = Source }) (row_of (k, q)) (rows (k + 1) qs)
    (subst (λ (x : ℕ). Has (record { packet = x; index = i; place = Source }) (rows (k + 1) qs)) z (rows-whole (k + 1) qs j i (omega arith) v))

module _ (net : Setup) where
  keyed-opening : IsKeyed net (opening_state net).at
  unfolding opening_state
  keyed-opening = record {
    sorted = rows-sorted 0 net.packets;
    valid = λ f h.
        let r = rows-has 0 net.packets f h in
        let low = r.1 in
        let z : f.packet - 0 ≡ f.packet = omega arith in
        (omega arith, rw z at r.2);
    whole = λ p i v.
        let z : 0 + p ≡ p = omega arith in
        (record { packet = p; index = i; place = Source }, subst (λ (x : ℕ). Has (record { packet = x; index = i; place = Source }) (rows 0 net.packets)) z (rows-whole 0 net.packets p i v.0 v.1), refl, refl);
  }

  pub at-source : (p i : ℕ) → IsValid net p i → place_of_flit net (opening_state net) p i ≡ Source
  unfolding opening_state
  at-source p i v =
      let m = flit-there net (opening_state net) keyed-opening p i v in
      (rows-has 0 net.packets (record { packet = p; index = i; place = place_of_flit net (opening_state net) p i }) m).3

  module _ (built : IsBuilt net) (wired : IsWired net) where
    pub worm-opening : IsWorm net [] (place_of_flit net (opening_state net))
    worm-opening = record {
      once = tt;
      path = λ p. tt;
      known = λ c p h. absurd h;
      near = λ c p h. absurd h;
      placed = λ p i v. subst (λ (x : Place). IsPlaced net [] p x) (sym (at-source p i v)) tt;
      order = λ p i j v l.
          let wi : weight net p (place_of_flit net (opening_state net) p i) ≡ weight net p Source = ap (weight net p) (at-source p i (valid-below net built p i j v l)) in
          let wj : weight net p (place_of_flit net (opening_state net) p j) ≡ weight net p Source = ap (weight net p) (at-source p j v) in
          omega arith;
      entering = λ n v p h. absurd h;
      begun = λ c p h. absurd h;
      holds = λ p l b s. absurd (b (at-source p 0 (valid-first net built p l)));
    }

    pub sound-opening : IsSoundState net (opening_state net)
    unfolding opening_state
    sound-opening = record {
      keyed = keyed-opening;
      worm = worm-opening;
      room = λ c.
          let a = none-on c (filter-some (λ (f : Located). is_on c f.place) (opening_state net).at) in
          let b = none-in c (filter-some (λ (f : Located). is_in c f.place) (opening_state net).at) in
          omega arith;
    }
      where
        none-on : (c : Channel) → (count_on net (opening_state net) c ≡ 0) ⊎ ((f : Located) × Has f (opening_state net).at × (is_on c f.place ≡ true)) → count_on net (opening_state net) c ≡ 0
        none-on c (inl e) = e
        none-on c (inr r) = absurd (false≢true (sym (ap (is_on c) (rows-has 0 net.packets r.0 r.1).3) ∙ r.2))

        none-in : (c : Channel) → (count_in net (opening_state net) c ≡ 0) ⊎ ((f : Located) × Has f (opening_state net).at × (is_in c f.place ≡ true)) → count_in net (opening_state net) c ≡ 0
        none-in c (inl e) = e
        none-in c (inr r) = absurd (false≢true (sym (ap (is_in c) (rows-has 0 net.packets r.0 r.1).3) ∙ r.2))

    -- the invariant holds at the start of each cycle
    pub sound-state : (n : ℕ) → IsSoundState net (state_at net n)
    unfolding state_at
    sound-state zero = sound-opening
    sound-state (suc n) = sound-cycle net built wired n (state_at net n) (sound-state n)

    -- and in each frozen state
    pub sound-frozen_state : (n : ℕ) → IsSoundFrozen net (frozen_state net n (state_at net n))
    sound-frozen_state n = sound-frozen net built wired n (state_at net n) (sound-state n)
