-- The remainder falls by one for each landing, each credit that arrives, and each
-- flit that leaves its source.
use Rattle.std.proofs.Common.{◌≡◌, ℕ, ◌+◌, ◌*◌, ◌<◌, Bool, true, false, cond, List, [], ◌∷◌, map, length, Option, Some, None, refl, ap, sym, ◌∙◌, arith, inl, inr, subst}
use Rattle.std.specs.Prelude.{filter, find, nat_eq, not, ◌&&◌, sum_by, count_by, is_some, option_map, option_and_then, unwrap_or}
use Rattle.noc_theory.proofs.Common.{false≢true, eqb-true, sum_by-cons, In, Located, On, Out, Place, Setup, Source, State, after_credits, after_landing, end_distance, has_channel, is_freed, landed_place, leads_from, next_channel, owned_by, owner_of, packet_at, place_of_flit, head_place, is_flying, remainder, allocations_left, weight, Channel, Eject, Inject, Link, is_link, same_channel, Has, below}
use Rattle.noc_theory.proofs.worms.BufferLemmas.{same_channel-true}
use Rattle.noc_theory.proofs.worms.GrantLemmas.{Has-below}

-- sums over the elements of a list that agree there
pub sum_by-each : {X : Type 0} (f g : X → ℕ) (xs : List X) → ((x : X) → Has x xs → f x ≡ g x) → sum_by f xs ≡ sum_by g xs
sum_by-each f g [] h = refl
sum_by-each f g (x ∷ xs) h =
    let e1 = sum_by-cons f x xs in
    let e2 = sum_by-cons g x xs in
    let here = h x (inl refl) in
    let rest = sum_by-each f g xs (λ y k. h y (inr k)) in
    omega arith

-- a step by which each element that moves loses one
pub sum_by-loses : {X : Type 0} (w : X → ℕ) (step : X → X) (moves : X → Bool) (xs : List X) → ((x : X) → Has x xs → w (step x) + cond (moves x) 1 0 ≡ w x)
    → sum_by w (map step xs) + count_by moves xs ≡ sum_by w xs
sum_by-loses w step moves [] one = refl
sum_by-loses w step moves (x ∷ xs) one =
    let here = one x (inl refl) in
    let rest = sum_by-loses w step moves xs (λ y k. one y (inr k)) in
    let e1 = sum_by-cons w (step x) (map step xs) in
    let e2 = sum_by-cons (λ y. cond (moves y) 1 0) x xs in
    let e3 = sum_by-cons w x xs in
    omega arith

pub find-map : {X : Type 0} (t : X → Bool) (step : X → X) → ((x : X) → t (step x) ≡ t x) → (xs : List X) → find t (map step xs) ≡ option_map step (find t xs)
find-map t step same [] = refl
find-map t step same (x ∷ xs) = at (t x) refl (find-map t step same xs)
  where
    at : (b : Bool) → t x ≡ b → find t (map step xs) ≡ option_map step (find t xs) → cond (t (step x)) (Some (step x)) (find t (map step xs)) ≡ option_map step (cond (t x) (Some x) (find t xs))
    at true k rest = rw (same x, k)
    at false k rest = rw (same x, k) rest

-- a filter that keeps all that is looked for
pub find-kept : {X : Type 0} (t keep : X → Bool) (xs : List X) → ((x : X) → Has x xs → t x ≡ true → keep x ≡ true) → find t (filter keep xs) ≡ find t xs
find-kept t keep [] h = refl
find-kept t keep (x ∷ xs) h = at (t x) refl (keep x) refl (find-kept t keep xs (λ y k. h y (inr k)))
  where
    at : (b : Bool) → t x ≡ b → (k : Bool) → keep x ≡ k → find t (filter keep xs) ≡ find t xs → find t (cond (keep x) (x ∷ filter keep xs) (filter keep xs)) ≡ cond (t x) (Some x) (find t xs)
    at true e true k rest = rw (k, e)
    at true e false k rest = absurd (false≢true (sym k ∙ h x (inl refl) e))
    at false e true k rest = rw (k, e) rest
    at false e false k rest = rw (k, e) rest

module _ (net : Setup) (S : State) where
  -- what is assumed of landings: what flies is on a link channel, and a head flies
  -- to one that is not routed
  pub record FliesRight : Type 0 where
    pub on_links : (f : Located) (c : Channel) → Has f S.at → f.place ≡ On c → is_link c ≡ true
    pub to_unrouted : (p : ℕ) (c : Channel) → p < length net.packets → head_place net S p ≡ On c → has_channel S.routed c ≡ false

  pub place-landed : (p i : ℕ) → place_of_flit net (after_landing net S) p i ≡ landed_place net (place_of_flit net S p i)
  unfolding after_landing
  place-landed p i =
      ap (λ (o : Option Located). unwrap_or (option_map (λ (f : Located). f.place) o) Source)
      (find-map (λ (f : Located). nat_eq p f.packet && nat_eq i f.index) (λ (f : Located). record f { place = landed_place net f.place }) (λ f. refl) S.at)
      ∙ at (find (λ (f : Located). nat_eq p f.packet && nat_eq i f.index) S.at)
    where
      at : (o : Option Located) → unwrap_or (option_map (λ (f : Located). f.place) (option_map (λ (f : Located). record f { place = landed_place net f.place }) o)) Source
          ≡ landed_place net (unwrap_or (option_map (λ (f : Located). f.place) o) Source)
      at None = refl
      at (Some f) = refl

  weight-landed : (p : ℕ) (place : Place) → ((c : Channel) → place ≡ On c → is_link c ≡ true) → weight net p (landed_place net place) + cond (is_flying place) 1 0 ≡ weight net p place
  weight-landed p Source link = omega arith
  weight-landed p (In c) link = omega arith
  weight-landed p (Out m) link = omega arith
  weight-landed p (On (Link r q v)) link = omega arith
  weight-landed p (On (Inject n v)) link = absurd (false≢true (link (Inject n v) refl))
  weight-landed p (On (Eject n v)) link = absurd (false≢true (link (Eject n v) refl))

  pub allocations-landed : (p : ℕ) (place : Place) → ((c : Channel) → place ≡ On c → has_channel S.routed c ≡ false) → allocations_left net (after_landing net S) p (landed_place net place) ≡ allocations_left net S p place
  unfolding after_landing
  allocations-landed p Source free = refl
  allocations-landed p (In c) free = refl
  allocations-landed p (Out m) free = refl
  allocations-landed p (On c) free =
      ap (λ b. 2 * end_distance net.relation c (packet_at net p).destination + cond b (cond (is_some (next_channel net S c)) 0 1) 2) (free c refl) ∙ (omega arith)

  -- each landing takes one from the remainder
  pub landing-falls : FliesRight → remainder net (after_landing net S) + count_by (λ (f : Located). is_flying f.place) S.at ≡ remainder net S
  unfolding after_landing
  landing-falls right =
      let w : sum_by (λ (f : Located). weight net f.packet f.place) (after_landing net S).at + count_by (λ (f : Located). is_flying f.place) S.at ≡ sum_by (λ (f : Located). weight net f.packet f.place) S.at
      = sum_by-loses (λ (f : Located). weight net f.packet f.place) (λ (f : Located). record f { place = landed_place net f.place }) (λ (f : Located). is_flying f.place) S.at
      (λ f h. weight-landed f.packet f.place (λ c e. right.on_links f c h e)) in
      let t : sum_by (λ p. allocations_left net (after_landing net S) p (head_place net (after_landing net S) p)) (below (length net.packets)) ≡ sum_by (λ p. allocations_left net S p (head_place net S p)) (below (length net.packets))
      = sum_by-each (λ p. allocations_left net (after_landing net S) p (head_place net (after_landing net S) p)) (λ p. allocations_left net S p (head_place net S p)) (below (length net.packets))
      (λ p h. ap (allocations_left net (after_landing net S) p) (place-landed p 0) ∙ allocations-landed p (head_place net S p) (λ c e. right.to_unrouted p c (Has-below p _ h) e)) in
      omega arith

-- the same, of what is found among the images of those that pass a
pub find-kept_through : {X Y : Type 0} (t : Y → Bool) (f : X → Y) (a keep : X → Bool) (xs : List X) → ((x : X) → Has x xs → a x ≡ true → t (f x) ≡ true → keep x ≡ true)
    → find t (map f (filter a (filter keep xs))) ≡ find t (map f (filter a xs))
find-kept_through t f a keep [] h = refl
find-kept_through t f a keep (x ∷ xs) h = at (a x) refl (t (f x)) refl (keep x) refl (find-kept_through t f a keep xs (λ y k. h y (inr k)))
  where
    at : (b : Bool) → a x ≡ b → (d : Bool) → t (f x) ≡ d → (k : Bool) → keep x ≡ k → find t (map f (filter a (filter keep xs))) ≡ find t (map f (filter a xs))
        → find t (map f (filter a (cond (keep x) (x ∷ filter keep xs) (filter keep xs)))) ≡ find t (map f (cond (a x) (x ∷ filter a xs) (filter a xs)))
    at true e true g true k rest = rw (k, e) (rw g)
    at true e true g false k rest = absurd (false≢true (sym k ∙ h x (inl refl) e g))
    at true e false g true k rest = rw (k, e) (rw g rest)
    at true e false g false k rest = rw (k, e) (rw g rest)
    at false e d g true k rest = rw (k, e) rest
    at false e d g false k rest = rw (k, e) rest

module _ (net : Setup) (S : State) where
  -- what is assumed of credits: no channel where a head stands, nor the next of its owner, is freed
  pub record FreesBehind : Type 0 where
    pub here : (p : ℕ) (c : Channel) (q : ℕ) → p < length net.packets → head_place net S p ≡ In c → Has (c, q) S.own → is_freed net S (c, q) ≡ false
    pub beyond : (p : ℕ) (c : Channel) (q : ℕ) (o : Channel) → p < length net.packets → head_place net S p ≡ In c → owner_of net S c ≡ Some q → Has (o, q) S.own → leads_from net c o ≡ true
        → is_freed net S (o, q) ≡ false

  module _ (behind : FreesBehind) (p : ℕ) (l : p < length net.packets) (c : Channel) (at_head : head_place net S p ≡ In c) where
    kept-here : (pair : Channel × ℕ) → Has pair S.own → same_channel c pair.0 ≡ true → not (is_freed net S pair) ≡ true
    kept-here pair h e =
        let same : c ≡ pair.0 = same_channel-true c pair.0 e in
        let free : is_freed net S (c, pair.1) ≡ false = behind.here p c pair.1 l at_head (subst (λ (x : Channel). Has (x, pair.1) S.own) (sym same) h) in
        ap not (subst (λ (x : Channel). is_freed net S (x, pair.1) ≡ false) same free)

    owner-credited : owner_of net (after_credits net S) c ≡ owner_of net S c
    unfolding after_credits
    owner-credited =
        ap (option_map (λ (pair : Channel × ℕ). pair.1))
        (find-kept (λ (pair : Channel × ℕ). same_channel c pair.0) (λ pair. not (is_freed net S pair)) S.own kept-here)

    kept-beyond : (q : ℕ) → owner_of net S c ≡ Some q → (pair : Channel × ℕ) → Has pair S.own → nat_eq q pair.1 ≡ true → leads_from net c pair.0 ≡ true → not (is_freed net S pair) ≡ true
    kept-beyond q own pair h e leads =
        let same : q ≡ pair.1 = eqb-true q pair.1 e in
        ap not (behind.beyond p c pair.1 pair.0 l at_head (own ∙ ap Some same) h leads)

    -- the next channel of a head's channel stays
    pub next-credited : next_channel net (after_credits net S) c ≡ next_channel net S c
    unfolding after_credits
    next-credited =
        ap (option_and_then (λ q. find (leads_from net c) (owned_by net (after_credits net S) q))) owner-credited
        ∙ at (owner_of net S c) refl
      where
        at : (o : Option ℕ) → owner_of net S c ≡ o → option_and_then (λ q. find (leads_from net c) (owned_by net (after_credits net S) q)) o ≡ option_and_then (λ q. find (leads_from net c) (owned_by net S q)) o
        at None e = refl
        at (Some q) e = find-kept_through (leads_from net c) (λ (pair : Channel × ℕ). pair.0) (λ (pair : Channel × ℕ). nat_eq q pair.1) (λ pair. not (is_freed net S pair)) S.own (kept-beyond q e)

  pub allocations-credited : FreesBehind → (p : ℕ) → p < length net.packets → (place : Place) → head_place net S p ≡ place → allocations_left net (after_credits net S) p place ≡ allocations_left net S p place
  unfolding after_credits
  allocations-credited behind p l Source e = refl
  allocations-credited behind p l (On c) e = refl
  allocations-credited behind p l (Out m) e = refl
  allocations-credited behind p l (In c) e =
      ap (λ (next : Option Channel). 2 * end_distance net.relation c (packet_at net p).destination + cond (has_channel S.routed c) (cond (is_some next) 0 1) 2) (next-credited behind p l c e)

  -- each credit takes one from the remainder
  pub credits-fall : FreesBehind → remainder net (after_credits net S) + length S.back ≡ remainder net S
  unfolding after_credits
  credits-fall behind =
      let t : sum_by (λ p. allocations_left net (after_credits net S) p (head_place net S p)) (below (length net.packets)) ≡ sum_by (λ p. allocations_left net S p (head_place net S p)) (below (length net.packets))
      = sum_by-each (λ p. allocations_left net (after_credits net S) p (head_place net S p)) (λ p. allocations_left net S p (head_place net S p)) (below (length net.packets))
      (λ p h. allocations-credited behind p (Has-below p _ h) (head_place net S p) refl) in
      omega arith
