-- A cycle has an event exactly where one of its routers has one, so the last event of a network is
-- the latest of its routers'.
use Rattle.std.proofs.Common.{◌≡◌, ℕ, zero, suc, ◌+◌, ◌<◌, ◌≤◌, Bool, true, false, cond, List, [], ◌∷◌, length, Option, Some, None, is_some, refl, ap, sym, ◌∙◌, subst, inl, inr, arith}
use Rattle.std.specs.Prelude.{◌⊎◌, ◌||◌, count_by, nat_lt, unwrap_or, option_map}
use Rattle.noc_theory.proofs.Common.{list_any, false≢true, cases_lt, eq-eqb, lt-ltb, ltb-true, or_cases, or_left, or_right, same_Some, sum_by-cons, Has, below, is_some_of, nodes, Channel, Link, Inject, Eject, sending_router, is_link, same_channel, some-value, is_event, Empty, IsGoodSetup, flies_to, Setup, State, Located, Place, Source, On, In, Out, Injection, after_landing, after_credits, all_inputs, arriving, end_of, frozen_at, injection_at, injections, size, state_at, verdict_in, verdict_in_cycle, events, is_flying, last_event_before}
use Rattle.noc_theory.specs.Lockstep.{has_event_at, last_event_at}
use Rattle.noc_theory.proofs.worms.BufferLemmas.{same_channel-refl}
use Rattle.noc_theory.proofs.worms.BuiltLemmas.{well-formed}
use Rattle.noc_theory.proofs.worms.WormOrderLemmas.{whole-at}
use Rattle.noc_theory.proofs.worms.GrantLemmas.{Has-below}
use Rattle.noc_theory.proofs.worms.MemberLemmas.{Has-filter_map, Has-filter_mapped, list_any-has, list_any-from}
use Rattle.noc_theory.proofs.worms.PlaceLemmas.{place-of-flit}
use Rattle.noc_theory.proofs.worms.StateWordLemmas.{IsEject, IsPlaced}
use Rattle.noc_theory.proofs.worms.OpeningLemmas.{below-has}
use Rattle.noc_theory.proofs.join.OrderedLemmas.{IsGood}
use Rattle.noc_theory.proofs.join.OrderedStateLemmas.{ordered-state}
use Rattle.noc_theory.proofs.join.PlaceViewLemmas.{arriving-at, arrives-in, input-at}
use Rattle.noc_theory.proofs.join.LockstepTheoremLemmas.{good-network}

pub some-counted : {X : Type 0} (t : X → Bool) (xs : List X) → 0 < count_by t xs → (x : X) × Has x xs × (t x ≡ true)
some-counted t [] l = absurd (omega arith)
some-counted {X = X} t (x ∷ xs) l = at (t x) refl (sum_by-cons (λ y. cond (t y) 1 0) x xs) (some-counted t xs)
  where
    at : (b : Bool) → t x ≡ b → count_by t (x ∷ xs) ≡ cond b 1 0 + count_by t xs → (0 < count_by t xs → (y : X) × Has y xs × (t y ≡ true)) → (y : X) × Has y (x ∷ xs) × (t y ≡ true)
    at true e k rest = (x, inl refl, e)
    at false e k rest = let r = rest (omega arith) in (r.0, inr r.1, r.2)

abbrev weight : Bool → ℕ
weight b = cond b 1 0

counted-some : {X : Type 0} (t : X → Bool) (xs : List X) (x : X) → Has x xs → t x ≡ true → 0 < count_by t xs
counted-some t [] x k h = elim k [ ]
counted-some t (y ∷ ys) x k h = by k (λ r. counted-some t ys x r h)
  where
    all : count_by t (y ∷ ys) ≡ cond (t y) 1 0 + count_by t ys
    all = sum_by-cons (λ y. cond (t y) 1 0) y ys

    ones : x ≡ y → 0 < weight (t y)
    ones e = let same : weight (t y) ≡ weight true = ap (λ z. weight (t z)) (sym e) ∙ ap weight h in omega (arith, same)

    by : Has x (y ∷ ys) → (Has x ys → 0 < count_by t ys) → 0 < count_by t (y ∷ ys)
    by (inl e) rest = (let w = ones e in omega (arith, all, w))
    by (inr r) rest = omega (arith, all, rest r)

listed-some : {X : Type 0} (xs : List X) (x : X) → Has x xs → 0 < length xs
listed-some [] x h = elim h [ ]
listed-some (y ∷ ys) x h = omega arith

pub some-listed : {X : Type 0} (xs : List X) → 0 < length xs → (x : X) × Has x xs
some-listed [] l = absurd (omega arith)
some-listed (x ∷ xs) l = (x, inl refl)

pub flying : (place : Place) → is_flying place ≡ true → (c : Channel) × (place ≡ On c)
flying Source e = absurd (false≢true e)
flying (On c) e = (c, refl)
flying (In c) e = absurd (false≢true e)
flying (Out m) e = absurd (false≢true e)

is-some : {X : Type 0} (o : Option X) (x : X) → o ≡ Some x → is_some o ≡ true
is-some o x e = ap is_some e

module _ (net : Setup) (made : IsGoodSetup net) (n : ℕ) where
  abbrev S : State
  S = state_at net n

  good : IsGood net
  good = good-network net (well-formed net made)

  abbrev landed : State
  landed = after_credits net (after_landing net S)

  abbrev acts : Channel → Bool
  acts c = is_event (verdict_in net (frozen_at net n) c)

  -- ---- an event of the network is one of a router

  abbrev Somewhere : Type 0
  Somewhere = (r : ℕ) × (r < nodes net.relation.grid) × (has_event_at net n r ≡ true)

  -- a flit that flies comes to a router
  lands : (f : Located) (c : Channel) → Has f S.at → f.place ≡ On c → Somewhere
  lands f c h e =
      let whole = whole-at net (well-formed net made) n in
      let keyed = whole.sound.keyed in
      let own = owned c (subst (λ (x : Place). IsPlaced net S.own f.packet x) (place-of-flit net S keyed f h ∙ e) (whole.sound.worm.placed f.packet f.index (keyed.valid f h))) in
      let at = input-at net good c (whole.covered c f.packet own) in
      let ends : end_of net.relation c ≡ Some at.0 = ap (option_map (λ (place : ℕ × ℕ). place.0)) at.2.arrives in
      let flies : flies_to net at.0 f.place ≡ true = ap (flies_to net at.0) e ∙ ap (λ (o : Option ℕ). is_some_of o at.0) ends ∙ eq-eqb at.0 at.0 refl in
      (at.0, at.2.router, or_left _ _ (or_left _ _ (or_left _ _ (list_any-from (λ (f : Located). flies_to net at.0 f.place) S.at f h flies))))
    where
      owned : (c : Channel) → IsPlaced net S.own f.packet (On c) → Has (c, f.packet) S.own × (IsEject c → ⊥)
      owned (Link r a v) k = (k, λ z. z)
      owned (Inject m v) k = absurd k
      owned (Eject m v) k = absurd k

  -- a credit that is on its way comes to the router where its channel begins
  credit : (c : Channel) → Has c S.back → Somewhere
  credit c h = by c h ((ordered-state net good n).back_in c (list_any-from (same_channel c) S.back c h (same_channel-refl c)))
    where
      by : (c : Channel) → Has c S.back → (is_link c ≡ true) × Has c (all_inputs net) → Somewhere
      by (Link r a v) h k =
          let low = link-router r a v k.1 in
          let goes : is_some_of (sending_router (Link r a v)) r ≡ true = eq-eqb r r refl in
          (r, low, or_left _ _ (or_left _ _ (or_right (list_any (λ (f : Located). flies_to net r f.place) S.at) _ (list_any-from (λ c. is_some_of (sending_router c) r) S.back (Link r a v) h goes))))
        where
          link-router : (r a v : ℕ) → Has (Link r a v) (all_inputs net) → r < nodes net.relation.grid
          link-router r a v h = let at = input-at net good (Link r a v) h in ltb-true _ _ at.2.sent
      by (Inject m v) h k = absurd (false≢true k.0)
      by (Eject m v) h k = absurd (false≢true k.0)

  injects : (one : Injection net) → Has one (injections net landed n) → Somewhere
  injects one h =
      let r = Has-filter_map (injection_at net landed n) one (below (nodes net.relation.grid)) h in
      (r.0, Has-below r.0 (nodes net.relation.grid) r.1, or_left _ _ (or_right _ _ (is-some (injection_at net landed n r.0) one r.2)))

  acted : (c : Channel) → Has c (all_inputs net) → acts c ≡ true → Somewhere
  acted c h e =
      let at = input-at net good c h in
      let is : verdict_in_cycle net n at.0 at.1 ≡ verdict_in net (frozen_at net n) c = ap (λ (o : Option Channel). unwrap_or (option_map (verdict_in net (frozen_at net n)) o) Empty) at.2.found in
      (at.0, at.2.router, or_right _ _ (list_any-from (λ i. is_event (verdict_in_cycle net n at.0 i)) (below (size net)) at.1 (below-has at.1 (size net) at.2.index) (ap is_event is ∙ e)))

  pub event-somewhere : 0 < events net n (state_at net n) → Somewhere
  event-somewhere some = first (cases_lt 0 (count_by (λ (f : Located). is_flying f.place) S.at))
    where
      third : (0 < length (injections net landed n)) ⊎ (length (injections net landed n) ≤ 0) → count_by (λ (f : Located). is_flying f.place) S.at ≤ 0 → length S.back ≤ 0 → Somewhere
      third (inl l) a b = let r = some-listed (injections net landed n) l in injects r.0 r.1
      third (inr l) a b = let r = some-counted acts (all_inputs net) (omega arith) in acted r.0 r.1 r.2

      second : (0 < length S.back) ⊎ (length S.back ≤ 0) → count_by (λ (f : Located). is_flying f.place) S.at ≤ 0 → Somewhere
      second (inl l) a = let r = some-listed S.back l in credit r.0 r.1
      second (inr l) a = third (cases_lt 0 (length (injections net landed n))) a l

      first : (0 < count_by (λ (f : Located). is_flying f.place) S.at) ⊎ (count_by (λ (f : Located). is_flying f.place) S.at ≤ 0) → Somewhere
      first (inl l) =
          let r = some-counted (λ (f : Located). is_flying f.place) S.at l in
          let on = flying r.0.place r.2 in
          lands r.0 on.0 r.1 on.1
      first (inr l) = second (cases_lt 0 (length S.back)) l

  -- ---- an event of a router is one of the network

  flies : (r : ℕ) (place : Place) → flies_to net r place ≡ true → is_flying place ≡ true
  flies r Source e = absurd (false≢true e)
  flies r (On c) e = refl
  flies r (In c) e = absurd (false≢true e)
  flies r (Out m) e = absurd (false≢true e)

  arrives : (o : Option Channel) → is_event (unwrap_or (option_map (verdict_in net (frozen_at net n)) o) Empty) ≡ true → (c : Channel) × (o ≡ Some c) × (acts c ≡ true)
  arrives None e = absurd (false≢true e)
  arrives (Some c) e = (c, refl, e)

  pub event-here : (r : ℕ) → r < nodes net.relation.grid → has_event_at net n r ≡ true → 0 < events net n (state_at net n)
  event-here r low e = way (or_cases _ _ e)
    where
      came : (list_any (λ (f : Located). flies_to net r f.place) S.at ≡ true) ⊎ (list_any (λ c. is_some_of (sending_router c) r) S.back ≡ true) → 0 < events net n (state_at net n)
      came (inl y) =
          let f = list_any-has (λ (f : Located). flies_to net r f.place) S.at y in
          let k = counted-some (λ (f : Located). is_flying f.place) S.at f.0 f.1 (flies r f.0.place f.2) in
          omega arith
      came (inr y) = let c = list_any-has (λ c. is_some_of (sending_router c) r) S.back y in let k = listed-some S.back c.0 c.1 in omega arith

      before : ((list_any (λ (f : Located). flies_to net r f.place) S.at || list_any (λ c. is_some_of (sending_router c) r) S.back) ≡ true) ⊎ (is_some (injection_at net landed n r) ≡ true) → 0 < events net n (state_at net n)
      before (inl y) = came (or_cases _ _ y)
      before (inr y) =
          let one = some-value (injection_at net landed n r) y in
          let k = listed-some (injections net landed n) one.0 (Has-filter_mapped (injection_at net landed n) r one.0 (below (nodes net.relation.grid)) (below-has r (nodes net.relation.grid) low) one.1) in
          omega arith

      way : ((list_any (λ (f : Located). flies_to net r f.place) S.at || list_any (λ c. is_some_of (sending_router c) r) S.back || is_some (injection_at net landed n r)) ≡ true)
          ⊎ (list_any (λ i. is_event (verdict_in_cycle net n r i)) (below (size net)) ≡ true) → 0 < events net n (state_at net n)
      way (inl y) = before (or_cases _ _ y)
      way (inr y) =
          let i = list_any-has (λ i. is_event (verdict_in_cycle net n r i)) (below (size net)) y in
          let c = arrives (arriving net r i.0) i.2 in
          let at = arriving-at net good r i.0 c.0 low (Has-below i.0 (size net) i.1) c.1 in
          let k = counted-some acts (all_inputs net) c.0 (arrives-in net good at) c.2 in
          omega arith

-- ---- the last of them

module _ (net : Setup) where
  -- the last event of a router comes before the count, and is one of its events
  last-at : (n r m : ℕ) → last_event_at net n r ≡ Some m → (m < n) × (has_event_at net m r ≡ true)
  last-at zero r m e = absurd (cc e)
  last-at (suc n) r m e = by (has_event_at net n r) refl e (last-at n r m)
    where
      by : (b : Bool) → has_event_at net n r ≡ b → cond b (Some n) (last_event_at net n r) ≡ Some m → (last_event_at net n r ≡ Some m → (m < n) × (has_event_at net m r ≡ true)) → (m < suc n) × (has_event_at net m r ≡ true)
      by true k e rest = let same : n ≡ m = same_Some n m e in (omega arith, ap (λ x. has_event_at net x r) (sym same) ∙ k)
      by false k e rest = let h = rest e in (omega (arith, h.0), h.1)

  -- none of its events is later
  at-last : (n r m : ℕ) → m < n → has_event_at net m r ≡ true → (k : ℕ) × (last_event_at net n r ≡ Some k) × (m ≤ k)
  at-last zero r m l e = absurd (omega arith)
  at-last (suc n) r m l e = by (has_event_at net n r) refl (cases_lt m n) (λ below. at-last n r m below e)
    where
      by : (b : Bool) → has_event_at net n r ≡ b → (m < n) ⊎ (n ≤ m) → (m < n → (k : ℕ) × (last_event_at net n r ≡ Some k) × (m ≤ k)) → (k : ℕ) × (cond b (Some n) (last_event_at net n r) ≡ Some k) × (m ≤ k)
      by true h c rest = (n, refl, omega arith)
      by false h (inl below) rest = rest below
      by false h (inr past) rest = let same : m ≡ n = omega arith in absurd (false≢true (sym h ∙ ap (λ x. has_event_at net x r) (sym same) ∙ e))

  -- no event of the network is later
  last-of : (n m : ℕ) → last_event_before net n ≡ Some m → (m < n) × (0 < events net m (state_at net m))
  last-of zero m e = absurd (cc e)
  last-of (suc n) m e = by (nat_lt 0 (events net n (state_at net n))) refl e (last-of n m)
    where
      by : (b : Bool) → nat_lt 0 (events net n (state_at net n)) ≡ b → cond b (Some n) (last_event_before net n) ≡ Some m → (last_event_before net n ≡ Some m → (m < n) × (0 < events net m (state_at net m))) → (m < suc n) × (0 < events net m (state_at net m))
      by true k e rest = let same : n ≡ m = same_Some n m e in (omega arith, subst (λ x. 0 < events net x (state_at net x)) same (ltb-true 0 (events net n (state_at net n)) k))
      by false k e rest = let h = rest e in (omega (arith, h.0), h.1)

  of-last : (n m : ℕ) → m < n → 0 < events net m (state_at net m) → (k : ℕ) × (last_event_before net n ≡ Some k) × (m ≤ k)
  of-last zero m l e = absurd (omega arith)
  of-last (suc n) m l e = by (nat_lt 0 (events net n (state_at net n))) refl (cases_lt m n) (λ below. of-last n m below e)
    where
      by : (b : Bool) → nat_lt 0 (events net n (state_at net n)) ≡ b → (m < n) ⊎ (n ≤ m) → (m < n → (k : ℕ) × (last_event_before net n ≡ Some k) × (m ≤ k)) → (k : ℕ) × (cond b (Some n) (last_event_before net n) ≡ Some k) × (m ≤ k)
      by true h c rest = (n, refl, omega arith)
      by false h (inl below) rest = rest below
      by false h (inr past) rest =
          let same : m ≡ n = omega arith in
          absurd (false≢true (sym h ∙ lt-ltb 0 (events net n (state_at net n)) (subst (λ x. 0 < events net x (state_at net x)) same e)))

-- an option that the last events of the routers bound, and that is one of them, is the
-- last event of the network
pub last-is : (net : Setup) → IsGoodSetup net → (n : ℕ) (last : Option ℕ)
    → ((r m : ℕ) → r < nodes net.relation.grid → last_event_at net n r ≡ Some m → (k : ℕ) × (last ≡ Some k) × (m ≤ k))
    → ((k : ℕ) → last ≡ Some k → (r : ℕ) × (r < nodes net.relation.grid) × (last_event_at net n r ≡ Some k))
    → last ≡ last_event_before net n
last-is net made n last bound one = by last refl (last_event_before net n) refl
  where
    -- an event of the network is one that bounds
    bounded : (m : ℕ) → m < n → 0 < events net m (state_at net m) → (k : ℕ) × (last ≡ Some k) × (m ≤ k)
    bounded m l e =
        let r = event-somewhere net made m e in
        let own = at-last net n r.0 m l r.2 in
        let b = bound r.0 own.0 r.1 own.1 in
        let x = own.2 in
        let y = b.2 in
        (b.0, b.1, omega arith)

    -- what is last is an event of the network
    found : (k : ℕ) → last ≡ Some k → (j : ℕ) × (last_event_before net n ≡ Some j) × (k ≤ j)
    found k e =
        let r = one k e in
        let own = last-at net n r.0 k r.2 in
        of-last net n k own.0 (event-here net made k r.0 r.1 own.1)

    by : (a : Option ℕ) → last ≡ a → (b : Option ℕ) → last_event_before net n ≡ b → last ≡ last_event_before net n
    by None e None f = e ∙ sym f
    by None e (Some m) f =
        let h = last-of net n m f in
        let k = bounded m h.0 h.1 in
        let z : None ≡ Some k.0 = sym e ∙ k.1 in
        absurd (cc z)
    by (Some k) e None f =
        let j = found k e in
        let z : None ≡ Some j.0 = sym f ∙ j.1 in
        absurd (cc z)
    by (Some k) e (Some m) f =
        let j = found k e in
        let jm : m ≡ j.0 = same_Some m j.0 (sym f ∙ j.1) in
        let h = last-of net n m f in
        let i = bounded m h.0 h.1 in
        let ik : k ≡ i.0 = same_Some k i.0 (sym e ∙ i.1) in
        let up = j.2 in
        let down = i.2 in
        let same : k ≡ m = omega arith in
        e ∙ ap Some same ∙ sym f
