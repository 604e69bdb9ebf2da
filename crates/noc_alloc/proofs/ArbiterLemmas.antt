-- The requester that comes first.
use Rattle.std.proofs.Common.{◌≡◌, ◌≢◌, ℕ, zero, suc, ◌+◌, ◌-◌, ◌<◌, ◌≤◌, Bool, true, false, cond, ◌∷◌, Option, Some, None, refl, ap, sym, ◌∙◌, arith, inl, inr, subst}
use Rattle.std.specs.Prelude.{filter, IfSome, nat_le, ◌⊎◌, ◌&&◌}
use Rattle.std.specs.List.{range_with_len}
use Rattle.std.proofs.lemmas.Bool.{cases_eq, le-leb, lt-leb, cases_lt, false≢true, leb-true, and_parts}
use Rattle.std.proofs.Math.Nat.{mod-eq_of_lt, add-mod_right}
use Rattle.noc_topo.specs.Lists.{below, least_by, lesser_by}
use Rattle.noc_packet.specs.Set.{has_bit, has_from, in_both, IsLeast}
use Rattle.noc_alloc.specs.Arbiter.{distance_in_turn, first_in_turn}

module _ (key : ℕ → ℕ) (asks : ℕ → Bool) where
  least_in : ℕ → ℕ → Option ℕ
  least_in a n = least_by key (filter asks (range_with_len a n))

  least_in-asks : (a n : ℕ) → asks a ≡ true → least_in a (suc n) ≡ Some (lesser_by key a (least_in (a + 1) n))
  unfolding least_in least_by
  least_in-asks a n e = rw e

  least_in-skips : (a n : ℕ) → asks a ≡ false → least_in a (suc n) ≡ least_in (a + 1) n
  unfolding least_in least_by
  least_in-skips a n e = rw e

  lesser-above : (k a : ℕ) (r : Option ℕ) → k < key a → IfSome r (λ z. k < key z) → k < key (lesser_by key a r)
  lesser-above k a None here rest = here
  lesser-above k a (Some w) here rest = elim (nat_le (key a) (key w)) as (λ b. k < key (cond b a w)) [ true ↦ here | false ↦ rest ]

  above-at : (k n a : ℕ) (b : Bool) → asks a ≡ b → (asks a ≡ true → k < key a) → IfSome (least_in (a + 1) n) (λ z. k < key z) → IfSome (least_in a (suc n)) (λ z. k < key z)
  above-at k n a true e here rest = rw (least_in-asks a n e) (lesser-above k a (least_in (a + 1) n) (here e) rest)
  above-at k n a false e here rest = rw (least_in-skips a n e) rest

  -- the least key of some numbers is above k where all their keys are
  least_in-above : (k n a : ℕ) → ((y : ℕ) → a ≤ y → y < a + n → asks y ≡ true → k < key y) → IfSome (least_in a n) (λ z. k < key z)
  unfolding least_in least_by
  least_in-above k zero a h = tt
  least_in-above k (suc n) a h =
      above-at k n a (asks a) refl (λ e. h a (omega arith) (omega arith) e)
      (least_in-above k n (a + 1) (λ y l u t. h y (omega arith) (omega arith) t))

  lesser-first : (a : ℕ) (r : Option ℕ) → IfSome r (λ z. key a < key z) → lesser_by key a r ≡ a
  lesser-first a None h = refl
  lesser-first a (Some w) h = let e : nat_le (key a) (key w) ≡ true = le-leb (key a) (key w) (omega arith) in rw e

  lesser-later : (a x : ℕ) → key x < key a → lesser_by key a (Some x) ≡ x
  lesser-later a x h = let e : nat_le (key a) (key x) ≡ false = lt-leb (key a) (key x) h in rw e

  first-is : (n a : ℕ) → asks a ≡ true → ((y : ℕ) → a + 1 ≤ y → y < a + 1 + n → asks y ≡ true → key a < key y) → least_in a (suc n) ≡ Some a
  first-is n a e h = rw (least_in-asks a n e) (ap Some (lesser-first a (least_in (a + 1) n) (least_in-above (key a) n (a + 1) h)))

  later-is : (x n a : ℕ) (b : Bool) → asks a ≡ b → (asks a ≡ true → key x < key a) → least_in (a + 1) n ≡ Some x → least_in a (suc n) ≡ Some x
  later-is x n a true e here rest = rw (least_in-asks a n e) (rw rest (ap Some (lesser-later a x (here e))))
  later-is x n a false e here rest = rw (least_in-skips a n e) rest

  same-is : (x n a : ℕ) → a ≡ x → asks x ≡ true
      → ((y : ℕ) → a ≤ y → y < a + suc n → asks y ≡ true → y ≢ x → key x < key y)
      → least_in a (suc n) ≡ Some x
  same-is x n a same t h =
      first-is n a (ap asks same ∙ t) (λ y l u ty.
      let below_y : key x < key y = h y (omega arith) (omega arith) ty (λ e. omega arith) in
      let k : key a ≡ key x = ap key same in omega arith)
      ∙ ap Some same

  -- x is the least of the numbers from a on that ask
  least_in-is : (x n a : ℕ) → a ≤ x → x < a + n → asks x ≡ true
      → ((y : ℕ) → a ≤ y → y < a + n → asks y ≡ true → y ≢ x → key x < key y)
      → least_in a n ≡ Some x
  least_in-is x zero a l u t h = absurd (omega arith)
  least_in-is x (suc n) a l u t h = split (cases_eq a x) (λ other. least_in-is x n (a + 1) (omega arith) (omega arith) t (λ y ly uy. h y (omega arith) (omega arith)))
    where
      split : (a ≡ x) ⊎ (a ≡ x → ⊥) → (a ≢ x → least_in (a + 1) n ≡ Some x) → least_in a (suc n) ≡ Some x
      split (inl same) rest = same-is x n a same t h
      split (inr other) rest = later-is x n a (asks a) refl (λ e. h a (omega arith) (omega arith) e other) (rest other)

  least_in-none : (n a : ℕ) → ((y : ℕ) → a ≤ y → y < a + n → asks y ≡ false) → least_in a n ≡ None
  unfolding least_in least_by
  least_in-none zero a h = refl
  least_in-none (suc n) a h = rw (h a (omega arith) (omega arith)) (least_in-none n (a + 1) (λ y l u. h y (omega arith) (omega arith)))

  lesser-one : (a : ℕ) (r : Option ℕ) → (lesser_by key a r ≡ a) ⊎ ((w : ℕ) × (r ≡ Some w) × (lesser_by key a r ≡ w))
  lesser-one a None = inl refl
  lesser-one a (Some w) = at (nat_le (key a) (key w)) refl
    where
      at : (b : Bool) → nat_le (key a) (key w) ≡ b → (lesser_by key a (Some w) ≡ a) ⊎ ((x : ℕ) × (Some w ≡ Some x) × (lesser_by key a (Some w) ≡ x))
      at true h = inl (rw h)
      at false h = inr (w, refl, rw h)

  -- the one that is picked asks, and is in range
  least_in-picks : (n a y : ℕ) → least_in a n ≡ Some y → (asks y ≡ true) × (a ≤ y) × (y < a + n)
  unfolding least_in least_by
  least_in-picks zero a y e = absurd (cc e)
  least_in-picks (suc n) a y e = at (asks a) refl (λ z h. least_in-picks n (a + 1) z h)
    where
      at : (b : Bool) → asks a ≡ b → ((z : ℕ) → least_in (a + 1) n ≡ Some z → (asks z ≡ true) × (a + 1 ≤ z) × (z < a + 1 + n))
          → (asks y ≡ true) × (a ≤ y) × (y < a + suc n)
      at false h rest = let r = rest y (sym (least_in-skips a n h) ∙ e) in (r.0, omega arith, omega arith)
      at true h rest = one (lesser-one a (least_in (a + 1) n))
        where
          is : lesser_by key a (least_in (a + 1) n) ≡ y
          is = let s : Some (lesser_by key a (least_in (a + 1) n)) ≡ Some y = sym (least_in-asks a n h) ∙ e in cc

          one : (lesser_by key a (least_in (a + 1) n) ≡ a) ⊎ ((w : ℕ) × (least_in (a + 1) n ≡ Some w) × (lesser_by key a (least_in (a + 1) n) ≡ w)) → (asks y ≡ true) × (a ≤ y) × (y < a + suc n)
          one (inl s) = let ya : a ≡ y = sym s ∙ is in (ap asks (sym ya) ∙ h, omega arith, omega arith)
          one (inr s) = let r = rest y (s.1 ∙ ap Some (sym s.2 ∙ is)) in (r.0, omega arith, omega arith)

-- the distance in turn, at and past the pointer, and before it
distance-at : (n p x : ℕ) → p ≤ x → x < n → distance_in_turn n p x ≡ x - p
distance-at n p x l u =
    let e : x + (n - p) ≡ (x - p) + n = omega arith in
    rw e (add-mod_right (x - p) n ∙ mod-eq_of_lt (omega arith))

distance-before : (n p x : ℕ) → x < p → x < n → distance_in_turn n p x ≡ x + (n - p)
distance-before n p x l u = mod-eq_of_lt (omega arith)

unfolds : (n p : ℕ) (asks : ℕ → Bool) → first_in_turn n p asks ≡ least_in (distance_in_turn n p) asks 0 n
unfolding least_in first_in_turn below
unfolds n p asks = refl

-- the first that asks from the pointer on
pub first_in_turn-at : (n p x : ℕ) (asks : ℕ → Bool) → p ≤ x → x < n → asks x ≡ true
    → ((y : ℕ) → p ≤ y → y < x → asks y ≡ false)
    → first_in_turn n p asks ≡ Some x
first_in_turn-at n p x asks l u t free =
    unfolds n p asks
    ∙ least_in-is (distance_in_turn n p) asks x n 0 (omega arith) (omega arith) t
    (λ y _ below_n ty other.
    rw (distance-at n p x l u) (farther y below_n ty other (cases_lt y p) (cases_lt y x)))
  where
    farther : (y : ℕ) → y < 0 + n → asks y ≡ true → y ≢ x → (y < p) ⊎ (p ≤ y) → (y < x) ⊎ (x ≤ y) → x - p < distance_in_turn n p y
    farther y below_n ty other (inl before) _ = rw (distance-before n p y before (omega arith)) (omega arith)
    farther y below_n ty other (inr after) (inl lower) = absurd (false≢true (sym (free y after lower) ∙ ty))
    farther y below_n ty other (inr after) (inr higher) = rw (distance-at n p y after (omega arith)) (omega arith)

-- none asks from the pointer on, and this is the first before it
pub first_in_turn-before : (n p x : ℕ) (asks : ℕ → Bool) → x < p → p ≤ n → asks x ≡ true
    → ((y : ℕ) → p ≤ y → y < n → asks y ≡ false)
    → ((y : ℕ) → y < x → asks y ≡ false)
    → first_in_turn n p asks ≡ Some x
first_in_turn-before n p x asks l u t free lower =
    unfolds n p asks
    ∙ least_in-is (distance_in_turn n p) asks x n 0 (omega arith) (omega arith) t
    (λ y _ below_n ty other.
    rw (distance-before n p x l (omega arith)) (farther y below_n ty other (cases_lt y p) (cases_lt y x)))
  where
    farther : (y : ℕ) → y < 0 + n → asks y ≡ true → y ≢ x → (y < p) ⊎ (p ≤ y) → (y < x) ⊎ (x ≤ y) → x + (n - p) < distance_in_turn n p y
    farther y below_n ty other (inl before) (inl less) = absurd (false≢true (sym (lower y less) ∙ ty))
    farther y below_n ty other (inl before) (inr more) = rw (distance-before n p y before (omega arith)) (omega arith)
    farther y below_n ty other (inr after) _ = absurd (false≢true (sym (free y after (omega arith)) ∙ ty))

pub first_in_turn-none : (n p : ℕ) (asks : ℕ → Bool) → ((y : ℕ) → y < n → asks y ≡ false) → first_in_turn n p asks ≡ None
first_in_turn-none n p asks free = unfolds n p asks ∙ least_in-none (distance_in_turn n p) asks n 0 (λ y _ u. free y (omega arith))

pub first_in_turn-picks : (n p y : ℕ) (asks : ℕ → Bool) → first_in_turn n p asks ≡ Some y → (asks y ≡ true) × (y < n)
first_in_turn-picks n p y asks e = let r = least_in-picks (distance_in_turn n p) asks n 0 y (sym (unfolds n p asks) ∙ e) in (r.0, omega arith)

-- ---- the one that comes first so far, of the requesters below k
abbrev pub IsNearest : ℕ → ℕ → (ℕ → Bool) → ℕ → Option ℕ → Type 0
IsNearest n p asks k None = (y : ℕ) → y < k → asks y ≡ false
IsNearest n p asks k (Some x) = (asks x ≡ true) × (x < k) × ((y : ℕ) → y < k → asks y ≡ true → y ≢ x → distance_in_turn n p x < distance_in_turn n p y)

-- of all requesters
pub nearest-is : (n p : ℕ) (asks : ℕ → Bool) (r : Option ℕ) → IsNearest n p asks n r → r ≡ first_in_turn n p asks
nearest-is n p asks None h = sym (first_in_turn-none n p asks h)
nearest-is n p asks (Some x) h =
    sym (unfolds n p asks
    ∙ least_in-is (distance_in_turn n p) asks x n 0 (omega arith) (omega (arith, h.1)) h.0
    (λ y _ u ty other. h.2 y (omega arith) ty other))

-- one that does not ask changes nothing
pub nearest-skips : (n p k : ℕ) (asks : ℕ → Bool) (r : Option ℕ) → asks k ≡ false → IsNearest n p asks k r → IsNearest n p asks (k + 1) r
nearest-skips n p k asks None e h = λ y l. at y l (cases_eq y k)
  where
    at : (y : ℕ) → y < k + 1 → (y ≡ k) ⊎ (y ≡ k → ⊥) → asks y ≡ false
    at y l (inl same) = ap asks same ∙ e
    at y l (inr other) = h y (omega arith)
nearest-skips n p k asks (Some x) e h = (h.0, omega (arith, h.1), (λ y l ty other. at y l ty other (cases_eq y k)))
  where
    at : (y : ℕ) → y < k + 1 → asks y ≡ true → y ≢ x → (y ≡ k) ⊎ (y ≡ k → ⊥) → distance_in_turn n p x < distance_in_turn n p y
    at y l ty other (inl same) = absurd (false≢true (sym e ∙ sym (ap asks same) ∙ ty))
    at y l ty other (inr less) = h.2 y (omega arith) ty other

-- the first that asks
pub nearest-one : (n p k : ℕ) (asks : ℕ → Bool) → asks k ≡ true → IsNearest n p asks k None → IsNearest n p asks (k + 1) (Some k)
nearest-one n p k asks e h = (e, omega arith, (λ y u ty other. absurd (false≢true (sym (h y (omega arith)) ∙ ty))))

-- the one held so far comes first
pub nearest-held : (n p k x : ℕ) (asks : ℕ → Bool) → k < n → (p ≤ x) ⊎ (k < p) → IsNearest n p asks k (Some x) → IsNearest n p asks (k + 1) (Some x)
nearest-held n p k x asks u side h = (h.0, omega (arith, h.1), (λ y l ty other. at y l ty other (cases_eq y k)))
  where
    nearer-than : (p ≤ x) ⊎ (k < p) → distance_in_turn n p x < distance_in_turn n p k
    nearer-than (inl after) =
        let lx : x < k = h.1 in
        rw (distance-at n p x after (omega arith), distance-at n p k (omega arith) u) (omega arith)
    nearer-than (inr before) =
        let lx : x < k = h.1 in
        rw (distance-before n p x (omega arith) (omega arith), distance-before n p k before u) (omega arith)

    at : (y : ℕ) → y < k + 1 → asks y ≡ true → y ≢ x → (y ≡ k) ⊎ (y ≡ k → ⊥) → distance_in_turn n p x < distance_in_turn n p y
    at y l ty other (inl same) = subst (λ z. distance_in_turn n p x < distance_in_turn n p z) (sym same) (nearer-than side)
    at y l ty other (inr less) = h.2 y (omega arith) ty other

-- the later one comes first
pub nearest-next : (n p k x : ℕ) (asks : ℕ → Bool) → k < n → x < p → p ≤ k → asks k ≡ true → IsNearest n p asks k (Some x) → IsNearest n p asks (k + 1) (Some k)
nearest-next n p k x asks u before after e h = (e, omega arith, (λ y l ty other. at y l ty other (cases_eq y x)))
  where
    nearer-than : distance_in_turn n p k < distance_in_turn n p x
    nearer-than =
        let lx : x < k = h.1 in
        rw (distance-at n p k after u, distance-before n p x before (omega arith)) (omega arith)

    at : (y : ℕ) → y < k + 1 → asks y ≡ true → y ≢ k → (y ≡ x) ⊎ (y ≡ x → ⊥) → distance_in_turn n p k < distance_in_turn n p y
    at y l ty other (inl same) = subst (λ z. distance_in_turn n p k < distance_in_turn n p z) (sym same) nearer-than
    at y l ty other (inr less) = let far : distance_in_turn n p x < distance_in_turn n p y = h.2 y (omega arith) ty less in omega (arith, nearer-than)

-- ---- a set of requesters
pub ahead_is : (n p x bits : ℕ) → has_from p bits x ≡ true → ((k : ℕ) → k < x → has_from p bits k ≡ false) → x < n
    → first_in_turn n p (has_bit bits) ≡ Some x
ahead_is n p x bits e free u =
    let parts = and_parts (nat_le p x) (has_bit bits x) e in
    first_in_turn-at n p x (has_bit bits) (leb-true p x parts.0) u parts.1
    (λ y l below_x. sym (ap (λ b. b && has_bit bits y) (le-leb p y l)) ∙ free y below_x)

pub behind_is : (n p x bits : ℕ) → p ≤ n → ((k : ℕ) → has_from p bits k ≡ false) → has_from 0 bits x ≡ true → ((k : ℕ) → k < x → has_from 0 bits k ≡ false)
    → first_in_turn n p (has_bit bits) ≡ Some x
behind_is n p x bits lp none e free =
    let parts = and_parts (nat_le 0 x) (has_bit bits x) e in
    let off : (y : ℕ) → p ≤ y → has_bit bits y ≡ false = λ y l. sym (ap (λ b. b && has_bit bits y) (le-leb p y l)) ∙ none y in
    first_in_turn-before n p x (has_bit bits) (low (cases_lt x p) parts.1 off) lp parts.1
    (λ y l _. off y l)
    (λ y l. sym (ap (λ b. b && has_bit bits y) (le-leb 0 y (omega arith))) ∙ free y l)
  where
    low : (x < p) ⊎ (p ≤ x) → has_bit bits x ≡ true → ((y : ℕ) → p ≤ y → has_bit bits y ≡ false) → x < p
    low (inl l) _ _ = l
    low (inr u) t off = absurd (false≢true (sym (off x u) ∙ t))

pub nobody_is : (n p bits : ℕ) → ((k : ℕ) → has_from 0 bits k ≡ false) → first_in_turn n p (has_bit bits) ≡ None
nobody_is n p bits none = first_in_turn-none n p (has_bit bits) (λ y l. sym (ap (λ b. b && has_bit bits y) (le-leb 0 y (omega arith))) ∙ none y)

-- two tests that agree below the size
pub first_in_turn-same : (n p : ℕ) (asks other : ℕ → Bool) → ((k : ℕ) → k < n → asks k ≡ other k) → first_in_turn n p asks ≡ first_in_turn n p other
unfolding first_in_turn below
first_in_turn-same n p asks other same = ap (least_by (distance_in_turn n p)) (filters n 0 (λ k _ u. same k (omega arith)))
  where
    filters : (m a : ℕ) → ((k : ℕ) → a ≤ k → k < a + m → asks k ≡ other k) → filter asks (range_with_len a m) ≡ filter other (range_with_len a m)
    filters zero a h = refl
    filters (suc m) a h =
        ap (λ b. cond b (a ∷ filter asks (range_with_len (a + 1) m)) (filter asks (range_with_len (a + 1) m))) (h a (omega arith) (omega arith))
        ∙ ap (λ xs. cond (other a) (a ∷ xs) xs) (filters m (a + 1) (λ k l u. h k (omega arith) (omega arith)))

-- ---- the least of the requesters from the pointer on, or of all
both_is : (b : Bool) → (b && b) ≡ b
both_is true = refl
both_is false = refl

least-same : (has other : ℕ → Bool) (r : Option ℕ) → ((k : ℕ) → has k ≡ other k) → IsLeast has r → IsLeast other r
least-same has other None same least = λ k. sym (same k) ∙ least k
least-same has other (Some x) same least = (sym (same x) ∙ least.0, λ k l. sym (same k) ∙ least.1 k l)

-- some are ahead
pub picked-ahead : (n p bits ahead : ℕ) (r : Option ℕ) → ((k : ℕ) → has_bit ahead k ≡ has_from p bits k) → (((k : ℕ) → has_bit ahead k ≡ false) → ⊥) → IsLeast (in_both ahead ahead) r
    → ((k : ℕ) → has_bit bits k ≡ true → k < n) → r ≡ first_in_turn n p (has_bit bits)
picked-ahead n p bits ahead r are some least members = at r (least-same (in_both ahead ahead) (has_from p bits) r (λ k. both_is (has_bit ahead k) ∙ are k) least)
  where
    at : (r : Option ℕ) → IsLeast (has_from p bits) r → r ≡ first_in_turn n p (has_bit bits)
    at None none = absurd (some (λ k. are k ∙ none k))
    at (Some x) first = sym (ahead_is n p x bits first.0 first.1 (members x (and_parts (nat_le p x) (has_bit bits x) first.0).1))

-- none is
pub picked-behind : (n p bits ahead : ℕ) (r : Option ℕ) → p ≤ n → ((k : ℕ) → has_bit ahead k ≡ has_from p bits k) → ((k : ℕ) → has_bit ahead k ≡ false) → IsLeast (in_both bits bits) r → r ≡ first_in_turn n p (has_bit bits)
picked-behind n p bits ahead r lp are none least =
    at r (least-same (in_both bits bits) (has_from 0 bits) r (λ k. both_is (has_bit bits k) ∙ sym (ap (λ b. b && has_bit bits k) (le-leb 0 k (omega arith)))) least)
  where
    at : (r : Option ℕ) → IsLeast (has_from 0 bits) r → r ≡ first_in_turn n p (has_bit bits)
    at None nobody = sym (nobody_is n p bits nobody)
    at (Some x) first = sym (behind_is n p x bits lp (λ k. sym (are k) ∙ none k) first.0 first.1)
