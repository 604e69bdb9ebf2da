-- Ranks along one dimension.
use Rattle.std.proofs.Common.{◌≡◌, ◌≢◌, ℕ, ◌+◌, ◌-◌, ◌*◌, ◌%◌, ◌<◌, ◌≤◌, Bool, true, false, Some, None, refl, sym, ◌∙◌, arith, inl, inr}
use Rattle.std.specs.Prelude.{◌⊎◌, nat_lt, if◌then◌else◌}
use Rattle.std.proofs.lemmas.Bool.{cases_lt, lt-ltb, le-ltb, ltb-true, ltb-false, leb-true, leb-false, le-leb, lt-leb, false≢true}
use Rattle.noc_topo.specs.Shape.{moved_in}
use Rattle.noc_steps.specs.Ways.{goes_up}
use Rattle.noc_route.proofs.NamedLemmas.{round-above}

-- how many routers lie behind coordinate x, seen up or down
abbrev pub behind : ℕ → ℕ → Bool → ℕ
behind k x up = if up then x else k - 1 - x

-- the half of a dateline that the way takes next
abbrev pub half : Bool → ℕ → ℕ → ℕ
half up x t = if up then (if nat_lt t x then 0 else 1) else (if nat_lt x t then 0 else 1)

pub behind-below : (k x : ℕ) (up : Bool) → x < k → behind k x up < k
behind-below k x true l = l
behind-below k x false l = omega arith

pub half-few : (up : Bool) (x t : ℕ) → half up x t ≤ 1
half-few true x t = at (nat_lt t x)
  where
    at : (b : Bool) → (if b then 0 else 1) ≤ 1
    at true = omega arith
    at false = omega arith
half-few false x t = at (nat_lt x t)
  where
    at : (b : Bool) → (if b then 0 else 1) ≤ 1
    at true = omega arith
    at false = omega arith

-- ---- one step

pub moved-up : (wraps : Bool) (k x y : ℕ) → moved_in wraps k true x ≡ Some y → ((x + 1 < k) × (y ≡ x + 1)) ⊎ ((k ≤ x + 1) × (wraps ≡ true) × (y ≡ 0))
moved-up wraps k x y e = at (cases_lt (x + 1) k) wraps refl
  where
    at : (x + 1 < k) ⊎ (k ≤ x + 1) → (b : Bool) → wraps ≡ b → ((x + 1 < k) × (y ≡ x + 1)) ⊎ ((k ≤ x + 1) × (wraps ≡ true) × (y ≡ 0))
    at (inl more) b h =
        let g : Some (x + 1) ≡ Some y = sym (rw (lt-ltb (x + 1) k more)) ∙ e in
        let same : x + 1 ≡ y = cc in
        inl (more, sym same)
    at (inr last) true h =
        let g : Some 0 ≡ Some y = sym (rw (le-ltb (x + 1) k last, h)) ∙ e in
        let same : 0 ≡ y = cc in
        inr (last, h, sym same)
    at (inr last) false h = let g : None ≡ Some y = sym (rw (le-ltb (x + 1) k last, h)) ∙ e in absurd (cc g)

pub moved-down : (wraps : Bool) (k x y : ℕ) → moved_in wraps k false x ≡ Some y → ((0 < x) × (y ≡ x - 1)) ⊎ ((x ≤ 0) × (wraps ≡ true) × (y ≡ k - 1))
moved-down wraps k x y e = at (cases_lt 0 x) wraps refl
  where
    at : (0 < x) ⊎ (x ≤ 0) → (b : Bool) → wraps ≡ b → ((0 < x) × (y ≡ x - 1)) ⊎ ((x ≤ 0) × (wraps ≡ true) × (y ≡ k - 1))
    at (inl more) b h =
        let g : Some (x - 1) ≡ Some y = sym (rw (lt-ltb 0 x more)) ∙ e in
        let same : x - 1 ≡ y = cc in
        inl (more, sym same)
    at (inr last) true h =
        let g : Some (k - 1) ≡ Some y = sym (rw (le-ltb 0 x last, h)) ∙ e in
        let same : k - 1 ≡ y = cc in
        inr (last, h, sym same)
    at (inr last) false h = let g : None ≡ Some y = sym (rw (le-ltb 0 x last, h)) ∙ e in absurd (cc g)

-- on a mesh a step towards the destination keeps its direction, and more lies behind
pub mesh-rises : (k x y t : ℕ) (up : Bool) → x < k → y ≢ t → goes_up false k x t ≡ up → moved_in false k up x ≡ Some y → behind k x up < behind k y up
mesh-rises k x y t true l onward e f = at (moved-up false k x y f)
  where
    at : ((x + 1 < k) × (y ≡ x + 1)) ⊎ ((k ≤ x + 1) × (false ≡ true) × (y ≡ 0)) → x < y
    at (inl s) = omega (arith, s.1)
    at (inr s) = absurd (false≢true s.1)
mesh-rises k x y t false l onward e f = at (moved-down false k x y f)
  where
    at : ((0 < x) × (y ≡ x - 1)) ⊎ ((x ≤ 0) × (false ≡ true) × (y ≡ k - 1)) → k - 1 - x < k - 1 - y
    at (inl s) = omega (arith, s.0, s.1)
    at (inr s) = absurd (false≢true s.1)

pub mesh-onward : (k x y t : ℕ) (up : Bool) → x ≢ t → y ≢ t → goes_up false k x t ≡ up → moved_in false k up x ≡ Some y → goes_up false k y t ≡ up
mesh-onward k x y t true differ onward e f = at (moved-up false k x y f)
  where
    at : ((x + 1 < k) × (y ≡ x + 1)) ⊎ ((k ≤ x + 1) × (false ≡ true) × (y ≡ 0)) → nat_lt y t ≡ true
    at (inl s) = lt-ltb y t (omega (arith, s.1, ltb-true x t e))
    at (inr s) = absurd (false≢true s.1)
mesh-onward k x y t false differ onward e f = at (moved-down false k x y f)
  where
    at : ((0 < x) × (y ≡ x - 1)) ⊎ ((x ≤ 0) × (false ≡ true) × (y ≡ k - 1)) → nat_lt y t ≡ false
    at (inl s) = le-ltb y t (omega (arith, s.0, s.1, ltb-false x t e))
    at (inr s) = absurd (false≢true s.1)

-- what a step by the shorter way round does
record IsRound (k x y t : ℕ) (up : Bool) : Type 0 where
  pub onward : goes_up true k y t ≡ up
  pub rises : half up x t * k + behind k x up < half up y t * k + behind k y up

up-onward : (k y t : ℕ) → y < t → t < k → t - y ≤ y + k - t → goes_up true k y t ≡ true
up-onward k y t l m short = let ways = round-above k y t l m in le-leb _ _ (omega (arith, ways.0, ways.1, short))

up-onward-over : (k y t : ℕ) → t < y → y < k → t + k - y ≤ y - t → goes_up true k y t ≡ true
up-onward-over k y t l m short = let ways = round-above k t y l m in le-leb _ _ (omega (arith, ways.0, ways.1, short))

down-onward : (k y t : ℕ) → t < y → y < k → y - t < t + k - y → goes_up true k y t ≡ false
down-onward k y t l m short = let ways = round-above k t y l m in lt-leb _ _ (omega (arith, ways.0, ways.1, short))

down-onward-under : (k y t : ℕ) → y < t → t < k → y + k - t < t - y → goes_up true k y t ≡ false
down-onward-under k y t l m short = let ways = round-above k y t l m in lt-leb _ _ (omega (arith, ways.0, ways.1, short))

-- the sum of a half and of what lies behind rises
same-half : (k h g a b : ℕ) → h ≡ g → a < b → h * k + a < g * k + b
same-half k h g a b e l = rw e (omega arith)

next-half : (k h g a b : ℕ) → h ≡ 0 → g ≡ 1 → a < k → h * k + a < g * k + b
next-half k h g a b e f l = rw (e, f) (omega arith)

round-up : (k x y t : ℕ) → x < k → t < k → x ≢ t → y ≢ t → goes_up true k x t ≡ true → moved_in true k true x ≡ Some y → IsRound k x y t true
round-up k x y t l m differ onward e f = at (cases_lt x t) (moved-up true k x y f) (leb-true ((t + k - x) % k) ((x + k - t) % k) e)
  where
    at : (x < t) ⊎ (t ≤ x) → ((x + 1 < k) × (y ≡ x + 1)) ⊎ ((k ≤ x + 1) × (true ≡ true) × (y ≡ 0)) → (t + k - x) % k ≤ (x + k - t) % k → IsRound k x y t true
    at (inl above) (inl s) short =
        let ways = round-above k x t above m in
        let before : half true x t ≡ 1 = rw (le-ltb t x (omega arith)) refl in
        let after : half true y t ≡ 1 = rw (le-ltb t y (omega (arith, s.1))) refl in
        record { onward = up-onward k y t (omega (arith, s.1)) m (omega (arith, s.1, ways.0, ways.1, short)); rises = same-half k _ _ x y (before ∙ sym after) (omega (arith, s.1)) }
    at (inl above) (inr s) short = absurd (omega (arith, s.0))
    at (inr below) (inl s) short =
        let ways = round-above k t x (omega arith) l in
        let before : half true x t ≡ 0 = rw (lt-ltb t x (omega arith)) refl in
        let after : half true y t ≡ 0 = rw (lt-ltb t y (omega (arith, s.1))) refl in
        record { onward = up-onward-over k y t (omega (arith, s.1)) (omega (arith, s.0, s.1)) (omega (arith, s.1, ways.0, ways.1, short)); rises = same-half k _ _ x y (before ∙ sym after) (omega (arith, s.1)) }
    at (inr below) (inr s) short =
        let ways = round-above k t x (omega arith) l in
        let before : half true x t ≡ 0 = rw (lt-ltb t x (omega arith)) refl in
        let after : half true y t ≡ 1 = rw (le-ltb t y (omega (arith, s.2))) refl in
        record { onward = up-onward k y t (omega (arith, s.2)) m (omega (arith, s.0, s.2, ways.0, ways.1, short)); rises = next-half k _ _ x y before after l }

round-down : (k x y t : ℕ) → x < k → t < k → x ≢ t → y ≢ t → goes_up true k x t ≡ false → moved_in true k false x ≡ Some y → IsRound k x y t false
round-down k x y t l m differ onward e f = at (cases_lt x t) (moved-down true k x y f) (leb-false ((t + k - x) % k) ((x + k - t) % k) e)
  where
    at : (x < t) ⊎ (t ≤ x) → ((0 < x) × (y ≡ x - 1)) ⊎ ((x ≤ 0) × (true ≡ true) × (y ≡ k - 1)) → (x + k - t) % k < (t + k - x) % k → IsRound k x y t false
    at (inl above) (inl s) short =
        let ways = round-above k x t above m in
        let before : half false x t ≡ 0 = rw (lt-ltb x t above) refl in
        let after : half false y t ≡ 0 = rw (lt-ltb y t (omega (arith, s.1))) refl in
        record {
          onward = down-onward-under k y t (omega (arith, s.1)) m (omega (arith, s.0, s.1, ways.0, ways.1, short));
          rises = same-half k _ _ (k - 1 - x) (k - 1 - y) (before ∙ sym after) (omega (arith, s.0, s.1));
        }
    at (inl above) (inr s) short =
        let ways = round-above k x t above m in
        let before : half false x t ≡ 0 = rw (lt-ltb x t above) refl in
        let after : half false y t ≡ 1 = rw (le-ltb y t (omega (arith, s.2))) refl in
        record {
          onward = down-onward k y t (omega (arith, s.2)) (omega (arith, s.2)) (omega (arith, s.0, s.2, ways.0, ways.1, short));
          rises = next-half k _ _ (k - 1 - x) (k - 1 - y) before after (omega arith);
        }
    at (inr below) (inl s) short =
        let ways = round-above k t x (omega arith) l in
        let before : half false x t ≡ 1 = rw (le-ltb x t below) refl in
        let after : half false y t ≡ 1 = rw (le-ltb y t (omega (arith, s.0, s.1))) refl in
        record {
          onward = down-onward k y t (omega (arith, s.0, s.1)) (omega (arith, s.1)) (omega (arith, s.0, s.1, ways.0, ways.1, short));
          rises = same-half k _ _ (k - 1 - x) (k - 1 - y) (before ∙ sym after) (omega (arith, s.0, s.1));
        }
    at (inr below) (inr s) short = absurd (omega (arith, s.0))

-- round a torus a step by the shorter way keeps its direction; by halves, and by what lies
-- behind in each, it rises
pub round-rises : (k x y t : ℕ) (up : Bool) → x < k → t < k → x ≢ t → y ≢ t → goes_up true k x t ≡ up → moved_in true k up x ≡ Some y
    → (goes_up true k y t ≡ up) × (half up x t * k + behind k x up < half up y t * k + behind k y up)
round-rises k x y t true l m differ onward e f = let r = round-up k x y t l m differ onward e f in (r.onward, r.rises)
round-rises k x y t false l m differ onward e f = let r = round-down k x y t l m differ onward e f in (r.onward, r.rises)
