-- The routers of a core by number, and what is there at a port.
use Rattle.std.proofs.Common.{◌≡◌, ◌≢◌, ℕ, zero, suc, ◌<◌, ◌≤◌, Bool, true, false, List, [], ◌∷◌, length, get_or, set, replicate, Option, Some, None, option_map, is_some, slice_get, refl, ap, sym, subst, ◌∙◌, ◌⊎◌, inl, inr, ⊎_elim, arith}
use Rattle.std.specs.Prelude.{slice_index_or}
use Rattle.noc_topo.proofs.ListLemmas.{length-below, get_or-below}
use Rattle.noc_theory.proofs.Common.{list_all, cases_eq, cases_lt, true_from_ne_false, false≢true, get_or-set_same, get_or-set_other, get_or-replicate, get_or_past, length-replicate, list_all_at, none-some, same_Some, below, Beat, some-value, View, CoreState, Post, has_beat, holds_at, post_at}
use Rattle.noc_theory.specs.Core.{changed_at, with_post}

-- ---- an element that is changed

pub get_changed_same : {X : Type 0} (i : ℕ) (f : X → X) (xs : List X) → slice_get (changed_at i f xs) i ≡ option_map f (slice_get xs i)
get_changed_same i f [] = refl
get_changed_same zero f (x ∷ xs) = refl
get_changed_same (suc i) f (x ∷ xs) = get_changed_same i f xs

pub get_changed_other : {X : Type 0} (i j : ℕ) (f : X → X) (xs : List X) → j ≢ i → slice_get (changed_at i f xs) j ≡ slice_get xs j
get_changed_other i j f [] n = refl
get_changed_other zero zero f (x ∷ xs) n = absurd (n refl)
get_changed_other zero (suc j) f (x ∷ xs) n = refl
get_changed_other (suc i) zero f (x ∷ xs) n = refl
get_changed_other (suc i) (suc j) f (x ∷ xs) n = get_changed_other i j f xs (λ e. n (ap suc e))

pub length-changed_at : {X : Type 0} (i : ℕ) (f : X → X) (xs : List X) → length (changed_at i f xs) ≡ length xs
length-changed_at i f [] = refl
length-changed_at zero f (x ∷ xs) = refl
length-changed_at (suc i) f (x ∷ xs) = ap suc (length-changed_at i f xs)

-- ---- options

pub some_of_map : {X Y : Type 0} (f : X → Y) (o : Option X) (y : Y) → option_map f o ≡ Some y → (x : X) × (o ≡ Some x) × (f x ≡ y)
some_of_map f None y e = absurd (none-some y e)
some_of_map f (Some x) y e = (x, refl, same_Some (f x) y e)

-- the router of which something holds
pub router_when : (may : Post → Bool) (o : Option Post) → holds_at may o ≡ true → (post : Post) × (o ≡ Some post) × (may post ≡ true)
router_when may None e = absurd (false≢true e)
router_when may (Some post) e = (post, refl, e)

-- what a router was before f changed router x
pub post_before : (x r : ℕ) (f : Post → Post) (k : CoreState) (post : Post) → post_at (with_post x f k) r ≡ Some post
    → ((r ≡ x) × ((before : Post) × (post_at k r ≡ Some before) × (f before ≡ post))) ⊎ ((r ≢ x) × (post_at k r ≡ Some post))
post_before x r f k post e =
    ⊎_elim
    (λ (s : r ≡ x).
    let here : slice_get (changed_at r f k.posts) r ≡ Some post = subst (λ (y : ℕ). slice_get (changed_at y f k.posts) r ≡ Some post) (sym s) e in
    inl (s, some_of_map f (slice_get k.posts r) post (sym (get_changed_same r f k.posts) ∙ here)))
    (λ (n : r ≢ x). inr (n, sym (get_changed_other x r f k.posts n) ∙ e))
    (cases_eq r x)

-- ---- tests at each number below n

pub all_below : (p : ℕ → Bool) (n i : ℕ) → list_all p (below n) ≡ true → i < n → p i ≡ true
all_below p n i e l =
    true_from_ne_false (p i)
    (λ f. false≢true (sym (list_all_at p (below n) i 0 (let c = length-below n in omega arith) (ap p (get_or-below n i 0 l) ∙ f)) ∙ e))

-- ---- what there is at a port

pub beat_when : (beats : List (Option Beat)) (port : ℕ) → has_beat beats port ≡ true → (beat : Beat) × (slice_index_or beats port None ≡ Some beat)
beat_when beats port e = some-value (get_or beats port None) e

pub has_none : (n port : ℕ) → has_beat (replicate n None) port ≡ false
has_none n port =
    ⊎_elim (λ (l : port < n). ap is_some (get_or-replicate n port (none_of Beat) None l))
    (λ (past : n ≤ port). ap is_some (get_or_past (replicate n (none_of Beat)) port None (let c = length-replicate n (none_of Beat) in omega arith)))
    (cases_lt port n)
  where
    none_of : (X : Type 0) → Option X
    none_of X = None

pub has_past : (beats : List (Option Beat)) (port : ℕ) → length beats ≤ port → has_beat beats port ≡ false
has_past beats port past = ap is_some (get_or_past beats port None past)

pub has_set_same : (beats : List (Option Beat)) (port : ℕ) (beat : Option Beat) → port < length beats → has_beat (set beats port beat) port ≡ is_some beat
has_set_same beats port beat l = ap is_some (get_or-set_same beats port beat None l)

pub has_set_other : (beats : List (Option Beat)) (i port : ℕ) (beat : Option Beat) → port ≢ i → has_beat (set beats i beat) port ≡ has_beat beats port
has_set_other beats i port beat n = ap is_some (get_or-set_other beats i port beat None n)

-- a router by its parts
abbrev pub made : View → ℕ → List (List Beat) → List (Option Beat) → Bool → List (Option Beat) → Post
made view n wires taken decided unput = record { view = view; steps = n; wires = wires; taken = taken; decided = decided; unput = unput }

pub same_post : (u v : View) (m n : ℕ) (a b : List (List Beat)) (c d : List (Option Beat)) (x y : Bool) (e f : List (Option Beat))
    → u ≡ v → m ≡ n → a ≡ b → c ≡ d → x ≡ y → e ≡ f → made u m a c x e ≡ made v n b d y f
same_post u v m n a b c d x y e f p q r s t w = cc
