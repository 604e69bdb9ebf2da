-- The first entry at which packets are stuck.
use Rattle.std.proofs.Common.{◌≡◌, ℕ, zero, suc, ◌+◌, ◌*◌, ◌/◌, ◌%◌, ◌<◌, ◌≤◌, Bool, true, false, List, Option, Some, None, refl, sym, subst, ap, ◌∙◌, add_assoc, arith, inl, inr}
use Rattle.std.specs.Prelude.{◌⊎◌, ◌&&◌, nat_eq, if◌then◌else◌}
use Rattle.std.proofs.lemmas.Nat.{div-mul-add, mod-mul-add}
use Rattle.std.proofs.lemmas.Bool.{cases_lt, false≢true}
use Rattle.noc_topo.specs.Shape.{nodes}
use Rattle.noc_topo.proofs.ListLemmas.{get_or-tabulate}
use Rattle.noc_route.specs.Order.{numbers_before, entry_numbers, earlier_entry}
use Rattle.noc_route.specs.Routes.{Routes, width, pages}
use Rattle.noc_route.specs.Trimming.{routes_in, page_set, comes_in, comes_at, left_at, left_in, is_stuck_at, entry_on_page, AreComing, reached_at, IsNoEarlier, IsStuckFirst, IsFirstStuck}
use Rattle.noc_route.specs.declared.rule.Entry.{Entry}
use Rattle.noc_route.specs.declared.sizes.Sizes.{Sizes}
use Rattle.noc_route.proofs.OrderLemmas.{before-not-self, before-trans}
use Rattle.noc_route.proofs.EntryLemmas.{flat-below, flat-div, flat-mod}

-- the place of the entry at n is the next one
same_place : (w b i b' i' : ℕ) → i < w → i' < w → b' * w + i' ≡ b * w + i → (b' ≡ b) × (i' ≡ i)
same_place w b i b' i' l l' e =
    (sym (div-mul-add b' w i' l') ∙ ap (λ x. x / w) e ∙ div-mul-add b w i l, sym (mod-mul-add b' w i' l') ∙ ap (λ x. x % w) e ∙ mod-mul-add b w i l)

next_place : (w b i b' i' : ℕ) → i < w → i' < w → b' * w + i' < b * w + i + 1 → (b' * w + i' < b * w + i) ⊎ ((b' ≡ b) × (i' ≡ i))
next_place w b i b' i' l l' n = at (cases_lt (b' * w + i') (b * w + i))
  where
    at : (b' * w + i' < b * w + i) ⊎ (b * w + i ≤ b' * w + i') → (b' * w + i' < b * w + i) ⊎ ((b' ≡ b) × (i' ≡ i))
    at (inl f) = inl f
    at (inr g) = inr (same_place w b i b' i' l l' (omega arith))

IsNoEarlier-at : (routes : Routes) (outs : List ℕ) (b i b' i' : ℕ) (e : Entry) → b' ≡ b → i' ≡ i → IsNoEarlier routes outs b i e → IsNoEarlier routes outs b' i' e
IsNoEarlier-at routes outs b i b' i' e p q h =
    let P : ℕ → Type 0 = λ x. IsNoEarlier routes outs x i' e in
    let Q : ℕ → Type 0 = λ x. IsNoEarlier routes outs b x e in
    subst P (sym p) (subst Q (sym q) h)

-- ---- an entry that is not stuck

pub IsFirstStuck-passed : (routes : Routes) (outs : List ℕ) (b i : ℕ) (first : Option Entry) → i < width routes.grid routes.vcs → is_stuck_at routes outs b i ≡ false
    → IsFirstStuck routes outs (b * width routes.grid routes.vcs + i) first → IsFirstStuck routes outs (b * width routes.grid routes.vcs + i + 1) first
IsFirstStuck-passed routes outs b i None l free h = λ b' i' m l' n. at b' i' m l' (next_place (width routes.grid routes.vcs) b i b' i' l l' n)
  where
    at : (b' i' : ℕ) → b' < pages routes.grid routes.classes → i' < width routes.grid routes.vcs
        → (b' * width routes.grid routes.vcs + i' < b * width routes.grid routes.vcs + i) ⊎ ((b' ≡ b) × (i' ≡ i)) → is_stuck_at routes outs b' i' ≡ false
    at b' i' m l' (inl n) = h b' i' m l' n
    at b' i' m l' (inr same) = ap (λ x. is_stuck_at routes outs x i') same.0 ∙ ap (is_stuck_at routes outs b) same.1 ∙ free
IsFirstStuck-passed routes outs b i (Some e) l free h = record {
  page = h.page;
  input = h.input;
  exists = h.exists;
  within = h.within;
  entry = h.entry;
  stuck = h.stuck;
  first = λ b' i' m l' n. at b' i' m l' (next_place (width routes.grid routes.vcs) b i b' i' l l' n);
}
  where
    at : (b' i' : ℕ) → b' < pages routes.grid routes.classes → i' < width routes.grid routes.vcs
        → (b' * width routes.grid routes.vcs + i' < b * width routes.grid routes.vcs + i) ⊎ ((b' ≡ b) × (i' ≡ i)) → IsNoEarlier routes outs b' i' e
    at b' i' m l' (inl n) = h.first b' i' m l' n
    at b' i' m l' (inr same) = IsNoEarlier-at routes outs b i b' i' e same.0 same.1 (inl free)

-- ---- an entry that is stuck

-- what is no earlier than an entry is no earlier than one before it
IsNoEarlier-before : (routes : Routes) (outs : List ℕ) (b i : ℕ) (e first : Entry) → numbers_before (entry_numbers first) (entry_numbers e) ≡ true → IsNoEarlier routes outs b i e → IsNoEarlier routes outs b i first
IsNoEarlier-before routes outs b i e first before (inl free) = inl free
IsNoEarlier-before routes outs b i e first before (inr later) = at (numbers_before (entry_numbers (entry_on_page routes b i)) (entry_numbers first)) refl
  where
    at : (x : Bool) → numbers_before (entry_numbers (entry_on_page routes b i)) (entry_numbers first) ≡ x → IsNoEarlier routes outs b i first
    at false f = inr f
    at true f = absurd (false≢true (sym later ∙ before-trans (entry_numbers (entry_on_page routes b i)) (entry_numbers first) (entry_numbers e) refl refl f before))

IsStuckFirst-new : (routes : Routes) (outs : List ℕ) (b i : ℕ) (first : Option Entry) → b < pages routes.grid routes.classes → i < width routes.grid routes.vcs → is_stuck_at routes outs b i ≡ true
    → ((e : Entry) → first ≡ Some e → numbers_before (entry_numbers (entry_on_page routes b i)) (entry_numbers e) ≡ true)
    → IsFirstStuck routes outs (b * width routes.grid routes.vcs + i) first → IsStuckFirst routes outs (b * width routes.grid routes.vcs + i + 1) (entry_on_page routes b i)
IsStuckFirst-new routes outs b i first m l stuck before h = record {
  page = b;
  input = i;
  exists = m;
  within = l;
  entry = refl;
  stuck = stuck;
  first = λ b' i' m' l' n. at first before h b' i' m' l' (next_place (width routes.grid routes.vcs) b i b' i' l l' n);
}
  where
    at : (first : Option Entry) → ((e : Entry) → first ≡ Some e → numbers_before (entry_numbers (entry_on_page routes b i)) (entry_numbers e) ≡ true)
        → IsFirstStuck routes outs (b * width routes.grid routes.vcs + i) first → (b' i' : ℕ) → b' < pages routes.grid routes.classes → i' < width routes.grid routes.vcs
        → (b' * width routes.grid routes.vcs + i' < b * width routes.grid routes.vcs + i) ⊎ ((b' ≡ b) × (i' ≡ i)) → IsNoEarlier routes outs b' i' (entry_on_page routes b i)
    at None before h b' i' m' l' (inl n) = inl (h b' i' m' l' n)
    at (Some e) before h b' i' m' l' (inl n) = IsNoEarlier-before routes outs b' i' e (entry_on_page routes b i) (before e refl) (h.first b' i' m' l' n)
    at first before h b' i' m' l' (inr same) = IsNoEarlier-at routes outs b i b' i' (entry_on_page routes b i) same.0 same.1 (inr (before-not-self (entry_numbers (entry_on_page routes b i))))

IsStuckFirst-kept : (routes : Routes) (outs : List ℕ) (b i : ℕ) (e : Entry) → i < width routes.grid routes.vcs → numbers_before (entry_numbers (entry_on_page routes b i)) (entry_numbers e) ≡ false
    → IsStuckFirst routes outs (b * width routes.grid routes.vcs + i) e → IsStuckFirst routes outs (b * width routes.grid routes.vcs + i + 1) e
IsStuckFirst-kept routes outs b i e l later h = record {
  page = h.page;
  input = h.input;
  exists = h.exists;
  within = h.within;
  entry = h.entry;
  stuck = h.stuck;
  first = λ b' i' m' l' n. at b' i' m' l' (next_place (width routes.grid routes.vcs) b i b' i' l l' n);
}
  where
    at : (b' i' : ℕ) → b' < pages routes.grid routes.classes → i' < width routes.grid routes.vcs
        → (b' * width routes.grid routes.vcs + i' < b * width routes.grid routes.vcs + i) ⊎ ((b' ≡ b) × (i' ≡ i)) → IsNoEarlier routes outs b' i' e
    at b' i' m' l' (inl n) = h.first b' i' m' l' n
    at b' i' m' l' (inr same) = IsNoEarlier-at routes outs b i b' i' e same.0 same.1 (inr later)

pub IsStuckFirst-earlier : (routes : Routes) (outs : List ℕ) (b i : ℕ) (first : Option Entry) → b < pages routes.grid routes.classes → i < width routes.grid routes.vcs → is_stuck_at routes outs b i ≡ true
    → IsFirstStuck routes outs (b * width routes.grid routes.vcs + i) first
    → IsStuckFirst routes outs (b * width routes.grid routes.vcs + i + 1) (earlier_entry (entry_on_page routes b i) first)
IsStuckFirst-earlier routes outs b i None m l stuck h = IsStuckFirst-new routes outs b i None m l stuck (λ e never. absurd (cc never)) h
IsStuckFirst-earlier routes outs b i (Some o) m l stuck h = at (numbers_before (entry_numbers (entry_on_page routes b i)) (entry_numbers o)) refl
  where
    at : (x : Bool) → numbers_before (entry_numbers (entry_on_page routes b i)) (entry_numbers o) ≡ x
        → IsStuckFirst routes outs (b * width routes.grid routes.vcs + i + 1) (earlier_entry (entry_on_page routes b i) (Some o))
    at true f =
        let P : Bool → Type 0 = λ x. IsStuckFirst routes outs (b * width routes.grid routes.vcs + i + 1) (if x then entry_on_page routes b i else o) in
        subst P (sym f)
        (IsStuckFirst-new routes outs b i (Some o) m l stuck (λ e same. let one : o ≡ e = cc in ap (λ e. numbers_before (entry_numbers (entry_on_page routes b i)) (entry_numbers e)) (sym one) ∙ f) h)
    at false f =
        let P : Bool → Type 0 = λ x. IsStuckFirst routes outs (b * width routes.grid routes.vcs + i + 1) (if x then entry_on_page routes b i else o) in
        subst P (sym f) (IsStuckFirst-kept routes outs b i o l f h)

-- ---- the table that is left

pub left_in-at : (f : Sizes) (sets outs : List ℕ) (b i : ℕ) → b < pages f.shape f.classes → i < width f.shape f.vcs
    → page_set (routes_in f (left_in f sets outs)) b i ≡ left_at (routes_in f sets) outs b i
left_in-at f sets outs b i m l =
    let w = width f.shape f.vcs in
    let F : ℕ → ℕ = λ k. left_at (routes_in f sets) outs (k / w) (k % w) in
    get_or-tabulate (pages f.shape f.classes * w) (b * w + i) F 0 (flat-below b (pages f.shape f.classes) i w m l)
    ∙ ap (λ x. left_at (routes_in f sets) outs x ((b * w + i) % w)) (flat-div b w i l)
    ∙ ap (left_at (routes_in f sets) outs b) (flat-mod b w i l)

-- packets are stuck in the table that is left where they are by the rule's sets
stuck-left : (f : Sizes) (sets outs : List ℕ) (b i : ℕ) → b < pages f.shape f.classes → i < width f.shape f.vcs
    → is_stuck_at (routes_in f (left_in f sets outs)) outs b i ≡ is_stuck_at (routes_in f sets) outs b i
stuck-left f sets outs b i m l = ap (λ s. comes_at (routes_in f sets) outs b i && nat_eq s 0) (left_in-at f sets outs b i m l) ∙ at (comes_at (routes_in f sets) outs b i)
  where
    at : (c : Bool) → (c && nat_eq (if c then page_set (routes_in f sets) b i else 0) 0) ≡ (c && nat_eq (page_set (routes_in f sets) b i) 0)
    at true = refl
    at false = refl

-- ---- the loops

-- whether packets come to an input of a page, by the router and the class of its pair
pub comes_at-pair : (routes : Routes) (outs : List ℕ) (pair t i : ℕ) → t < nodes routes.grid
    → comes_at routes outs (pair * nodes routes.grid + t) i ≡ comes_in routes outs (pair % routes.classes) (pair / routes.classes) t i
comes_at-pair routes outs pair t i l =
    ap (λ b. comes_in routes outs (b % routes.classes) (b / routes.classes) ((pair * nodes routes.grid + t) % nodes routes.grid) i) (flat-div pair (nodes routes.grid) t l)
    ∙ ap (λ t. comes_in routes outs (pair % routes.classes) (pair / routes.classes) t i) (flat-mod pair (nodes routes.grid) t l)

-- none of the first inputs of a page is stuck
pub stuck-none : (f : Sizes) (sets outs : List ℕ) (page n : ℕ) (first : Option Entry) → page < pages f.shape f.classes → n ≤ width f.shape f.vcs
    → ((i : ℕ) → i < width f.shape f.vcs → is_stuck_at (routes_in f sets) outs page i ≡ false)
    → IsFirstStuck (routes_in f (left_in f sets outs)) outs (page * width f.shape f.vcs) first
    → IsFirstStuck (routes_in f (left_in f sets outs)) outs (page * width f.shape f.vcs + n) first
stuck-none f sets outs page zero first m few free h =
    let P : ℕ → Type 0 = λ k. IsFirstStuck (routes_in f (left_in f sets outs)) outs k first in
    let same : page * width f.shape f.vcs ≡ page * width f.shape f.vcs + 0 = omega arith in
    subst P same h
stuck-none f sets outs page (suc n) first m few free h =
    let P : ℕ → Type 0 = λ k. IsFirstStuck (routes_in f (left_in f sets outs)) outs k first in
    let same : page * width f.shape f.vcs + n + 1 ≡ page * width f.shape f.vcs + suc n = omega arith in
    let inside : n < width f.shape f.vcs = omega arith in
    subst P same
    (IsFirstStuck-passed (routes_in f (left_in f sets outs)) outs page n first inside (stuck-left f sets outs page n m inside ∙ free n inside)
    (stuck-none f sets outs page n first m (omega arith) free h))

-- one more input, which may be stuck
pub stuck-more : (f : Sizes) (sets outs : List ℕ) (page input : ℕ) (first next : Option Entry) (stuck : Bool) → page < pages f.shape f.classes → input < width f.shape f.vcs
    → is_stuck_at (routes_in f sets) outs page input ≡ stuck
    → next ≡ (if stuck then Some (earlier_entry (entry_on_page (routes_in f sets) page input) first) else first)
    → IsFirstStuck (routes_in f (left_in f sets outs)) outs (page * width f.shape f.vcs + input) first
    → IsFirstStuck (routes_in f (left_in f sets outs)) outs (page * width f.shape f.vcs + (input + 1)) next
stuck-more f sets outs page input first next stuck m l is found h =
    let routes = routes_in f (left_in f sets outs) in
    let P : ℕ → Type 0 = λ n. IsFirstStuck routes outs n next in
    subst P (add_assoc (page * width f.shape f.vcs) input 1)
    (subst (IsFirstStuck routes outs (page * width f.shape f.vcs + input + 1)) (sym found) (at stuck (stuck-left f sets outs page input m l ∙ is)))
  where
    at : (b : Bool) → is_stuck_at (routes_in f (left_in f sets outs)) outs page input ≡ b
        → IsFirstStuck (routes_in f (left_in f sets outs)) outs (page * width f.shape f.vcs + input + 1) (if b then Some (earlier_entry (entry_on_page (routes_in f sets) page input) first) else first)
    at true e = IsStuckFirst-earlier (routes_in f (left_in f sets outs)) outs page input first m l e h
    at false e = IsFirstStuck-passed (routes_in f (left_in f sets outs)) outs page input first l e h

-- what is left of a set is what these sets of input channels leave of it
pub reached-left : (f : Sizes) (sets outs coming : List ℕ) (pair i t : ℕ) → AreComing f outs pair coming → t < nodes f.shape → i < width f.shape f.vcs
    → reached_at f sets coming pair i t ≡ left_at (routes_in f sets) outs (pair * nodes f.shape + t) i
reached-left f sets outs coming pair i t come l m =
    ap (λ b. if b then page_set (routes_in f sets) (pair * nodes f.shape + t) i else 0) (come sets t i l m)
