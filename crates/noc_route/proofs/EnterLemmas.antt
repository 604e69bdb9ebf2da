-- Writing a rule's sets.
use Rattle.std.proofs.Common.{◌≡◌, ◌≢◌, ℕ, ◌+◌, ◌*◌, ◌/◌, ◌%◌, ◌<◌, ◌≤◌, Bool, true, false, List, length, get_or, set, take, Some, None, refl, sym, ap, ◌∙◌, arith, inl, inr, Vec, Global}
use Rattle.std.specs.Prelude.{◌⊎◌, ◌&&◌, ◌||◌, nat_eq, nat_lt, slice_index, is_some, All}
use Rattle.std.proofs.lemmas.Bool.{cases_lt, cases_eq, eq-eqb, eqb-true, and_parts, lt-ltb, le-ltb, ltb-true, false≢true, or_cases}
use Rattle.std.proofs.lemmas.List.{get_or-set_same, get_or-set_other}
use Rattle.std.proofs.lemmas.Nat.{div-mul-add, mod-mul-add}
use Rattle.std.proofs.lemmas.List.Folds.{list_any_more}
use Rattle.std.proofs.Math.Bool.{or-false, or-true, and-false}
use Rattle.noc_packet.specs.Set.{has_bit}
use Rattle.noc_topo.specs.Lists.{tabulate}
use Rattle.noc_topo.proofs.ListLemmas.{get_or-tabulate}
use Rattle.noc_topo.specs.Shape.{Grid, nodes, ports, local_port, neighbour}
use Rattle.noc_route.specs.Relation.{RelationParts, names_entry, is_open, is_real_row, has_route_row, rows_of, table_rows_of, leads, is_led}
use Rattle.noc_route.specs.Routes.{Routes, width, pages, page_of, page_class, page_router, page_dst, entry_index}
use Rattle.noc_route.specs.Trimming.{page_set, routes_in}
use Rattle.noc_packet.proofs.SetLemmas.{has_bit-zero}
use Rattle.noc_route.specs.Entered.{has_row_at, IsEntered}
use Rattle.noc_route.specs.declared.rule.Rule.{Rule}
use Rattle.noc_route.specs.declared.rule.Rule.TheVariants.{Dor, Dateline, WestFirst, Adaptive, Rows}
use Rattle.noc_route.specs.declared.rule.RouteRow.{RouteRow}
use Rattle.noc_route.specs.declared.sizes.Sizes.{Sizes}
use Rattle.noc_route.proofs.EntryLemmas.{flat-below, flat-div}
use Rattle.noc_route.proofs.TrimLemmas.{index-parts, page-dst, page-class, page-sender, page-below}
use Rattle.noc_route.proofs.BoolLemmas.{same_test}

-- ---- the table of sets that pages have

pub page_set-pages : (f : Sizes) (sets : List ℕ) (b i : ℕ) → b < pages f.shape f.classes → i < width f.shape f.vcs
    → page_set (routes_in f (tabulate (pages f.shape f.classes * width f.shape f.vcs) (λ k. slice_index sets (k / width f.shape f.vcs)))) b i ≡ slice_index sets b
page_set-pages f sets b i l m =
    let w = width f.shape f.vcs in
    get_or-tabulate (pages f.shape f.classes * w) (b * w + i) (λ k. slice_index sets (k / w)) 0 (flat-below b (pages f.shape f.classes) i w l m)
    ∙ ap (λ x. get_or sets x 0) (flat-div b w i m)

-- ---- one row more

-- what it is for a row to name an entry of a page and an output channel
pub record NamesIt (m r p v t q w : ℕ) (row : RouteRow) : Type 0 where
  pub class : row.class ≡ m
  pub router : row.router ≡ r
  pub in_port : row.in_port ≡ p
  pub in_vc : row.in_vc ≡ v
  pub dst : row.dst ≡ t
  pub out_port : row.out_port ≡ q
  pub out_vc : row.out_vc ≡ w

pub is_row_of-parts : (m r p v t q w : ℕ) (row : RouteRow) → names_entry m (r, p) v t q w row ≡ true → NamesIt m r p v t q w row
is_row_of-parts m r p v t q w row e =
    let a = and_parts _ (nat_eq row.out_vc w) e in
    let b = and_parts _ (nat_eq row.out_port q) a.0 in
    let c = and_parts _ (nat_eq row.dst t) b.0 in
    let d = and_parts _ (nat_eq row.in_vc v) c.0 in
    let f = and_parts _ (nat_eq row.in_port p) d.0 in
    let g = and_parts (nat_eq row.class m) (nat_eq row.router r) f.0 in
    record {
      class = eqb-true _ _ g.0;
      router = eqb-true _ _ g.1;
      in_port = eqb-true _ _ f.1;
      in_vc = eqb-true _ _ d.1;
      dst = eqb-true _ _ c.1;
      out_port = eqb-true _ _ b.1;
      out_vc = eqb-true _ _ a.1;
    }

is_row_of-all : (m r p v t q w : ℕ) (row : RouteRow) → NamesIt m r p v t q w row → names_entry m (r, p) v t q w row ≡ true
is_row_of-all m r p v t q w row h =
    let a = eq-eqb _ _ h.class in
    let b = eq-eqb _ _ h.router in
    let c = eq-eqb _ _ h.in_port in
    let d = eq-eqb _ _ h.in_vc in
    let e = eq-eqb _ _ h.dst in
    let f = eq-eqb _ _ h.out_port in
    let g = eq-eqb _ _ h.out_vc in
    rw (a, b, c, d, e, f, g) refl

-- the row's numbers are within those of the table
pub record IsWithinTable (routes : Routes) (row : RouteRow) : Type 0 where
  pub class : row.class < routes.classes
  pub router : row.router < nodes routes.grid
  pub in_port : row.in_port < ports routes.grid
  pub in_vc : row.in_vc < routes.vcs
  pub dst : row.dst < nodes routes.grid
  pub out_port : row.out_port < ports routes.grid
  pub out_vc : row.out_vc < routes.vcs

-- the place of a row in the table
abbrev pub row_index : Routes → RouteRow → ℕ
row_index routes row = entry_index routes.grid routes.vcs routes.classes row.class row.router row.in_port row.in_vc row.dst

-- the number of a page, of its parts
pub page-whole : (g : Grid) (classes b : ℕ) → page_of g classes (page_class g classes b) (page_router g classes b) (page_dst g b) ≡ b
page-whole g classes b =
    ap (λ x. x * nodes g + b % nodes g) (index-parts classes (b / nodes g)) ∙ index-parts (nodes g) b

named-place : (routes : Routes) (b i k : ℕ) (row : RouteRow)
    → NamesIt (page_class routes.grid routes.classes b) (page_router routes.grid routes.classes b) (i / routes.vcs) (i % routes.vcs) (page_dst routes.grid b) (k / routes.vcs) (k % routes.vcs) row
    → (b * width routes.grid routes.vcs + i ≡ row_index routes row) × (k ≡ row.out_port * routes.vcs + row.out_vc)
named-place routes b i k row h =
    let page : page_of routes.grid routes.classes row.class row.router row.dst ≡ b
    = ap (λ x. page_of routes.grid routes.classes x row.router row.dst) h.class ∙ ap (λ x. page_of routes.grid routes.classes (page_class routes.grid routes.classes b) x row.dst) h.router
    ∙ ap (page_of routes.grid routes.classes (page_class routes.grid routes.classes b) (page_router routes.grid routes.classes b)) h.dst ∙ page-whole routes.grid routes.classes b in
    let input : row.in_port * routes.vcs + row.in_vc ≡ i = ap (λ x. x * routes.vcs + row.in_vc) h.in_port ∙ ap (λ x. i / routes.vcs * routes.vcs + x) h.in_vc ∙ index-parts routes.vcs i in
    let output : row.out_port * routes.vcs + row.out_vc ≡ k = ap (λ x. x * routes.vcs + row.out_vc) h.out_port ∙ ap (λ x. k / routes.vcs * routes.vcs + x) h.out_vc ∙ index-parts routes.vcs k in
    (sym (ap (λ x. x * width routes.grid routes.vcs + (row.in_port * routes.vcs + row.in_vc)) page ∙ ap (λ x. b * width routes.grid routes.vcs + x) input), sym output)

place-named : (routes : Routes) (b i k : ℕ) (row : RouteRow) → IsWithinTable routes row → i < width routes.grid routes.vcs
    → b * width routes.grid routes.vcs + i ≡ row_index routes row → k ≡ row.out_port * routes.vcs + row.out_vc
    → NamesIt (page_class routes.grid routes.classes b) (page_router routes.grid routes.classes b) (i / routes.vcs) (i % routes.vcs) (page_dst routes.grid b) (k / routes.vcs) (k % routes.vcs) row
place-named routes b i k row within l e f =
    let w = width routes.grid routes.vcs in
    let small : row.in_port * routes.vcs + row.in_vc < w = flat-below row.in_port (ports routes.grid) row.in_vc routes.vcs within.in_port within.in_vc in
    let page : b ≡ page_of routes.grid routes.classes row.class row.router row.dst = sym (div-mul-add b w i l) ∙ ap (λ x. x / w) e ∙ div-mul-add _ w (row.in_port * routes.vcs + row.in_vc) small in
    let input : i ≡ row.in_port * routes.vcs + row.in_vc = sym (mod-mul-add b w i l) ∙ ap (λ x. x % w) e ∙ mod-mul-add _ w (row.in_port * routes.vcs + row.in_vc) small in
    record {
      class = sym (ap (page_class routes.grid routes.classes) page ∙ page-class routes.grid routes.classes row.class row.router row.dst within.dst within.class);
      router = sym (ap (page_router routes.grid routes.classes) page ∙ page-sender routes.grid routes.classes row.class row.router row.dst within.dst within.class);
      in_port = sym (ap (λ x. x / routes.vcs) input ∙ div-mul-add row.in_port routes.vcs row.in_vc within.in_vc);
      in_vc = sym (ap (λ x. x % routes.vcs) input ∙ mod-mul-add row.in_port routes.vcs row.in_vc within.in_vc);
      dst = sym (ap (page_dst routes.grid) page ∙ page-dst routes.grid routes.classes row.class row.router row.dst within.dst);
      out_port = sym (ap (λ x. x / routes.vcs) f ∙ div-mul-add row.out_port routes.vcs row.out_vc within.out_vc);
      out_vc = sym (ap (λ x. x % routes.vcs) f ∙ mod-mul-add row.out_port routes.vcs row.out_vc within.out_vc);
    }

-- each set has the bits of the first rows
abbrev pub HasRows : Routes → List ℕ → List RouteRow → ℕ → Type 0
HasRows routes sets rows n =
    (b i k : ℕ) → b < pages routes.grid routes.classes → i < width routes.grid routes.vcs
    → has_bit (page_set (record routes { sets = sets }) b i) k ≡ (nat_lt k (width routes.grid routes.vcs) && has_row_at routes (take n rows) b i k)

-- a channel of the row, or one that was there
or_within : (e l r : Bool) → (e ≡ true → l ≡ true) → (e || (l && r)) ≡ (l && (r || e))
or_within true l r h = let yes = h refl in rw (yes, or-true r) refl
or_within false l r h = rw (or-false r) refl

-- whether a row names an entry of a page and an output channel
abbrev row_at : Routes → ℕ → ℕ → ℕ → RouteRow → Bool
row_at routes b i k =
    names_entry (page_class routes.grid routes.classes b) (page_router routes.grid routes.classes b, i / routes.vcs) (i % routes.vcs) (page_dst routes.grid b) (k / routes.vcs) (k % routes.vcs)

pub HasRows-more : (routes : Routes) (sets : List ℕ) (rows : List RouteRow) (n : ℕ) (row : RouteRow) (value : ℕ) → length sets ≡ pages routes.grid routes.classes * width routes.grid routes.vcs
    → n < length rows → ((d : RouteRow) → get_or rows n d ≡ row) → IsWithinTable routes row
    → ((k : ℕ) → has_bit value k ≡ (nat_eq k (row.out_port * routes.vcs + row.out_vc) || has_bit (get_or sets (row_index routes row) 0) k))
    → HasRows routes sets rows n → HasRows routes (set sets (row_index routes row) value) rows (n + 1)
HasRows-more routes sets rows n row value long l here within is h = λ b i k m o.
    let more : has_row_at routes (take (n + 1) rows) b i k ≡ (has_row_at routes (take n rows) b i k || row_at routes b i k row)
    = list_any_more (row_at routes b i k) rows n row l ∙ ap (λ x. has_row_at routes (take n rows) b i k || row_at routes b i k x) (here row) in
    at b i k m o (cases_eq (b * width routes.grid routes.vcs + i) (row_index routes row)) ∙ ap (λ x. nat_lt k (width routes.grid routes.vcs) && x) (sym more)
  where
    at : (b i k : ℕ) → b < pages routes.grid routes.classes → i < width routes.grid routes.vcs
        → (b * width routes.grid routes.vcs + i ≡ row_index routes row) ⊎ (b * width routes.grid routes.vcs + i ≢ row_index routes row)
        → has_bit (get_or (set sets (row_index routes row) value) (b * width routes.grid routes.vcs + i) 0) k ≡ (nat_lt k (width routes.grid routes.vcs) && (has_row_at routes (take n rows) b i k || row_at routes b i k row))
    at b i k m o (inl e) =
        let inside : row_index routes row < length sets = omega (arith, long, e, flat-below b (pages routes.grid routes.classes) i (width routes.grid routes.vcs) m o) in
        let same : nat_eq k (row.out_port * routes.vcs + row.out_vc) ≡ row_at routes b i k row
        = same_test _ _ (λ q. is_row_of-all _ _ _ _ _ _ _ row (place-named routes b i k row within o e (eqb-true _ _ q)))
        (λ q. eq-eqb _ _ (named-place routes b i k row (is_row_of-parts _ _ _ _ _ _ _ row q)).1) in
        ap (λ x. has_bit x k) (ap (λ j. get_or (set sets (row_index routes row) value) j 0) e ∙ get_or-set_same sets (row_index routes row) value 0 inside) ∙ is k
        ∙ ap (λ x. x || has_bit (get_or sets (row_index routes row) 0) k) same
        ∙ ap (λ j. row_at routes b i k row || has_bit (get_or sets j 0) k) (sym e)
        ∙ ap (λ x. row_at routes b i k row || x) (h b i k m o)
        ∙ or_within (row_at routes b i k row) (nat_lt k (width routes.grid routes.vcs)) (has_row_at routes (take n rows) b i k)
        (λ q.
        let index = (named-place routes b i k row (is_row_of-parts _ _ _ _ _ _ _ row q)).1 in
        lt-ltb k _ (omega (arith, index, flat-below row.out_port (ports routes.grid) row.out_vc routes.vcs within.out_port within.out_vc)))
    at b i k m o (inr other) =
        let none : row_at routes b i k row ≡ false = not_named (row_at routes b i k row) refl in
        ap (λ x. has_bit x k) (get_or-set_other sets (row_index routes row) (b * width routes.grid routes.vcs + i) value 0 other) ∙ h b i k m o
        ∙ ap (λ x. nat_lt k (width routes.grid routes.vcs) && x) (sym (rw none (or-false (has_row_at routes (take n rows) b i k))))
      where
        not_named : (x : Bool) → row_at routes b i k row ≡ x → row_at routes b i k row ≡ false
        not_named true q = absurd (other (named-place routes b i k row (is_row_of-parts _ _ _ _ _ _ _ row q)).0)
        not_named false q = q

-- ---- what a real row names

open-port : (g : Grid) (r p : ℕ) → is_open g r p ≡ true → p < ports g
open-port g r p e = at (or_cases (nat_eq p (local_port g)) (is_some (neighbour g r p)) e)
  where
    below : (p < local_port g) ⊎ (local_port g ≤ p) → is_some (neighbour g r p) ≡ true → p < ports g
    below (inl l) f = omega arith
    below (inr m) f = let past : nat_lt p (local_port g) ≡ false = le-ltb p (local_port g) m in absurd (false≢true (rw past at f))

    at : (nat_eq p (local_port g) ≡ true) ⊎ (is_some (neighbour g r p) ≡ true) → p < ports g
    at (inl home) = omega (arith, eqb-true p (local_port g) home)
    at (inr link) = below (cases_lt p (local_port g)) link

-- what is known of a real row
pub record IsRealRow (g : Grid) (vcs classes : ℕ) (row : RouteRow) : Type 0 where
  pub class : row.class < classes
  pub router : row.router < nodes g
  pub in_vc : row.in_vc < vcs
  pub out_vc : row.out_vc < vcs
  pub dst : row.dst < nodes g
  pub in_open : is_open g row.router row.in_port ≡ true
  pub out_open : is_open g row.router row.out_port ≡ true

pub IsRealRow-from_test : (g : Grid) (vcs classes : ℕ) (row : RouteRow) → is_real_row g vcs classes row ≡ true → IsRealRow g vcs classes row
IsRealRow-from_test g vcs classes row e =
    let a = and_parts _ (is_open g row.router row.out_port) e in
    let b = and_parts _ (is_open g row.router row.in_port) a.0 in
    let c = and_parts _ (nat_lt row.dst (nodes g)) b.0 in
    let d = and_parts _ (nat_lt row.out_vc vcs) c.0 in
    let f = and_parts _ (nat_lt row.in_vc vcs) d.0 in
    let h = and_parts (nat_lt row.class classes) (nat_lt row.router (nodes g)) f.0 in
    record {
      class = ltb-true _ _ h.0;
      router = ltb-true _ _ h.1;
      in_vc = ltb-true _ _ f.1;
      out_vc = ltb-true _ _ d.1;
      dst = ltb-true _ _ c.1;
      in_open = b.1;
      out_open = a.1;
    }

pub IsWithinTable-real : (routes : Routes) (row : RouteRow) → is_real_row routes.grid routes.vcs routes.classes row ≡ true → IsWithinTable routes row
IsWithinTable-real routes row e =
    let h = IsRealRow-from_test routes.grid routes.vcs routes.classes row e in
    record {
      class = h.class;
      router = h.router;
      in_port = open-port routes.grid row.router row.in_port h.in_open;
      in_vc = h.in_vc;
      dst = h.dst;
      out_port = open-port routes.grid row.router row.out_port h.out_open;
      out_vc = h.out_vc;
    }

-- before the first row each set is empty
pub HasRows-none : (routes : Routes) (sets : List ℕ) (rows : List RouteRow) → ((j : ℕ) → get_or sets j 0 ≡ 0) → HasRows routes sets rows 0
HasRows-none routes sets rows empty = λ b i k m o.
    ap (λ s. has_bit s k) (empty (b * width routes.grid routes.vcs + i)) ∙ has_bit-zero k ∙ sym (and-false (nat_lt k (width routes.grid routes.vcs)))

-- ---- the rule

pub leads-named : (g : RelationParts) (m r p v t q w : ℕ) → rows_of g.rule ≡ None → leads g m (r, p) v t q w ≡ is_led g m r t q w
leads-named g m r p v t q w none = rw (none, leads) refl

pub leads-rows : (g : RelationParts) (rows : List RouteRow) (m r p v t q w : ℕ) → rows_of g.rule ≡ Some rows → leads g m (r, p) v t q w ≡ has_route_row rows m (r, p) v t q w
leads-rows g rows m r p v t q w table = rw (table, leads) refl

-- the sets of all entries, by those of all pages
pub IsEntered-from_pages : (g : RelationParts) (routes : Routes)
    → ((b i k : ℕ) → b < pages routes.grid routes.classes → i < width routes.grid routes.vcs → has_bit (page_set routes b i) k
    ≡ (nat_lt k (width routes.grid routes.vcs) && leads g (page_class routes.grid routes.classes b) (page_router routes.grid routes.classes b, i / routes.vcs) (i % routes.vcs) (page_dst routes.grid b) (k / routes.vcs) (k % routes.vcs)))
    → IsEntered g routes
IsEntered-from_pages g routes h m r t i k place l =
    let b = page_of routes.grid routes.classes m r t in
    let led = λ (m r t : ℕ). nat_lt k (width routes.grid routes.vcs) && leads g m (r, i / routes.vcs) (i % routes.vcs) t (k / routes.vcs) (k % routes.vcs) in
    h b i k (page-below routes.grid routes.classes m r t place.class place.router place.dst) l
    ∙ ap (λ x. led x (page_router routes.grid routes.classes b) (page_dst routes.grid b)) (page-class routes.grid routes.classes m r t place.dst place.class)
    ∙ ap (λ x. led m x (page_dst routes.grid b)) (page-sender routes.grid routes.classes m r t place.dst place.class)
    ∙ ap (led m r) (page-dst routes.grid routes.classes m r t place.dst)

pub rows_of-none : (rule : Rule) → ((rows : Vec RouteRow Global) → rule ≡ Rows rows → ⊥) → rows_of rule ≡ None
rows_of-none Dor other = refl
rows_of-none Dateline other = refl
rows_of-none WestFirst other = refl
rows_of-none Adaptive other = refl
rows_of-none (Rows rows) other = absurd (other rows refl)

-- what holds of each row of a rule that has none
pub All-none : (P : RouteRow → Type 0) (rule : Rule) → rows_of rule ≡ None → All P (table_rows_of rule)
All-none P rule none = rw none (λ k d l. absurd (omega arith))
