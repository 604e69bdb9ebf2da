-- The first row with a fault.
use Rattle.std.proofs.Common.{◌≡◌, ℕ, ◌+◌, ◌<◌, ◌≤◌, Bool, true, false, List, get_or, length, Option, Some, None, refl, sym, subst, ap, ◌∙◌, arith, inl, inr}
use Rattle.std.specs.Prelude.{◌⊎◌, is_some, if◌then◌else◌}
use Rattle.std.proofs.lemmas.Bool.{false≢true, cases_lt}
use Rattle.noc_topo.specs.Shape.{Grid, neighbour}
use Rattle.noc_route.specs.Order.{numbers_before, row_numbers, row_before}
use Rattle.noc_route.specs.Relation.{is_real_row, hop_fault, row_fault, earlier_fault, IsFirstFault}
use Rattle.noc_route.specs.declared.rule.RouteRow.{RouteRow}
use Rattle.noc_route.specs.declared.rule.RouteFault.{RouteFault}
use Rattle.noc_route.specs.declared.rule.RouteFault.TheVariants.{NoLink}
use Rattle.noc_route.proofs.OrderLemmas.{before-not-self, before-trans}
use Rattle.noc_route.proofs.OptionLemmas.{no-value}

-- what is wrong with a row, by what it names and where its output port leads
pub row_fault-unreal : (g : Grid) (vcs classes : ℕ) (row : RouteRow) → is_real_row g vcs classes row ≡ false → Some (NoLink row) ≡ row_fault g vcs classes row
row_fault-unreal g vcs classes row e = ap (λ b. if b then hop_fault g row (neighbour g row.router row.out_port) else Some (NoLink row)) (sym e)

pub row_fault-real : (g : Grid) (vcs classes : ℕ) (row : RouteRow) (to : Option (ℕ × ℕ)) → is_real_row g vcs classes row ≡ true → to ≡ neighbour g row.router row.out_port
    → hop_fault g row to ≡ row_fault g vcs classes row
row_fault-real g vcs classes row to e there =
    ap (hop_fault g row) there ∙ ap (λ b. if b then hop_fault g row (neighbour g row.router row.out_port) else Some (NoLink row)) (sym e)

pub row_fault-none : (g : Grid) (vcs classes : ℕ) (row : RouteRow) → row_fault g vcs classes row ≡ None → is_real_row g vcs classes row ≡ true
row_fault-none g vcs classes row none = at (is_real_row g vcs classes row) refl
  where
    at : (b : Bool) → is_real_row g vcs classes row ≡ b → is_real_row g vcs classes row ≡ true
    at true e = e
    at false e = let wrong : Some (NoLink row) ≡ None = row_fault-unreal g vcs classes row e ∙ none in cc wrong

-- a row is no earlier fault than another
abbrev pub IsNoEarlier : Grid → ℕ → ℕ → RouteRow → RouteRow → Type 0
IsNoEarlier g vcs classes other row = (row_fault g vcs classes other ≡ None) ⊎ (numbers_before (row_numbers other) (row_numbers row) ≡ false)

-- a row is the first with a fault among the first n
pub record IsLeast (g : Grid) (vcs classes : ℕ) (rows : List RouteRow) (n : ℕ) (row : RouteRow) : Type 0 where
  pub place : ℕ
  pub within : place < n
  pub there : (d : RouteRow) → get_or rows place d ≡ row
  pub faulty : is_some (row_fault g vcs classes row) ≡ true
  pub first : (k : ℕ) (d : RouteRow) → k < n → IsNoEarlier g vcs classes (get_or rows k d) row

abbrev pub IsFirstAmong : Grid → ℕ → ℕ → List RouteRow → ℕ → Option RouteRow → Type 0
IsFirstAmong g vcs classes rows n None = (k : ℕ) (d : RouteRow) → k < n → row_fault g vcs classes (get_or rows k d) ≡ None
IsFirstAmong g vcs classes rows n (Some row) = IsLeast g vcs classes rows n row

earlier_fault-whole : (g : Grid) (vcs classes : ℕ) (row : RouteRow) (other : Option RouteRow) → is_some (row_fault g vcs classes row) ≡ false → earlier_fault g vcs classes row other ≡ other
earlier_fault-whole g vcs classes row other e = rw e refl

earlier_fault-first : (g : Grid) (vcs classes : ℕ) (row : RouteRow) (other : Option RouteRow) → is_some (row_fault g vcs classes row) ≡ true → row_before row other ≡ true
    → earlier_fault g vcs classes row other ≡ Some row
earlier_fault-first g vcs classes row other e f = rw (e, f) refl

earlier_fault-later : (g : Grid) (vcs classes : ℕ) (row : RouteRow) (other : Option RouteRow) → row_before row other ≡ false → earlier_fault g vcs classes row other ≡ other
earlier_fault-later g vcs classes row other f = at (is_some (row_fault g vcs classes row)) refl
  where
    at : (b : Bool) → is_some (row_fault g vcs classes row) ≡ b → earlier_fault g vcs classes row other ≡ other
    at true e = rw (e, f) refl
    at false e = rw e refl

-- a row that is no earlier than one is no earlier than an earlier one
IsNoEarlier-earlier : (g : Grid) (vcs classes : ℕ) (other row first : RouteRow) → row_before first (Some row) ≡ true → IsNoEarlier g vcs classes other row → IsNoEarlier g vcs classes other first
IsNoEarlier-earlier g vcs classes other row first e (inl none) = inl none
IsNoEarlier-earlier g vcs classes other row first e (inr later) = at (numbers_before (row_numbers other) (row_numbers first)) refl
  where
    at : (b : Bool) → numbers_before (row_numbers other) (row_numbers first) ≡ b → IsNoEarlier g vcs classes other first
    at false f = inr f
    at true f = absurd (false≢true (sym later ∙ before-trans (row_numbers other) (row_numbers first) (row_numbers row) refl refl f e))

-- ---- a step of the loop

below_next : (k n : ℕ) → k < n + 1 → (k < n) ⊎ (k ≡ n)
below_next k n l = at (cases_lt k n)
  where
    at : (k < n) ⊎ (n ≤ k) → (k < n) ⊎ (k ≡ n)
    at (inl b) = inl b
    at (inr b) = inr (omega arith)

IsFirstAmong-kept : (g : Grid) (vcs classes : ℕ) (rows : List RouteRow) (n : ℕ) (row : RouteRow) (first : Option RouteRow) → ((d : RouteRow) → get_or rows n d ≡ row)
    → ((first ≡ None → row_fault g vcs classes row ≡ None) × ((r : RouteRow) → first ≡ Some r → IsNoEarlier g vcs classes row r))
    → IsFirstAmong g vcs classes rows n first → IsFirstAmong g vcs classes rows (n + 1) first
IsFirstAmong-kept g vcs classes rows n row None here fact h = λ k d l. at k d (below_next k n l)
  where
    at : (k : ℕ) (d : RouteRow) → (k < n) ⊎ (k ≡ n) → row_fault g vcs classes (get_or rows k d) ≡ None
    at k d (inl b) = h k d b
    at k d (inr e) = rw (e, here d) (fact.0 refl)
IsFirstAmong-kept g vcs classes rows n row (Some r) here fact h = record {
  place = h.place;
  within = omega (arith, h.within);
  there = h.there;
  faulty = h.faulty;
  first = λ k d l. at k d (below_next k n l);
}
  where
    at : (k : ℕ) (d : RouteRow) → (k < n) ⊎ (k ≡ n) → IsNoEarlier g vcs classes (get_or rows k d) r
    at k d (inl b) = h.first k d b
    at k d (inr e) = let P : RouteRow → Type 0 = λ x. IsNoEarlier g vcs classes x r in subst P (sym (ap (λ k. get_or rows k d) e ∙ here d)) (fact.1 r refl)

IsFirstAmong-new : (g : Grid) (vcs classes : ℕ) (rows : List RouteRow) (n : ℕ) (row : RouteRow) (first : Option RouteRow) → ((d : RouteRow) → get_or rows n d ≡ row)
    → is_some (row_fault g vcs classes row) ≡ true → row_before row first ≡ true
    → IsFirstAmong g vcs classes rows n first → IsFirstAmong g vcs classes rows (n + 1) (Some row)
IsFirstAmong-new g vcs classes rows n row first here faulty before h = record {
  place = n;
  within = omega arith;
  there = here;
  faulty = faulty;
  first = λ k d l. at first before h k d (below_next k n l);
}
  where
    at : (first : Option RouteRow) → row_before row first ≡ true → IsFirstAmong g vcs classes rows n first → (k : ℕ) (d : RouteRow) → (k < n) ⊎ (k ≡ n) → IsNoEarlier g vcs classes (get_or rows k d) row
    at None before h k d (inl b) = inl (h k d b)
    at (Some r) before h k d (inl b) = IsNoEarlier-earlier g vcs classes (get_or rows k d) r row before (h.first k d b)
    at first before h k d (inr e) =
        let P : RouteRow → Type 0 = λ x. IsNoEarlier g vcs classes x row in subst P (sym (ap (λ k. get_or rows k d) e ∙ here d)) (inr (before-not-self (row_numbers row)))

pub IsFirstAmong-more : (g : Grid) (vcs classes : ℕ) (rows : List RouteRow) (n : ℕ) (row : RouteRow) (first : Option RouteRow) → ((d : RouteRow) → get_or rows n d ≡ row)
    → IsFirstAmong g vcs classes rows n first → IsFirstAmong g vcs classes rows (n + 1) (earlier_fault g vcs classes row first)
IsFirstAmong-more g vcs classes rows n row first here h = at (is_some (row_fault g vcs classes row)) refl (row_before row first) refl
  where
    at : (b : Bool) → is_some (row_fault g vcs classes row) ≡ b → (c : Bool) → row_before row first ≡ c → IsFirstAmong g vcs classes rows (n + 1) (earlier_fault g vcs classes row first)
    at false e c f =
        let none : row_fault g vcs classes row ≡ None = no-value (row_fault g vcs classes row) e in
        let P : Option RouteRow → Type 0 = λ o. IsFirstAmong g vcs classes rows (n + 1) o in
        subst P (sym (earlier_fault-whole g vcs classes row first e)) (IsFirstAmong-kept g vcs classes rows n row first here (λ _. none, λ r q. inl none) h)
    at true e true f =
        let P : Option RouteRow → Type 0 = λ o. IsFirstAmong g vcs classes rows (n + 1) o in
        subst P (sym (earlier_fault-first g vcs classes row first e f)) (IsFirstAmong-new g vcs classes rows n row first here e f h)
    at true e false f =
        let P : Option RouteRow → Type 0 = λ o. IsFirstAmong g vcs classes rows (n + 1) o in
        subst P (sym (earlier_fault-later g vcs classes row first f))
        (IsFirstAmong-kept g vcs classes rows n row first here ((λ q. absurd (false≢true (sym f ∙ ap (row_before row) q))), (λ r q. inr (sym (ap (row_before row) q) ∙ f))) h)

-- the fault of the first row with one, at the loop's end
pub IsFirstFault-from_least : (g : Grid) (vcs classes : ℕ) (rows : List RouteRow) (row : RouteRow) (fault : RouteFault) → IsLeast g vcs classes rows (length rows) row
    → row_fault g vcs classes row ≡ Some fault → IsFirstFault g vcs classes rows fault
IsFirstFault-from_least g vcs classes rows row fault h e = record {
  row = row;
  there = (h.place, h.within, h.there row);
  faulty = e;
  first = λ k d l. h.first k d l;
}
