-- Rows, and the list into which they are entered.
use Rattle.std.proofs.Common.{◌≡◌, ◌≢◌, ℕ, ◌+◌, ◌/◌, ◌%◌, ◌<◌, ◌≤◌, Bool, true, false, List, [], ◌∷◌, ◌++◌, length, take, get_or, set, Option, Some, None, refl, ap, sym, subst, ◌∙◌, arith, inl, inr}
use Rattle.std.specs.Prelude.{nat_le, nat_eq, ◌&&◌, ◌⊎◌, slice_get, if◌then◌else◌}
use Rattle.std.proofs.Math.Seq.{take-length}
use Rattle.std.proofs.lemmas.Bool.{leb-true, eqb-true, eq-eqb, and_parts, false≢true, cases_lt}
use Rattle.std.proofs.lemmas.List.{length-set, get_or-set_same, get_or-set_other, take_more}
use Rattle.std.proofs.lemmas.Option.{slice_get_within, get_or_from_slice_get, same_Some, none-some}
use Rattle.noc_topo.specs.Shape.{Grid, IsGrid, local_port}
use Rattle.noc_topo.specs.Lists.{Each}
use Rattle.noc_rank.specs.declared.rows.RankRow.{RankRow}
use Rattle.noc_rank.specs.declared.rows.TheConstants.{MAX_RANK}
use Rattle.noc_rank.specs.declared.fault.RankFault.{RankFault}
use Rattle.noc_rank.specs.declared.fault.RankFault.TheVariants.{NoGenerated, NotRising, NotRisingTo, NoEscape, Memory, UnknownChannel, BadRank, DoubleChannel, MissingChannel}
use Rattle.noc_route.specs.Ranks.{Ranking, is_port_channel, is_channel, rank_count, rank_index, rank_at}
use Rattle.noc_rank.specs.Ranking.{IsRanking}
use Rattle.noc_rank.specs.Rows.{is_rank, names_channel, has_rank_row, rank_in, rank_row_fault, listed_row_fault, AreGood, IsFirstRowFault, IsFirstMissing, IsFaultOfRows, IsRankingOf}
use Rattle.noc_rank.specs.Entered.{IsRight, AreEntered, IsWhole, IsFirstGap}
use Rattle.noc_rank.proofs.IndexLemmas.{is_port_channel-parts, is_channel-index, rank_index-below, rank_index-vc, rank_index-port, rank_index-router, rank_index-again, rank_index-before}

-- ---- the fault of one row

pub fault_of-none : (g : Grid) (vcs : ℕ) (named : Bool) (i : ℕ) (row : RankRow) → rank_row_fault g vcs named i row ≡ None → IsRight g vcs row × (named ≡ false)
fault_of-none g vcs named i row e = at (is_channel g vcs row.router row.port row.vc) (is_rank row.rank) named refl refl refl
  where
    at : (a b d : Bool) → is_channel g vcs row.router row.port row.vc ≡ a → is_rank row.rank ≡ b → named ≡ d → IsRight g vcs row × (named ≡ false)
    at true true false x y z = (record { channel = x; limits = y }, z)
    at true true true x y z = let never : Some (DoubleChannel i) ≡ None = sym (rw (x, y, z)) ∙ e in absurd (cc never)
    at true false d x y z = let never : Some (BadRank i) ≡ None = sym (rw (x, y)) ∙ e in absurd (cc never)
    at false b d x y z = let never : Some (UnknownChannel i) ≡ None = sym (rw x) ∙ e in absurd (cc never)

pub fault_of-same : (g : Grid) (vcs : ℕ) (a b : Bool) (i : ℕ) (row : RankRow) → (is_channel g vcs row.router row.port row.vc ≡ true → a ≡ b) → rank_row_fault g vcs a i row ≡ rank_row_fault g vcs b i row
fault_of-same g vcs a b i row same = at (is_channel g vcs row.router row.port row.vc) refl
  where
    at : (t : Bool) → is_channel g vcs row.router row.port row.vc ≡ t → rank_row_fault g vcs a i row ≡ rank_row_fault g vcs b i row
    at true e = rw (same e) refl
    at false e = rw e refl

-- ---- the ranks of rows

is_rank-parts : (n : ℕ) → is_rank (Some n) ≡ true → (1 ≤ n) × (n ≤ MAX_RANK)
is_rank-parts n e = let parts = and_parts (nat_le 1 n) (nat_le n MAX_RANK) e in (leb-true 1 n parts.0, leb-true n MAX_RANK parts.1)

is_row_of-parts : (r p v : ℕ) (row : RankRow) → names_channel r p v row ≡ true → (row.router ≡ r) × (row.port ≡ p) × (row.vc ≡ v)
is_row_of-parts r p v row e =
    let a = and_parts (nat_eq row.router r && nat_eq row.port p) (nat_eq row.vc v) e in
    let b = and_parts (nat_eq row.router r) (nat_eq row.port p) a.0 in
    (eqb-true row.router r b.0, eqb-true row.port p b.1, eqb-true row.vc v a.1)

is_row_of-true : (r p v : ℕ) (row : RankRow) → row.router ≡ r → row.port ≡ p → row.vc ≡ v → names_channel r p v row ≡ true
is_row_of-true r p v row a b d =
    let x = eq-eqb row.router r a in
    let y = eq-eqb row.port p b in
    let z = eq-eqb row.vc v d in
    rw (x, y, z) refl

-- a rank that rows give is within the limits
pub rank_in-within : (g : Grid) (vcs : ℕ) (rows : List RankRow) (r p v n : ℕ) → Each (IsRight g vcs) rows → rank_in rows r p v ≡ Some n → (1 ≤ n) × (n ≤ MAX_RANK)
rank_in-within g vcs [] r p v n good e = absurd (none-some n e)
rank_in-within g vcs (row ∷ rows) r p v n good e = at (rank_in-within g vcs rows r p v n good.1) (names_channel r p v row) refl
  where
    at : (rank_in rows r p v ≡ Some n → (1 ≤ n) × (n ≤ MAX_RANK)) → (b : Bool) → names_channel r p v row ≡ b → (1 ≤ n) × (n ≤ MAX_RANK)
    at rest true f =
        let same : row.rank ≡ Some n = sym (rw f refl) ∙ e in
        is_rank-parts n (ap is_rank (sym same) ∙ good.0.limits)
    at rest false f = rest (sym (rw f refl) ∙ e)

-- and of a link channel
pub rank_in-real : (g : Grid) (vcs : ℕ) (rows : List RankRow) (r p v n : ℕ) → Each (IsRight g vcs) rows → rank_in rows r p v ≡ Some n → is_channel g vcs r p v ≡ true
rank_in-real g vcs [] r p v n good e = absurd (none-some n e)
rank_in-real g vcs (row ∷ rows) r p v n good e = at (rank_in-real g vcs rows r p v n good.1) (names_channel r p v row) refl
  where
    at : (rank_in rows r p v ≡ Some n → is_channel g vcs r p v ≡ true) → (b : Bool) → names_channel r p v row ≡ b → is_channel g vcs r p v ≡ true
    at rest true f = let parts = is_row_of-parts r p v row f in rw (parts.0, parts.1, parts.2) at good.0.channel
    at rest false f = rest (sym (rw f refl) ∙ e)

pub rank_in-none : (rows : List RankRow) (r p v : ℕ) → has_rank_row rows r p v ≡ false → rank_in rows r p v ≡ None
rank_in-none [] r p v e = refl
rank_in-none (row ∷ rows) r p v e = at (rank_in-none rows r p v) (names_channel r p v row) refl
  where
    at : (has_rank_row rows r p v ≡ false → rank_in rows r p v ≡ None) → (b : Bool) → names_channel r p v row ≡ b → rank_in (row ∷ rows) r p v ≡ None
    at rest true f = absurd (false≢true (sym e ∙ rw f refl))
    at rest false f = rw f (rest (sym (rw f) ∙ e))

-- rows that name link channels name places
pub has_row-place : (g : Grid) (vcs : ℕ) (rows : List RankRow) (r p v : ℕ) → Each (IsRight g vcs) rows → is_port_channel g vcs r p v ≡ false → has_rank_row rows r p v ≡ false
has_row-place g vcs [] r p v good e = refl
has_row-place g vcs (row ∷ rows) r p v good e = at (has_row-place g vcs rows r p v good.1 e) (names_channel r p v row) refl
  where
    at : has_rank_row rows r p v ≡ false → (b : Bool) → names_channel r p v row ≡ b → has_rank_row (row ∷ rows) r p v ≡ false
    at rest true f =
        let parts = is_row_of-parts r p v row f in
        let there : is_port_channel g vcs row.router row.port row.vc ≡ true = is_channel-index g vcs row.router row.port row.vc good.0.channel in
        let here : is_port_channel g vcs r p v ≡ true = rw (parts.0, parts.1, parts.2) at there in
        absurd (false≢true (sym e ∙ here))
    at rest false f = rw f rest

-- one more row, where none before names its channel
pub rank_in-push_same : (rows : List RankRow) (row : RankRow) (r p v : ℕ) → names_channel r p v row ≡ true → has_rank_row rows r p v ≡ false → rank_in (rows ++ row ∷ []) r p v ≡ row.rank
rank_in-push_same [] row r p v e none = rw e refl
rank_in-push_same (x ∷ rows) row r p v e none = at (rank_in-push_same rows row r p v e) (names_channel r p v x) refl
  where
    at : (has_rank_row rows r p v ≡ false → rank_in (rows ++ row ∷ []) r p v ≡ row.rank) → (b : Bool) → names_channel r p v x ≡ b → rank_in ((x ∷ rows) ++ row ∷ []) r p v ≡ row.rank
    at rest true f = absurd (false≢true (sym none ∙ rw f refl))
    at rest false f = rw f (rest (sym (rw f) ∙ none))

pub rank_in-push_other : (rows : List RankRow) (row : RankRow) (r p v : ℕ) → names_channel r p v row ≡ false → rank_in (rows ++ row ∷ []) r p v ≡ rank_in rows r p v
rank_in-push_other [] row r p v e = rw e refl
rank_in-push_other (x ∷ rows) row r p v e = at (rank_in-push_other rows row r p v e) (names_channel r p v x) refl
  where
    at : rank_in (rows ++ row ∷ []) r p v ≡ rank_in rows r p v → (b : Bool) → names_channel r p v x ≡ b → rank_in ((x ∷ rows) ++ row ∷ []) r p v ≡ rank_in (x ∷ rows) r p v
    at rest true f = rw f refl
    at rest false f = rw f rest

pub has_row-push_same : (rows : List RankRow) (row : RankRow) (r p v : ℕ) → names_channel r p v row ≡ true → has_rank_row (rows ++ row ∷ []) r p v ≡ true
has_row-push_same [] row r p v e = rw e refl
has_row-push_same (x ∷ rows) row r p v e = at (has_row-push_same rows row r p v e) (names_channel r p v x) refl
  where
    at : has_rank_row (rows ++ row ∷ []) r p v ≡ true → (b : Bool) → names_channel r p v x ≡ b → has_rank_row ((x ∷ rows) ++ row ∷ []) r p v ≡ true
    at rest true f = rw f refl
    at rest false f = rw f rest

pub has_row-push_other : (rows : List RankRow) (row : RankRow) (r p v : ℕ) → names_channel r p v row ≡ false → has_rank_row (rows ++ row ∷ []) r p v ≡ has_rank_row rows r p v
has_row-push_other [] row r p v e = rw e refl
has_row-push_other (x ∷ rows) row r p v e = at (has_row-push_other rows row r p v e) (names_channel r p v x) refl
  where
    at : has_rank_row (rows ++ row ∷ []) r p v ≡ has_rank_row rows r p v → (b : Bool) → names_channel r p v x ≡ b → has_rank_row ((x ∷ rows) ++ row ∷ []) r p v ≡ has_rank_row (x ∷ rows) r p v
    at rest true f = rw f refl
    at rest false f = rw f rest

Each-push : {X : Type 0} (P : X → Type 0) (xs : List X) (y : X) → Each P xs → P y → Each P (xs ++ y ∷ [])
Each-push P [] y all p = (p, tt)
Each-push P (x ∷ xs) y all p = (all.0, Each-push P xs y all.1 p)

-- ---- entering

pub AreEntered-blank : (g : Grid) (vcs : ℕ) (rows : List RankRow) (ranks : List (Option ℕ)) (named : List Bool) → length ranks ≡ rank_count g vcs → length named ≡ rank_count g vcs
    → ((k : ℕ) → k < rank_count g vcs → get_or ranks k None ≡ None) → ((k : ℕ) → k < rank_count g vcs → get_or named k false ≡ false) → AreEntered g vcs rows 0 ranks named
AreEntered-blank g vcs rows ranks named long all blank free = record {
  long = long;
  all = all;
  good = λ i row l. absurd (omega arith);
  right = none rows;
  stored = λ r p v e. blank (rank_index g vcs r p v) (rank_index-below g vcs r p v e) ∙ nothing rows r p v;
  noted = λ r p v e. free (rank_index g vcs r p v) (rank_index-below g vcs r p v e) ∙ unnamed rows r p v;
}
  where
    none : (rows : List RankRow) → Each (IsRight g vcs) (take 0 rows)
    none [] = tt
    none (row ∷ rows) = tt

    nothing : (rows : List RankRow) (r p v : ℕ) → None ≡ rank_in (take 0 rows) r p v
    nothing [] r p v = refl
    nothing (row ∷ rows) r p v = refl

    unnamed : (rows : List RankRow) (r p v : ℕ) → false ≡ has_rank_row (take 0 rows) r p v
    unnamed [] r p v = refl
    unnamed (row ∷ rows) r p v = refl

-- the fault of a row as the list of named channels shows it
pub row_fault-stored : (g : Grid) (vcs : ℕ) (rows : List RankRow) (n : ℕ) (ranks : List (Option ℕ)) (named : List Bool) (row : RankRow) → AreEntered g vcs rows n ranks named
    → rank_row_fault g vcs (get_or named (rank_index g vcs row.router row.port row.vc) false) n row ≡ listed_row_fault g vcs rows n row
row_fault-stored g vcs rows n ranks named row entered =
    fault_of-same g vcs (get_or named (rank_index g vcs row.router row.port row.vc) false) (has_rank_row (take n rows) row.router row.port row.vc) n row
    (λ channel. entered.noted row.router row.port row.vc (is_channel-index g vcs row.router row.port row.vc channel))

AreGood-more : (g : Grid) (vcs : ℕ) (rows : List RankRow) (n : ℕ) (row : RankRow) → slice_get rows n ≡ Some row → listed_row_fault g vcs rows n row ≡ None → AreGood g vcs rows n → AreGood g vcs rows (n + 1)
AreGood-more g vcs rows n row there none good i other l e = at (cases_lt i n)
  where
    at : (i < n) ⊎ (n ≤ i) → listed_row_fault g vcs rows i other ≡ None
    at (inl less) = good i other less e
    at (inr more) =
        let last : n ≡ i = omega arith in
        let same : row ≡ other = same_Some row other (sym there ∙ ap (slice_get rows) last ∙ e) in
        ap (λ (k : ℕ). listed_row_fault g vcs rows k other) (sym last) ∙ ap (listed_row_fault g vcs rows n) (sym same) ∙ none

rank_index-differs : (g : Grid) (vcs r p v : ℕ) (row : RankRow) → is_port_channel g vcs r p v ≡ true → is_port_channel g vcs row.router row.port row.vc ≡ true → names_channel r p v row ≡ false
    → rank_index g vcs r p v ≢ rank_index g vcs row.router row.port row.vc
rank_index-differs g vcs r p v row d e unlike same =
    let here = is_port_channel-parts g vcs r p v d in
    let there = is_port_channel-parts g vcs row.router row.port row.vc e in
    let router = sym (rank_index-router g vcs row.router row.port row.vc there.1 there.2) ∙ ap (λ k. k / vcs / local_port g) (sym same) ∙ rank_index-router g vcs r p v here.1 here.2 in
    let port = sym (rank_index-port g vcs row.router row.port row.vc there.1 there.2) ∙ ap (λ k. k / vcs % local_port g) (sym same) ∙ rank_index-port g vcs r p v here.1 here.2 in
    let vc = sym (rank_index-vc g vcs row.router row.port row.vc there.2) ∙ ap (λ k. k % vcs) (sym same) ∙ rank_index-vc g vcs r p v here.2 in
    false≢true (sym unlike ∙ is_row_of-true r p v row router port vc)

pub AreEntered-more : (g : Grid) (vcs : ℕ) (rows : List RankRow) (n : ℕ) (ranks : List (Option ℕ)) (named : List Bool) (row : RankRow) → slice_get rows n ≡ Some row → listed_row_fault g vcs rows n row ≡ None
    → AreEntered g vcs rows n ranks named
    → AreEntered g vcs rows (n + 1) (set ranks (rank_index g vcs row.router row.port row.vc) row.rank) (set named (rank_index g vcs row.router row.port row.vc) true)
AreEntered-more g vcs rows n ranks named row there none entered =
    let facts = fault_of-none g vcs (has_rank_row (take n rows) row.router row.port row.vc) n row none in
    let k = rank_index g vcs row.router row.port row.vc in
    let more : take (n + 1) rows ≡ take n rows ++ row ∷ [] = take_more rows n row (slice_get_within rows n row there) ∙ ap (λ x. take n rows ++ x ∷ []) (get_or_from_slice_get rows n row row there) in
    let known : is_port_channel g vcs row.router row.port row.vc ≡ true = is_channel-index g vcs row.router row.port row.vc facts.0.channel in
    record {
      long = length-set ranks k row.rank ∙ entered.long;
      all = length-set named k true ∙ entered.all;
      good = AreGood-more g vcs rows n row there none entered.good;
      right = rw more (Each-push (IsRight g vcs) (take n rows) row entered.right facts.0);
      stored = λ r p v e. rw more (stored_at facts.1 known r p v e (names_channel r p v row) refl);
      noted = λ r p v e. rw more (noted_at known r p v e (names_channel r p v row) refl);
    }
  where
    same_place : (r p v : ℕ) → names_channel r p v row ≡ true → rank_index g vcs r p v ≡ (rank_index g vcs row.router row.port row.vc)
    same_place r p v f = let parts = is_row_of-parts r p v row f in rw (parts.0, parts.1, parts.2) refl

    stored_at : has_rank_row (take n rows) row.router row.port row.vc ≡ false → is_port_channel g vcs row.router row.port row.vc ≡ true → (r p v : ℕ) → is_port_channel g vcs r p v ≡ true → (b : Bool) → names_channel r p v row ≡ b
        → get_or (set ranks (rank_index g vcs row.router row.port row.vc) row.rank) (rank_index g vcs r p v) None ≡ rank_in (take n rows ++ row ∷ []) r p v
    stored_at fresh known r p v e true f =
        let parts = is_row_of-parts r p v row f in
        let below : (rank_index g vcs row.router row.port row.vc) < length ranks = omega (arith, entered.long, rank_index-below g vcs row.router row.port row.vc known) in
        let free : has_rank_row (take n rows) r p v ≡ false = rw (parts.0, parts.1, parts.2) at fresh in
        ap (λ k. get_or (set ranks (rank_index g vcs row.router row.port row.vc) row.rank) k None) (same_place r p v f)
        ∙ get_or-set_same ranks (rank_index g vcs row.router row.port row.vc) row.rank None below
        ∙ sym (rank_in-push_same (take n rows) row r p v f free)
    stored_at fresh known r p v e false f =
        get_or-set_other ranks (rank_index g vcs row.router row.port row.vc) (rank_index g vcs r p v) row.rank None (rank_index-differs g vcs r p v row e known f)
        ∙ entered.stored r p v e
        ∙ sym (rank_in-push_other (take n rows) row r p v f)

    noted_at : is_port_channel g vcs row.router row.port row.vc ≡ true → (r p v : ℕ) → is_port_channel g vcs r p v ≡ true → (b : Bool) → names_channel r p v row ≡ b
        → get_or (set named (rank_index g vcs row.router row.port row.vc) true) (rank_index g vcs r p v) false ≡ has_rank_row (take n rows ++ row ∷ []) r p v
    noted_at known r p v e true f =
        let below : (rank_index g vcs row.router row.port row.vc) < length named = omega (arith, entered.all, rank_index-below g vcs row.router row.port row.vc known) in
        ap (λ k. get_or (set named (rank_index g vcs row.router row.port row.vc) true) k false) (same_place r p v f)
        ∙ get_or-set_same named (rank_index g vcs row.router row.port row.vc) true false below
        ∙ sym (has_row-push_same (take n rows) row r p v f)
    noted_at known r p v e false f =
        get_or-set_other named (rank_index g vcs row.router row.port row.vc) (rank_index g vcs r p v) true false (rank_index-differs g vcs r p v row e known f)
        ∙ entered.noted r p v e
        ∙ sym (has_row-push_other (take n rows) row r p v f)

-- ---- when all rows are entered

module _ (g : Grid) (vcs : ℕ) (rows : List RankRow) (ranks : List (Option ℕ)) (named : List Bool) (entered : AreEntered g vcs rows (length rows) ranks named) where
  all_good : (n : ℕ) → AreGood g vcs rows n
  all_good n i row l e = entered.good i row (slice_get_within rows i row e) e

  all_right : Each (IsRight g vcs) rows
  all_right = rw take-length at entered.right

  all_stored : (r p v : ℕ) → is_port_channel g vcs r p v ≡ true → get_or ranks (rank_index g vcs r p v) None ≡ rank_in rows r p v
  all_stored r p v e = entered.stored r p v e ∙ ap (λ xs. rank_in xs r p v) (take-length rows)

  all_noted : (r p v : ℕ) → is_port_channel g vcs r p v ≡ true → get_or named (rank_index g vcs r p v) false ≡ has_rank_row rows r p v
  all_noted r p v e = entered.noted r p v e ∙ ap (λ xs. has_rank_row xs r p v) (take-length rows)

  full-before : (n : ℕ) → IsWhole g vcs named n → (r p v : ℕ) → is_channel g vcs r p v ≡ true → rank_index g vcs r p v < n → has_rank_row rows r p v ≡ true
  full-before n whole r p v e l = sym (all_noted r p v (is_channel-index g vcs r p v e)) ∙ whole r p v e l

  pub IsFirstMissing-from_gap : (r p v : ℕ) → is_channel g vcs r p v ≡ true → get_or named (rank_index g vcs r p v) false ≡ false → IsWhole g vcs named (rank_index g vcs r p v) → IsFirstMissing g vcs rows r p v
  IsFirstMissing-from_gap r p v e none whole =
      let here = is_channel-index g vcs r p v e in
      record {
        good = all_good;
        channel = e;
        missing = sym (all_noted r p v here) ∙ none;
        first = λ a q w f before. full-before (rank_index g vcs r p v) whole a q w f (rank_index-before g vcs a q w r p v (is_channel-index g vcs a q w f) here before);
      }

  at_place : (r p v : ℕ) → (b : Bool) → is_port_channel g vcs r p v ≡ b → (if b then get_or ranks (rank_index g vcs r p v) None else None) ≡ rank_in rows r p v
  at_place r p v true e = all_stored r p v e
  at_place r p v false e = sym (rank_in-none rows r p v (has_row-place g vcs rows r p v all_right e))

  -- the list as ranks of the shape
  abbrev ranking : Ranking
  ranking = record { grid = g; vcs = vcs; ranks = ranks }

  real_at : (r p v n : ℕ) → rank_at ranking r p v ≡ Some n → is_channel g vcs r p v ≡ true
  real_at r p v n e = rank_in-real g vcs rows r p v n all_right (sym (at_place r p v (is_port_channel g vcs r p v) refl) ∙ e)

  within_at : (r p v n : ℕ) → rank_at ranking r p v ≡ Some n → (1 ≤ n) × (n ≤ MAX_RANK)
  within_at r p v n e = rank_in-within g vcs rows r p v n all_right (sym (at_place r p v (is_port_channel g vcs r p v) refl) ∙ e)

  pub IsRanking-entered : IsGrid g → IsRanking ranking
  IsRanking-entered sound = record { grid = sound; long = entered.long; real = real_at; low = λ r p v n e. (within_at r p v n e).0; high = λ r p v n e. (within_at r p v n e).1 }

  pub IsRankingOf-entered : IsGrid g → IsWhole g vcs named (length named) → IsRankingOf g vcs rows ranking
  IsRankingOf-entered sound whole = record {
    grid = refl;
    vcs_are = refl;
    ranking = IsRanking-entered sound;
    good = all_good;
    full = λ r p v e. full-before (length named) whole r p v e (omega (arith, entered.all, rank_index-below g vcs r p v (is_channel-index g vcs r p v e)));
    ranks = λ r p v. at_place r p v (is_port_channel g vcs r p v) refl;
  }

  pub IsFaultOfRows-gap : (fault : RankFault) → IsFirstGap g vcs named fault → IsFaultOfRows g vcs rows fault
  IsFaultOfRows-gap fault gap =
      let P : RankFault → Type 0 = λ f. IsFaultOfRows g vcs rows f in
      subst P (sym gap.named) (IsFirstMissing-from_gap gap.router gap.port gap.vc gap.channel gap.free gap.first)

-- the fault of a row is a fault of the rows
pub IsFaultOfRows-row : (g : Grid) (vcs : ℕ) (rows : List RankRow) (fault : RankFault) → IsFirstRowFault g vcs rows fault → IsFaultOfRows g vcs rows fault
IsFaultOfRows-row g vcs rows Memory h = tt
IsFaultOfRows-row g vcs rows (MissingChannel r p v) h = absurd (never (is_channel g vcs h.row.router h.row.port h.row.vc) (is_rank h.row.rank) (has_rank_row (take h.number rows) h.row.router h.row.port h.row.vc) refl refl refl)
  where
    never : (a b d : Bool) → is_channel g vcs h.row.router h.row.port h.row.vc ≡ a → is_rank h.row.rank ≡ b → has_rank_row (take h.number rows) h.row.router h.row.port h.row.vc ≡ d → ⊥
    never true true false x y z = let n : None ≡ Some (MissingChannel r p v) = sym (rw (x, y, z)) ∙ h.faulty in cc n
    never true true true x y z = let n : Some (DoubleChannel h.number) ≡ Some (MissingChannel r p v) = sym (rw (x, y, z)) ∙ h.faulty in cc n
    never true false d x y z = let n : Some (BadRank h.number) ≡ Some (MissingChannel r p v) = sym (rw (x, y)) ∙ h.faulty in cc n
    never false b d x y z = let n : Some (UnknownChannel h.number) ≡ Some (MissingChannel r p v) = sym (rw x) ∙ h.faulty in cc n
IsFaultOfRows-row g vcs rows NoGenerated h = h
IsFaultOfRows-row g vcs rows (NotRising entry q w a b) h = h
IsFaultOfRows-row g vcs rows (NotRisingTo e o a b) h = h
IsFaultOfRows-row g vcs rows (NoEscape e) h = h
IsFaultOfRows-row g vcs rows (UnknownChannel i) h = h
IsFaultOfRows-row g vcs rows (DoubleChannel i) h = h
IsFaultOfRows-row g vcs rows (BadRank i) h = h

-- ---- the first link channel that is not named

pub IsWhole-more : (g : Grid) (vcs : ℕ) (named : List Bool) (n : ℕ) → (is_channel g vcs (n / vcs / local_port g) (n / vcs % local_port g) (n % vcs) ≡ true → get_or named n false ≡ true) → IsWhole g vcs named n → IsWhole g vcs named (n + 1)
IsWhole-more g vcs named n here whole r p v e l = at (cases_lt (rank_index g vcs r p v) n)
  where
    at : (rank_index g vcs r p v < n) ⊎ (n ≤ rank_index g vcs r p v) → get_or named (rank_index g vcs r p v) false ≡ true
    at (inl less) = whole r p v e less
    at (inr more) =
        let parts = is_port_channel-parts g vcs r p v (is_channel-index g vcs r p v e) in
        let same : rank_index g vcs r p v ≡ n = omega arith in
        let router : n / vcs / local_port g ≡ r = rw (← same) (rank_index-router g vcs r p v parts.1 parts.2) in
        let port : n / vcs % local_port g ≡ p = rw (← same) (rank_index-port g vcs r p v parts.1 parts.2) in
        let vc : n % vcs ≡ v = rw (← same) (rank_index-vc g vcs r p v parts.2) in
        rw same (here (rw (router, port, vc) e))

pub IsFirstGap-here : (g : Grid) (vcs : ℕ) (named : List Bool) (n : ℕ) → 0 < vcs → 0 < local_port g → is_channel g vcs (n / vcs / local_port g) (n / vcs % local_port g) (n % vcs) ≡ true
    → get_or named n false ≡ false → IsWhole g vcs named n → IsFirstGap g vcs named (MissingChannel (n / vcs / local_port g) (n / vcs % local_port g) (n % vcs))
IsFirstGap-here g vcs named n some ports e none whole =
    let again : rank_index g vcs (n / vcs / local_port g) (n / vcs % local_port g) (n % vcs) ≡ n = rank_index-again g vcs n some ports in
    record {
      router = n / vcs / local_port g;
      port = n / vcs % local_port g;
      vc = n % vcs;
      named = refl;
      channel = e;
      free = rw again none;
      first = rw again whole;
    }
