-- Rows and formulas have one ranking, and one first fault.
use Rattle.std.proofs.Common.{◌≡◌, ◌≢◌, ℕ, ◌+◌, ◌*◌, ◌/◌, ◌%◌, ◌<◌, Bool, true, false, List, [], ◌∷◌, length, get_or, Option, Some, None, refl, sym, subst, ap, ◌∙◌, arith, inl, inr}
use Rattle.std.specs.Prelude.{◌⊎◌, slice_get}
use Rattle.std.proofs.lemmas.Bool.{cases_order, false≢true}
use Rattle.std.proofs.lemmas.List.{ext_get_or}
use Rattle.noc_topo.specs.Shape.{Grid, nodes, local_port}
use Rattle.noc_route.specs.Order.{numbers_before}
use Rattle.noc_route.specs.Ranks.{Ranking, is_port_channel, rank_count, rank_at}
use Rattle.noc_route.specs.declared.rule.Rule.{Rule}
use Rattle.noc_route.proofs.OneFaultLemmas.{one_place}
use Rattle.noc_rank.specs.Formulas.{IsGenerated, IsFaultOfFormula}
use Rattle.noc_rank.specs.Ranking.{IsRanking}
use Rattle.noc_rank.specs.Rows.{AreGood, IsFirstRowFault, IsFirstMissing, IsFaultOfRows, IsRankingOf, listed_row_fault}
use Rattle.noc_rank.specs.declared.fault.RankFault.{RankFault}
use Rattle.noc_rank.specs.declared.fault.RankFault.TheVariants.{NoGenerated, NotRising, NotRisingTo, NoEscape, Memory, UnknownChannel, DoubleChannel, BadRank, MissingChannel}
use Rattle.noc_rank.specs.declared.rows.RankRow.{RankRow}
use Rattle.noc_rank.proofs.IndexLemmas.{rank_index-again, is_port_channel-decoded, vcs-some}

-- ---- rankings

-- a ranking with these numbers
abbrev ranking_with : Grid → ℕ → List (Option ℕ) → Ranking
ranking_with g vcs ranks = record { grid = g; vcs = vcs; ranks = ranks }

-- the rank at a place
rank-place : (g : Grid) (vcs : ℕ) (ranks : List (Option ℕ)) (j : ℕ) → IsRanking (ranking_with g vcs ranks) → j < length ranks
    → get_or ranks j None ≡ rank_at (ranking_with g vcs ranks) (j / vcs / local_port g) (j / vcs % local_port g) (j % vcs)
rank-place g vcs ranks j h l =
    let within : j < rank_count g vcs = omega (arith, l, h.long) in
    let some : 0 < vcs = vcs-some (nodes g * local_port g) vcs j within in
    let ports : 0 < local_port g = omega (arith, h.grid.some_dimensions) in
    let there : is_port_channel g vcs (j / vcs / local_port g) (j / vcs % local_port g) (j % vcs) ≡ true = is_port_channel-decoded g vcs j some ports within in
    sym (rw there (ap (λ x. get_or ranks x None) (rank_index-again g vcs j some ports)))

same-ranks : (g : Grid) (vcs : ℕ) (xs ys : List (Option ℕ)) → IsRanking (ranking_with g vcs xs) → IsRanking (ranking_with g vcs ys)
    → ((r p v : ℕ) → rank_at (ranking_with g vcs xs) r p v ≡ rank_at (ranking_with g vcs ys) r p v) → xs ≡ ys
same-ranks g vcs xs ys h u same =
    let long : length xs ≡ length ys = h.long ∙ sym u.long in
    ext_get_or None xs ys long (λ j l. rank-place g vcs xs j h l ∙ same _ _ _ ∙ sym (rank-place g vcs ys j u (omega (arith, long, l))))

-- two rankings of the same channels that give the same ranks are the same
same-ranking : (g : Grid) (vcs : ℕ) (k j : Ranking) → k.grid ≡ g → j.grid ≡ g → k.vcs ≡ vcs → j.vcs ≡ vcs → IsRanking k → IsRanking j
    → ((r p v : ℕ) → rank_at k r p v ≡ rank_at j r p v) → k ≡ j
same-ranking g vcs k j kg jg kv jv h u same =
    let over : k ≡ ranking_with g vcs k.ranks = λ i. record { grid = kg i; vcs = kv i; ranks = k.ranks } in
    let other : j ≡ ranking_with g vcs j.ranks = λ i. record { grid = jg i; vcs = jv i; ranks = j.ranks } in
    let P : Ranking → Type 0 = λ x. IsRanking x in
    let ranks : k.ranks ≡ j.ranks
    = same-ranks g vcs k.ranks j.ranks (subst P over h) (subst P other u)
    (λ r p v. ap (λ x. rank_at x r p v) (sym over) ∙ same r p v ∙ ap (λ x. rank_at x r p v) other) in
    over ∙ ap (ranking_with g vcs) ranks ∙ sym other

pub one-ranking : (g : Grid) (vcs : ℕ) (rows : List RankRow) (k j : Ranking) → IsRankingOf g vcs rows k → IsRankingOf g vcs rows j → k ≡ j
one-ranking g vcs rows k j a b = same-ranking g vcs k j a.grid b.grid a.vcs_are b.vcs_are a.ranking b.ranking (λ r p v. a.ranks r p v ∙ sym (b.ranks r p v))

pub one-generated : (g : Grid) (vcs classes : ℕ) (rule : Rule) (k j : Ranking) → IsGenerated g vcs classes rule k → IsGenerated g vcs classes rule j → k ≡ j
one-generated g vcs classes rule k j a b = same-ranking g vcs k j a.grid b.grid a.vcs_are b.vcs_are a.ranking b.ranking (λ r p v. a.ranks r p v ∙ sym (b.ranks r p v))

-- ---- formulas

pub formula-fault : (g : Grid) (vcs classes : ℕ) (rule : Rule) (f : RankFault) → f ≢ Memory → IsFaultOfFormula g vcs classes rule f → f ≡ NoGenerated
formula-fault g vcs classes rule NoGenerated p h = refl
formula-fault g vcs classes rule Memory p h = absurd (p refl)
formula-fault g vcs classes rule (NotRising e a b c d) p h = absurd h
formula-fault g vcs classes rule (NotRisingTo e o a b) p h = absurd h
formula-fault g vcs classes rule (NoEscape e) p h = absurd h
formula-fault g vcs classes rule (UnknownChannel i) p h = absurd h
formula-fault g vcs classes rule (DoubleChannel i) p h = absurd h
formula-fault g vcs classes rule (BadRank i) p h = absurd h
formula-fault g vcs classes rule (MissingChannel a b c) p h = absurd h

pub no-formula-fault : (g : Grid) (vcs classes : ℕ) (rule : Rule) (k : Ranking) → IsGenerated g vcs classes rule k → IsFaultOfFormula g vcs classes rule NoGenerated → ⊥
no-formula-fault g vcs classes rule k h e = false≢true (sym e ∙ h.ruled)

-- ---- rows

-- what a fault other than of memory says of rows
data RowsSay (g : Grid) (vcs : ℕ) (rows : List RankRow) (f : RankFault) : Type 0 where
  bad : IsFirstRowFault g vcs rows f → RowsSay g vcs rows f
  gap : {r p v : ℕ} → f ≡ MissingChannel r p v → IsFirstMissing g vcs rows r p v → RowsSay g vcs rows f

rows_say : (g : Grid) (vcs : ℕ) (rows : List RankRow) (f : RankFault) → f ≢ Memory → IsFaultOfRows g vcs rows f → RowsSay g vcs rows f
rows_say g vcs rows NoGenerated p h = bad h
rows_say g vcs rows Memory p h = absurd (p refl)
rows_say g vcs rows (NotRising e a b c d) p h = bad h
rows_say g vcs rows (NotRisingTo e o a b) p h = bad h
rows_say g vcs rows (NoEscape e) p h = bad h
rows_say g vcs rows (UnknownChannel i) p h = bad h
rows_say g vcs rows (DoubleChannel i) p h = bad h
rows_say g vcs rows (BadRank i) p h = bad h
rows_say g vcs rows (MissingChannel a b c) p h = gap refl h

no_bad : (g : Grid) (vcs : ℕ) (rows : List RankRow) (f : RankFault) → ((n : ℕ) → AreGood g vcs rows n) → IsFirstRowFault g vcs rows f → ⊥
no_bad g vcs rows f good h =
    let never : None ≡ Some f = sym (good (h.number + 1) h.number h.row (omega arith) h.there) ∙ h.faulty in
    absurd (cc never)

no_say : (g : Grid) (vcs : ℕ) (rows : List RankRow) (k : Ranking) (f : RankFault) → IsRankingOf g vcs rows k → RowsSay g vcs rows f → ⊥
no_say g vcs rows k f h (bad b) = no_bad g vcs rows f h.good b
no_say g vcs rows k f h (gap {r = r} {p = p} {v = v} e m) = false≢true (sym m.missing ∙ h.full r p v m.channel)

pub no-rows-fault : (g : Grid) (vcs : ℕ) (rows : List RankRow) (k : Ranking) (f : RankFault) → f ≢ Memory → IsRankingOf g vcs rows k → IsFaultOfRows g vcs rows f → ⊥
no-rows-fault g vcs rows k f p h e = no_say g vcs rows k f h (rows_say g vcs rows f p e)

-- the channel that no row names does not come before the first one
after_gap : (g : Grid) (vcs : ℕ) (rows : List RankRow) (r p v a q w : ℕ) → IsFirstMissing g vcs rows r p v → IsFirstMissing g vcs rows a q w
    → (b : Bool) → numbers_before (a ∷ q ∷ w ∷ []) (r ∷ p ∷ v ∷ []) ≡ b → numbers_before (a ∷ q ∷ w ∷ []) (r ∷ p ∷ v ∷ []) ≡ false
after_gap g vcs rows r p v a q w h u true e = absurd (false≢true (sym u.missing ∙ h.first a q w u.channel e))
after_gap g vcs rows r p v a q w h u false e = e

one_gap : (g : Grid) (vcs : ℕ) (rows : List RankRow) (r p v a q w : ℕ) → IsFirstMissing g vcs rows r p v → IsFirstMissing g vcs rows a q w → MissingChannel r p v ≡ MissingChannel a q w
one_gap g vcs rows r p v a q w h u =
    let same = one_place (r ∷ p ∷ v ∷ []) (a ∷ q ∷ w ∷ []) refl (after_gap g vcs rows a q w r p v u h _ refl) (after_gap g vcs rows r p v a q w h u _ refl) in
    ap (λ ns. MissingChannel (get_or ns 0 0) (get_or ns 1 0) (get_or ns 2 0)) same

one_bad : (g : Grid) (vcs : ℕ) (rows : List RankRow) (f k : RankFault) → IsFirstRowFault g vcs rows f → IsFirstRowFault g vcs rows k → f ≡ k
one_bad g vcs rows f k a b = at (cases_order a.number b.number)
  where
    at : (a.number ≡ b.number) ⊎ ((a.number < b.number) ⊎ (b.number < a.number)) → f ≡ k
    at (inl same) =
        let there : Some a.row ≡ Some b.row = sym a.there ∙ ap (slice_get rows) same ∙ b.there in
        let row : a.row ≡ b.row = cc in
        let both : Some f ≡ Some k = sym a.faulty ∙ ap (λ n. listed_row_fault g vcs rows n a.row) same ∙ ap (listed_row_fault g vcs rows b.number) row ∙ b.faulty in
        cc
    at (inr (inl less)) = let never : None ≡ Some f = sym (b.first a.number a.row less a.there) ∙ a.faulty in absurd (cc never)
    at (inr (inr more)) = let never : None ≡ Some k = sym (a.first b.number b.row more b.there) ∙ b.faulty in absurd (cc never)

one_say : (g : Grid) (vcs : ℕ) (rows : List RankRow) (f k : RankFault) → RowsSay g vcs rows f → RowsSay g vcs rows k → f ≡ k
one_say g vcs rows f k (bad a) (bad b) = one_bad g vcs rows f k a b
one_say g vcs rows f k (bad a) (gap e m) = absurd (no_bad g vcs rows f m.good a)
one_say g vcs rows f k (gap e m) (bad b) = absurd (no_bad g vcs rows k m.good b)
one_say g vcs rows f k (gap {r = r} {p = p} {v = v} e m) (gap {r = a} {p = q} {v = w} d n) = e ∙ one_gap g vcs rows r p v a q w m n ∙ sym d

pub one-rows-fault : (g : Grid) (vcs : ℕ) (rows : List RankRow) (f k : RankFault) → f ≢ Memory → k ≢ Memory → IsFaultOfRows g vcs rows f → IsFaultOfRows g vcs rows k → f ≡ k
one-rows-fault g vcs rows f k p q h u = one_say g vcs rows f k (rows_say g vcs rows f p h) (rows_say g vcs rows k q u)
