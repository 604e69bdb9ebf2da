-- A file of ranks has each link channel once with its rank, and is read back.
use Rattle.std.proofs.Common.{◌≡◌, inl, inr, ℕ, zero, suc, ◌+◌, ◌^◌, ◌<◌, Bool, true, false, List, [], ◌∷◌, ◌++◌, flat_map, map, Option, Some, None, Ok, refl, sym, ap, ◌∙◌, arith, subst}
use Rattle.std.specs.Prelude.{◌&&◌, is_some, nat_lt}
use Rattle.std.specs.List.{AllZip}
use Rattle.std.proofs.lemmas.Bool.{leb-true, lt-ltb}
use Rattle.std.proofs.lemmas.Bool.Decides.{nat_tests}
use Rattle.std.proofs.lemmas.List.Concat.{flat_map_single}
use Rattle.std.proofs.lemmas.List.Folds.{flat_map-map}
use Rattle.noc_route.specs.Order.{numbers_before}
use Rattle.noc_route.specs.Ranks.{Ranking, is_channel}
use Rattle.noc_rank.specs.Ranking.{IsRanking}
use Rattle.noc_rank.specs.declared.rows.RankRow.{RankRow}
use Rattle.noc_topo.specs.Shape.{Grid, local_port, neighbour, nodes}
use Rattle.noc_topo.specs.Lists.{below, Each, Has, Pairs}
use Rattle.noc_files.specs.Plain.{IsPlain, IsPlainRow, plain_text, row_line}
use Rattle.noc_files.specs.Ranks.{RowIsBefore, IsRankField, IsRankOf, ListsRanks, WritesRank, adaptive, rank_header, port_rows, rank_fields, rank_line, rank_row, rank_rows, rank_text, ranks_of, ranks_text, router_rows}
use Rattle.noc_files.proofs.BelowLemmas.{each_more, each_split, later}
use Rattle.noc_files.proofs.NumeralLemmas.{decimal_numeral, plain_decimal, some_decimal}
use Rattle.noc_files.proofs.PlainLemmas.{bytes_are_plain, is_plain_row, plain_rows}
use Rattle.noc_files.proofs.PortLemmas.{port_plain}
use Rattle.noc_files.proofs.RankLemmas.{is_rank_file}
use Rattle.noc_files.proofs.SheetLemmas.{both}

-- ---- what holds of lists of lists

each_and : {X : Type 0} (P : X → Type 0) (xs ys : List X) → Each P xs → Each P ys → Each P (xs ++ ys)
each_and P [] ys a b = b
each_and P (x ∷ xs) ys a b = (a.0, each_and P xs ys a.1 b)

each_follows : {X : Type 0} (P Q : X → Type 0) → ((x : X) → P x → Q x) → (xs : List X) → Each P xs → Each Q xs
each_follows P Q f [] h = tt
each_follows P Q f (x ∷ xs) h = (f x h.0, each_follows P Q f xs h.1)

has_left : {X : Type 0} (x : X) (xs ys : List X) → Has x xs → Has x (xs ++ ys)
has_left x [] ys h = absurd h
has_left x (y ∷ xs) ys (inl e) = inl e
has_left x (y ∷ xs) ys (inr h) = inr (has_left x xs ys h)

has_right : {X : Type 0} (x : X) (xs ys : List X) → Has x ys → Has x (xs ++ ys)
has_right x [] ys h = h
has_right x (y ∷ xs) ys h = inr (has_right x xs ys h)

pairs_and : {X : Type 0} (R : X → X → Type 0) (xs ys : List X) → Pairs R xs → Pairs R ys → Each (λ x. Each (R x) ys) xs → Pairs R (xs ++ ys)
pairs_and R [] ys a b across = b
pairs_and R (x ∷ xs) ys a b across = (each_and (R x) xs ys a.0 across.0, pairs_and R xs ys a.1 b across.1)

none_each : {X : Type 0} (P : X → Type 0) (f : ℕ → List X) → Each P (flat_map f (below 0))
unfolding below
none_each P f = tt

none_pairs : {X : Type 0} (R : X → X → Type 0) (f : ℕ → List X) → Pairs R (flat_map f (below 0))
unfolding below
none_pairs R f = tt

each_below : {X : Type 0} (P : X → Type 0) (f : ℕ → List X) (n : ℕ) → ((k : ℕ) → k < n → Each P (f k)) → Each P (flat_map f (below n))
each_below P f zero h = none_each P f
each_below {X} P f (suc n) h =
    let next : n + 1 ≡ suc n = omega arith in
    let all : Each P (flat_map f (below (n + 1))) = rw (each_more f n) (each_and P (flat_map f (below n)) (f n) (each_below P f n (λ k less. h k (omega arith))) (h n (omega arith))) in
    subst (λ (m : ℕ). Each P (flat_map f (below m))) next all

has_below : {X : Type 0} (x : X) (f : ℕ → List X) (n k : ℕ) → k < n → Has x (f k) → Has x (flat_map f (below n))
has_below x f n k less h =
    rw (each_split f k n less) (has_left x (flat_map f (below k) ++ f k) (flat_map f (later k n)) (has_right x (flat_map f (below k)) (f k) h))

pairs_below : {X : Type 0} (R : X → X → Type 0) (f : ℕ → List X) (n : ℕ) → ((k : ℕ) → k < n → Pairs R (f k)) → ((j k : ℕ) → j < k → k < n → Each (λ x. Each (R x) (f k)) (f j)) → Pairs R (flat_map f (below n))
pairs_below R f zero inside across = none_pairs R f
pairs_below {X} R f (suc n) inside across =
    let next : n + 1 ≡ suc n = omega arith in
    let all : Pairs R (flat_map f (below (n + 1))) =
    rw (each_more f n)
    (pairs_and R (flat_map f (below n)) (f n) (pairs_below R f n (λ k less. inside k (omega arith)) (λ j k low high. across j k low (omega arith))) (inside n (omega arith)) (each_below (λ x. Each (R x) (f n)) f n (λ j less. across j n less (omega arith)))) in
    subst (λ (m : ℕ). Pairs R (flat_map f (below m))) next all

-- ---- the channels of a port, of a router, and of all

pub channel_is : (g : Grid) (vcs r p v : ℕ) → r < nodes g → p < local_port g → v < vcs → is_some (neighbour g r p) ≡ true → is_channel g vcs r p v ≡ true
channel_is g vcs r p v router port vc link = rw (link, lt-ltb r (nodes g) router, lt-ltb p (local_port g) port, lt-ltb v vcs vc) refl

-- a row of this port of this router, of a link channel and its rank
record IsOfPort (k : Ranking) (r p : ℕ) (row : RankRow) : Type 0 where
  router : row.router ≡ r
  port : row.port ≡ p
  rank : IsRankOf k row

record IsOfRouter (k : Ranking) (r : ℕ) (row : RankRow) : Type 0 where
  router : row.router ≡ r
  rank : IsRankOf k row

before_vc : (r p v w : ℕ) → v < w → numbers_before (r ∷ p ∷ v ∷ []) (r ∷ p ∷ w ∷ []) ≡ true
before_vc r p v w h = grind (arith, nat_tests)

before_port : (r p q v w : ℕ) → p < q → numbers_before (r ∷ p ∷ v ∷ []) (r ∷ q ∷ w ∷ []) ≡ true
before_port r p q v w h = grind (arith, nat_tests)

before_router : (r s p q v w : ℕ) → r < s → numbers_before (r ∷ p ∷ v ∷ []) (s ∷ q ∷ w ∷ []) ≡ true
before_router r s p q v w h = grind (arith, nat_tests)

port_rows_are : (k : Ranking) (r p : ℕ) → is_some (neighbour k.grid r p) ≡ true → port_rows k r p ≡ flat_map (λ v. rank_row k r p v ∷ []) (below k.vcs)
unfolding port_rows
port_rows_are k r p link = rw link (sym (flat_map_single (rank_row k r p) (below k.vcs)))

port_rows_none : (k : Ranking) (r p : ℕ) → is_some (neighbour k.grid r p) ≡ false → port_rows k r p ≡ []
unfolding port_rows
port_rows_none k r p border = rw border refl

each_of_port : (k : Ranking) (r p : ℕ) → r < nodes k.grid → p < local_port k.grid → Each (IsOfPort k r p) (port_rows k r p)
each_of_port k r p router port = by (is_some (neighbour k.grid r p)) refl
  where
    by : (b : Bool) → is_some (neighbour k.grid r p) ≡ b → Each (IsOfPort k r p) (port_rows k r p)
    by true link =
        rw (port_rows_are k r p link)
        (each_below (IsOfPort k r p) (λ v. rank_row k r p v ∷ []) k.vcs (λ v vc. (record { router = refl; port = refl; rank = record { channel = channel_is k.grid k.vcs r p v router port vc link; rank = refl } }, tt)))
    by false border = rw (port_rows_none k r p border) tt

each_of_router : (k : Ranking) (r : ℕ) → r < nodes k.grid → Each (IsOfRouter k r) (router_rows k r)
unfolding router_rows
each_of_router k r router =
    each_below (IsOfRouter k r) (port_rows k r) (local_port k.grid) (λ p port. each_follows (IsOfPort k r p) (IsOfRouter k r) (λ row h. record { router = h.router; rank = h.rank }) (port_rows k r p) (each_of_port k r p router port))

each_rank : (k : Ranking) → Each (IsRankOf k) (rank_rows k)
unfolding rank_rows
each_rank k = each_below (IsRankOf k) (router_rows k) (nodes k.grid) (λ r router. each_follows (IsOfRouter k r) (IsRankOf k) (λ row h. h.rank) (router_rows k r) (each_of_router k r router))

port_rises : (k : Ranking) (r p : ℕ) → Pairs RowIsBefore (port_rows k r p)
port_rises k r p = by (is_some (neighbour k.grid r p)) refl
  where
    by : (b : Bool) → is_some (neighbour k.grid r p) ≡ b → Pairs RowIsBefore (port_rows k r p)
    by true link = rw (port_rows_are k r p link) (pairs_below RowIsBefore (λ v. rank_row k r p v ∷ []) k.vcs (λ v vc. (tt, tt)) (λ v w low high. ((before_vc r p v w low, tt), tt)))
    by false border = rw (port_rows_none k r p border) tt

router_rises : (k : Ranking) (r : ℕ) → r < nodes k.grid → Pairs RowIsBefore (router_rows k r)
unfolding router_rows
router_rises k r router =
    pairs_below RowIsBefore (port_rows k r) (local_port k.grid) (λ p port. port_rises k r p)
    (λ p q low high.
    each_follows (IsOfPort k r p) (λ x. Each (RowIsBefore x) (port_rows k r q))
    (λ x h. each_follows (IsOfPort k r q) (RowIsBefore x) (λ y i. rw (h.router, h.port, i.router, i.port) (before_port r p q x.vc y.vc low)) (port_rows k r q) (each_of_port k r q router high)) (port_rows k r p)
    (each_of_port k r p router (omega arith)))

all_rise : (k : Ranking) → Pairs RowIsBefore (rank_rows k)
unfolding rank_rows
all_rise k =
    pairs_below RowIsBefore (router_rows k) (nodes k.grid) (λ r router. router_rises k r router)
    (λ r s low high.
    each_follows (IsOfRouter k r) (λ x. Each (RowIsBefore x) (router_rows k s))
    (λ x h. each_follows (IsOfRouter k s) (RowIsBefore x) (λ y i. rw (h.router, i.router) (before_router r s x.port y.port x.vc y.vc low)) (router_rows k s) (each_of_router k s high)) (router_rows k r)
    (each_of_router k r (omega arith)))

-- where a link channel is
record IsThere (g : Grid) (vcs r p v : ℕ) : Type 0 where
  router : r < nodes g
  port : p < local_port g
  vc : v < vcs
  link : is_some (neighbour g r p) ≡ true

there_parts : (g : Grid) (vcs r p v : ℕ) → is_channel g vcs r p v ≡ true → IsThere g vcs r p v
there_parts g vcs r p v e =
    let linked = both (nat_lt r (nodes g) && nat_lt p (local_port g) && nat_lt v vcs) (is_some (neighbour g r p)) e in
    let last = both (nat_lt r (nodes g) && nat_lt p (local_port g)) (nat_lt v vcs) linked.0 in
    let first = both (nat_lt r (nodes g)) (nat_lt p (local_port g)) last.0 in
    record { router = leb-true (suc r) (nodes g) first.0; port = leb-true (suc p) (local_port g) first.1; vc = leb-true (suc v) vcs last.1; link = linked.1 }

each_there : (k : Ranking) (r p v : ℕ) → is_channel k.grid k.vcs r p v ≡ true → Has (rank_row k r p v) (rank_rows k)
unfolding rank_rows router_rows
each_there k r p v e =
    let place = there_parts k.grid k.vcs r p v e in
    let in_port : Has (rank_row k r p v) (port_rows k r p) = rw (port_rows_are k r p place.link) (has_below (rank_row k r p v) (λ w. rank_row k r p w ∷ []) k.vcs v place.vc (inl refl)) in
    has_below (rank_row k r p v) (router_rows k) (nodes k.grid) r place.router (has_below (rank_row k r p v) (port_rows k r) (local_port k.grid) p place.port in_port)

-- the rows are each link channel once
pub ranks_listed : (k : Ranking) → ListsRanks k (rank_rows k)
ranks_listed k = record { there = each_there k; ranks = each_rank k; rising = all_rise k }

-- ---- the file is read back

-- a rank is below the limit
rank_fits : (k : Ranking) → IsRanking k → (row : RankRow) → IsRankOf k row → (n : ℕ) → row.rank ≡ Some n → n < 2 ^ 32
rank_fits k ranking row h n e = let high = ranking.high row.router row.port row.vc n (sym h.rank ∙ e) in omega (arith, high)

rank_plain : (k : Ranking) → IsRanking k → (row : RankRow) → IsRankOf k row → Each IsPlain (rank_text row.rank)
rank_plain k ranking row h = by row.rank refl
  where
    by : (rank : Option ℕ) → row.rank ≡ rank → Each IsPlain (rank_text rank)
    by None e = bytes_are_plain adaptive refl
    by (Some n) e = plain_decimal n (let fits = rank_fits k ranking row h n e in omega (arith, fits))

rank_written : (k : Ranking) → IsRanking k → (row : RankRow) → IsRankOf k row → IsRankField (rank_text row.rank) row.rank
rank_written k ranking row h = by row.rank refl
  where
    by : (rank : Option ℕ) → row.rank ≡ rank → IsRankField (rank_text rank) rank
    by None e = refl
    by (Some n) e = decimal_numeral n (rank_fits k ranking row h n e)

ranks_plain : (k : Ranking) → IsRanking k → k.vcs < 2 ^ 32 → (rows : List RankRow) → Each (IsRankOf k) rows → Each IsPlainRow (map (rank_fields k.grid) rows)
ranks_plain k ranking few [] h = tt
ranks_plain k ranking few (row ∷ rows) h =
    let place = there_parts k.grid k.vcs row.router row.port row.vc h.0.channel in (
      (
        some_decimal row.router (omega (arith, place.router, ranking.grid.few_nodes)),
        plain_decimal row.router (omega (arith, place.router, ranking.grid.few_nodes)),
        (port_plain k.grid row.port ranking.grid (omega (arith, place.port)), (plain_decimal row.vc (omega (arith, place.vc)), (rank_plain k ranking row h.0, tt))),
      ),
      ranks_plain k ranking few rows h.1,
    )

ranks_written : (k : Ranking) → IsRanking k → k.vcs < 2 ^ 32 → (rows : List RankRow) → Each (IsRankOf k) rows → AllZip (WritesRank k.grid) (map (rank_fields k.grid) rows) rows
ranks_written k ranking few [] h = tt
ranks_written k ranking few (row ∷ rows) h =
    let place = there_parts k.grid k.vcs row.router row.port row.vc h.0.channel in (
      (
        decimal_numeral row.router (omega (arith, place.router, ranking.grid.few_nodes)),
        record { known = omega (arith, place.port); text = refl },
        decimal_numeral row.vc (omega (arith, place.vc)),
        rank_written k ranking row h.0,
      ),
      ranks_written k ranking few rows h.1,
    )

text_is_plain : (k : Ranking) → ranks_text k ≡ plain_text (rank_header ∷ map (rank_fields k.grid) (rank_rows k))
unfolding rank_line
text_is_plain k = ap (λ (t : List ℕ). row_line rank_header ++ t) (sym (flat_map-map row_line (rank_fields k.grid) (rank_rows k)))

pub ranks_back : (k : Ranking) → IsRanking k → k.vcs < 2 ^ 32 → ranks_of k.grid (ranks_text k) ≡ Ok (rank_rows k)
ranks_back k ranking few =
    let g = k.grid in
    let rows = rank_rows k in
    is_rank_file g ranking.grid (ranks_text k) rows (record {
      below = map (rank_fields g) rows;
      under_header = rw (text_is_plain k) (plain_rows (rank_header ∷ map (rank_fields g) rows) (is_plain_row rank_header refl, ranks_plain k ranking few rows (each_rank k)));
      writes = ranks_written k ranking few rows (each_rank k);
    })
