-- Tables by columns.
use Rattle.std.proofs.Math.Seq.{take-append_seam}
use Rattle.std.proofs.Common.{◌≡◌, ◌≢◌, ℕ, ◌*◌, ◌+◌, ◌-◌, ◌++◌, ◌<◌, ◌≤◌, ◌/◌, ◌%◌, List, length, get_or, take, drop, set, arith, inl, inr, subst, sym, ap, ◌∙◌, below_more, length-drop}
use Rattle.std.specs.Prelude.{◌⊎◌}
use Rattle.std.proofs.Math.Nat.{mul-le-mul_right, mul_comm, mul_assoc, div-lt_iff_lt-mul, mod-lt}
use Rattle.std.proofs.lemmas.List.{get_or-set_same, get_or-set_other, get_or_default, get_or-take, get_or-drop, length-take-le}
use Rattle.noc_topo.proofs.ListLemmas.{tabulate-from_each, get_or-tabulate}
use Rattle.noc_topo.specs.Shape.{nodes, ports}
use Rattle.noc_steps.proofs.WrittenLemmas.{StandsTo}
use Rattle.noc_route.specs.Columns.{table_of, column_set, AreColumns, AreKept, IsColumnAt, AreKeptTo, StandsAt}
use Rattle.noc_route.specs.Routes.{width, pages, page_of}
use Rattle.noc_route.specs.declared.sizes.Sizes.{Sizes}
use Rattle.noc_route.proofs.EntryLemmas.{flat-below, flat-div, flat-mod, pages-few}
use Rattle.noc_route.proofs.TrimLemmas.{index-parts}

-- the set at a destination, in a block of w columns of n sets, is there
pub block-below : (block : List ℕ) (t input n nodes w : ℕ) → n ≡ nodes → length block ≡ nodes * w → input < w → t < n → input * n + t < length block
block-below block t input n nodes w same long inside l =
    let below : input * n + t < w * n = flat-below input w t n inside l in
    let size : nodes * w ≡ n * w = ap (λ x. x * w) (sym same) in
    omega (arith, below, long, size, mul_comm w n)

-- the number of a page is small
pub page-in : (f : Sizes) (pair dst : ℕ) → pair < nodes f.shape * f.classes → dst < f.node_count → pair * f.node_count + dst < 262144
page-in f pair dst l m =
    let here : pair < f.node_count * f.classes = subst (λ n. pair < n * f.classes) (sym f.all_nodes) l in
    omega (arith, flat-below pair (f.node_count * f.classes) dst f.node_count here m, pages-few f.node_count f.classes f.few_nodes f.few_classes)

-- row a of m, each of n, ends within all of them
pub row-end : (a m n : ℕ) → a < m → a * n + n ≤ m * n
row-end a m n l =
    let rows : (a + 1) * n ≤ m * n = mul-le-mul_right n (omega arith) in
    let next : (a + 1) * n ≡ a * n + n = omega arith in
    omega (arith, rows, next)

-- ---- reading and writing a column

-- the column of an input of a block
abbrev pub column_of : List ℕ → ℕ → ℕ → List ℕ
column_of block n input = take (input * n + n - input * n) (drop (input * n) block)

-- it lies in the block
pub block-row : (block : List ℕ) (input n nodes w : ℕ) → n ≡ nodes → length block ≡ nodes * w → input < w → input * n + n ≤ length block
block-row block input n nodes w same long inside =
    let size : nodes * w ≡ n * w = ap (λ x. x * w) (sym same) in
    omega (arith, row-end input w n inside, long, size, mul_comm w n)

pub length-column_of : (block : List ℕ) (n input : ℕ) → input * n + n ≤ length block → length (column_of block n input) ≡ n
length-column_of block n input room =
    let size : input * n + n - input * n ≡ n = omega arith in
    length-take-le (input * n + n - input * n) (drop (input * n) block) (omega (arith, length-drop (input * n) block, room)) ∙ size

-- where it stands as a list, it stands as the column of its input
pub IsColumnAt-stands : (f : Sizes) (block sets : List ℕ) (n input start : ℕ) → n ≡ nodes f.shape → input * n + n ≤ length block
    → StandsAt (column_of block n input) sets start → IsColumnAt f block input sets start
IsColumnAt-stands f block sets n input start same room stands t l =
    let here : t < n = omega (arith, l, same) in
    let there : t < length (column_of block n input) = omega (arith, here, length-column_of block n input room) in
    stands t there
    ∙ get_or-take (input * n + n - input * n) (drop (input * n) block) t 0 (omega (arith, here))
    ∙ get_or-drop (input * n) block t 0
    ∙ ap (λ m. get_or block (input * m + t) 0) same

pub stands-more : (want : ℕ → ℕ) (sets : List ℕ) (start n a : ℕ) → start + n < length sets → a ≡ get_or sets (start + n) a → a ≡ want n → StandsTo want sets start n → StandsTo want sets start (n + 1)
stands-more want sets start n a there at_a same all =
    below_more (λ t. get_or sets (start + t) 0 ≡ want t) n all (sym (get_or_default sets (start + n) a 0 there) ∙ sym at_a ∙ same)

-- ---- the columns of a router and a class

row-next : (i n : ℕ) → (i + 1) * n ≡ i * n + n
row-next i n = omega arith

-- one more column ends within the block
column-ends : (first end input w n : ℕ) → input < w → end ≤ first + input * n → end + n ≤ first + n * w
column-ends first end input w n l few =
    let rows : (input + 1) * n ≤ w * n = mul-le-mul_right n (omega arith) in
    omega (arith, few, rows, row-next input n, mul_comm w n)

-- the number of a column
pub column-below : (f : Sizes) (pair input w count : ℕ) → w ≡ width f.shape f.vcs → pair < nodes f.shape * f.classes → input < w → count ≡ nodes f.shape * f.classes * width f.shape f.vcs
    → pair * w + input < count
column-below f pair input w count same here inside all =
    let below = flat-below pair (nodes f.shape * f.classes) input w here inside in
    let long = ap (λ w. nodes f.shape * f.classes * w) same in
    omega (arith, below, long, all)

-- it ends within the table
pub column-room : (first end input w n size total : ℕ) → input < w → end ≤ first + input * n → size ≡ n * w → first + size ≤ total → end + n ≤ total
column-room first end input w n size total inside few long room =
    let last = column-ends first end input w n inside few in
    omega (arith, last, long, room)

-- the start of an earlier input stays
start-kept : (starts : List ℕ) (row input start i : ℕ) → i < input → get_or (set starts (row + input) start) (row + i) 0 ≡ get_or starts (row + i) 0
start-kept starts row input start i l = let other : row + i ≢ row + input = omega arith in get_or-set_other starts (row + input) (row + i) start 0 other

-- what is left alone by one more column is left alone by all so far
others-kept : (before sets after : List ℕ) (first input end size w n : ℕ) → size ≡ n * w → input < w → first ≤ end → end ≤ first + input * n
    → ((j : ℕ) → (j < end) ⊎ (end + n ≤ j) → get_or after j 0 ≡ get_or sets j 0)
    → ((j : ℕ) → (j < first) ⊎ (first + size ≤ j) → get_or sets j 0 ≡ get_or before j 0)
    → (j : ℕ) → (j < first) ⊎ (first + size ≤ j) → get_or after j 0 ≡ get_or before j 0
others-kept before sets after first input end size w n long inside grown few left others j (inl l) = left j (inl (omega (arith, l, grown))) ∙ others j (inl l)
others-kept before sets after first input end size w n long inside grown few left others j (inr l) =
    let ends = column-ends first end input w n inside few in
    left j (inr (omega (arith, l, long, ends))) ∙ others j (inr l)

at_most : (a b c : ℕ) → a ≤ b → b ≤ c → a ≤ c
at_most a b c l k = omega arith

grown_by : (next end first i n : ℕ) → next ≤ end + n → end ≤ first + i * n → next ≤ first + (i + 1) * n
grown_by next end first i n l k = omega (arith, row-next i n)

inner : (s t n end : ℕ) → t < n → s + n ≤ end → s + t < end
inner s t n end l k = omega arith

not_last : (c row i : ℕ) → c < row → c ≢ row + i
not_last c row i l = omega arith

pub kept-more : (f : Sizes) (block before sets after old_starts starts : List ℕ) (pair first input end start next : ℕ)
    → length block ≡ nodes f.shape * width f.shape f.vcs → input < width f.shape f.vcs → pair * width f.shape f.vcs + input < length starts
    → start ≤ end → end ≤ next → start + nodes f.shape ≤ next → next ≤ end + nodes f.shape
    → IsColumnAt f block input after start
    → ((j : ℕ) → (j < end) ⊎ (end + nodes f.shape ≤ j) → get_or after j 0 ≡ get_or sets j 0)
    → AreKeptTo f block before sets old_starts starts pair first input end
    → AreKeptTo f block before after old_starts (set starts (pair * width f.shape f.vcs + input) start) pair first (input + 1) next
kept-more f block before sets after old_starts starts pair first input end start next long inside there order more last close stands left h =
    let n = nodes f.shape in
    let w = width f.shape f.vcs in
    let new = set starts (pair * w + input) start in
    let here : get_or new (pair * w + input) 0 ≡ start = get_or-set_same starts (pair * w + input) start 0 there in
    record {
      grown = at_most first end next h.grown more;
      few = grown_by next end first input n close h.few;
      within =
          below_more (λ i. get_or new (pair * w + i) 0 + n ≤ next) input
          (λ i l. subst (λ x. x + n ≤ next) (sym (start-kept starts (pair * w) input start i l)) (at_most (get_or starts (pair * w + i) 0 + n) end next (h.within i l) more))
          (subst (λ x. x + n ≤ next) (sym here) last);
      same =
          below_more (λ i. IsColumnAt f block i after (get_or new (pair * w + i) 0)) input
          (λ i l. subst (IsColumnAt f block i after) (sym (start-kept starts (pair * w) input start i l))
          (λ t m. left (get_or starts (pair * w + i) 0 + t) (inl (inner (get_or starts (pair * w + i) 0) t n end m (h.within i l))) ∙ h.same i l t m))
          (subst (IsColumnAt f block input after) (sym here) stands);
      others = others-kept before sets after first input end (length block) w n long inside h.grown h.few left h.others;
      earlier = λ c l. get_or-set_other starts (pair * w + input) c start 0 (not_last c (pair * w) input l) ∙ h.earlier c l;
    }

-- ---- the columns of one more router and class

pub block-end : (pair end next n w : ℕ) → end ≤ pair * (n * w) → next ≤ end + w * n → next ≤ (pair + 1) * (n * w)
block-end pair end next n w few l = omega (arith, row-next pair (n * w), mul_comm w n)

-- columns that are kept still are where other sets are put behind them
pub AreKept-behind : (f : Sizes) (table sets after starts : List ℕ) (pair end : ℕ) → ((j : ℕ) → j < end → get_or after j 0 ≡ get_or sets j 0)
    → AreKept f table sets starts pair end → AreKept f table after starts pair end
AreKept-behind f table sets after starts pair end same h = record {
  within = h.within;
  same = λ q i t l m k.
      let start = get_or starts (q * width f.shape f.vcs + i) 0 in
      same (start + t) (inner start t (nodes f.shape) end k (h.within q i l m)) ∙ h.same q i t l m k;
}

pub pairs-more : (f : Sizes) (table sets after block starts new : List ℕ) (pair end next : ℕ)
    → ((t i : ℕ) → t < nodes f.shape → i < width f.shape f.vcs → get_or block (i * nodes f.shape + t) 0 ≡ get_or table ((pair * nodes f.shape + t) * width f.shape f.vcs + i) 0)
    → AreKeptTo f block sets after starts new pair end (width f.shape f.vcs) next
    → AreKept f table sets starts pair end → AreKept f table after new (pair + 1) next
pairs-more f table sets after block starts new pair end next written g h =
    let n = nodes f.shape in
    let w = width f.shape f.vcs in
    record {
      within = λ q i l m.
          below_more (λ q. get_or new (q * w + i) 0 + n ≤ next) pair
          (λ q l. subst (λ x. x + n ≤ next) (sym (g.earlier (q * w + i) (flat-below q pair i w l m))) (at_most (get_or starts (q * w + i) 0 + n) end next (h.within q i l m) g.grown))
          (g.within i m) q l;
      same = λ q i t l m k.
          below_more (λ q. get_or after (get_or new (q * w + i) 0 + t) 0 ≡ get_or table ((q * n + t) * w + i) 0) pair
          (λ q l. ap (λ s. get_or after (s + t) 0) (g.earlier (q * w + i) (flat-below q pair i w l m))
          ∙ g.others (get_or starts (q * w + i) 0 + t) (inl (inner (get_or starts (q * w + i) 0) t n end k (h.within q i l m)))
          ∙ h.same q i t l m k)
          (g.same i m t k ∙ written t i k m)
          q l;
    }

-- ---- the whole table

-- a column of the table, its router and class, and its input
pair-below : (c p w : ℕ) → 1 ≤ w → c < p * w → c / w < p
pair-below c p w some l = (div-lt_iff_lt-mul {k = w} {x = c} {y = p} some).1 l

pub all-within : (f : Sizes) (table sets starts : List ℕ) (end : ℕ) → 1 ≤ width f.shape f.vcs → AreKept f table sets starts (nodes f.shape * f.classes) end
    → (c : ℕ) → c < nodes f.shape * f.classes * width f.shape f.vcs → get_or starts c 0 + nodes f.shape ≤ end
all-within f table sets starts end some h c l =
    let w = width f.shape f.vcs in
    subst (λ x. get_or starts x 0 + nodes f.shape ≤ end) (index-parts w c) (h.within (c / w) (c % w) (pair-below c (nodes f.shape * f.classes) w some l) (mod-lt c some))

pub table-kept : (f : Sizes) (table sets starts : List ℕ) (end : ℕ) → 1 ≤ nodes f.shape → 1 ≤ width f.shape f.vcs
    → length table ≡ pages f.shape f.classes * width f.shape f.vcs → AreKept f table sets starts (nodes f.shape * f.classes) end
    → table_of f sets starts ≡ table
table-kept f table sets starts end nodes_some some long h =
    let n = nodes f.shape in
    let w = width f.shape f.vcs in
    sym
    (tabulate-from_each (pages f.shape f.classes * w) (column_set f sets starts) table 0 long
    (λ j l.
    let page = pair-below j (n * f.classes * n) w some l in
    let q = pair-below (j / w) (n * f.classes) n nodes_some page in
    let i = mod-lt j some in
    let t = mod-lt (j / w) nodes_some in
    sym
    (h.same (j / w / n) (j % w) (j / w % n) q i t
    ∙ ap (λ b. get_or table (b * w + j % w) 0) (index-parts n (j / w))
    ∙ ap (λ k. get_or table k 0) (index-parts w j))))

-- the set of an entry of the table
pub table-at : (f : Sizes) (sets starts : List ℕ) (pair t i : ℕ) → pair < nodes f.shape * f.classes → t < nodes f.shape → i < width f.shape f.vcs
    → get_or (table_of f sets starts) ((pair * nodes f.shape + t) * width f.shape f.vcs + i) 0 ≡ get_or sets (get_or starts (pair * width f.shape f.vcs + i) 0 + t) 0
table-at f sets starts pair t i l k m =
    let n = nodes f.shape in
    let w = width f.shape f.vcs in
    let j = (pair * n + t) * w + i in
    let page : pair * n + t < n * f.classes * n = flat-below pair (n * f.classes) t n l k in
    get_or-tabulate (n * f.classes * n * w) j (column_set f sets starts) 0 (flat-below (pair * n + t) (n * f.classes * n) i w page m)
    ∙ ap (λ b. get_or sets (get_or starts (b / n * w + j % w) 0 + b % n) 0) (flat-div (pair * n + t) w i m)
    ∙ ap (λ x. get_or sets (get_or starts ((pair * n + t) / n * w + x) 0 + (pair * n + t) % n) 0) (flat-mod (pair * n + t) w i m)
    ∙ ap (λ x. get_or sets (get_or starts (x * w + i) 0 + (pair * n + t) % n) 0) (flat-div pair n t k)
    ∙ ap (λ x. get_or sets (get_or starts (pair * w + i) 0 + x) 0) (flat-mod pair n t k)

-- a set of a column is one of those that are kept
pub start-within : (f : Sizes) (starts : List ℕ) (count column start t : ℕ) → AreColumns f starts count → column < nodes f.shape * f.classes * width f.shape f.vcs → t < nodes f.shape
    → start ≡ get_or starts column start → start + t < count
start-within f starts count column start t all l k e =
    let there : column < length starts = omega (arith, l, all.long) in
    let from : start ≡ get_or starts column 0 = e ∙ get_or_default starts column start 0 there in
    omega (arith, from, all.within column l, k)

-- ---- sizes

-- a router has few channels
width-few : (p v : ℕ) → p ≤ 7 → v ≤ 8 → p * v ≤ 56
width-few p v few_ports few_vcs =
    let all : p * v ≤ 7 * v = mul-le-mul_right v few_ports in
    omega (arith, all, few_vcs)

-- the channels of a port are among those of a router, and the sets of a router and a class among those
-- of all
pub port-ends : (f : Sizes) (port : ℕ) → port < ports f.shape → port * f.vcs + f.vcs ≤ 56
port-ends f port l = omega (arith, row-end port (ports f.shape) f.vcs l, width-few (ports f.shape) f.vcs (subst (λ p. p ≤ 7) f.all_ports f.few_ports) f.few_vcs)

pub pages-end : (f : Sizes) (m r first : ℕ) → m < f.classes → r < nodes f.shape → first ≡ page_of f.shape f.classes m r 0 → first + nodes f.shape ≤ pages f.shape f.classes
pages-end f m r first class router is =
    let n = nodes f.shape in
    omega (arith, is, row-end (r * f.classes + m) (n * f.classes) n (flat-below r n m f.classes router class))

some-of : (p v : ℕ) → 1 ≤ p → 1 ≤ v → 1 ≤ p * v
some-of p v some_ports some_vcs =
    let all : 1 * v ≤ p * v = mul-le-mul_right v some_ports in
    omega (arith, all, some_vcs)

pub width-some : (f : Sizes) → 1 ≤ width f.shape f.vcs
width-some f = some-of (ports f.shape) f.vcs (omega arith) f.some_vcs

-- a table is short
table-short : (n k w : ℕ) → n ≤ 256 → k ≤ 4 → w ≤ 56 → n * k * n * w ≤ 14680064
table-short n k w a b few =
    let all : n * k * n * w ≤ 262144 * w = mul-le-mul_right w (pages-few n k a b).1 in
    omega (arith, all, few)

pub table-few : (f : Sizes) → pages f.shape f.classes * width f.shape f.vcs ≤ 14680064
table-few f =
    table-short (nodes f.shape) f.classes (width f.shape f.vcs) (subst (λ n. n ≤ 256) f.all_nodes f.few_nodes) f.few_classes
    (width-few (ports f.shape) f.vcs (subst (λ p. p ≤ 7) f.all_ports f.few_ports) f.few_vcs)

pub width-in : (f : Sizes) → width f.shape f.vcs ≤ 56
width-in f = width-few (ports f.shape) f.vcs (subst (λ p. p ≤ 7) f.all_ports f.few_ports) f.few_vcs

-- the index of a set of a block is small
pub column-in : (f : Sizes) (input dst : ℕ) → input < width f.shape f.vcs → dst < f.node_count → input * f.node_count + dst < 14336
column-in f input dst l m =
    let few = mul-le-mul_right f.node_count (width-in f) in
    omega (arith, flat-below input (width f.shape f.vcs) dst f.node_count l m, few, f.few_nodes)

-- a block of the table, and the blocks before it
pub block-room : (f : Sizes) (pair : ℕ) → pair < f.node_count * f.classes → pair * (nodes f.shape * width f.shape f.vcs) + nodes f.shape * width f.shape f.vcs ≤ pages f.shape f.classes * width f.shape f.vcs
block-room f pair l = at (nodes f.shape) (width f.shape f.vcs) (subst (λ n. pair < n * f.classes) f.all_nodes l)
  where
    at : (n w : ℕ) → pair < n * f.classes → pair * (n * w) + n * w ≤ n * f.classes * n * w
    at n w l =
        let rows : (pair + 1) * (n * w) ≤ n * f.classes * (n * w) = mul-le-mul_right (n * w) (omega arith) in
        omega (arith, rows, row-next pair (n * w), mul_assoc (n * f.classes) n w)

-- ---- lists that stand in a vector

-- what a vector has once its elements were written through a slice
pub all-written : (xs items : List ℕ) (len : ℕ) → length xs ≡ len → take len (xs ++ drop (length xs) items) ≡ xs
all-written xs items len long = subst (λ n. take n (xs ++ drop (length xs) items) ≡ xs) long (take-append_seam xs (drop (length xs) items))

-- so with the columns that were kept through a slice
pub AreKept-written : (f : Sizes) (table sets starts items : List ℕ) (len pair end : ℕ) → length sets ≡ len → AreKept f table sets starts pair end
    → AreKept f table (take len (sets ++ drop (length sets) items)) starts pair end
AreKept-written f table sets starts items len pair end long h =
    let P : List ℕ → Type 0 = λ xs. AreKept f table xs starts pair end in
    subst P (sym (all-written sets items len long)) h
