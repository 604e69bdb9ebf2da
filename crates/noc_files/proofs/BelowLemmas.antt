-- Texts and sums over the numbers below a count.
use Rattle.std.proofs.Common.{◌≡◌, ℕ, zero, suc, ◌+◌, ◌-◌, ◌<◌, ◌≤◌, Bool, List, [], ◌∷◌, ◌++◌, flat_map, Option, Some, None, Err, refl, sym, ap, ◌∙◌, arith, append_assoc, append-nil, zero-add, add-zero, sum, length, length-append, subst}
use Rattle.std.proofs.lemmas.Grind.{flat_map-append}
use Rattle.std.proofs.lemmas.List.Elements.{filter_map-append}
use Rattle.std.proofs.lemmas.List.Sums.{sum_by-append}
use Rattle.std.proofs.KnownBytes.{Appends-trans}
use Rattle.std.specs.Io.KnownBytes.{Appends}
use Rattle.std.specs.List.{cons_option, filter_map, range_with_len}
use Rattle.noc_topo.specs.Lists.{below}
use Rattle.noc_bytes.specs.declared.writing.WriteFault.{WriteFault}
use Rattle.noc_files.specs.Writing.{Wrote}
use Rattle.noc_bytes.proofs.SinkLemmas.{fault_within}

range_split : (a m n : ℕ) → range_with_len a (m + n) ≡ range_with_len a m ++ range_with_len (a + m) n
range_split a zero n = rw (zero-add n, add-zero a)
range_split a (suc m) n =
    let count : suc m + n ≡ suc (m + n) = omega arith in
    let start : a + 1 + m ≡ a + suc m = omega arith in
    rw count (ap (λ (ks : List ℕ). a ∷ ks) (range_split (a + 1) m n ∙ ap (λ k. range_with_len (a + 1) m ++ range_with_len k n) start))

-- the numbers after n and below the count
abbrev pub later : ℕ → ℕ → List ℕ
later n count = range_with_len (n + 1) (count - (n + 1))

pub below_split : (n count : ℕ) → n < count → below count ≡ below n ++ n ∷ later n count
unfolding below
below_split n count h =
    let parts : count ≡ n + suc (count - (n + 1)) = omega arith in
    ap (λ k. range_with_len 0 k) parts ∙ range_split 0 n (suc (count - (n + 1))) ∙ ap (λ k. range_with_len 0 n ++ range_with_len k (suc (count - (n + 1)))) (zero-add n)

pub below_more : (n : ℕ) → below (n + 1) ≡ below n ++ n ∷ []
unfolding below
below_more n = range_split 0 n 1 ∙ ap (λ k. range_with_len 0 n ++ range_with_len k 1) (zero-add n)

pub each_more : {X : Type 0} (f : ℕ → List X) (n : ℕ) → flat_map f (below (n + 1)) ≡ flat_map f (below n) ++ f n
each_more f n = ap (flat_map f) (below_more n) ∙ flat_map-append f (below n) (n ∷ []) ∙ ap (λ (t : List _). flat_map f (below n) ++ t) (append-nil (f n))

pub each_split : {X : Type 0} (f : ℕ → List X) (n count : ℕ) → n < count → flat_map f (below count) ≡ (flat_map f (below n) ++ f n) ++ flat_map f (later n count)
each_split f n count h =
    ap (flat_map f) (below_split n count h) ∙ flat_map-append f (below n) (n ∷ later n count) ∙ sym (append_assoc (flat_map f (below n)) (f n) (flat_map f (later n count)))

-- what is said of each number alike is alike
pub each_same : {X : Type 0} (f h : ℕ → List X) (n : ℕ) → ((k : ℕ) → k < n → f k ≡ h k) → flat_map f (below n) ≡ flat_map h (below n)
unfolding below
each_same f h zero same = refl
each_same {X} f h (suc n) same =
    let next : suc n ≡ n + 1 = omega arith in
    let before : flat_map f (below n) ≡ flat_map h (below n) = each_same f h n (λ k less. same k (omega arith)) in
    ap (λ k. flat_map f (below k)) next ∙ each_more f n ∙ ap (λ (t : List X). t ++ f n) before ∙ ap (λ (t : List X). flat_map h (below n) ++ t) (same n (omega arith)) ∙ sym (each_more h n) ∙ ap (λ k. flat_map h (below k)) (sym next)

-- nothing said of each number is nothing
pub each_none : {X : Type 0} (f : ℕ → List X) (ks : List ℕ) → ((k : ℕ) → f k ≡ []) → flat_map f ks ≡ []
each_none f [] none = refl
each_none f (k ∷ ks) none = rw (none k) (each_none f ks none)

-- ---- what is found of the numbers

found_more : {X : Type 0} (f : ℕ → Option X) (n : ℕ) → filter_map f (below (n + 1)) ≡ filter_map f (below n) ++ filter_map f (n ∷ [])
found_more f n = ap (filter_map f) (below_more n) ∙ filter_map-append f (below n) (n ∷ [])

-- one number more, of which x is found
pub found_one : {X : Type 0} (f : ℕ → Option X) (n : ℕ) (x : X) → Some x ≡ f n → filter_map f (below (n + 1)) ≡ filter_map f (below n) ++ x ∷ []
found_one {X} f n x e = found_more f n ∙ ap (λ (o : Option X). filter_map f (below n) ++ cons_option o []) (sym e)

-- one number more, of which nothing is found
pub found_no_more : {X : Type 0} (f : ℕ → Option X) (n : ℕ) → None ≡ f n → filter_map f (below (n + 1)) ≡ filter_map f (below n)
found_no_more {X} f n e = found_more f n ∙ ap (λ (o : Option X). filter_map f (below n) ++ cons_option o []) (sym e) ∙ append-nil (filter_map f (below n))

pub found_nothing : {X : Type 0} (f : ℕ → Option X) → filter_map f (below 0) ≡ []
unfolding below
found_nothing f = refl

-- ---- sums of what is said of each number

pub sum_more : (f : ℕ → List ℕ) (n total one : ℕ) → total ≡ sum (flat_map f (below n)) → one ≡ sum (f n) → total + one ≡ sum (flat_map f (below (n + 1)))
sum_more f n total one so_far next =
    let more : sum (flat_map f (below (n + 1))) ≡ sum (flat_map f (below n)) + sum (f n) = ap sum (each_more f n) ∙ sum_by-append (λ k. k) (flat_map f (below n)) (f n) in
    rw (so_far, next) (sym more)

pub sum_none : (f : ℕ → List ℕ) → 0 ≡ sum (flat_map f (below 0))
unfolding below
sum_none f = refl

-- ---- what a sink took of what is said of each number, below a header

module _ (f : ℕ → List ℕ) (head : List ℕ) where
  parts : (a b c d : List ℕ) → a ++ ((b ++ c) ++ d) ≡ ((a ++ b) ++ c) ++ d
  parts a b c d = simp append_assoc

  text_more : (n : ℕ) → (head ++ flat_map f (below n)) ++ f n ≡ head ++ flat_map f (below (n + 1))
  text_more n = append_assoc head (flat_map f (below n)) (f n) ∙ ap (λ (t : List ℕ). head ++ t) (sym (each_more f n))

  pub long_more : (n written more : ℕ) → written ≡ length (head ++ flat_map f (below n)) → more ≡ length (f n) → written + more ≡ length (head ++ flat_map f (below (n + 1)))
  long_more n written more so_far next = omega (arith, so_far, next, length-append (head ++ flat_map f (below n)) (f n), ap length (text_more n))

  -- the text of more numbers is no shorter
  grows : (n more : ℕ) → length (head ++ flat_map f (below n)) ≤ length (head ++ flat_map f (below (n + more)))
  grows n zero = rw (add-zero n) (omega arith)
  grows n (suc more) =
      let next : n + suc more ≡ n + more + 1 = omega arith in
      rw next (omega (arith, grows n more, length-append (head ++ flat_map f (below (n + more))) (f (n + more)), ap length (text_more (n + more))))

  -- where it was cut off at one of the numbers, the text up to this one is longer than what is out,
  -- and the text before it is not
  pub longer_here : (n written one : ℕ) → written ≡ length (head ++ flat_map f (below n)) → one < length (f n) → written + one < length (head ++ flat_map f (below (n + 1)))
  longer_here n written one so_far inside = omega (arith, so_far, inside, length-append (head ++ flat_map f (below n)) (f n), ap length (text_more n))

  pub no_longer_before : (n written k : ℕ) → written ≡ length (head ++ flat_map f (below n)) → k < n + 1 → length (head ++ flat_map f (below k)) ≤ written
  no_longer_before n written k so_far before =
      let parts : k + (n - k) ≡ n = omega arith in
      omega (arith, so_far, grows k (n - k), ap (λ m. length (head ++ flat_map f (below m))) parts)

  module _ {S : Type 0} (contents : S → Option (List ℕ)) (failed : S → Bool) where
    pub took_more : (n : ℕ) (a m b : S) → Appends (contents a) (contents m) (head ++ flat_map f (below n)) → Appends (contents m) (contents b) (f n) → Appends (contents a) (contents b) (head ++ flat_map f (below (n + 1)))
    took_more n a m b first next = subst (Appends (contents a) (contents b)) (text_more n) (Appends-trans (contents a) (contents m) (contents b) (head ++ flat_map f (below n)) (f n) first next)

    -- a fault at one of the numbers
    pub fault_at_number : (n count written : ℕ) (a m b : S) (e g : WriteFault) → n < count → Appends (contents a) (contents m) (head ++ flat_map f (below n)) → written ≡ length (head ++ flat_map f (below n))
        → Wrote contents failed m b (f n) (Err e) → g.written ≡ written + e.written → Wrote contents failed a b (head ++ flat_map f (below count)) (Err g)
    fault_at_number n count written a m b e g inside first so_far next is =
        fault_within contents failed a m b (head ++ flat_map f (below n)) (f n) (flat_map f (later n count)) (head ++ flat_map f (below count)) e g
        (ap (λ (t : List ℕ). head ++ t) (each_split f n count inside) ∙ parts head (flat_map f (below n)) (f n) (flat_map f (later n count))) first next (omega (arith, so_far, is))
