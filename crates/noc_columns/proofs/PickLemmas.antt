-- The first of the channels of a port that are in turn.
use Rattle.std.proofs.Common.{◌≡◌, ◌≢◌, ℕ, zero, suc, ◌+◌, ◌*◌, ◌-◌, ◌<◌, ◌≤◌, Bool, true, false, List, Some, arith, ap, ap₂, sym, ◌∙◌, refl, inl, inr, bit_and, bit_or}
use Rattle.std.specs.Prelude.{◌⊎◌, ◌&&◌, ◌||◌, not, nat_eq, nat_lt, if◌then◌else◌}
use Rattle.std.proofs.lemmas.Bool.{cases_eq, cases_lt, lt-ltb, le-ltb, eq-eqb, ne_eqb, true≢false}
use Rattle.noc_packet.specs.Set.{has_bit, IsLeast}
use Rattle.noc_packet.proofs.SetLemmas.{both_members, either_members, first_of_both, has_bit-zero}
use Rattle.noc_sets.specs.Sets.{less, lowest}
use Rattle.noc_sets.specs.Turns.{first_bit, in_turn}
use Rattle.noc_sets.specs.Unions.{some_below, union_from}
use Rattle.noc_sets.proofs.MemberLemmas.{and-false, and-true, less_members, lowest_members, not-not, or-false, or-none, or-true, same-word, zero_members}
use Rattle.noc_columns.specs.Picks.{turn_word}
use Rattle.noc_columns.specs.Words.{Numbering, set_below, set_of, word}
use Rattle.noc_columns.proofs.PassLemmas.{some-same}
use Rattle.noc_columns.proofs.SetLemmas.{below-both, below-members, below-same}

-- ---- the first of a test
pub none-each : (n : ℕ) (test : ℕ → Bool) → some_below n test ≡ false → (k : ℕ) → k < n → test k ≡ false
none-each zero test e k l = absurd (omega arith)
none-each (suc n) test e k l = let both = or-none (some_below n test) (test n) e in at both (λ j. none-each n test both.0 k j) (cases_eq k n)
  where
    at : ((some_below n test ≡ false) × (test n ≡ false)) → (k < n → test k ≡ false) → (k ≡ n) ⊎ (k ≢ n) → test k ≡ false
    at both before (inl same) = ap test same ∙ both.1
    at both before (inr other) = before (omega arith)

pub some-each : (n : ℕ) (test : ℕ → Bool) (k : ℕ) → k < n → test k ≡ true → some_below n test ≡ true
some-each zero test k l e = absurd (omega arith)
some-each (suc n) test k l e = at (λ j. some-each n test k j e) (cases_eq k n)
  where
    at : (k < n → some_below n test ≡ true) → (k ≡ n) ⊎ (k ≢ n) → (some_below n test || test n) ≡ true
    at before (inl same) = ap (λ b. some_below n test || b) (ap test (sym same) ∙ e) ∙ or-true (some_below n test)
    at before (inr other) = ap (λ b. b || test n) (before (omega arith))

-- the first index below n that passes, if there is one
abbrev pub Found : ℕ → (ℕ → Bool) → Type 0
Found n test = (some_below n test ≡ false) ⊎ ((t : ℕ) × (t < n) × (test t ≡ true) × (some_below t test ≡ false))

pub find-first : (n : ℕ) (test : ℕ → Bool) → Found n test
find-first zero test = inl refl
find-first (suc n) test = at (find-first n test) (test n) refl
  where
    at : Found n test → (b : Bool) → test n ≡ b → Found (suc n) test
    at (inl none) false e = inl (ap₂ (λ a b. a || b) none e)
    at (inl none) true e = inr (n, omega arith, e, none)
    at (inr found) b e = let l = found.1 in inr (found.0, omega (arith, l), found.2, found.3)

-- a chain along the indices leaves the least
pub chain-lowest : (n : ℕ) (test : ℕ → Bool) → set_below n (λ c. test c && not (some_below c test)) ≡ lowest (set_below n test)
chain-lowest n test = at (find-first n test)
  where
    at : Found n test → set_below n (λ c. test c && not (some_below c test)) ≡ lowest (set_below n test)
    at (inl none) =
        let no = none-each n test none in
        below-same n _ (λ c. false) (λ k l. ap (λ b. b && not (some_below k test)) (no k l)) ∙ nothing ∙ sym (ap lowest (below-same n test (λ c. false) no ∙ nothing)
        ∙ same-word (lowest 0) 0 (λ k. zero_members k ∙ sym (has_bit-zero k)))
      where
        nothing : set_below n (λ c. false) ≡ 0
        nothing = same-word _ 0 (λ k. below-members n (λ c. false) k ∙ and-false (nat_lt k n) ∙ sym (has_bit-zero k))
    at (inr found) = same-word _ _ (λ k. below-members n _ k ∙ by k (cases_lt k t) (cases_eq k t) ∙ sym (lowest_members (set_below n test) t k least))
      where
        t : ℕ
        t = found.0

        least : IsLeast (has_bit (set_below n test)) (Some t)
        least = (
          below-members n test t ∙ ap₂ (λ a b. a && b) (lt-ltb t n found.1) found.2,
          λ k l. below-members n test k ∙ ap (λ b. nat_lt k n && b) (none-each t test found.3 k l) ∙ and-false (nat_lt k n),
        )

        both-no : (a b : Bool) → (a && (b && false)) ≡ false
        both-no true b = and-false b
        both-no false b = refl

        by : (k : ℕ) → (k < t) ⊎ (t ≤ k) → (k ≡ t) ⊎ (k ≢ t) → (nat_lt k n && (test k && not (some_below k test))) ≡ nat_eq k t
        by k (inl l) _ = ap (λ b. nat_lt k n && (b && not (some_below k test))) (none-each t test found.3 k l) ∙ and-false (nat_lt k n) ∙ sym (ne_eqb k t (omega (arith, l)))
        by k (inr l) (inl same) =
            ap (λ j. nat_lt j n && (test j && not (some_below j test))) same
            ∙ ap₂ (λ a b. a && b) (lt-ltb t n found.1) (ap₂ (λ a b. a && not b) found.2 found.3)
            ∙ sym (eq-eqb k t same)
        by k (inr l) (inr other) =
            ap (λ b. nat_lt k n && (test k && not b)) (some-each k test t (omega (arith, l, other)) found.2)
            ∙ both-no (nat_lt k n) (test k)
            ∙ sym (ne_eqb k t other)

pub below-some : (n : ℕ) (test : ℕ → Bool) → nat_eq (set_below n test) 0 ≡ not (some_below n test)
below-some n test = at (find-first n test)
  where
    at : Found n test → nat_eq (set_below n test) 0 ≡ not (some_below n test)
    at (inl none) = eq-eqb _ 0 (same-word _ 0 (λ k. below-members n test k ∙ by k (cases_lt k n) ∙ sym (has_bit-zero k))) ∙ sym (ap not none)
      where
        by : (k : ℕ) → (k < n) ⊎ (n ≤ k) → (nat_lt k n && test k) ≡ false
        by k (inl l) = ap₂ (λ a b. a && b) (lt-ltb k n l) (none-each n test none k l)
        by k (inr l) = ap (λ a. a && test k) (le-ltb k n l)
    at (inr found) = ne_eqb _ 0 (λ e. true≢false (sym (below-members n test found.0 ∙ ap₂ (λ a b. a && b) (lt-ltb found.0 n found.1) found.2) ∙ ap (λ x. has_bit x found.0) e ∙ has_bit-zero found.0)) ∙ sym (ap not (some-each n test found.0 found.1 found.2))

-- of tests that stand for requests and a mask
pub turn-below : (n : ℕ) (can ahead : ℕ → Bool) (first : Bool) → first ≡ some_below n (λ c. can c && ahead c)
    → set_below n (λ c. can c && (ahead c || not first)) ≡ in_turn (set_below n can) (set_below n ahead)
turn-below n can ahead first is = at first is
  where
    some : nat_eq (bit_and (set_below n can) (set_below n ahead)) 0 ≡ not (some_below n (λ c. can c && ahead c))
    some = ap (λ x. nat_eq x 0) (sym (below-both n can ahead)) ∙ below-some n (λ c. can c && ahead c)

    at : (b : Bool) → b ≡ some_below n (λ c. can c && ahead c) → set_below n (λ c. can c && (ahead c || not b)) ≡ in_turn (set_below n can) (set_below n ahead)
    at true e = below-same n _ (λ c. can c && ahead c) (λ k l. ap (λ x. can k && x) (or-false (ahead k))) ∙ below-both n can ahead
        ∙ sym (ap (λ b. if b then set_below n can else bit_and (set_below n can) (set_below n ahead)) (some ∙ ap not (sym e)))
    at false e = below-same n _ can (λ k l. ap (λ x. can k && x) (or-true (ahead k)) ∙ and-true (can k))
        ∙ sym (ap (λ b. if b then set_below n can else bit_and (set_below n can) (set_below n ahead)) (some ∙ ap not (sym e)))

-- ---- in words
turn-bit : (f a b : Bool) → (a && not (f && not b)) ≡ (a && (b || not f))
turn-bit true true true = refl
turn-bit true true false = refl
turn-bit true false b = refl
turn-bit false true true = refl
turn-bit false true false = refl
turn-bit false false b = refl

turn-members : (first ready ahead r : ℕ) → has_bit (turn_word first ready ahead) r ≡ (has_bit ready r && (has_bit ahead r || not (has_bit first r)))
turn-members first ready ahead r =
    less_members ready (less first ahead) r
    ∙ ap (λ b. has_bit ready r && not b) (less_members first ahead r)
    ∙ turn-bit (has_bit first r) (has_bit ready r) (has_bit ahead r)

pub union-members : (n : ℕ) (words : ℕ → ℕ) (r : ℕ) → has_bit (union_from 0 n words) r ≡ some_below n (λ c. has_bit (words c) r)
union-members zero words r = has_bit-zero r
union-members (suc n) words r = either_members (union_from 0 n words) (words n) r ∙ ap (λ b. b || has_bit (words n) r) (union-members n words r)

pub union-next : (n : ℕ) (words : ℕ → ℕ) → union_from 0 (n + 1) words ≡ bit_or (union_from 0 n words) (words n)
union-next n words = let e : n + 1 ≡ suc n = omega arith in ap (λ m. union_from 0 m words) e

-- a port of which one channel is picked, where `first` has the routers with one at or after the pointer
module _ (n : Numbering) (r first : ℕ) (ready ahead : List ℕ) (is : has_bit first r ≡ some_below n.size (λ c. has_bit (word (n.index c) ready) r && has_bit (word (n.index c) ahead) r)) where
  abbrev turn : ℕ → ℕ
  turn c = turn_word first (word (n.index c) ready) (word (n.index c) ahead)

  abbrev can : ℕ → Bool
  can c = has_bit (word (n.index c) ready) r

  abbrev after : ℕ → Bool
  after c = has_bit (word (n.index c) ahead) r

  abbrev test : ℕ → Bool
  test c = can c && (after c || not (has_bit first r))

  turn-is : (c : ℕ) → has_bit (turn c) r ≡ test c
  turn-is c = turn-members first (word (n.index c) ready) (word (n.index c) ahead) r

  union-is : (c : ℕ) → has_bit (union_from 0 c turn) r ≡ some_below c test
  union-is c = union-members c turn r ∙ some-same c _ _ (λ k l. turn-is k)

  in-turn-is : set_below n.size test ≡ in_turn (set_of n r ready) (set_of n r ahead)
  in-turn-is = turn-below n.size (λ c. has_bit (word (n.index c) ready) r) (λ c. has_bit (word (n.index c) ahead) r) (has_bit first r) is

  pub picked-first : (picked : List ℕ) → ((c : ℕ) → c < n.size → word (n.index c) picked ≡ less (turn c) (union_from 0 c turn)) → set_of n r picked ≡ first_bit (set_of n r ready) (set_of n r ahead)
  picked-first picked are =
      below-same n.size _ (λ c. test c && not (some_below c test))
      (λ c l. ap (λ w. has_bit w r) (are c l) ∙ less_members (turn c) (union_from 0 c turn) r ∙ ap₂ (λ a b. a && not b) (turn-is c) (union-is c))
      ∙ chain-lowest n.size test
      ∙ ap lowest in-turn-is

  pub union-first : (c : ℕ) → c < n.size → has_bit (union_from 0 c turn) r ≡ some_below c (has_bit (in_turn (set_of n r ready) (set_of n r ahead)))
  union-first c l =
      union-is c
      ∙ some-same c test _ (λ k b. sym (ap (λ w. has_bit w k) (sym in-turn-is) ∙ below-members n.size test k ∙ ap (λ x. x && test k) (lt-ltb k n.size (omega (arith, b, l)))))

  pub past-first : (past : List ℕ) → ((c : ℕ) → c < n.size → word (n.index c) past ≡ union_from 0 c turn) → (c : ℕ) → c < n.size → has_bit (set_of n r past) c ≡ some_below c (has_bit (in_turn (set_of n r ready) (set_of n r ahead)))
  past-first past are c l =
      below-members n.size (λ k. has_bit (word (n.index k) past) r) c
      ∙ ap (λ b. b && has_bit (word (n.index c) past) r) (lt-ltb c n.size l)
      ∙ ap (λ w. has_bit w r) (are c l)
      ∙ union-first c l

  pub some-first : has_bit (union_from 0 n.size turn) r ≡ not (nat_eq (set_of n r ready) 0)
  some-first = union-is n.size ∙ all (has_bit first r) refl ∙ sym (ap not (below-some n.size can-is) ∙ not-not (some_below n.size can-is))
    where
      can-is : ℕ → Bool
      can-is c = has_bit (word (n.index c) ready) r

      unfold-test : (c : ℕ) → test c ≡ (has_bit (word (n.index c) ready) r && (has_bit (word (n.index c) ahead) r || not (has_bit first r)))
      unfold-test c = refl

      and-left-or : (a b x : Bool) → (a && b) ≡ true → (a && (b || x)) ≡ true
      and-left-or true true x e = refl
      and-left-or true false x e = absurd (true≢false (sym e))
      and-left-or false b x e = absurd (true≢false (sym e))

      all : (b : Bool) → has_bit first r ≡ b → some_below n.size test ≡ some_below n.size can-is
      all true e = elim (find-first n.size (λ c. can-is c && has_bit (word (n.index c) ahead) r)) [
        | inl none ↦ absurd (true≢false (sym e ∙ is ∙ none))
        | inr found ↦
            some-each n.size test found.0 found.1 (unfold-test found.0 ∙ and-left-or (can-is found.0) (has_bit (word (n.index found.0) ahead) r) (not (has_bit first r)) found.2)
            ∙ sym (some-each n.size can-is found.0 found.1 (first_of_both (can-is found.0) (has_bit (word (n.index found.0) ahead) r) found.2))
      ]
      all false e = some-same n.size test can-is (λ c l. unfold-test c ∙ ap (λ x. can-is c && (has_bit (word (n.index c) ahead) r || not x)) e ∙ ap (λ x. can-is c && x) (or-true (has_bit (word (n.index c) ahead) r)) ∙ and-true (can-is c))

-- whether there is one at all
pub some-asks : (n : Numbering) (r : ℕ) (asks : List ℕ) → some_below n.size (λ c. has_bit (word (n.index c) asks) r) ≡ not (nat_eq (set_of n r asks) 0)
some-asks n r asks = sym (ap not (below-some n.size (λ c. has_bit (word (n.index c) asks) r)) ∙ not-not (some_below n.size (λ c. has_bit (word (n.index c) asks) r)))

-- the pointer goes on where one is taken
pub moved-bit : (before old any : ℕ) (r : ℕ) (none next : Bool) → has_bit any r ≡ not none → has_bit before r ≡ next → has_bit (bit_or (bit_and before any) (less old any)) r ≡ (if none then has_bit old r else next)
moved-bit before old any r none next e f =
    either_members (bit_and before any) (less old any) r
    ∙ ap₂ (λ a b. a || b) (both_members before any r ∙ ap₂ (λ a b. a && b) f e) (less_members old any r ∙ ap (λ b. has_bit old r && not b) e)
    ∙ at none next (has_bit old r)
  where
    at : (z u o : Bool) → (u && not z || o && not (not z)) ≡ (if z then o else u)
    at true true true = refl
    at true true false = refl
    at true false true = refl
    at true false false = refl
    at false true true = refl
    at false true false = refl
    at false false true = refl
    at false false false = refl

-- ---- the words of the ports, one virtual channel after the other
pub apart : (c v width j : ℕ) → c < v → j < width → c * width + j < v * width
apart c v width j l m =
    let d = v - c - 1 in
    let e : v ≡ c + 1 + d = omega (arith, l) in
    let f : v * width ≡ (c + 1 + d) * width = ap (λ x. x * width) e in
    let g : (c + 1 + d) * width ≡ c * width + width + d * width = omega arith in
    omega (arith, f, g, m)

pub within : (v vcs width : ℕ) → v < vcs → v * width + width ≤ vcs * width
within v vcs width l =
    let d = vcs - v - 1 in
    let e : vcs ≡ v + 1 + d = omega (arith, l) in
    let f : vcs * width ≡ (v + 1 + d) * width = ap (λ x. x * width) e in
    let g : (v + 1 + d) * width ≡ v * width + width + d * width = omega arith in
    omega (arith, f, g)
