-- The words of the ports of a router, and what is picked of each port.
use Rattle.std.proofs.Common.{◌≡◌, ◌≢◌, ◌⊎◌, ℕ, suc, ◌+◌, ◌-◌, ◌*◌, ◌<◌, ◌≤◌, Bool, true, false, List, Some, arith, ap, ap₂, sym, ◌∙◌, subst, refl, inl, inr}
use Rattle.std.specs.Prelude.{◌&&◌, nat_eq, if◌then◌else◌, slice_index}
use Rattle.std.proofs.lemmas.Bool.{and_parts, cases_eq, cases_lt, le-ltb, lt-ltb, ne_eqb, true≢false}
use Rattle.noc_packet.specs.Set.{has_bit, IsLeast}
use Rattle.noc_packet.proofs.SetLemmas.{has_bit-zero}
use Rattle.noc_sets.specs.Sets.{lowest}
use Rattle.noc_sets.specs.Turns.{first_bit, in_turn}
use Rattle.noc_sets.specs.Unions.{some_below}
use Rattle.noc_sets.proofs.MemberLemmas.{less_members, lowest_members}
use Rattle.noc_columns.specs.Picks.{IsPicked, port_at, port_of}
use Rattle.noc_columns.specs.Words.{Numbering, set_below, set_of, word}
use Rattle.noc_columns.specs.declared.ports.RouterPorts.{RouterPorts}
use Rattle.noc_columns.proofs.PickLemmas.{apart, find-first, none-each, some-each}
use Rattle.noc_columns.proofs.SetLemmas.{below-members, below-same}

-- ---- the words of a port
module _ (ports : RouterPorts) where
  pub link-index : (p v : ℕ) → p < ports.links.width → (port_of ports p).index v ≡ (port_at ports.links p).index v
  link-index p v l = ap (λ b. if b then (port_at ports.links p).index v else (port_at ports.local 0).index v) (lt-ltb p ports.links.width l)

  pub local-index : (p v : ℕ) → ports.links.width ≤ p → (port_of ports p).index v ≡ (port_at ports.local 0).index v
  local-index p v l = ap (λ b. if b then (port_at ports.links p).index v else (port_at ports.local 0).index v) (le-ltb p ports.links.width l)

  -- one word behind the other, where this is one port
  pub local-place : (p v : ℕ) → ports.links.width ≤ p → ports.local.width ≡ 1 → (port_of ports p).index v ≡ ports.local.first + v
  local-place p v l one = local-index p v l ∙ (let f : v * ports.local.width ≡ v * 1 = ap (λ w. v * w) one in omega (arith, f))

  -- the words of the link ports stand before those of the local port
  pub link-before : (p v : ℕ) → p < ports.links.width → v < ports.links.vcs → ports.links.first + ports.links.vcs * ports.links.width ≤ ports.local.first → (port_at ports.links p).index v < ports.local.first
  link-before p v l m behind = let far = apart v ports.links.vcs ports.links.width p m l in omega (arith, far, behind)

-- sets of the same words
pub sets-same : (n m : Numbering) (r : ℕ) (words others : List ℕ) → n.size ≡ m.size → ((c : ℕ) → c < n.size → word (n.index c) words ≡ word (m.index c) others) → set_of n r words ≡ set_of m r others
sets-same n m r words others e same =
    below-same n.size _ _ (λ k l. ap (λ w. has_bit w r) (same k l))
    ∙ ap (λ s. set_below s (λ c. has_bit (word (m.index c) others) r)) e

pub picked-same : (n m : Numbering) (r : ℕ) (ready ahead picked past picked2 past2 : List ℕ) → n.size ≡ m.size
    → ((c : ℕ) → c < n.size → n.index c ≡ m.index c)
    → ((c : ℕ) → c < n.size → word (m.index c) picked2 ≡ word (m.index c) picked)
    → ((c : ℕ) → c < n.size → word (m.index c) past2 ≡ word (m.index c) past)
    → IsPicked m r ready ahead picked past → IsPicked n r ready ahead picked2 past2
picked-same n m r ready ahead picked past picked2 past2 e index same after is = record {
  first = sets-same n m r picked2 picked e (λ c l. ap (λ i. word i picked2) (index c l) ∙ same c l) ∙ is.first ∙ sym (ap₂ first_bit (at ready) (at ahead));
  after = λ c l.
      ap (λ s. has_bit s c) (sets-same n m r past2 past e (λ k m. ap (λ i. word i past2) (index k m) ∙ after k m))
      ∙ is.after c (subst (λ s. c < s) e l)
      ∙ sym (ap₂ (λ a b. some_below c (has_bit (in_turn a b))) (at ready) (at ahead));
}
  where
    at : (words : List ℕ) → set_of n r words ≡ set_of m r words
    at words = sets-same n m r words words e (λ c l. ap (λ i. word i words) (index c l))

-- what holds of the words of the channels below i, and of those that are written, holds of all below
-- i + 1
pub written-next : (ports : RouterPorts) (now new row : List ℕ) (Q : ℕ → ℕ → ℕ → Type 0) (i : ℕ) → i < ports.links.vcs
    → ((p c : ℕ) → p < ports.links.width + 1 → c < i → Q p c (word ((port_of ports p).index c) now))
    → ((p : ℕ) → p < ports.links.width + 1 → word ((port_of ports p).index i) new ≡ slice_index row p)
    → ((p c : ℕ) → p < ports.links.width + 1 → c < ports.links.vcs → c ≢ i → word ((port_of ports p).index c) new ≡ word ((port_of ports p).index c) now)
    → ((p : ℕ) → p < ports.links.width + 1 → Q p i (slice_index row p))
    → (p c : ℕ) → p < ports.links.width + 1 → c < i + 1 → Q p c (word ((port_of ports p).index c) new)
written-next ports now new row Q i few done here others is p c l m = elim (cases_eq c i) [
  | inl same ↦ subst (λ k. Q p k (word ((port_of ports p).index k) new)) (sym same) (subst (Q p i) (sym (here p l)) (is p l))
  | inr other ↦ subst (Q p c) (sym (others p c l (omega (arith, few, m)) other)) (done p c l (omega (arith, m, other)))
]

-- ---- of a set with one member of a port
pub one-both : (n : ℕ) (test of : ℕ → Bool) (k : ℕ) → k < n → test k ≡ true → ((d : ℕ) → d < n → test d ≡ true → d ≡ k) → some_below n (λ c. test c && of c) ≡ of k
one-both n test of k l is alone = at (of k) refl
  where
    at : (b : Bool) → of k ≡ b → some_below n (λ c. test c && of c) ≡ of k
    at true e = some-each n (λ c. test c && of c) k l (ap₂ (λ a b. a && b) is e) ∙ sym e
    at false e = elim (find-first n (λ c. test c && of c)) [
      | inl none ↦ none ∙ sym e
      | inr found ↦
          let parts = and_parts (test found.0) (of found.0) found.2 in
          absurd (true≢false (sym parts.1 ∙ ap of (alone found.0 found.1 parts.0) ∙ e))
    ]

-- .. where none of its members passes
pub none-both : (n : ℕ) (test of : ℕ → Bool) → ((k : ℕ) → k < n → test k ≡ true → of k ≡ false) → some_below n (λ c. test c && of c) ≡ false
none-both n test of none = at (find-first n (λ c. test c && of c))
  where
    at : (some_below n (λ c. test c && of c) ≡ false) ⊎ ((t : ℕ) × (t < n) × ((test t && of t) ≡ true) × (some_below t (λ c. test c && of c) ≡ false)) → some_below n (λ c. test c && of c) ≡ false
    at (inl e) = e
    at (inr found) = let parts = and_parts (test found.0) (of found.0) found.2 in absurd (true≢false (sym parts.1 ∙ none found.0 found.1 parts.0))

pub lowest-least : (a c : ℕ) → has_bit (lowest a) c ≡ true → IsLeast (has_bit a) (Some c)
lowest-least a c is = at (find-first (suc c) (has_bit a))
  where
    here : has_bit a c ≡ true
    here = (and_parts (has_bit a c) _ (sym (less_members a (a - 1) c) ∙ is)).0

    at : (some_below (suc c) (has_bit a) ≡ false) ⊎ ((t : ℕ) × (t < suc c) × (has_bit a t ≡ true) × (some_below t (has_bit a) ≡ false)) → IsLeast (has_bit a) (Some c)
    at (inl none) = absurd (true≢false (sym here ∙ none-each (suc c) (has_bit a) none c (omega arith)))
    at (inr found) =
        let least : IsLeast (has_bit a) (Some found.0) = (found.2, λ k b. none-each found.0 (has_bit a) found.3 k b) in
        elim (cases_eq c found.0) [
          | inl same ↦ subst (λ t. IsLeast (has_bit a) (Some t)) (sym same) least
          | inr other ↦ absurd (true≢false (sym is ∙ lowest_members a found.0 c least ∙ ne_eqb c found.0 other))
        ]

pub lowest-alone : (a c d : ℕ) → has_bit (lowest a) c ≡ true → has_bit (lowest a) d ≡ true → d ≡ c
lowest-alone a c d is other = elim (cases_eq d c) [
  | inl same ↦ same
  | inr apart ↦ absurd (true≢false (sym other ∙ lowest_members a c d (lowest-least a c is) ∙ ne_eqb d c apart))
]

pub some-member : (s k : ℕ) → has_bit s k ≡ true → nat_eq s 0 ≡ false
some-member s k is = ne_eqb s 0 (λ e. true≢false (sym is ∙ ap (λ x. has_bit x k) e ∙ has_bit-zero k))

pub member-below : (n : Numbering) (r : ℕ) (words : List ℕ) (k : ℕ) → has_bit (set_of n r words) k ≡ true → k < n.size
member-below n r words k e = elim (cases_lt k n.size) [
  | inl l ↦ l
  | inr m ↦ absurd (true≢false (sym e ∙ below-members n.size (λ c. has_bit (word (n.index c) words) r) k ∙ ap (λ b. b && has_bit (word (n.index k) words) r) (le-ltb k n.size m)))
]
