-- In which routers something comes to a channel.
use Rattle.std.proofs.Common.{◌≡◌, ◌⊎◌, ℕ, ◌+◌, ◌*◌, ◌/◌, ◌%◌, ◌<◌, Bool, true, false, List, arith, ap, ap₂, sym, ◌∙◌, refl, inl, inr, bit_or}
use Rattle.std.specs.Prelude.{◌&&◌, ◌||◌, not, nat_eq}
use Rattle.std.proofs.lemmas.Nat.{mod_below}
use Rattle.noc_sets.proofs.MemberLemmas.{either-zero}
use Rattle.noc_sets.proofs.UnionLemmas.{some-none}
use Rattle.noc_columns.proofs.PassLemmas.{some-same}
use Rattle.noc_columns.proofs.PickLemmas.{some-asks, some-each}
use Rattle.noc_cycles.proofs.Common.{div-mul-add, mod-mul-add, has_bit, up_by, some_below, links_of, port_at, Numbering, set_of, word, port-below, apart, find-first, none-each, Pattern}
use Rattle.noc_cycles.proofs.PartLemmas.{in-parts, link-index-below}
use Rattle.noc_cycles.proofs.ShiftLemmas.{up-some}
use Rattle.noc_cycles.specs.Taking.{comes_to}

-- each of the first so many words is that of a channel
pub some-words : (n : Numbering) (count r : ℕ) (words : List ℕ) → ((c : ℕ) → c < n.size → n.index c < count) → ((i : ℕ) → i < count → (c : ℕ) × (c < n.size) × (n.index c ≡ i))
    → some_below count (λ i. has_bit (word i words) r) ≡ not (nat_eq (set_of n r words) 0)
some-words n count r words below onto = at (find-first count (λ i. has_bit (word i words) r)) ∙ some-asks n r words
  where
    at : (some_below count (λ i. has_bit (word i words) r) ≡ false) ⊎ ((t : ℕ) × (t < count) × (has_bit (word t words) r ≡ true) × (some_below t (λ i. has_bit (word i words) r) ≡ false))
        → some_below count (λ i. has_bit (word i words) r) ≡ some_below n.size (λ c. has_bit (word (n.index c) words) r)
    at (inl none) = none ∙ sym (some-none n.size (λ c. has_bit (word (n.index c) words) r) (λ c l. none-each count (λ i. has_bit (word i words) r) none (n.index c) (below c l)))
    at (inr found) =
        let one = onto found.0 found.1 in
        some-each count (λ i. has_bit (word i words) r) found.0 found.1 found.2
        ∙ sym (some-each n.size (λ c. has_bit (word (n.index c) words) r) one.0 one.1 (ap (λ i. has_bit (word i words) r) one.2 ∙ found.2))

-- what is in neither of two sets is in none
pub in-neither : (a b : ℕ) → (not (nat_eq a 0) || not (nat_eq b 0)) ≡ not (nat_eq (bit_or a b) 0)
in-neither a b = at (nat_eq a 0) (nat_eq b 0) ∙ ap not (sym (either-zero a b))
  where
    at : (x y : Bool) → (not x || not y) ≡ not (x && y)
    at true y = refl
    at false y = refl

module _ (pattern : Pattern) where
  abbrev wide : ℕ
  wide = pattern.table.ports.links.width

  abbrev vcs : ℕ
  vcs = pattern.table.ports.links.vcs

  -- the word with an index below that of the first local channel is that of a link channel
  pub link-place : (i : ℕ) → i < vcs * wide → (i % wide * vcs + i / wide < wide * vcs) × ((links_of pattern.table.ports.links).index (i % wide * vcs + i / wide) ≡ i)
  link-place i l =
      let p = i % wide in
      let v = i / wide in
      let in_port : p < wide = mod_below i wide pattern.table.ports.some in
      let in_side : v < vcs = port-below vcs wide pattern.table.ports.some i l in
      let first = pattern.table.ports.first in
      let whole : v * wide + p ≡ i = omega arith in (
        apart p wide vcs v in_port in_side,
        ap₂ (λ q w. (port_at pattern.table.ports.links q).index w) (div-mul-add p vcs v in_side) (mod-mul-add p vcs v in_side) ∙ omega (arith, first, whole),
      )

  link-of : (i : ℕ) → i < vcs * wide → (c : ℕ) × (c < wide * vcs) × ((links_of pattern.table.ports.links).index c ≡ i)
  link-of i l = let at = link-place i l in (i % wide * vcs + i / wide, at.0, at.1)

  some-links : (r : ℕ) (words : List ℕ) → some_below (vcs * wide) (λ i. has_bit (word i words) r) ≡ not (nat_eq (set_of (links_of pattern.table.ports.links) r words) 0)
  some-links r words = some-words (links_of pattern.table.ports.links) (vcs * wide) r words (λ c l. link-index-below pattern c l) (λ i l. link-of i l)

  -- .. from the first on
  pub some-over : (r : ℕ) (words : List ℕ) → some_below (vcs * wide) (λ i. has_bit (word (0 + i) words) r) ≡ not (nat_eq (set_of (links_of pattern.table.ports.links) r words) 0)
  some-over r words = some-same (vcs * wide) _ _ (λ k l. let e : 0 + k ≡ k = omega arith in ap (λ i. has_bit (word i words) r) e) ∙ some-links r words

  -- where a source injects, something comes
  pub injected-comes : (r : ℕ) (flits credits : List ℕ) → not (nat_eq (set_of (port_at pattern.table.ports.local 0) r flits) 0) ≡ true → comes_to pattern.table.ports (record { flits = flits; tails = flits; credits = credits }) r ≡ true
  injected-comes r flits credits some =
      let own = set_of (port_at pattern.table.ports.local 0) r flits in
      let links = set_of (links_of pattern.table.ports.links) r flits in
      let back = set_of (links_of pattern.table.ports.links) r credits in
      let n = wide * vcs in
      ap (λ w. not (nat_eq (bit_or w back) 0)) (in-parts pattern.table.ports r flits)
      ∙ sym (in-neither (bit_or links (up_by own n)) back)
      ∙ ap (λ x. x || not (nat_eq back 0)) (sym (in-neither links (up_by own n)) ∙ ap (λ x. not (nat_eq links 0) || x) (ap not (up-some own n) ∙ some) ∙ right (not (nat_eq links 0)))
    where
      right : (b : Bool) → (b || true) ≡ true
      right true = refl
      right false = refl
