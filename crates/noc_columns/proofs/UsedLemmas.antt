-- A walk over the words that have a router comes to each channel of each router once.
use Rattle.std.proofs.Common.{◌≡◌, ◌≢◌, ◌⊎◌, ℕ, zero, suc, ◌+◌, ◌-◌, ◌*◌, ◌^◌, ◌/◌, ◌%◌, ◌<◌, ◌≤◌, Bool, true, false, List, Some, arith, ap, ap₂, sym, ◌∙◌, refl, inl, inr, bit_and, bit_or}
use Rattle.std.specs.Prelude.{◌&&◌, ◌||◌, not, nat_eq, nat_lt, if◌then◌else◌}
use Rattle.std.proofs.lemmas.Bool.{and_parts, cases_Bool, cases_eq, cases_lt, eq-eqb, le-ltb, lt-ltb, ltb-true, ne_eqb, true≢false}
use Rattle.std.proofs.lemmas.Nat.{mod_below, mul-le}
use Rattle.noc_packet.specs.Set.{has_bit, IsLeast}
use Rattle.noc_packet.proofs.SetLemmas.{both_members, either_members, has_bit-zero, same_set}
use Rattle.noc_sets.specs.Sets.{less, lowest}
use Rattle.noc_sets.specs.Unions.{union_from}
use Rattle.noc_sets.proofs.MemberLemmas.{and-false, and-true, ones-members, or-false, or-zero}
use Rattle.noc_columns.specs.Picks.{channels_of, links_of}
use Rattle.noc_columns.specs.Words.{AreApart, Numbering, set_of, word}
use Rattle.noc_columns.specs.declared.ports.RouterPorts.{RouterPorts}
use Rattle.noc_columns.proofs.ByRouterLemmas.{link-word, local-word}
use Rattle.noc_columns.proofs.ChannelLemmas.{channels-apart, port-below, positive}
use Rattle.noc_columns.proofs.LoopLemmas.{left-members}
use Rattle.noc_columns.proofs.PickLemmas.{apart}
use Rattle.noc_columns.proofs.PortLemmas.{link-index, member-below}
use Rattle.noc_columns.proofs.SetLemmas.{one-members}
use Rattle.noc_columns.proofs.SupplyLemmas.{member-is}
use Rattle.noc_columns.proofs.TableLemmas.{or-joined}
use Rattle.noc_columns.proofs.WalkLemmas.{union-alike}

-- ---- the words that have a router
-- one word more is looked at
pub used-next : (used alone i : ℕ) (words : List ℕ) (k : ℕ) → has_bit used k ≡ (nat_lt k i && not (nat_eq (word k words) 0))
    → alone ≡ (if not (nat_eq (word i words) 0) then 2 ^ i else 0)
    → has_bit (bit_or used alone) k ≡ (nat_lt k (i + 1) && not (nat_eq (word k words) 0))
used-next used alone i words k had one =
    either_members used alone k ∙ ap₂ (λ a b. a || b) had (ap (λ w. has_bit w k) one ∙ one-members (some i) i k) ∙ at (cases_eq k i)
  where
    some : ℕ → Bool
    some j = not (nat_eq (word j words) 0)

    at : (k ≡ i) ⊎ (k ≢ i) → ((nat_lt k i && some k) || (nat_eq k i && some i)) ≡ (nat_lt k (i + 1) && some k)
    at (inl same) =
        ap₂ (λ a b. (a && some k) || (b && some i)) (le-ltb k i (omega (arith, same))) (eq-eqb k i same)
        ∙ ap some (sym same)
        ∙ sym (ap (λ b. b && some k) (lt-ltb k (i + 1) (omega (arith, same))))
    at (inr other) =
        ap (λ b. (nat_lt k i && some k) || (b && some i)) (ne_eqb k i other) ∙ or-false (nat_lt k i && some k)
        ∙ ap (λ b. b && some k) (below (cases_lt k i))
      where
        below : (k < i) ⊎ (i ≤ k) → nat_lt k i ≡ nat_lt k (i + 1)
        below (inl l) = lt-ltb k i l ∙ sym (lt-ltb k (i + 1) (omega (arith, l)))
        below (inr m) = le-ltb k i m ∙ sym (le-ltb k (i + 1) (omega (arith, m, other)))

-- those behind are left out
pub used-all : (used count end k : ℕ) (some : Bool) → count ≤ end → has_bit used k ≡ (nat_lt k end && some) → has_bit (bit_and used (2 ^ count - 1)) k ≡ (nat_lt k count && some)
used-all used count end k some few is =
    both_members used (2 ^ count - 1) k ∙ ap₂ (λ a b. a && b) is (ones-members count k) ∙ at (cases_lt k count)
  where
    at : (k < count) ⊎ (count ≤ k) → ((nat_lt k end && some) && nat_lt k count) ≡ (nat_lt k count && some)
    at (inl l) =
        ap₂ (λ a b. (a && some) && b) (lt-ltb k end (omega (arith, l, few))) (lt-ltb k count l)
        ∙ and-true some
        ∙ sym (ap (λ b. b && some) (lt-ltb k count l))
    at (inr m) =
        ap (λ b. (nat_lt k end && some) && b) (le-ltb k count m)
        ∙ and-false (nat_lt k end && some)
        ∙ sym (ap (λ b. b && some) (le-ltb k count m))

module _ (count used : ℕ) (words : List ℕ) (is : (i : ℕ) → has_bit used i ≡ (nat_lt i count && not (nat_eq (word i words) 0))) where
  pub used-below : (i : ℕ) → has_bit used i ≡ true → i < count
  used-below i e = ltb-true i count (and_parts (nat_lt i count) (not (nat_eq (word i words) 0)) (sym (is i) ∙ e)).0

  pub used-is : (i : ℕ) → i < count → has_bit used i ≡ not (nat_eq (word i words) 0)
  used-is i l = is i ∙ ap (λ b. b && not (nat_eq (word i words) 0)) (lt-ltb i count l)

-- ---- the channel of a word
module _ (ports : RouterPorts) where
  abbrev width : ℕ
  width = ports.links.width

  abbrev vcs : ℕ
  vcs = ports.links.vcs

  -- there are few of them
  pub channels-few : (width + 1) * vcs < 64
  channels-few =
      let room = ports.room in
      let pairs = ports.pairs in
      let six : width + 1 ≤ 7 = omega (arith, room, pairs) in
      let all = mul-le (width + 1) vcs 7 8 six ports.few in
      omega (arith, all)

  -- .. of a link
  pub link-at : (i : ℕ) → i < vcs * width → (c : ℕ) × (c < width * vcs) × ((channels_of ports).index c ≡ i)
  link-at i l =
      let p = i % width in
      let v = i / width in
      let in_port : p < width = mod_below i width ports.some in
      let in_side : v < vcs = port-below vcs width ports.some i l in
      let first = ports.first in
      let whole : v * width + p ≡ i = omega arith in
      let is = link-word ports p v in_port in_side in
      (p * vcs + v, apart p width vcs v in_port in_side, omega (arith, is, first, whole))

  -- .. of the local port
  local-at : (i : ℕ) → vcs * width ≤ i → i < (width + 1) * vcs → (c : ℕ) × (c < (width + 1) * vcs) × ((channels_of ports).index c ≡ i)
  local-at i m l =
      let v = i - width * vcs in
      let few : v < vcs = omega (arith, l, m) in
      let whole : width * vcs + v ≡ i = omega (arith, m) in
      let behind = ports.behind in
      let first : ports.local.first + v * 1 + 0 ≡ i = omega (arith, behind, whole) in
      let one : v * ports.local.width ≡ v * 1 = ap (λ n. v * n) ports.one in
      let is = local-word ports v few in
      (width * vcs + v, omega (arith, few), omega (arith, is, one, first))

  -- .. is one that they have
  pub channel-of : (i : ℕ) → i < (width + 1) * vcs → (c : ℕ) × (c < (width + 1) * vcs) × ((channels_of ports).index c ≡ i)
  channel-of i l = elim (cases_lt i (vcs * width)) [
    | inl m ↦ let at = link-at i m in let few = at.1 in (at.0, omega (arith, few), at.2)
    | inr m ↦ local-at i m l
  ]

  -- the channel whose word stands among those of the links is one of a link
  pub link-below : (c i : ℕ) → c < (width + 1) * vcs → (channels_of ports).index c ≡ i → i < vcs * width → c < width * vcs
  link-below c i l is low =
      let at = link-at i low in
      let few = at.1 in
      let same = channels-apart ports c at.0 l (omega (arith, few)) (is ∙ sym at.2) in
      omega (arith, same, few)

  -- a link channel has the same word among those of the links and among all
  pub links-index : (c : ℕ) → c < width * vcs → (channels_of ports).index c ≡ (links_of ports.links).index c
  links-index c l = link-index ports (c / vcs) (c % vcs) (port-below width vcs (positive vcs width c l) c l)

  -- .. which stands among those of the links, and that of each channel among all
  pub links-within : (c : ℕ) → c < width * vcs → (links_of ports.links).index c < width * vcs
  links-within c l =
      let some = positive vcs width c l in
      let first = ports.first in
      let low = apart (c % vcs) vcs width (c / vcs) (mod_below c vcs some) (port-below width vcs some c l) in
      omega (arith, low, first)

  pub index-below : (c : ℕ) → c < (width + 1) * vcs → (channels_of ports).index c < (width + 1) * vcs
  index-below c l = elim (cases_lt c (width * vcs)) [
    | inl m ↦ let low = links-within c m in let is = links-index c m in omega (arith, low, is)
    | inr m ↦
        let v = c - width * vcs in
        let few : v < vcs = omega (arith, l, m) in
        let whole : width * vcs + v ≡ c = omega (arith, m) in
        let behind = ports.behind in
        let one : v * ports.local.width ≡ v * 1 = ap (λ n. v * n) ports.one in
        let is = local-word ports v few in
        let at : (channels_of ports).index (width * vcs + v) ≡ (channels_of ports).index c = ap (channels_of ports).index whole in
        omega (arith, is, one, behind, at, few)
  ]

  pub links-apart : AreApart (links_of ports.links)
  links-apart c d l m e = channels-apart ports c d (omega (arith, l)) (omega (arith, m)) (links-index c l ∙ e ∙ sym (links-index d m))

-- ---- the walk
-- whether channel k of the set of router r has been come to, where these words are left
abbrev pub walked : Numbering → ℕ → List ℕ → ℕ → ℕ → Bool
walked n r words rest k = has_bit (set_of n r words) k && not (has_bit rest (n.index k))

module _ (n : Numbering) (apart : AreApart n) (r : ℕ) (words : List ℕ) where
  pub walked-none : (used : ℕ) → ((k : ℕ) → k < n.size → has_bit used (n.index k) ≡ not (nat_eq (word (n.index k) words) 0)) → (k : ℕ) → walked n r words used k ≡ false
  walked-none used is k = elim (cases_Bool (has_bit (set_of n r words) k)) [
    | inl e ↦
        let l = member-below n r words k e in
        let some : word (n.index k) words ≢ 0 = λ none. true≢false (sym e ∙ member-is n r k words l ∙ ap (λ w. has_bit w r) none ∙ has_bit-zero r) in
        ap₂ (λ a b. a && not b) e (is k l ∙ ap not (ne_eqb (word (n.index k) words) 0 some))
    | inr e ↦ ap (λ b. b && not (has_bit used (n.index k))) e
  ]

  -- the word of channel c is the next one
  pub walked-next : (rest after t c : ℕ) → IsLeast (has_bit rest) (Some t) → after ≡ less rest (lowest rest) → c < n.size → n.index c ≡ t
      → (k : ℕ) → walked n r words after k ≡ (walked n r words rest k || (nat_eq k c && has_bit (word t words) r))
  walked-next rest after t c least after_is few is k = elim (cases_eq k c) [
    | inl same ↦
        let here : n.index k ≡ t = ap n.index same ∙ is in
        let had : has_bit rest (n.index k) ≡ true = ap (has_bit rest) here ∙ least.0 in
        let gone : has_bit after (n.index k) ≡ false = left k ∙ ap (λ b. has_bit rest (n.index k) && not b) (eq-eqb (n.index k) t here) ∙ and-false (has_bit rest (n.index k)) in
        let member : has_bit (set_of n r words) k ≡ has_bit (word t words) r = ap (has_bit (set_of n r words)) same ∙ member-is n r c words few ∙ ap (λ i. has_bit (word i words) r) is in
        ap₂ (λ a b. a && not b) member gone
        ∙ and-true (has_bit (word t words) r)
        ∙ sym (ap₂ (λ a b. (has_bit (set_of n r words) k && not a) || (b && has_bit (word t words) r)) had (eq-eqb k c same)
        ∙ ap (λ b. b || has_bit (word t words) r) (and-false (has_bit (set_of n r words) k)))
    | inr other ↦ apart-from other (cases_Bool (has_bit (set_of n r words) k)) ∙ sym (ap (λ b. walked n r words rest k || (b && has_bit (word t words) r)) (ne_eqb k c other) ∙ or-false (walked n r words rest k))
  ]
    where
      left : (k : ℕ) → has_bit after (n.index k) ≡ (has_bit rest (n.index k) && not (nat_eq (n.index k) t))
      left k = ap (λ w. has_bit w (n.index k)) after_is ∙ left-members rest t (n.index k) least

      apart-from : k ≢ c → (has_bit (set_of n r words) k ≡ true) ⊎ (has_bit (set_of n r words) k ≡ false) → walked n r words after k ≡ walked n r words rest k
      apart-from other (inl e) =
          let l = member-below n r words k e in
          let away : n.index k ≢ t = λ same. other (apart k c l few (same ∙ sym is)) in
          ap (λ b. has_bit (set_of n r words) k && not b) (left k ∙ ap (λ b. has_bit rest (n.index k) && not b) (ne_eqb (n.index k) t away) ∙ and-true (has_bit rest (n.index k)))
      apart-from other (inr e) = ap (λ b. b && not (has_bit after (n.index k))) e ∙ sym (ap (λ b. b && not (has_bit rest (n.index k))) e)

  pub walked-all : (rest : ℕ) → rest ≡ 0 → (k : ℕ) → walked n r words rest k ≡ has_bit (set_of n r words) k
  walked-all rest none k = ap (λ w. has_bit (set_of n r words) k && not (has_bit w (n.index k))) none ∙ ap (λ b. has_bit (set_of n r words) k && not b) (has_bit-zero (n.index k)) ∙ and-true (has_bit (set_of n r words) k)

-- ---- a walk that adds a set for each channel that it comes to
abbrev pub sum_of : (ℕ → Bool) → (ℕ → ℕ) → ℕ → ℕ
sum_of test f k = if test k then f k else 0

pub union-none : (base n : ℕ) (f : ℕ → ℕ) (test : ℕ → Bool) → ((k : ℕ) → test k ≡ false) → base ≡ union_from base n (sum_of test f)
union-none base zero f test none = refl
union-none base (suc n) f test none = union-none base n f test none ∙ sym (ap (λ b. bit_or (union_from base n (sum_of test f)) (if b then f n else 0)) (none n) ∙ or-zero (union_from base n (sum_of test f)))

-- channel c is come to, if it has something to add
pub union-walked : (base n : ℕ) (f : ℕ → ℕ) (test more : ℕ → Bool) (c : ℕ) (b : Bool) → c < n → ((k : ℕ) → more k ≡ (test k || (nat_eq k c && b)))
    → bit_or (union_from base n (sum_of test f)) (if b then f c else 0) ≡ union_from base n (sum_of more f)
union-walked base zero f test more c b l is = absurd (omega (arith, l))
union-walked base (suc m) f test more c b l is = at (cases_eq c m) (λ low. union-walked base m f test more c b low is)
  where
    same-at : (k : ℕ) → k ≢ c → more k ≡ test k
    same-at k other = is k ∙ ap (λ x. test k || (x && b)) (ne_eqb k c other) ∙ or-false (test k)

    both : (x y : Bool) (w : ℕ) → bit_or (if x then w else 0) (if y then w else 0) ≡ (if x || y then w else 0)
    both true true w = same_set _ _ (λ k. either_members w w k ∙ twice (has_bit w k))
      where
        twice : (z : Bool) → (z || z) ≡ z
        twice true = refl
        twice false = refl
    both true false w = or-zero w
    both false true w = same_set _ _ (λ k. either_members 0 w k ∙ ap (λ z. z || has_bit w k) (has_bit-zero k))
    both false false w = or-zero 0

    swap : (x y z : ℕ) → bit_or (bit_or x y) z ≡ bit_or (bit_or x z) y
    swap x y z = same_set _ _ (λ k.
        either_members (bit_or x y) z k
        ∙ ap (λ w. w || has_bit z k) (either_members x y k)
        ∙ turned (has_bit x k) (has_bit y k) (has_bit z k)
        ∙ sym (either_members (bit_or x z) y k ∙ ap (λ w. w || has_bit y k) (either_members x z k)))
      where
        turned : (u v w : Bool) → ((u || v) || w) ≡ ((u || w) || v)
        turned true v w = refl
        turned false true true = refl
        turned false true false = refl
        turned false false true = refl
        turned false false false = refl

    at : (c ≡ m) ⊎ (c ≢ m) → (c < m → bit_or (union_from base m (sum_of test f)) (if b then f c else 0) ≡ union_from base m (sum_of more f))
        → bit_or (bit_or (union_from base m (sum_of test f)) (sum_of test f m)) (if b then f c else 0) ≡ bit_or (union_from base m (sum_of more f)) (sum_of more f m)
    at (inl same) before =
        or-joined (union_from base m (sum_of test f)) (sum_of test f m) (if b then f c else 0)
        ∙ ap₂ bit_or (union-alike base m (sum_of test f) (sum_of more f) (λ k low. let other : k ≢ c = omega (arith, low, same) in ap (λ x. if x then f k else 0) (sym (same-at k other))))
        (ap (λ j. bit_or (sum_of test f m) (if b then f j else 0)) same
        ∙ both (test m) b (f m)
        ∙ ap (λ x. if x then f m else 0) (sym (is m ∙ ap (λ x. test m || (x && b)) (eq-eqb m c (sym same)))))
    at (inr other) before =
        let low : c < m = omega (arith, l, other) in
        swap (union_from base m (sum_of test f)) (sum_of test f m) (if b then f c else 0)
        ∙ ap₂ bit_or (before low) (ap (λ x. if x then f m else 0) (sym (same-at m (λ e. other (sym e)))))
