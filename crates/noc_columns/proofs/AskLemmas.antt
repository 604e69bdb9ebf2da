-- Waiting channels ask one by one.
use Rattle.std.proofs.Common.{◌≡◌, ◌≢◌, ℕ, ◌^◌, ◌<◌, ◌≤◌, Bool, true, false, Option, Some, None, refl, ap, ap₂, sym, ◌∙◌, subst, arith, inl, inr, bit_and, bit_or}
use Rattle.std.specs.Prelude.{◌⊎◌, ◌&&◌, ◌||◌, not, is_some, nat_eq, if◌then◌else◌}
use Rattle.std.proofs.lemmas.Bool.{cases_Bool, cases_eq, cases_lt, eq-eqb, ne_eqb, eqb-true, false≢true, true≢false, and_parts}
use Rattle.std.proofs.lemmas.Nat.{and_le_r}
use Rattle.noc_topo.specs.Lists.{is_some_of}
use Rattle.noc_packet.specs.Set.{has_bit, IsLeast}
use Rattle.noc_packet.proofs.SetLemmas.{both_members, has_bit-zero, either_members, zero_from_none}
use Rattle.noc_sets.specs.Grants.{AreAsks, asked_of}
use Rattle.noc_sets.specs.Sets.{least, less, lowest}
use Rattle.noc_sets.proofs.MemberLemmas.{above_64, and-false, and-true, least_below, least_is, less_members, lowest-is, or-cases, or-false, or-left, or-right, or-zero, power-members}
use Rattle.noc_columns.proofs.LoopLemmas.{all-done, least-same, left-part, none-left, not-done, not-left}

-- ---- one more channel asks
-- the members that a test has, and one more
module _ (waits next : ℕ → Bool) (idle : ℕ) (set requests : ℕ → ℕ) (outs inputs wanted t : ℕ) (are : AreAsks waits idle set requests outs inputs wanted) (new : waits t ≡ false) (more : (k : ℕ) → next k ≡ (waits k || nat_eq k t)) where
  asks-of : (ask : Option ℕ) → asked_of idle (set t) ≡ ask → (test : Option ℕ → Bool) (k : ℕ) → (next k && test (asked_of idle (set k))) ≡ ((waits k && test (asked_of idle (set k))) || (nat_eq k t && test ask))
  asks-of ask is test k = at (cases_eq k t)
    where
      at : (k ≡ t) ⊎ (k ≢ t) → (next k && test (asked_of idle (set k))) ≡ ((waits k && test (asked_of idle (set k))) || (nat_eq k t && test ask))
      at (inl same) =
          let here : next k ≡ true = more k ∙ or-right (waits k) (nat_eq k t) (eq-eqb k t same) in
          let before : waits k ≡ false = ap waits same ∙ new in
          let e : test (asked_of idle (set k)) ≡ test ask = ap (λ n. test (asked_of idle (set n))) same ∙ ap test is in
          rw (here, before, eq-eqb k t same) e
      at (inr other) =
          let here : next k ≡ waits k = more k ∙ ap (λ b. waits k || b) (ne_eqb k t other) ∙ or-false (waits k) in
          rw (here, ne_eqb k t other) (sym (or-false (waits k && test (asked_of idle (set k)))))

  wanted-each : (o k : ℕ) → next k ≡ true → has_bit (set k) o ≡ true → has_bit (bit_or wanted (set t)) o ≡ true
  wanted-each o k a b = either_members wanted (set t) o ∙ at (or-cases (waits k) (nat_eq k t) (sym (more k) ∙ a))
    where
      at : (waits k ≡ true) ⊎ (nat_eq k t ≡ true) → (has_bit wanted o || has_bit (set t) o) ≡ true
      at (inl w) = or-left (has_bit wanted o) (has_bit (set t) o) (are.wanted o k w b)
      at (inr e) = or-right (has_bit wanted o) (has_bit (set t) o) (ap (λ n. has_bit (set n) o) (sym (eqb-true k t e)) ∙ b)

  wanted-from : (o : ℕ) → has_bit (bit_or wanted (set t)) o ≡ true → (k : ℕ) × (next k ≡ true) × (has_bit (set k) o ≡ true)
  wanted-from o e = at (or-cases (has_bit wanted o) (has_bit (set t) o) (sym (either_members wanted (set t) o) ∙ e))
    where
      at : (has_bit wanted o ≡ true) ⊎ (has_bit (set t) o ≡ true) → (k : ℕ) × (next k ≡ true) × (has_bit (set k) o ≡ true)
      at (inl w) = let from = are.wanted_by o w in (from.0, more from.0 ∙ or-left (waits from.0) (nat_eq from.0 t) from.1, from.2)
      at (inr h) = (t, more t ∙ or-right (waits t) (nat_eq t t) (eq-eqb t t refl), h)

  -- it asks for an idle channel
  pub asks-next : (after : ℕ → ℕ) → 0 < bit_and (set t) idle → after (least (bit_and (set t) idle)) ≡ bit_or (requests (least (bit_and (set t) idle))) (2 ^ t)
      → ((o : ℕ) → o < 64 → o ≢ least (bit_and (set t) idle) → after o ≡ requests o)
      → AreAsks next idle set after (bit_or outs (2 ^ least (bit_and (set t) idle))) (bit_or inputs (2 ^ t)) (bit_or wanted (set t))
  asks-next after some here others = record {
    asked = λ o k l. asked o k l (cases_eq o (least (bit_and (set t) idle)));
    asked_for = λ o l. outs_of o l (cases_eq o (least (bit_and (set t) idle)));
    asking = λ k. either_members inputs (2 ^ t) k ∙ ap₂ (λ a b. a || b) (are.asking k) (power-members t k ∙ sym (and-true (nat_eq k t))) ∙ sym (asks-of (Some (least (bit_and (set t) idle))) is is_some k);
    wanted = λ o k a b. wanted-each o k a b;
    wanted_by = λ o e. wanted-from o e;
  }
    where
      is : asked_of idle (set t) ≡ Some (least (bit_and (set t) idle))
      is = ap (λ b. if b then None else Some (least (bit_and (set t) idle))) (ne_eqb (bit_and (set t) idle) 0 (λ e. absurd (omega arith)))

      asked : (o k : ℕ) → o < 64 → (o ≡ least (bit_and (set t) idle)) ⊎ (o ≢ least (bit_and (set t) idle)) → has_bit (after o) k ≡ (next k && is_some_of (asked_of idle (set k)) o)
      asked o k l (inl same) =
          ap (λ x. has_bit x k) (ap after same ∙ here ∙ ap (λ x. bit_or (requests x) (2 ^ t)) (sym same)) ∙ either_members (requests o) (2 ^ t) k
          ∙ ap₂ (λ a b. a || b) (are.asked o k l) (power-members t k ∙ sym (and-true (nat_eq k t)) ∙ ap (λ b. nat_eq k t && b) (sym (eq-eqb (least (bit_and (set t) idle)) o (sym same))))
          ∙ sym (asks-of (Some (least (bit_and (set t) idle))) is (λ ask. is_some_of ask o) k)
      asked o k l (inr other) =
          ap (λ x. has_bit x k) (others o l other) ∙ are.asked o k l
          ∙ sym (asks-of (Some (least (bit_and (set t) idle))) is (λ ask. is_some_of ask o) k
          ∙ ap (λ b. (waits k && is_some_of (asked_of idle (set k)) o) || (nat_eq k t && b)) (ne_eqb (least (bit_and (set t) idle)) o (λ e. other (sym e)))
          ∙ ap (λ b. (waits k && is_some_of (asked_of idle (set k)) o) || b) (and-false (nat_eq k t)) ∙ or-false (waits k && is_some_of (asked_of idle (set k)) o))

      outs_of : (o : ℕ) → o < 64 → (o ≡ least (bit_and (set t) idle)) ⊎ (o ≢ least (bit_and (set t) idle)) → has_bit (bit_or outs (2 ^ least (bit_and (set t) idle))) o ≡ not (nat_eq (after o) 0)
      outs_of o l (inl same) =
          either_members outs (2 ^ least (bit_and (set t) idle)) o ∙ or-right (has_bit outs o) _ (power-members (least (bit_and (set t) idle)) o ∙ eq-eqb o (least (bit_and (set t) idle)) same)
          ∙ sym (ap not (ne_eqb (after o) 0 (λ e. false≢true (sym (ap (λ x. has_bit x t) e ∙ has_bit-zero t) ∙ (asked o t l (inl same) ∙ member)))))
        where
          member : (next t && is_some_of (asked_of idle (set t)) o) ≡ true
          member =
              let up : next t ≡ true = more t ∙ or-right (waits t) (nat_eq t t) (eq-eqb t t refl) in
              ap₂ (λ (x : Bool) (ask : Option ℕ). x && is_some_of ask o) up is ∙ eq-eqb (least (bit_and (set t) idle)) o (sym same)
      outs_of o l (inr other) =
          either_members outs (2 ^ least (bit_and (set t) idle)) o
          ∙ ap (λ b. has_bit outs o || b) (power-members (least (bit_and (set t) idle)) o ∙ ne_eqb o (least (bit_and (set t) idle)) other) ∙ or-false (has_bit outs o)
          ∙ are.asked_for o l ∙ ap (λ x. not (nat_eq x 0)) (sym (others o l other))

  -- no channel of its set is idle
  pub asks-none : bit_and (set t) idle ≡ 0 → AreAsks next idle set requests outs inputs (bit_or wanted (set t))
  asks-none z = record {
    asked = λ o k l. are.asked o k l ∙ same (λ ask. is_some_of ask o) refl k;
    asked_for = are.asked_for;
    asking = λ k. are.asking k ∙ same is_some refl k;
    wanted = λ o k a b. wanted-each o k a b;
    wanted_by = λ o e. wanted-from o e;
  }
    where
      is : asked_of idle (set t) ≡ None
      is = ap (λ b. if b then None else Some (least (bit_and (set t) idle))) (eq-eqb (bit_and (set t) idle) 0 z)

      same : (test : Option ℕ → Bool) → test None ≡ false → (k : ℕ) → (waits k && test (asked_of idle (set k))) ≡ (next k && test (asked_of idle (set k)))
      same test none k =
          sym (asks-of None is test k ∙ ap (λ b. (waits k && test (asked_of idle (set k))) || (nat_eq k t && b)) none
          ∙ ap (λ b. (waits k && test (asked_of idle (set k))) || b) (and-false (nat_eq k t)) ∙ or-false (waits k && test (asked_of idle (set k))))

-- the same channels ask
pub asks-same : (waits next : ℕ → Bool) (idle : ℕ) (set requests : ℕ → ℕ) (outs inputs wanted : ℕ) → AreAsks waits idle set requests outs inputs wanted → ((k : ℕ) → next k ≡ waits k) → AreAsks next idle set requests outs inputs wanted
asks-same waits next idle set requests outs inputs wanted are same = record {
  asked = λ o k l. are.asked o k l ∙ ap (λ b. b && is_some_of (asked_of idle (set k)) o) (sym (same k));
  asked_for = are.asked_for;
  asking = λ k. are.asking k ∙ ap (λ b. b && is_some (asked_of idle (set k))) (sym (same k));
  wanted = λ o k a b. are.wanted o k (sym (same k) ∙ a) b;
  wanted_by = λ o e. let from = are.wanted_by o e in (from.0, same from.0 ∙ from.1, from.2);
}

-- nobody asks
pub asks-nobody : (waits : ℕ → Bool) (idle : ℕ) (set requests : ℕ → ℕ) → ((k : ℕ) → waits k ≡ false) → ((o : ℕ) → o < 64 → requests o ≡ 0) → AreAsks waits idle set requests 0 0 0
asks-nobody waits idle set requests none empty = record {
  asked = λ o k l. ap (λ x. has_bit x k) (empty o l) ∙ has_bit-zero k ∙ sym (ap (λ b. b && is_some_of (asked_of idle (set k)) o) (none k));
  asked_for = λ o l. has_bit-zero o ∙ sym (ap (λ x. not (nat_eq x 0)) (empty o l));
  asking = λ k. has_bit-zero k ∙ sym (ap (λ b. b && is_some (asked_of idle (set k))) (none k));
  wanted = λ o k a b. absurd (false≢true (sym (none k) ∙ a));
  wanted_by = λ o e. absurd (false≢true (sym (has_bit-zero o) ∙ e));
}

-- other requests for no channel
pub asks-requests : (waits : ℕ → Bool) (idle : ℕ) (set requests after : ℕ → ℕ) (outs inputs wanted : ℕ) → AreAsks waits idle set requests outs inputs wanted → ((o : ℕ) → o < 64 → after o ≡ requests o) → AreAsks waits idle set after outs inputs wanted
asks-requests waits idle set requests after outs inputs wanted are same = record {
  asked = λ o k l. ap (λ x. has_bit x k) (same o l) ∙ are.asked o k l;
  asked_for = λ o l. are.asked_for o l ∙ ap (λ x. not (nat_eq x 0)) (sym (same o l));
  asking = are.asking;
  wanted = are.wanted;
  wanted_by = are.wanted_by;
}

-- those of these channels that ask for none
abbrev pub AskNone : (ℕ → Bool) → ℕ → (ℕ → ℕ) → ℕ → Type 0
AskNone waits idle set none = (k : ℕ) → has_bit none k ≡ (waits k && not (is_some (asked_of idle (set k))))

-- the step of the loop: what the least waiting channel that is left asks for is noted at a place
module _ (waiting rest idle t : ℕ) (set requests : ℕ → ℕ) (outs inputs wanted : ℕ) (is : IsLeast (has_bit rest) (Some t)) (part : (k : ℕ) → has_bit rest k ≡ true → has_bit waiting k ≡ true)
    (fits : bit_and (set t) idle < 2 ^ 64) (are : AreAsks (λ k. has_bit waiting k && not (has_bit rest k)) idle set requests outs inputs wanted) where
  abbrev next : ℕ → Bool
  next k = has_bit waiting k && not (has_bit (less rest (lowest rest)) k)

  abbrev done : ℕ → Bool
  done k = has_bit waiting k && not (has_bit rest k)

  more : (k : ℕ) → next k ≡ (done k || nat_eq k t)
  more k = not-left waiting rest t k is part

  new : done t ≡ false
  new = not-done waiting rest t is.0

  pub asks-step : (after : ℕ → ℕ) (asks place : ℕ) → asks ≡ (if nat_eq (bit_and (set t) idle) 0 then 0 else 2 ^ t) → (0 < bit_and (set t) idle → place ≡ least (bit_and (set t) idle))
      → (bit_and (set t) idle ≡ 0 → place ≡ 64) → after place ≡ bit_or (requests place) (2 ^ t) → ((o : ℕ) → o ≢ place → after o ≡ requests o)
      → AreAsks next idle set after (bit_or outs (lowest (bit_and (set t) idle))) (bit_or inputs asks) (bit_or wanted (set t))
  asks-step after asks place asked there past here others = at (cases_lt 0 (bit_and (set t) idle))
    where
      at : (0 < bit_and (set t) idle) ⊎ (bit_and (set t) idle ≤ 0) → AreAsks next idle set after (bit_or outs (lowest (bit_and (set t) idle))) (bit_or inputs asks) (bit_or wanted (set t))
      at (inl free) =
          let out : lowest (bit_and (set t) idle) ≡ 2 ^ least (bit_and (set t) idle) = lowest-is (bit_and (set t) idle) free fits in
          let one : asks ≡ 2 ^ t = asked ∙ ap (λ b. if b then 0 else 2 ^ t) (ne_eqb (bit_and (set t) idle) 0 (λ e. absurd (omega arith))) in
          let it : place ≡ least (bit_and (set t) idle) = there free in
          subst (λ x. AreAsks next idle set after (bit_or outs x) (bit_or inputs asks) (bit_or wanted (set t))) (sym out)
          (subst (λ x. AreAsks next idle set after (bit_or outs (2 ^ least (bit_and (set t) idle))) (bit_or inputs x) (bit_or wanted (set t))) (sym one)
          (asks-next done next idle set requests outs inputs wanted t are new more after free
          (ap after (sym it) ∙ here ∙ ap (λ x. bit_or (requests x) (2 ^ t)) it)
          (λ o l other. others o (λ e. other (e ∙ it)))))
      at (inr none) =
          let z : bit_and (set t) idle ≡ 0 = omega arith in
          let out : bit_or outs (lowest (bit_and (set t) idle)) ≡ outs = ap (λ n. bit_or outs (lowest n)) z ∙ or-zero outs in
          let nothing : asks ≡ 0 = asked ∙ ap (λ b. if b then 0 else 2 ^ t) (eq-eqb (bit_and (set t) idle) 0 z) in
          let it : place ≡ 64 = past z in
          subst (λ x. AreAsks next idle set after x (bit_or inputs asks) (bit_or wanted (set t))) (sym out)
          (subst (λ x. AreAsks next idle set after outs x (bit_or wanted (set t))) (sym (ap (bit_or inputs) nothing ∙ or-zero inputs))
          (asks-requests next idle set requests after outs inputs (bit_or wanted (set t))
          (asks-none done next idle set requests outs inputs wanted t are new more z)
          (λ o l. others o (omega (arith, l, it)))))

  -- and behind all places stand those that ask for none
  pub left-step : (after : ℕ → ℕ) (place : ℕ) → (0 < bit_and (set t) idle → place ≡ least (bit_and (set t) idle)) → (bit_and (set t) idle ≡ 0 → place ≡ 64)
      → after place ≡ bit_or (requests place) (2 ^ t) → ((o : ℕ) → o ≢ place → after o ≡ requests o) → AskNone done idle set (requests 64) → AskNone next idle set (after 64)
  left-step after place there past here others old k = at (cases_lt 0 (bit_and (set t) idle))
    where
      test : Option ℕ → Bool
      test ask = not (is_some ask)

      at : (0 < bit_and (set t) idle) ⊎ (bit_and (set t) idle ≤ 0) → has_bit (after 64) k ≡ (next k && test (asked_of idle (set k)))
      at (inl free) =
          let ask : asked_of idle (set t) ≡ Some (least (bit_and (set t) idle)) = ap (λ b. if b then None else Some (least (bit_and (set t) idle))) (ne_eqb (bit_and (set t) idle) 0 (λ e. absurd (omega arith))) in
          ap (λ x. has_bit x k) (others 64 (omega (arith, there free, least_below (bit_and (set t) idle) free fits))) ∙ old k
          ∙ sym (asks-of done next idle set requests outs inputs wanted t are new more (Some (least (bit_and (set t) idle))) ask test k
          ∙ ap (λ b. (done k && test (asked_of idle (set k))) || b) (and-false (nat_eq k t)) ∙ or-false (done k && test (asked_of idle (set k))))
      at (inr none) =
          let z : bit_and (set t) idle ≡ 0 = omega arith in
          let ask : asked_of idle (set t) ≡ None = ap (λ b. if b then None else Some (least (bit_and (set t) idle))) (eq-eqb (bit_and (set t) idle) 0 z) in
          ap (λ x. has_bit x k) (ap after (sym (past z)) ∙ here ∙ ap (λ x. bit_or (requests x) (2 ^ t)) (past z)) ∙ either_members (requests 64) (2 ^ t) k
          ∙ ap₂ (λ a b. a || b) (old k) (power-members t k ∙ sym (and-true (nat_eq k t)))
          ∙ sym (asks-of done next idle set requests outs inputs wanted t are new more None ask test k)

-- what the code's loop keeps
pub record AreAsking (waiting idle : ℕ) (set requests : ℕ → ℕ) (outs wanted rest : ℕ) : Type 0 where
  pub part : (k : ℕ) → has_bit rest k ≡ true → has_bit waiting k ≡ true
  pub asks : (inputs : ℕ) × AreAsks (λ k. has_bit waiting k && not (has_bit rest k)) idle set requests outs inputs wanted
  pub left : AskNone (λ k. has_bit waiting k && not (has_bit rest k)) idle set (requests 64)

pub asking-opened : (waiting idle : ℕ) (set requests : ℕ → ℕ) (outs wanted : ℕ) → outs ≡ 0 → wanted ≡ 0 → ((o : ℕ) → o < 64 → requests o ≡ 0) → requests 64 ≡ 0 → AreAsking waiting idle set requests outs wanted waiting
asking-opened waiting idle set requests outs wanted eo ew empty none = rw (eo, ew) (record {
  part = λ k e. e;
  asks = (0, asks-nobody _ idle set requests (λ k. none-left waiting k) empty);
  left = λ k. ap (λ x. has_bit x k) none ∙ has_bit-zero k ∙ sym (ap (λ b. b && not (is_some (asked_of idle (set k)))) (none-left waiting k));
})

pub asking-stepped : (waiting idle rest left t : ℕ) (set requests after : ℕ → ℕ) (outs wanted new_outs new_wanted s free one place low : ℕ) → IsLeast (has_bit rest) (Some t)
    → s ≡ set t → free ≡ bit_and s idle → free < 2 ^ 64 → one ≡ 2 ^ t → (0 < free → IsLeast (has_bit free) (Some place)) → (free ≡ 0 → place ≡ 64)
    → after place ≡ bit_or (requests place) one → ((o : ℕ) → o ≢ place → after o ≡ requests o)
    → low ≡ lowest free → new_outs ≡ bit_or outs low → new_wanted ≡ bit_or wanted s → left ≡ less rest (lowest rest)
    → AreAsking waiting idle set requests outs wanted rest → AreAsking waiting idle set after new_outs new_wanted left
asking-stepped waiting idle rest left t set requests after outs wanted new_outs new_wanted s free one place low is es ef fits eo there past here others el eno enw er are =
    let free_is : free ≡ bit_and (set t) idle = ef ∙ ap (λ n. bit_and n idle) es in
    let fits_is : bit_and (set t) idle < 2 ^ 64 = subst (λ n. n < 2 ^ 64) free_is fits in
    let inputs = are.asks.0 in
    let asks = if nat_eq (bit_and (set t) idle) 0 then 0 else 2 ^ t in
    let at_least : 0 < bit_and (set t) idle → place ≡ least (bit_and (set t) idle) = (λ some. let more : 0 < free = subst (λ n. 0 < n) (sym free_is) some in least-same free place more fits (there more) ∙ ap least free_is) in
    let at_past : bit_and (set t) idle ≡ 0 → place ≡ 64 = (λ z. past (free_is ∙ z)) in
    let written : after place ≡ bit_or (requests place) (2 ^ t) = here ∙ ap (bit_or (requests place)) eo in
    rw (eno, enw, er, el, es, free_is) (record {
      part = left-part waiting rest t is are.part;
      asks = (bit_or inputs asks, asks-step waiting rest idle t set requests outs inputs wanted is are.part fits_is are.asks.1 after asks place refl at_least at_past written others);
      left = left-step waiting rest idle t set requests outs inputs wanted is are.part fits_is are.asks.1 after place at_least at_past written others are.left;
    })

-- who is not among those that ask for none asks
pub asking-all : (waiting idle : ℕ) (set requests : ℕ → ℕ) (outs inputs wanted rest : ℕ) → rest ≡ 0 → inputs ≡ less waiting (requests 64) → AreAsking waiting idle set requests outs wanted rest
    → AreAsks (has_bit waiting) idle set requests outs inputs wanted
asking-all waiting idle set requests outs inputs wanted rest none others are =
    let all = asks-same _ (has_bit waiting) idle set requests outs are.asks.0 wanted are.asks.1 (λ k. sym (all-done waiting rest k none)) in
    record {
      asked = all.asked;
      asked_for = all.asked_for;
      asking = λ k.
          ap (λ x. has_bit x k) others ∙ less_members waiting (requests 64) k
          ∙ ap (λ b. has_bit waiting k && not b) (are.left k ∙ ap (λ b. b && not (is_some (asked_of idle (set k)))) (all-done waiting rest k none))
          ∙ both (has_bit waiting k) (is_some (asked_of idle (set k)));
      wanted = all.wanted;
      wanted_by = all.wanted_by;
    }
  where
    both : (w s : Bool) → (w && not (w && not s)) ≡ (w && s)
    both true true = refl
    both true false = refl
    both false s = refl

-- ---- who asks for what
-- an output channel that is asked for has requests
pub asked-some : (n : ℕ) → not (nat_eq n 0) ≡ true → 0 < n
asked-some n e = elim (cases_eq n 0) [ inl z ↦ absurd (false≢true (sym (ap not (eq-eqb n 0 z)) ∙ e)) | inr o ↦ omega arith ]

-- an output channel that is not asked for has no request
pub asked-none : (n : ℕ) → not (nat_eq n 0) ≡ false → n ≡ 0
asked-none n e = elim (cases_eq n 0) [ inl z ↦ z | inr o ↦ absurd (true≢false (sym (ap not (ne_eqb n 0 o)) ∙ e)) ]

-- who asks for one output channel asks for no other
pub asks-apart : (waits : ℕ → Bool) (idle : ℕ) (set requests : ℕ → ℕ) (outs inputs all : ℕ) → AreAsks waits idle set requests outs inputs all
    → (a b k : ℕ) → a < 64 → b < 64 → has_bit (requests a) k ≡ true → has_bit (requests b) k ≡ true → a ≡ b
asks-apart waits idle set requests outs inputs all are a b k la lb ea eb =
    same (asked_of idle (set k)) (and_parts (waits k) (is_some_of (asked_of idle (set k)) a) (sym (are.asked a k la) ∙ ea)).1 (and_parts (waits k) (is_some_of (asked_of idle (set k)) b) (sym (are.asked b k lb) ∙ eb)).1
  where
    same : (ask : Option ℕ) → is_some_of ask a ≡ true → is_some_of ask b ≡ true → a ≡ b
    same None x y = absurd (false≢true x)
    same (Some o) x y = sym (eqb-true o a x) ∙ eqb-true o b y

-- a member of a word is below 64
pub in-word : (word k : ℕ) → word < 2 ^ 64 → has_bit word k ≡ true → k < 64
in-word word k fits e = at (cases_lt k 64)
  where
    at : (k < 64) ⊎ (64 ≤ k) → k < 64
    at (inl l) = l
    at (inr u) = absurd (true≢false (sym e ∙ above_64 word k fits u))

-- who asks waits
pub asks-wait : (waits : ℕ → Bool) (idle : ℕ) (set requests : ℕ → ℕ) (outs inputs all : ℕ) → AreAsks waits idle set requests outs inputs all → (o k : ℕ) → o < 64 → has_bit (requests o) k ≡ true → waits k ≡ true
asks-wait waits idle set requests outs inputs all are o k l e = (and_parts (waits k) (is_some_of (asked_of idle (set k)) o) (sym (are.asked o k l) ∙ e)).0

-- an output channel that is asked for is idle
pub asks-idle : (waits : ℕ → Bool) (idle : ℕ) (set requests : ℕ → ℕ) (outs inputs all : ℕ) → AreAsks waits idle set requests outs inputs all → outs < 2 ^ 64 → idle < 2 ^ 64
    → (o : ℕ) → has_bit outs o ≡ true → has_bit idle o ≡ true
asks-idle waits idle set requests outs inputs all are fits idle_fits o e = at (cases_Bool (has_bit idle o))
  where
    within : o < 64
    within = in-word outs o fits e

    at : (has_bit idle o ≡ true) ⊎ (has_bit idle o ≡ false) → has_bit idle o ≡ true
    at (inl t) = t
    at (inr f) =
        let none : requests o ≡ 0 = zero_from_none (requests o) (λ k. are.asked o k within ∙ ap (λ b. waits k && b) (other k (cases_eq (bit_and (set k) idle) 0)) ∙ and-false (waits k)) in
        absurd (true≢false (sym e ∙ are.asked_for o within ∙ ap (λ x. not (nat_eq x 0)) none))
      where
        other : (k : ℕ) → (bit_and (set k) idle ≡ 0) ⊎ (bit_and (set k) idle ≢ 0) → is_some_of (asked_of idle (set k)) o ≡ false
        other k (inl z) = ap (λ b. is_some_of (if b then None else Some (least (bit_and (set k) idle))) o) (eq-eqb (bit_and (set k) idle) 0 z)
        other k (inr n) =
            let some : 0 < bit_and (set k) idle = omega arith in
            let small : bit_and (set k) idle < 2 ^ 64 = omega (arith, and_le_r (set k) idle, idle_fits) in
            let member = (and_parts (has_bit (set k) (least (bit_and (set k) idle))) (has_bit idle (least (bit_and (set k) idle))) (sym (both_members (set k) idle (least (bit_and (set k) idle))) ∙ (least_is (bit_and (set k) idle) some small).0)).1 in
            ap (λ b. is_some_of (if b then None else Some (least (bit_and (set k) idle))) o) (ne_eqb (bit_and (set k) idle) 0 n)
            ∙ ne_eqb (least (bit_and (set k) idle)) o (λ same. true≢false (sym member ∙ ap (has_bit idle) same ∙ f))

-- where no output channel is asked for nobody asks
pub asks-nothing : (waits : ℕ → Bool) (idle : ℕ) (set requests : ℕ → ℕ) (outs inputs all : ℕ) → AreAsks waits idle set requests outs inputs all → outs ≡ 0 → idle < 2 ^ 64 → inputs ≡ 0
asks-nothing waits idle set requests outs inputs all are none idle_fits = zero_from_none inputs (λ k. are.asking k ∙ at k (cases_eq (bit_and (set k) idle) 0))
  where
    at : (k : ℕ) → (bit_and (set k) idle ≡ 0) ⊎ (bit_and (set k) idle ≢ 0) → (waits k && is_some (asked_of idle (set k))) ≡ false
    at k (inl z) = ap (λ b. waits k && is_some (if b then None else Some (least (bit_and (set k) idle)))) (eq-eqb (bit_and (set k) idle) 0 z) ∙ and-false (waits k)
    at k (inr n) =
        let free = bit_and (set k) idle in
        let o = least free in
        let some : 0 < free = omega (arith, n) in
        let small : free < 2 ^ 64 = omega (arith, and_le_r (set k) idle, idle_fits) in
        let within : o < 64 = in-word free o small (least_is free some small).0 in
        let unasked : requests o ≡ 0 = asked-none (requests o) (sym (are.asked_for o within) ∙ ap (λ w. has_bit w o) none ∙ has_bit-zero o) in
        let it : asked_of idle (set k) ≡ Some o = ap (λ b. if b then None else Some o) (ne_eqb free 0 n) in
        ap (λ x. waits k && is_some x) it ∙ ap (λ b. waits k && b) (sym (eq-eqb o o refl)) ∙ ap (λ x. waits k && is_some_of x o) (sym it) ∙ sym (are.asked o k within) ∙ ap (λ w. has_bit w k) unasked ∙ has_bit-zero k
