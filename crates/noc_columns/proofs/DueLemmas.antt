-- Which sources have a packet that is due.
use Rattle.std.proofs.Common.{◌≡◌, ◌≢◌, ◌⊎◌, ℕ, ◌+◌, ◌%◌, ◌^◌, ◌<◌, ◌≤◌, Bool, true, false, List, length, arith, ap, ap₂, sym, ◌∙◌, subst, refl, inl, inr, bit_or, min, set, slice_index, replicate, get_or-set_same, true≢false}
use Rattle.std.specs.Prelude.{◌&&◌, ◌||◌, not, nat_eq, nat_le, nat_lt, if◌then◌else◌}
use Rattle.std.proofs.lemmas.Bool.{cases_eq, cases_lt, eq-eqb, eqb-true, le-leb, le-ltb, lt-leb, lt-ltb, ne_eqb}
use Rattle.std.proofs.lemmas.List.{get_or-replicate}
use Rattle.noc_packet.specs.Set.{has_bit}
use Rattle.noc_packet.proofs.SetLemmas.{either_members, has_bit-zero}
use Rattle.noc_sets.specs.Sets.{least, less}
use Rattle.noc_sets.specs.Source.{NEVER}
use Rattle.noc_sets.proofs.MemberLemmas.{least_below, least_is, less_members, power-members}
use Rattle.noc_columns.specs.Sources.{AreDue, AreKnown, come_in}
use Rattle.noc_columns.specs.Words.{set_below}
use Rattle.noc_columns.specs.declared.due.Due.{Due}
use Rattle.noc_columns.proofs.PassLemmas.{word-other}
use Rattle.noc_columns.proofs.PlaceLemmas.{mask-all, mask-next}

-- a time that is later than a cycle, and else one later than each cycle
abbrev pub if_later : ℕ → ℕ → ℕ
if_later cycle when = if nat_le when cycle then NEVER else when

-- of the routers below n
pub record AreLooked (cycle n : ℕ) (at : List ℕ) (ready next : ℕ) : Type 0 where
  pub small : next ≤ NEVER
  pub those : ready ≡ set_below n (λ k. nat_le (slice_index at k) cycle)
  pub later : (k : ℕ) → k < n → cycle < slice_index at k → next ≤ slice_index at k
  pub first : (next ≡ NEVER) ⊎ ((k : ℕ) × (k < n) × (cycle < slice_index at k) × (slice_index at k ≡ next))

pub looked-none : (cycle : ℕ) (at : List ℕ) → AreLooked cycle 0 at 0 NEVER
looked-none cycle at = record { small = omega arith; those = refl; later = λ k l. absurd (omega (arith, l)); first = inl refl }

module _ (cycle n : ℕ) (at : List ℕ) (ready next bit time new : ℕ) (are : AreLooked cycle n at ready next)
    (bit_is : bit ≡ (if nat_le (slice_index at n) cycle then 2 ^ n else 0)) (time_is : time ≡ if_later cycle (slice_index at n)) (new_is : new ≡ min next time) where
  -- where router n is due, and where it is later
  kept : slice_index at n ≤ cycle → new ≡ next
  kept l =
      let never : time ≡ NEVER = time_is ∙ ap (λ b. if b then NEVER else slice_index at n) (le-leb (slice_index at n) cycle l) in
      let small = are.small in
      omega (arith, new_is, never, small)

  lesser : cycle < slice_index at n → new ≡ min next (slice_index at n)
  lesser l = new_is ∙ ap (min next) (time_is ∙ ap (λ b. if b then NEVER else slice_index at n) (lt-leb (slice_index at n) cycle l))

  less_new : new ≤ next
  less_new = omega (arith, new_is)

  pub looked-next : AreLooked cycle (n + 1) at (bit_or ready bit) new
  looked-next = record {
    small = (let small = are.small in let less = less_new in omega (arith, small, less));
    those = mask-next ready bit n (nat_le (slice_index at n) cycle) (λ k. nat_le (slice_index at k) cycle) are.those bit_is refl;
    later = λ k l late. elim (cases_eq k n) [
      | inl same ↦
          let here : cycle < slice_index at n = subst (λ j. cycle < slice_index at j) same late in
          let e = lesser here in
          subst (λ j. new ≤ slice_index at j) (sym same) (omega (arith, e))
      | inr other ↦ let before = are.later k (omega (arith, l, other)) late in let l2 = less_new in omega (arith, before, l2)
    ];
    first = elim (cases_lt cycle (slice_index at n)) [
      | inl late ↦ chosen late (cases_lt (slice_index at n) next)
      | inr due ↦ elim are.first [
        | inl never ↦ inl (kept due ∙ never)
        | inr one ↦ inr (one.0, (let l = one.1 in omega (arith, l)), one.2, one.3 ∙ sym (kept due))
      ]
    ];
  }
    where
      chosen : cycle < slice_index at n → (slice_index at n < next) ⊎ (next ≤ slice_index at n)
          → (new ≡ NEVER) ⊎ ((k : ℕ) × (k < n + 1) × (cycle < slice_index at k) × (slice_index at k ≡ new))
      chosen late (inl l) = let e = lesser late in inr (n, omega arith, late, omega (arith, e, l))
      chosen late (inr l) =
          let e = lesser late in
          let same : new ≡ next = omega (arith, e, l) in
          elim are.first [
            | inl never ↦ inl (same ∙ never)
            | inr one ↦ inr (one.0, (let m = one.1 in omega (arith, m)), one.2, one.3 ∙ sym same)
          ]

pub looked-all : (cycle n : ℕ) (due : Due) (ready next : ℕ) → n ≡ 64 → AreKnown cycle due → AreLooked cycle n due.at ready next → AreDue cycle (record due { ready = ready; next = next })
looked-all cycle n due ready next all known are = record {
  ready = mask-all n ready (λ k. nat_le (slice_index due.at k) cycle) are.those all;
  later = λ r l late. are.later r (omega (arith, l, all)) late;
  next = elim are.first [
    | inl never ↦ inl never
    | inr one ↦ inr (one.0, (let l = one.1 in omega (arith, l, all)), one.2, one.3)
  ];
  known = record { come = known.come; until = known.until };
}

-- ---- what is kept of the next cycles
-- of the routers below n
pub record AreKept (cycle n until : ℕ) (at soon : List ℕ) : Type 0 where
  pub come : (r t : ℕ) → cycle < t → t < until → has_bit (slice_index soon (t % 256)) r ≡ (nat_lt r n && nat_eq t (slice_index at r))

pub kept-none : (cycle until : ℕ) (at : List ℕ) → AreKept cycle 0 until at (replicate 256 0)
kept-none cycle until at = record {
  come = λ r t late known. ap (λ w. has_bit w r) (get_or-replicate 256 (t % 256) 0 0 (omega arith)) ∙ has_bit-zero r ∙ sym (ap (λ b. b && nat_eq t (slice_index at r)) (le-ltb r 0 (omega arith)));
}

-- ---- a later cycle comes
known-later : (before cycle : ℕ) (due : Due) → before ≤ cycle → AreKnown before due → AreKnown cycle due
known-later before cycle due earlier are = record {
  come = λ r t few late known. are.come r t few (omega (arith, late, earlier)) known;
  until = (let span = are.until in omega (arith, span, earlier));
}

-- ---- a cycle comes in which it is known who comes to be due
pub some-come : (word : ℕ) → word ≢ 0 → word < 2 ^ 64 → (r : ℕ) × (r < 64) × (has_bit word r ≡ true)
some-come word some fits =
    let positive : 0 < word = omega (arith, some) in
    (least word, least_below word positive fits, (least_is word positive fits).0)

module _ (before cycle following : ℕ) (due : Due) (fits : due.until < 2 ^ 32) (earlier : before ≤ cycle) (next_is : due.next ≡ cycle) (now : cycle < due.until) (are : AreDue before due)
    (none : (t : ℕ) → cycle < t → t < following → come_in due t ≡ 0) (known : following < due.until) (late : cycle < following) (one : (r : ℕ) × (r < 64) × (has_bit (come_in due following) r ≡ true)) where
  abbrev time_of : ℕ → ℕ
  time_of r = slice_index due.at r

  was : before < cycle
  was = elim are.next [
    | inl never ↦ omega (arith, never, next_is, now, fits)
    | inr one ↦ (let l = one.2 in let e = one.3 in omega (arith, l, e, next_is))
  ]

  comes : (r t : ℕ) → r < 64 → cycle < t → t < due.until → has_bit (come_in due t) r ≡ nat_eq t (time_of r)
  comes r t few l m = are.known.come r t few (omega (arith, l, earlier)) m

  first-following : cycle < time_of one.0 × (time_of one.0 ≡ following)
  first-following =
      let same : following ≡ time_of one.0 = eqb-true following (time_of one.0) (sym (comes one.0 following one.1 late known) ∙ one.2) in
      (omega (arith, same, late), sym same)

  first : (r : ℕ) → r < 64 → cycle < time_of r → following ≤ time_of r
  first r few l = elim (cases_lt (time_of r) following) [
    | inl m ↦
        let bit : has_bit (come_in due (time_of r)) r ≡ true = comes r (time_of r) few l (omega (arith, m, known)) ∙ eq-eqb (time_of r) (time_of r) refl in
        absurd (true≢false (sym bit ∙ ap (λ w. has_bit w r) (none (time_of r) l m) ∙ has_bit-zero r))
    | inr m ↦ m
  ]

  ready-now : (r : ℕ) → r < 64 → has_bit (bit_or due.ready (come_in due cycle)) r ≡ nat_le (time_of r) cycle
  ready-now r few =
      either_members due.ready (come_in due cycle) r ∙ ap₂ (λ a b. a || b) (are.ready r few) (are.known.come r cycle few was now)
      ∙ elim (cases_lt before (time_of r)) [
        | inl l ↦
            let low = are.later r few l in
            ap (λ a. a || nat_eq cycle (time_of r)) (lt-leb (time_of r) before l)
            ∙ elim (cases_eq cycle (time_of r)) [
              | inl same ↦ eq-eqb cycle (time_of r) same ∙ sym (le-leb (time_of r) cycle (omega (arith, same)))
              | inr other ↦ ne_eqb cycle (time_of r) other ∙ sym (lt-leb (time_of r) cycle (omega (arith, low, next_is, other)))
            ]
        | inr l ↦ ap (λ a. a || nat_eq cycle (time_of r)) (le-leb (time_of r) before l) ∙ sym (le-leb (time_of r) cycle (omega (arith, l, earlier)))
      ]

  pub come-due : AreDue cycle (record due { ready = bit_or due.ready (come_in due cycle); next = following })
  come-due = record {
    ready = ready-now;
    later = first;
    next = inr (one.0, one.1, first-following.0, first-following.1);
    known = (let known = known-later before cycle due earlier are.known in record { come = known.come; until = known.until });
  }

-- ---- a source goes on to its next packet
module _ (cycle router when bit time : ℕ) (due : Due) (small : due.next < 2 ^ 32) (long : length due.at ≡ 64) (few : router < 64) (bit_is : bit ≡ (if nat_lt cycle when then 2 ^ router else 0))
    (time_is : time ≡ if_later cycle when) (was : slice_index due.at router ≤ cycle) (are : AreDue cycle due) (soon : List ℕ)
    (soon_is : due.until ≤ cycle + 256 → (r t : ℕ) → cycle < t → t < due.until → has_bit (slice_index soon (t % 256)) r ≡ ((nat_eq t when && nat_eq r router) || has_bit (come_in due t) r)) where
  at-here : slice_index (set due.at router when) router ≡ when
  at-here = get_or-set_same due.at router when 0 (omega (arith, long, few))

  at-other : (r : ℕ) → r ≢ router → slice_index (set due.at router when) r ≡ slice_index due.at r
  at-other r other = word-other due.at router when r other

  out : (r : ℕ) → has_bit bit r ≡ (nat_lt cycle when && nat_eq r router)
  out r = ap (λ w. has_bit w r) bit_is ∙ at (nat_lt cycle when)
    where
      at : (b : Bool) → has_bit (if b then 2 ^ router else 0) r ≡ (b && nat_eq r router)
      at true = power-members router r
      at false = has_bit-zero r

  ready-here : (r : ℕ) → r < 64 → (has_bit due.ready r && not (nat_lt cycle when && nat_eq r router)) ≡ nat_le (slice_index (set due.at router when) r) cycle
  ready-here r l = elim (cases_eq r router) [
    | inl same ↦
        ap₂ (λ a b. a && not (nat_lt cycle when && b)) (are.ready r l ∙ ap (λ j. nat_le (slice_index due.at j) cycle) same ∙ le-leb (slice_index due.at router) cycle was) (eq-eqb r router same)
        ∙ turn (cases_lt cycle when)
        ∙ sym (ap (λ j. nat_le (slice_index (set due.at router when) j) cycle) same ∙ ap (λ w. nat_le w cycle) at-here)
    | inr other ↦
        ap (λ b. has_bit due.ready r && not (nat_lt cycle when && b)) (ne_eqb r router other)
        ∙ free (has_bit due.ready r) (nat_lt cycle when)
        ∙ are.ready r l
        ∙ ap (λ w. nat_le w cycle) (sym (at-other r other))
  ]
    where
      turn : (cycle < when) ⊎ (when ≤ cycle) → (true && not (nat_lt cycle when && true)) ≡ nat_le when cycle
      turn (inl l) = ap (λ b. not (b && true)) (lt-ltb cycle when l) ∙ sym (lt-leb when cycle l)
      turn (inr l) = ap (λ b. not (b && true)) (le-ltb cycle when l) ∙ sym (le-leb when cycle l)

      free : (a b : Bool) → (a && not (b && false)) ≡ a
      free true true = refl
      free true false = refl
      free false b = refl

  later-here : (r : ℕ) → r < 64 → cycle < slice_index (set due.at router when) r → min due.next time ≤ slice_index (set due.at router when) r
  later-here r l late = elim (cases_eq r router) [
    | inl same ↦
        let here = ap (slice_index (set due.at router when)) same ∙ at-here in
        let late_when : cycle < when = omega (arith, late, here) in
        let e : min due.next time ≡ min due.next when = ap (min due.next) (time_is ∙ ap (λ b. if b then NEVER else when) (lt-leb when cycle late_when)) in
        omega (arith, e, here)
    | inr other ↦ let e = at-other r other in let before = are.later r l (omega (arith, e, late)) in omega (arith, e, before)
  ]

  -- the next of the others is this one's, or what it was
  next-here : (min due.next time ≡ NEVER) ⊎ ((r : ℕ) × (r < 64) × (cycle < slice_index (set due.at router when) r) × (slice_index (set due.at router when) r ≡ min due.next time))
  next-here = at (cases_lt cycle when) (cases_lt when due.next)
    where
      old : min due.next time ≡ due.next → (min due.next time ≡ NEVER) ⊎ ((r : ℕ) × (r < 64) × (cycle < slice_index (set due.at router when) r) × (slice_index (set due.at router when) r ≡ min due.next time))
      old e = elim are.next [
        | inl never ↦ inl (e ∙ never)
        | inr one ↦
            let other : one.0 ≢ router = λ same. let m = one.2 in let w : slice_index due.at one.0 ≡ slice_index due.at router = ap (slice_index due.at) same in absurd (omega (arith, m, w, was)) in
            let kept = at-other one.0 other in
            inr (one.0, one.1, (let m = one.2 in omega (arith, m, kept)), kept ∙ one.3 ∙ sym e)
      ]

      at : (cycle < when) ⊎ (when ≤ cycle) → (when < due.next) ⊎ (due.next ≤ when)
          → (min due.next time ≡ NEVER) ⊎ ((r : ℕ) × (r < 64) × (cycle < slice_index (set due.at router when) r) × (slice_index (set due.at router when) r ≡ min due.next time))
      at (inl l) (inl m) =
          let e : min due.next time ≡ min due.next when = ap (min due.next) (time_is ∙ ap (λ b. if b then NEVER else when) (lt-leb when cycle l)) in
          inr (router, few, (let h = at-here in omega (arith, h, l)), (let h = at-here in omega (arith, h, e, m)))
      at (inl l) (inr m) =
          let e : min due.next time ≡ min due.next when = ap (min due.next) (time_is ∙ ap (λ b. if b then NEVER else when) (lt-leb when cycle l)) in
          old (omega (arith, e, m))
      at (inr l) m = let never : time ≡ NEVER = time_is ∙ ap (λ b. if b then NEVER else when) (le-leb when cycle l) in old (omega (arith, never, small))

  come-here : (r t : ℕ) → r < 64 → cycle < t → t < due.until → has_bit (slice_index soon (t % 256)) r ≡ nat_eq t (slice_index (set due.at router when) r)
  come-here r t l late known =
      soon_is are.known.until r t late known ∙ ap (λ b. (nat_eq t when && nat_eq r router) || b) (are.known.come r t l late known)
      ∙ elim (cases_eq r router) [
        | inl same ↦
            let past : slice_index due.at r ≤ cycle = subst (λ j. slice_index due.at j ≤ cycle) (sym same) was in
            ap₂ (λ a b. (nat_eq t when && a) || b) (eq-eqb r router same) (ne_eqb t (slice_index due.at r) (λ e. absurd (omega (arith, e, past, late))))
            ∙ only (nat_eq t when)
            ∙ ap (nat_eq t) (sym (ap (slice_index (set due.at router when)) same ∙ at-here))
        | inr other ↦
            ap (λ a. (nat_eq t when && a) || nat_eq t (slice_index due.at r)) (ne_eqb r router other)
            ∙ rest (nat_eq t when) (nat_eq t (slice_index due.at r))
            ∙ ap (nat_eq t) (sym (at-other r other))
      ]
    where
      only : (a : Bool) → ((a && true) || false) ≡ a
      only true = refl
      only false = refl

      rest : (a b : Bool) → ((a && false) || b) ≡ b
      rest true b = refl
      rest false b = refl

  pub put-due : AreDue cycle (record { at = set due.at router when; ready = less due.ready bit; next = min due.next time; soon = soon; until = due.until })
  put-due = record {
    ready = λ r l. less_members due.ready bit r ∙ ap (λ b. has_bit due.ready r && not b) (out r) ∙ ready-here r l;
    later = later-here;
    next = next-here;
    known = record { come = come-here; until = are.known.until };
  }
