-- Packets begin, and sources go on to the next.
use Rattle.std.proofs.Common.{◌≡◌, ◌≢◌, ℕ, ◌+◌, ◌-◌, ◌^◌, ◌<◌, Bool, true, false, List, Some, length, get_or, arith, ap, ap₂, sym, ◌∙◌, refl, inl, inr, bit_or}
use Rattle.std.specs.Prelude.{◌⊎◌, ◌&&◌, ◌||◌, not, nat_eq, option_map, slice_get, unwrap_or, if◌then◌else◌}
use Rattle.std.proofs.lemmas.Bool.{cases_eq, eq-eqb, ne_eqb}
use Rattle.std.proofs.lemmas.Nat.{pow_pos}
use Rattle.std.proofs.lemmas.Option.{slice_get-map, slice_get_read}
use Rattle.noc_packet.specs.Set.{has_bit}
use Rattle.noc_packet.proofs.SetLemmas.{either_members, has_bit-zero, same_set}
use Rattle.noc_sets.specs.Sets.{least, lowest}
use Rattle.noc_sets.specs.Source.{END, Source, Start, begun_source, first_source, next_source, sent_source, start_in}
use Rattle.noc_sets.proofs.MemberLemmas.{lowest-is, or-zero}
use Rattle.noc_columns.specs.Sources.{begun_if, sent_if, start_by, starts_by}
use Rattle.noc_columns.specs.declared.starts.Start.{Start as Kept}

-- the start at a place of the list
start-at : (starts : List Kept) (place : ℕ) (start : Kept) → slice_get starts place ≡ Some start → start_in (starts_by starts) place ≡ start_by start
start-at starts place start is = ap (λ x. unwrap_or x END) (slice_get-map start_by starts place ∙ ap (option_map start_by) is)

pub start-read : (starts : List Kept) (place : ℕ) (start : Kept) → place < length starts → start ≡ get_or starts place start → start_in (starts_by starts) place ≡ start_by start
start-read starts place start within is = start-at starts place start (slice_get_read starts (length starts) place start refl within is)

abbrev the-source : ℕ → ℕ → ℕ → Source
the-source due left queue = record { due = due; left = left; queue = queue }

same-source : (due left queue d l q : ℕ) → due ≡ d → left ≡ l → queue ≡ q → the-source due left queue ≡ the-source d l q
same-source due left queue d l q a b c = λ i. the-source (a i) (b i) (c i)

-- a flit is injected
pub source-sent : (starts : List Start) (went last : Bool) (due left queue d l q : ℕ) → l ≡ (if went then left - 1 else left) → last ≡ (went && nat_eq left 1)
    → q ≡ (if last then queue + 1 else queue) → d ≡ (if last then (start_in starts (queue + 1)).due else due) → the-source d l q ≡ sent_if starts went (the-source due left queue)
source-sent starts false last due left queue d l q left_is last_is queue_is due_is =
    same-source d l q due left queue
    (due_is ∙ ap (λ b. if b then (start_in starts (queue + 1)).due else due) last_is) left_is
    (queue_is ∙ ap (λ b. if b then queue + 1 else queue) last_is)
source-sent starts true last due left queue d l q left_is last_is queue_is due_is = at (cases_eq left 1)
  where
    at : (left ≡ 1) ⊎ (left ≢ 1) → the-source d l q ≡ (if nat_eq left 1 then the-source (start_in starts (queue + 1)).due 0 (queue + 1) else the-source due (left - 1) queue)
    at (inl same) =
        let tail : last ≡ true = last_is ∙ eq-eqb left 1 same in
        same-source d l q (start_in starts (queue + 1)).due 0 (queue + 1)
        (due_is ∙ ap (λ b. if b then (start_in starts (queue + 1)).due else due) tail)
        (left_is ∙ (let e : left - 1 ≡ 0 = omega (arith, same) in e))
        (queue_is ∙ ap (λ b. if b then queue + 1 else queue) tail)
        ∙ sym (ap (λ b. if b then the-source (start_in starts (queue + 1)).due 0 (queue + 1) else the-source due (left - 1) queue) (eq-eqb left 1 same))
    at (inr other) =
        let inner : last ≡ false = last_is ∙ ne_eqb left 1 other in
        same-source d l q due (left - 1) queue
        (due_is ∙ ap (λ b. if b then (start_in starts (queue + 1)).due else due) inner) left_is
        (queue_is ∙ ap (λ b. if b then queue + 1 else queue) inner)
        ∙ sym (ap (λ b. if b then the-source (start_in starts (queue + 1)).due 0 (queue + 1) else the-source due (left - 1) queue) (ne_eqb left 1 other))

-- a packet begins, with its head
pub source-begun : (starts : List Start) (begins last : Bool) (due left queue d l q : ℕ) → l ≡ (if begins then (start_in starts queue).length - 1 else left) → last ≡ (begins && nat_eq (start_in starts queue).length 1)
    → q ≡ (if last then queue + 1 else queue) → d ≡ (if last then (start_in starts (queue + 1)).due else due) → the-source d l q ≡ begun_if starts begins (the-source due left queue)
source-begun starts true last due left queue d l q left_is last_is queue_is due_is = source-sent starts true last due (start_in starts queue).length queue d l q left_is last_is queue_is due_is
source-begun starts false last due left queue d l q left_is last_is queue_is due_is = source-sent starts false last due left queue d l q left_is last_is queue_is due_is

-- ---- what a router makes of its source
pub none-or : (a : ℕ) → bit_or 0 a ≡ a
none-or a = same_set _ _ (λ k. either_members 0 a k ∙ ap (λ b. b || has_bit a k) (has_bit-zero k))

module _ (starts : List Start) (s : Source) where
  -- a packet begins, or none does
  begins-now : (begins : ℕ) → begins < 2 ^ 64 → sent_source starts (bit_or 0 (lowest begins)) (begun_source starts begins s) ≡ begun_if starts (not (nat_eq (lowest begins) 0)) s
  begins-now begins fits = ap (λ i. sent_source starts i (begun_source starts begins s)) (none-or (lowest begins)) ∙ at (cases_eq begins 0)
    where
      at : (begins ≡ 0) ⊎ (begins ≢ 0) → sent_source starts (lowest begins) (begun_source starts begins s) ≡ begun_if starts (not (nat_eq (lowest begins) 0)) s
      at (inl none) =
          ap (λ b. sent_source starts (lowest b) (begun_source starts b s)) none
          ∙ sym (ap (λ b. begun_if starts (not (nat_eq (lowest b) 0)) s) none)
      at (inr some) =
          let more : 0 < begins = omega (arith, some) in
          let power : lowest begins ≡ 2 ^ least begins = lowest-is begins more fits in
          let first : nat_eq (lowest begins) 0 ≡ false = ne_eqb (lowest begins) 0 (λ e. absurd (omega (arith, e, power, pow_pos (least begins)))) in
          ap₂ (λ a b. if a then (if b then s else first_source (start_in starts s.queue) s) else next_source starts (if b then s else first_source (start_in starts s.queue) s)) first (ne_eqb begins 0 some)
          ∙ sym (ap (λ b. begun_if starts (not b) s) first)

  -- a flit of the packet that has begun is injected
  sends-now : (injected : ℕ) → injected ≢ 0 → sent_source starts (bit_or injected 0) s ≡ next_source starts s
  sends-now injected some = ap (λ i. sent_source starts i s) (or-zero injected) ∙ ap (λ b. if b then s else next_source starts s) (ne_eqb injected 0 some)

pub sends-and-begins : (starts : List Start) (injected begins : ℕ) (s : Source) → begins < 2 ^ 64 → (injected ≡ 0) ⊎ (begins ≡ 0)
    → sent_source starts (bit_or injected (lowest begins)) (begun_source starts begins s) ≡ begun_if starts (not (nat_eq (lowest begins) 0)) (sent_if starts (not (nat_eq injected 0)) s)
sends-and-begins starts injected begins s fits (inl none) =
    ap (λ i. sent_source starts (bit_or i (lowest begins)) (begun_source starts begins s)) none
    ∙ begins-now starts s begins fits
    ∙ sym (ap (λ i. begun_if starts (not (nat_eq (lowest begins) 0)) (sent_if starts (not (nat_eq i 0)) s)) none)
sends-and-begins starts injected begins s fits (inr none) = at (cases_eq injected 0)
  where
    at : (injected ≡ 0) ⊎ (injected ≢ 0) → sent_source starts (bit_or injected (lowest begins)) (begun_source starts begins s) ≡ begun_if starts (not (nat_eq (lowest begins) 0)) (sent_if starts (not (nat_eq injected 0)) s)
    at (inl nothing) =
        ap (λ i. sent_source starts (bit_or i (lowest begins)) (begun_source starts begins s)) nothing
        ∙ begins-now starts s begins fits
        ∙ sym (ap (λ i. begun_if starts (not (nat_eq (lowest begins) 0)) (sent_if starts (not (nat_eq i 0)) s)) nothing)
    at (inr some) =
        ap (λ b. sent_source starts (bit_or injected (lowest b)) (begun_source starts b s)) none
        ∙ sends-now starts s injected some
        ∙ sym (ap₂ (λ b i. begun_if starts (not (nat_eq (lowest b) 0)) (sent_if starts (not i) s)) none (ne_eqb injected 0 some))
