-- Block after block: when the first packet comes to be due, and a cycle that is counted again.
use Rattle.std.proofs.Common.{◌≡◌, ℕ, ◌+◌, ◌*◌, ◌^◌, ◌<◌, ◌≤◌, List, get_or, length, Some, ap, ◌∙◌, subst, arith, inl, inr}
use Rattle.std.specs.Prelude.{◌⊎◌, min, slice_get, sum}
use Rattle.std.proofs.lemmas.Bool.{cases_eq, cases_lt}
use Rattle.std.proofs.lemmas.List.{get_or_default}
use Rattle.std.proofs.lemmas.Option.{slice_get_within}
use Rattle.noc_sets.specs.Counts.{ByVerdict, nine_counts}
use Rattle.noc_columns.specs.Picks.{channels_of}
use Rattle.noc_columns.specs.Words.{IsWithin, Numbering}
use Rattle.noc_columns.specs.declared.due.TheConstants.{NEVER}
use Rattle.noc_counts.specs.Counts.{HasHad, counted_in, last_at, with_delays}
use Rattle.noc_counts.specs.declared.counts.Counts.{Counts}
use Rattle.noc_cycles.specs.declared.block.Block.{Block}
use Rattle.noc_cycles.specs.declared.pattern.Pattern.{Pattern}
use Rattle.noc_cycles.proofs.ConcludingLemmas.{all-within}
use Rattle.noc_engine.specs.Runs.{HasRepeated, IsNextDue}
use Rattle.noc_engine.proofs.ListLemmas.{same-item}

-- ---- when a packet comes to be due
-- in the blocks below a number
pub record IsDueBelow (blocks : List Block) (number next : ℕ) : Type 0 where
  pub below : (b : ℕ) (block : Block) → b < number → slice_get blocks b ≡ Some block → next ≤ block.sources.due.next
  pub one : (next ≡ NEVER) ⊎ ((b : ℕ) × (block : Block) × (slice_get blocks b ≡ Some block) × (next ≡ block.sources.due.next))

pub due-none : (blocks : List Block) (next : ℕ) → next ≡ NEVER → IsDueBelow blocks 0 next
due-none blocks next is = record { below = λ b block l at. absurd (omega (arith, l)); one = inl is }

pub due-more : (blocks : List Block) (number next now : ℕ) (here : Block) → slice_get blocks number ≡ Some here → now ≡ min next here.sources.due.next → IsDueBelow blocks number next → IsDueBelow blocks (number + 1) now
due-more blocks number next now here there is was = record {
  below = λ b block l at. elim (cases_eq b number) [
    | inl same ↦
        let e : here.sources.due.next ≡ block.sources.due.next = ap (λ (x : Block). x.sources.due.next) (same-item here block (slice_get blocks number) there (subst (λ k. slice_get blocks k ≡ Some block) same at)) in
        omega (arith, is, e)
    | inr other ↦ let low : next ≤ block.sources.due.next = was.below b block (omega (arith, l, other)) at in omega (arith, is, low)
  ];
  one = elim (cases_lt here.sources.due.next next) [
    | inl less ↦ inr (number, here, there, omega (arith, is, less))
    | inr most ↦
        let same : now ≡ next = omega (arith, is, most) in
        elim was.one [
          | inl never ↦ inl (same ∙ never)
          | inr (b, block, at, e) ↦ inr (b, block, at, same ∙ e)
        ]
  ];
}

pub due-all : (blocks : List Block) (number next : ℕ) → length blocks ≤ number → IsDueBelow blocks number next → IsNextDue blocks next
due-all blocks number next all was = record {
  below = λ b block at. was.below b block (let inside = slice_get_within blocks b block at in omega (arith, inside, all)) at;
  one = was.one;
}

-- ---- a cycle that is counted again
pub repeated-here : (pattern : Pattern) (times : ℕ) (all : List Counts) (k : ℕ) (d new : Counts) → k < length all
    → ((n : Numbering) (r i waits : ℕ) (c : ByVerdict) → IsWithin (4 * pattern.frame.groups) n → i < n.size → sum (nine_counts c) + times < 2 ^ 32 → HasHad n (get_or all k d) r i waits c
    → HasHad n new r i waits (with_delays times (last_at n (get_or all k d) r) i c))
    → counted_in new ≡ counted_in (get_or all k d) → HasRepeated pattern times (get_or all k new) new
repeated-here pattern times all k d new inside counts cycles = subst (λ (old : Counts). HasRepeated pattern times old new) (get_or_default all k d new inside) (record {
  counts = λ r i waits had l small is. counts (channels_of pattern.table.ports) r i waits had (all-within pattern) l small is;
  cycles = cycles;
})
