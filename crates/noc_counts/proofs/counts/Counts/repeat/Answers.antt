use Rattle.std.proofs.Common.{◌≡◌, ◌⊎◌, ℕ, ◌+◌, ◌/◌, ◌%◌, ◌<◌, ◌≤◌, List, ap, arith, inl, inr, refl}
use Rattle.std.proofs.lemmas.Bool.{cases_lt}
use Rattle.noc_sets.specs.Counts.{ByVerdict}
use Rattle.noc_columns.specs.Words.{word}
use Rattle.noc_counts.specs.Counted.{last_of}
use Rattle.noc_counts.specs.Counts.{last_words, of_group}
use Rattle.noc_counts.specs.Rows.{by_lane}
use Rattle.noc_counts.specs.declared.count.Count.{Count}
use Rattle.noc_counts.proofs.GroupLemmas.{last-same, rises-on, stays}
use Rattle.noc_counts.proofs.RowLemmas.{lane-waiting, nine-same}
use Rattle.noc_counts.proofs.counts.Counts.repeat.Goals as goal

pub returns-clause-counts : goal.returns-clause-counts
returns-clause-counts c = λ n r i waits had within few fits is.
    let counts = c.args.self.now in
    let j = n.index i in
    let l = j % 4 in
    let inside = within i few in
    let again = (c.repeat_all.ensures.each (j / 4) (omega (arith, inside))).counts in
    let row = last_of (of_group counts.of (j / 4)) counts.cycles in
    let lanes = lane-waiting row l (omega arith) in
    let routed = ap (λ (v : ByVerdict). v.routed) is.counted in
    let moved = ap (λ (v : ByVerdict). v.moved) is.counted in
    let flit = ap (λ (v : ByVerdict). v.no_flit) is.counted in
    let idle = ap (λ (v : ByVerdict). v.no_idle_channel) is.counted in
    let channel = ap (λ (v : ByVerdict). v.lost_channel) is.counted in
    let credit = ap (λ (v : ByVerdict). v.no_credit) is.counted in
    let input = ap (λ (v : ByVerdict). v.lost_input) is.counted in
    let switch = ap (λ (v : ByVerdict). v.lost_switch) is.counted in
    record {
      counted = nine-same
          (stays r c.args.times _ _ _ _ routed (again (8 + l) r (omega arith) (omega (arith, fits, routed))) (ap (λ (v : ByVerdict). v.routed) lanes))
          refl
          (stays r c.args.times _ _ _ _ moved (again (12 + l) r (omega arith) (omega (arith, fits, moved))) (ap (λ (v : ByVerdict). v.moved) lanes))
          (rises-on n r i c.args.times _ _ _ _ (λ k. (last_words counts k).no_flit) few flit (again (0 + l) r (omega arith) (omega (arith, fits, flit))) (ap (λ (v : ByVerdict). v.no_flit) lanes))
          (rises-on n r i c.args.times _ _ _ _ (λ k. (last_words counts k).no_idle_channel) few idle (again (4 + l) r (omega arith) (omega (arith, fits, idle))) (ap (λ (v : ByVerdict). v.no_idle_channel) lanes))
          (stays r c.args.times _ _ _ _ channel (again (16 + l) r (omega arith) (omega (arith, fits, channel))) (ap (λ (v : ByVerdict). v.lost_channel) lanes))
          (rises-on n r i c.args.times _ _ _ _ (λ k. (last_words counts k).no_credit) few credit (again (20 + l) r (omega arith) (omega (arith, fits, credit))) (ap (λ (v : ByVerdict). v.no_credit) lanes))
          (stays r c.args.times _ _ _ _ input (again (24 + l) r (omega arith) (omega (arith, fits, input))) (ap (λ (v : ByVerdict). v.lost_input) lanes))
          (stays r c.args.times _ _ _ _ switch (again (28 + l) r (omega arith) (omega (arith, fits, switch))) (ap (λ (v : ByVerdict). v.lost_switch) lanes));
      granted = is.granted;
    }

pub returns-clause-last : goal.returns-clause-last
returns-clause-last c = λ n r. last-same n r (record c.args.self.now { of = c.repeat_all.new.of }) c.args.self.now (λ j. ap (λ (row : List ℕ). by_lane (λ p. word p row) (j % 4)) (at j (cases_lt (j / 4) c.args.frame.now.groups)))
  where
    at : (j : ℕ) → (j / 4 < c.args.frame.now.groups) ⊎ (c.args.frame.now.groups ≤ j / 4)
        → last_of (of_group c.repeat_all.new.of (j / 4)) c.args.self.now.cycles ≡ last_of (of_group c.args.self.now.of (j / 4)) c.args.self.now.cycles
    at j (inl l) = (c.repeat_all.ensures.each (j / 4) l).last
    at j (inr u) = ap (λ (x : Count). last_of x c.args.self.now.cycles) (c.repeat_all.ensures.others (j / 4) u)
