use Rattle.std.proofs.Common.{ℕ, List, Option, subst, arith}
use Rattle.noc_rank.specs.LeastAhead.{IsLeastOf}
use Rattle.noc_rank.specs.NotRisingTo.{IsOver, IsStartBy, IsAheadAt}
use Rattle.noc_rank.specs.declared.ahead.RankList.{RankList}
use Rattle.noc_rank.proofs.DescentLemmas.{no-start, some-end, start-link, start-inside, end-inside, descent-found}
use Rattle.noc_rank.proofs.descent.descent_in.Goals as goal

-- the first index of a list from which packets come on to one of no greater rank
abbrev Starts : RankList → Option ℕ → Type 0
Starts list = IsLeastOf (IsOver list.relation.now (IsStartBy list.relation.now list.ranks.now))

-- the first index to which they come on from there, by marks
abbrev Ends : RankList → ℕ → List (Option ℕ) → Option ℕ → Type 0
Ends list start marks = IsLeastOf (IsOver list.relation.now (λ m t n. IsAheadAt list.relation.now list.ranks.now marks m t start n))

pub returns-in_default : goal.returns-in_default
returns-in_default c = no-start c.args.list.now c.requires.built (subst (Starts c.args.list.now) c.in_default.is c.first_start.ensures)

pub marks_below-requires : goal.marks_below-requires
marks_below-requires c = start-inside c.args.list.now c.requires.built c.in-Some.start (subst (Starts c.args.list.now) c.in-Some.is c.first_start.ensures)

pub first_end-requires-clause-start : goal.first_end-requires-clause-start
first_end-requires-clause-start c =
    start-link c.args.list.now c.requires.built c.in-Some.start (subst (Starts c.args.list.now) c.in-Some.is c.first_start.ensures) c.in_ok-marks.marks.items c.in_ok-marks.ensures.items

pub returns-in_default-first_end : goal.returns-in_default-first_end
returns-in_default-first_end c =
    let list = c.args.list.now in
    let start = c.in-Some.start in
    let first = subst (Starts list) c.in-Some.is c.first_start.ensures in
    let marks = c.in_ok-marks.marks.items in
    let end = subst (Ends list start marks) c.in_default-first_end.is (subst (λ l. Ends list start l c.first_end.result) c.deref.ensures.value c.first_end.ensures) in
    absurd (some-end list c.requires.built start first marks c.in_ok-marks.ensures.items end)

pub descent_of-requires-clause-start : goal.descent_of-requires-clause-start
descent_of-requires-clause-start c = start-inside c.args.list.now c.requires.built c.in-Some.start (subst (Starts c.args.list.now) c.in-Some.is c.first_start.ensures)

pub descent_of-requires-clause-end : goal.descent_of-requires-clause-end
descent_of-requires-clause-end c =
    let list = c.args.list.now in
    let start = c.in-Some.start in
    let first = subst (Starts list) c.in-Some.is c.first_start.ensures in
    let marks = c.in_ok-marks.marks.items in
    let last = subst (Ends list start marks) c.in-Some-first_end.is (subst (λ l. Ends list start l c.first_end.result) c.deref.ensures.value c.first_end.ensures) in
    omega (arith, list.all, end-inside list c.requires.built start first marks c.in_ok-marks.ensures.items c.in-Some-first_end.end last)

pub returns : goal.returns
returns c =
    let list = c.args.list.now in
    let start = c.in-Some.start in
    let first = subst (Starts list) c.in-Some.is c.first_start.ensures in
    let marks = c.in_ok-marks.marks.items in
    let last = subst (Ends list start marks) c.in-Some-first_end.is (subst (λ l. Ends list start l c.first_end.result) c.deref.ensures.value c.first_end.ensures) in
    descent-found list c.requires.built start first marks c.in_ok-marks.ensures.items c.in-Some-first_end.end last c.descent_of.result c.descent_of.ensures.none c.descent_of.ensures.some
