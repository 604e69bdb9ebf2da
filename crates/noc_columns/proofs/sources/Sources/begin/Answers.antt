use Rattle.std.proofs.Common.{◌≡◌, ◌+◌, ◌∙◌, ap, arith, sym, subst, slice_index}
use Rattle.std.specs.Prelude.{if◌then◌else◌}
use Rattle.std.proofs.lemmas.Bool.{and_parts}
use Rattle.noc_packet.specs.Set.{has_bit}
use Rattle.noc_sets.specs.Source.{start_in}
use Rattle.noc_columns.specs.Sources.{AreDue, left_in, starts_by}
use Rattle.noc_columns.specs.declared.due.Due.{Due}
use Rattle.noc_columns.specs.declared.left.Left.{Left}
use Rattle.noc_columns.specs.declared.sources.Sources.{Sources}
use Rattle.noc_columns.proofs.SourceLemmas.{source-begun}
use Rattle.noc_columns.proofs.sources.Sources.begin.Goals as goal

pub put_all-last-requires : goal.put_all-last-requires
put_all-last-requires c = λ r few e. let l = c.requires.queue r few e in omega (arith, l)

pub advance_all-requires-clause-queue : goal.advance_all-requires-clause-queue
advance_all-requires-clause-queue c = λ r few e.
    let begins = (and_parts (has_bit c.args.begins r) _ (sym (c.put_all-last.ensures.last r few) ∙ e)).0 in
    let same : slice_index c.put_all-last.new.self.queue r ≡ slice_index c.args.self.now.queue r = ap (λ (s : Sources). slice_index s.queue r) c.put_all-last.ensures.rest in
    let l = c.requires.queue r few begins in
    omega (arith, same, l)

pub returns-clause-sources : goal.returns-clause-sources
returns-clause-sources c = λ r few.
    let self = c.args.self.now in
    let starts = starts_by c.args.starts.now in
    let last = has_bit c.put_all-last.result r in
    source-begun starts (has_bit c.args.begins r) last (slice_index self.due.at r) (left_in self.left r) (slice_index self.queue r) _ _ _
    (ap (λ (l : Left). left_in l r) c.advance_all.ensures.left ∙ c.put_all-last.ensures.left r few)
    (c.put_all-last.ensures.last r few)
    (c.advance_all.ensures.queue r few ∙ ap (λ (s : Sources). if last then slice_index s.queue r + 1 else slice_index s.queue r) c.put_all-last.ensures.rest)
    (c.advance_all.ensures.at r few ∙ ap (λ (s : Sources). if last then (start_in starts (slice_index s.queue r + 1)).due else slice_index s.due.at r) c.put_all-last.ensures.rest)

pub returns-clause-last : goal.returns-clause-last
returns-clause-last c = c.put_all-last.ensures.last

pub returns-clause-due : goal.returns-clause-due
returns-clause-due c = λ past are.
    let same : c.put_all-last.new.self.due ≡ c.args.self.now.due = ap (λ (s : Sources). s.due) c.put_all-last.ensures.rest in
    c.advance_all.ensures.due
    (λ r few e.
    let begins = (and_parts (has_bit c.args.begins r) _ (sym (c.put_all-last.ensures.last r few) ∙ e)).0 in
    let was : slice_index c.put_all-last.new.self.due.at r ≡ slice_index c.args.self.now.due.at r = ap (λ (d : Due). slice_index d.at r) same in
    let l = past r few begins in
    omega (arith, was, l))
    (subst (AreDue c.args.cycle) (sym same) are)
