use Rattle.std.proofs.Common.{◌∙◌, ap, sym, slice_index}
use Rattle.std.specs.Prelude.{nat_eq}
use Rattle.std.proofs.lemmas.Bool.{and_parts}
use Rattle.noc_packet.specs.Set.{has_bit}
use Rattle.noc_columns.specs.Sources.{left_in, starts_by}
use Rattle.noc_columns.specs.declared.left.Left.{Left}
use Rattle.noc_columns.proofs.SourceLemmas.{source-sent}
use Rattle.noc_columns.proofs.sources.Sources.send.Goals as goal

pub advance_all-requires-clause-queue : goal.advance_all-requires-clause-queue
advance_all-requires-clause-queue c = λ r few e. c.requires.queue r few (and_parts (has_bit c.args.went r) (nat_eq (left_in c.args.self.now.left r) 1) (sym (c.send-last.ensures.last r) ∙ e)).0

pub returns-clause-sources : goal.returns-clause-sources
returns-clause-sources c = λ r few.
    let self = c.args.self.now in
    source-sent (starts_by c.args.starts.now) (has_bit c.args.went r) (has_bit c.send-last.result r) (slice_index self.due.at r) (left_in self.left r) (slice_index self.queue r) _ _ _
    (ap (λ (l : Left). left_in l r) c.advance_all.ensures.left ∙ c.send-last.ensures.sent r) (c.send-last.ensures.last r) (c.advance_all.ensures.queue r few) (c.advance_all.ensures.at r few)

pub returns-clause-last : goal.returns-clause-last
returns-clause-last c = c.send-last.ensures.last

pub returns-clause-due : goal.returns-clause-due
returns-clause-due c = λ past are.
    c.advance_all.ensures.due (λ r few e. past r few (and_parts (has_bit c.args.went r) (nat_eq (left_in c.args.self.now.left r) 1) (sym (c.send-last.ensures.last r) ∙ e)).0) are
