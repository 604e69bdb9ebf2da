use Rattle.std.proofs.Common.{◌+◌, ◌<◌, ◌≤◌, length, ap, ap₂, subst, sym, ◌∙◌}
use Rattle.std.specs.Prelude.{◌||◌}
use Rattle.noc_cycles.proofs.Common.{has_bit, either_members, Source, begun_if, sent_if, source_in, starts_by}
use Rattle.noc_cycles.proofs.SendLemmas.{begun-last}
use Rattle.noc_cycles.proofs.taking.send_all.Goals as goal

pub returns-clause-last : goal.returns-clause-last
returns-clause-last c = λ r few.
    either_members c.send-ended.result c.begin-at_once.result r
    ∙ ap₂ (λ a b. a || b) (c.send-ended.ensures.last r)
    (c.begin-at_once.ensures.last r few
    ∙ begun-last (starts_by c.args.starts.now) (has_bit c.args.begins r) (has_bit c.args.went r) (c.requires.apart r) (source_in c.args.sources.now r) (source_in c.send-ended.new.self r) (c.send-ended.ensures.sources r few))

pub send-ended-requires-clause-queue : goal.send-ended-requires-clause-queue
send-ended-requires-clause-queue c = λ r few went. c.requires.queue r few (ap (λ b. b || has_bit c.args.begins r) went)

-- a source from which no packet goes on is as it was
pub begin-at_once-requires-clause-queue : goal.begin-at_once-requires-clause-queue
begin-at_once-requires-clause-queue c = λ r few begins.
    let old = source_in c.args.sources.now r in
    let same = c.send-ended.ensures.sources r few ∙ ap (λ b. sent_if (starts_by c.args.starts.now) b old) (c.requires.apart r begins) in
    subst (λ q. q + 1 < length c.args.starts.now) (sym (ap (λ (s : Source). s.queue) same)) (c.requires.queue r few (ap₂ (λ a b. a || b) (c.requires.apart r begins) begins))

pub returns-clause-sources : goal.returns-clause-sources
returns-clause-sources c = λ r few. c.begin-at_once.ensures.sources r few ∙ ap (begun_if (starts_by c.args.starts.now) (has_bit c.args.begins r)) (c.send-ended.ensures.sources r few)

pub returns-clause-due : goal.returns-clause-due
returns-clause-due c = λ past are.
    c.begin-at_once.ensures.due
    (λ r few begins.
    let old = source_in c.args.sources.now r in
    let same = c.send-ended.ensures.sources r few ∙ ap (λ b. sent_if (starts_by c.args.starts.now) b old) (c.requires.apart r begins) in
    subst (λ d. d ≤ c.args.cycle) (sym (ap (λ (s : Source). s.due) same)) (past r few (ap₂ (λ a b. a || b) (c.requires.apart r begins) begins)))
    (c.send-ended.ensures.due (λ r few went. past r few (ap (λ b. b || has_bit c.args.begins r) went)) are)
