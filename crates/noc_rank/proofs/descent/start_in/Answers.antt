use Rattle.std.proofs.Common.{sym, ◌∙◌, arith}
use Rattle.std.proofs.lemmas.Bool.{false≢true}
use Rattle.noc_rank.specs.NotRisingTo.{BeginsDescent}
use Rattle.noc_rank.proofs.LeastLemmas.{least-none}
use Rattle.noc_rank.proofs.descent.start_in.Goals as goal

pub returns : goal.returns
returns c =
    least-none (BeginsDescent c.args.list.now.ranks.now c.args.least.now)
    (λ n begins. false≢true (sym (c.loop-index.invariant n (omega (arith, begins.inside, c.loop-index-test.false))) ∙ begins.falls))
