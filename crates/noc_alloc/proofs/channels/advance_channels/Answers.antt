use Rattle.std.proofs.Common.{None, get_or, arith}
use Rattle.noc_alloc.proofs.SwitchLemmas.{advanced_below-all, advanced_by-sizes}
use Rattle.noc_alloc.proofs.channels.advance_channels.Goals as goal

pub returns-clause-pointers : goal.returns-clause-pointers
returns-clause-pointers c = advanced_below-all c.args.arbiters.now c.loop-output.arbiters c.args.grants.now c.loop-output.output (omega (arith, c.requires.lengths)) c.loop-output.auto.arbiters c.loop-output.invariant

pub returns-clause-sizes : goal.returns-clause-sizes
returns-clause-sizes c = λ n. advanced_by-sizes (λ o. get_or c.args.grants.now o None) c.args.arbiters.now c.loop-output.arbiters n (returns-clause-pointers c)
