use Rattle.std.proofs.Common.{arith}
use Rattle.noc_counts.proofs.CountLemmas.{noted-zero, set-none}
use Rattle.noc_counts.proofs.count.Count.clear.Goals as goal

pub returns : goal.returns
returns c = λ j r few.
    omega (arith, c.clear.ensures j r few, c.clear-2.ensures j r few, noted-zero c.args.self.now j r, set-none c.args.self.now.carried j r)
