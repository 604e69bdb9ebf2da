use Rattle.std.proofs.Common.{arith}
use Rattle.std.proofs.lemmas.Nat.{mul-le}
use Rattle.noc_cycles.proofs.pattern.ports_of.Goals as goal

pub overflow_mul-local : goal.overflow_mul-local
overflow_mul-local c = let few = mul-le c.args.vcs c.args.width 8 6 c.requires.vcs c.requires.width in omega (arith, few)

pub invariant_of-links : goal.invariant_of-links
invariant_of-links c = let few = mul-le c.args.vcs c.args.width 8 6 c.requires.vcs c.requires.width in record { few = omega arith; fit = omega (arith, few) }

pub invariant_of-local : goal.invariant_of-local
invariant_of-local c = let few = mul-le c.args.vcs c.args.width 8 6 c.requires.vcs c.requires.width in record { few = omega arith; fit = omega (arith, few) }
