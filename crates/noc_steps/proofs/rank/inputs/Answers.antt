use Rattle.std.proofs.Common.{arith}
use Rattle.std.proofs.lemmas.Nat.{mul-le}
use Rattle.noc_steps.proofs.rank.inputs.Goals as goal

pub returns-clause-few : goal.returns-clause-few
returns-clause-few c =
    mul-le _ _ 4 14336 (omega (arith, c.requires.few))
    (mul-le _ _ 1792 8 (mul-le _ _ 256 7 (omega (arith, c.nodes.ensures.few)) (omega (arith, c.ports.ensures.few))) (omega (arith, c.requires.vcs)))
