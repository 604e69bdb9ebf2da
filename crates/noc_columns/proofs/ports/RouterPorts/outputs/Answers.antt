use Rattle.std.proofs.Common.{◌≡◌, ◌+◌, ◌*◌, ap₂, arith}
use Rattle.std.specs.Prelude.{nat_lt, if◌then◌else◌}
use Rattle.noc_columns.proofs.ports.RouterPorts.outputs.Goals as goal

pub returns-clause-words : goal.returns-clause-words
returns-clause-words c = λ q p.
    let w = c.args.self.now.links.width in
    ap₂ (λ x y. if nat_lt q w then x else y)
    (let e : 0 + p * w + q ≡ p * w + q = omega arith in e)
    (let e : (w + 1) * w + p * 1 + 0 ≡ (w + 1) * w + p = omega arith in e)
