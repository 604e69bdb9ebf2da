use Rattle.std.proofs.Common.{◌^◌, ◌∙◌, ap, sym}
use Rattle.std.specs.Prelude.{if◌then◌else◌}
use Rattle.noc_columns.proofs.PlaceLemmas.{one-router}
use Rattle.noc_columns.proofs.words.alone_if.Goals as goal

pub returns-then-inside : goal.returns-then-inside
returns-then-inside c = one-router c.args.member c.requires ∙ sym (ap (λ b. if b then 2 ^ c.args.member else 0) c.if-inside.true)
