use Rattle.std.proofs.Common.{ℕ, ◌^◌, ◌<◌, ◌∙◌, Some, ap, arith, bit_and, sym}
use Rattle.std.specs.Prelude.{None, if◌then◌else◌}
use Rattle.std.proofs.lemmas.Bool.{ne_eqb}
use Rattle.noc_columns.proofs.LoopLemmas.{least-same}
use Rattle.noc_sets.specs.Sets.{least}
use Rattle.noc_sets.proofs.MemberLemmas.{and_fits}
use Rattle.noc_counts.proofs.findings.asked_of.Goals as goal

pub returns-else-free-eq0 : goal.returns-else-free-eq0
returns-else-free-eq0 c =
    let free = bit_and c.args.set c.args.idle in
    let some : 0 < free = omega arith in
    let fits : free < 2 ^ 64 = and_fits c.args.set c.args.idle (omega arith) in
    ap (λ (k : ℕ). Some k) (least-same free c.least.result some fits c.least.ensures.least)
    ∙ ap (λ b. if b then None else Some (least free)) (sym (ne_eqb free 0 c.if-free-eq0.false))
