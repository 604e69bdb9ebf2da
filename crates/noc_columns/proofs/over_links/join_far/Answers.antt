use Rattle.std.proofs.Common.{◌∙◌, ap, arith, bit_or}
use Rattle.std.specs.Prelude.{◌||◌}
use Rattle.noc_packet.specs.Set.{has_bit}
use Rattle.noc_packet.proofs.SetLemmas.{either_members}
use Rattle.noc_columns.specs.Words.{word}
use Rattle.noc_columns.proofs.PassLemmas.{word-here, word-other}
use Rattle.noc_columns.proofs.over_links.join_far.Goals as goal

pub returns-clause-here : goal.returns-clause-here
returns-clause-here c = λ r few.
    let old = c.args.to.now in
    let i = c.args.index in
    let x = bit_or (word i old) c.turned_alone.result in
    ap (λ w. has_bit w r) (word-here old i x (omega arith) (omega (arith, c.requires.index)))
    ∙ either_members (word i old) c.turned_alone.result r
    ∙ ap (λ b. has_bit (word i old) r || b) (c.turned_alone.ensures r few)

pub returns-clause-others : goal.returns-clause-others
returns-clause-others c = λ k other. word-other c.args.to.now c.args.index _ k other
