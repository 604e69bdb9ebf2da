use Rattle.std.proofs.Common.{◌∙◌, arith, bit_or}
use Rattle.std.specs.Prelude.{nat_eq, not}
use Rattle.noc_sets.proofs.MemberLemmas.{or_fits}
use Rattle.noc_columns.specs.Picks.{channels_of, links_of}
use Rattle.noc_columns.specs.Words.{set_of}
use Rattle.noc_cycles.proofs.SomeLemmas.{some-over}
use Rattle.noc_engine.proofs.TurnLemmas.{happens-bits, some-comes-or-happens}
use Rattle.noc_engine.proofs.turn.does_more.Goals as goal

pub returns : goal.returns
returns c =
    let pattern = c.args.pattern.now in
    let work = c.args.work.now in
    let block = c.args.block.now in
    let flits = c.some_of-flits.result in
    let credits = c.some_in-credits.result in
    let heads = c.some_of-heads.result in
    let granted = c.some_of-granted.result in
    let moved = c.some_of-moved.result in
    let set = set_of (channels_of pattern.table.ports) in
    some-comes-or-happens flits credits (bit_or (bit_or heads granted) moved) (λ r. set r work.came.flits) (λ r. set_of (links_of pattern.table.ports.links) r work.came.credits)
    (λ r. not (nat_eq (bit_or (bit_or (set r work.standing.heads) (set r block.grants.granted)) (set r work.verdicts.moved)) 0))
    (or_fits (bit_or flits credits) (bit_or (bit_or heads granted) moved) (or_fits flits credits (omega arith) (omega arith)) (or_fits (bit_or heads granted) moved (or_fits heads granted (omega arith) (omega arith)) (omega arith)))
    c.some_of-flits.ensures (λ r. c.some_in-credits.ensures r ∙ some-over pattern r work.came.credits)
    (happens-bits heads granted moved (λ r. set r work.standing.heads) (λ r. set r block.grants.granted) (λ r. set r work.verdicts.moved) c.some_of-heads.ensures c.some_of-granted.ensures c.some_of-moved.ensures)
