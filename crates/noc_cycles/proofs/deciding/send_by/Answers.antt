use Rattle.noc_columns.proofs.ShownLemmas.{picked-vcs}
use Rattle.noc_cycles.proofs.deciding.send_by.Goals as goal

pub traverse-requires-clause-vcs : goal.traverse-requires-clause-vcs
traverse-requires-clause-vcs g c =
    let from = c.args.candidates.now in
    let new = c.pick.new in
    picked-vcs c.args.ports.now from.standing.now.ready from.ahead.now new.decided.picked new.decided.past from.standing.now.last from.sends.now new.picks c.pick.ensures.picked c.requires.sends

pub returns : goal.returns
returns g c = record {
  picks = c.pick.new.picks;
  between = c.pick.new.decided;
  picked = record { picked = c.pick.ensures.picked; rest = c.pick.ensures.rest };
  traversed = record { traversed = c.traverse.ensures.traversed; decided = c.traverse.ensures.decided; left = c.traverse.ensures.left };
}
