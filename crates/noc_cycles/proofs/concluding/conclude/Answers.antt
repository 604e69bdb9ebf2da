use Rattle.std.proofs.Common.{◌*◌}
use Rattle.noc_cycles.proofs.Common.{channels_of, links_of, member-below}
use Rattle.noc_cycles.proofs.ConcludingLemmas.{all-within, held-changed, links-copied, links-within, none-there}
use Rattle.noc_cycles.proofs.concluding.conclude.Goals as goal

pub returns-clause-concluded : goal.returns-clause-concluded
returns-clause-concluded c = λ r few.
    let pattern = c.args.pattern.now in
    let ports = c.args.pattern.now.table.ports in
    let all = channels_of ports in
    let links = links_of ports.links in
    record {
      settles = c.settle-moved.ensures.settles all r (all-within pattern);
      pays = c.pay.ensures links r (links-within pattern);
      leaves = λ k l. c.settle-moved.ensures.arrived all r k (all-within pattern) l;
      idle = c.free_local.ensures.idle r few;
      credits = λ k l. links-copied pattern r c.settle-moved.new.verdicts.moved c.copy.new.to c.copy.ensures k l;
      rest = held-changed ports c.args.block.now r c.settle-moved.new.inputs c.pay.new.outputs c.free_local.new.marks c.free_local.ensures.kept;
      arrived_below = λ k e. member-below all r c.settle-moved.new.arrived k e;
      active_below = λ k e. member-below all r c.args.block.now.inputs.active k e;
      granted_below = λ k e. member-below all r c.args.block.now.grants.granted k e;
      flits_below = λ k e. member-below links r c.args.left.now.flits k e;
      tails_below = λ k e. member-below links r c.args.left.now.tails k e;
    }

pub free_local-requires : goal.free_local-requires
free_local-requires c = λ none r.
    let pattern = c.args.pattern.now in
    none-there (channels_of c.args.pattern.now.table.ports) r (4 * c.args.pattern.now.frame.groups) c.settle-moved.result.1 c.settle-moved.new.arrived (all-within pattern) (c.settle-moved.ensures.some r) none
