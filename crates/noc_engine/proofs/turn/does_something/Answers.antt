use Rattle.std.proofs.Common.{arith, bit_or}
use Rattle.std.specs.Prelude.{nat_eq, not}
use Rattle.noc_columns.specs.Picks.{channels_of}
use Rattle.noc_columns.specs.Words.{set_of}
use Rattle.noc_cycles.specs.Taking.{comes_to}
use Rattle.noc_engine.proofs.TurnLemmas.{injected-happens}
use Rattle.noc_engine.proofs.turn.does_something.Goals as goal

pub returns-then-injected-ne0 : goal.returns-then-injected-ne0
returns-then-injected-ne0 c =
    let ports = c.args.pattern.now.table.ports in
    let set = set_of (channels_of ports) in
    injected-happens c.args.injected (comes_to ports c.args.work.now.came)
    (λ r. not (nat_eq (bit_or (bit_or (set r c.args.work.now.standing.heads) (set r c.args.block.now.grants.granted)) (set r c.args.work.now.verdicts.moved)) 0)) (omega arith) (omega arith) c.requires
