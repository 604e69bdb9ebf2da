use Rattle.std.proofs.Common.{◌*◌, ◌-◌, ◌≤◌, arith}
use Rattle.std.proofs.Math.Nat.{mul-le-mul_right}
use Rattle.noc_router.proofs.WholeLemmas.{few-channels}
use Rattle.noc_router.proofs.router.Router.next_channel.Goals as goal

pub returns-else-room-clause-within : goal.returns-else-room-clause-within
returns-else-room-clause-within c = tt

pub returns-else-room-clause-room : goal.returns-else-room-clause-room
returns-else-room-clause-room c = tt

pub returns-else-room-clause-next : goal.returns-else-room-clause-next
returns-else-room-clause-next c = tt

pub returns-in-None-2-clause-within : goal.returns-in-None-2-clause-within
returns-in-None-2-clause-within c = tt

pub returns-in-None-2-clause-room : goal.returns-in-None-2-clause-room
returns-in-None-2-clause-room c = tt

pub returns-in-None-2-clause-next : goal.returns-in-None-2-clause-next
returns-in-None-2-clause-next c = tt

pub overflow_mul-self-inside : goal.overflow_mul-self-inside
overflow_mul-self-inside c =
    let r = c.self.inside in
    let rows : (r.ports - 1) * r.vcs ≤ r.ports * r.vcs = mul-le-mul_right r.vcs (omega arith) in
    omega (arith, rows, few-channels r c.self.invariant)
