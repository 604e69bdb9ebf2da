use Rattle.std.proofs.Common.{ℕ, Bool, length, sym, arith}
use Rattle.std.specs.Prelude.{◌&&◌, is_none, nat_le}
use Rattle.noc_theory.specs.Network.{Run, arrival_in, packet_at, state_at}
use Rattle.noc_net.proofs.ReaderLemmas.{none_more, some_here, none_all}
use Rattle.noc_net.proofs.network.Network.is_waiting_by.Goals as goal

-- packet p was due by a cycle and has its tail not out
abbrev waits : Run → ℕ → ℕ → Bool
waits u cycle p = nat_le (packet_at u.net p).due cycle && is_none (arrival_in u.net (state_at u.net u.count) p)

pub returns-then-is_waiting : goal.returns-then-is_waiting
returns-then-is_waiting c =
    sym (some_here (waits c.args.self.now c.args.cycle) (length c.args.self.now.net.packets) c.loop-packet.packet (omega (arith, c.packets-packet-end.ensures.value)) (sym c.if-is_waiting.ensures))

pub loop-packet-preserved : goal.loop-packet-preserved
loop-packet-preserved c =
    none_more (waits c.args.self.now c.args.cycle) (length c.args.self.now.net.packets) c.loop-packet.packet (omega (arith, c.packets-packet-end.ensures.value)) c.loop-packet.invariant (sym c.if-is_waiting.ensures)

pub returns : goal.returns
returns c =
    sym (none_all (waits c.args.self.now c.args.cycle) (length c.args.self.now.net.packets) c.loop-packet.packet (omega (arith, c.packets-packet-end.ensures.value)) c.loop-packet.invariant)
