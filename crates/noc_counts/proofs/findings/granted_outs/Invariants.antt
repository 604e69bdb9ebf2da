use Rattle.std.proofs.Common.{◌≡◌}
use Rattle.noc_columns.specs.Picks.{channels_of}
use Rattle.noc_columns.specs.Words.{set_of}
use Rattle.noc_cycles.specs.Held.{held_at}
use Rattle.noc_counts.specs.Findings.{outs_of}
use Rattle.noc_counts.proofs.findings.granted_outs.Given as goal

abbrev pub invariant-loop-channel : goal.invariant-loop-channel
invariant-loop-channel l =
    let ports = l.pattern.table.ports in
    l.outs ≡ outs_of l.channel ports.links.vcs (set_of (channels_of ports) l.router l.block.grants.granted) (held_at ports l.block l.router)
