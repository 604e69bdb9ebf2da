use Rattle.std.proofs.Common.{◌≡◌, map, replicate}
use Rattle.noc_view.specs.Found.{empty_finding}
use Rattle.noc_files.proofs.kept.nothing_kept.Given as goal

-- a list for each router so far
abbrev pub invariant-loop : goal.invariant-loop
invariant-loop l = map (λ one. one.items) l.kept.items ≡ replicate l.counter (replicate l.channels empty_finding)
