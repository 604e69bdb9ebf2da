use Rattle.std.proofs.Common.{◌≡◌, ◌+◌, ◌*◌, ◌≤◌, ◌++◌, flat_map, length, take}
use Rattle.std.specs.Prelude.{codes}
use Rattle.noc_view.specs.Names.{column_name}
use Rattle.noc_view.specs.declared.verdict.TheConstants.Verdict.{ALL}
use Rattle.noc_view.specs.declared.verdict.Verdict.{Verdict}
use Rattle.noc_files.specs.Writing.{comma}
use Rattle.noc_files.proofs.stalls.header.Given as goal

-- the columns so far
abbrev pub invariant-loop-index : goal.invariant-loop-index
invariant-loop-index l = record {
  said : l.header.bytes
      ≡ codes "router,port,vc" ++ flat_map (λ (v : Verdict). comma ++ column_name v) (take l.index ALL);
  short : length l.header.bytes ≤ 14 + 16 * l.index;
}
