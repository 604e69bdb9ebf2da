use Rattle.std.proofs.Common.{ℕ, ◌≡◌, ◌≤◌, get_or, map}
use Rattle.noc_tiles.specs.Ends.{inlet, outlet}
use Rattle.noc_tiles.specs.Rings.{Empties}
use Rattle.noc_tiles.specs.declared.ends.Inlet.{Inlet}
use Rattle.noc_tiles.proofs.partition.empty_all.Given as goal

-- the rings of the inlets before this one are emptied
abbrev pub invariant-loop-one : goal.invariant-loop-one
invariant-loop-one l = record {
  outs : map outlet l.outs.items ≡ map outlet l.initial.outs.items;
  rest : (j : ℕ) (d : Inlet) → l.one-index ≤ j → get_or l.one-items j d ≡ get_or l.initial.one-items j d;
  done : Empties (map inlet l.initial.one-items) (map outlet l.initial.outs.items) l.one-index l.initial.beats l.beats;
}
