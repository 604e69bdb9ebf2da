use Rattle.std.proofs.Common.{◌≡◌, ℕ, Result, length, map, vec_len}
use Rattle.noc_bytes.specs.declared.input_fault.InputFault.{InputFault}
use Rattle.noc_files.specs.Rows.{Fields, IsBetweenRows, rows_left}
use Rattle.noc_files.specs.Sheet.{ReadsRows, each_from, sheet}
use Rattle.noc_files.proofs.SheetRowLemmas.{after}
use Rattle.noc_files.proofs.sheet.read_left.Given as goal

abbrev pub invariant-rows : goal.invariant-rows
invariant-rows g l = record {
  ready : IsBetweenRows l.reader;
  so_far : (said : ℕ → Fields → Result g.row.V.Denot InputFault) → ReadsRows (goal.F-post g l.read) said
      → after l.values.items (each_from said (vec_len l.values) (rows_left l.reader)) ≡ sheet said (map (λ n. n.now) l.header) (rows_left l.fn.reader);
}

abbrev pub decreases-rows : goal.decreases-rows
decreases-rows g l = length (rows_left l.reader)
