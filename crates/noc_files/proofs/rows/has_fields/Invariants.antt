use Rattle.std.proofs.Common.{◌≡◌, map, drop}
use Rattle.std.specs.Cmp.Lexicographic.{pointwise}
use Rattle.std.specs.Str.{bytes_eq}
use Rattle.csv.specs.Records.{fields_of}
use Rattle.noc_files.proofs.rows.has_fields.Given as goal

abbrev pub invariant-loop-i : goal.invariant-loop-i
invariant-loop-i l = pointwise bytes_eq (drop l.i (fields_of l.row)) (map (λ n. n.now) (drop l.i l.names)) ≡ pointwise bytes_eq (fields_of l.row) (map (λ n. n.now) l.names)
