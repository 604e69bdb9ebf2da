use Rattle.std.proofs.Common.{◌≡◌, ℕ, ◌<◌, false}
use Rattle.std.specs.Str.{bytes_eq}
use Rattle.noc_files.specs.Ports.{name_of_port}
use Rattle.noc_files.proofs.ports.port_named.Given as goal

abbrev pub invariant-loop-port : goal.invariant-loop-port
invariant-loop-port l = (j : ℕ) → j < l.port → bytes_eq l.name (name_of_port l.shape j) ≡ false
