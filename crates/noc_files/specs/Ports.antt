-- The names of ports.
use Rattle.std.specs.Prelude.{◌≡◌, ℕ, ◌/◌, ◌==◌, ◌<◌, List, ◌++◌, codes, decimal, find, Option, Some, None, Result, nat_lt, if◌then◌else◌, option_and_then}
use Rattle.std.specs.Option.{ok_or}
use Rattle.std.specs.Str.{bytes_eq}
use Rattle.csv.specs.Records.{field_at}
use Rattle.noc_topo.specs.Shape.{Grid, is_plus, local_port, ports}
use Rattle.noc_topo.specs.Lists.{below}
use Rattle.noc_bytes.specs.declared.input_fault.InputFault.{InputFault}
use Rattle.noc_bytes.specs.declared.input_fault.InputFault.TheVariants.{BadPort}
use Rattle.noc_files.specs.Rows.{Fields}

-- whether a link leads up or down
abbrev pub sign_of : ℕ → List ℕ
sign_of port = if is_plus port then codes "+" else codes "-"

-- the links of dimension i are `+i` and `-i`, and the last port is `local`
abbrev pub name_of_port : Grid → ℕ → List ℕ
name_of_port g port =
    if port == local_port g then codes "local" else sign_of port ++ decimal (port / 2)

-- the name of a port, if the shape has it
abbrev pub port_text : Grid → ℕ → Option (List ℕ)
port_text g port = if nat_lt port (ports g) then Some (name_of_port g port) else None

-- the port of the shape that has this name
unfoldable pub port_named : Grid → List ℕ → Option ℕ
port_named g name = find (λ port. bytes_eq name (name_of_port g port)) (below (ports g))

-- a name of this port, which the shape has
pub record IsPortName (g : Grid) (name : List ℕ) (port : ℕ) : Type 0 where
  pub known : port < ports g
  pub text : name ≡ name_of_port g port

-- the port in a column of a row, counted from 0
abbrev pub port_at : Grid → ℕ → ℕ → Fields → Result ℕ InputFault
port_at g row column fields =
    ok_or (option_and_then (port_named g) (field_at fields column)) (BadPort row column)
