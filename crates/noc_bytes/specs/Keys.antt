-- The keys of a configuration.
use Rattle.std.specs.Prelude.{ℕ, List, codes}
use Rattle.noc_bytes.specs.declared.input_fault.Key.{Key}
use Rattle.noc_bytes.specs.declared.input_fault.Key.TheVariants as key

-- the text of a key
abbrev pub key_name : Key → List ℕ
key_name key.Kind = codes "kind"
key_name key.Radix = codes "radix"
key_name key.Channels = codes "channels"
key_name key.Buffer = codes "buffer"
key_name key.Classes = codes "classes"
key_name key.Rule = codes "rule"
key_name key.Cycles = codes "cycles"
