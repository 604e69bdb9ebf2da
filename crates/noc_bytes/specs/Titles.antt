-- The number and the name of a fault of a text, read or written (docs/FORMATS.md, "Fault lines").
use Rattle.std.specs.Prelude.{ℕ, List, codes}
use Rattle.noc_bytes.specs.declared.input_fault.InputFault.{InputFault}
use Rattle.noc_bytes.specs.declared.input_fault.InputFault.TheVariants as input

abbrev pub input_title : InputFault → List ℕ
input_title input.ReadFailed = codes "1 ReadFailed"
input_title input.TooLong = codes "2 TooLong"
input_title input.Memory = codes "3 Memory"
input_title input.BadToml = codes "4 BadToml"
input_title input.UnknownKey = codes "5 UnknownKey"
input_title (input.MissingKey k) = codes "6 MissingKey"
input_title (input.WrongType k) = codes "7 WrongType"
input_title (input.BadValue k) = codes "8 BadValue"
input_title input.BadHeader = codes "9 BadHeader"
input_title (input.BadCount row) = codes "10 BadCount"
input_title (input.BadNumber row column) = codes "11 BadNumber"
input_title (input.BadPort row column) = codes "12 BadPort"
input_title input.NoSplit = codes "13 NoSplit"

-- a report that could not be written has one
abbrev pub write_title : List ℕ
write_title = codes "1 WriteFailed"
