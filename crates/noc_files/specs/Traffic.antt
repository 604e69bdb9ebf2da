-- What a traffic file says.
use Rattle.std.specs.Prelude.{ℕ, ◌^◌, ◌<◌, ◌==◌, decimal, map, List, [], ◌∷◌, length, codes, Result, Ok, Err, if◌then◌else◌}
use Rattle.noc_bytes.specs.declared.input_fault.InputFault.{InputFault}
use Rattle.noc_bytes.specs.declared.input_fault.InputFault.TheVariants.{BadCount, BadNumber}
use Rattle.noc_packet.specs.declared.packet.Packet.{Packet}
use Rattle.noc_files.specs.Columns.{IsRowFault}
use Rattle.noc_files.specs.Gives.{◌>>=◌}
use Rattle.noc_files.specs.Plain.{plain_text}
use Rattle.noc_files.specs.Rows.{Fields, HasNumeral, IsNumeral, number_at, text_rows}
use Rattle.noc_files.specs.Sheet.{IsSheet, IsSheetFault, sheet}

abbrev pub traffic_header : Fields
traffic_header =
    codes "source" ∷ codes "destination" ∷ codes "class" ∷ codes "length" ∷ codes "due" ∷ []

-- the packet of a row: first the number of fields, then the fields from left to right
unfoldable pub packet_of : ℕ → Fields → Result Packet InputFault
packet_of row fields = if length fields == 5 then five else Err (BadCount row)
  where
    five : Result Packet InputFault
    five = do
      source ← number_at row 0 fields
      destination ← number_at row 1 fields
      class ← number_at row 2 fields
      length ← number_at row 3 fields
      due ← number_at row 4 fields
      Ok (record {
        source = source;
        destination = destination;
        class = class;
        length = length;
        due = due;
      })

abbrev pub traffic_of : List ℕ → Result (List Packet) InputFault
traffic_of text = sheet packet_of traffic_header (text_rows text)

-- five numerals, which write this packet
abbrev pub WritesPacket : Fields → Packet → Type 0
WritesPacket (source ∷ destination ∷ class ∷ length ∷ due ∷ []) p =
    IsNumeral source p.source × IsNumeral destination p.destination × IsNumeral class p.class
    × IsNumeral length p.length × IsNumeral due p.due
WritesPacket _ p = ⊥

-- the header, and below it rows of five numerals, which write these packets
abbrev pub IsTraffic : List ℕ → List Packet → Type 0
IsTraffic text packets = IsSheet WritesPacket traffic_header (text_rows text) packets

-- the fault of a row: another number of fields, or a field that is no numeral
abbrev pub IsPacketFault : ℕ → Fields → InputFault → Type 0
IsPacketFault row fields fault = IsRowFault 5 (λ _. HasNumeral) BadNumber row fields fault

-- the first fault of a traffic file
abbrev pub IsTrafficFault : List ℕ → InputFault → Type 0
IsTrafficFault text fault =
    IsSheetFault WritesPacket IsPacketFault traffic_header (text_rows text) fault

-- ---- the plainest traffic file of some packets

-- numbers that a numeral can write
pub record IsWritablePacket (p : Packet) : Type 0 where
  pub source : p.source < 2 ^ 32
  pub destination : p.destination < 2 ^ 32
  pub class : p.class < 2 ^ 32
  pub length : p.length < 2 ^ 32
  pub due : p.due < 2 ^ 32

abbrev pub packet_fields : Packet → Fields
packet_fields p =
    decimal p.source ∷ decimal p.destination ∷ decimal p.class ∷ decimal p.length ∷ decimal p.due
    ∷ []

-- the header, and a line of five numbers for each packet
abbrev pub traffic_text : List Packet → List ℕ
traffic_text packets = plain_text (traffic_header ∷ map packet_fields packets)
