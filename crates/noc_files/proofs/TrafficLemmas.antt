-- A row is read as a packet just where it is five numerals that write it.
use Rattle.std.proofs.Common.{map, refl, ◌≡◌, ℕ, List, [], ◌∷◌, Option, Some, None, Result, Ok, Err, arith, false, ◌<◌, length, ◌==◌}
use Rattle.std.proofs.lemmas.Bool.Decides.{nat_tests}
use Rattle.std.specs.Option.{ok_or}
use Rattle.csv.specs.Records.{field_at}
use Rattle.noc_packet.specs.declared.packet.Packet.{Packet}
use Rattle.noc_bytes.specs.declared.input_fault.InputFault.{InputFault}
use Rattle.noc_bytes.specs.declared.input_fault.InputFault.TheVariants.{BadCount, BadNumber}
use Rattle.noc_files.specs.Rows.{Fields, IsNumeral, number_of, text_rows}
use Rattle.noc_files.specs.Traffic.{IsTraffic, IsWritablePacket, WritesPacket, traffic_header, packet_fields, packet_of, traffic_of, traffic_text}
use Rattle.noc_topo.specs.Lists.{Each}
use Rattle.std.specs.List.{AllZip}
use Rattle.noc_files.specs.Plain.{IsPlainRow}
use Rattle.noc_files.proofs.NumeralLemmas.{decimal_numeral, plain_decimal, some_decimal}
use Rattle.noc_files.proofs.PlainLemmas.{is_plain_row, plain_rows}
use Rattle.noc_files.proofs.SheetLemmas.{bind_ok, is_numeral, is_sheet, numeral_is, sheet_is}

-- what is there, where its want is no fault
pub found_in : {X : Type 0} (o : Option X) (fault : InputFault) (x : X) → ok_or o fault ≡ Ok x → o ≡ Some x
found_in (Some y) fault x said = cc
found_in None fault x said = absurd (cc)

-- the number in a column with this field
abbrev pub column : ℕ → ℕ → List ℕ → Result ℕ InputFault
column row at field = ok_or (number_of field) (BadNumber row at)

pub numeral_at : (row at : ℕ) (field : List ℕ) (n : ℕ) → column row at field ≡ Ok n → IsNumeral field n
numeral_at row at field n e = numeral_is field n (found_in (number_of field) (BadNumber row at) n e)

pub differs : (m n : ℕ) → n < m → (m == n) ≡ false
differs m n h = grind (arith, nat_tests)

pub packet_is : (row : ℕ) (fields : Fields) (p : Packet) → packet_of row fields ≡ Ok p → WritesPacket fields p
unfolding packet_of field_at
packet_is row [] p e = absurd (cc)
packet_is row (a ∷ []) p e = absurd (cc)
packet_is row (a ∷ b ∷ []) p e = absurd (cc)
packet_is row (a ∷ b ∷ c ∷ []) p e = absurd (cc)
packet_is row (a ∷ b ∷ c ∷ d ∷ []) p e = absurd (cc)
packet_is row (a ∷ b ∷ c ∷ d ∷ f ∷ []) p e =
    let source = bind_ok (column row 0 a) _ p e in
    let destination = bind_ok (column row 1 b) _ p source.2 in
    let class = bind_ok (column row 2 c) _ p destination.2 in
    let length = bind_ok (column row 3 d) _ p class.2 in
    let due = bind_ok (column row 4 f) _ p length.2 in
    let same : record { source = source.0; destination = destination.0; class = class.0; length = length.0; due = due.0 } ≡ p = cc in
    rw (← same) (numeral_at row 0 a source.0 source.1, numeral_at row 1 b destination.0 destination.1, numeral_at row 2 c class.0 class.1, numeral_at row 3 d length.0 length.1, numeral_at row 4 f due.0 due.1)
packet_is row (a ∷ b ∷ c ∷ d ∷ f ∷ g ∷ more) p e =
    let other : (length (a ∷ b ∷ c ∷ d ∷ f ∷ g ∷ more) == 5) ≡ false = differs (length (a ∷ b ∷ c ∷ d ∷ f ∷ g ∷ more)) 5 (omega arith) in
    let refused : packet_of row (a ∷ b ∷ c ∷ d ∷ f ∷ g ∷ more) ≡ Err (BadCount row) = rw other in
    absurd (cc (refused, e))

pub is_packet : (row : ℕ) (fields : Fields) (p : Packet) → WritesPacket fields p → packet_of row fields ≡ Ok p
unfolding packet_of field_at
is_packet row (a ∷ b ∷ c ∷ d ∷ f ∷ []) p h = rw (is_numeral a p.source h.0, is_numeral b p.destination h.1, is_numeral c p.class h.2, is_numeral d p.length h.3, is_numeral f p.due h.4)
is_packet row [] p h = absurd h
is_packet row (a ∷ []) p h = absurd h
is_packet row (a ∷ b ∷ []) p h = absurd h
is_packet row (a ∷ b ∷ c ∷ []) p h = absurd h
is_packet row (a ∷ b ∷ c ∷ d ∷ []) p h = absurd h
is_packet row (a ∷ b ∷ c ∷ d ∷ f ∷ g ∷ more) p h = absurd h

-- a text is read as these packets just where it is the header and rows that write them
pub traffic_is : (text : List ℕ) (packets : List Packet) → traffic_of text ≡ Ok packets → IsTraffic text packets
traffic_is text packets e = sheet_is packet_of WritesPacket packet_is is_packet traffic_header (text_rows text) packets e

pub is_traffic : (text : List ℕ) (packets : List Packet) → IsTraffic text packets → traffic_of text ≡ Ok packets
is_traffic text packets h = is_sheet packet_of WritesPacket packet_is is_packet traffic_header (text_rows text) packets h

-- ---- the plainest file of some packets

packets_plain : (packets : List Packet) → Each IsWritablePacket packets → Each IsPlainRow (map packet_fields packets)
packets_plain [] h = tt
packets_plain (p ∷ packets) h =
    let w = h.0 in (
      (
        some_decimal p.source (omega (arith, w.source)),
        plain_decimal p.source (omega (arith, w.source)),
        (plain_decimal p.destination (omega (arith, w.destination)), (plain_decimal p.class (omega (arith, w.class)), (plain_decimal p.length (omega (arith, w.length)), (plain_decimal p.due (omega (arith, w.due)), tt)))),
      ),
      packets_plain packets h.1,
    )

packets_written : (packets : List Packet) → Each IsWritablePacket packets → AllZip WritesPacket (map packet_fields packets) packets
packets_written [] h = tt
packets_written (p ∷ packets) h =
    let w = h.0 in
    ((decimal_numeral p.source w.source, decimal_numeral p.destination w.destination, decimal_numeral p.class w.class, decimal_numeral p.length w.length, decimal_numeral p.due w.due), packets_written packets h.1)

plain_header : IsPlainRow traffic_header
plain_header = is_plain_row traffic_header refl

-- the packets that were written plainly are read
pub traffic_back : (packets : List Packet) → Each IsWritablePacket packets → traffic_of (traffic_text packets) ≡ Ok packets
traffic_back packets h =
    is_traffic (traffic_text packets) packets (record { below = map packet_fields packets; under_header = plain_rows (traffic_header ∷ map packet_fields packets) (plain_header, packets_plain packets h); writes = packets_written packets h })
