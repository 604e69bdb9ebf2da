-- A traffic file is refused with its first fault.
use Rattle.std.proofs.Common.{◌≡◌, ◌≢◌, inl, inr, ℕ, zero, suc, ◌<◌, List, [], ◌∷◌, length, slice_index_or, Option, Some, None, Result, Ok, Err, ap, arith, false, refl, sym, ◌∙◌, ◌==◌}
use Rattle.std.proofs.lemmas.Bool.Decides.{nat_tests}
use Rattle.std.proofs.lemmas.Option.{none-some}
use Rattle.csv.specs.Records.{field_at}
use Rattle.noc_packet.specs.declared.packet.Packet.{Packet}
use Rattle.noc_bytes.specs.declared.input_fault.InputFault.{InputFault}
use Rattle.noc_bytes.specs.declared.input_fault.InputFault.TheVariants.{BadCount, BadNumber}
use Rattle.noc_files.specs.Rows.{Fields, HasNumeral, number_of, text_rows}
use Rattle.noc_files.specs.Columns.{HasBadColumn}
use Rattle.noc_files.specs.Traffic.{IsPacketFault, IsTrafficFault, WritesPacket, traffic_header, packet_of, traffic_of}
use Rattle.noc_files.proofs.FaultLemmas.{breaks_sheet, sheet_breaks}
use Rattle.noc_files.proofs.SheetLemmas.{is_numeral, numeral_is}
use Rattle.noc_files.proofs.TrafficLemmas.{differs, is_packet, packet_is}
use borrow.Author.Count.{below_more, below_none}

pub no_numeral : (field : List ℕ) → number_of field ≡ None → HasNumeral field → ⊥
no_numeral field e h = none-some h.0 (sym e ∙ is_numeral field h.0 h.1)

pub none_of : (field : List ℕ) → (HasNumeral field → ⊥) → number_of field ≡ None
none_of field h = by (number_of field) refl
  where
    by : (o : Option ℕ) → number_of field ≡ o → number_of field ≡ None
    by (Some n) e = absurd (h (n, numeral_is field n e))
    by None e = e

five_fault : (row : ℕ) (a b c d f : List ℕ) (fault : InputFault) → (oa : Option ℕ) → number_of a ≡ oa → (ob : Option ℕ) → number_of b ≡ ob → (oc : Option ℕ) → number_of c ≡ oc → (od : Option ℕ) → number_of d ≡ od → (of : Option ℕ) → number_of f ≡ of
    → packet_of row (a ∷ b ∷ c ∷ d ∷ f ∷ []) ≡ Err fault → HasBadColumn 5 (λ _. HasNumeral) BadNumber row (a ∷ b ∷ c ∷ d ∷ f ∷ []) fault
unfolding packet_of field_at
five_fault row a b c d f fault None ea ob eb oc ec od ed of ef e =
    let said : Path (Result Packet InputFault) (Err (BadNumber row 0)) (Err fault) = rw ea at e in
    record { all_there = refl; column = 0; known = omega arith; before = below_none _; bad = no_numeral a ea; fault_is = cc }
five_fault row a b c d f fault (Some na) ea None eb oc ec od ed of ef e =
    let said : Path (Result Packet InputFault) (Err (BadNumber row 1)) (Err fault) = rw (ea, eb) at e in
    record { all_there = refl; column = 1; known = omega arith; before = below_more _ 0 (below_none _) (na, numeral_is a na ea); bad = no_numeral b eb; fault_is = cc }
five_fault row a b c d f fault (Some na) ea (Some nb) eb None ec od ed of ef e =
    let said : Path (Result Packet InputFault) (Err (BadNumber row 2)) (Err fault) = rw (ea, eb, ec) at e in
    record { all_there = refl; column = 2; known = omega arith; before = below_more _ 1 (below_more _ 0 (below_none _) (na, numeral_is a na ea)) (nb, numeral_is b nb eb); bad = no_numeral c ec; fault_is = cc }
five_fault row a b c d f fault (Some na) ea (Some nb) eb (Some nc) ec None ed of ef e =
    let said : Path (Result Packet InputFault) (Err (BadNumber row 3)) (Err fault) = rw (ea, eb, ec, ed) at e in
    record { all_there = refl; column = 3; known = omega arith; before = below_more _ 2 (below_more _ 1 (below_more _ 0 (below_none _) (na, numeral_is a na ea)) (nb, numeral_is b nb eb)) (nc, numeral_is c nc ec); bad = no_numeral d ed; fault_is = cc }
five_fault row a b c d f fault (Some na) ea (Some nb) eb (Some nc) ec (Some nd) ed None ef e =
    let said : Path (Result Packet InputFault) (Err (BadNumber row 4)) (Err fault) = rw (ea, eb, ec, ed, ef) at e in
    record { all_there = refl; column = 4; known = omega arith; before = below_more _ 3 (below_more _ 2 (below_more _ 1 (below_more _ 0 (below_none _) (na, numeral_is a na ea)) (nb, numeral_is b nb eb)) (nc, numeral_is c nc ec)) (nd, numeral_is d nd ed); bad = no_numeral f ef; fault_is = cc }
five_fault row a b c d f fault (Some na) ea (Some nb) eb (Some nc) ec (Some nd) ed (Some nf) ef e =
    let said : Path (Result Packet InputFault) (Ok (record { source = na; destination = nb; class = nc; length = nd; due = nf })) (Err fault) = rw (ea, eb, ec, ed, ef) at e in
    absurd (cc)

packet_fault : (row : ℕ) (fields : Fields) (fault : InputFault) → packet_of row fields ≡ Err fault → IsPacketFault row fields fault
unfolding packet_of field_at
packet_fault row [] fault e = inl ((λ same. omega arith), cc)
packet_fault row (a ∷ []) fault e = inl ((λ same. omega arith), cc)
packet_fault row (a ∷ b ∷ []) fault e = inl ((λ same. omega arith), cc)
packet_fault row (a ∷ b ∷ c ∷ []) fault e = inl ((λ same. omega arith), cc)
packet_fault row (a ∷ b ∷ c ∷ d ∷ []) fault e = inl ((λ same. omega arith), cc)
packet_fault row (a ∷ b ∷ c ∷ d ∷ f ∷ []) fault e = inr (five_fault row a b c d f fault (number_of a) refl (number_of b) refl (number_of c) refl (number_of d) refl (number_of f) refl e)
packet_fault row (a ∷ b ∷ c ∷ d ∷ f ∷ g ∷ more) fault e =
    let fields = a ∷ b ∷ c ∷ d ∷ f ∷ g ∷ more in
    let refused : packet_of row fields ≡ Err (BadCount row) = rw (differs (length fields) 5 (omega arith)) in
    inl ((λ same. omega arith), cc (refused, e))

-- a field that is no numeral, in one of five columns
bad_column : (row : ℕ) (a b c d f : List ℕ) (fault : InputFault) (column : ℕ) → column < 5 → ((k : ℕ) → k < column → HasNumeral (slice_index_or (a ∷ b ∷ c ∷ d ∷ f ∷ []) k []))
    → (HasNumeral (slice_index_or (a ∷ b ∷ c ∷ d ∷ f ∷ []) column []) → ⊥) → fault ≡ BadNumber row column → packet_of row (a ∷ b ∷ c ∷ d ∷ f ∷ []) ≡ Err fault
unfolding packet_of field_at
bad_column row a b c d f fault zero known before bad e = rw (none_of a bad) (ap (λ (t : InputFault). Err t) (sym e))
bad_column row a b c d f fault (suc zero) known before bad e =
    let first = before 0 (omega arith) in
    rw (is_numeral a first.0 first.1, none_of b bad) (ap (λ (t : InputFault). Err t) (sym e))
bad_column row a b c d f fault (suc (suc zero)) known before bad e =
    let first = before 0 (omega arith) in
    let second = before 1 (omega arith) in
    rw (is_numeral a first.0 first.1, is_numeral b second.0 second.1, none_of c bad) (ap (λ (t : InputFault). Err t) (sym e))
bad_column row a b c d f fault (suc (suc (suc zero))) known before bad e =
    let first = before 0 (omega arith) in
    let second = before 1 (omega arith) in
    let third = before 2 (omega arith) in
    rw (is_numeral a first.0 first.1, is_numeral b second.0 second.1, is_numeral c third.0 third.1, none_of d bad) (ap (λ (t : InputFault). Err t) (sym e))
bad_column row a b c d f fault (suc (suc (suc (suc zero)))) known before bad e =
    let first = before 0 (omega arith) in
    let second = before 1 (omega arith) in
    let third = before 2 (omega arith) in
    let fourth = before 3 (omega arith) in
    rw (is_numeral a first.0 first.1, is_numeral b second.0 second.1, is_numeral c third.0 third.1, is_numeral d fourth.0 fourth.1, none_of f bad) (ap (λ (t : InputFault). Err t) (sym e))
bad_column row a b c d f fault (suc (suc (suc (suc (suc n))))) known before bad e = absurd (omega arith)

pub unlike : (m n : ℕ) → m ≢ n → (m == n) ≡ false
unlike m n e = grind (arith, nat_tests)

wrong_count : (row : ℕ) (fields : Fields) → length fields ≢ 5 → packet_of row fields ≡ Err (BadCount row)
unfolding packet_of
wrong_count row fields other = rw (unlike (length fields) 5 other)

column_fault : (row : ℕ) (fields : Fields) (fault : InputFault) → HasBadColumn 5 (λ _. HasNumeral) BadNumber row fields fault → packet_of row fields ≡ Err fault
column_fault row [] fault h = absurd (omega (arith, h.all_there))
column_fault row (a ∷ []) fault h = absurd (omega (arith, h.all_there))
column_fault row (a ∷ b ∷ []) fault h = absurd (omega (arith, h.all_there))
column_fault row (a ∷ b ∷ c ∷ []) fault h = absurd (omega (arith, h.all_there))
column_fault row (a ∷ b ∷ c ∷ d ∷ []) fault h = absurd (omega (arith, h.all_there))
column_fault row (a ∷ b ∷ c ∷ d ∷ f ∷ []) fault h = bad_column row a b c d f fault h.column h.known h.before h.bad h.fault_is
column_fault row (a ∷ b ∷ c ∷ d ∷ f ∷ g ∷ more) fault h = absurd (omega (arith, h.all_there))

fault_packet : (row : ℕ) (fields : Fields) (fault : InputFault) → IsPacketFault row fields fault → packet_of row fields ≡ Err fault
fault_packet row fields fault (inl h) = wrong_count row fields h.0 ∙ ap (λ (t : InputFault). Err t) (sym h.1)
fault_packet row fields fault (inr h) = column_fault row fields fault h

-- a text is refused with this fault just where it is its first
pub traffic_fault : (text : List ℕ) (fault : InputFault) → traffic_of text ≡ Err fault → IsTrafficFault text fault
traffic_fault text fault e = sheet_breaks packet_of WritesPacket IsPacketFault packet_is is_packet packet_fault fault_packet traffic_header (text_rows text) fault e

pub fault_traffic : (text : List ℕ) (fault : InputFault) → IsTrafficFault text fault → traffic_of text ≡ Err fault
fault_traffic text fault h = breaks_sheet packet_of WritesPacket IsPacketFault packet_is is_packet packet_fault fault_packet traffic_header (text_rows text) fault h
