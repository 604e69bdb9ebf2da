-- Rows of numerals and names of ports, and their faults.
use Rattle.std.specs.Prelude.{◌≡◌, ◌≢◌, ◌⊎◌, ℕ, ◌<◌, Bool, true, false, List, [], length, slice_index_or}
use Rattle.noc_topo.specs.Shape.{Grid}
use Rattle.noc_bytes.specs.declared.input_fault.InputFault.{InputFault}
use Rattle.noc_bytes.specs.declared.input_fault.InputFault.TheVariants.{BadCount, BadNumber, BadPort}
use Rattle.noc_files.specs.Ports.{IsPortName}
use Rattle.noc_files.specs.Rows.{Fields, HasNumeral}

-- a field that is the name of a port, or a numeral
abbrev pub IsField : Grid → Bool → List ℕ → Type 0
IsField g true field = (port : ℕ) × IsPortName g field port
IsField g false field = HasNumeral field

-- the fault of a field that is not
abbrev pub field_fault : Bool → ℕ → ℕ → InputFault
field_fault true row column = BadPort row column
field_fault false row column = BadNumber row column

module _ (columns : ℕ) (Holds : ℕ → List ℕ → Type 0) (fault_at : ℕ → ℕ → InputFault) where
  -- as many fields as there are columns, of which this is the first that its column may not hold
  pub record HasBadColumn (row : ℕ) (fields : Fields) (fault : InputFault) : Type 0 where
    pub all_there : length fields ≡ columns
    pub column : ℕ
    pub known : column < columns
    pub before : (k : ℕ) → k < column → Holds k (slice_index_or fields k [])
    pub bad : Holds column (slice_index_or fields column []) → ⊥
    pub fault_is : fault ≡ fault_at row column

  -- the fault of a row: another number of fields, or a field that its column may not hold
  abbrev pub IsRowFault : ℕ → Fields → InputFault → Type 0
  IsRowFault row fields fault =
      ((length fields ≢ columns) × (fault ≡ BadCount row)) ⊎ HasBadColumn row fields fault

-- the fault of a row where some columns hold names of ports and the others numerals
module _ (g : Grid) (columns : ℕ) (is_port : ℕ → Bool) where
  abbrev pub HasBadField : ℕ → Fields → InputFault → Type 0
  HasBadField row fields fault =
      HasBadColumn columns (λ k. IsField g (is_port k))
      (λ at k. field_fault (is_port k) at k) row fields fault

  abbrev pub IsFieldFault : ℕ → Fields → InputFault → Type 0
  IsFieldFault row fields fault =
      IsRowFault columns (λ k. IsField g (is_port k))
      (λ at k. field_fault (is_port k) at k) row fields fault
