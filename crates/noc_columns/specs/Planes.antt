-- A count of each channel, bit by bit: plane i is the set of the channels whose count has bit i.
use Rattle.std.specs.Prelude.{Bool, List, [], ◌∷◌, if◌then◌else◌}
use Rattle.noc_columns.specs.declared.planes.Planes.{Planes}

-- each plane as what f makes of it
abbrev pub planes_by : {A B : Type 0} → (A → B) → Planes A → Planes B
planes_by f planes = record {
  ones = f planes.ones;
  twos = f planes.twos;
  fours = f planes.fours;
  eights = f planes.eights;
  sixteens = f planes.sixteens;
}

-- those that a count has, from the lowest bit on
abbrev pub list_of : {A : Type 0} → Bool → Planes A → List A
list_of deep planes =
    planes.ones ∷ planes.twos ∷ planes.fours
    ∷ (if deep then planes.eights ∷ planes.sixteens ∷ [] else [])
