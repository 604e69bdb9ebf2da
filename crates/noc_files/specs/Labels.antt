-- Short texts of a fixed size, and tables of them.
use Rattle.std.specs.Prelude.{◌≡◌, ℕ, ◌/◌, ◌%◌, ◌<◌, List, [], ◌∷◌, ◌++◌, codes, decimal, length, option_map, slice_get, take, unwrap_or, Some}
use Rattle.noc_topo.specs.Shape.{Grid}
use Rattle.noc_route.specs.Routes.{Routes}
use Rattle.noc_view.specs.Names.{verdict_name}
use Rattle.noc_view.specs.Verdict.{column}
use Rattle.noc_view.specs.declared.verdict.Verdict.{Verdict}
use Rattle.noc_files.specs.Ports.{port_text}
use Rattle.noc_files.specs.Writing.{comma, text_of_pieces}
use Rattle.noc_files.specs.declared.label.Label.{Label}
use Rattle.noc_files.specs.declared.labels.Labels.{Labels}

-- the bytes of a label
abbrev pub label_text : Label → List ℕ
label_text w = take w.length w.bytes

-- each label of a table of 56 has this text
pub record HasTexts (text : ℕ → List ℕ) (table : List Label) : Type 0 where
  pub long : length table ≡ 56
  pub said : (index : ℕ) → index < 56
      → option_map label_text (slice_get table index) ≡ Some (text index)

-- a channel by its port and its VC, with a text between
abbrev pub channel_name : Grid → List ℕ → ℕ → ℕ → List ℕ
channel_name g between port vc =
    text_of_pieces (unwrap_or (port_text g port) (codes "-") ∷ between ∷ decimal vc ∷ [])

-- that of an index of a table, so many indices to a port
abbrev pub channel_text : Grid → ℕ → List ℕ → ℕ → List ℕ
channel_text g width between index = channel_name g between (index / width) (index % width)

-- the label of each verdict is its name between two commas
abbrev pub AreNames : List Label → Type 0
AreNames labels = (verdict : Verdict)
    → option_map label_text (slice_get labels (column verdict))
    ≡ Some (comma ++ verdict_name verdict ++ comma)

-- the labels that are the same in many lines on the channels of a relation
pub record AreLabels (relation : Routes) (labels : Labels) : Type 0 where
  pub inputs : HasTexts (channel_text relation.grid 8 comma) labels.inputs
  pub outputs : HasTexts (channel_text relation.grid 8 (codes ".")) labels.outputs
  pub channels : HasTexts (channel_text relation.grid relation.vcs (codes ".")) labels.channels
  pub verdicts : AreNames labels.verdicts
