-- What is read of tables of labels.
use Rattle.std.proofs.Common.{◌≡◌, ◌∙◌, ℕ, ◌+◌, ◌*◌, ◌<◌, List, [], ◌∷◌, decimal, get_or, Option, Some, None, option_map, ap, ap₂, refl}
use Rattle.std.specs.Prelude.{slice_get}
use Rattle.std.proofs.lemmas.Bool.{lt-ltb}
use Rattle.std.proofs.lemmas.Option.{get_or_from_slice_get, same_Some}
use Rattle.noc_topo.specs.Shape.{Grid, ports}
use Rattle.noc_route.proofs.EntryLemmas.{flat-div, flat-mod}
use Rattle.noc_files.specs.Ports.{name_of_port}
use Rattle.noc_files.specs.Labels.{channel_name, channel_text, label_text}
use Rattle.noc_files.specs.Writing.{text_of_pieces}
use Rattle.noc_files.specs.declared.label.Label.{Label}

-- a label that is read at an index of a table has the text of the index
pub label_read : (table : List Label) (index : ℕ) (d : Label) (text : List ℕ) → option_map label_text (slice_get table index) ≡ Some text → label_text (get_or table index d) ≡ text
label_read table index d text said = by (slice_get table index) refl said
  where
    by : (o : Option Label) → slice_get table index ≡ o → option_map label_text o ≡ Some text → label_text (get_or table index d) ≡ text
    by (Some w) at e = ap label_text (get_or_from_slice_get table index w d at) ∙ same_Some (label_text w) text e
    by None at e = absurd (cc)

-- the index of a port and a virtual channel
pub text_placed : (g : Grid) (between : List ℕ) (port vc : ℕ) → vc < 8 → channel_text g 8 between (port * 8 + vc) ≡ channel_name g between port vc
text_placed g between port vc small = ap₂ (λ (a b : ℕ). channel_name g between a b) (flat-div port 8 vc small) (flat-mod port 8 vc small)

-- a channel of a port that the shape has
pub name_known : (g : Grid) (between : List ℕ) (port vc : ℕ) → port < ports g → channel_name g between port vc ≡ text_of_pieces (name_of_port g port ∷ between ∷ decimal vc ∷ [])
name_known g between port vc known = rw (lt-ltb port (ports g) known) refl
