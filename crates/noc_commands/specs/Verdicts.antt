-- Sets of verdicts, and the texts that name them.
use Rattle.std.specs.Prelude.{◌≡◌, ◌≢◌, ℕ, ◌==◌, Bool, false, List, [], ◌∷◌, ◌++◌, codes, slice_index_or}
use Rattle.std.specs.List.{flat_map, list_any}
use Rattle.noc_view.specs.Names.{verdict_name}
use Rattle.noc_view.specs.Verdict.{column}
use Rattle.noc_view.specs.declared.verdict.Verdict.{Verdict}
use Rattle.noc_commands.specs.declared.verdicts.VerdictSet.{VerdictSet}

-- whether a verdict is in a set
abbrev pub is_member : VerdictSet → Verdict → Bool
is_member set verdict = slice_index_or set.members (column verdict) false

-- whether a verdict is one of some
abbrev pub is_among : List Verdict → Verdict → Bool
is_among verdicts verdict = list_any (λ one. column one == column verdict) verdicts

-- the name of a verdict, with a comma behind it
abbrev pub name_and_comma : Verdict → List ℕ
name_and_comma verdict = verdict_name verdict ++ codes ","

-- the names of some verdicts and of a last one, with a comma between
abbrev pub names_text : List Verdict → Verdict → List ℕ
names_text first last = flat_map name_and_comma first ++ verdict_name last

-- a text names the verdicts of a set, and no other
abbrev pub Names : List ℕ → VerdictSet → Type 0
Names text set =
    (first : List Verdict) × (last : Verdict) × (text ≡ names_text first last)
    × ((verdict : Verdict) → is_member set verdict ≡ is_among (first ++ last ∷ []) verdict)

-- a text is not made of names of verdicts with a comma between
abbrev pub NamesNone : List ℕ → Type 0
NamesNone text = (first : List Verdict) (last : Verdict) → text ≢ names_text first last
