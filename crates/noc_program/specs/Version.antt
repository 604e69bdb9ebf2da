-- What `--version` says.
use Rattle.std.specs.Prelude.{ℕ, List, [], ◌∷◌, codes}
use Rattle.noc_files.specs.Writing.{text_of_pieces}
use Rattle.noc_cli.specs.declared.version.TheConstants.{FORMATS, KIT, VERSION}

-- the number of the program, the number of its formats, and the kit with which it
-- is proved, a line for each
abbrev pub version_text : List ℕ
version_text =
    text_of_pieces (codes "noc " ∷ VERSION.now ∷ codes "\nformats " ∷ FORMATS.now ∷ codes "\nkit "
    ∷ KIT.now ∷ codes "\n" ∷ [])
