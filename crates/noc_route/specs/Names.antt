-- Rules by their names.
use Rattle.std.specs.Prelude.{ℕ, List, [], ◌∷◌, codes, find, Option, Some, None}
use Rattle.std.specs.Str.{bytes_eq}
use Rattle.noc_route.specs.declared.rule.RuleName.{RuleName}
use Rattle.noc_route.specs.declared.rule.RuleName.TheVariants as name
use Rattle.noc_route.specs.declared.rule.Rule.{Rule}
use Rattle.noc_route.specs.declared.rule.Rule.TheVariants as rule

abbrev pub rule_names : List RuleName
rule_names = name.Dor ∷ name.Dateline ∷ name.WestFirst ∷ name.Adaptive ∷ name.Table ∷ []

-- the name of a rule
abbrev pub rule_name : RuleName → List ℕ
rule_name name.Dor = codes "dor"
rule_name name.Dateline = codes "dateline"
rule_name name.WestFirst = codes "west-first"
rule_name name.Adaptive = codes "adaptive"
rule_name name.Table = codes "table"

-- the rule of this name, if there is one
abbrev pub rule_of : List ℕ → Option RuleName
rule_of text = find (λ r. bytes_eq text (rule_name r)) rule_names

-- the rule of a name, but for `table`, whose rows stand elsewhere
abbrev pub rule_named : RuleName → Option Rule
rule_named name.Dor = Some rule.Dor
rule_named name.Dateline = Some rule.Dateline
rule_named name.WestFirst = Some rule.WestFirst
rule_named name.Adaptive = Some rule.Adaptive
rule_named name.Table = None
