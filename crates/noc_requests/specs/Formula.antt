-- Ranks by formula of the routing rule.
use Rattle.std.specs.Prelude.{◌≡◌, Some}
use Rattle.std.specs.Option.{MatchOption}
use Rattle.noc_topo.specs.Shape.{Grid}
use Rattle.noc_route.specs.Names.{rule_named}
use Rattle.noc_route.specs.declared.rule.Rule.{Rule}
use Rattle.noc_rank.specs.Formulas.{IsGenerated, IsFaultOfFormula}
use Rattle.noc_route.specs.Ranks.{Ranking}
use Rattle.noc_rank.specs.declared.fault.RankFault.{RankFault}
use Rattle.noc_rank.specs.declared.fault.RankFault.TheVariants.{NoGenerated}
use Rattle.noc_files.specs.Configuration.{Settings}

-- the ranks by formula of the rule that settings name
pub record HasRanks (s : Settings) (g : Grid) (k : Ranking) : Type 0 where
  pub routing : Rule
  pub named : rule_named s.rule ≡ Some routing
  pub generated : IsGenerated g s.channels s.classes routing k

-- why there are none: a table has none, nor has a rule that is not right here
abbrev pub IsFormulaFault : Settings → Grid → RankFault → Type 0
IsFormulaFault s g f =
    MatchOption (rule_named s.rule) (f ≡ NoGenerated)
    (λ r. IsFaultOfFormula g s.channels s.classes r f)
