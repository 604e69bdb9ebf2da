-- The list of the ranks by a formula, channel by channel.
use Rattle.std.specs.Prelude.{◌≡◌, ℕ, ◌/◌, ◌%◌, ◌<◌, ◌≤◌, List, Option, None, IfSome, length, slice_index_or}
use Rattle.noc_topo.specs.Shape.{local_port}
use Rattle.noc_route.specs.Relation.{resource_class, index_in_class}
use Rattle.noc_route.specs.declared.rule.Rule.{Rule}
use Rattle.noc_route.specs.declared.rule.Rule.TheVariants.{Dateline, Adaptive}
use Rattle.noc_rank.specs.declared.generated.Formula.{Formula}
use Rattle.noc_rank.specs.declared.generated.TheConstants.{HIGHEST}
use Rattle.noc_rank.specs.Formulas.{formula_at}

abbrev pub IsWithin : ℕ → Type 0
IsWithin n = (1 ≤ n) × (n ≤ HIGHEST)

-- the rank of a channel of a link port
abbrev pub rank_in : Formula → ℕ → ℕ → ℕ → Option ℕ
rank_in f r p v = formula_at f.shape.now f.vcs f.classes f.rule.now r p v

-- the part of a dimension's channels in which a channel is: by dateline the half of its class's
-- channels, by adaptive the escape channel
abbrev pub part_by : ℕ → ℕ → Rule → ℕ → ℕ
part_by vcs classes Dateline v = resource_class vcs classes v
part_by vcs classes Adaptive v = index_in_class vcs classes v
part_by vcs classes _ v = 0

abbrev pub part_in : Formula → ℕ → ℕ
part_in f v = part_by f.vcs f.classes f.rule.now v

-- the ranks of the first n channels
pub record AreByFormula (f : Formula) (n : ℕ) (ranks : List (Option ℕ)) : Type 0 where
  pub long : length ranks ≡ n
  pub items : (k : ℕ) → k < n
      → slice_index_or ranks k None
      ≡ rank_in f (k / f.vcs / local_port f.shape.now) (k / f.vcs % local_port f.shape.now)
      (k % f.vcs)
  pub within : (k : ℕ) → k < n → IfSome (slice_index_or ranks k None) IsWithin
