-- Ranks by formula.
use Rattle.std.specs.Prelude.{◌≡◌, ℕ, ◌+◌, ◌-◌, ◌*◌, ◌/◌, Bool, true, false, ◌&&◌, not, Option, Some, None, nat_eq, slice_index, if◌then◌else◌}
use Rattle.noc_topo.specs.Shape.{Grid, coordinates, is_plus}
use Rattle.noc_route.specs.Relation.{is_right, resource_class, index_in_class, is_escape}
use Rattle.noc_route.specs.declared.rule.Rule.{Rule}
use Rattle.noc_route.specs.declared.rule.Rule.TheVariants.{Dor, Dateline, WestFirst, Adaptive, Rows}
use Rattle.noc_rank.specs.declared.fault.RankFault.{RankFault}
use Rattle.noc_rank.specs.declared.fault.RankFault.TheVariants.{NoGenerated, Memory}
use Rattle.noc_route.specs.Ranks.{Ranking, is_channel, rank_at}
use Rattle.noc_rank.specs.Ranking.{IsRanking}

-- whether a relation of this rule can be made, and the rule has ranks by formula: dimension order
-- on a mesh alone, a table never
abbrev pub has_ranks : Grid → ℕ → ℕ → Rule → Bool
has_ranks g vcs classes rule = is_right g vcs classes rule && (elim rule [
  | Dor ↦ not g.wraps
  | Dateline ↦ true
  | WestFirst ↦ true
  | Adaptive ↦ true
  | Rows rows ↦ false
])

-- how many routers lie behind coordinate x of a dimension of size k, seen along this port
abbrev pub passed_in : ℕ → ℕ → ℕ → ℕ
passed_in k x port = if is_plus port then x else k - 1 - x

-- how many routers lie behind a router, seen along this port
abbrev pub hops_passed : Grid → ℕ → ℕ → ℕ
hops_passed g r p =
    passed_in (slice_index g.radix (p / 2)) (slice_index (coordinates g.radix r) (p / 2)) p

-- the ports down dimension 0 first; then column by column, up and down dimension 1
-- before the port up dimension 0
abbrev pub west_first_rank : Grid → ℕ → ℕ → ℕ
west_first_rank g r p =
    let columns = slice_index g.radix 0 in
    let rows = slice_index g.radix 1 in
    let x = slice_index (coordinates g.radix r) 0 in
    if nat_eq p 1 then columns - x
    else (if nat_eq p 0 then columns + x * (rows + 1) + rows + 1
    else columns + x * (rows + 1) + hops_passed g r p + 1)

-- the rank of a link channel by a rule: dimension by dimension, and along each port in the order of
-- its links. By dateline the low half of the channels comes before the high half, and by adaptive
-- the low escape channel before the high one
abbrev pub formula : Grid → ℕ → ℕ → Rule → ℕ → ℕ → ℕ → ℕ
formula g vcs classes Dateline r p v =
    32 * (p / 2) + resource_class vcs classes v * slice_index g.radix (p / 2) + hops_passed g r p
    + 1
formula g vcs classes WestFirst r p v = west_first_rank g r p
formula g vcs classes Adaptive r p v =
    32 * (p / 2) + index_in_class vcs classes v * slice_index g.radix (p / 2) + hops_passed g r p
    + 1
formula g vcs classes _ r p v = 32 * (p / 2) + hops_passed g r p + 1

-- whether a rule gives this channel of a link a rank: all, but the adaptive ones
abbrev pub is_ranked : Grid → ℕ → ℕ → Rule → ℕ → Bool
is_ranked g vcs classes Adaptive v = is_escape g vcs classes v
is_ranked g vcs classes _ v = true

-- the rank by formula of a channel of any link port; none where the port has no link
-- or the channel is adaptive
abbrev pub formula_at : Grid → ℕ → ℕ → Rule → ℕ → ℕ → ℕ → Option ℕ
formula_at g vcs classes rule r p v =
    if is_channel g vcs r p v && is_ranked g vcs classes rule v
    then Some (formula g vcs classes rule r p v) else None

-- the ranks by formula of a rule that has them
pub record IsGenerated (g : Grid) (vcs classes : ℕ) (rule : Rule) (k : Ranking) : Type 0 where
  pub ruled : has_ranks g vcs classes rule ≡ true
  pub grid : k.grid ≡ g
  pub vcs_are : k.vcs ≡ vcs
  pub ranking : IsRanking k
  pub ranks : (r p v : ℕ) → rank_at k r p v ≡ formula_at g vcs classes rule r p v

-- why there are none: the rule has none, or memory was refused though it has
abbrev pub IsFaultOfFormula : Grid → ℕ → ℕ → Rule → RankFault → Type 0
IsFaultOfFormula g vcs classes rule NoGenerated = has_ranks g vcs classes rule ≡ false
IsFaultOfFormula g vcs classes rule Memory = has_ranks g vcs classes rule ≡ true
IsFaultOfFormula g vcs classes rule _ = ⊥
