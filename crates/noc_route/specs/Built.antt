-- The relation of a rule.
use Rattle.std.specs.Prelude.{◌≡◌, ℕ, ◌↔◌, true, All, None, IsTrue}
use Rattle.noc_topo.specs.Shape.{Grid}
use Rattle.noc_route.specs.Channel.{Channel}
use Rattle.noc_route.specs.Relation.{RelationParts, IsPermitted, IsNoWay, is_right, row_fault, table_rows_of}
use Rattle.noc_route.specs.Routes.{Routes, permits, IsRelation}
use Rattle.noc_route.specs.declared.rule.Entry.{Entry}
use Rattle.noc_route.specs.declared.rule.Rule.{Rule}

abbrev pub routing_of : Grid → ℕ → ℕ → Rule → RelationParts
routing_of grid vcs classes rule = record { grid = grid; vcs = vcs; classes = classes; rule = rule }

-- a rule without a fault: its numbers are right, none of its rows is bad, and it leads
-- on wherever packets come
pub record IsFaultless (g : RelationParts) : Type 0 where
  pub right : is_right g.grid g.vcs g.classes g.rule ≡ true
  pub rows : All (λ row. row_fault g.grid g.vcs g.classes row ≡ None) (table_rows_of g.rule)
  pub ways : (e : Entry) → IsNoWay g e → ⊥

-- a table permits exactly what the routing relation of a rule without a fault does, and its sets
-- are empty everywhere else
pub record IsRelationOfRule (g : RelationParts) (routes : Routes) : Type 0 where
  pub faultless : IsFaultless g
  pub grid : routes.grid ≡ g.grid
  pub vcs : routes.vcs ≡ g.vcs
  pub classes : routes.classes ≡ g.classes
  pub built : IsRelation routes
  pub exact : (m : ℕ) (c : Channel) (t : ℕ) (o : Channel)
      → IsTrue (permits routes m c t o) ↔ IsPermitted g m c t o
