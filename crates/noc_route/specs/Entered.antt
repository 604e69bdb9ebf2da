-- A rule's sets of output channels at all entries, those that no packet reaches included.
use Rattle.std.specs.Prelude.{◌≡◌, ℕ, ◌*◌, ◌/◌, ◌%◌, ◌<◌, ◌&&◌, Bool, List, nat_lt, slice_index, vec_len}
use Rattle.noc_topo.specs.Lists.{tabulate}
use Rattle.noc_topo.specs.Shape.{Grid, coordinates, three_coordinates}
use Rattle.noc_packet.specs.Set.{has_bit}
use Rattle.noc_route.specs.Relation.{RelationParts, dor_port, leads, has_route_row}
use Rattle.noc_route.specs.Routes.{Routes, width, pages, page_class, page_router, page_dst}
use Rattle.noc_route.specs.Trimming.{set_in, IsPage}
use Rattle.noc_route.specs.declared.sizes.Sizes.{Sizes}
use Rattle.noc_route.specs.declared.entered.Entered.{Entered}
use Rattle.noc_route.specs.declared.entered.Entered.TheVariants.{OfPages, OfEntries}
use Rattle.noc_route.specs.declared.rule.RouteRow.{RouteRow}
use Rattle.noc_route.specs.declared.rule.Rule.{Rule}
use Rattle.noc_steps.specs.declared.way.Way.{Way}
use Rattle.noc_route.specs.declared.fitting.FittingRule.{FittingRule}

-- a rule over these sizes
abbrev pub routing_in : Sizes → Rule → RelationParts
routing_in f rule = record { grid = f.shape; vcs = f.vcs; classes = f.classes; rule = rule }

abbrev pub parts_of : FittingRule → RelationParts
parts_of fitting = routing_in fitting.map.now.sizes fitting.rule.now

-- what is known of the way from router r to destination t
pub record IsWay (g : Grid) (way : Way) (r t : ℕ) : Type 0 where
  pub here : way.here ≡ three_coordinates (coordinates g.radix r)
  pub there : way.there ≡ three_coordinates (coordinates g.radix t)
  pub towards : way.towards ≡ dor_port g (coordinates g.radix r) (coordinates g.radix t)

-- each set has the output channels to which the rule leads
abbrev pub IsEntered : RelationParts → Routes → Type 0
IsEntered g routes =
    (m r t i k : ℕ) → IsPage routes m r t → i < width routes.grid routes.vcs
    → has_bit (set_in routes m r t i) k
    ≡ (nat_lt k (width routes.grid routes.vcs)
    && leads g m (r, i / routes.vcs) (i % routes.vcs) t (k / routes.vcs) (k % routes.vcs))

-- whether one of the rows names this input channel of a page and this output channel
abbrev pub has_row_at : Routes → List RouteRow → ℕ → ℕ → ℕ → Bool
has_row_at routes rows b i k =
    has_route_row rows (page_class routes.grid routes.classes b)
    (page_router routes.grid routes.classes b, i / routes.vcs) (i % routes.vcs)
    (page_dst routes.grid b) (k / routes.vcs) (k % routes.vcs)

-- how many sets there are
abbrev pub set_count : Entered → ℕ
set_count (OfPages sets) = vec_len sets
set_count (OfEntries sets) = vec_len sets

-- how many there are over these sizes: as many as pages, or as entries
abbrev pub set_count_over : Sizes → Entered → ℕ
set_count_over f (OfPages sets) = pages f.shape f.classes
set_count_over f (OfEntries sets) = pages f.shape f.classes * width f.shape f.vcs

abbrev pub AreAll : Sizes → Entered → Type 0
AreAll f entered = set_count entered ≡ set_count_over f entered

-- these sets as a table, with one for each entry
abbrev pub sets_in : Sizes → Entered → List ℕ
sets_in f (OfPages sets) =
    tabulate (pages f.shape f.classes * width f.shape f.vcs)
    (λ k. slice_index sets.items (k / width f.shape f.vcs))
sets_in f (OfEntries sets) = sets.items
