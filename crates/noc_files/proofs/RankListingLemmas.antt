-- The lines of a file of ranks.
use Rattle.std.proofs.Common.{◌≡◌, ℕ, ◌<◌, ◌==◌, Bool, true, false, arith, List, [], ◌∷◌, ◌++◌, flat_map, decimal, refl, ap, ◌∙◌, append_assoc, append-nil}
use Rattle.std.proofs.lemmas.Bool.Decides.{nat_tests}
use Rattle.std.proofs.lemmas.Grind.{flat_map-append}
use Rattle.std.proofs.lemmas.List.Folds.{flat_map-map}
use Rattle.std.specs.Prelude.{is_some}
use Rattle.noc_route.specs.Ranks.{Ranking}
use Rattle.noc_rank.specs.declared.rows.RankRow.{RankRow}
use Rattle.noc_topo.specs.Shape.{Grid, local_port, neighbour, nodes}
use Rattle.noc_topo.specs.Lists.{below}
use Rattle.noc_files.specs.Channels.{lines_of_port, lines_of_router, lines_of_routers}
use Rattle.noc_files.specs.Ports.{name_of_port}
use Rattle.noc_files.specs.Ranks.{port_rows, rank_line, rank_row, rank_rows, rank_text, router_rows}
use Rattle.noc_files.specs.Writing.{comma, line_end}
use Rattle.noc_files.proofs.BelowLemmas.{each_same}

pub nested : {X Y Z : Type 0} (f : Y → List Z) (h : X → List Y) (xs : List X) → flat_map f (flat_map h xs) ≡ flat_map (λ x. flat_map f (h x)) xs
nested f h [] = refl
nested {Z = Z} f h (x ∷ xs) = flat_map-append f (h x) (flat_map h xs) ∙ ap (λ (t : List Z). flat_map f (h x) ++ t) (nested f h xs)

pieces_of_row : (page a b v k c e : List ℕ) → page ++ a ++ c ++ b ++ c ++ v ++ c ++ k ++ e ≡ page ++ ((a ++ ((c ++ b) ++ ((c ++ v) ++ ((c ++ k) ++ [])))) ++ e)
pieces_of_row page a b v k c e = simp (append_assoc, append-nil)

-- a line that is added piece by piece
pub line_is : (page : List ℕ) (g : Grid) (r : RankRow) → page ++ decimal r.router ++ comma ++ name_of_port g r.port ++ comma ++ decimal r.vc ++ comma ++ rank_text r.rank ++ line_end ≡ page ++ rank_line g r
unfolding rank_line
line_is page g r = pieces_of_row page (decimal r.router) (name_of_port g r.port) (decimal r.vc) (rank_text r.rank) comma line_end

-- the lines of a port
port_lines : (k : Ranking) (router port : ℕ) → port < local_port k.grid
    → flat_map (rank_line k.grid) (port_rows k router port) ≡ lines_of_port k.grid k.vcs router (λ p vc. rank_line k.grid (rank_row k router p vc)) port
unfolding port_rows
port_lines k router port known = by (is_some (neighbour k.grid router port)) refl
  where
    not_local : (port == local_port k.grid) ≡ false
    not_local = grind (arith, nat_tests)

    by : (b : Bool) → is_some (neighbour k.grid router port) ≡ b → flat_map (rank_line k.grid) (port_rows k router port) ≡ lines_of_port k.grid k.vcs router (λ p vc. rank_line k.grid (rank_row k router p vc)) port
    by true link = rw (link, not_local) (flat_map-map (rank_line k.grid) (rank_row k router port) (below k.vcs))
    by false border = rw (border, not_local) refl

router_lines : (k : Ranking) (router : ℕ) → flat_map (rank_line k.grid) (router_rows k router) ≡ lines_of_router k.grid (local_port k.grid) k.vcs router (λ port vc. rank_line k.grid (rank_row k router port vc))
unfolding router_rows
router_lines k router =
    nested (rank_line k.grid) (port_rows k router) (below (local_port k.grid))
    ∙ each_same (λ port. flat_map (rank_line k.grid) (port_rows k router port)) (lines_of_port k.grid k.vcs router (λ port vc. rank_line k.grid (rank_row k router port vc))) (local_port k.grid) (port_lines k router)

-- the lines of all link channels
pub all_lines : (k : Ranking) → flat_map (rank_line k.grid) (rank_rows k) ≡ lines_of_routers k.grid (local_port k.grid) k.vcs (λ router port vc. rank_line k.grid (rank_row k router port vc))
unfolding rank_rows
all_lines k =
    nested (rank_line k.grid) (router_rows k) (below (nodes k.grid))
    ∙ each_same (λ router. flat_map (rank_line k.grid) (router_rows k router)) (λ router. lines_of_router k.grid (local_port k.grid) k.vcs router (λ port vc. rank_line k.grid (rank_row k router port vc))) (nodes k.grid) (λ router known. router_lines k router)
