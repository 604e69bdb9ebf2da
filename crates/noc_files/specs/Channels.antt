-- The input channels of a network, in the order of its reports.
use Rattle.std.specs.Prelude.{◌≡◌, ℕ, ◌+◌, ◌*◌, ◌<◌, ◌==◌, Bool, ◌||◌, List, [], Option, Some, None, is_some, slice_get, unwrap_or, if◌then◌else◌}
use Rattle.std.specs.List.{flat_map}
use Rattle.noc_topo.specs.Shape.{Grid, local_port, neighbour, nodes, ports}
use Rattle.noc_topo.specs.Lists.{below}
use Rattle.noc_packet.specs.declared.limits.TheConstants.{MAX_PORTS}
use Rattle.noc_route.specs.Routes.{Routes}

-- an input port is local or has a link
abbrev pub is_input : Grid → ℕ → ℕ → Bool
is_input g router port = port == local_port g || is_some (neighbour g router port)

-- a table says of each router and port, MAX_PORTS entries to a router, whether it is an input port
abbrev pub AreInputs : Grid → List Bool → Type 0
AreInputs g table =
    (router port : ℕ) → router < nodes g → port < ports g
    → slice_get table (router * MAX_PORTS + port) ≡ Some (is_input g router port)

module _ {X : Type 0} (g : Grid) where
  -- what is said of the channels of an input port, one after the other
  abbrev pub lines_of_port : ℕ → ℕ → (ℕ → ℕ → List X) → ℕ → List X
  lines_of_port vcs router said port =
      if is_input g router port then flat_map (said port) (below vcs) else []

  -- what is said of the input channels of a router, port by port over so many of its ports
  abbrev pub lines_of_router : ℕ → ℕ → ℕ → (ℕ → ℕ → List X) → List X
  lines_of_router listed vcs router said = flat_map (lines_of_port vcs router said) (below listed)

  -- what is said of the input channels of all routers, router by router
  abbrev pub lines_of_routers : ℕ → ℕ → (ℕ → ℕ → ℕ → List X) → List X
  lines_of_routers listed vcs said =
      flat_map (λ router. lines_of_router listed vcs router (said router)) (below (nodes g))

  -- what is said of those of one router or of all
  abbrev pub lines_listed : ℕ → ℕ → Option ℕ → (ℕ → ℕ → ℕ → List X) → List X
  lines_listed listed vcs None said = lines_of_routers listed vcs said
  lines_listed listed vcs (Some router) said = lines_of_router listed vcs router (said router)

-- how many pages they take, one for each router, and the router of a page
abbrev pub router_pages : Grid → Option ℕ → ℕ
router_pages g None = nodes g
router_pages g (Some router) = 1

abbrev pub page_router : Option ℕ → ℕ → ℕ
page_router router page = unwrap_or router page

-- what is said of the input channels of an input port, of a router and of all routers of a relation
abbrev pub over_port : {X : Type 0} → Routes → ℕ → (ℕ → ℕ → List X) → ℕ → List X
over_port relation router said port = lines_of_port relation.grid relation.vcs router said port

abbrev pub over_router : {X : Type 0} → Routes → ℕ → (ℕ → ℕ → List X) → List X
over_router relation router said =
    lines_of_router relation.grid (ports relation.grid) relation.vcs router said

abbrev pub over_routers : {X : Type 0} → Routes → (ℕ → ℕ → ℕ → List X) → List X
over_routers relation said = lines_of_routers relation.grid (ports relation.grid) relation.vcs said
