-- The entries that packets reach under a table of sets, and how they are found.
use Rattle.std.specs.Prelude.{◌≡◌, ◌≢◌, ℕ, ◌+◌, ◌*◌, ◌/◌, ◌%◌, ◌<◌, Bool, true, false, ◌&&◌, not, List, Option, Some, None, nat_eq, slice_index, if◌then◌else◌, ◌⊎◌}
use Rattle.noc_topo.specs.Lists.{tabulate}
use Rattle.noc_topo.specs.Shape.{nodes, local_port, neighbour, distance}
use Rattle.noc_packet.specs.Set.{has_bit}
use Rattle.noc_route.specs.Routes.{Routes, width, page_of, pages, page_class, page_router, page_dst}
use Rattle.noc_route.specs.Order.{numbers_before, entry_numbers}
use Rattle.noc_route.specs.declared.rule.Entry.{Entry}
use Rattle.noc_route.specs.declared.sizes.Sizes.{Sizes}

-- a table over these sizes
abbrev pub routes_in : Sizes → List ℕ → Routes
routes_in f sets = record { grid = f.shape; vcs = f.vcs; classes = f.classes; sets = sets }

-- the set at an input channel, by its index, of a router, a class and a destination that exist
abbrev pub set_in : Routes → ℕ → ℕ → ℕ → ℕ → ℕ
set_in routes m r t i =
    slice_index routes.sets
    (page_of routes.grid routes.classes m r t * width routes.grid routes.vcs + i)

-- a class, a router and a destination that exist
pub record IsPage (routes : Routes) (m r t : ℕ) : Type 0 where
  pub class : m < routes.classes
  pub router : r < nodes routes.grid
  pub dst : t < nodes routes.grid

-- packets of class m, bound for t, can come to router r on input channel i. This is the least
-- set with each injection channel away from the destination, and with each channel to which the
-- table leads from one of them
pub data CanCome (routes : Routes) (m t : ℕ) : ℕ → ℕ → Type 0 where
  injected : {r i v : ℕ} → IsPage routes m r t → t ≢ r → v < routes.vcs
      → i ≡ local_port routes.grid * routes.vcs + v → CanCome routes m t r i
  led : {r i k b q j : ℕ} → CanCome routes m t r i → k < width routes.grid routes.vcs
      → has_bit (set_in routes m r t i) k ≡ true
      → neighbour routes.grid r (k / routes.vcs) ≡ Some (b, q) → j ≡ q * routes.vcs + k % routes.vcs
      → CanCome routes m t b j

-- each link of the table comes nearer to the destination
abbrev pub ComesNearer : Routes → Type 0
ComesNearer routes =
    (m r t i k b q : ℕ) → IsPage routes m r t → i < width routes.grid routes.vcs
    → k < width routes.grid routes.vcs
    → has_bit (set_in routes m r t i) k ≡ true
    → neighbour routes.grid r (k / routes.vcs) ≡ Some (b, q)
    → distance routes.grid b t < distance routes.grid r t

-- packets leave by output channel k
pub record CanLeave (routes : Routes) (m r t k : ℕ) : Type 0 where
  pub input : ℕ
  pub within : input < width routes.grid routes.vcs
  pub come : CanCome routes m t r input
  pub taken : has_bit (set_in routes m r t input) k ≡ true

-- ---- lists of the channels by which packets leave, by router, class and destination

-- whether packets come to input channel i, by the channels that leave the routers before it
abbrev pub comes_in : Routes → List ℕ → ℕ → ℕ → ℕ → ℕ → Bool
comes_in routes outs m r t i =
    if nat_eq (i / routes.vcs) (local_port routes.grid)
    then not (nat_eq r t)
    else (elim (neighbour routes.grid r (i / routes.vcs)) [
      | None ↦ false
      | Some from ↦ has_bit (slice_index outs (page_of routes.grid routes.classes m from.0 t))
          (from.1 * routes.vcs + i % routes.vcs)
    ])

-- each channel of the lists is one by which packets leave
abbrev pub IsSoundOut : Routes → List ℕ → Type 0
IsSoundOut routes outs =
    (m r t k : ℕ) → IsPage routes m r t → k < width routes.grid routes.vcs
    → has_bit (slice_index outs (page_of routes.grid routes.classes m r t)) k ≡ true
    → CanLeave routes m r t k

-- each channel by which packets leave a router is in its list
abbrev pub IsFullOut : Routes → List ℕ → ℕ → ℕ → ℕ → Type 0
IsFullOut routes outs m r t =
    (k : ℕ) → k < width routes.grid routes.vcs → CanLeave routes m r t k
    → has_bit (slice_index outs (page_of routes.grid routes.classes m r t)) k ≡ true

-- ---- taking out what packets do not come to, by pages

-- the set at an input channel of a page
abbrev pub page_set : Routes → ℕ → ℕ → ℕ
page_set routes b i = slice_index routes.sets (b * width routes.grid routes.vcs + i)

-- whether packets come to it, by the lists of channels that leave
abbrev pub comes_at : Routes → List ℕ → ℕ → ℕ → Bool
comes_at routes outs b i =
    comes_in routes outs (page_class routes.grid routes.classes b)
    (page_router routes.grid routes.classes b) (page_dst routes.grid b) i

-- sets of the input channels to which packets come, by destination, of the router and the class
-- with this number
abbrev pub AreComing : Sizes → List ℕ → ℕ → List ℕ → Type 0
AreComing f outs pair coming =
    (sets : List ℕ) (t i : ℕ) → t < nodes f.shape → i < width f.shape f.vcs
    → has_bit (slice_index coming t) i
    ≡ comes_at (routes_in f sets) outs (pair * nodes f.shape + t) i

-- the set at an input channel, where these say that packets come to it
abbrev pub reached_at : Sizes → List ℕ → List ℕ → ℕ → ℕ → ℕ → ℕ
reached_at f sets coming pair i t =
    if has_bit (slice_index coming t) i
    then page_set (routes_in f sets) (pair * nodes f.shape + t) i else 0

-- the set that is left there
abbrev pub left_at : Routes → List ℕ → ℕ → ℕ → ℕ
left_at routes outs b i = if comes_at routes outs b i then page_set routes b i else 0

-- the table that is left
abbrev pub left_in : Sizes → List ℕ → List ℕ → List ℕ
left_in f sets outs =
    let w = width f.shape f.vcs in
    tabulate (pages f.shape f.classes * w) (λ k. left_at (routes_in f sets) outs (k / w) (k % w))

-- packets come to it and nothing is permitted
abbrev pub is_stuck_at : Routes → List ℕ → ℕ → ℕ → Bool
is_stuck_at routes outs b i = comes_at routes outs b i && nat_eq (page_set routes b i) 0

abbrev pub entry_on_page : Routes → ℕ → ℕ → Entry
entry_on_page routes b i = record {
  class = page_class routes.grid routes.classes b;
  router = page_router routes.grid routes.classes b;
  in_port = i / routes.vcs;
  in_vc = i % routes.vcs;
  dst = page_dst routes.grid b;
}

-- whether an entry does not come before another, if packets are stuck at it
abbrev pub IsNoEarlier : Routes → List ℕ → ℕ → ℕ → Entry → Type 0
IsNoEarlier routes outs b i e =
    (is_stuck_at routes outs b i ≡ false)
    ⊎ (numbers_before (entry_numbers (entry_on_page routes b i)) (entry_numbers e) ≡ false)

-- the first entry at which packets are stuck, among the first n entries of the table
pub record IsStuckFirst (routes : Routes) (outs : List ℕ) (n : ℕ) (e : Entry) : Type 0 where
  pub page : ℕ
  pub input : ℕ
  pub exists : page < pages routes.grid routes.classes
  pub within : input < width routes.grid routes.vcs
  pub entry : e ≡ entry_on_page routes page input
  pub stuck : is_stuck_at routes outs page input ≡ true
  pub first : (b i : ℕ) → b < pages routes.grid routes.classes → i < width routes.grid routes.vcs
      → b * width routes.grid routes.vcs + i < n → IsNoEarlier routes outs b i e

-- the same, or that there is none
abbrev pub IsFirstStuck : Routes → List ℕ → ℕ → Option Entry → Type 0
IsFirstStuck routes outs n None =
    (b i : ℕ) → b < pages routes.grid routes.classes → i < width routes.grid routes.vcs
    → b * width routes.grid routes.vcs + i < n → is_stuck_at routes outs b i ≡ false
IsFirstStuck routes outs n (Some e) = IsStuckFirst routes outs n e

-- the same of the table that is left
abbrev pub IsFirstLeft : Sizes → List ℕ → List ℕ → ℕ → Option Entry → Type 0
IsFirstLeft f sets outs n first = IsFirstStuck (routes_in f (left_in f sets outs)) outs n first
