-- The output channels by which packets leave each router, by class and destination: how they are
-- found, the routers farthest from the destination first.
use Rattle.std.specs.Prelude.{◌≡◌, ℕ, ◌*◌, ◌<◌, ◌≤◌, List, length, replicate}
use Rattle.noc_topo.specs.Shape.{distance}
use Rattle.noc_route.specs.Routes.{Routes, width, pages}
use Rattle.noc_route.specs.Trimming.{IsPage, IsSoundOut, IsFullOut}
use Rattle.noc_route.specs.declared.sizes.Sizes.{Sizes}

-- a table over these numbers without members
abbrev pub IsBlank : Sizes → List ℕ → Type 0
IsBlank f sets = sets ≡ replicate (pages f.shape f.classes * width f.shape f.vcs) 0

-- one list of channels for each router, class and destination, and packets leave by each of them
pub record AreOuts (routes : Routes) (outs : List ℕ) : Type 0 where
  pub long : length outs ≡ pages routes.grid routes.classes
  pub sound : IsSoundOut routes outs

-- the lists of the routers as far from the destination, or farther, are full
pub record AreOutsFrom (routes : Routes) (apart : ℕ) (outs : List ℕ) : Type 0 where
  pub lists : AreOuts routes outs
  pub full : (m r t : ℕ) → IsPage routes m r t → apart ≤ distance routes.grid r t
      → IsFullOut routes outs m r t

-- so are those of the routers farther from t than r
abbrev pub FartherFull : Routes → List ℕ → ℕ → ℕ → Type 0
FartherFull routes outs r t =
    (m u : ℕ) → IsPage routes m u t → distance routes.grid r t < distance routes.grid u t
    → IsFullOut routes outs m u t

-- the lists of router r for destination t are full, of the classes below this one, and those
-- that were full still are
pub record IsPairDone (routes : Routes) (before outs : List ℕ) (r t class : ℕ) : Type 0 where
  pub lists : AreOuts routes outs
  pub done : (m : ℕ) → m < class → IsPage routes m r t → IsFullOut routes outs m r t
  pub kept : (m u d : ℕ) → IsPage routes m u d → IsFullOut routes before m u d
      → IsFullOut routes outs m u d
