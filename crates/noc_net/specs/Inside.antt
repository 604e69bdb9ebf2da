-- Which run the fields of a network stand for, and what is true of these fields.
use Rattle.std.specs.Prelude.{◌≡◌, ◌≤◌, IfSome, None}
use Rattle.noc_theory.specs.declared.limits.TheConstants.{CYCLE_LIMIT}
use Rattle.noc_theory.specs.Network.{Run}
use Rattle.noc_net.specs.declared.network.Network.TheInside.{Inside}
use Rattle.noc_net.specs.Parts.{AreParts, setup_in}

abbrev pub run_of : Inside → Run
run_of n = record { net = setup_in n.parts; count = n.count }

-- the routers are those of the network at their own count, which is not above the network's; the
-- engine is the network at its count, and where there is none the routers are at it
pub record IsNetwork (n : Inside) : Type 0 where
  pub parts : AreParts n.parts
  pub behind : n.parts.count ≤ n.count
  pub within : n.count ≤ CYCLE_LIMIT
  pub engine : IfSome n.engine (λ e. e ≡ run_of n)
  pub routers : n.engine ≡ None → n.parts.count ≡ n.count
