-- Which run an engine stands for, and what is true of its columns.
use Rattle.noc_theory.specs.Network.{Run}
use Rattle.noc_engine.specs.Origins.{net_in}
use Rattle.noc_engine.specs.Runs.{AreFindings, ShowsRun}
use Rattle.noc_engine.specs.declared.engine.Engine.TheInside.{Inside}

abbrev pub run_of : Inside → Run
run_of e = record { net = net_in e.columns.origin; count = e.columns.tile.cycle }

-- they show it, and have what the routers found in the last cycle
pub record IsEngine (e : Inside) : Type 0 where
  pub shows : ShowsRun (net_in e.columns.origin) e.columns.tile.cycle e.columns
  pub found : AreFindings (net_in e.columns.origin) e.columns
