-- What the columns of an engine show.
use Rattle.std.proofs.Common.{◌≡◌, subst}
use Rattle.noc_theory.specs.Network.{Run}
use Rattle.noc_engine.specs.Inside.{IsEngine, run_of}
use Rattle.noc_engine.specs.Runs.{AreFindings, ShowsRun}
use Rattle.noc_engine.specs.declared.engine.Engine.TheInside.{Inside}

module _ (e : Inside) (sound : IsEngine e) (u : Run) (is : run_of e ≡ u) where
  pub engine-shows : ShowsRun u.net u.count e.columns
  engine-shows = subst (λ (v : Run). ShowsRun v.net v.count e.columns) is sound.shows

  pub engine-found : AreFindings u.net e.columns
  engine-found = subst (λ (v : Run). AreFindings v.net e.columns) is sound.found
