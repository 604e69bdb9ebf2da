use Rattle.std.proofs.Common.{◌≡◌, ◌<◌, ℕ, Some, length, map}
use Rattle.std.specs.Prelude.{slice_get}
use Rattle.noc_theory.specs.Lockstep.{findings_before}
use Rattle.noc_theory.specs.Network.{size}
use Rattle.noc_files.specs.Trace.{HaveChannels}
use Rattle.noc_files.proofs.kept.keep_all.Given as goal

abbrev pub invariant-loop-router : goal.invariant-loop-router
invariant-loop-router l = record {
  many : length l.kept ≡ length l.fn.kept;
  long : HaveChannels (size l.network.net) (map (λ one. one.items) l.kept);
  found : (r : ℕ) → r < l.router → slice_get (map (λ one. one.items) l.kept) r ≡ Some (findings_before l.network.net l.network.count r);
}
