use Rattle.std.proofs.Common.{◌≡◌, drop}
use Rattle.toml.specs.View.{items_view}
use Rattle.noc_files.specs.Configuration.{lengths_of}
use Rattle.noc_files.proofs.KeyLemmas.{after}
use Rattle.noc_files.proofs.configuration.lengths.Given as goal

abbrev pub invariant-loop-value : goal.invariant-loop-value
invariant-loop-value l = after l.lengths.items (lengths_of (items_view (drop l.value-index l.values))) ≡ lengths_of (items_view l.values)
