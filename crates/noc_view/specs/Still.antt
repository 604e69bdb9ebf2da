-- A router in which nothing happens: nothing comes to it, nothing is injected, and no verdict takes
-- effect (docs/MODEL.md, "Cycles without events").
use Rattle.std.specs.Prelude.{◌≡◌, ℕ, zero, suc, ◌<◌, Bool, List}
use Rattle.std.specs.List.{list_any}
use Rattle.noc_topo.specs.Lists.{map_indexed}
use Rattle.noc_route.specs.Routes.{Routes}
use Rattle.noc_view.specs.Verdict.{is_event}
use Rattle.noc_view.specs.View.{View, decisions_of, view_after_inject, counts_after, decided_verdict}
use Rattle.noc_view.specs.declared.verdict.Verdict.{Verdict}
use Rattle.noc_view.specs.declared.finding.Finding.{Finding}

-- whether a verdict takes effect
abbrev pub takes_effect : Routes → View → Bool
takes_effect relation v =
    list_any (λ (finding : Finding). is_event finding.verdict) (decisions_of relation v).findings

-- nothing is injected before this cycle
abbrev pub IsHeldBefore : ℕ → View → Type 0
IsHeldBefore end v = (n : ℕ) → n < end → view_after_inject n v ≡ record v { given = n }

-- the counts of an input channel after so many more cycles with this verdict
abbrev pub counted_times : ℕ → Verdict → List ℕ → List ℕ
counted_times zero verdict counts = counts
counted_times (suc k) verdict counts = counts_after verdict (counted_times k verdict counts)

-- a router after so many more cycles in which nothing happens, of which this is the last: its
-- verdicts are the same in each of them
unfoldable pub view_after_waiting : Routes → ℕ → ℕ → View → View
view_after_waiting relation cycles last v = record v {
  counts = map_indexed (λ i counts. counted_times cycles
      (decided_verdict (decisions_of relation v) i) counts) v.counts;
  given = last;
}
