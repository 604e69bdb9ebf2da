use Rattle.std.proofs.Common.{◌≡◌, ℕ, ◌-◌, ◌≤◌, List, length, get_or, replicate, take, ap, ◌∙◌, arith, length-take-le}
use Rattle.std.proofs.lemmas.List.{get_or-take, length-take}
use Rattle.noc_topo.specs.Shape.{Grid, local_port}
use Rattle.noc_topo.proofs.ListLemmas.{tabulate-from_each}
use Rattle.noc_packet.specs.declared.packet.Beat.{Beat}
use Rattle.noc_view.specs.View.{idle_beat, view_after_takes}
use Rattle.noc_theory.specs.Halves.{incoming}
use Rattle.noc_theory.proofs.runs.WireLemmas.{get_or-idle}
use Rattle.noc_wires.proofs.takes.take_beats.Goals as goal

-- what came to the link ports is the first part of the beats
incoming-is : (grid : Grid) (beats : List Beat) (n : ℕ) → n ≡ local_port grid → n ≤ length beats → take n beats ≡ incoming grid beats
unfolding incoming
incoming-is grid beats n same few =
    ap (λ m. take m beats) same
    ∙ tabulate-from_each (local_port grid) (λ port. get_or beats port idle_beat) (take (local_port grid) beats) idle_beat (omega (arith, same, length-take (local_port grid) beats))
    (λ k l. get_or-take (local_port grid) beats k idle_beat l)

pub take_all-requires-clause-beats : goal.take_all-requires-clause-beats
take_all-requires-clause-beats c =
    omega (
      arith,
      length-take-le (c.ports-links.result - 1) c.args.beats.now (omega (arith, c.ports-links.ensures.few)),
      c.ports-links.ensures.local,
      ap local_port c.shape.ensures.value,
      ap local_port c.requires.router.grid,
    )

pub returns-clause-router : goal.returns-clause-router
returns-clause-router c =
    let grid = c.args.relation.now.grid in
    let links : c.ports-links.result - 1 ≡ local_port grid = omega (arith, c.ports-links.ensures.local, ap local_port c.shape.ensures.value) in
    c.take_all.ensures
    ∙ ap (λ beats. view_after_takes c.args.relation.now beats c.args.router.now)
    (incoming-is grid c.args.beats.now (c.ports-links.result - 1) links (omega (arith, c.ports-links.ensures.few)))

pub returns-clause-beats : goal.returns-clause-beats
returns-clause-beats c = λ port. ap (λ beat. get_or (replicate 6 beat) port idle_beat) c.idle-beats.ensures ∙ get_or-idle 6 port
