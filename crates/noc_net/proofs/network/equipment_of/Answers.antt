use Rattle.std.proofs.Common.{◌≡◌, List, get_or, replicate, ap, ◌∙◌, arith, rules}
use Rattle.std.proofs.lemmas.List.{get_or-replicate}
use Rattle.noc_packet.specs.declared.packet.Beat.{Beat}
use Rattle.noc_view.specs.View.{idle_beat}
use Rattle.noc_theory.proofs.runs.WireLemmas.{get_or-idle}
use Rattle.noc_net.proofs.network.equipment_of.Goals as goal

pub returns-clause-routers : goal.returns-clause-routers
returns-clause-routers c = c.in_ok-routers.ensures

pub returns-clause-idle : goal.returns-clause-idle
returns-clause-idle c = λ k d l port.
    let items : c.in_ok-beats.beats.items ≡ replicate c.nodes-nodes.result (replicate 6 c.idle.result) = c.in_ok-beats.ensures.items_if_clones_equal (λ y e. search rules) in
    ap (λ (rows : List (List Beat)). get_or (get_or rows k d) port idle_beat) items
    ∙ ap (λ (row : List Beat). get_or row port idle_beat) (get_or-replicate c.nodes-nodes.result k (replicate 6 c.idle.result) d (omega (arith, l, c.in_ok-beats.ensures.len, c.in_ok-beats.beats.ok.0)))
    ∙ ap (λ (beat : Beat). get_or (replicate 6 beat) port idle_beat) c.idle.ensures
    ∙ get_or-idle 6 port
