use Rattle.std.proofs.Common.{◌≡◌, ◌≢◌, ℕ, ◌<◌, List, [], length, get_or, set, ap, sym, ◌∙◌, subst, ⊎_elim, arith, rules, refl}
use Rattle.std.proofs.lemmas.Bool.{cases_eq}
use Rattle.std.proofs.lemmas.List.{get_or-set_other, get_or-set_same, length-set}
use Rattle.noc_topo.specs.Shape.{Grid, IsGrid, local_port, neighbour}
use Rattle.noc_packet.specs.declared.packet.Beat.{Beat}
use Rattle.noc_view.specs.View.{Site, View, view_after_put, beat_to_put, idle_beat}
use Rattle.noc_theory.specs.Halves.{beat_at, sent_on}
use Rattle.noc_theory.proofs.runs.WireLemmas.{all-put, link_within, received-first, received-last, received_more, received_to, rows_kept}
use Rattle.noc_wires.proofs.delivers.deliver.Goals as goal

pub loop-port-init : goal.loop-port-init
loop-port-init c = record {
  router = refl;
  count = c.requires.router.beats;
  put = λ k l. absurd (omega arith);
  left = λ k l. refl;
  beats = λ r port l. received-first c.args.router.now (neighbour c.args.relation.now.grid r port) (beat_at c.args.beats.now r port);
  rows = λ i l. search rules;
}

pub put-beat-requires : goal.put-beat-requires
put-beat-requires c =
    let grid = ap local_port c.requires.router.built_for.grid in
    let same = ap (λ (v : View). local_port v.site.grid) c.loop-port.invariant.router in
    omega (arith, grid, same, c.loop-port-test.true, ap local_port c.shape.ensures.value, c.ports-links.ensures.value)

pub neighbour-requires : goal.neighbour-requires
neighbour-requires c =
    let grid = ap local_port c.requires.router.built_for.grid in
    let same = ap (λ (v : View). local_port v.site.grid) (c.put-beat.ensures.view ∙ ap (view_after_put c.loop-port.port) c.loop-port.invariant.router) in
    omega (arith, grid, same, c.loop-port-test.true, ap local_port c.shape.ensures.value, c.ports-links.ensures.value)

pub send-requires-clause-few : goal.send-requires-clause-few
send-requires-clause-few c =
    let sound : IsGrid c.args.relation.now.grid = subst IsGrid c.shape.ensures.value c.ports-links.ensures.grid in
    omega (arith, c.requires.count, c.loop-port.auto.beats, sound.few_nodes)

pub send-requires-clause-within : goal.send-requires-clause-within
send-requires-clause-within c =
    let sound : IsGrid c.args.relation.now.grid = subst IsGrid c.shape.ensures.value c.ports-links.ensures.grid in
    let site : c.put-beat.new.self.site ≡ c.args.router.now.site = ap (λ (v : View). v.site) c.put-beat.ensures.view ∙ ap (λ (v : View). v.site) c.loop-port.invariant.router in
    let to : neighbour c.args.relation.now.grid c.args.router.now.site.node c.loop-port.port ≡ c.neighbour.result =
    ap (λ (g : Grid). neighbour g c.args.router.now.site.node c.loop-port.port) c.requires.router.built_for.grid
    ∙ sym (c.neighbour.ensures ∙ ap (λ (s : Site). neighbour s.grid s.node c.loop-port.port) site) in
    link_within c.args.relation.now.grid sound c.args.router.now.site.node c.loop-port.port (length c.loop-port.beats) c.requires.node (omega arith) c.neighbour.result to

pub loop-port-preserved : goal.loop-port-preserved
loop-port-preserved c =
    let sound : IsGrid c.args.relation.now.grid = subst IsGrid c.shape.ensures.value c.ports-links.ensures.grid in
    let v = c.args.router.now in
    let port = c.loop-port.port in
    let old = c.loop-port.router.to_put in
    let inside : port < length old = omega (arith, c.loop-port.invariant.count, c.loop-port-test.true, ap local_port c.shape.ensures.value, c.ports-links.ensures.value) in
    let site : c.put-beat.new.self.site ≡ v.site = ap (λ (w : View). w.site) c.put-beat.ensures.view ∙ ap (λ (w : View). w.site) c.loop-port.invariant.router in
    let to : neighbour c.args.relation.now.grid v.site.node port ≡ c.neighbour.result =
    ap (λ (g : Grid). neighbour g v.site.node port) c.requires.router.built_for.grid
    ∙ sym (c.neighbour.ensures ∙ ap (λ (s : Site). neighbour s.grid s.node port) site) in
    let beat : c.put-beat.result ≡ beat_to_put v port = c.put-beat.ensures.beat ∙ c.loop-port.invariant.left port (omega arith) in
    let sent : c.send.new.beats ≡ sent_on c.loop-port.beats c.neighbour.result (beat_to_put v port) =
    c.send.ensures ∙ ap (sent_on c.loop-port.beats c.neighbour.result) beat in
    let after : c.put-beat.new.self.to_put ≡ set old port idle_beat = ap (λ (w : View). w.to_put) c.put-beat.ensures.view in
    record {
      router = c.put-beat.ensures.view ∙ ap (view_after_put port) c.loop-port.invariant.router ∙ ap (λ (beats : List Beat). record v { to_put = beats }) (sym after);
      count = ap length after ∙ length-set old port idle_beat ∙ c.loop-port.invariant.count;
      put = λ k l. ap (λ beats. get_or beats k idle_beat) after
          ∙ ⊎_elim (λ (here : k ≡ port). ap (λ j. get_or (set old port idle_beat) j idle_beat) here ∙ get_or-set_same old port idle_beat idle_beat inside)
          (λ (other : k ≢ port). get_or-set_other old port k idle_beat idle_beat other ∙ c.loop-port.invariant.put k (omega arith))
          (cases_eq k port);
      left = λ k l. ap (λ beats. get_or beats k idle_beat) after ∙ get_or-set_other old port k idle_beat idle_beat (omega arith) ∙ c.loop-port.invariant.left k (omega arith);
      beats = λ r p l. ap (λ wires. beat_at wires r p) sent
          ∙ received_more c.args.relation.now.grid sound v port c.args.beats.now c.loop-port.beats c.requires.node (omega arith)
          c.loop-port.invariant.rows c.loop-port.invariant.beats c.neighbour.result to r p l;
      rows = subst (λ (wires : List (List Beat)). (i : ℕ) → i < length wires → length (get_or wires i []) ≡ 6) (sym sent)
          (rows_kept c.loop-port.beats c.neighbour.result (beat_to_put v port) c.loop-port.invariant.rows);
    }

pub returns-clause-router : goal.returns-clause-router
returns-clause-router c =
    let v = c.args.router.now in
    c.loop-port.invariant.router
    ∙ ap (λ (beats : List Beat). record v { to_put = beats })
    (all-put (local_port v.site.grid) c.loop-port.router.to_put (c.loop-port.invariant.count ∙ ap local_port c.requires.router.built_for.grid)
    (λ k l. c.loop-port.invariant.put k (omega (arith, l, c.loop-port-test.false, ap local_port c.requires.router.built_for.grid, ap local_port c.shape.ensures.value, c.ports-links.ensures.value))))

pub returns-clause-beats : goal.returns-clause-beats
returns-clause-beats c = λ r p l.
    let g = c.args.relation.now.grid in
    let sound : IsGrid g = subst IsGrid c.shape.ensures.value c.ports-links.ensures.grid in
    let end : c.loop-port.port ≡ local_port g = omega (arith, c.loop-port.auto.port-end, c.loop-port-test.false, ap local_port c.shape.ensures.value, c.ports-links.ensures.value) in
    c.loop-port.invariant.beats r p l
    ∙ ap (λ k. received_to k c.args.router.now (neighbour g r p) (beat_at c.args.beats.now r p)) end
    ∙ received-last g sound c.args.router.now r p l (neighbour g r p) refl (beat_at c.args.beats.now r p)
