use Rattle.std.proofs.Common.{◌≡◌, ◌-◌, ◌++◌, List, true, length, map, take, drop, refl, ap, sym, ◌∙◌, arith, length-take-le, replicate, unwrap_or}
use Rattle.noc_topo.specs.Shape.{local_port}
use Rattle.noc_packet.specs.declared.packet.Beat.{Beat}
use Rattle.noc_route.specs.Routes.{Routes}
use Rattle.noc_view.specs.View.{Site, View, idle_beat, local_step}
use Rattle.noc_theory.specs.Core.{post_after_last_put}
use Rattle.noc_wires.specs.Room.{post_of, unput_for, wires_in}
use Rattle.noc_theory.proofs.runs.PostLemmas.{same_post}
use Rattle.noc_wires.proofs.RoomLemmas.{take_front, take_of_map}
use Rattle.noc_theory.proofs.runs.StepLemmas.{site-local_step}
use Rattle.noc_net.proofs.event_core.decide.Goals as goal

pub decide-requires-clause-links : goal.decide-requires-clause-links
decide-requires-clause-links c =
    let site : c.step.new.self.site ≡ c.args.router.now.site = ap (λ (v : View). v.site) c.step.ensures.view ∙ site-local_step c.args.relation.now c.args.router.now _ _ in
    omega (arith, c.ports-links.ensures.local, ap local_port c.shape.ensures.value, ap local_port c.requires.relation.grid, ap (λ (s : Site). local_port s.grid) site)

pub returns : goal.returns
returns c = λ net same.
    let relation = c.args.relation.now in
    let router = c.args.router.now in
    let room = c.args.room.now in
    let n = c.ports-links.result - 1 in
    let links = local_port c.args.relation.now.grid in
    let site : c.step.new.self.site ≡ c.args.router.now.site = ap (λ (v : View). v.site) c.step.ensures.view ∙ site-local_step relation router _ _ in
    let grid : net.relation.grid ≡ c.step.new.self.site.grid = ap (λ (g : Routes). g.grid) same ∙ c.requires.relation.grid ∙ sym (ap (λ (s : Site). s.grid) site) in
    let count : c.ports-links.result - 1 ≡ local_port c.args.relation.now.grid = omega (arith, c.ports-links.ensures.local, ap local_port c.shape.ensures.value) in
    let taken = map (λ beat. unwrap_or beat idle_beat) (take links room.taken) in
    let beats_in : take n c.beats_taken-taken.result ≡ taken =
    ap (take n) c.beats_taken-taken.ensures ∙ take_of_map n (λ beat. unwrap_or beat idle_beat) room.taken ∙ ap (λ k. map (λ beat. unwrap_or beat idle_beat) (take k room.taken)) count in
    let view : c.step.new.self ≡ (local_step net.relation router taken room.steps).0 =
    c.step.ensures.view ∙ ap (λ (beats : List Beat). (local_step relation router beats room.steps).0) beats_in
    ∙ ap (λ (g : Routes). (local_step g router taken room.steps).0) (sym same) in
    let beats_out : c.step.new.beats_out ≡ (local_step net.relation router taken room.steps).1 =
    c.step.ensures.beats ∙ ap (λ (beats : List Beat). (local_step relation router beats room.steps).1) beats_in
    ∙ ap (λ (g : Routes). (local_step g router taken room.steps).1) (sym same) in
    let rest = drop n (replicate 6 c.idle-sent.result) in
    let whole : length c.step.new.beats_out ≡ c.ports-links.result - 1 = omega (arith, c.step.auto.beats_out, length-take-le n (replicate 6 c.idle-sent.result) (omega (arith, c.ports-links.ensures.few))) in
    ap (λ k. post_of k c.step.new.self c.decide.new.self) (sym count)
    ∙ c.decide.ensures net c.step.new.self grid
    ∙ ap (post_after_last_put net) (same_post c.step.new.self (local_step net.relation router taken room.steps).0 room.steps room.steps
    (take n (wires_in room)) (take links (wires_in room)) (take n room.taken) (take links room.taken) true true (unput_for net c.step.new.self.site.node (take n (c.step.new.beats_out ++ rest))) (unput_for net router.site.node (local_step net.relation router taken room.steps).1)
    view refl (ap (λ k. take k (wires_in room)) count) (ap (λ k. take k room.taken) count) refl
    (ap (λ (s : Site). unput_for net s.node (take n (c.step.new.beats_out ++ rest))) site ∙ ap (unput_for net router.site.node) (take_front n c.step.new.beats_out rest whole ∙ beats_out)))
