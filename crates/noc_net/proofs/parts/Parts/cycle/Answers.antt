use Rattle.std.proofs.Common.{◌≡◌, ℕ, List, [], length, get_or, map, ap, sym, subst, ◌∙◌, arith}
use Rattle.std.specs.Vec.{with_items}
use Rattle.std.proofs.lemmas.List.{get_or_default, with_items_is}
use Rattle.noc_packet.specs.declared.packet.Beat.{Beat}
use Rattle.noc_topo.specs.Shape.{nodes, neighbour}
use Rattle.noc_view.specs.View.{IsRelationOf, View, idle_beat}
use Rattle.std.specs.List.{All}
use Rattle.noc_topo.specs.Lists.{map_indexed}
use Rattle.noc_theory.specs.Halves.{HaveTheirBeats, IsSilent, beat_at, incoming, view_after_decide, view_after_puts}
use Rattle.noc_theory.specs.Lockstep.{beat_from, beats_at, lockstep_at}
use Rattle.noc_theory.proofs.runs.RunLemmas.{count_views, halfway, linked_wires, next_views, next_wires, placed_halfway, relation_views}
use Rattle.noc_net.specs.declared.parts.Parts.{Parts}
use Rattle.noc_net.specs.Parts.{setup_in}
use Rattle.noc_net.proofs.PartsLemmas.{parts-in_step, views-in_step, wires-in_step}
use Rattle.noc_net.proofs.parts.Parts.cycle.Goals as goal

pub decide_all-requires-clause-routers : goal.decide_all-requires-clause-routers
decide_all-requires-clause-routers c = λ r d l.
    let parts = c.args.self.now in
    let net = setup_in parts in
    let is : c.deref_mut.result.now ≡ (lockstep_at net parts.count).views = c.deref_mut.ensures.value ∙ views-in_step parts c.requires.parts in
    subst (IsRelationOf parts.relation) (sym (ap (λ vs. get_or vs r d) is)) (relation_views net parts.count r d (omega (arith, l, ap length is)))

pub decide_all-requires-clause-beats : goal.decide_all-requires-clause-beats
decide_all-requires-clause-beats c = λ r d l port past.
    let parts = c.args.self.now in
    let beats = c.deref_mut-2.result.now in
    ap (λ row. get_or row port idle_beat) (get_or_default beats r d [] l) ∙ ap (λ (all : List (List Beat)). beat_at all r port) c.deref_mut-2.ensures.value
    ∙ wires-in_step parts c.requires.parts r port ∙ linked_wires (setup_in parts) parts.count r port past

pub decide_all-requires-clause-count : goal.decide_all-requires-clause-count
decide_all-requires-clause-count c =
    let parts = c.args.self.now in
    let is : c.deref_mut.result.now ≡ (lockstep_at (setup_in parts) parts.count).views = c.deref_mut.ensures.value ∙ views-in_step parts c.requires.parts in
    omega (arith, ap length is, count_views (setup_in parts) parts.count, c.deref_mut-2.ensures.len, c.requires.parts.beats)

-- what all have decided over these beats is what those of the lockstep run have
decided : (parts : Parts) (beats : List (List Beat)) (routers half : List View) → routers ≡ (lockstep_at (setup_in parts) parts.count).views
    → half ≡ map_indexed (λ r v. view_after_decide parts.relation parts.count (incoming parts.relation.grid (beats_at beats r)) v) routers → half ≡ halfway (setup_in parts) parts.count beats
decided parts beats routers half same is = is ∙ ap (map_indexed (λ r v. view_after_decide parts.relation parts.count (incoming parts.relation.grid (beats_at beats r)) v)) same

pub deliver_all-requires-clause-routers : goal.deliver_all-requires-clause-routers
deliver_all-requires-clause-routers c =
    let parts = c.args.self.now in
    let beats = c.deref_mut-2.result.now in
    let half = decided parts beats c.deref_mut.result.now c.decide_all.new.routers (c.deref_mut.ensures.value ∙ views-in_step parts c.requires.parts) c.decide_all.ensures.routers in
    let now = c.deref_mut-3.ensures.value ∙ with_items_is parts.routers c.decide_all.new.routers (omega (arith, c.decide_all.auto.routers, c.deref_mut.ensures.len)) in
    subst (HaveTheirBeats parts.relation) (sym (now ∙ half)) (placed_halfway (setup_in parts) parts.count beats)

pub deliver_all-requires-clause-nodes : goal.deliver_all-requires-clause-nodes
deliver_all-requires-clause-nodes c =
    let parts = c.args.self.now in
    let now = c.deref_mut-3.ensures.value ∙ with_items_is parts.routers c.decide_all.new.routers (omega (arith, c.decide_all.auto.routers, c.deref_mut.ensures.len)) in
    omega (arith, ap length now, c.decide_all.auto.routers, ap length (c.deref_mut.ensures.value ∙ views-in_step parts c.requires.parts), count_views (setup_in parts) parts.count)

pub deliver_all-requires-clause-count : goal.deliver_all-requires-clause-count
deliver_all-requires-clause-count c =
    let parts = c.args.self.now in
    let now = c.deref_mut-4.ensures.value ∙ with_items_is parts.beats c.decide_all.new.beats (omega (arith, c.decide_all.auto.beats, c.deref_mut-2.ensures.len)) in
    omega (arith, ap length now, c.decide_all.auto.beats, c.deref_mut-2.ensures.len, c.requires.parts.beats)

pub deliver_all-requires-clause-beats : goal.deliver_all-requires-clause-beats
deliver_all-requires-clause-beats c =
    let parts = c.args.self.now in
    let now = c.deref_mut-4.ensures.value ∙ with_items_is parts.beats c.decide_all.new.beats (omega (arith, c.decide_all.auto.beats, c.deref_mut-2.ensures.len)) in
    subst (All IsSilent) (sym now) c.decide_all.ensures.beats

pub returns-clause-parts : goal.returns-clause-parts
returns-clause-parts c =
    let parts = c.args.self.now in
    let sound = c.requires.parts in
    let net = setup_in parts in
    let n = parts.count in
    let came = c.deref_mut-2.result.now in
    let same : (r port : ℕ) → beat_at came r port ≡ beat_at (lockstep_at net n).wires r port = λ r port. ap (λ (all : List (List Beat)). beat_at all r port) c.deref_mut-2.ensures.value ∙ wires-in_step parts sound r port in
    let half = decided parts came c.deref_mut.result.now c.decide_all.new.routers (c.deref_mut.ensures.value ∙ views-in_step parts sound) c.decide_all.ensures.routers in
    let third = c.deref_mut-3.ensures.value ∙ with_items_is parts.routers c.decide_all.new.routers (omega (arith, c.decide_all.auto.routers, c.deref_mut.ensures.len)) in
    let long : length c.deliver_all.new.beats ≡ nodes parts.relation.grid = omega (arith, c.deliver_all.auto.beats, c.deref_mut-4.ensures.len, c.decide_all.auto.beats, c.deref_mut-2.ensures.len, sound.beats) in
    parts-in_step _ sound.good (omega (arith, c.requires.within))
    (with_items_is (with_items parts.routers c.decide_all.new.routers) c.deliver_all.new.routers (omega (arith, c.deliver_all.auto.routers, c.deref_mut-3.ensures.len)) ∙ c.deliver_all.ensures.routers ∙ ap (map view_after_puts) (third ∙ half) ∙ next_views net n came same)
    (λ r port. ap (λ (all : List (List Beat)). beat_at all r port) (with_items_is (with_items parts.beats c.decide_all.new.beats) c.deliver_all.new.beats (omega (arith, c.deliver_all.auto.beats, c.deref_mut-4.ensures.len)))
    ∙ next_wires net n came c.deliver_all.new.beats same long
    (λ s q l. c.deliver_all.ensures.beats s q l ∙ ap (λ (vs : List View). beat_from (map (λ (v : View). v.to_put) vs) (neighbour parts.relation.grid s q)) (third ∙ half)) r port)
    sound.beats sound.room
