use Rattle.std.proofs.Common.{◌≡◌, ◌-◌, List, [], Some, get_or, length, slice_get, ap, sym, subst, ◌∙◌, arith}
use Rattle.std.proofs.lemmas.List.{with_items_is}
use Rattle.noc_topo.specs.Shape.{IsGrid, local_port, nodes}
use Rattle.noc_packet.specs.declared.packet.Beat.{Beat}
use Rattle.noc_view.specs.View.{Site, View}
use Rattle.noc_theory.specs.declared.limits.TheConstants.{CYCLE_LIMIT}
use Rattle.noc_wires.specs.declared.room.Room.{Room}
use Rattle.noc_theory.specs.Core.{opening_core}
use Rattle.noc_theory.specs.InStep.{AreWithin, IsInStep}
use Rattle.noc_theory.specs.Lockstep.{lockstep_at}
use Rattle.noc_theory.specs.Network.{Run}
use Rattle.noc_net.specs.Parts.{run_in, setup_in}
use Rattle.noc_wires.specs.Room.{opened_post, post_of, posts_of}
use Rattle.noc_theory.proofs.runs.LimitLemmas.{opening-within}
use Rattle.noc_theory.proofs.runs.OrderLemmas.{opening_in_step}
use Rattle.noc_theory.proofs.runs.RunLemmas.{count_views}
use Rattle.noc_theory.proofs.runs.SentLemmas.{view_site}
use Rattle.noc_theory.proofs.join.CoreOpeningLemmas.{opening-is}
use Rattle.noc_net.proofs.PartsLemmas.{views-in_step}
use Rattle.noc_net.proofs.StoredLemmas.{opened_core}
use Rattle.noc_net.proofs.event_core.Core.new.Goals as goal

pub open_all-requires-clause-links : goal.open_all-requires-clause-links
open_all-requires-clause-links c = λ r view at.
    let parts = c.into_parts-parts.result in
    let sound = c.into_parts-parts.ensures.parts in
    let seen : slice_get (lockstep_at (setup_in parts) parts.count).views r ≡ Some view = sym (ap (λ (views : List View). slice_get views r) (c.deref.ensures.value ∙ (views-in_step parts sound))) ∙ at in
    let site = view_site (setup_in parts) parts.count r view seen in
    ap (λ (s : Site). local_port s.grid) site ∙ sym (let count : c.ports-links.result - 1 ≡ local_port parts.relation.grid = omega (arith, c.ports-links.ensures.local, ap local_port c.shape.ensures.value) in count)

pub open_all-requires-clause-beats : goal.open_all-requires-clause-beats
open_all-requires-clause-beats c =
    let parts = c.into_parts-parts.result in
    let sound = c.into_parts-parts.ensures.parts in
    omega (arith, c.deref.ensures.len, c.deref-2.ensures.len, sound.beats, parts.routers.ok.0, ap length (views-in_step parts sound), count_views (setup_in parts) parts.count)

pub open_all-requires-clause-room : goal.open_all-requires-clause-room
open_all-requires-clause-room c =
    let parts = c.into_parts-parts.result in
    let sound = c.into_parts-parts.ensures.parts in
    omega (arith, c.deref.ensures.len, c.deref_mut.ensures.len, sound.room, parts.routers.ok.0, ap length (views-in_step parts sound), count_views (setup_in parts) parts.count)

pub invariant_of-result : goal.invariant_of-result
invariant_of-result c =
    let parts = c.into_parts-parts.result in
    let sound = c.into_parts-parts.ensures.parts in
    let grid : IsGrid parts.relation.grid = subst IsGrid c.shape.ensures.value c.ports-links.ensures.grid in
    let count : c.ports-links.result - 1 ≡ local_port parts.relation.grid = omega (arith, c.ports-links.ensures.local, ap local_port c.shape.ensures.value) in
    let rooms : length c.open_all.new.room ≡ nodes parts.relation.grid = omega (arith, c.open_all.auto.room, c.deref_mut.ensures.len, sound.room) in
    let items = with_items_is parts.room c.open_all.new.room (omega (arith, rooms, sound.room)) in
    let is = ap (λ (rooms : List Room). record { net = setup_in parts; posts = posts_of (local_port parts.relation.grid) parts.routers.items rooms }) items
    ∙ opened_core parts c.open_all.new.room sound rooms
    (λ r view one at at_one.
    ap (λ n. post_of n view one) (sym count)
    ∙ c.open_all.ensures r view one (ap (λ (views : List View). slice_get views r) c.deref.ensures.value ∙ at) at_one
    ∙ ap (λ n. opened_post n view parts.count (get_or c.deref-2.result.now r [])) count
    ∙ ap (λ (beats : List (List Beat)). opened_post (local_port parts.relation.grid) view parts.count (get_or beats r [])) c.deref-2.ensures.value) in
    record {
      good = sound.good;
      in_step = subst (IsInStep CYCLE_LIMIT) (sym is) (opening_in_step CYCLE_LIMIT (run_in parts) grid);
      within = subst (AreWithin CYCLE_LIMIT) (sym is) (opening-within CYCLE_LIMIT (run_in parts) sound.within);
      routers = omega (arith, parts.routers.ok.0, ap length (views-in_step parts sound), count_views (setup_in parts) parts.count);
      beats = sound.beats;
      room = sound.room;
    }

pub returns-clause-core : goal.returns-clause-core
returns-clause-core c =
    let parts = c.into_parts-parts.result in
    let sound = c.into_parts-parts.ensures.parts in
    let count : c.ports-links.result - 1 ≡ local_port parts.relation.grid = omega (arith, c.ports-links.ensures.local, ap local_port c.shape.ensures.value) in
    let rooms : length c.open_all.new.room ≡ nodes parts.relation.grid = omega (arith, c.open_all.auto.room, c.deref_mut.ensures.len, sound.room) in
    let items = with_items_is parts.room c.open_all.new.room (omega (arith, rooms, sound.room)) in
    ap (λ (rooms : List Room). record { net = setup_in parts; posts = posts_of (local_port parts.relation.grid) parts.routers.items rooms }) items
    ∙ opened_core parts c.open_all.new.room sound rooms
    (λ r view one at at_one.
    ap (λ n. post_of n view one) (sym count)
    ∙ c.open_all.ensures r view one (ap (λ (views : List View). slice_get views r) c.deref.ensures.value ∙ at) at_one
    ∙ ap (λ n. opened_post n view parts.count (get_or c.deref-2.result.now r [])) count
    ∙ ap (λ (beats : List (List Beat)). opened_post (local_port parts.relation.grid) view parts.count (get_or beats r [])) c.deref-2.ensures.value)
    ∙ sym (opening-is (run_in parts) sound.good sound.within)
    ∙ ap opening_core c.into_parts-parts.ensures.network

pub returns-clause-net : goal.returns-clause-net
returns-clause-net c = ap (λ (u : Run). u.net) c.into_parts-parts.ensures.network
