use Rattle.std.proofs.Common.{◌≡◌, List, [], true, false, get_or, length, slice_get, take, ap, sym, ◌∙◌, arith}
use Rattle.std.proofs.lemmas.List.{with_items_is}
use Rattle.noc_topo.specs.Shape.{local_port, nodes}
use Rattle.noc_packet.specs.declared.packet.Beat.{Beat}
use Rattle.noc_theory.specs.declared.limits.TheConstants.{CYCLE_LIMIT}
use Rattle.noc_wires.specs.declared.room.Room.{Room}
use Rattle.noc_theory.specs.Core.{CoreState, are_between, opening_core, steps_at}
use Rattle.noc_theory.specs.Halves.{beat_at}
use Rattle.noc_wires.specs.Room.{front_of, wires_in}
use Rattle.noc_net.specs.Stored.{core_in}
use Rattle.noc_theory.proofs.runs.OrderLemmas.{whole_core}
use Rattle.noc_theory.proofs.join.CoreOpeningLemmas.{opening-is}
use Rattle.noc_net.specs.Parts.{setup_in}
use Rattle.noc_net.proofs.PartsLemmas.{parts-in_step}
use Rattle.noc_net.proofs.StoredLemmas.{steps-within, steps_there, run_of_core, some_node, rested_views, rested_wires, told_rest}
use Rattle.noc_net.proofs.event_core.Core.finish.Goals as goal

pub returns-then-not-all_rest_at-clause-whole : goal.returns-then-not-all_rest_at-clause-whole
returns-then-not-all_rest_at-clause-whole c =
    let parts = c.self.inside.parts in
    let own = core_in parts in
    let sound = c.self.invariant in
    let links : c.links-links.result ≡ local_port parts.relation.grid = c.links-links.ensures.value ∙ sym (ap (λ (k : CoreState). local_port k.net.relation.grid) c.self.view_is) in
    let answer : false ≡ c.all_rest_at.result = cc in
    answer ∙ c.all_rest_at.ensures ∙ told_rest parts sound.routers sound.room _ _ _ links c.deref.ensures.value
    ∙ ap (are_between own) (steps_there parts sound.in_step sound.routers sound.room 0 (some_node own sound.in_step) c.index.result.now c.index.ensures)
    ∙ ap (λ (k : CoreState). are_between k (steps_at k 0)) c.self.view_is

pub returns-clause-whole : goal.returns-clause-whole
returns-clause-whole c =
    let parts = c.self.inside.parts in
    let own = core_in parts in
    let sound = c.self.invariant in
    let links : c.links-links.result ≡ local_port parts.relation.grid = c.links-links.ensures.value ∙ sym (ap (λ (k : CoreState). local_port k.net.relation.grid) c.self.view_is) in
    let answer : true ≡ c.all_rest_at.result = cc in
    answer ∙ c.all_rest_at.ensures ∙ told_rest parts sound.routers sound.room _ _ _ links c.deref.ensures.value
    ∙ ap (are_between own) (steps_there parts sound.in_step sound.routers sound.room 0 (some_node own sound.in_step) c.index.result.now c.index.ensures)
    ∙ ap (λ (k : CoreState). are_between k (steps_at k 0)) c.self.view_is

pub returns-clause-network : goal.returns-clause-network
returns-clause-network c =
    let parts = c.self.inside.parts in
    let own = core_in parts in
    let sound = c.self.invariant in
    c.from_parts.ensures
    ∙ ap (λ n. run_of_core own n) (steps_there parts sound.in_step sound.routers sound.room 0 (some_node own sound.in_step) c.index.result.now c.index.ensures)
    ∙ ap (λ (k : CoreState). run_of_core k (steps_at k 0)) c.self.view_is

pub returns-clause-same : goal.returns-clause-same
returns-clause-same c =
    let parts = c.self.inside.parts in
    let own = core_in parts in
    let sound = c.self.invariant in
    let count = c.index.result.now.steps in
    let links : c.links-links.result ≡ local_port parts.relation.grid = c.links-links.ensures.value ∙ sym (ap (λ (k : CoreState). local_port k.net.relation.grid) c.self.view_is) in
    let answer : true ≡ c.all_rest_at.result = cc in
    let all : are_between own count ≡ true = sym (answer ∙ c.all_rest_at.ensures ∙ told_rest parts sound.routers sound.room _ _ _ links c.deref.ensures.value) in
    ap opening_core c.from_parts.ensures
    ∙ opening-is (record { net = setup_in parts; count = count }) sound.good (steps-within parts count sound.in_step sound.within all)
    ∙ sym (whole_core CYCLE_LIMIT count own sound.in_step all) ∙ c.self.view_is

pub from_parts-requires : goal.from_parts-requires
from_parts-requires c =
    let parts = c.self.inside.parts in
    let own = core_in parts in
    let sound = c.self.invariant in
    let count = c.index.result.now.steps in
    let links : c.links-links.result ≡ local_port parts.relation.grid = c.links-links.ensures.value ∙ sym (ap (λ (k : CoreState). local_port k.net.relation.grid) c.self.view_is) in
    let answer : true ≡ c.all_rest_at.result = cc in
    let all : are_between own count ≡ true = sym (answer ∙ c.all_rest_at.ensures ∙ told_rest parts sound.routers sound.room _ _ _ links c.deref.ensures.value) in
    let routers : length parts.routers.items ≡ nodes parts.relation.grid = omega (arith, sound.routers, parts.routers.ok.0) in
    let rooms : length parts.room.items ≡ nodes parts.relation.grid = omega (arith, sound.room, parts.room.ok.0) in
    let beats : length c.land_all.new.beats ≡ nodes parts.relation.grid = omega (arith, c.land_all.auto.beats, c.deref_mut.ensures.len, sound.beats) in
    let items = with_items_is parts.beats c.land_all.new.beats (omega (arith, beats, sound.beats)) in
    parts-in_step _ sound.good (steps-within parts count sound.in_step sound.within all)
    (rested_views parts count sound.in_step routers rooms all)
    (λ r port. ap (λ (rows : List (List Beat)). beat_at rows r port) items
    ∙ rested_wires parts count c.land_all.new.beats sound.in_step routers rooms beats all
    (λ r one port at. c.land_all.ensures r one port (ap (λ (rooms : List Room). slice_get rooms r) c.deref-2.ensures.value ∙ at)
    ∙ ap (λ n. front_of (get_or (take n (wires_in one)) port [])) links) r port)
    sound.beats sound.room
