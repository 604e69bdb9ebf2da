use Rattle.std.proofs.Common.{◌≡◌, ◌+◌, ℕ, List, [], length, get_or, vec_len, ap, sym, ◌∙◌, subst, arith, rules, refl}
use Rattle.std.specs.List.{All}
use Rattle.std.specs.Vec.{with_items}
use Rattle.std.proofs.lemmas.List.{with_items_is, length-map}
use Rattle.noc_topo.specs.Lists.{map_indexed}
use Rattle.noc_packet.specs.declared.packet.Beat.{Beat}
use Rattle.noc_view.specs.View.{View, IsRelationOf, view_after_takes}
use Rattle.noc_theory.specs.Halves.{IsLinked, beat_at, incoming}
use Rattle.noc_tiles.specs.Ends.{inlet}
use Rattle.noc_tiles.specs.TileStep.{arrival_ports, is_own}
use Rattle.noc_tiles.specs.Tiles.{inlets, outlets}
use Rattle.noc_tiles.proofs.CycleLemmas.{linked-taken, idle-taken, all-took}
use Rattle.noc_tiles.proofs.PhaseLemmas.{at_index, took-as}
use Rattle.noc_tiles.proofs.worker.take.Goals as goal

pub take_all-requires : goal.take_all-requires
take_all-requires g c =
    let a = c.args.tile.now in
    let parts = c.requires.parts in
    let t = c.if-not-receive_all.ensures.taken refl in
    let relation = c.args.relation.now in
    let b1 = c.deref_mut-3.result.now in
    let after : b1 ≡ c.receive_all.new.beats = c.deref_mut-3.ensures.value ∙ with_items_is a.beats c.receive_all.new.beats (search (rules, arith)) in
    let took = took-as (arrival_ports (inlets a)) t.0 c.deref_mut.result.now c.receive_all.new.beats a.beats.items b1 c.deref_mut.ensures.value after t.3 in
    record {
      within = omega (arith, ap length c.deref_mut-2.ensures.value, ap length after, c.receive_all.auto.beats, ap length c.deref_mut.ensures.value, parts.wide, parts.count);
      routers = subst (All (λ v. IsRelationOf relation v)) (sym c.deref_mut-2.ensures.value) (λ k d l. (parts.placed k d l).built_for);
      beats = at_index (IsLinked relation.grid) b1 (linked-taken relation a.first (arrival_ports (inlets a)) (arrival_ports (outlets a)) a.routers.items a.beats.items parts t.0 b1 took);
      others = λ r q other. idle-taken relation a.first (arrival_ports (inlets a)) (arrival_ports (outlets a)) a.routers.items a.beats.items parts t.0 b1 took r q (ap (λ k. is_own a.first k r) (sym (ap length c.deref_mut-2.ensures.value)) ∙ other);
    }

pub returns-clause-taken : goal.returns-clause-taken
returns-clause-taken g c h =
    let a = c.args.tile.now in
    let t = c.if-not-receive_all.ensures.taken refl in
    let relation = c.args.relation.now in
    let b1 = c.deref_mut-3.result.now in
    let after : b1 ≡ c.receive_all.new.beats = c.deref_mut-3.ensures.value ∙ with_items_is a.beats c.receive_all.new.beats (search (rules, arith)) in
    let took = took-as (arrival_ports (inlets a)) t.0 c.deref_mut.result.now c.receive_all.new.beats a.beats.items b1 c.deref_mut.ensures.value after t.3 in
    let w1 = with_items a.beats c.receive_all.new.beats in
    let w2 = with_items w1 c.take_all.new.beats in
    let end : w2.items ≡ c.take_all.new.beats = with_items_is w1 c.take_all.new.beats (search (rules, arith)) in (
      t.0,
      record {
        width = t.1 ∙ (let q : vec_len a.ins ≡ length a.ins.items = search rules in q ∙ sym (length-map a.ins.items inlet));
        ins = t.2;
        views = with_items_is a.routers c.take_all.new.routers (search (rules, arith)) ∙ c.take_all.ensures.routers
            ∙ ap (map_indexed (λ (i : ℕ) (v : View). view_after_takes relation (incoming relation.grid (get_or b1 (a.first + i) [])) v)) c.deref_mut-2.ensures.value
            ∙ all-took relation a.first (arrival_ports (inlets a)) (arrival_ports (outlets a)) a.routers.items a.beats.items c.requires.parts t.0 b1 took;
        rest = refl;
        size = ap length end ∙ (c.take_all.auto.beats ∙ (ap length after ∙ (c.receive_all.auto.beats ∙ ap length c.deref_mut.ensures.value)));
        silent = λ r q. ap (λ (b : List (List Beat)). beat_at b r q) end ∙ c.take_all.ensures.silent r q;
      },
    )
