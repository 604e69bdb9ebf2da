use Rattle.std.proofs.Common.{◌≡◌, ◌+◌, ◌*◌, ℕ, List, [], ◌∷◌, ◌++◌, Option, length, ap, sym, ◌∙◌, subst, rules, arith}
use Rattle.std.specs.Prelude.{option_map}
use Rattle.std.proofs.lemmas.List.{length-map, map_push}
use Rattle.noc_topo.specs.Shape.{nodes}
use Rattle.noc_tiles.specs.Ends.{End, inlet, outlet}
use Rattle.noc_tiles.specs.Rings.{AreSlots, in_slots, out_slots}
use Rattle.noc_tiles.specs.declared.ends.Inlet.{Inlet}
use Rattle.noc_tiles.specs.declared.ends.Outlet.{Outlet}
use Rattle.noc_tiles.proofs.RingLemmas.{slots-more}
use Rattle.noc_tiles.proofs.partition.make_rings.Goals as goal

pub push_reserved-requires : goal.push_reserved-requires
push_reserved-requires c =
    let v = c.loop-k.invariant in
    let n : length c.loop-k.ins.items ≡ c.loop-k.k = rw length-map at v.slots.ins in
    omega (arith, n, c.loop-k.ins.ok.0, v.room_in, c.loop-k-test.true)

pub push_reserved-requires-in-loop-k : goal.push_reserved-requires-in-loop-k
push_reserved-requires-in-loop-k c =
    let v = c.loop-k.invariant in
    let n : length c.loop-k.outs.items ≡ c.loop-k.k = rw length-map at v.slots.outs in
    omega (arith, n, c.loop-k.outs.ok.0, v.room_out, c.loop-k-test.true)

pub loop-k-preserved : goal.loop-k-preserved
loop-k-preserved c =
    let s = c.args.sharing.now in
    let B = c.args.beats.now in
    let v = c.loop-k.invariant in
    let k = c.loop-k.k in
    let I = in_slots c.loop-k.ins.items in
    let O = out_slots c.loop-k.outs.items in
    let i = option_map inlet c.in_ok-one.one in
    let o = option_map outlet c.in_ok-one.other in
    let ie : in_slots c.push_reserved.new.self.items ≡ I ++ i ∷ [] = ap in_slots c.push_reserved.ensures.items ∙ map_push (λ (s : Option Inlet). option_map inlet s) c.loop-k.ins.items c.in_ok-one.one in
    let oe : out_slots c.push_reserved-in-loop-k.new.self.items ≡ O ++ o ∷ [] = ap out_slots c.push_reserved-in-loop-k.ensures.items ∙ map_push (λ (s : Option Outlet). option_map outlet s) c.loop-k.outs.items c.in_ok-one.other in
    record {
      slots = subst (λ (q : List (Option End)). AreSlots s.shape.now s.workers B (k + 1) (in_slots c.push_reserved.new.self.items) q) (sym oe)
          (subst (λ (q : List (Option End)). AreSlots s.shape.now s.workers B (k + 1) q (O ++ o ∷ [])) (sym ie) (slots-more s.shape.now s.workers B k I O i o v.slots c.in_ok-one.ensures));
      room_in = omega (arith, v.room_in, c.push_reserved.ensures.capacity);
      room_out = omega (arith, v.room_out, c.push_reserved-in-loop-k.ensures.capacity);
    }

pub returns : goal.returns
returns c =
    let s = c.args.sharing.now in
    let end : c.loop-k.k ≡ nodes s.shape.now * 6 = search (rules, arith) in
    subst (λ (k : ℕ). AreSlots s.shape.now s.workers c.args.beats.now k (in_slots c.loop-k.ins.items) (out_slots c.loop-k.outs.items)) end c.loop-k.invariant.slots
