use Rattle.std.proofs.Common.{rules, arith, ◌≡◌, ℕ, List, map, ◌+◌, false, below_more, ap, ◌∙◌, refl, subst, sym, vec_len}
use Rattle.std.proofs.lemmas.Bool.{false_from_ne_true, false≢true}
use Rattle.noc_tiles.specs.Ends.{outlet}
use Rattle.noc_tiles.specs.TileStep.{arrival_ports}
use Rattle.noc_tiles.specs.Tiles.{Cycles, Runs, outlets}
use Rattle.noc_tiles.specs.declared.ends.Outlet.{Outlet}
use Rattle.noc_tiles.proofs.InnerLemmas.{inner-same}
use Rattle.noc_tiles.proofs.RunLemmas.{runs-none, runs-more}
use Rattle.noc_tiles.proofs.TileStepLemmas.{ports-names}
use Rattle.noc_tiles.proofs.worker.run_tile.Goals as goal

pub loop-c-init : goal.loop-c-init
loop-c-init g c = record {
  done = c.requires.done;
  same = record { worker = refl; first = refl; start = refl; cycles = refl; size = refl; ins = refl; outs = refl };
  ready = c.requires.ready;
  inner = inner-same c.args.relation.now.grid c.args.tile.first c.args.tile.first c.len.result (vec_len c.args.tile.routers) (arrival_ports (map outlet c.deref.result.now)) (arrival_ports (outlets c.args.tile)) c.inner_of-inner.result refl c.len.ensures (ap (λ (outs : List Outlet). arrival_ports (map outlet outs)) c.deref.ensures.value) c.inner_of-inner.ensures;
  ran = runs-none c.args.relation.now c.args.tile;
  asked = λ k l. absurd (omega (arith, l));
}

pub loop-c-preserved : goal.loop-c-preserved
loop-c-preserved g c =
    let v = c.loop-c.invariant in
    let e = c.if-not-cycle.ensures in
    let k = c.loop-c.c in
    let a = c.args.tile in
    let b = c.loop-c.tile in
    let ran = e.ran refl in
    let step = ran.1 in
    let now : b.start + k ≡ a.start + k = ap (λ m. m + k) v.same.start in
    let one = subst (λ (n : ℕ). Cycles c.args.relation.now n b c.cycle.new.tile step.0) now step.1 in
    let r = runs-more c.args.relation.now k a b c.cycle.new.tile step.0 v.same v.ready v.ran one in
    let y = ran.0 in
    let i = inner-same c.args.relation.now.grid b.first c.cycle.new.tile.first (vec_len b.routers) (vec_len c.cycle.new.tile.routers) (arrival_ports (outlets b)) (arrival_ports (outlets c.cycle.new.tile)) c.inner_of-inner.result
    (sym e.kept.same.first) (sym e.kept.count) (ports-names (outlets b) (outlets c.cycle.new.tile) (sym e.kept.same.outs)) v.inner in
    let shuts = g.G.Gate.shuts c.args.gate.now in
    let free : shuts b.worker (b.start + k) ≡ false = false_from_ne_true (shuts b.worker (b.start + k)) (λ shut. false≢true (sym (c.if-not-pass.ensures.shut shut))) in
    let asked = below_more (λ (m : ℕ). shuts b.worker (b.start + m) ≡ false) k v.asked free in
    record {
      done = refl;
      same = record { worker = e.kept.same.worker ∙ v.same.worker; first = e.kept.same.first ∙ v.same.first; start = e.kept.same.start ∙ v.same.start; cycles = e.kept.same.cycles ∙ v.same.cycles; size = e.kept.same.size ∙ v.same.size; ins = e.kept.same.ins ∙ v.same.ins; outs = e.kept.same.outs ∙ v.same.outs };
      ready = record { few_links = y.few_links; parts = y.parts };
      inner = i;
      ran = record { rows = r.rows; count = r.count; width = r.width; views = r.views; wires = r.wires; ins = r.ins; outs = r.outs };
      asked = λ m l. ap (λ w. shuts w (c.cycle.new.tile.start + m)) e.kept.same.worker ∙ ap (λ s. shuts b.worker (s + m)) e.kept.same.start ∙ asked m l;
    }

pub returns-clause-ran : goal.returns-clause-ran
returns-clause-ran g c h =
    let end : c.loop-c.c ≡ c.args.tile.cycles = search (rules, arith) in
    let r = subst (λ (k : ℕ). Runs c.args.relation.now k c.args.tile c.loop-c.tile) end c.loop-c.invariant.ran in
    record { rows = r.rows; count = r.count; width = r.width; views = r.views; wires = r.wires; ins = r.ins; outs = r.outs }

pub returns-clause-asked : goal.returns-clause-asked
returns-clause-asked g c = λ whole k l.
    let v = c.loop-c.invariant in
    let end : c.loop-c.c ≡ c.args.tile.cycles = search (rules, arith) in
    let shuts = g.G.Gate.shuts c.args.gate.now in
    ap (λ w. shuts w (c.args.tile.start + k)) (sym v.same.worker) ∙ ap (λ s. shuts c.loop-c.tile.worker (s + k)) (sym v.same.start) ∙ v.asked k (omega (arith, end, l))
