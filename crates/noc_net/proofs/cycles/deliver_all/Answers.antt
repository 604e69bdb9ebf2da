use Rattle.std.proofs.Common.{◌≡◌, ◌≢◌, ℕ, ◌+◌, ◌<◌, ◌≤◌, List, [], Option, Some, None, length, get_or, map, set, length-set, ap, sym, subst, ◌∙◌, ⊎_elim, arith}
use Rattle.std.specs.Prelude.{if◌then◌else◌}
use Rattle.std.proofs.lemmas.Bool.{cases_eq, cases_lt, eq-eqb, le-ltb, lt-ltb, ne_eqb}
use Rattle.std.proofs.lemmas.List.{get_or-map, get_or-set_other, get_or-set_same, get_or_default}
use Rattle.noc_topo.specs.Shape.{neighbour}
use Rattle.noc_packet.specs.declared.packet.Beat.{Beat}
use Rattle.noc_view.specs.View.{View, beat_to_put, idle_beat}
use Rattle.noc_theory.specs.Halves.{beat_at, view_after_puts, wire_after_puts}
use Rattle.noc_theory.specs.Lockstep.{beat_from}
use Rattle.noc_theory.proofs.runs.ListLemmas.{IsDoneTo, done_all-map}
use Rattle.noc_theory.proofs.runs.WireLemmas.{put_by}
use Rattle.noc_net.proofs.cycles.deliver_all.Goals as goal

-- one element more
done_more : {X : Type 0} (f : ℕ → X → X) (xs ys : List X) (i : ℕ) (y : X) → i < length xs → IsDoneTo f xs ys i → ((d : X) → y ≡ f i (get_or xs i d)) → IsDoneTo f xs (set ys i y) (i + 1)
done_more f xs ys i y low done is = record {
  count = length-set ys i y ∙ done.count;
  before = λ k d l m.
      ⊎_elim
      (λ (same : k ≡ i). ap (λ j. get_or (set ys i y) j d) same ∙ get_or-set_same ys i y d (omega (arith, done.count)) ∙ is d ∙ ap (λ j. f j (get_or xs j d)) (sym same))
      (λ (other : k ≢ i). get_or-set_other ys i k y d other ∙ done.before k d (omega arith) m)
      (cases_eq k i);
  behind = λ k d l. get_or-set_other ys i k y d (omega arith) ∙ done.behind k d (omega arith);
}

-- a wire, once one router more has put its beats
put_more : (node : ℕ) (sent : List (List Beat)) (v : View) (from : Option (ℕ × ℕ)) (beat : Beat) → v.site.node ≡ node → v.to_put ≡ get_or sent node []
    → beat ≡ put_by node sent from → wire_after_puts v from beat ≡ put_by (node + 1) sent from
put_more node sent v None beat site own before = before
put_more node sent v (Some from) beat site own before =
    ⊎_elim
    (λ (same : from.0 ≡ node).
    ap (λ b. if b then beat_to_put v from.1 else beat) (eq-eqb from.0 v.site.node (same ∙ sym site))
    ∙ ap (λ (beats : List Beat). get_or beats from.1 idle_beat) (own ∙ ap (λ r. get_or sent r []) (sym same))
    ∙ sym (ap (λ b. if b then beat_from sent (Some from) else idle_beat) (lt-ltb from.0 (node + 1) (omega arith))))
    (λ (other : from.0 ≢ node).
    ap (λ b. if b then beat_to_put v from.1 else beat) (ne_eqb from.0 v.site.node (λ e. other (e ∙ site)))
    ∙ before
    ∙ ap (λ b. if b then beat_from sent (Some from) else idle_beat)
    (⊎_elim (λ (l : from.0 < node). lt-ltb from.0 node l ∙ sym (lt-ltb from.0 (node + 1) (omega arith)))
    (λ (l : node ≤ from.0). le-ltb from.0 node l ∙ sym (le-ltb from.0 (node + 1) (omega arith)))
    (cases_lt from.0 node)))
    (cases_eq from.0 node)

pub loop-node-preserved : goal.loop-node-preserved
loop-node-preserved c =
    let node = c.loop-node.node in
    let d = c.index-routers-node.result in
    let old = c.args.routers.now in
    let low : c.loop-node.node < length c.args.routers.now = c.loop-node-test.true in
    let here : get_or c.loop-node.routers node d ≡ get_or old node d = c.loop-node.invariant.routers.behind node d (omega arith) in
    let site = ap (λ (v : View). v.site.node) here ∙ (c.requires.routers node d low).site in
    let own = ap (λ (v : View). v.to_put) here ∙ sym (get_or-map (λ (v : View). v.to_put) old node d [] low) in
    record {
      routers = done_more (λ (r : ℕ) (v : View). view_after_puts v) old c.loop-node.routers node c.deliver.new.router low c.loop-node.invariant.routers
          (λ e. c.deliver.ensures.router ∙ ap view_after_puts (here ∙ get_or_default old node d e low));
      beats = λ r port l. c.deliver.ensures.beats r port l
          ∙ put_more node (map (λ (v : View). v.to_put) old) (get_or c.loop-node.routers node d) (neighbour c.args.relation.now.grid r port) (beat_at c.loop-node.beats r port) site own
          (c.loop-node.invariant.beats r port l);
    }

pub returns-clause-routers : goal.returns-clause-routers
returns-clause-routers c =
    let end : c.loop-node.node ≡ length c.args.routers.now = omega (arith, c.loop-node.auto.node-end) in
    done_all-map view_after_puts c.args.routers.now c.loop-node.routers
    (subst (λ (k : ℕ). IsDoneTo (λ (r : ℕ) (v : View). view_after_puts v) c.args.routers.now c.loop-node.routers k) end c.loop-node.invariant.routers)
