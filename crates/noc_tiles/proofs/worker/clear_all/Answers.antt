use Rattle.std.proofs.Common.{◌≡◌, inr, length, map, refl, sym, ◌∙◌, subst, arith, rules}
use Rattle.std.proofs.lemmas.List.{length-map}
use Rattle.noc_tiles.specs.Ends.{End, outlet}
use Rattle.noc_tiles.specs.Phases.{IsCleared}
use Rattle.noc_tiles.specs.TileStep.{arrival_ports}
use Rattle.noc_tiles.proofs.ClearLemmas.{cleared-at, cleared-more}
use Rattle.noc_tiles.proofs.worker.clear_all.Goals as goal

pub loop-end-init : goal.loop-end-init
loop-end-init c = record { size = refl; beats = λ r q. inr (λ o l. absurd (omega arith), refl) }

pub set_beat-requires : goal.set_beat-requires
set_beat-requires c =
    let p = cleared-at c.args.ends.now (length c.args.beats.now) c.loop-end.end-index c.end-item.result c.requires (search (rules, arith)) c.end-item.is in
    (omega (arith, p.1, c.loop-end.invariant.size), p.2)

pub loop-end-preserved : goal.loop-end-preserved
loop-end-preserved c =
    let p = cleared-at c.args.ends.now (length c.args.beats.now) c.loop-end.end-index c.end-item.result c.requires (search (rules, arith)) c.end-item.is in
    let end = c.end-item.result in
    let v = c.loop-end.invariant in
    record {
      size = c.set_beat.auto.beats ∙ v.size;
      beats = λ r q.
          cleared-more (arrival_ports (map outlet c.args.ends.now)) c.args.beats.now c.loop-end.beats c.set_beat.new.beats c.loop-end.end-index end.router end.port c.idle.result c.idle.ensures p.0 c.set_beat.ensures r q (v.beats r q);
    }

pub returns : goal.returns
returns c =
    let ps = arrival_ports (map outlet c.args.ends.now) in
    let end : c.loop-end.end-index ≡ length ps =
    let q : c.loop-end.end-index ≡ length c.args.ends.now = search (rules, arith) in
    q ∙ sym (length-map (map outlet c.args.ends.now) (λ (w : End). w.at) ∙ length-map c.args.ends.now outlet) in
    λ r q. subst (λ k. IsCleared ps c.args.beats.now c.loop-end.beats k r q) end (c.loop-end.invariant.beats r q)
