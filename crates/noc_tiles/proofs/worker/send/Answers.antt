use Rattle.std.proofs.Common.{◌≡◌, ℕ, List, length, map, ap, sym, ◌∙◌, subst, arith, rules, refl}
use Rattle.std.specs.Vec.{with_items}
use Rattle.std.proofs.lemmas.List.{with_items_is}
use Rattle.noc_packet.specs.declared.packet.Beat.{Beat}
use Rattle.noc_theory.specs.Halves.{beat_at}
use Rattle.noc_tiles.specs.Ends.{outlet}
use Rattle.noc_tiles.specs.Phases.{IsCleared}
use Rattle.noc_tiles.specs.TileStep.{ends_after_beats, arrival_ports}
use Rattle.noc_tiles.specs.Tiles.{AreLinkPorts, outlets}
use Rattle.noc_tiles.specs.declared.ends.Outlet.{Outlet}
use Rattle.noc_tiles.proofs.TileStepLemmas.{ports-names}
use Rattle.noc_tiles.proofs.worker.send.Goals as goal

pub clear_all-requires : goal.clear_all-requires
clear_all-requires g c =
    let a = c.args.tile.now in
    let same : arrival_ports (map outlet c.deref-2.result.now) ≡ arrival_ports (outlets a)
    = ap (λ (ends : List Outlet). arrival_ports (map outlet ends)) c.deref-2.ensures.value ∙ ports-names (map outlet c.put_all.new.ends.items) (outlets a) c.put_all.ensures.ends in
    subst (λ (k : ℕ). AreLinkPorts k 6 (arrival_ports (map outlet c.deref-2.result.now))) (sym (ap length c.deref_mut.ensures.value)) (subst (AreLinkPorts (length a.beats.items) 6) (sym same) c.requires)

pub returns-clause-sent : goal.returns-clause-sent
returns-clause-sent g c h =
    let a = c.args.tile.now in
    let same : arrival_ports (map outlet c.deref-2.result.now) ≡ arrival_ports (outlets a)
    = ap (λ (ends : List Outlet). arrival_ports (map outlet ends)) c.deref-2.ensures.value ∙ ports-names (map outlet c.put_all.new.ends.items) (outlets a) c.put_all.ensures.ends in
    let before : c.deref_mut.result.now ≡ a.beats.items = c.deref_mut.ensures.value in
    let w = with_items a.beats c.clear_all.new.beats in
    let after : w.items ≡ c.clear_all.new.beats = with_items_is a.beats c.clear_all.new.beats (search (rules, arith)) in
    record {
      rest = refl;
      outs = c.if-not-put_all.ensures.put refl ∙ ap (λ (b : List (List Beat)). ends_after_beats (outlets a) (map (λ (p : ℕ × ℕ). beat_at b p.0 p.1) (arrival_ports (outlets a)))) c.deref.ensures.value;
      cleared = λ r q.
          subst (λ (b : List (List Beat)). IsCleared (arrival_ports (outlets a)) a.beats.items b (length (arrival_ports (outlets a))) r q) (sym after)
          (subst (λ (b : List (List Beat)). IsCleared (arrival_ports (outlets a)) b c.clear_all.new.beats (length (arrival_ports (outlets a))) r q) before
          (subst (λ (ps : List (ℕ × ℕ)). IsCleared ps c.deref_mut.result.now c.clear_all.new.beats (length ps) r q) same (c.clear_all.ensures r q)));
      size = ap length after ∙ (c.clear_all.auto.beats ∙ ap length before);
    }
