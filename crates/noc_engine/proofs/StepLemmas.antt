-- One cycle of a network of blocks: its tile has all of them, and so hears from all.
use Rattle.std.proofs.Common.{◌≡◌, ℕ, suc, ◌+◌, ◌*◌, ◌/◌, ◌%◌, ◌<◌, ◌≤◌, true, length, Some, ap, sym, ◌∙◌, subst, arith, add-one}
use Rattle.std.specs.Prelude.{slice_get, slice_index_or}
use Rattle.std.proofs.lemmas.Bool.{false≢true}
use Rattle.std.proofs.lemmas.Nat.{mod_below}
use Rattle.noc_topo.specs.Shape.{nodes}
use Rattle.noc_topo.proofs.LinkLemmas.{link_back}
use Rattle.noc_route.specs.Routes.{Routes}
use Rattle.noc_view.specs.Found.{empty_finding}
use Rattle.noc_sets.specs.Cycle.{Router, Turn}
use Rattle.noc_theory.specs.Lockstep.{findings_before}
use Rattle.noc_theory.specs.Network.{Setup, size}
use Rattle.noc_theory_bits.specs.Network.{IsTurn, all_starts}
use Rattle.noc_theory_bits.proofs.bits.ThroughLemmas.{through}
use Rattle.noc_cycles.specs.declared.block.Block.{Block}
use Rattle.noc_cycles.specs.declared.block.Work.{Work}
use Rattle.noc_theory_cycles.specs.Fits.{bits_of, layout_of}
use Rattle.noc_theory_cycles.specs.Nodes.{IsNodeTurn}
use Rattle.noc_theory_cycles.proofs.NodeLemmas.{node-turn}
use Rattle.noc_engine.specs.Finds.{HaveFindings, found_at}
use Rattle.noc_engine.specs.Runs.{AreFindings}
use Rattle.noc_engine.specs.Shows.{has_block}
use Rattle.noc_engine.specs.Steps.{MayStep}
use Rattle.noc_engine.specs.Tiles.{AreNear, HasRunTile, HasTurnedTile, MayRunTile}
use Rattle.noc_engine.specs.declared.columns.Columns.{Columns}
use Rattle.noc_engine.specs.declared.tile.Tile.{Tile}
use Rattle.noc_engine.proofs.ListLemmas.{there}
use Rattle.noc_engine.proofs.ReaderLemmas.{sizes}
use Rattle.noc_engine.proofs.WholeLemmas.{block-is, is-block, network-shown, plan-fits}

module _ (net : Setup) (relation : Routes) (n : ℕ) (words : ℕ → Router) (all : Columns) (may : MayStep net relation n words all) where
  pub may-turn : MayRunTile net relation all.plan n words all.tile
  may-turn = record { good = may.shows.good; is = may.is; few = may.few; shows = may.shows.tile }

  -- once its tile has had its turn
  module _ (turns : ℕ → Turn) (turned : Tile) (has : HasTurnedTile net all.plan n words turns all.tile turned) where
    first-is : turned.first ≡ 0
    first-is = has.ran.first_is ∙ may.shows.first

    pub blocks-are : length turned.blocks.items ≡ length all.plan.around.items
    blocks-are = has.ran.blocks_are ∙ may.shows.blocks_are

    in-block : (s : ℕ) → s < nodes net.relation.grid → s / 64 < length turned.blocks.items
    in-block s l = let most = may.shows.tile.plan_is.blocks in omega (arith, most, blocks-are, l)

    -- .. and has heard it, it has heard of all that comes
    module _ (heard : Tile) (run : HasRunTile net all.plan n (has_block turned) words turns all.tile heard) where
      same-first : heard.first ≡ turned.first
      same-first = run.first_is ∙ sym has.ran.first_is

      same-long : length heard.blocks.items ≡ length turned.blocks.items
      same-long = run.blocks_are ∙ sym has.ran.blocks_are

      pub hears-own : (b : ℕ) → has_block heard b ≡ true → has_block turned b ≡ true
      hears-own b e = let both = block-is heard b e in is-block turned b (omega (arith, both.0, same-first)) (omega (arith, both.1, same-first, same-long))

      pub none-near : AreNear net heard (has_block turned)
      none-near s q r port l ours e away =
          let back = link_back net.relation.grid r q s port may.shows.good.relation.table.grid l e in
          let low = in-block s back.node in
          absurd (false≢true (sym away ∙ is-block heard (s / 64) (omega (arith, same-first, first-is)) (omega (arith, low, same-first, first-is, same-long))))

    -- what router s has found in it
    found-then : (s i : ℕ) (block : Block) (work : Work) → s < nodes net.relation.grid → i < size net → slice_get turned.blocks.items (s / 64) ≡ Some block → slice_get turned.works.items (s / 64) ≡ Some work
        → found_at all.plan.pattern block work (s % 64) i ≡ slice_index_or (findings_before net (suc n) s) i empty_finding
    found-then s i block work l u at doing =
        let b = s / 64 in
        let low : s % 64 < 64 = mod_below s 64 (omega arith) in
        let inside = in-block s l in
        let counts = there turned.counts.items b (let long = has.ran.lists.counts_are in omega (arith, long, inside)) in
        let whole : 64 * (turned.first + s / 64) + s % 64 ≡ s = omega (arith, first-is) in
        let node : IsNodeTurn net all.plan.pattern (layout_of all.plan.pattern) n s (words s) (turns s)
        = subst (λ t. IsNodeTurn net all.plan.pattern (layout_of all.plan.pattern) n t (words t) (turns t)) whole ((has.ran.blocks b block counts.0 at counts.1).turn (s % 64) low) in
        let fits = plan-fits net all.plan may.shows.good may.shows.tile.plan_is in
        let turn : IsTurn net (layout_of all.plan.pattern) n s (words s) (turns s) = node-turn (bits_of all.plan.pattern) net (layout_of all.plan.pattern) all.plan.pattern n s (words s) (turns s) fits node in
        sym (has.found b (s % 64) i block work at doing low) ∙ ap (λ t. (turns t).found i) whole
        ∙ (through net may.shows.good n may.few (layout_of all.plan.pattern) fits.layout_is (all_starts net) s l (words s) ((network-shown net n words all may.shows).routers s l) (turns s) turn).found i u

    -- .. where it is noted of all
    pub found-are : (after : Columns) (routers : ℕ) → nodes net.relation.grid ≤ routers → after.tile.cycle ≡ n + 1
        → ((s : ℕ) (block : Block) (work : Work) → s < routers → slice_get turned.blocks.items (s / 64) ≡ Some block → slice_get turned.works.items (s / 64) ≡ Some work
        → HaveFindings (found_at all.plan.pattern block work (s % 64)) ((all.plan.pattern.table.ports.links.width + 1) * all.plan.pattern.table.ports.links.vcs) (s * 64) after.found.items)
        → AreFindings net after
    found-are after routers most ran noted = record {
      each = λ s i l u some.
          let inside = in-block s l in
          let block = there turned.blocks.items (s / 64) inside in
          let work = there turned.works.items (s / 64) (let long = has.ran.lists.works_are in omega (arith, inside, long)) in
          noted s block.0 work.0 (omega (arith, l, most)) block.1 work.1 i (subst (λ m. i < m) (sizes net n words all may.shows) u)
          ∙ found-then s i block.0 work.0 l u block.1 work.1
          ∙ ap (λ m. slice_index_or (findings_before net m s) i empty_finding) (sym (ran ∙ add-one n));
    }
