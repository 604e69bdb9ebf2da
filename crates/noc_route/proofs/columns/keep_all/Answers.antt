use Rattle.std.proofs.Common.{◌≡◌, ◌+◌, ◌*◌, ◌<◌, ℕ, List, length, get_or, vec_len, arith, ap, subst, ◌∙◌}
use Rattle.std.proofs.Math.Nat.{mul_comm}
use Rattle.std.proofs.lemmas.List.{get_or-take}
use Rattle.noc_topo.specs.Shape.{nodes}
use Rattle.noc_route.specs.Columns.{AreKept}
use Rattle.noc_route.specs.Entered.{sets_in}
use Rattle.noc_route.specs.Routes.{width}
use Rattle.noc_route.specs.Trimming.{left_in, IsFirstLeft}
use Rattle.noc_route.proofs.ColumnLemmas.{AreKept-behind, AreKept-written, block-end, block-room, pairs-more, table-few}
use Rattle.noc_route.proofs.EntryLemmas.{pages-few}
use Rattle.noc_route.proofs.columns.keep_all.Goals as goal

pub leave_pair-first-requires-clause-pair : goal.leave_pair-first-requires-clause-pair
leave_pair-first-requires-clause-pair c =
    let f = c.args.leaving.now.map.now.sizes in
    subst (λ n. c.loop-pair.pair < n * f.classes) f.all_nodes c.loop-pair-test.true

pub keep_pair-end-requires-clause-sets : goal.keep_pair-end-requires-clause-sets
keep_pair-end-requires-clause-sets c =
    let room = block-room c.args.leaving.now.map.now.sizes c.loop-pair.pair c.loop-pair-test.true in
    omega (arith, room, c.requires.block, c.loop-pair.invariant.few, c.leave_pair-first.auto.block, c.loop-pair.auto.block, c.in_ok-resize.ensures.len, c.deref_mut.ensures.len)

pub keep_pair-end-requires-clause-room : goal.keep_pair-end-requires-clause-room
keep_pair-end-requires-clause-room c = omega (arith, c.in_ok-resize.ensures.len, c.deref_mut.ensures.len)

pub loop-pair-preserved : goal.loop-pair-preserved
loop-pair-preserved c =
    let f = c.args.leaving.now.map.now.sizes in
    let table = left_in f (sets_in f c.args.entered.now) c.args.leaving.now.outs.now in
    let n = nodes f.shape in
    let w = width f.shape f.vcs in
    let pair = c.loop-pair.pair in
    let end = c.loop-pair.end in
    let next = c.keep_pair-end.result in
    let old = c.deref_mut.result.now in
    let new = c.keep_pair-end.new.sets in
    let starts = c.keep_pair-end.new.starts in
    let g = c.keep_pair-end.ensures in
    let behind : AreKept f table old c.loop-pair.starts pair end
    = AreKept-behind f table c.loop-pair.sets.items old c.loop-pair.starts pair end
    (λ j l. ap (λ (xs : List ℕ). get_or xs j 0) c.deref_mut.ensures.value ∙ c.in_ok-resize.ensures.by_index.0 j 0 (omega (arith, l)) (omega (arith, l, c.loop-pair.invariant.within)))
    c.loop-pair.invariant.kept in
    let more : AreKept f table new starts (pair + 1) next = pairs-more f table old new c.leave_pair-first.new.block c.loop-pair.starts starts pair end next c.leave_pair-first.ensures.block g behind in
    let long : length new ≡ c.resize.new.self.len = omega (arith, c.keep_pair-end.auto.sets, c.deref_mut.ensures.len) in
    let size : length c.leave_pair-first.new.block ≡ n * w = omega (arith, c.requires.block, c.leave_pair-first.auto.block, c.loop-pair.auto.block) in
    record {
      few = block-end pair end next n w c.loop-pair.invariant.few g.few;
      within = omega (arith, g.few, mul_comm w n, size, c.in_ok-resize.ensures.len);
      kept = AreKept-written f table new starts c.resize.new.self.items c.resize.new.self.len (pair + 1) next long more;
      first = c.leave_pair-first.ensures.first;
    }

pub returns-clause-kept : goal.returns-clause-kept
returns-clause-kept c =
    let f = c.args.leaving.now.map.now.sizes in
    let table = left_in f (sets_in f c.args.entered.now) c.args.leaving.now.outs.now in
    let sets = c.loop-pair.sets.items in
    let starts = c.loop-pair.starts in
    let end = c.loop-pair.end in
    let last : c.loop-pair.pair ≡ f.node_count * f.classes = omega (arith, c.loop-pair-test.false, c.loop-pair.auto.pair-end) in
    let kept : AreKept f table sets starts (nodes f.shape * f.classes) end = subst (λ p. AreKept f table sets starts p end) (last ∙ ap (λ n. n * f.classes) f.all_nodes) c.loop-pair.invariant.kept in
    let count : end ≡ vec_len c.shrink_to_fit.new.self = omega (arith, c.loop-pair.invariant.within, c.truncate.ensures.len, c.shrink_to_fit.ensures.len) in
    let after = c.shrink_to_fit.new.self.items in
    let cut : AreKept f table after starts (nodes f.shape * f.classes) end
    = AreKept-behind f table sets after starts (nodes f.shape * f.classes) end
    (λ j l. ap (λ (xs : List ℕ). get_or xs j 0) (c.shrink_to_fit.ensures.items ∙ c.truncate.ensures.items) ∙ get_or-take end sets j 0 l)
    kept in
    subst (λ n. AreKept f table after starts (nodes f.shape * f.classes) n) count cut

pub returns-clause-first : goal.returns-clause-first
returns-clause-first c =
    let f = c.args.leaving.now.map.now.sizes in
    let P : ℕ → Type 0 = λ p. IsFirstLeft f (sets_in f c.args.entered.now) c.args.leaving.now.outs.now (p * nodes f.shape * width f.shape f.vcs) c.loop-pair.first in
    let last : c.loop-pair.pair ≡ f.node_count * f.classes = omega (arith, c.loop-pair-test.false, c.loop-pair.auto.pair-end) in
    subst P (last ∙ ap (λ n. n * f.classes) f.all_nodes) c.loop-pair.invariant.first

pub leave_pair-first-requires-clause-all : goal.leave_pair-first-requires-clause-all
leave_pair-first-requires-clause-all c = c.requires.all

pub leave_pair-first-requires-clause-coming : goal.leave_pair-first-requires-clause-coming
leave_pair-first-requires-clause-coming c = c.loop-pair.auto.coming ∙ c.requires.coming

pub leave_pair-first-requires-clause-block : goal.leave_pair-first-requires-clause-block
leave_pair-first-requires-clause-block c = c.loop-pair.auto.block ∙ c.requires.block

pub leave_pair-first-requires-clause-first : goal.leave_pair-first-requires-clause-first
leave_pair-first-requires-clause-first c = c.loop-pair.invariant.first

pub keep_pair-end-requires-clause-block : goal.keep_pair-end-requires-clause-block
keep_pair-end-requires-clause-block c = c.leave_pair-first.auto.block ∙ c.loop-pair.auto.block ∙ c.requires.block

pub keep_pair-end-requires-clause-pair : goal.keep_pair-end-requires-clause-pair
keep_pair-end-requires-clause-pair c =
    let f = c.args.leaving.now.map.now.sizes in
    subst (λ n. c.loop-pair.pair < n * f.classes) f.all_nodes c.loop-pair-test.true

pub keep_pair-end-requires-clause-starts : goal.keep_pair-end-requires-clause-starts
keep_pair-end-requires-clause-starts c = c.loop-pair.auto.starts ∙ c.requires.starts

pub overflow_mul-pair-end : goal.overflow_mul-pair-end
overflow_mul-pair-end c =
    let f = c.args.leaving.now.map.now.sizes in
    omega (arith, pages-few f.node_count f.classes f.few_nodes f.few_classes)

pub overflow_add-end : goal.overflow_add-end
overflow_add-end c =
    let f = c.args.leaving.now.map.now.sizes in
    omega (arith, block-room f c.loop-pair.pair c.loop-pair-test.true, table-few f, c.loop-pair.invariant.few, c.requires.block, c.leave_pair-first.auto.block, c.loop-pair.auto.block)

pub loop-pair-init : goal.loop-pair-init
loop-pair-init c = record {
  few = omega arith;
  within = omega arith;
  kept = record { within = λ q i l. absurd (omega (arith, l)); same = λ q i t l. absurd (omega (arith, l)) };
  first = λ b i l m n. absurd (omega (arith, n));
}
