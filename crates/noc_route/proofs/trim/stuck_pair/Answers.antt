use Rattle.std.proofs.Common.{◌≡◌, ◌+◌, ◌*◌, ◌<◌, ◌∙◌, ℕ, subst, ap, sym, add_assoc, arith}
use Rattle.std.proofs.lemmas.List.{get_or_default}
use Rattle.noc_packet.specs.Set.{has_bit}
use Rattle.noc_topo.specs.Shape.{nodes}
use Rattle.noc_route.specs.Entered.{sets_in}
use Rattle.noc_route.specs.Routes.{width, pages}
use Rattle.noc_route.specs.Trimming.{routes_in, comes_at, left_in, IsFirstStuck}
use Rattle.noc_route.proofs.ColumnLemmas.{page-in}
use Rattle.noc_route.proofs.EntryLemmas.{flat-below}
use Rattle.noc_route.proofs.trim.stuck_pair.Goals as goal

pub stuck_page-first-requires-clause-page : goal.stuck_page-first-requires-clause-page
stuck_page-first-requires-clause-page c =
    let f = c.args.leaving.now.map.now.sizes in
    let there : c.loop-dst.dst < nodes f.shape = omega (arith, c.loop-dst-test.true, f.all_nodes) in
    subst (λ n. c.args.pair * n + c.loop-dst.dst < pages f.shape f.classes) (sym f.all_nodes) (flat-below c.args.pair (nodes f.shape * f.classes) c.loop-dst.dst (nodes f.shape) c.requires.pair there)

pub stuck_page-first-requires-clause-coming : goal.stuck_page-first-requires-clause-coming
stuck_page-first-requires-clause-coming c = λ i m.
    let f = c.args.leaving.now.map.now.sizes in
    let dst = c.loop-dst.dst in
    let sets = sets_in f c.args.entered.now in
    let there : dst < nodes f.shape = omega (arith, c.loop-dst-test.true, f.all_nodes) in
    ap (λ s. has_bit s i) (c.index-coming-dst.is ∙ get_or_default c.args.coming.now dst c.index-coming-dst.result 0 (omega (arith, there, c.requires.len)))
    ∙ c.requires.coming sets dst i there m
    ∙ ap (λ n. comes_at (routes_in f sets) c.args.leaving.now.outs.now (c.args.pair * n + dst) i) (sym f.all_nodes)

pub stuck_page-first-requires-clause-first : goal.stuck_page-first-requires-clause-first
stuck_page-first-requires-clause-first c =
    let f = c.args.leaving.now.map.now.sizes in
    let outs = c.args.leaving.now.outs.now in
    let P : ℕ → Type 0 = λ n. IsFirstStuck (routes_in f (left_in f (sets_in f c.args.entered.now) outs)) outs ((c.args.pair * n + c.loop-dst.dst) * width f.shape f.vcs) c.loop-dst.first in
    subst P (sym f.all_nodes) c.loop-dst.invariant

pub overflow_mul-pair : goal.overflow_mul-pair
overflow_mul-pair c = omega (arith, page-in c.args.leaving.now.map.now.sizes c.args.pair c.loop-dst.dst c.requires.pair c.loop-dst-test.true)

pub overflow_add-pair : goal.overflow_add-pair
overflow_add-pair c = omega (arith, page-in c.args.leaving.now.map.now.sizes c.args.pair c.loop-dst.dst c.requires.pair c.loop-dst-test.true)

pub loop-dst-preserved : goal.loop-dst-preserved
loop-dst-preserved c =
    let f = c.args.leaving.now.map.now.sizes in
    let outs = c.args.leaving.now.outs.now in
    let dst = c.loop-dst.dst in
    let P : ℕ → Type 0 = λ page. IsFirstStuck (routes_in f (left_in f (sets_in f c.args.entered.now) outs)) outs (page * width f.shape f.vcs) c.stuck_page-first.result in
    subst P (ap (λ n. c.args.pair * n + dst + 1) f.all_nodes ∙ add_assoc (c.args.pair * nodes f.shape) dst 1) c.stuck_page-first.ensures

pub returns : goal.returns
returns c =
    let f = c.args.leaving.now.map.now.sizes in
    let P : ℕ → Type 0 = λ n. IsFirstStuck (routes_in f (left_in f (sets_in f c.args.entered.now) c.args.leaving.now.outs.now)) c.args.leaving.now.outs.now (n * width f.shape f.vcs) c.loop-dst.first in
    let all : c.args.pair * nodes f.shape + c.loop-dst.dst ≡ (c.args.pair + 1) * nodes f.shape = omega (arith, c.loop-dst-test.false, c.loop-dst.auto.dst-end, f.all_nodes) in
    subst P all c.loop-dst.invariant

pub stuck_page-first-requires-clause-all : goal.stuck_page-first-requires-clause-all
stuck_page-first-requires-clause-all c = c.requires.all

pub bounds-coming-dst : goal.bounds-coming-dst
bounds-coming-dst c = omega (arith, c.loop-dst-test.true, c.args.leaving.now.map.now.sizes.all_nodes, c.requires.len)

pub offset_bounds-coming-dst : goal.offset_bounds-coming-dst
offset_bounds-coming-dst c = omega (arith, c.loop-dst-test.true, c.args.leaving.now.map.now.sizes.few_nodes)

pub loop-dst-init : goal.loop-dst-init
loop-dst-init c =
    let f = c.args.leaving.now.map.now.sizes in
    let outs = c.args.leaving.now.outs.now in
    let P : ℕ → Type 0 = λ n. IsFirstStuck (routes_in f (left_in f (sets_in f c.args.entered.now) outs)) outs (n * width f.shape f.vcs) c.args.first in
    let none : c.args.pair * nodes f.shape ≡ c.args.pair * nodes f.shape + 0 = omega arith in
    subst P none c.requires.first
