use Rattle.std.proofs.Common.{◌≡◌, ◌+◌, ◌*◌, ◌/◌, ◌%◌, ◌<◌, ◌∙◌, ℕ, Some, true, false, subst, ap, sym, refl, arith}
use Rattle.std.specs.Prelude.{◌&&◌, nat_eq}
use Rattle.std.proofs.lemmas.Bool.{and_right}
use Rattle.std.proofs.lemmas.List.{get_or_default}
use Rattle.noc_route.specs.Entered.{AreAll, sets_in}
use Rattle.noc_route.specs.Order.{earlier_entry}
use Rattle.noc_route.specs.Routes.{width, pages}
use Rattle.noc_route.specs.Trimming.{routes_in, page_set, comes_at, entry_on_page, left_in, is_stuck_at, IsFirstStuck}
use Rattle.noc_route.specs.declared.entered.Entered.{Entered}
use Rattle.noc_route.specs.declared.rule.Entry.{Entry}
use Rattle.noc_route.proofs.EnterLemmas.{page_set-pages}
use Rattle.noc_route.proofs.StuckLemmas.{stuck-none, stuck-more}
use Rattle.noc_route.proofs.trim.stuck_page.Goals as goal
use Rattle.noc_route.proofs.trim.stuck_page.Goals.{then-is_stuck, else-is_stuck}

pub returns-then-not-is_empty : goal.returns-then-not-is_empty
returns-then-not-is_empty c =
    let f = c.args.leaving.now.map.now.sizes in
    let entered = c.args.entered.now in
    let routes = routes_in f (sets_in f entered) in
    let outs = c.args.leaving.now.outs.now in
    let w = width f.shape f.vcs in
    let page = c.args.page in
    let sets = c.in-OfPages.sets in
    let set = c.index.result.now in
    let A : Entered → Type 0 = λ e. AreAll f e in
    let all : sets.len ≡ pages f.shape f.classes = subst A c.in-OfPages.is c.requires.all in
    let had : (i : ℕ) → i < w → page_set routes page i ≡ set
    = λ i m. ap (λ e. page_set (routes_in f (sets_in f e)) page i) c.in-OfPages.is ∙ page_set-pages f sets.items page i c.requires.page m
    ∙ sym (c.index.ensures ∙ get_or_default sets.items page set 0 (omega (arith, all, sets.ok, c.requires.page))) in
    let some : nat_eq set 0 ≡ false = sym c.is_empty.ensures.bits ∙ c.if-not-is_empty.true in
    let free : (i : ℕ) → i < w → is_stuck_at routes outs page i ≡ false
    = λ i m. and_right (comes_at routes outs page i) (nat_eq (page_set routes page i) 0) (ap (λ s. nat_eq s 0) (had i m) ∙ some) in
    let P : ℕ → Type 0 = λ n. IsFirstStuck (routes_in f (left_in f (sets_in f entered) outs)) outs n c.args.first in
    let done : page * w + w ≡ (page + 1) * w = omega arith in
    subst P done (stuck-none f (sets_in f entered) outs page w c.args.first c.requires.page (omega arith) free c.requires.first)

pub loop-input-init : goal.loop-input-init
loop-input-init c =
    let f = c.args.leaving.now.map.now.sizes in
    let w = width f.shape f.vcs in
    let P : ℕ → Type 0 = λ n. IsFirstStuck (routes_in f (left_in f (sets_in f c.args.entered.now) c.args.leaving.now.outs.now)) c.args.leaving.now.outs.now n c.args.first in
    let same : c.args.page * w ≡ c.args.page * w + 0 = omega arith in
    subst P same c.requires.first

pub loop-input-preserved : goal.loop-input-preserved
loop-input-preserved c =
    let f = c.args.leaving.now.map.now.sizes in
    let sets = sets_in f c.args.entered.now in
    let routes = routes_in f sets in
    let outs = c.args.leaving.now.outs.now in
    let i = c.loop-input.input in
    let parts = c.page_parts-class.result in
    let told = c.page_parts-class.ensures in
    let inside : i < width f.shape f.vcs = omega (arith, c.width-input-end.ensures.value, c.loop-input-test.true) in
    let entry : Entry = record { class = parts.0; router = parts.1; in_port = i / f.vcs; in_vc = i % f.vcs; dst = parts.2 } in
    let here : entry ≡ entry_on_page routes c.args.page i = rw (told.class, told.router, told.dst) refl in
    let stuck : is_stuck_at routes outs c.args.page i ≡ c.is_stuck.result
    = ap (λ b. b && nat_eq (page_set routes c.args.page i) 0) (sym (c.requires.coming i inside)) ∙ sym c.is_stuck.ensures in
    let more = stuck-more f sets outs c.args.page i c.loop-input.first c.if-is_stuck.first in
    elim c.if-is_stuck.branch [
      | then-is_stuck b ↦ more true c.requires.page inside (stuck ∙ b.if-is_stuck.true) (b.first-is ∙ ap Some (b.earlier.ensures ∙ ap (λ e. earlier_entry e c.loop-input.first) here)) c.loop-input.invariant
      | else-is_stuck b ↦ more false c.requires.page inside (stuck ∙ b.if-is_stuck.false) b.first-is c.loop-input.invariant
    ]

pub returns : goal.returns
returns c =
    let f = c.args.leaving.now.map.now.sizes in
    let w = width f.shape f.vcs in
    let P : ℕ → Type 0 = λ n. IsFirstStuck (routes_in f (left_in f (sets_in f c.args.entered.now) c.args.leaving.now.outs.now)) c.args.leaving.now.outs.now n c.loop-input.first in
    let done : c.args.page * w + c.loop-input.input ≡ (c.args.page + 1) * w = omega (arith, c.width-input-end.ensures.value, c.loop-input-test.false, c.loop-input.auto.input-end) in
    subst P done c.loop-input.invariant
