use Rattle.std.proofs.Common.{◌≡◌, List, length, None, arith, sym, ◌∙◌, subst, ℕ, Ok, Err}
use Rattle.std.specs.Ordering.{nat_cmp}
use Rattle.std.specs.List.Sorted.{IsBinarySearchResult}
use Rattle.std.proofs.lemmas.List.{get_or_read}
use Rattle.noc_router.proofs.ArrivalLemmas.{absent-arrival, found-arrival, index-found, index-absent}
use Rattle.noc_router.proofs.arrivals.Arrivals.cycle_of.Goals as goal

pub returns-in-Ok : goal.returns-in-Ok
returns-in-Ok c =
    let a = c.args.self.now in
    let es : List ℕ = a.ends.items in
    let r = index-found es c.args.packet c.in-Ok.index a.rising
    (let P = λ (xs : List ℕ). IsBinarySearchResult (λ y. nat_cmp y c.args.packet) xs (Ok c.in-Ok.index) in subst P c.deref.ensures.value c.in-Ok.ensures.position) in
    let same : length a.cycles.items ≡ length es = omega (arith, a.one_each, a.ends.ok.0, a.cycles.ok.0) in
    get_or_read a.cycles.items c.in-Ok.index c.index.result.now (omega (arith, r.0)) c.index.ensures None
    ∙ sym (found-arrival es a.cycles.items c.args.packet c.in-Ok.index same r.0 r.1 r.2)

pub returns-in-Err : goal.returns-in-Err
returns-in-Err c =
    let a = c.args.self.now in
    let es : List ℕ = a.ends.items in
    sym (absent-arrival es a.cycles.items c.args.packet (index-absent es c.args.packet c.in-Err.field-0 a.rising
    (let P = λ (xs : List ℕ). IsBinarySearchResult (λ y. nat_cmp y c.args.packet) xs (Err c.in-Err.field-0) in subst P c.deref.ensures.value c.in-Err.ensures.position)))
