use Rattle.std.proofs.Common.{◌≡◌, List, length, Option, None, arith, ap, sym, ◌∙◌, subst, ℕ, Ok, Err}
use Rattle.std.specs.Prelude.{is_none}
use Rattle.std.specs.Ordering.{nat_cmp}
use Rattle.std.specs.List.Sorted.{IsBinarySearchResult}
use Rattle.std.proofs.lemmas.List.{get_or_read}
use Rattle.noc_router.proofs.ArrivalLemmas.{absent-expected, found-expected, found-noted, index-found, index-absent, none-from_some, none-from_not_some}
use Rattle.noc_router.proofs.arrivals.Arrivals.note.Goals as goal

pub returns-in_default-clause-expected : goal.returns-in_default-clause-expected
returns-in_default-clause-expected c =
    let a = c.args.self.now in
    let es : List ℕ = a.ends.items in
    sym (absent-expected es a.cycles.items c.args.packet (index-absent es c.args.packet c.in_default.field-0 a.rising
    (let P = λ (xs : List ℕ). IsBinarySearchResult (λ y. nat_cmp y c.args.packet) xs (Err c.in_default.field-0) in subst P c.deref.ensures.value c.in_default.ensures.position)))

pub returns-then-is_some-clause-expected : goal.returns-then-is_some-clause-expected
returns-then-is_some-clause-expected c =
    let a = c.args.self.now in
    let es : List ℕ = a.ends.items in
    let r = index-found es c.args.packet c.in-Ok.index a.rising
    (let P = λ (xs : List ℕ). IsBinarySearchResult (λ y. nat_cmp y c.args.packet) xs (Ok c.in-Ok.index) in subst P c.deref.ensures.value c.in-Ok.ensures.position) in
    let same : length a.cycles.items ≡ length es = omega (arith, a.one_each, a.ends.ok.0, a.cycles.ok.0) in
    let here = get_or_read a.cycles.items c.in-Ok.index c.index.result.now (omega (arith, r.0)) c.index.ensures None in
    sym (found-expected es a.cycles.items c.args.packet c.in-Ok.index same r.0 r.1 r.2 ∙ ap (λ (o : Option ℕ). is_none o) (sym here) ∙ none-from_some c.index.result.now (sym c.if-is_some.ensures))

pub returns-clause-expected : goal.returns-clause-expected
returns-clause-expected c =
    let a = c.args.self.now in
    let es : List ℕ = a.ends.items in
    let r = index-found es c.args.packet c.in-Ok.index a.rising
    (let P = λ (xs : List ℕ). IsBinarySearchResult (λ y. nat_cmp y c.args.packet) xs (Ok c.in-Ok.index) in subst P c.deref.ensures.value c.in-Ok.ensures.position) in
    let same : length a.cycles.items ≡ length es = omega (arith, a.one_each, a.ends.ok.0, a.cycles.ok.0) in
    let here = get_or_read a.cycles.items c.in-Ok.index c.index.result.now (omega (arith, r.0)) c.index.ensures None in
    sym (found-expected es a.cycles.items c.args.packet c.in-Ok.index same r.0 r.1 r.2 ∙ ap (λ (o : Option ℕ). is_none o) (sym here) ∙ none-from_not_some c.index.result.now (sym c.if-is_some.ensures))

pub returns-clause-noted : goal.returns-clause-noted
returns-clause-noted c =
    let a = c.args.self.now in
    let es : List ℕ = a.ends.items in
    let r = index-found es c.args.packet c.in-Ok.index a.rising
    (let P = λ (xs : List ℕ). IsBinarySearchResult (λ y. nat_cmp y c.args.packet) xs (Ok c.in-Ok.index) in subst P c.deref.ensures.value c.in-Ok.ensures.position) in
    let same : length a.cycles.items ≡ length es = omega (arith, a.one_each, a.ends.ok.0, a.cycles.ok.0) in
    found-noted es a.cycles.items c.args.packet c.in-Ok.index c.args.cycle same r.0 r.1 r.2
