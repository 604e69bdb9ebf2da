use Rattle.std.proofs.Common.{◌≡◌, ◌≢◌, ◌∙◌, ◌<◌, ℕ, List, ap, arith, get_or, length, subst, sym}
use Rattle.std.proofs.lemmas.Bool.{eqb-false, eqb-true}
use Rattle.std.proofs.lemmas.List.{get_or_default}
use Rattle.noc_route.proofs.ListedLemmas.{listed-at, listed-long, listed-none}
use Rattle.noc_route.proofs.set_list.SetList.at.Goals as goal

pub returns-then-is_empty : goal.returns-then-is_empty
returns-then-is_empty c =
    let sets = c.self.inside.sets.items in
    let numbers = c.self.inside.numbers.items in
    let none : length numbers ≡ 0 = omega (arith, eqb-true _ _ (sym c.is_empty.ensures ∙ c.if-is_empty.true), c.self.inside.numbers.ok.0) in
    let same : sets ≡ c.args.self.now = sym (listed-none sets numbers none) ∙ c.self.view_is in
    c.index.ensures ∙ get_or_default sets c.args.place c.index.result.now 0 (omega (arith, c.requires, ap (λ (xs : List ℕ). length xs) same)) ∙ ap (λ xs. get_or xs c.args.place 0) same

pub returns-else-is_empty : goal.returns-else-is_empty
returns-else-is_empty c =
    let sets = c.self.inside.sets.items in
    let numbers = c.self.inside.numbers.items in
    let some : length numbers ≢ 0 = λ e. eqb-false _ _ (sym c.is_empty.ensures ∙ c.if-is_empty.false) (omega (arith, e, c.self.inside.numbers.ok.0)) in
    let inside : c.args.place < length numbers = omega (arith, c.requires, ap (λ (xs : List ℕ). length xs) c.self.view_is, listed-long sets numbers some) in
    let is : c.index-else-is_empty.result.now ≡ get_or numbers c.args.place 0 = c.index-else-is_empty.ensures ∙ get_or_default numbers c.args.place c.index-else-is_empty.result.now 0 inside in
    let there : c.index-else-is_empty.result.now < length sets = subst (λ k. k < length sets) (sym is) (c.self.invariant c.args.place inside) in
    c.index-else-is_empty-2.ensures ∙ get_or_default sets c.index-else-is_empty.result.now c.index-else-is_empty-2.result.now 0 there
    ∙ ap (λ k. get_or sets k 0) is ∙ sym (listed-at sets numbers c.args.place inside) ∙ ap (λ xs. get_or xs c.args.place 0) c.self.view_is

pub index-requires-else-is_empty : goal.index-requires-else-is_empty
index-requires-else-is_empty c =
    let sets = c.self.inside.sets.items in
    let numbers = c.self.inside.numbers.items in
    let long = listed-long sets numbers (λ e. eqb-false _ _ (sym c.is_empty.ensures ∙ c.if-is_empty.false) (omega (arith, e, c.self.inside.numbers.ok.0))) in
    omega (arith, c.requires, ap (λ (xs : List ℕ). length xs) c.self.view_is, long, c.self.inside.numbers.ok.0)

pub index-requires-else-is_empty-2 : goal.index-requires-else-is_empty-2
index-requires-else-is_empty-2 c =
    let sets = c.self.inside.sets.items in
    let numbers = c.self.inside.numbers.items in
    let some : length numbers ≢ 0 = λ e. eqb-false _ _ (sym c.is_empty.ensures ∙ c.if-is_empty.false) (omega (arith, e, c.self.inside.numbers.ok.0)) in
    let inside : c.args.place < length numbers = omega (arith, c.requires, ap (λ (xs : List ℕ). length xs) c.self.view_is, listed-long sets numbers some) in
    let is : c.index-else-is_empty.result.now ≡ get_or numbers c.args.place 0 = c.index-else-is_empty.ensures ∙ get_or_default numbers c.args.place c.index-else-is_empty.result.now 0 inside in
    let there : c.index-else-is_empty.result.now < length sets = subst (λ k. k < length sets) (sym is) (c.self.invariant c.args.place inside) in
    omega (arith, there, c.self.inside.sets.ok.0)
