use Rattle.std.proofs.Common.{◌≡◌, ◌∙◌, ℕ, List, ap, arith, length, subst, sym}
use Rattle.std.specs.Vec.{with_items}
use Rattle.std.proofs.lemmas.List.{with_items_is}
use Rattle.noc_route.specs.Listed.{AreNumbered, listed}
use Rattle.noc_route.proofs.set_list.SetList.of.Goals as goal

pub returns-in-None : goal.returns-in-None
returns-in-None c = ap (λ ns. listed c.args.sets.items ns) c.new.ensures.items

pub invariant_of-result : goal.invariant_of-result
invariant_of-result c = λ j l. absurd (omega (arith, l, ap (λ (ns : List ℕ). length ns) c.new.ensures.items))

pub list_of-requires-clause-numbered : goal.list_of-requires-clause-numbered
list_of-requires-clause-numbered c =
    let numbers = c.number_all.new.numbers in
    let P : List ℕ → List ℕ → Type 0 = λ sets ns. AreNumbered sets c.number_all.new.kinds ns (length sets) c.in-Some.count in
    let items : (with_items c.in_ok-numbers.numbers numbers).items ≡ numbers = with_items_is c.in_ok-numbers.numbers numbers (c.number_all.auto.numbers ∙ c.deref_mut.ensures.len) in
    subst (P c.args.sets.items) (sym items) (subst (λ sets. P sets numbers) c.deref.ensures.value c.in-Some.ensures.numbered)

pub number_all-requires : goal.number_all-requires
number_all-requires c = c.deref_mut.ensures.len ∙ c.in_ok-numbers.ensures.len ∙ c.len.ensures ∙ sym c.deref.ensures.len
