use Rattle.std.proofs.Common.{◌≡◌, ap, subst, sym, ◌∙◌, arith}
use Rattle.std.proofs.lemmas.List.{get_or_default}
use Rattle.noc_route.specs.Entered.{AreAll, sets_in}
use Rattle.noc_route.specs.Routes.{pages}
use Rattle.noc_route.specs.Trimming.{routes_in, page_set}
use Rattle.noc_route.specs.declared.entered.Entered.{Entered}
use Rattle.noc_route.proofs.EnterLemmas.{page_set-pages}
use Rattle.noc_route.proofs.entered.Entered.set.Goals as goal

pub returns-in-OfPages : goal.returns-in-OfPages
returns-in-OfPages c =
    let f = c.args.sizes.now in
    let sets = c.in-OfPages.sets in
    let P : Entered → Type 0 = λ e. AreAll f e in
    let all : sets.len ≡ pages f.shape f.classes = subst P c.in-OfPages.is c.requires.all in
    c.index.ensures ∙ get_or_default sets.items c.args.page c.index.result.now 0 (omega (arith, all, sets.ok, c.requires.page))
    ∙ sym (ap (λ e. page_set (routes_in f (sets_in f e)) c.args.page c.args.input) c.in-OfPages.is ∙ page_set-pages f sets.items c.args.page c.args.input c.requires.page c.requires.input)
