use Rattle.std.proofs.Common.{◌≡◌, ℕ, ◌+◌, ◌*◌, ◌<◌, ◌∙◌, sym, ap, arith, subst, get_or}
use Rattle.std.specs.Prelude.{◌&&◌, not}
use Rattle.std.proofs.lemmas.List.{get_or_default}
use Rattle.noc_packet.specs.Set.{has_bit}
use Rattle.noc_topo.specs.Shape.{ports}
use Rattle.noc_route.specs.Routes.{width, pages}
use Rattle.noc_route.specs.Entered.{AreAll, sets_in}
use Rattle.noc_route.specs.Trimming.{routes_in, set_in, page_set, comes_in}
use Rattle.noc_route.specs.declared.entered.Entered.{Entered}
use Rattle.noc_route.proofs.EnterLemmas.{page_set-pages}
use Rattle.noc_route.proofs.TrimLemmas.{any_below-same, any_below-and, any_of_set, has_bit-only}
use Rattle.noc_route.proofs.EntryLemmas.{flat-below}
use Rattle.noc_route.proofs.ColumnLemmas.{row-end}
use Rattle.noc_steps.specs.Reached.{any_below}
use Rattle.noc_route.proofs.gather.Table.leaving.Goals as goal

pub returns-in-OfPages : goal.returns-in-OfPages
returns-in-OfPages c = λ k l.
    let f = c.args.self.now.map.now.sizes in
    let entered = c.args.self.now.entered.now in
    let routes = routes_in f (sets_in f entered) in
    let outs = c.args.outs.now in
    let w = width f.shape f.vcs in
    let page = c.page-page.result in
    let coming = c.arrivals-coming.result in
    let sets = c.in-OfPages.sets in
    let set = c.index.result.now in
    let comes = λ (i : ℕ). comes_in routes outs c.args.class c.args.router c.args.dst i in
    let P : Entered → Type 0 = λ e. AreAll f e in
    let all : sets.len ≡ pages f.shape f.classes = subst P c.in-OfPages.is c.args.self.now.all in
    let had : (i : ℕ) → i < w → set ≡ set_in routes c.args.class c.args.router c.args.dst i
    = λ i m. c.index.ensures ∙ get_or_default sets.items page set 0 (omega (arith, all, sets.ok, c.page-page.ensures.within))
    ∙ sym (ap (λ e. page_set (routes_in f (sets_in f e)) page i) c.in-OfPages.is ∙ page_set-pages f sets.items page i c.page-page.ensures.within m)
    ∙ ap (λ b. page_set routes b i) c.page-page.ensures.value in
    ap (λ s. has_bit s k) c.only_if.ensures
    ∙ has_bit-only (not c.is_empty.result) set k
    ∙ ap (λ b. b && has_bit set k) (ap not c.is_empty.ensures.bits ∙ any_of_set w coming c.arrivals-coming.ensures.within)
    ∙ sym (any_below-and w (has_bit coming) (has_bit set k))
    ∙ any_below-same w (λ i. has_bit coming i && has_bit set k) (λ i. comes i && has_bit (set_in routes c.args.class c.args.router c.args.dst i) k)
    (λ i m. ap (λ b. b && has_bit set k) (c.arrivals-coming.ensures.members (sets_in f entered) i m) ∙ ap (λ s. comes i && has_bit s k) (had i m))

pub slot-requires-clause-input : goal.slot-requires-clause-input
slot-requires-clause-input c = let f = c.args.self.now.map.now.sizes in let some = flat-below 0 (ports f.shape) 0 f.vcs (omega arith) f.some_vcs in omega (arith, some)

pub taken-requires-clause-sets : goal.taken-requires-clause-sets
taken-requires-clause-sets c =
    let f = c.args.self.now.map.now.sizes in
    let P : Entered → Type 0 = λ e. AreAll f e in
    let all : c.in-OfEntries.sets.len ≡ pages f.shape f.classes * width f.shape f.vcs = subst P c.in-OfEntries.is c.args.self.now.all in
    let room = row-end c.page-page.result (pages f.shape f.classes) (width f.shape f.vcs) c.page-page.ensures.within in
    omega (arith, all, room, c.slot.ensures.value, c.width.ensures.value, c.deref.ensures.len)

pub returns-in-OfEntries : goal.returns-in-OfEntries
returns-in-OfEntries c = λ k l.
    let f = c.args.self.now.map.now.sizes in
    let entered = c.args.self.now.entered.now in
    let routes = routes_in f (sets_in f entered) in
    let outs = c.args.outs.now in
    let w = width f.shape f.vcs in
    let coming = c.arrivals-coming.result in
    let sets = c.in-OfEntries.sets.items in
    let comes = λ (i : ℕ). comes_in routes outs c.args.class c.args.router c.args.dst i in
    let place : (i : ℕ) → c.slot.result + i ≡ c.page-page.result * w + i = λ i. omega (arith, c.slot.ensures.value) in
    let had : (i : ℕ) → get_or c.deref.result.now (c.slot.result + i) 0 ≡ set_in routes c.args.class c.args.router c.args.dst i
    = λ i. ap (λ xs. get_or xs (c.slot.result + i) 0) c.deref.ensures.value ∙ ap (λ n. get_or sets n 0) (place i)
    ∙ sym (ap (λ e. page_set (routes_in f (sets_in f e)) c.page-page.result i) c.in-OfEntries.is) ∙ ap (λ b. page_set routes b i) c.page-page.ensures.value in
    c.taken.ensures k
    ∙ ap (λ n. any_below n (λ i. has_bit coming i && has_bit (get_or c.deref.result.now (c.slot.result + i) 0) k)) c.width.ensures.value
    ∙ any_below-same w (λ i. has_bit coming i && has_bit (get_or c.deref.result.now (c.slot.result + i) 0) k) (λ i. comes i && has_bit (set_in routes c.args.class c.args.router c.args.dst i) k)
    (λ i m. ap (λ b. b && has_bit (get_or c.deref.result.now (c.slot.result + i) 0) k) (c.arrivals-coming.ensures.members (sets_in f entered) i m) ∙ ap (λ s. comes i && has_bit s k) (had i))
