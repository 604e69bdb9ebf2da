use Rattle.std.proofs.Common.{◌≡◌, ◌+◌, ◌*◌, ◌<◌, ℕ, length, get_or, set, subst, sym, ap, ◌∙◌, arith}
use Rattle.std.specs.Prelude.{◌||◌, ◌&&◌, nat_eq, nat_lt}
use Rattle.noc_route.specs.Entered.{has_row_at}
use Rattle.noc_route.specs.Routes.{width, page_of}
use Rattle.std.proofs.lemmas.List.{get_or_default, take_all}
use Rattle.noc_packet.specs.Set.{has_bit}
use Rattle.noc_route.specs.Trimming.{routes_in}
use Rattle.noc_route.specs.declared.rule.RouteRow.{RouteRow}
use Rattle.noc_route.proofs.EnterLemmas.{HasRows, HasRows-none, HasRows-more, IsWithinTable-real, row_index}
use Rattle.noc_route.proofs.EntryLemmas.{zeros-length, zeros-at}
use Rattle.noc_route.proofs.enter.enter_rows.Goals as goal

abbrev no_row : RouteRow
no_row = record { class = 0; router = 0; in_port = 0; in_vc = 0; dst = 0; out_port = 0; out_vc = 0 }

pub page-page-requires-clause-class : goal.page-page-requires-clause-class
page-page-requires-clause-class c = (IsWithinTable-real (routes_in c.args.map.now.sizes c.loop-row.sets) _ (c.requires.rows c.loop-row.row-index no_row c.loop-row-test.true)).class

pub page-page-requires-clause-router : goal.page-page-requires-clause-router
page-page-requires-clause-router c = (IsWithinTable-real (routes_in c.args.map.now.sizes c.loop-row.sets) _ (c.requires.rows c.loop-row.row-index no_row c.loop-row-test.true)).router

pub index-input-requires-clause-port : goal.index-input-requires-clause-port
index-input-requires-clause-port c = (IsWithinTable-real (routes_in c.args.map.now.sizes c.loop-row.sets) _ (c.requires.rows c.loop-row.row-index no_row c.loop-row-test.true)).in_port

pub index-input-requires-clause-vc : goal.index-input-requires-clause-vc
index-input-requires-clause-vc c = (IsWithinTable-real (routes_in c.args.map.now.sizes c.loop-row.sets) _ (c.requires.rows c.loop-row.row-index no_row c.loop-row-test.true)).in_vc

pub page-page-requires-clause-dst : goal.page-page-requires-clause-dst
page-page-requires-clause-dst c = (IsWithinTable-real (routes_in c.args.map.now.sizes c.loop-row.sets) _ (c.requires.rows c.loop-row.row-index no_row c.loop-row-test.true)).dst

pub index-requires-clause-port : goal.index-requires-clause-port
index-requires-clause-port c = (IsWithinTable-real (routes_in c.args.map.now.sizes c.loop-row.sets) _ (c.requires.rows c.loop-row.row-index no_row c.loop-row-test.true)).out_port

pub index-requires-clause-vc : goal.index-requires-clause-vc
index-requires-clause-vc c = (IsWithinTable-real (routes_in c.args.map.now.sizes c.loop-row.sets) _ (c.requires.rows c.loop-row.row-index no_row c.loop-row-test.true)).out_vc

pub loop-row-preserved : goal.loop-row-preserved
loop-row-preserved c =
    let routes = routes_in c.args.map.now.sizes c.loop-row.sets in
    let row = get_or c.args.rows.now c.loop-row.row-index no_row in
    let f = c.args.map.now.sizes in
    let within : c.slot-slot.result < length c.loop-row.sets = omega (arith, c.slot-slot.ensures.within, c.loop-row.auto.sets, zeros-length _ _ c.requires.blank) in
    let at_entry : c.slot-slot.result ≡ row_index routes row
    = c.slot-slot.ensures.value ∙ ap (λ b. b * width f.shape f.vcs + c.index-input.result) c.page-page.ensures.value
    ∙ ap (λ i. page_of f.shape f.classes row.class row.router row.dst * width f.shape f.vcs + i) c.index-input.ensures.value in
    let had : c.index-sets-slot.result ≡ get_or c.loop-row.sets (row_index routes row) 0
    = c.index-sets-slot.is ∙ get_or_default c.loop-row.sets c.slot-slot.result c.index-sets-slot.result 0 within ∙ ap (λ j. get_or c.loop-row.sets j 0) at_entry in
    let P : ℕ → Type 0 = λ index. HasRows routes (set c.loop-row.sets index c.with.result) c.args.rows.now (c.loop-row.row-index + 1) in
    subst P (sym at_entry)
    (HasRows-more routes c.loop-row.sets c.args.rows.now c.loop-row.row-index row c.with.result (c.loop-row.auto.sets ∙ zeros-length _ _ c.requires.blank) c.loop-row-test.true
    (λ d. get_or_default c.args.rows.now c.loop-row.row-index d no_row c.loop-row-test.true)
    (IsWithinTable-real routes row (c.requires.rows c.loop-row.row-index no_row c.loop-row-test.true))
    (λ k. c.with.ensures.members k ∙ ap (λ x. nat_eq k x || has_bit c.index-sets-slot.result k) c.index.ensures.value
    ∙ ap (λ s. nat_eq k (row.out_port * c.args.map.now.sizes.vcs + row.out_vc) || has_bit s k) had)
    c.loop-row.invariant)

pub loop-row-init : goal.loop-row-init
loop-row-init c = HasRows-none (routes_in c.args.map.now.sizes c.args.sets.now) c.args.sets.now c.args.rows.now (zeros-at _ _ c.requires.blank)

pub with-requires : goal.with-requires
with-requires c = c.index.ensures.few

pub bounds-sets-slot : goal.bounds-sets-slot
bounds-sets-slot c = let P : ℕ → Type 0 = λ n. c.slot-slot.result < n in subst P (sym (c.loop-row.auto.sets ∙ zeros-length _ _ c.requires.blank)) c.slot-slot.ensures.within

pub returns : goal.returns
returns c = λ b i k m o.
    let f = c.args.map.now.sizes in
    c.loop-row.invariant b i k m o
    ∙ ap (λ rows. nat_lt k (width f.shape f.vcs) && has_row_at (routes_in f c.loop-row.sets) rows b i k) (take_all c.loop-row.row-index c.args.rows.now c.loop-row-test.false)

pub bounds-sets-slot-in-loop-row : goal.bounds-sets-slot-in-loop-row
bounds-sets-slot-in-loop-row c =
    let P : ℕ → Type 0 = λ n. c.slot-slot.result < n in subst P (sym (c.loop-row.auto.sets ∙ zeros-length _ _ c.requires.blank)) c.slot-slot.ensures.within

pub offset_bounds-sets-slot : goal.offset_bounds-sets-slot
offset_bounds-sets-slot c =
    let within : c.slot-slot.result < length c.loop-row.sets = omega (arith, c.slot-slot.ensures.within, c.loop-row.auto.sets, zeros-length _ _ c.requires.blank) in
    omega arith

pub offset_bounds-sets-slot-in-loop-row : goal.offset_bounds-sets-slot-in-loop-row
offset_bounds-sets-slot-in-loop-row c =
    let within : c.slot-slot.result < length c.loop-row.sets = omega (arith, c.slot-slot.ensures.within, c.loop-row.auto.sets, zeros-length _ _ c.requires.blank) in
    omega arith

pub bounds-rows-row-index : goal.bounds-rows-row-index
bounds-rows-row-index c = c.loop-row-test.true

pub offset_bounds-rows-row-index : goal.offset_bounds-rows-row-index
offset_bounds-rows-row-index c = let within : c.loop-row.row-index < length c.args.rows.now = c.loop-row-test.true in omega arith
