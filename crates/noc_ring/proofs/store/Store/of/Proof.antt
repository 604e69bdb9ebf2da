-- The block goes into the struct.
use Rattle.std.proofs.Common.{◌≡◌, List, [], ◌∷◌, ◌++◌, refl}
use Rattle.std.proofs.raw_atomic.Walks.{proved}
use base.Logic.{emp}
use base.Fml.{ftrue, feq, fsep}
use mir.Val.{Val, vstruct, vcons, vnil, of_list}
use contract.Monad.{fact, fact_i}
use contract.Running.{tables}
use types.Kit.{‵, raw, ◌⊛◌, ◌$◌, ◌∵◌, !, qed, done, move, keep, split, join, fjoin, fpack, feq_i, use0, suffices}
use types.Part.{agg}
use types.Run.{enter, of_opd, no_more, and_then, returns}
use types.ByLocal.{alloc_all, pass_all, free_all, look_at, get, sets}
use denote.Exit.{yes}
use denote.RattleType.{Valss, owns}
use denote.Signature.{plain, types_at}
use denote.Steps.{nothing}
use denote.Triple.Entry.{alive}
use denote.Triple.Walked.{Stays, walk_of, stay_dropped, ends_at}
use Rattle.core.proofs.alloc.Calls.{Goes-blank}
use Rattle.std.specs.Mem.Slots.{slots_items, slots_filled}
use Rattle.noc_ring.specs.contracts.store.SlotBlock.{the_row as SlotBlock, the_type as Fields}
use Rattle.noc_ring.proofs.store.SlotBlock.TheLaws as block
use Rattle.noc_ring.specs.contracts.store.Store as C
use Rattle.noc_ring.specs.contracts.store.Store.of as f
use Rattle.noc_ring.specs.declared.store.Store.TheInside.{Inside}
use Rattle.noc_ring.proofs.store.Store.TheInside.TheLaws as inner
use Rattle.noc_ring.proofs.store.Store.of.Statement.{statement}
use Rattle.noc_ring.proofs.store.Store.of.Code as code

abbrev stayed : Stays f.ended.signature.params f.ended.kept
stayed = (stay_dropped (plain (λ _. SlotBlock)) yes, tt)

pub of_spec : {M : Type 1} → statement M
of_spec 𝓤 𝓛 𝓜 𝓡 wired =
    let c = f.clauses 𝓛 𝓜.mem 𝓡.returns in let W = walk_of 𝓛 f.ended stayed c in let 𝓣 = tables 𝓤 𝓛.H 𝓜 𝓡 𝓡.env in
    proved 𝓛 f.ended stayed c 𝓜 𝓡 (Goes-blank 𝓛 0 (plain (λ _. SlotBlock)) yes (λ κs x f. tt), tt)
    f.Key.name code.function (code.unfolded 𝓤 𝓛.H 𝓜 𝓡 wired)
    (λ κs. ((λ d. block.lowered d ∷ []), tt)) (λ κs. (block.lowers.val_is, tt)) (λ κs qs bounds a _ are.
    let d : SlotBlock.Denot = a.0 in let v : Val = block.lowered d in let u : Val = vstruct (vcons v vnil) in
    let typed = (block.the_field_laws.lawful 𝓛).typed (Fields.to d) (v ∷ []) are.0 in
    let inside : Inside = record { block = d } in let result : C.the_row.Denot = C.the_view inside in
    let made = (inner.the_field_laws.lawful 𝓛).typed inside (u ∷ []) (((v ∷ [], tt), (refl, (are.0, tt))), tt) in
    let Told : Type 0 = (result.flits ≡ slots_items d.slots) × (result.filled ≡ slots_filled d.slots) in
    let y : W.Ghost = ((κs, qs, bounds, a, (v ∷ [], tt)), tt) in
    qed 𝓛 ((raw (alive 𝓛 f.ended.signature κs qs) ⊛ ‵ (owns (types_at f.ended.signature.params κs) a y.0.4)) ∷ raw ((c κs a).requires tt) ∷ []) ∵
    split ! $ keep ! (1 ∷ 0 ∷ []) $ feq_i ! (List Val) (u ∷ []) (u ∷ []) refl $ fjoin ! $
    fpack ! (Valss (SlotBlock ∷ [])) (λ vss. fsep (feq (List Val) (u ∷ []) (vstruct (of_list (vss.0 ++ [])) ∷ [])) (owns (SlotBlock ∷ []) (d, tt) vss)) (v ∷ [], tt) $
    nothing ! $ move ! (1 ∷ 0 ∷ []) $ fjoin ! $ nothing ! $ move ! (1 ∷ 0 ∷ []) $ fjoin ! $
    fpack ! ((x : Inside) × ((C.the_view x ≡ result) × C.the_invariant x)) (λ x. fsep (C.TheInside.the_row.own_val x.0 (u ∷ [])) ftrue) (inside, (refl, tt)) $
    enter ! 𝓣.C 𝓣.Λ code.function (v ∷ []) (W.post y) $ alloc_all ! (λ l. pass_all ! refl (typed.0, tt) $
    sets ! (of_opd ! (get ! refl)) refl typed.0 $ sets ! (agg ! (and_then ! (get ! refl) (no_more !))) refl made.0 $
    use0 𝓛 (raw (fact 𝓤 Told)) (fact_i 𝓤 Told (emp 𝓤) (refl, refl)) $ nothing ! $ nothing ! $ fjoin ! $
    returns ! (look_at ! 0 refl) $ free_all ! refl $ keep ! (3 ∷ 0 ∷ 2 ∷ 1 ∷ []) $
    suffices ! _ (ends_at 𝓛 f.ended stayed c y u result ((tt, (tt, tt)), tt) (tt, tt)) $ move ! (1 ∷ 2 ∷ []) $ join ! $ move ! (1 ∷ 0 ∷ []) $ join ! $ done !))
