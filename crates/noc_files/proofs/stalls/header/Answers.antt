use Rattle.std.proofs.Common.{◌≡◌, ◌∷◌, [], ◌++◌, List, ℕ, flat_map, length, take, get_or, ap, sym, ◌∙◌, arith, append_assoc, append-nil, length-append}
use Rattle.std.specs.Prelude.{codes}
use Rattle.noc_view.specs.Names.{column_name}
use Rattle.noc_view.specs.declared.verdict.TheConstants.Verdict.{ALL}
use Rattle.noc_view.specs.declared.verdict.Verdict.{Verdict}
use Rattle.noc_view.specs.declared.verdict.Verdict.TheVariants.{Empty}
use Rattle.noc_files.specs.Stalls.{stall_header}
use Rattle.noc_files.specs.Writing.{comma, line_end}
use Rattle.noc_files.proofs.VerdictLemmas.{name-short, said-all, said-more}
use Rattle.noc_files.proofs.stalls.header.Goals as goal

-- a name after a comma is added
more : (head said name old between next : List ℕ) → old ≡ head ++ said → between ≡ old ++ 44 ∷ []
    → next ≡ between ++ name → next ≡ head ++ (said ++ 44 ∷ name)
more head said name old between next so_far first then =
    then ∙ ap (λ (t : List ℕ). t ++ name) first ∙ append_assoc old (44 ∷ []) name
    ∙ ap (λ (t : List ℕ). t ++ 44 ∷ name) so_far ∙ append_assoc head said (44 ∷ name)

pub loop-index-init : goal.loop-index-init
loop-index-init c =
    let head = codes "router,port,vc" in
    let said = c.push_str.ensures.bytes ∙ ap (λ (t : List ℕ). t ++ head) c.new-header.ensures in
    record { said = said ∙ sym (append-nil head); short = omega (arith, ap length said) }

pub push-requires : goal.push-requires
unfolding lib.Utf8.encode
push-requires c = (omega arith, omega (arith, c.loop-index.invariant.short, c.loop-index-test.true))

pub push_str-requires-in-loop-index : goal.push_str-requires-in-loop-index
push_str-requires-in-loop-index c =
    let added = c.push.ensures.ascii (omega arith) in
    let name = ap length c.column_name.ensures in
    let small = name-short (get_or ALL c.loop-index.index Empty) in
    (omega arith, omega (arith, ap length added, length-append c.loop-index.header.bytes (44 ∷ []), name, small, c.loop-index.invariant.short, c.loop-index-test.true))

pub loop-index-preserved : goal.loop-index-preserved
loop-index-preserved c =
    let f = λ (v : Verdict). comma ++ column_name v in
    let head = codes "router,port,vc" in
    let n = c.loop-index.index in
    let verdict = get_or ALL n Empty in
    let old = c.loop-index.header.bytes in
    let next = c.push_str-in-loop-index.new.self.bytes in
    let added = c.push.ensures.ascii (omega arith) in
    let named : next ≡ c.push.new.self.bytes ++ column_name verdict =
    c.push_str-in-loop-index.ensures.bytes ∙ ap (λ (t : List ℕ). c.push.new.self.bytes ++ t) c.column_name.ensures in
    let said = more head (flat_map f (take n ALL)) (column_name verdict) old c.push.new.self.bytes next c.loop-index.invariant.said added named in
    record {
      said = said ∙ ap (λ (t : List ℕ). head ++ t) (sym (said-more f n Empty c.loop-index-test.true));
      short = omega (arith, ap length named, length-append c.push.new.self.bytes (column_name verdict), ap length added, length-append old (44 ∷ []), name-short verdict, c.loop-index.invariant.short);
    }

pub push-requires-2 : goal.push-requires-2
unfolding lib.Utf8.encode
push-requires-2 c = (omega arith, omega (arith, c.loop-index.invariant.short, c.loop-index.auto.index-end))

pub returns : goal.returns
unfolding stall_header
returns c =
    let f = λ (v : Verdict). comma ++ column_name v in
    let head = codes "router,port,vc" in
    c.push-2.ensures.ascii (omega arith)
    ∙ ap (λ (t : List ℕ). t ++ line_end) (c.loop-index.invariant.said ∙ ap (λ (t : List ℕ). head ++ t) (said-all f c.loop-index.index c.loop-index-test.false))
