use Rattle.std.proofs.Common.{◌≡◌, ℕ, ◌+◌, ◌*◌, ◌/◌, ◌%◌, ◌<◌, List, Some, get_or, length, arith, inl, inr, sym, subst, ◌∙◌}
use Rattle.std.specs.Prelude.{slice_get}
use Rattle.std.proofs.lemmas.Bool.{cases_eq}
use Rattle.std.proofs.lemmas.Option.{get_or_from_slice_get}
use Rattle.noc_view.specs.Found.{finding_at}
use Rattle.noc_view.specs.declared.finding.Finding.{Finding}
use Rattle.noc_cycles.specs.declared.block.Block.{Block}
use Rattle.noc_cycles.specs.declared.block.Work.{Work}
use Rattle.noc_cycles.specs.declared.pattern.Pattern.{Pattern}
use Rattle.noc_engine.specs.Finds.{HaveFindings, found_at}
use Rattle.noc_engine.proofs.ListLemmas.{read, same-item}
use Rattle.noc_engine.proofs.finds.find_all.Goals as goal

-- what a router of a block finds, where the block and its work stand in lists
found-here : (pattern : Pattern) (blocks : List Block) (works : List Work) (n r count first : ℕ) (one : Block) (e : Work) (new : List Finding) → n < length blocks → one ≡ get_or blocks n one
    → ((i : ℕ) → i < count → finding_at new (first + i) ≡ found_at pattern one (get_or works n e) r i)
    → (block : Block) (work : Work) → slice_get blocks n ≡ Some block → slice_get works n ≡ Some work → HaveFindings (found_at pattern block work r) count first new
found-here pattern blocks works n r count first one e new inside is here block work at doing =
    subst (λ (x : Block). HaveFindings (found_at pattern x work r) count first new) (same-item one block (slice_get blocks n) (read blocks n one inside is) at)
    (subst (λ (w : Work). HaveFindings (found_at pattern one w r) count first new) (get_or_from_slice_get works n work e doing) here)

pub loop-router-preserved : goal.loop-router-preserved
loop-router-preserved c = λ s block work l at doing i u.
    let k = c.loop-router.router in
    let plan = c.args.plan.now in
    let blocks = c.args.blocks.now in
    let works = c.args.works.now in
    let new = c.find_in.new.found in
    let inside : k / 64 < length blocks = omega (arith, c.loop-router-test.true, c.requires.blocks) in
    let few = plan.pattern.table.few in
    elim (cases_eq s k) as (λ q. finding_at new (s * 64 + i) ≡ found_at plan.pattern block work (s % 64) i) [
      | inl same ↦
          subst (λ t. finding_at new (t * 64 + i) ≡ found_at plan.pattern block work (t % 64) i) (sym same)
          (found-here plan.pattern blocks works (k / 64) (k % 64) _ (k * 64) c.index-blocks-number.result _ new inside c.index-blocks-number.is c.find_in.ensures.here block work
          (subst (λ t. slice_get blocks (t / 64) ≡ Some block) same at) (subst (λ t. slice_get works (t / 64) ≡ Some work) same doing) i u)
      | inr other ↦ c.find_in.ensures.before (s * 64 + i) (omega (arith, l, other, u, few)) ∙ c.loop-router.invariant s block work (omega (arith, l, other)) at doing i u
    ]

pub returns : goal.returns
returns c = λ s block work l. c.loop-router.invariant s block work (omega (arith, l))
