use Rattle.std.proofs.Common.{◌≡◌, ◌∙◌, ◌<◌, ◌+◌, ℕ, List, Some, length, map, set, ap, sym, inl, inr, arith}
use Rattle.std.specs.Prelude.{slice_get}
use Rattle.std.proofs.lemmas.Bool.{cases_eq}
use Rattle.std.proofs.lemmas.List.{length-set}
use Rattle.noc_view.specs.declared.finding.Finding.{Finding}
use Rattle.noc_theory.specs.Lockstep.{findings_before}
use Rattle.noc_theory.specs.Network.{size}
use Rattle.noc_files.specs.Trace.{HaveChannels}
use Rattle.noc_files.proofs.TraceCycleLemmas.{length-before, seen_before, seen_here, seen_there}
use Rattle.noc_files.proofs.kept.keep_all.Goals as goal

pub keep_one-requires : goal.keep_one-requires
keep_one-requires c =
    let net = c.args.network.now.net in
    let many = c.loop-router.invariant.many in
    let inside : c.loop-router.router < length c.loop-router.kept = omega (arith, c.loop-router-test.true, many) in
    c.loop-router.invariant.long c.loop-router.router _ (seen_before (λ one. one.items) c.loop-router.kept c.loop-router.router c.index-kept-router.result inside)
    ∙ sym (ap length c.findings.ensures ∙ length-before net c.args.network.now.count c.loop-router.router c.requires.some)

-- lists of which one more is what was found
module _ {V : Type 0} (items : V → List Finding) (xs : List V) (i channels : ℕ) (v : V) (found : ℕ → List Finding) (inside : i < length xs) (is : items v ≡ found i)
    (fits : length (found i) ≡ channels) where
  long_more : HaveChannels channels (map items xs) → HaveChannels channels (map items (set xs i v))
  long_more long r one e =
      elim (cases_eq r i) [
        | inl same ↦ (
            let here : slice_get (map items (set xs i v)) r ≡ Some (items v) = ap (slice_get (map items (set xs i v))) same ∙ seen_here items xs i v inside in
            let both : Some one ≡ Some (items v) = sym e ∙ here in
            let of : one ≡ items v = cc in
            ap length of ∙ ap length is ∙ fits
            )
        | inr other ↦ long r one (sym (seen_there items xs i v r other) ∙ e)
      ]

  found_more : ((r : ℕ) → r < i → slice_get (map items xs) r ≡ Some (found r)) → (r : ℕ) → r < i + 1 → slice_get (map items (set xs i v)) r ≡ Some (found r)
  found_more kept r l =
      elim (cases_eq r i) [
        | inl same ↦ ap (slice_get (map items (set xs i v))) same ∙ seen_here items xs i v inside ∙ ap Some is ∙ ap (λ k. Some (found k)) (sym same)
        | inr other ↦ seen_there items xs i v r other ∙ kept r (omega (arith, l, other))
      ]

pub loop-router-preserved : goal.loop-router-preserved
loop-router-preserved c =
    let net = c.args.network.now.net in
    let count = c.args.network.now.count in
    let i = c.loop-router.router in
    let xs = c.loop-router.kept in
    let many = c.loop-router.invariant.many in
    let inside : i < length xs = omega (arith, c.loop-router-test.true, many) in
    let is = c.keep_one.ensures ∙ c.findings.ensures in
    let fits = length-before net count i c.requires.some in
    record {
      many = length-set xs i c.keep_one.new.kept ∙ many;
      long = long_more (λ one. one.items) xs i (size net) c.keep_one.new.kept (findings_before net count) inside is fits c.loop-router.invariant.long;
      found = found_more (λ one. one.items) xs i (size net) c.keep_one.new.kept (findings_before net count) inside is fits c.loop-router.invariant.found;
    }
