use Rattle.std.proofs.Common.{◌≡◌, ℕ, ◌∙◌, ap, arith, sym, inl, inr, set, slice_index, get_or-set_other, get_or-set_same}
use Rattle.std.specs.Prelude.{◌&&◌}
use Rattle.std.proofs.lemmas.Bool.{cases_lt}
use Rattle.noc_packet.specs.Set.{has_bit}
use Rattle.noc_sets.specs.Unions.{some_below}
use Rattle.noc_columns.specs.Picks.{port_at}
use Rattle.noc_columns.specs.Words.{word}
use Rattle.noc_columns.proofs.PassLemmas.{some-same}
use Rattle.noc_columns.proofs.PortLemmas.{link-index, local-index}
use Rattle.noc_columns.proofs.picks.any_both.Goals as goal

pub returns : goal.returns
returns c = λ p r l.
    let ports = c.args.ports.now in
    let first = c.args.first.now in
    let second = c.args.second.now in
    let any = c.any_side-any.result in
    let last = slice_index c.any_side-local.result 0 in
    let both = λ (i : ℕ). has_bit (word i first) r && has_bit (word i second) r in
    elim (cases_lt p ports.links.width) [
      | inl m ↦
          ap (λ w. has_bit w r) (get_or-set_other any ports.links.width p last 0 (omega (arith, m)))
          ∙ c.any_side-any.ensures p r m
          ∙ some-same ports.links.vcs _ _ (λ k b. ap both (sym (link-index ports p k m)))
      | inr m ↦
          let same : p ≡ ports.links.width = omega (arith, l, m) in
          let alike : ports.local.vcs ≡ ports.links.vcs = omega arith in
          ap (λ w. has_bit w r) (ap (slice_index (set any ports.links.width last)) same ∙ get_or-set_same any ports.links.width last 0 (omega arith))
          ∙ c.any_side-local.ensures 0 r (omega arith)
          ∙ ap (λ n. some_below n (λ k. both ((port_at ports.local 0).index k))) alike
          ∙ some-same ports.links.vcs _ _ (λ k b. ap both (sym (local-index ports p k m)))
    ]
