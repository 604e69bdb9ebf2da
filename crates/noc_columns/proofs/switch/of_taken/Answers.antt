use Rattle.std.proofs.Common.{◌≡◌, ℕ, ◌∙◌, ap, ap₂, sym, arith, bit_and, bit_or, slice_index}
use Rattle.noc_packet.specs.Set.{has_bit}
use Rattle.noc_packet.proofs.SetLemmas.{both_members}
use Rattle.noc_sets.specs.Unions.{union_from}
use Rattle.noc_columns.specs.Picks.{port_of}
use Rattle.noc_columns.specs.Words.{word}
use Rattle.noc_columns.proofs.PassLemmas.{some-same}
use Rattle.noc_columns.proofs.PickLemmas.{union-members, union-next}
use Rattle.noc_columns.proofs.switch.of_taken.Goals as goal

pub loop-p-preserved : goal.loop-p-preserved
loop-p-preserved c = λ q l.
    let p = c.loop-p.p in
    let set = c.args.set.now in
    let words = λ (k : ℕ). bit_and (word ((port_of c.args.outputs.now q).index k) c.args.taken.now) (slice_index set k) in
    c.add_taken.ensures q l
    ∙ ap₂ bit_or (c.loop-p.invariant q l) (ap (λ w. bit_and w (slice_index set p)) (c.at-by_output.ensures q l))
    ∙ sym (union-next p words)

pub returns : goal.returns
returns c = λ q r l.
    let outputs = c.args.outputs.now in
    let taken = c.args.taken.now in
    let set = c.args.set.now in
    let all : c.loop-p.p ≡ outputs.links.vcs = omega arith in
    let words = λ (k : ℕ). bit_and (word ((port_of outputs q).index k) taken) (slice_index set k) in
    ap (λ w. has_bit w r) (c.loop-p.invariant q l ∙ ap (λ n. union_from 0 n words) all)
    ∙ union-members outputs.links.vcs words r
    ∙ some-same outputs.links.vcs _ _ (λ k b. both_members (word ((port_of outputs q).index k) taken) (slice_index set k) r)
