use Rattle.std.proofs.Common.{◌≡◌, ℕ, ◌∙◌, ap, arith, bit_and}
use Rattle.noc_packet.specs.Set.{has_bit}
use Rattle.noc_packet.proofs.SetLemmas.{both_members}
use Rattle.noc_sets.specs.Unions.{union_from}
use Rattle.noc_columns.specs.Picks.{port_at}
use Rattle.noc_columns.specs.Words.{word}
use Rattle.noc_columns.proofs.PassLemmas.{some-same}
use Rattle.noc_columns.proofs.PickLemmas.{union-members}
use Rattle.noc_columns.proofs.picks.any_side.Goals as goal

pub returns : goal.returns
returns c = λ j r l.
    let ports = c.args.ports.now in
    let all : c.loop-v.v ≡ ports.vcs = omega arith in
    let words = λ (k : ℕ). bit_and (word ((port_at ports j).index k) c.args.first.now) (word ((port_at ports j).index k) c.args.second.now) in
    ap (λ w. has_bit w r) (c.loop-v.invariant j l ∙ ap (λ n. union_from 0 n words) all)
    ∙ union-members ports.vcs words r
    ∙ some-same ports.vcs _ _ (λ k b. both_members (word ((port_at ports j).index k) c.args.first.now) (word ((port_at ports j).index k) c.args.second.now) r)
