use Rattle.std.proofs.Common.{ℕ, refl, subst, arith}
use Rattle.std.proofs.lemmas.Bool.{false≢true}
use Rattle.noc_packet.specs.Set.{in_both, IsLeast}
use Rattle.noc_alloc.proofs.ArbiterLemmas.{picked-ahead, picked-behind}
use Rattle.noc_alloc.proofs.arbiter.Arbiter.pick.Goals as goal
use Rattle.noc_alloc.proofs.arbiter.Arbiter.pick.Goals.{then-is_empty, else-is_empty}

pub returns : goal.returns
returns c =
    let P : ℕ → Type 0 = λ set. IsLeast (in_both set set) c.least_common.result in
    let members = rw (← c.self.view_is) at c.requires in
    rw (← c.self.view_is)
    (elim c.if-is_empty.branch [
      | then-is_empty w ↦ picked-behind c.self.inside.size c.self.inside.pointer c.args.asking c.from-ahead.result c.least_common.result (omega arith) c.from-ahead.ensures.members
          (w.if-is_empty.ensures.members.0 refl) (subst P w.first-is c.least_common.ensures.least)
      | else-is_empty w ↦ picked-ahead c.self.inside.size c.self.inside.pointer c.args.asking c.from-ahead.result c.least_common.result c.from-ahead.ensures.members
          (λ none. false≢true (w.if-is_empty.ensures.members.1 none)) (subst P w.first-is c.least_common.ensures.least) members
    ])
