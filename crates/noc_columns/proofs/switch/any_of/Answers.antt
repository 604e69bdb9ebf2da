use Rattle.std.proofs.Common.{◌≡◌, ◌∙◌, ap, sym, arith, slice_index}
use Rattle.std.specs.Prelude.{◌||◌}
use Rattle.noc_packet.specs.Set.{has_bit}
use Rattle.noc_packet.proofs.SetLemmas.{either_members}
use Rattle.noc_sets.specs.Unions.{some_below}
use Rattle.noc_columns.proofs.PassLemmas.{some-next}
use Rattle.noc_columns.proofs.switch.any_of.Goals as goal

pub loop-p-preserved : goal.loop-p-preserved
loop-p-preserved c = λ r.
    let set = slice_index c.args.sets.now c.loop-p.p in
    either_members c.loop-p.any set r
    ∙ ap (λ a. a || has_bit set r) (c.loop-p.invariant r)
    ∙ sym (some-next c.loop-p.p (λ p. has_bit (slice_index c.args.sets.now p) r))

pub returns : goal.returns
returns c = λ r.
    let e : c.loop-p.p ≡ c.args.count = omega arith in
    c.loop-p.invariant r ∙ ap (λ n. some_below n (λ p. has_bit (slice_index c.args.sets.now p) r)) e
