use Rattle.std.proofs.Common.{◌∙◌, ap, arith, sym}
use Rattle.noc_packet.specs.Set.{has_bit}
use Rattle.noc_packet.proofs.SetLemmas.{has_bit-zero}
use Rattle.std.proofs.lemmas.Bool.{true≢false}
use Rattle.noc_columns.proofs.given.Grants.clear.Goals as goal

pub invariant_of-self : goal.invariant_of-self
invariant_of-self c = record {
  few = omega arith;
  right = λ i d l. absurd (omega (arith, l));
  all = λ r k low l is. absurd (true≢false (sym is ∙ ap (λ w. has_bit w r) (c.clear_first.ensures k l) ∙ has_bit-zero r));
}
