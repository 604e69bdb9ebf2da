use Rattle.std.proofs.Common.{◌/◌, ◌%◌, arith, refl, sym}
use Rattle.noc_counts.proofs.RowLemmas.{lane-same}
use Rattle.noc_counts.proofs.counts.Counts.clear.Goals as goal

pub returns : goal.returns
returns c = record {
  each = λ n r i within few.
      let inside = within i few in
      record {
        counted = sym (lane-same _ (λ p. 0) (n.index i % 4) (omega arith) (λ p l. c.clear_all.ensures (n.index i / 4) p r (omega (arith, inside)) l));
        granted = refl;
      };
  cycles = refl;
}
