use Rattle.std.proofs.Common.{◌≡◌, ◌+◌, ◌*◌, ◌/◌, ◌%◌, ◌^◌, List, ℕ, [], ◌∙◌, ap, arith}
use Rattle.std.specs.Prelude.{slice_index_or}
use Rattle.noc_packet.specs.Set.{has_bit}
use Rattle.noc_topo.specs.Lists.{one_if}
use Rattle.noc_columns.specs.Words.{word}
use Rattle.noc_counts.specs.Rows.{waiting_in}
use Rattle.noc_counts.proofs.count.Count.repeat.Goals as goal

pub returns-clause-counts : goal.returns-clause-counts
returns-clause-counts c = λ j r few small.
    let self = c.args.self.now in
    let cycles = c.args.cycles in
    let slot : (cycles + 15) % 2 ^ 32 % 16 ≡ (cycles + 15) % 16 = omega arith in
    let set : c.waiting_in-set.result ≡ waiting_in (slice_index_or self.recent ((cycles + 15) % 16) []) =
    c.waiting_in-set.ensures ∙ ap (λ n. waiting_in (slice_index_or self.recent n [])) slot in
    omega (
      arith,
      c.repeat.ensures (cycles / 16 / 4) j r few (omega (arith, small)),
      ap (λ (row : List ℕ). c.args.times * one_if (has_bit (word j row) r)) set,
    )
