use Rattle.std.proofs.Common.{◌≡◌, ℕ, arith, slice_index}
use Rattle.std.specs.Prelude.{◌&&◌, nat_eq}
use Rattle.noc_packet.specs.Set.{has_bit}
use Rattle.noc_columns.specs.Supply.{digits_by, number_in}
use Rattle.noc_columns.specs.Words.{word}
use Rattle.noc_columns.proofs.PortLemmas.{written-next}
use Rattle.noc_columns.proofs.switch.ask.Goals as goal

pub loop-p-preserved : goal.loop-p-preserved
loop-p-preserved c =
    let picks = c.args.picks.now in
    written-next c.args.outputs.now c.loop-p.asks c.put.new.words c.asked_by-asked.result
    (λ q k w. (r : ℕ) → has_bit w r ≡ (has_bit (slice_index picks.any k) r && nat_eq (number_in (digits_by (word k) picks.port) r) q))
    c.loop-p.p (omega arith) c.loop-p.invariant c.put.ensures.here c.put.ensures.others (λ q l r. c.asked_by-asked.ensures q r l)

pub returns : goal.returns
returns c = λ q p r l m. c.loop-p.invariant q p l (omega arith) r
