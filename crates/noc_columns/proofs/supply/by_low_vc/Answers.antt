use Rattle.std.proofs.Common.{◌≡◌, ℕ, ◌+◌, ◌*◌, ◌∙◌, ap, arith}
use Rattle.noc_packet.specs.Set.{has_bit}
use Rattle.noc_columns.specs.Words.{word}
use Rattle.noc_columns.proofs.SupplyLemmas.{four-words}
use Rattle.noc_columns.proofs.supply.by_low_vc.Goals as goal

pub returns : goal.returns
returns c = λ r.
    let a = has_bit c.args.vc.now.ones r in
    let b = has_bit c.args.vc.now.twos r in
    let in_word = λ (v : ℕ). has_bit (word (v * c.args.width + c.args.port) c.args.some.now) r in
    let at = λ (v : ℕ). in_word (c.args.first + v) in
    let bit = λ (w : ℕ). has_bit w r in
    let none : c.args.first ≡ c.args.first + 0 = omega arith in
    c.four.ensures r ∙ four-words a b r c.channel-none.result c.channel-one.result c.channel-two.result c.channel-three.result at (ap bit c.channel-none.ensures ∙ ap in_word none) (ap bit c.channel-one.ensures) (ap bit c.channel-two.ensures) (ap bit c.channel-three.ensures)
