use Rattle.std.proofs.Common.{◌≡◌, ◌<◌, true, ◌∙◌, subst, sym}
use Rattle.std.specs.Prelude.{◌&&◌, nat_eq}
use Rattle.std.proofs.lemmas.Bool.{and_parts, eqb-true}
use Rattle.noc_packet.specs.Set.{has_bit}
use Rattle.noc_columns.specs.Words.{word}
use Rattle.noc_columns.proofs.SupplyLemmas.{digit-put, fours-are, number-put, ones-are, twos-are}
use Rattle.noc_columns.proofs.supply.Digits+Words.put_number.Goals as goal

pub returns : goal.returns
returns c = λ k r.
    let self = c.args.self.now in
    let n = c.args.number in
    let few = c.requires.number in
    let x = nat_eq k c.args.index && nat_eq r c.args.router in
    let within : (x ≡ true → r < 64) = λ e. subst (λ s. s < 64) (sym (eqb-true r c.args.router (and_parts (nat_eq k c.args.index) (nat_eq r c.args.router) e).1)) c.requires.router in
    let ones = has_bit (word k self.ones) r in
    let twos = has_bit (word k self.twos) r in
    let fours = has_bit (word k self.fours) r in
    number-put x _ _ _ ones twos fours n few
    (c.put_digit.ensures k r ∙ digit-put x _ _ ones (λ e. ones-are n r few (within e)))
    (c.put_digit-2.ensures k r ∙ digit-put x _ _ twos (λ e. twos-are n r few (within e)))
    (c.put_digit-3.ensures k r ∙ digit-put x _ _ fours (λ e. fours-are n r few (within e)))
