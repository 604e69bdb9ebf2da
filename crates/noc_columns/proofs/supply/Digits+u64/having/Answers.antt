use Rattle.std.proofs.Common.{ℕ, ◌/◌, ◌%◌, refl, ◌∙◌, ap, Bool}
use Rattle.std.specs.Prelude.{◌&&◌, nat_eq, not, if◌then◌else◌}
use Rattle.noc_packet.specs.Set.{has_bit}
use Rattle.noc_columns.proofs.SupplyLemmas.{having-is}
use Rattle.noc_columns.proofs.supply.Digits+u64.having.Goals as goal

pub returns : goal.returns
returns c = λ r.
    let number = c.args.number in
    let a = has_bit c.args.self.now.ones r in
    let b = has_bit c.args.self.now.twos r in
    let d = has_bit c.args.self.now.fours r in
    let choose = λ (n : ℕ) (x : Bool). if nat_eq (n % 2) 1 then x else not x in
    c.having_bit.ensures r
    ∙ ap (λ w. w && choose (number / 2 / 2) d) (c.having_bit-twos.ensures r ∙ ap (λ w. w && choose (number / 2) b) (c.having_bit-ones.ensures r))
    ∙ having-is a b d (has_bit c.args.set r) (nat_eq (number % 2) 1) (nat_eq (number / 2 % 2) 1) (nat_eq (number / 2 / 2 % 2) 1) number c.requires refl refl refl
