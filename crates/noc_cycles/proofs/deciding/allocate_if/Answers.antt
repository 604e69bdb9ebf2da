use Rattle.std.proofs.Common.{◌≡◌, ◌∙◌, ap, arith, refl, sym, true≢false}
use Rattle.noc_cycles.proofs.Common.{has_bit, has_bit-zero}
use Rattle.noc_cycles.proofs.deciding.allocate_if.Goals as goal

pub returns-else-marks-ne0 : goal.returns-else-marks-ne0
returns-else-marks-ne0 c =
    let none : c.args.marks.now.asking ≡ 0 = omega arith in
    record {
      asked = λ r few asks. absurd (true≢false (sym asks ∙ ap (λ s. has_bit s r) none ∙ has_bit-zero r));
      others = λ r e. refl;
    }
