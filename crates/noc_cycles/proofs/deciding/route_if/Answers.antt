use Rattle.std.proofs.Common.{◌≡◌, ℕ, ◌∙◌, ap, arith, bit_or, refl, slice_index, sym, true, true≢false}
use Rattle.noc_cycles.proofs.Common.{has_bit, has_bit-zero, or-zero, channels_of, set_of}
use Rattle.noc_cycles.proofs.deciding.route_if.Goals as goal

pub returns-else-routers-ne0 : goal.returns-else-routers-ne0
returns-else-routers-ne0 c =
    let none : c.args.routers ≡ 0 = omega arith in
    let head = λ (r k : ℕ) (e : has_bit (set_of (channels_of c.args.guide.now.table.now.ports) r c.args.heads.now) k ≡ true). true≢false (sym e ∙ ap (λ s. has_bit s k) (c.requires.none none r) ∙ has_bit-zero k) in
    record {
      routed = λ r m few.
          record {
            each = λ k e. absurd (head r k e);
            wants = λ k o e some. absurd (head r k e);
            still = λ o e. e;
            kept = λ k e. refl;
            rest = refl;
          };
      waiting = λ r few. sym (ap (bit_or (slice_index c.args.marks.now.waiting r)) (c.requires.none none r) ∙ or-zero (slice_index c.args.marks.now.waiting r));
      idle = λ r. refl;
      turns = refl;
    }
