use Rattle.std.proofs.Common.{◌≡◌, ℕ, ◌*◌, ◌^◌, ◌%◌, ◌<◌, Bool, true, false, ap, sym, ◌∙◌, arith, mod-eq_of_lt}
use Rattle.std.specs.Prelude.{◌&&◌, nat_eq}
use Rattle.std.proofs.Math.Pow.{pow-lt}
use Rattle.noc_packet.specs.Set.{has_bit}
use Rattle.noc_packet.proofs.SetLemmas.{has_bit-zero}
use Rattle.noc_sets.proofs.MemberLemmas.{and-false, and-true, power-members}
use Rattle.noc_columns.proofs.routes.alone_where.Goals as goal
use mir.Val.{bool_byte}

alone : (channel : ℕ) (is_member : Bool) → channel < 56 → (k : ℕ) → has_bit (bool_byte is_member * 2 ^ channel % 2 ^ 64) k ≡ (nat_eq k channel && is_member)
alone channel true small k =
    let fits : 2 ^ channel < 2 ^ 64 = let p : channel < 64 = omega arith in pow-lt p in
    let same : 1 * 2 ^ channel ≡ 2 ^ channel = omega arith in
    ap (λ n. has_bit (n % 2 ^ 64) k) same ∙ ap (λ n. has_bit n k) (mod-eq_of_lt fits) ∙ power-members channel k ∙ sym (and-true (nat_eq k channel))
alone channel false small k =
    let none : 0 * 2 ^ channel % 2 ^ 64 ≡ 0 = omega arith in
    ap (λ n. has_bit n k) none ∙ has_bit-zero k ∙ sym (and-false (nat_eq k channel))

pub returns : goal.returns
returns c k = ap (λ n. has_bit (n * 2 ^ c.args.channel % 2 ^ 64) k) c.from.ensures ∙ alone c.args.channel c.args.is_member c.requires k
