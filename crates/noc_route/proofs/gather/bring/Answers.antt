use Rattle.std.proofs.Common.{◌≡◌, ◌≢◌, ℕ, ◌+◌, ◌-◌, ◌<◌, ◌∙◌, get_or, set, length, ap, arith, below_more, get_or-set_same, get_or-set_other}
use Rattle.std.specs.Prelude.{◌&&◌, ◌||◌, nat_le, nat_lt}
use Rattle.std.proofs.lemmas.List.{get_or_default}
use Rattle.noc_packet.specs.Set.{has_bit}
use Rattle.noc_route.proofs.gather.bring.Goals as goal

pub loop-dst-preserved : goal.loop-dst-preserved
loop-dst-preserved c =
    let outs = c.args.outs.now in
    let before = c.args.coming.now in
    let coming = c.loop-dst.coming in
    let dst = c.loop-dst.dst in
    let more = c.either.result in
    let here : dst < length coming = omega (arith, c.loop-dst-test.true, c.loop-dst.auto.coming) in
    let out : c.index-outs-first.result ≡ get_or outs (c.args.first + dst) 0
    = c.index-outs-first.is ∙ get_or_default outs (c.args.first + dst) c.index-outs-first.result 0 (omega (arith, c.requires.outs, c.loop-dst-test.true)) in
    let had : c.index-coming-dst.result ≡ get_or before dst 0
    = c.index-coming-dst.is ∙ get_or_default coming dst c.index-coming-dst.result 0 here ∙ c.loop-dst.invariant.rest dst (omega arith) in
    let want = λ (t i : ℕ). has_bit (get_or before t 0) i
    || (nat_le c.args.to i && nat_lt i (c.args.to + c.args.count) && has_bit (get_or outs (c.args.first + t) 0) (c.args.from + (i - c.args.to))) in
    record {
      done = λ t i l.
          below_more (λ t. has_bit (get_or (set coming dst more) t 0) i ≡ want t i) dst
          (λ t l. let other : t ≢ dst = omega arith in ap (λ s. has_bit s i) (get_or-set_other coming dst t more 0 other) ∙ c.loop-dst.invariant.done t i l)
          (ap (λ s. has_bit s i) (get_or-set_same coming dst more 0 here) ∙ c.either.ensures i
          ∙ ap (λ b. has_bit c.index-coming-dst.result i || b) (c.moved.ensures i)
          ∙ ap (λ s. has_bit s i || (nat_le c.args.to i && nat_lt i (c.args.to + c.args.count) && has_bit c.index-outs-first.result (c.args.from + (i - c.args.to)))) had
          ∙ ap (λ s. has_bit (get_or before dst 0) i || (nat_le c.args.to i && nat_lt i (c.args.to + c.args.count) && has_bit s (c.args.from + (i - c.args.to)))) out)
          t l;
      rest = λ t l. let other : t ≢ dst = omega arith in get_or-set_other coming dst t more 0 other ∙ c.loop-dst.invariant.rest t (omega arith);
    }
