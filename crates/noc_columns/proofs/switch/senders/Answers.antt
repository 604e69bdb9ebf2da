use Rattle.std.proofs.Common.{◌≡◌, ◌≢◌, ℕ, ◌<◌, ◌+◌, ◌∙◌, ap, arith, set, slice_index, get_or-set_same}
use Rattle.std.proofs.lemmas.List.{length-set}
use Rattle.noc_packet.specs.Set.{has_bit}
use Rattle.noc_sets.specs.Unions.{some_below}
use Rattle.noc_columns.specs.Picks.{port_of}
use Rattle.noc_columns.specs.Words.{word}
use Rattle.noc_columns.proofs.PassLemmas.{all-next, some-same, word-other}
use Rattle.noc_columns.proofs.switch.senders.Goals as goal

pub loop-p-preserved : goal.loop-p-preserved
loop-p-preserved c =
    let p = c.loop-p.p in
    let inv = c.loop-p.invariant in
    let outputs = c.args.outputs.now in
    let few : p < 8 = omega arith in
    let sends = c.loop-p.sends in
    let any = c.any_of.result in
    record {
      size = length-set sends p any ∙ inv.size;
      done = all-next (λ k. (r : ℕ) → has_bit (slice_index (set sends p any) k) r ≡ some_below (outputs.links.width + 1) (λ q. has_bit (word ((port_of outputs q).index k) c.args.taken.now) r)) p
          (λ k l r. let other : k ≢ p = omega (arith, l) in ap (λ w. has_bit w r) (word-other sends p any k other) ∙ inv.done k l r)
          (λ r. ap (λ w. has_bit w r) (get_or-set_same sends p any 0 (omega (arith, inv.size, few)))
          ∙ c.any_of.ensures r
          ∙ some-same (outputs.links.width + 1) _ _ (λ q l. ap (λ w. has_bit w r) (c.at-by_output.ensures q l)));
    }

pub returns : goal.returns
returns c = λ p r l. c.loop-p.invariant.done p (omega arith) r
