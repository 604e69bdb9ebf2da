use Rattle.std.proofs.Common.{◌≡◌, ◌≢◌, ℕ, ◌<◌, ◌+◌, ◌∙◌, ap, arith, set, slice_index, get_or-set_same}
use Rattle.std.proofs.lemmas.List.{length-set}
use Rattle.noc_packet.specs.Set.{has_bit}
use Rattle.noc_columns.specs.Near.{comes_from}
use Rattle.noc_columns.specs.Words.{word}
use Rattle.noc_columns.proofs.PassLemmas.{all-next, word-other}
use Rattle.noc_columns.proofs.over_links.turned_four.Goals as goal

pub loop-j-preserved : goal.loop-j-preserved
loop-j-preserved c =
    let j = c.loop-j.j in
    let inv = c.loop-j.invariant in
    let few : j < 4 = omega arith in
    let n = c.args.neighbours.now in
    let x = c.turned.result in
    record {
      size = length-set c.loop-j.all j x ∙ inv.size;
      done = all-next (λ k. (r : ℕ) → r < 64 → has_bit (slice_index (set c.loop-j.all j x) k) r ≡ comes_from (word (c.args.at + k) n.distance) (word (c.args.at + k) n.mask) (slice_index c.args.sent.now k) r) j
          (λ k l r m. let other : k ≢ j = omega (arith, l) in ap (λ w. has_bit w r) (word-other c.loop-j.all j x k other) ∙ inv.done k l r m)
          (λ r m. ap (λ w. has_bit w r) (get_or-set_same c.loop-j.all j x 0 (omega (arith, inv.size, few))) ∙ c.turned.ensures r m);
    }

pub returns : goal.returns
returns c = λ j r l m. c.loop-j.invariant.done j (omega arith) r m
