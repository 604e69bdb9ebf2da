use Rattle.std.proofs.Common.{◌≡◌, ◌≢◌, ℕ, ◌<◌, ◌∙◌, ap, arith, set, slice_index, get_or-set_same}
use Rattle.std.specs.Prelude.{◌&&◌, nat_eq}
use Rattle.std.proofs.lemmas.List.{length-set}
use Rattle.noc_packet.specs.Set.{has_bit}
use Rattle.noc_columns.specs.Supply.{digits_by, number_in}
use Rattle.noc_columns.specs.Words.{word}
use Rattle.noc_columns.proofs.PassLemmas.{all-next, word-other}
use Rattle.noc_columns.proofs.switch.asked_by.Goals as goal

pub loop-q-preserved : goal.loop-q-preserved
loop-q-preserved c =
    let q = c.loop-q.q in
    let inv = c.loop-q.invariant in
    let few : q < 8 = omega arith in
    let picks = c.args.picks.now in
    let p = c.args.p in
    record {
      size = length-set c.loop-q.asked q c.having.result ∙ inv.size;
      done = all-next (λ k. (r : ℕ) → has_bit (slice_index (set c.loop-q.asked q c.having.result) k) r ≡ (has_bit (slice_index picks.any p) r && nat_eq (number_in (digits_by (word p) picks.port) r) k)) q
          (λ k l r. let other : k ≢ q = omega (arith, l) in ap (λ w. has_bit w r) (word-other c.loop-q.asked q c.having.result k other) ∙ inv.done k l r)
          (λ r. ap (λ w. has_bit w r) (get_or-set_same c.loop-q.asked q c.having.result 0 (omega (arith, inv.size, few)))
          ∙ c.having.ensures r
          ∙ ap (λ d. has_bit (slice_index picks.any p) r && nat_eq (number_in d r) q) c.of_port-port.ensures);
    }

pub returns : goal.returns
returns c = λ k r l. c.loop-q.invariant.done k (omega arith) r
