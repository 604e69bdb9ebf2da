use Rattle.std.proofs.Common.{◌≡◌, ℕ, ◌<◌, ◌≤◌, ◌∙◌, ap, arith, List, set, ◌≢◌}
use Rattle.std.proofs.lemmas.List.{length-set}
use Rattle.noc_packet.specs.Set.{has_bit}
use Rattle.noc_columns.specs.Supply.{digits_by, is_fed_among, number_in}
use Rattle.noc_columns.specs.Words.{word}
use Rattle.noc_columns.proofs.PassLemmas.{all-next, word-here, word-other}
use Rattle.noc_columns.proofs.supply.look_up_of.Goals as goal

pub loop-i-preserved : goal.loop-i-preserved
loop-i-preserved g c =
    let i = c.loop-i.i in
    let inv = c.loop-i.invariant in
    let width = g.row.WIDTH in
    let vcs = g.row.VCS in
    let looked = g.row.LOOKED in
    let some = c.args.some.now in
    let sends = c.args.sends.now in
    let supplied : List ℕ = set c.loop-i.supplied i c.fed_among.result in
    let told : (r : ℕ) → number_in (digits_by (word i) sends.vc) r < vcs → number_in (digits_by (word i) sends.port) r ≤ width
    → has_bit c.fed_among.result r ≡ is_fed_among looked width some r (number_in (digits_by (word i) sends.port) r) (number_in (digits_by (word i) sends.vc) r) =
    coe 0 1
    (x. (r : ℕ) → number_in (c.at-vc.ensures x) r < vcs → number_in (c.at-port.ensures x) r ≤ width
    → has_bit c.fed_among.result r ≡ is_fed_among looked width some r (number_in (c.at-port.ensures x) r) (number_in (c.at-vc.ensures x) r))
    c.fed_among.ensures in
    record {
      size = length-set c.loop-i.supplied i c.fed_among.result ∙ inv.size;
      done = all-next
          (λ k. (r : ℕ) → number_in (digits_by (word k) sends.vc) r < vcs → number_in (digits_by (word k) sends.port) r ≤ width
          → has_bit (word k supplied) r ≡ is_fed_among looked width some r (number_in (digits_by (word k) sends.port) r) (number_in (digits_by (word k) sends.vc) r)) i
          (λ k l r few m. let other : k ≢ i = omega (arith, l) in ap (λ w. has_bit w r) (word-other c.loop-i.supplied i c.fed_among.result k other) ∙ inv.done k l r few m)
          (λ r few m. ap (λ w. has_bit w r) (word-here c.loop-i.supplied i c.fed_among.result inv.size (omega arith)) ∙ told r few m);
    }

pub returns : goal.returns
returns g c = λ k r l few m. c.loop-i.invariant.done k (omega arith) r few m
