use Rattle.std.proofs.Common.{◌≡◌, ℕ, ◌+◌, ◌<◌, ◌∙◌, true, ap, ap₂, arith, slice_index}
use Rattle.std.specs.Prelude.{◌&&◌, not, nat_eq}
use Rattle.noc_packet.specs.Set.{has_bit}
use Rattle.noc_sets.proofs.TurnLemmas.{first-among}
use Rattle.noc_columns.specs.Picks.{output_of, port_of}
use Rattle.noc_columns.specs.Supply.{digits_by, number_in}
use Rattle.noc_columns.specs.Switch.{asks_for, picks_in}
use Rattle.noc_columns.specs.Words.{set_of, word}
use Rattle.noc_columns.proofs.PortLemmas.{some-member}
use Rattle.noc_columns.proofs.SupplyLemmas.{member-is}
use Rattle.noc_columns.proofs.switch.traverse_all.Goals as goal

pub returns-clause-traversed : goal.returns-clause-traversed
returns-clause-traversed c = λ r.
    let ports = c.args.ports.now in
    let picks = c.args.picks.now in
    let taken = c.take-taken.result in
    let take = c.take-taken.ensures in
    let send = c.send.ensures in
    let asked = λ (q : ℕ). asks_for (ports.links.width + 1) (picks_in picks r) q in
    let left = c.send.new.left in
    let n = λ (p : ℕ). port_of ports p in
    record {
      turns = λ q p l m. take.turns r q p l m;
      sending = λ p v l m. member-is (n p) r v c.send.new.sends m ∙ ap (λ w. has_bit w r) (send.sends p v l m) ∙ take.sends r p l;
      goes = λ q p v l m is.
          let link : q < ports.links.width = omega (arith, l) in
          let port : q < ports.links.width + 1 = omega (arith, link) in
          let goes = take.goes r q p port is in
          let any : has_bit (slice_index taken.any q) r ≡ true = take.any r q port ∙ ap not (some-member (asked q) p (first-among (asked q) (set_of (output_of ports q) r c.args.ahead.now) p is)) in (
            member-is (n q) r v left.flits m ∙ send.flits q v r link m ∙ ap₂ (λ a b. a && nat_eq b v) any goes.0,
            member-is (n q) r v left.tails m ∙ send.tails q v r link m ∙ ap (λ b. b && has_bit (slice_index taken.tail q) r) (ap₂ (λ a b. a && nat_eq b v) any goes.0) ∙ ap (λ b. nat_eq ((picks_in picks r).vc p) v && b) goes.1,
          );
      none = λ q v l m e.
          let link : q < ports.links.width = omega (arith, l) in
          let any = take.any r q (omega (arith, link)) ∙ ap not e in (
            member-is (n q) r v left.flits m ∙ send.flits q v r link m ∙ ap (λ a. a && nat_eq (number_in (digits_by (word q) taken.vc) r) v) any,
            member-is (n q) r v left.tails m ∙ send.tails q v r link m ∙ ap (λ a. (a && nat_eq (number_in (digits_by (word q) taken.vc) r) v) && has_bit (slice_index taken.tail q) r) any,
          );
    }
