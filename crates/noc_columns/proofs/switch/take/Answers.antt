use Rattle.std.proofs.Common.{◌≡◌, ℕ, ◌+◌, ◌<◌, ◌∙◌, true, List, ap, ap₂, sym, subst, slice_index, arith}
use Rattle.std.specs.Prelude.{◌&&◌, not, nat_eq, if◌then◌else◌}
use Rattle.std.proofs.lemmas.Bool.{and_parts}
use Rattle.noc_packet.specs.Set.{has_bit}
use Rattle.noc_sets.specs.Turns.{first_bit, in_turn}
use Rattle.noc_sets.specs.Unions.{some_below}
use Rattle.noc_sets.proofs.TurnLemmas.{first-among}
use Rattle.noc_columns.specs.Picks.{output_of, port_of}
use Rattle.noc_columns.specs.Switch.{asks_for, picks_in}
use Rattle.noc_columns.specs.Words.{set_below, set_of, word}
use Rattle.noc_columns.proofs.PassLemmas.{some-same}
use Rattle.noc_columns.proofs.PickLemmas.{moved-bit}
use Rattle.noc_columns.proofs.PortLemmas.{lowest-alone, member-below, one-both, sets-same}
use Rattle.noc_columns.proofs.SetLemmas.{below-same}
use Rattle.noc_columns.proofs.SupplyLemmas.{member-is, no-fours, number}
use Rattle.noc_columns.proofs.switch.take.Goals as goal

pub returns : goal.returns
returns c =
    let ports = c.args.ports.now in
    let picks = c.args.picks.now in
    let outputs = c.outputs-outputs.result in
    let out = c.outputs-outputs.ensures in
    let asks = c.ask.new.asks in
    let old = c.args.ahead.now in
    let new = c.advance.new.ahead in
    let taken = c.pick_each-any.new.picked in
    let past = c.pick_each-any.new.past in
    let any = c.pick_each-any.result in
    let n = λ (q : ℕ). port_of outputs q in
    let port = λ (q : ℕ) (l : q < ports.links.width + 1). subst (λ w. q < w + 1) (sym out.width) l in
    let input = λ (p : ℕ) (l : p < ports.links.width + 1). subst (λ w. p < w) (sym out.inputs) l in
    let asked = λ (q r : ℕ). asks_for (ports.links.width + 1) (picks_in picks r) q in
    let same = λ (q r : ℕ) (words : List ℕ). sets-same (n q) (output_of ports q) r words words out.inputs (λ k b. ap (λ i. word i words) (out.words q k)) in
    let asks_are = λ (q r : ℕ) (l : q < ports.links.width + 1).
    below-same outputs.links.vcs _ (λ p. (picks_in picks r).any p && nat_eq ((picks_in picks r).port p) q) (λ k b. c.ask.ensures q k r (port q l) b)
    ∙ ap (λ s. set_below s (λ p. (picks_in picks r).any p && nat_eq ((picks_in picks r).port p) q)) out.inputs in
    let picked = λ (q r : ℕ) (l : q < ports.links.width + 1). c.pick_each-any.ensures.picked q r (port q l) in
    let takes = λ (q r : ℕ) (l : q < ports.links.width + 1). (picked q r l).first ∙ ap₂ first_bit (asks_are q r l) (same q r old) in
    record {
      turns = λ r q p l m.
          let at = word ((n q).index p) in
          sym (ap (λ s. has_bit s p) (same q r new))
          ∙ member-is (n q) r p new (input p m)
          ∙ ap (λ w. has_bit w r) (c.advance.ensures q p (port q l) (input p m))
          ∙ moved-bit (at past) (at old) (slice_index any q) r (nat_eq (asked q r) 0) (some_below p (has_bit (in_turn (asked q r) (set_of (output_of ports q) r old))))
          (c.pick_each-any.ensures.some q r (port q l) ∙ ap (λ s. not (nat_eq s 0)) (asks_are q r l))
          (sym (member-is (n q) r p past (input p m)) ∙ (picked q r l).after p (input p m) ∙ ap₂ (λ a b. some_below p (has_bit (in_turn a b))) (asks_are q r l) (same q r old))
          ∙ ap (λ b. if nat_eq (asked q r) 0 then b else some_below p (has_bit (in_turn (asked q r) (set_of (output_of ports q) r old))))
          (sym (member-is (n q) r p old (input p m)) ∙ ap (λ s. has_bit s p) (same q r old));
      any = λ r q l. c.pick_each-any.ensures.some q r (port q l) ∙ ap (λ s. not (nat_eq s 0)) (asks_are q r l);
      goes = λ r q p l is.
          let here : has_bit (set_of (n q) r taken) p ≡ true = ap (λ s. has_bit s p) (takes q r l) ∙ is in
          let few : p < outputs.links.vcs = member-below (n q) r taken p here in
          let alone = λ (d : ℕ) (b : d < outputs.links.vcs) (e : has_bit (word ((n q).index d) taken) r ≡ true).
          lowest-alone (in_turn (set_of (n q) r asks) (set_of (n q) r old)) p d (ap (λ s. has_bit s p) (sym (picked q r l).first) ∙ here) (ap (λ s. has_bit s d) (sym (picked q r l).first) ∙ member-is (n q) r d taken b ∙ e) in
          let has = λ (set : List ℕ) (w : ℕ) (told : has_bit w r ≡ some_below outputs.links.vcs (λ d. has_bit (word ((n q).index d) taken) r && has_bit (slice_index set d) r)).
          told ∙ one-both outputs.links.vcs (λ d. has_bit (word ((n q).index d) taken) r) (λ d. has_bit (slice_index set d) r) p few (sym (member-is (n q) r p taken few) ∙ here) alone in (
            λ i. number (has picks.vc.ones _ (c.of_taken-2.ensures q r (port q l)) i) (has picks.vc.twos _ (c.of_taken-3.ensures q r (port q l)) i) (has picks.vc.fours _ (c.fours_of.ensures q r (port q l)) i),
            has picks.tail _ (c.of_taken.ensures q r (port q l)),
          );
      sends = λ r p l.
          c.senders.ensures p r (input p l)
          ∙ ap (λ w. some_below (w + 1) (λ q. has_bit (word ((n q).index p) taken) r)) out.width
          ∙ some-same (ports.links.width + 1) _ _ (λ q b. sym (member-is (n q) r p taken (input p l)) ∙ ap (λ s. has_bit s p) (takes q r b));
    }

pub fours_of-requires : goal.fours_of-requires
fours_of-requires c = λ four q p r l m few is.
    let ports = c.args.ports.now in
    let picks = c.args.picks.now in
    let outputs = c.outputs-outputs.result in
    let out = c.outputs-outputs.ensures in
    let n = port_of outputs q in
    let asks = set_of n r c.ask.new.asks in
    let ahead = set_of n r c.args.ahead.now in
    let taken = member-is n r p c.pick_each-any.new.picked m ∙ is in
    let asked = first-among asks ahead p (ap (λ s. has_bit s p) (sym (c.pick_each-any.ensures.picked q r l).first) ∙ taken) in
    let any = (and_parts ((picks_in picks r).any p) (nat_eq ((picks_in picks r).port p) q) (sym (c.ask.ensures q p r l m) ∙ sym (member-is n r p c.ask.new.asks m) ∙ asked)).0 in
    let below = c.requires r p few (subst (λ w. p < w) out.inputs m) any in
    no-fours (has_bit (word p picks.vc.ones) r) (has_bit (word p picks.vc.twos) r) (has_bit (word p picks.vc.fours) r) (omega (arith, below))
