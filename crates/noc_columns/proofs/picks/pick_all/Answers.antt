use Rattle.std.proofs.Common.{◌≡◌, ℕ, ◌<◌, ◌∙◌, true, List, ap, sym, subst, ◌+◌, ◌*◌}
use Rattle.std.specs.Prelude.{◌&&◌, not}
use Rattle.noc_packet.specs.Set.{has_bit}
use Rattle.noc_sets.specs.Turns.{in_turn}
use Rattle.noc_sets.specs.Unions.{some_below}
use Rattle.noc_sets.proofs.TurnLemmas.{first-among}
use Rattle.noc_columns.specs.Picks.{port_of}
use Rattle.noc_columns.specs.Words.{set_of, word}
use Rattle.noc_columns.proofs.PortLemmas.{lowest-alone, one-both, some-member}
use Rattle.noc_columns.proofs.RouterLemmas.{part-is}
use Rattle.noc_columns.proofs.ShownLemmas.{number-part}
use Rattle.noc_columns.proofs.SupplyLemmas.{member-is, number, number-is}
use Rattle.noc_columns.proofs.picks.pick_all.Goals as goal

pub returns : goal.returns
returns c = λ r. record {
  first = λ p l. c.pick_each-any.ensures.picked p r l;
  any = λ p l. ap (λ w. has_bit w r) (c.write_ports.ensures p l) ∙ c.pick_each-any.ensures.some p r l;
  has = λ p k l m is.
      let ports = c.args.ports.now in
      let n = port_of ports p in
      let picked = c.pick_each-any.new.picked in
      let ready = set_of n r c.args.candidates.now.standing.now.ready in
      let ahead = set_of n r c.args.candidates.now.ahead.now in
      let first = (c.pick_each-any.ensures.picked p r l).first in
      let here = sym (member-is n r k picked m) ∙ is in
      let alone = λ (d : ℕ) (b : d < n.size) (e : has_bit (word (n.index d) picked) r ≡ true).
      lowest-alone (in_turn ready ahead) k d (ap (λ s. has_bit s k) (sym first) ∙ is) (ap (λ s. has_bit s d) (sym first) ∙ member-is n r d picked b ∙ e) in
      let has = λ (words : List ℕ) (w : ℕ) (told : has_bit w r ≡ some_below n.size (λ d. has_bit (word (n.index d) picked) r && has_bit (word (n.index d) words) r)).
      told ∙ one-both n.size (λ d. has_bit (word (n.index d) picked) r) (λ d. has_bit (word (n.index d) words) r) k m here alone ∙ sym (member-is n r k words m) in
      let sends = c.args.candidates.now.sends.now in
      let port = c.write_numbers.ensures in
      let vc = c.write_numbers-2.ensures in
      record {
        any = ap (λ w. has_bit w r) (c.write_ports.ensures p l) ∙ c.pick_each-any.ensures.some p r l ∙ ap not (some-member ready k (first-among ready ahead k (ap (λ s. has_bit s k) (sym first) ∙ is)));
        tail = has c.args.candidates.now.standing.now.last _ (c.write_both.ensures p r l);
        port = λ i. number (has sends.port.ones _ (port.ones p r l) i) (has sends.port.twos _ (port.twos p r l) i) (has sends.port.fours _ (port.fours p r l) i);
        vc = λ i. number (has sends.vc.ones _ (vc.ones p r l) i) (has sends.vc.twos _ (vc.twos p r l) i) (has sends.vc.fours _ (vc.fours p r l) i);
      };
}

pub write_numbers-requires-2 : goal.write_numbers-requires-2
write_numbers-requires-2 c = λ p k r l m few is.
    let ports = c.args.ports.now in
    let n = port_of ports p in
    let ready = c.args.candidates.now.standing.now.ready in
    let ahead = c.args.candidates.now.ahead.now in
    let vc = c.args.candidates.now.sends.now.vc in
    let here = ap (λ s. has_bit s k) (sym (c.pick_each-any.ensures.picked p r l).first) ∙ member-is n r k c.pick_each-any.new.picked m ∙ is in
    subst (λ v. v < ports.links.vcs) (sym (number-part ports r vc p k l m) ∙ number-is n r k vc m)
    (c.requires r (p * ports.links.vcs + k) few (part-is ports r ready p k l m ∙ first-among (set_of n r ready) (set_of n r ahead) k here))
