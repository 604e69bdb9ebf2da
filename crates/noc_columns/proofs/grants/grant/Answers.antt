use Rattle.std.proofs.Common.{◌≡◌, ◌+◌, ◌*◌, ◌^◌, ◌<◌, ◌∙◌, ap, ap₂, arith, sym, subst, bit_or, get_or-set_other, get_or-set_same}
use Rattle.std.specs.Prelude.{◌&&◌, ◌||◌, nat_eq, if◌then◌else◌}
use Rattle.std.proofs.lemmas.Nat.{pow_pos}
use Rattle.noc_packet.specs.Set.{has_bit}
use Rattle.noc_columns.specs.Picks.{channels_of}
use Rattle.noc_columns.specs.Supply.{digits_by, number_in}
use Rattle.noc_columns.specs.Words.{set_of, word}
use Rattle.noc_columns.proofs.BitLemmas.{put-set}
use Rattle.noc_columns.proofs.ChannelLemmas.{channels-apart}
use Rattle.noc_columns.proofs.GrantLemmas.{least-one-is, number-written}
use Rattle.noc_columns.proofs.SupplyLemmas.{member-is}
use Rattle.noc_columns.proofs.UsedLemmas.{channels-few, index-below}
use Rattle.noc_columns.proofs.grants.grant.Goals as goal

pub least-requires : goal.least-requires
least-requires c = subst (λ x. 0 < x) (sym c.requires.one.2) (pow_pos c.requires.one.0)

pub index-index-requires : goal.index-index-requires
index-index-requires c =
    let size = (c.args.table.now.ports.links.width + 1) * c.args.table.now.ports.links.vcs in
    let one = c.requires.one in
    subst (λ x. x < size) (sym (least-one-is c.args.input one.0 c.least.result one.2 c.least.ensures.least)) one.1

pub returns-clause-grants : goal.returns-clause-grants
returns-clause-grants c = λ r.
    let ports = c.args.table.now.ports in
    let n = channels_of ports in
    let size = (ports.links.width + 1) * ports.links.vcs in
    let bit = c.args.input in
    let k = c.least.result in
    let router = c.args.router in
    let old = c.args.grants.now in
    let one = c.requires.one in
    let it : k ≡ one.0 = least-one-is bit one.0 k one.2 c.least.ensures.least in
    let few : k < size = subst (λ x. x < size) (sym it) one.1 in
    let is : bit ≡ 2 ^ k = one.2 ∙ ap (λ x. 2 ^ x) (sym it) in
    let at = c.index-index.ensures.is in
    let apart = channels-apart ports in
    record {
      granted =
          put-set n old.granted c.put.new.self.granted k router apart few r
          (λ i s. c.put.ensures.granted i s ∙ ap (λ j. (nat_eq i j && nat_eq s router) || has_bit (word i old.granted) s) at)
          ∙ ap (λ x. if nat_eq r router then bit_or (set_of n r old.granted) x else set_of n r old.granted) (sym is);
      port = λ d l.
          number-written n old.sends.port c.put.new.self.sends.port k router c.port.result r d apart few l
          (λ i s. c.put.ensures.port i s ∙ ap (λ j. if nat_eq i j && nat_eq s router then c.port.result else number_in (digits_by (word i) old.sends.port) s) at)
          ∙ ap₂ (λ x v. if nat_eq r router && has_bit x d then v else number_in (digits_by (set_of n r) old.sends.port) d) (sym is) c.port.ensures.is;
      vc = λ d l.
          number-written n old.sends.vc c.put.new.self.sends.vc k router c.vc.result r d apart few l
          (λ i s. c.put.ensures.vc i s ∙ ap (λ j. if nat_eq i j && nat_eq s router then c.vc.result else number_in (digits_by (word i) old.sends.vc) s) at)
          ∙ ap₂ (λ x v. if nat_eq r router && has_bit x d then v else number_in (digits_by (set_of n r) old.sends.vc) d) (sym is) c.vc.ensures.is;
    }

pub past-requires : goal.past-requires
past-requires c = subst (λ x. 0 < x) (sym c.requires.one.2) (pow_pos c.requires.one.0)

pub bounds-turn-out : goal.bounds-turn-out
bounds-turn-out c = omega (arith, c.args.table.now.few, c.requires.out_within)

pub offset_bounds-turn-out : goal.offset_bounds-turn-out
offset_bounds-turn-out c = omega (arith, c.args.table.now.few, c.requires.out_within)

-- the channel has no grant yet
pub put-requires : goal.put-requires
put-requires c =
    let ports = c.args.table.now.ports in
    let n = channels_of ports in
    let size = (ports.links.width + 1) * ports.links.vcs in
    let k = c.least.result in
    let words = c.args.grants.now.granted in
    let one = c.requires.one in
    let it = least-one-is c.args.input one.0 k one.2 c.least.ensures.least in
    let few : k < size = subst (λ x. x < size) (sym it) one.1 in
    let low = index-below ports k few in
    let all = channels-few ports in
    let at = c.index-index.ensures.is in
    record {
      index_within = omega (arith, low, all, at);
      router_within = c.requires.router_within;
      port_within = omega (arith, c.port.ensures.within);
      vc_within = omega (arith, c.vc.ensures.within);
      free = ap (λ i. has_bit (word i words) c.args.router) at ∙ sym (member-is n c.args.router k words few) ∙ c.requires.free k c.least.ensures.least.0;
      room = c.requires.room;
    }

pub returns-clause-turn : goal.returns-clause-turn
returns-clause-turn c = λ k i is l.
    let few = c.args.table.now.few in
    ap (λ w. has_bit w i) (get_or-set_same c.args.turn.now c.args.out c.past.result 0 (omega (arith, few, c.requires.out_within))) ∙ c.past.ensures k i is l

pub returns-clause-others : goal.returns-clause-others
returns-clause-others c = λ o other. get_or-set_other c.args.turn.now c.args.out o c.past.result 0 other
