use Rattle.std.proofs.Common.{◌≡◌, ℕ, ◌+◌, ◌*◌, ◌^◌, ◌∙◌, ap, arith, subst, sym, bit_or, slice_index}
use Rattle.std.specs.Prelude.{not, nat_eq, nat_lt, ◌&&◌, if◌then◌else◌}
use Rattle.noc_packet.specs.Set.{has_bit}
use Rattle.noc_columns.specs.Picks.{channels_of}
use Rattle.noc_columns.specs.Supply.{digits_by, number_in}
use Rattle.noc_columns.specs.Words.{set_of, word}
use Rattle.noc_columns.specs.declared.supply.Digits.{Digits}
use Rattle.noc_columns.proofs.ByRouterLemmas.{back_of, links-few}
use Rattle.noc_columns.proofs.ChannelLemmas.{channels-apart}
use Rattle.noc_columns.proofs.LoopLemmas.{left-part}
use Rattle.noc_columns.proofs.MarkLemmas.{idle-next, idle-start}
use Rattle.noc_columns.proofs.SupplyLemmas.{number-is}
use Rattle.noc_columns.proofs.UsedLemmas.{channel-of, channels-few, index-below, sum_of, union-none, union-walked, used-below, used-is, walked, walked-all, walked-next, walked-none}
use Rattle.noc_columns.proofs.WalkLemmas.{union-alike}
use Rattle.noc_columns.proofs.ejection.give_back.Goals as goal

pub used_words-rest-requires : goal.used_words-rest-requires
used_words-rest-requires c = omega (arith, channels-few c.args.ports.now)

pub loop-rest-init : goal.loop-rest-init
loop-rest-init c =
    let ports = c.args.ports.now in
    let n = channels_of ports in
    let arrived = c.args.arrived.now in
    let used = c.used_words-rest.result in
    let all : ports.links.width * ports.links.vcs + ports.links.vcs ≡ n.size = omega arith in
    let is = subst (λ m. (i : ℕ) → has_bit used i ≡ (nat_lt i m && not (nat_eq (word i arrived) 0))) all c.used_words-rest.ensures in
    record {
      few = used-below n.size used arrived is;
      idle = λ r l. union-none (slice_index c.args.marks.now.idle r) n.size (back_of ports c.args.vc.now r) (walked n r arrived used)
          (walked-none n (channels-apart ports) r arrived used (λ k m. used-is n.size used arrived is (n.index k) (index-below ports k m)));
      kept = idle-start c.args.marks.now;
    }

pub overflow_mul-links : goal.overflow_mul-links
overflow_mul-links c = omega (arith, channels-few c.args.ports.now)

pub at-requires : goal.at-requires
at-requires c =
    let few = c.loop-rest.invariant.few c.least-index.result c.least-index.ensures.least.0 in
    omega (arith, few, channels-few c.args.ports.now)

pub bounds-arrived-index : goal.bounds-arrived-index
bounds-arrived-index c =
    let few = c.loop-rest.invariant.few c.least-index.result c.least-index.ensures.least.0 in
    omega (arith, few, channels-few c.args.ports.now)

pub give_back_by-requires : goal.give_back_by-requires
give_back_by-requires c =
    let few = links-few c.args.ports.now.links.width c.args.ports.now.links.vcs (omega arith) (omega arith) in
    omega (arith, few)

pub loop-rest-preserved : goal.loop-rest-preserved
loop-rest-preserved c =
    let inv = c.loop-rest.invariant in
    let ports = c.args.ports.now in
    let n = channels_of ports in
    let arrived = c.args.arrived.now in
    let rest = c.loop-rest.rest in
    let after = c.but_lowest-rest.result in
    let t = c.least-index.result in
    let least = c.least-index.ensures.least in
    let at = channel-of ports t (inv.few t least.0) in
    record {
      few = λ i e. inv.few i (left-part rest rest t least (λ j f. f) i (ap (λ w. has_bit w i) (sym c.but_lowest-rest.ensures.members) ∙ e));
      idle = λ r l.
          let number : number_in c.at.result r ≡ number_in (digits_by (set_of n r) c.args.vc.now) at.0 =
          ap (λ (d : Digits ℕ). number_in d r) c.at.ensures ∙ ap (λ i. number_in (digits_by (word i) c.args.vc.now) r) (sym at.2) ∙ sym (number-is n r at.0 c.args.vc.now at.1) in
          c.give_back_by.ensures.idle r l
          ∙ ap (λ m. bit_or (slice_index c.loop-rest.marks.idle r) (if has_bit (word t arrived) r then 2 ^ (ports.links.width * ports.links.vcs + m) else 0)) number
          ∙ ap (λ u. bit_or u (if has_bit (word t arrived) r then back_of ports c.args.vc.now r at.0 else 0)) (inv.idle r l)
          ∙ union-walked (slice_index c.args.marks.now.idle r) n.size (back_of ports c.args.vc.now r) (walked n r arrived rest) (walked n r arrived after) at.0 (has_bit (word t arrived) r) at.1
          (walked-next n (channels-apart ports) r arrived rest after t at.0 least c.but_lowest-rest.ensures.members at.1 at.2);
      kept = idle-next inv.kept c.give_back_by.ensures.kept;
    }

pub returns : goal.returns
returns c =
    let ports = c.args.ports.now in
    let n = channels_of ports in
    let arrived = c.args.arrived.now in
    let none : c.loop-rest.rest ≡ 0 = omega arith in
    record {
      idle = λ r l.
          c.loop-rest.invariant.idle r l
          ∙ union-alike (slice_index c.args.marks.now.idle r) n.size (sum_of (walked n r arrived c.loop-rest.rest) (back_of ports c.args.vc.now r)) (sum_of (has_bit (set_of n r arrived)) (back_of ports c.args.vc.now r))
          (λ k m. ap (λ b. if b then back_of ports c.args.vc.now r k else 0) (walked-all n (channels-apart ports) r arrived c.loop-rest.rest none k));
      kept = c.loop-rest.invariant.kept;
    }
