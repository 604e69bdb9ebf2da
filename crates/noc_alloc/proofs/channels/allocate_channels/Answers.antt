use Rattle.std.proofs.Common.{◌≡◌, ◌+◌, ℕ, Option, None, length, get_or, ap, refl, sym, ◌∙◌, arith, subst}
use Rattle.noc_topo.specs.Lists.{is_some_of}
use Rattle.noc_alloc.specs.Arbiter.{pointers_of}
use Rattle.noc_alloc.specs.Allocation.{grant_of}
use Rattle.noc_alloc.proofs.OfferLemmas.{AllNearest, length-firsts, nearest-all, nearest-offered}
use Rattle.noc_alloc.proofs.SwitchLemmas.{first_in_turn-below, tabulate-inside}
use Rattle.noc_alloc.proofs.channels.allocate_channels.Goals as goal

pub loop-input-preserved : goal.loop-input-preserved
loop-input-preserved c =
    let asks : ℕ → Option ℕ = λ i. get_or c.args.asks.now i None in
    let l = c.loop-input in (
      subst (AllNearest (length c.args.asks.now) c.args.arbiters.now asks (l.input + 1)) (sym c.offer.ensures)
          (nearest-offered (length c.args.asks.now) l.input c.args.arbiters.now asks l.grants (asks l.input) refl (omega arith) l.invariant.1 l.invariant.0),
      ap length c.offer.ensures ∙ length-firsts c.args.arbiters.now (asks l.input) l.input l.grants ∙ l.invariant.1,
    )

pub returns-clause-grants : goal.returns-clause-grants
returns-clause-grants c =
    let n : c.loop-input.input ≡ length c.args.asks.now = omega arith in
    nearest-all (length c.args.asks.now) c.args.arbiters.now (λ i. get_or c.args.asks.now i None) c.loop-input.grants c.loop-input.invariant.1
    (subst (λ m. AllNearest (length c.args.asks.now) c.args.arbiters.now (λ i. get_or c.args.asks.now i None) m c.loop-input.grants) n c.loop-input.invariant.0)

pub returns-clause-inputs : goal.returns-clause-inputs
returns-clause-inputs c =
    tabulate-inside (length c.args.arbiters.now) (length c.args.asks.now) (grant_of c.args.asks.now (length c.args.asks.now) (pointers_of c.args.arbiters.now)) c.loop-input.grants
    (λ o. first_in_turn-below (length c.args.asks.now) (get_or (pointers_of c.args.arbiters.now) o 0) (λ i. is_some_of (get_or c.args.asks.now i None) o)) (returns-clause-grants c)
