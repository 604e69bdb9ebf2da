use Rattle.std.proofs.Common.{◌≡◌, ℕ, Bool, false, length, not, Option, Some, None, is_some, ap, refl, sym, ◌∙◌, arith}
use Rattle.std.proofs.lemmas.Bool.{true≢false}
use Rattle.noc_theory.specs.Network.{Run, arrival_in, state_at}
use Rattle.noc_wires.proofs.BelowLemmas.{all_more, one_not, all_all}
use Rattle.noc_net.proofs.network.Network.all_out.Goals as goal

-- whether packet p is out
abbrev is_out : Run → ℕ → Bool
is_out u p = is_some (arrival_in u.net (state_at u.net u.count) p)

pub arrival-requires : goal.arrival-requires
arrival-requires c = omega (arith, c.packets-packet-end.ensures.value)

pub returns-then-is_none-clause-ranked : goal.returns-then-is_none-clause-ranked
returns-then-is_none-clause-ranked c = λ ranks limit ranked is late.
    let one = c.arrival.ensures.ranked ranks limit ranked is late in
    absurd (true≢false (sym (ap is_some one.1) ∙ c.is_none.ensures ∙ ap not c.if-is_none.true))

pub returns-then-is_none-clause-value : goal.returns-then-is_none-clause-value
returns-then-is_none-clause-value c =
    let u = c.args.self.now in
    sym (one_not (is_out u) (length u.net.packets) c.loop-packet.packet (omega (arith, c.packets-packet-end.ensures.value)) (ap is_some (sym c.arrival.ensures.value ∙ none c.arrival.result (c.is_none.ensures ∙ ap not c.if-is_none.true))))
  where
    none : (o : Option ℕ) → is_some o ≡ false → o ≡ None
    none None e = refl
    none (Some n) e = cc

pub loop-packet-preserved : goal.loop-packet-preserved
loop-packet-preserved c =
    let u = c.args.self.now in
    all_more (is_out u) (length u.net.packets) c.loop-packet.packet (omega (arith, c.packets-packet-end.ensures.value)) c.loop-packet.invariant (ap is_some (sym c.arrival.ensures.value) ∙ c.if-is_none.ensures)

pub returns-clause-value : goal.returns-clause-value
returns-clause-value c =
    let u = c.args.self.now in
    sym (all_all (is_out u) (length u.net.packets) c.loop-packet.packet (omega (arith, c.packets-packet-end.ensures.value)) c.loop-packet.invariant)

pub returns-clause-ranked : goal.returns-clause-ranked
returns-clause-ranked c = λ ranks limit ranked is late. refl
