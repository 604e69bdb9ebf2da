-- Before a packet is due it is not out.
use Rattle.std.proofs.Common.{◌≡◌, ℕ, ◌<◌, ◌≤◌, false, length, None, Some, ap, arith, slice_get, subst}
use Rattle.std.specs.Prelude.{is_some}
use Rattle.noc_packet.specs.declared.packet.Packet.{Packet}
use Rattle.noc_theory.specs.Good.{IsGoodSetup}
use Rattle.noc_theory.specs.Network.{Setup, arrival_in, out_cycle, packet_at, place_of_flit, state_at}
use Rattle.noc_theory.proofs.worms.BuiltLemmas.{good-built, well-formed}
use Rattle.noc_theory.proofs.worms.InjectionPhaseLemmas.{source-behind}
use Rattle.noc_theory.proofs.worms.StateWordLemmas.{last_of}
use Rattle.noc_theory.proofs.worms.WormOrderLemmas.{whole-at}
use Rattle.noc_theory.proofs.worms.WormRecordLemmas.{valid-last}
use Rattle.noc_theory.proofs.alone.UndueLemmas.{undue-at}
use Rattle.noc_wires.proofs.BelowLemmas.{one_not}
use Rattle.noc_net.proofs.LimitLemmas.{packet-here}
use Rattle.noc_requests.specs.Drain.{is_out_at}

module _ (net : Setup) (good : IsGoodSetup net) where
  -- its tail is at its source then
  undue-waits : (n q : ℕ) → q < length net.packets → n ≤ (packet_at net q).due → arrival_in net (state_at net n) q ≡ None
  undue-waits n q l early =
      ap out_cycle
      (source-behind net (good-built net (well-formed net good)) (state_at net n).own (place_of_flit net (state_at net n)) (whole-at net (well-formed net good) n).sound.worm q 0 (last_of net q)
      (valid-last net (good-built net (well-formed net good)) q l) (omega arith) (undue-at net (well-formed net good) n q l early))

  -- so not every packet is out
  pub not-out-undue : (n q : ℕ) (p : Packet) → q < length net.packets → slice_get net.packets q ≡ Some p → n ≤ p.due → is_out_at net n ≡ false
  not-out-undue n q p l there early =
      let due : n ≤ (packet_at net q).due = subst (λ (x : Packet). n ≤ x.due) (packet-here net q p there) early in
      one_not (λ i. is_some (arrival_in net (state_at net n) i)) (length net.packets) q l (ap is_some (undue-waits n q l due))
