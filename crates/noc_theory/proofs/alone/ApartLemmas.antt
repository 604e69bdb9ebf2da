-- A packet that is alone is apart from all others, and one that is apart is alone: so either is out
-- in time.
use Rattle.std.proofs.Common.{◌≡◌, ◌≢◌, ℕ, suc, ◌-◌, ◌<◌, ◌≤◌, length, Some, None, refl, ap, sym, ◌∙◌, arith, inl, inr}
use Rattle.std.specs.Prelude.{◌⊎◌}
use Rattle.noc_theory.proofs.Common.{cases_lt, same_Some, Setup, Place, Source, On, In, Out, packet_at, place_of_flit, tail_place, out_cycle, arrival_in, state_at, IsWellFormedSetup}
use Rattle.noc_theory.specs.Alone.{IsAlone, IsApart}
use Rattle.noc_theory.proofs.worms.BuiltLemmas.{good-built}
use Rattle.noc_theory.proofs.worms.InjectionPhaseLemmas.{source-behind}
use Rattle.noc_theory.proofs.worms.NetworkLemmas.{out-at}
use Rattle.noc_theory.proofs.worms.StateWordLemmas.{last_of}
use Rattle.noc_theory.proofs.worms.WormOrderLemmas.{whole-at}
use Rattle.noc_theory.proofs.worms.WormRecordLemmas.{valid-last}
use Rattle.noc_theory.proofs.budget.DrainLemmas.{tail-stays-out}
use Rattle.noc_theory.proofs.alone.UndueLemmas.{undue-at}
use Rattle.noc_theory.proofs.alone.OwnerLemmas.{OthersAreOut, arrived-out}
use Rattle.noc_theory.proofs.alone.TimeLemmas.{last_time, out-in_time}

module _ (net : Setup) where
  -- what is out is out at each later count
  arrival-stays : (n m q a : ℕ) → n ≤ m → tail_place net (state_at net n) q ≡ Out a → arrival_in net (state_at net m) q ≡ Some a
  arrival-stays n m q a later e = ap out_cycle (tail-stays-out net (m - n) n q a e m (omega arith))

  arrived-stays : (n m q : ℕ) → n ≤ m → arrival_in net (state_at net n) q ≢ None → arrival_in net (state_at net m) q ≢ None
  arrived-stays n m q later some none =
      let o = arrived-out net (state_at net n) q some in
      let z : Some o.0 ≡ None = sym (arrival-stays n m q o.0 later o.1) ∙ none in
      cc z

module _ (net : Setup) (good : IsWellFormedSetup net) (two : 2 ≤ net.depth) (p : ℕ) (low : p < length net.packets) where
  pub alone-in_time : IsAlone net p → (n : ℕ) → last_time net p < n → arrival_in net (state_at net n) p ≡ Some (last_time net p)
  alone-in_time alone = out-in_time net good two p low (λ n due early waits q l other now. alone n q due waits l other now)

  -- the others that are due by then were out when p was due
  apart-others : IsApart net p → (n : ℕ) → (packet_at net p).due ≤ n → n ≤ last_time net p → OthersAreOut net p n
  apart-others apart n due early q l other now = arrived-stays net (packet_at net p).due n q due (apart q l other (omega arith))

  pub apart-in_time : IsApart net p → (n : ℕ) → last_time net p < n → arrival_in net (state_at net n) p ≡ Some (last_time net p)
  apart-in_time apart = out-in_time net good two p low (λ n due early waits. apart-others apart n due early)

  pub apart-alone : IsApart net p → IsAlone net p
  apart-alone apart n q due waits l other now = at (cases_lt (last_time net p) n)
    where
      at : (last_time net p < n) ⊎ (n ≤ last_time net p) → arrival_in net (state_at net n) q ≢ None
      at (inl late) = let z : Some (last_time net p) ≡ None = sym (apart-in_time apart n late) ∙ waits in absurd (cc z)
      at (inr early) = apart-others apart n due early q l other now

  -- a packet that is alone is not out before its time
  waits-until : IsAlone net p → (n : ℕ) → n ≤ last_time net p → arrival_in net (state_at net n) p ≡ None
  waits-until alone n early = at (tail_place net (state_at net n) p) refl
    where
      at : (x : Place) → tail_place net (state_at net n) p ≡ x → arrival_in net (state_at net n) p ≡ None
      at Source e = ap out_cycle e
      at (On c) e = ap out_cycle e
      at (In c) e = ap out_cycle e
      at (Out m) e =
          let same = same_Some m (last_time net p) (sym (arrival-stays net n (suc (last_time net p)) p m (omega arith) e) ∙ alone-in_time alone (suc (last_time net p)) (omega arith)) in
          let before = (out-at net good n).before p (last_of net p) m (valid-last net (good-built net good) p low) e in
          absurd (omega arith)

  -- a packet is not out when it is due
  undue-waits : (q : ℕ) → q < length net.packets → arrival_in net (state_at net (packet_at net q).due) q ≡ None
  undue-waits q l =
      let n = (packet_at net q).due in
      ap out_cycle (source-behind net (good-built net good) (state_at net n).own (place_of_flit net (state_at net n)) (whole-at net good n).sound.worm q 0 (last_of net q) (valid-last net (good-built net good) q l) (omega arith) (undue-at net good n q l (omega arith)))

  pub alone-apart : IsAlone net p → IsApart net p
  alone-apart alone q l other now = at (cases_lt (packet_at net p).due (packet_at net q).due)
    where
      at : ((packet_at net p).due < (packet_at net q).due) ⊎ ((packet_at net q).due ≤ (packet_at net p).due) → arrival_in net (state_at net (packet_at net p).due) q ≢ None
      at (inl later) = absurd (alone (packet_at net q).due q (omega arith) (waits-until alone (packet_at net q).due now) l other (omega arith) (undue-waits q l))
      at (inr before) = alone (packet_at net p).due q (omega arith) (waits-until alone (packet_at net p).due (omega arith)) l other before
