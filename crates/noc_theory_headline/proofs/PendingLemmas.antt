-- With accepted ranks something happens in each pending cycle.
use Rattle.std.proofs.Common.{◌≡◌, ◌≢◌, ℕ, ◌<◌, ◌≤◌, true, length, count_by, refl, ◌∙◌, inl, inr, arith}
use Rattle.std.specs.Prelude.{◌⊎◌, ◌&&◌, nat_le, is_none}
use Rattle.std.proofs.lemmas.Bool.{false≢true, and_from, le-leb, cases_lt}
use Rattle.noc_topo.specs.Lists.{Has, below}
use Rattle.noc_route.specs.Ranks.{IsRankedBy, Ranking}
use Rattle.noc_route.specs.Channel.{Channel}
use Rattle.noc_view.specs.Verdict.{is_event}
use Rattle.noc_view.specs.declared.verdict.Verdict.{Verdict}
use Rattle.noc_view.specs.declared.verdict.Verdict.TheVariants.{Empty, Routed, Granted, Moved, NoFlit, NoIdleChannel, LostChannel, NoCredit, LostInput, LostSwitch}
use Rattle.noc_theory.specs.Network.{Setup, State, Injection, Located, Place, Source, On, In, Out, after_landing, after_credits, injections, all_inputs, arrival_in, out_cycle, packet_at, tail_place, state_at, frozen_at, verdict_in}
use Rattle.noc_theory.specs.Progress.{events, is_flying, is_pending}
use Rattle.noc_theory.specs.Good.{IsWellFormedSetup}
use Rattle.noc_theory.proofs.worms.NetworkLemmas.{mid_at}
use Rattle.noc_theory.proofs.worms.WormOrderLemmas.{whole-at}
use Rattle.noc_theory.proofs.worms.MemberLemmas.{list_any-from}
use Rattle.noc_theory.proofs.worms.OpeningLemmas.{below-has}
use Rattle.noc_theory.proofs.worms.PlaceLemmas.{place-of-flit}
use Rattle.noc_theory.proofs.join.LastEventLemmas.{flying, some-counted, some-listed}
use Rattle.noc_theory.proofs.join.OrderedStateLemmas.{ordered-frozen}
use Rattle.noc_theory.proofs.join.PlaceViewLemmas.{input-at}
use Rattle.noc_theory.proofs.join.LockstepTheoremLemmas.{good-network}
use Rattle.noc_theory.proofs.budget.ProgressTheoremLemmas.{each-pending}
use Rattle.noc_theory_headline.specs.Headline.{Says}
use Rattle.noc_theory_headline.specs.Pending.{IsPendingIn, HappensIn, lands, credit, injects, acts}
use Rattle.noc_theory_headline.proofs.SaysLemmas.{verdict-says}
use Rattle.noc_theory_headline.proofs.StartLemmas.{injected-flit}

not-out : (place : Place) → ((m : ℕ) → place ≢ Out m) → is_none (out_cycle place) ≡ true
not-out Source none = refl
not-out (On c) none = refl
not-out (In c) none = refl
not-out (Out m) none = absurd (none m refl)

acting : (v : Verdict) → is_event v ≡ true → (v ≡ Routed) ⊎ ((v ≡ Granted) ⊎ (v ≡ Moved))
acting Empty e = absurd (false≢true e)
acting Routed e = inl refl
acting Granted e = inr (inl refl)
acting Moved e = inr (inr refl)
acting NoFlit e = absurd (false≢true e)
acting NoIdleChannel e = absurd (false≢true e)
acting LostChannel e = absurd (false≢true e)
acting NoCredit e = absurd (false≢true e)
acting LostInput e = absurd (false≢true e)
acting LostSwitch e = absurd (false≢true e)

module _ (net : Setup) (good : IsWellFormedSetup net) (n : ℕ) where
  abbrev S : State
  S = state_at net n

  -- an injection is of a flit that goes from its source into the buffer of a channel
  injected : (one : Injection net) → Has one (injections net (mid_at net good n) n) → HappensIn net n
  injected one h = let f = injected-flit net good n one h in injects f.0 f.1 f.2 f.3 f.4 f.5

  pending : IsPendingIn net n → is_pending net n (state_at net n) ≡ true
  pending w =
      list_any-from (λ p. nat_le (packet_at net p).due n && is_none (arrival_in net S p)) (below (length net.packets)) w.packet (below-has w.packet (length net.packets) w.exists)
      (and_from _ _ (le-leb _ _ w.due) (not-out (tail_place net S w.packet) w.waits))

  happens : 0 < events net n (state_at net n) → HappensIn net n
  happens some = first (cases_lt 0 (count_by (λ (f : Located). is_flying f.place) S.at))
    where
      fourth : 0 < count_by (λ c. is_event (verdict_in net (frozen_at net n) c)) (all_inputs net) → HappensIn net n
      fourth l =
          let r = some-counted (λ c. is_event (verdict_in net (frozen_at net n) c)) (all_inputs net) l in
          let place = input-at net (good-network net good) r.0 r.1 in
          let says = verdict-says net (good-network net good) (frozen_at net n) (ordered-frozen net (good-network net good) n) place.0 place.2.router place.1 r.0 place.2 in
          acts place.0 place.1 r.0 (record { router = place.2.router; index = place.2.index; is = place.2.found }) (by place.0 place.1 r.0 says (acting (verdict_in net (frozen_at net n) r.0) r.2))
        where
          by : (s i : ℕ) (c : Channel) → ((v : Verdict) → (verdict_in net (frozen_at net n) c ≡ v → Says net (frozen_at net n) s i c v) × (Says net (frozen_at net n) s i c v → verdict_in net (frozen_at net n) c ≡ v))
              → (verdict_in net (frozen_at net n) c ≡ Routed) ⊎ ((verdict_in net (frozen_at net n) c ≡ Granted) ⊎ (verdict_in net (frozen_at net n) c ≡ Moved))
              → Says net (frozen_at net n) s i c Routed ⊎ (Says net (frozen_at net n) s i c Granted ⊎ Says net (frozen_at net n) s i c Moved)
          by s i c says (inl e) = inl ((says Routed).0 e)
          by s i c says (inr (inl e)) = inr (inl ((says Granted).0 e))
          by s i c says (inr (inr e)) = inr (inr ((says Moved).0 e))

      third : count_by (λ (f : Located). is_flying f.place) S.at ≤ 0 → length S.back ≤ 0
          → (0 < length (injections net (after_credits net (after_landing net S)) n)) ⊎ (length (injections net (after_credits net (after_landing net S)) n) ≤ 0) → HappensIn net n
      third a b (inl l) = let r = some-listed (injections net (after_credits net (after_landing net S)) n) l in injected r.0 r.1
      third a b (inr l) = fourth (omega arith)

      second : count_by (λ (f : Located). is_flying f.place) S.at ≤ 0 → (0 < length S.back) ⊎ (length S.back ≤ 0) → HappensIn net n
      second a (inl l) = let r = some-listed S.back l in credit r.0 r.1
      second a (inr l) = third a l (cases_lt 0 (length (injections net (after_credits net (after_landing net S)) n)))

      first : (0 < count_by (λ (f : Located). is_flying f.place) S.at) ⊎ (count_by (λ (f : Located). is_flying f.place) S.at ≤ 0) → HappensIn net n
      first (inl l) =
          let r = some-counted (λ (f : Located). is_flying f.place) S.at l in
          let on = flying r.0.place r.2 in
          let keyed = (whole-at net good n).sound.keyed in
          lands r.0.packet r.0.index on.0 (keyed.valid r.0 r.1) (place-of-flit net S keyed r.0 r.1 ∙ on.1)
      first (inr l) = second l (cases_lt 0 (length S.back))

pub ranked-happens : (net : Setup) (ranks : Ranking) (n : ℕ) → IsWellFormedSetup net → IsRankedBy net.relation ranks → IsPendingIn net n → HappensIn net n
ranked-happens net ranks n good ranked w =
    happens net good n (each-pending net good ranks ranked n (pending net good n w))
