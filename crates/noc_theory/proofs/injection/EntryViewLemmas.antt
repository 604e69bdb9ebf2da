-- After the injections: each channel of a router as the state shows it.
use Rattle.std.proofs.Common.{◌≡◌, ◌≢◌, ℕ, suc, ◌-◌, ◌<◌, Bool, true, false, cond, List, [], ◌∷◌, map, length, Option, Some, None, refl, ap, sym, ◌∙◌, inl, inr, subst}
use Rattle.std.specs.Prelude.{filter, find, option_map, option_and_then, unwrap_or, ◌⊎◌, ◌&&◌, ◌||◌, not, nat_eq, nat_lt, if◌then◌else◌}
use Rattle.noc_theory.proofs.Common.{false≢true, below, Has, flit_at, Flit, Channel, Link, Inject, Eject, same_channel, is_link, next_of, InputState, Idle, Waiting, Owned, Draining, has_come, come_count, seen_flits, seen_input, seen_output, seen_phase, seen_phase_with, seen_set, seen_holder, seen_sender, is_present, last_come, Setup, State, Located, Place, Source, On, In, Out, Injection, size, arriving, packet_at, tail_place, buffer_of, count_in, count_on, credit_of, owner_of, next_channel, has_channel, is_in, is_on, is_past, is_at_source, injections, injected_place, is_the_flit, first_at_source, after_injection}
use Rattle.noc_theory.specs.Lockstep.{goes_on_by}
use Rattle.noc_theory.proofs.worms.BufferLemmas.{same_channel-true, filter-kept}
use Rattle.noc_theory.proofs.worms.MemberLemmas.{find-has}
use Rattle.noc_theory.proofs.worms.OwnedLemmas.{owner-has}
use Rattle.noc_theory.proofs.worms.StateWordLemmas.{IsEject, IsHeld, goal, last_of}
use Rattle.noc_theory.proofs.worms.WormRecordLemmas.{valid-last}
use Rattle.noc_theory.proofs.verdicts.AfterInputLemmas.{made, seen-held, seen-unowned}
use Rattle.noc_theory.proofs.injection.EntryLemmas.{step, worm, routedT, Goes, goes, stays, goes_in, Quiet, owner-quiet, next-same, come-quiet, count-quiet, owned-left}
use Rattle.noc_theory.proofs.join.OrderedLemmas.{IsGood, IsOrderedFrozen}

module _ (net : Setup) (good : IsGood net) (M : State) (x : IsOrderedFrozen net M) (n : ℕ) where
  abbrev flit_of : Located → Flit
  flit_of f = flit_at (packet_at net f.packet) f.packet f.index

  -- ---- buffers

  pub injected-misses : (c : Channel) (f : Located) (one : Option (Injection net)) → ((e : Injection net) → one ≡ Some e → e.channel ≢ c) → is_in c f.place ≡ false → is_in c (injected_place net M f one) ≡ false
  injected-misses c f None quiet e = e
  injected-misses c f (Some one) quiet e = at (is_at_source f.place && is_the_flit net f (first_at_source net M f.packet))
    where
      other : (b : Bool) → same_channel c one.channel ≡ b → same_channel c one.channel ≡ false
      other false k = k
      other true k = absurd (quiet one refl (sym (same_channel-true c one.channel k)))

      at : (b : Bool) → is_in c (cond b (In one.channel) f.place) ≡ false
      at true = other (same_channel c one.channel) refl
      at false = e

  pub injected-keeps : (f : Located) (one : Option (Injection net)) (c : Channel) → is_in c f.place ≡ true → injected_place net M f one ≡ f.place
  injected-keeps f None c e = refl
  injected-keeps f (Some one) c e = at f.place refl e
    where
      at : (y : Place) → f.place ≡ y → is_in c y ≡ true → cond (is_at_source f.place && is_the_flit net f (first_at_source net M f.packet)) (In one.channel) f.place ≡ f.place
      at Source k z = absurd (false≢true z)
      at (On d) k z = absurd (false≢true z)
      at (In d) k z = ap (λ (y : Place). cond (is_at_source y && is_the_flit net f (first_at_source net M f.packet)) (In one.channel) f.place) k
      at (Out d) k z = absurd (false≢true z)

  pub buffer-quiet : (c : Channel) → Quiet net good M x n c → buffer_of net (after_injection net n M) c ≡ buffer_of net M c
  unfolding after_injection
  buffer-quiet c quiet =
      filter-kept (λ (f : Located). is_in c f.place) (step net good M x n)
      (λ f h. ap (λ (y : Place). record f { place = y }) (injected-keeps f (find (λ (one : Injection net). nat_eq one.packet f.packet) (injections net M n)) c h))
      (λ f h. injected-misses c f (find (λ (one : Injection net). nat_eq one.packet f.packet) (injections net M n)) (λ e k. quiet e (find-has (λ (one : Injection net). nat_eq one.packet f.packet) (injections net M n) e k)) h)
      M.at

  pub flits-quiet : (c : Channel) → Quiet net good M x n c → seen_flits net (after_injection net n M) (Some c) ≡ seen_flits net M (Some c)
  flits-quiet c quiet = ap (map flit_of) (buffer-quiet c quiet)

  routed-same : (after_injection net n M).routed ≡ M.routed
  unfolding after_injection
  routed-same = refl

  back-same : (after_injection net n M).back ≡ M.back
  unfolding after_injection
  back-same = refl

  -- ---- input channels

  phase-with : (r i : ℕ) (c : Channel) → owner_of net (after_injection net n M) c ≡ owner_of net M c → (o : Option Channel) → seen_phase_with net (after_injection net n M) r i c o ≡ seen_phase_with net M r i c o
  phase-with r i c e None = ap (λ (o : Option ℕ). Waiting (seen_set net M r i o)) e
  phase-with r i c e (Some o) = refl

  pub phase-same : (r i : ℕ) (c : Channel) → owner_of net (after_injection net n M) c ≡ owner_of net M c ⊎ (has_channel M.routed c ≡ false) → seen_phase net (after_injection net n M) r i c ≡ seen_phase net M r i c
  phase-same r i c way =
      ap (λ (cs : List Channel). cond (has_channel cs c) (seen_phase_with net (after_injection net n M) r i c (next_channel net (after_injection net n M) c)) Idle) routed-same
      ∙ ap (λ (o : Option Channel). cond (has_channel M.routed c) (seen_phase_with net (after_injection net n M) r i c o) Idle) (next-same net good M x n c)
      ∙ by way
    where
      by : owner_of net (after_injection net n M) c ≡ owner_of net M c ⊎ (has_channel M.routed c ≡ false)
          → cond (has_channel M.routed c) (seen_phase_with net (after_injection net n M) r i c (next_channel net M c)) Idle ≡ cond (has_channel M.routed c) (seen_phase_with net M r i c (next_channel net M c)) Idle
      by (inl e) = ap (λ (ph : InputState). cond (has_channel M.routed c) ph Idle) (phase-with r i c e (next_channel net M c))
      by (inr e) =
          ap (λ b. cond b (seen_phase_with net (after_injection net n M) r i c (next_channel net M c)) Idle) e ∙ sym (ap (λ b. cond b (seen_phase_with net M r i c (next_channel net M c)) Idle) e)

  pub input-quiet : (r i : ℕ) (c : Channel) → (IsEject c → ⊥) → Quiet net good M x n c → seen_input net (after_injection net n M) r i (Some c) ≡ seen_input net M r i (Some c)
  input-quiet r i c eject quiet = at (owner_of net M c) refl
    where
      same : owner_of net (after_injection net n M) c ≡ owner_of net M c
      same = owner-quiet net good M x n c quiet

      phase : seen_phase net (after_injection net n M) r i c ≡ seen_phase net M r i c
      phase = phase-same r i c (inl same)

      at : (o : Option ℕ) → owner_of net M c ≡ o → seen_input net (after_injection net n M) r i (Some c) ≡ seen_input net M r i (Some c)
      at None e = seen-unowned net (after_injection net n M) r i c (same ∙ e) ∙ ap (λ (ph : InputState). made ph None None) phase ∙ sym (seen-unowned net M r i c e)
      at (Some p) e =
          let h : IsHeld net M c p = (owner-has net M c p e, eject) in
          let hT : IsHeld net (after_injection net n M) c p = (owned-left net good M x n c p h.0, eject) in
          let count = count-quiet net good M x n p c h quiet in
          let present : is_present net (after_injection net n M) c p ≡ is_present net M c p
          = ap (λ k. nat_lt 0 k && not (is_past net c (goal net p) (tail_place net (after_injection net n M) p))) count
          ∙ ap (λ b. nat_lt 0 (come_count net M c p) && not b) ((routedT net good M x n).behind c p hT ∙ sym (x.whole.routed.behind c p h)) in
          let last : last_come net (after_injection net n M) c p ≡ last_come net M c p = ap (λ k. if nat_eq k 0 then None else Some (flit_at (packet_at net p) p (k - 1))) count in
          seen-held net (after_injection net n M) r i p c (same ∙ e)
          ∙ ap (λ (ph : InputState). made ph (if is_present net (after_injection net n M) c p then Some p else None) (option_and_then next_of (last_come net (after_injection net n M) c p))) phase
          ∙ ap (λ b. made (seen_phase net M r i c) (if b then Some p else None) (option_and_then next_of (last_come net (after_injection net n M) c p))) present
          ∙ ap (λ (l : Option Flit). made (seen_phase net M r i c) (if is_present net M c p then Some p else None) (option_and_then next_of l)) last
          ∙ sym (seen-held net M r i p c e)

  -- ---- output channels

  injected-off : (c : Channel) (f : Located) (one : Option (Injection net)) → is_on c (injected_place net M f one) ≡ is_on c f.place
  injected-off c f None = refl
  injected-off c f (Some one) = at f.place refl
    where
      at : (y : Place) → f.place ≡ y → is_on c (cond (is_at_source f.place && is_the_flit net f (first_at_source net M f.packet)) (In one.channel) f.place) ≡ is_on c f.place
      at Source k = by (is_at_source f.place && is_the_flit net f (first_at_source net M f.packet))
        where
          by : (b : Bool) → is_on c (cond b (In one.channel) f.place) ≡ is_on c f.place
          by true = sym (ap (is_on c) k)
          by false = refl
      at (On d) k = ap (λ (y : Place). is_on c (cond (is_at_source y && is_the_flit net f (first_at_source net M f.packet)) (In one.channel) f.place)) k
      at (In d) k = ap (λ (y : Place). is_on c (cond (is_at_source y && is_the_flit net f (first_at_source net M f.packet)) (In one.channel) f.place)) k
      at (Out d) k = ap (λ (y : Place). is_on c (cond (is_at_source y && is_the_flit net f (first_at_source net M f.packet)) (In one.channel) f.place)) k

  length-kept : (t : Located → Bool) (step : Located → Located) (fs : List Located) → ((f : Located) → t (step f) ≡ t f) → length (filter t (map step fs)) ≡ length (filter t fs)
  length-kept t step [] same = refl
  length-kept t step (f ∷ fs) same = at (t f) refl (length-kept t step fs same)
    where
      at : (b : Bool) → t f ≡ b → length (filter t (map step fs)) ≡ length (filter t fs) → length (filter t (map step (f ∷ fs))) ≡ length (filter t (f ∷ fs))
      at true e rest = rw (same f, e) (ap suc rest)
      at false e rest = rw (same f, e) rest

  on-same : (c : Channel) → count_on net (after_injection net n M) c ≡ count_on net M c
  unfolding after_injection
  on-same c =
      length-kept (λ (f : Located). is_on c f.place) (step net good M x n) M.at (λ f. injected-off c f (find (λ (one : Injection net). nat_eq one.packet f.packet) (injections net M n)))

  credit-same : (c : Channel) → Quiet net good M x n c → credit_of net (after_injection net n M) c ≡ credit_of net M c
  credit-same c quiet =
      ap (λ k. net.depth - k - count_in net (after_injection net n M) c - (if has_channel (after_injection net n M).back c then 1 else 0)) (on-same c)
      ∙ ap (λ k. net.depth - count_on net M c - k - (if has_channel (after_injection net n M).back c then 1 else 0)) (ap length (buffer-quiet c quiet))
      ∙ ap (λ (cs : List Channel). net.depth - count_on net M c - count_in net M c - (if has_channel cs c then 1 else 0)) back-same

  sender-same : (r : ℕ) (o : Channel) → seen_sender net (after_injection net n M) r o ≡ seen_sender net M r o
  sender-same r o = ap (λ (k : Option ℕ). unwrap_or k 0) (find-each (below (size net)))
    where
      each : (c : Option Channel) → unwrap_or (option_map (goes_on_by net (after_injection net n M) o) c) false ≡ unwrap_or (option_map (goes_on_by net M o) c) false
      each None = refl
      each (Some c) = ap (λ (q : Option Channel). unwrap_or (option_map (same_channel o) q) false) (next-same net good M x n c)

      find-each : (is : List ℕ) → find (λ i. unwrap_or (option_map (goes_on_by net (after_injection net n M) o) (arriving net r i)) false) is ≡ find (λ i. unwrap_or (option_map (goes_on_by net M o) (arriving net r i)) false) is
      find-each [] = refl
      find-each (i ∷ is) =
          ap (λ b. cond b (Some i) (find (λ i. unwrap_or (option_map (goes_on_by net (after_injection net n M) o) (arriving net r i)) false) is)) (each (arriving net r i))
          ∙ ap (λ (q : Option ℕ). cond (unwrap_or (option_map (goes_on_by net M o) (arriving net r i)) false) (Some i) q) (find-each is)

  tail-on : (p : ℕ) (c : Channel) → p < length net.packets → is_on c (tail_place net (after_injection net n M) p) ≡ is_on c (tail_place net M p)
  tail-on p c l = by (goes net good M x n p (last_of net p) (valid-last net good.built p l))
    where
      by : Goes net good M x n p (last_of net p) → is_on c (tail_place net (after_injection net n M) p) ≡ is_on c (tail_place net M p)
      by (stays e) = ap (is_on c) e
      by (goes_in one h e was now) = ap (is_on c) now ∙ sym (ap (is_on c) was)

  holder-same : (r : ℕ) (c : Channel) → Quiet net good M x n c → seen_holder net (after_injection net n M) r c (owner_of net (after_injection net n M) c) ≡ seen_holder net M r c (owner_of net M c)
  holder-same r c quiet = ap (seen_holder net (after_injection net n M) r c) (owner-quiet net good M x n c quiet) ∙ at (owner_of net M c) refl
    where
      sent : (p : ℕ) → Has (c, p) M.own → (d : Channel) → d ≡ c → (is_link c && (is_on c (tail_place net (after_injection net n M) p) || has_come net c (goal net p) (tail_place net (after_injection net n M) p)))
          ≡ (is_link c && (is_on c (tail_place net M p) || has_come net c (goal net p) (tail_place net M p)))
      sent p h (Link a b w) e =
          let low = (worm net good M x n).known c p h in
          ap (λ z. is_link c && (z || has_come net c (goal net p) (tail_place net (after_injection net n M) p))) (tail-on p c low)
          ∙ ap (λ z. is_link c && (is_on c (tail_place net M p) || z)) (come-quiet net good M x n p (last_of net p) c (valid-last net good.built p low) (h, subst (λ (y : Channel). IsEject y → ⊥) e (λ z. z)) quiet)
      sent p h (Inject a w) e = ap (λ (y : Channel). is_link y && (is_on c (tail_place net (after_injection net n M) p) || has_come net c (goal net p) (tail_place net (after_injection net n M) p))) (sym e)
          ∙ sym (ap (λ (y : Channel). is_link y && (is_on c (tail_place net M p) || has_come net c (goal net p) (tail_place net M p))) (sym e))
      sent p h (Eject a w) e = ap (λ (y : Channel). is_link y && (is_on c (tail_place net (after_injection net n M) p) || has_come net c (goal net p) (tail_place net (after_injection net n M) p))) (sym e)
          ∙ sym (ap (λ (y : Channel). is_link y && (is_on c (tail_place net M p) || has_come net c (goal net p) (tail_place net M p))) (sym e))

      at : (o : Option ℕ) → owner_of net M c ≡ o → seen_holder net (after_injection net n M) r c o ≡ seen_holder net M r c o
      at None e = refl
      at (Some p) e =
          ap (λ b. cond b Draining (Owned (seen_sender net (after_injection net n M) r c) p)) (sent p (owner-has net M c p e) c refl)
          ∙ ap (λ k. cond (is_link c && (is_on c (tail_place net M p) || has_come net c (goal net p) (tail_place net M p))) Draining (Owned k p)) (sender-same r c)

  pub output-quiet : (r : ℕ) (c : Channel) → Quiet net good M x n c → seen_output net (after_injection net n M) r c ≡ seen_output net M r c
  output-quiet r (Link a b w) quiet =
      ap (λ h. record { holder = h; credit = Some (credit_of net (after_injection net n M) (Link a b w)); depth = net.depth }) (holder-same r (Link a b w) quiet)
      ∙ ap (λ k. record { holder = seen_holder net M r (Link a b w) (owner_of net M (Link a b w)); credit = Some k; depth = net.depth }) (credit-same (Link a b w) quiet)
  output-quiet r (Inject a w) quiet = ap (λ h. record { holder = h; credit = None; depth = 0 }) (holder-same r (Inject a w) quiet)
  output-quiet r (Eject a w) quiet = ap (λ h. record { holder = h; credit = None; depth = 0 }) (holder-same r (Eject a w) quiet)
