-- A cycle without an event leaves the whole state as it is, and so does each that follows
-- before a packet becomes due.
use Rattle.std.proofs.Common.{◌≡◌, ℕ, zero, suc, ◌+◌, ◌-◌, ◌<◌, ◌≤◌, Bool, true, false, cond, List, [], ◌∷◌, ◌++◌, length, map, get_or, Option, Some, None, refl, ap, ap₂, sym, subst, ◌∙◌, arith, inl, inr, append-nil}
use Rattle.std.specs.Prelude.{◌⊎◌, ◌&&◌, count_by, filter, find, is_none, nat_eq, nat_le, not, option_and_then, option_map}
use Rattle.std.proofs.lemmas.Bool.{lt-leb}
use Rattle.std.proofs.lemmas.List.{nil_from_length}
use Rattle.noc_theory.proofs.Common.{cons_option, filter_map, list_any, and_left, and_parts, and_right, cases_lt, eq-eqb, eqb-true, false_from_ne_true, le-leb, false≢true, true≢false, and_from, get_or_past, Has, below, nodes, map_indexed-from_each, Packet, Channel, Link, Inject, Eject, is_link, ArbiterStates, arbiters_after, is_event, is_granted, is_moved, is_routed, Verdict, Routed, Granted, IsWellFormedSetup, Injection, Located, Setup, State, after_credits, after_injection, after_landing, after_verdicts, all_inputs, arrival_in, end_of, first_waiting, frozen_at, frozen_state, grant_to_owner, granted_pair, has_channel, injected_place, injection_at, injection_with, injections, is_freed, is_idle, is_injection_of, is_past, is_released, is_tail_of_packet, front_in, network_cycle, owned_by, owner_of, packet_at, round_at, state_at, tail_leaves, tail_place, verdict_in, events, is_flying, is_pending, is_stuck}
use Rattle.noc_theory.specs.Progress.{NoneDue}
use Rattle.noc_theory.proofs.worms.MemberLemmas.{any-same, filter-all}
use Rattle.noc_theory.proofs.worms.OneBackLemmas.{arbiters-frozen, arbiters-state}
use Rattle.noc_theory.proofs.worms.WormOrderLemmas.{whole-at}
use Rattle.noc_theory.proofs.budget.ProgressLemmas.{injection-same, landing-same, quiet-frozen}
use Rattle.noc_theory.proofs.budget.ProgressTheoremLemmas.{built, chain}
use Rattle.noc_theory.proofs.budget.StuckLemmas.{cycle-same, unmoved}
use Rattle.noc_theory.proofs.budget.UnaskedLemmas.{arbiters-unasked}
use Rattle.noc_theory.proofs.budget.WormLemmas.{filter-none}

-- a choice that no member passes
filter_map-none : {X Y : Type 0} (f : X → Option Y) (xs : List X) → ((x : X) → Has x xs → f x ≡ None) → filter_map f xs ≡ []
filter_map-none f [] none = refl
filter_map-none f (x ∷ xs) none = ap (λ o. cons_option o (filter_map f xs)) (none x (inl refl)) ∙ filter_map-none f xs (λ y h. none y (inr h))

-- two choices that agree
filter_map-same : {X Y : Type 0} (f g : X → Option Y) (xs : List X) → ((x : X) → f x ≡ g x) → filter_map f xs ≡ filter_map g xs
filter_map-same f g [] same = refl
filter_map-same f g (x ∷ xs) same = ap₂ cons_option (same x) (filter_map-same f g xs same)

-- no element passes
any-none : {X : Type 0} (t : X → Bool) (xs : List X) → ((x : X) → t x ≡ false) → list_any t xs ≡ false
any-none t [] none = refl
any-none t (x ∷ xs) none = rw (none x) (any-none t xs none)

-- a verdict that is no event
unrouted : (v : Verdict) → is_event v ≡ false → is_routed v ≡ false
unrouted Routed e = absurd (true≢false e)
unrouted _ e = refl

ungranted : (v : Verdict) → is_event v ≡ false → is_granted v ≡ false
ungranted Granted e = absurd (true≢false e)
ungranted _ e = refl

module _ (net : Setup) (made : IsWellFormedSetup net) (n : ℕ) (quiet : events net n (state_at net n) ≡ 0) where
  abbrev S : State
  S = state_at net n

  abbrev F : State
  F = frozen_at net n

  no_back : S.back ≡ []
  no_back = nil_from_length _ (omega arith)

  tail-landed : (p : ℕ) → tail_place net (after_landing net S) p ≡ tail_place net S p
  unfolding after_landing after_credits
  tail-landed p = ap (λ (at : List Located). tail_place net (record S { at = at }) p) (landing-same net n S quiet)

  -- no channel becomes idle, since no credit is on its way
  unfreed : (pair : Channel × ℕ) → Has pair S.own → is_freed net (after_landing net S) pair ≡ false
  unfreed (Inject m v, p) h = refl
  unfreed (Eject m v, p) h = refl
  unfreed (Link r a v, p) h =
      false_from_ne_true _ (λ past.
      let there = ap (is_past net (Link r a v) (packet_at net p).destination) (sym (tail-landed p)) ∙ past in
      let back = (whole-at net made n).backed (Link r a v) p (h, λ e. e) refl there in
      false≢true (sym (ap (λ cs. has_channel cs (Link r a v)) no_back) ∙ back))

  -- what is frozen is the state itself
  frozen-is : frozen_at net n ≡ state_at net n
  unfolding after_credits after_landing
  frozen-is =
      injection-same net n S quiet
      ∙ ap (λ (at : List Located). record S { at = at; back = []; own = filter (λ pair. not (is_freed net (after_landing net S) pair)) S.own }) (landing-same net n S quiet)
      ∙ ap (λ own. record S { back = []; own = own }) (sym (filter-all (λ pair. not (is_freed net (after_landing net S) pair)) S.own (λ pair h. ap not (unfreed pair h))))
      ∙ ap (λ back. record S { back = back }) (sym no_back)

  silent : (c : Channel) → Has c (all_inputs net) → is_event (verdict_in net F c) ≡ false
  silent = (quiet-frozen net n S quiet).silent

  still : (c : Channel) → is_moved (verdict_in net F c) ≡ false
  still = unmoved net made n quiet

  no_tail : (c : Channel) → tail_leaves net F c ≡ false
  no_tail c = and_left _ (is_tail_of_packet net (front_in net F c)) (still c)

  unreleased : (pair : Channel × ℕ) → is_released net F pair ≡ false
  unreleased (Link r a v, p) = refl
  unreleased (Inject m v, p) = no_tail (Inject m v)
  unreleased (Eject m v, p) = any-none _ (owned_by net F p) (λ c. and_left _ _ (no_tail c))

  no_pair : (c : Channel) → Has c (all_inputs net) → granted_pair net F c ≡ None
  no_pair c h = ap (λ b. cond b (option_and_then (λ r. option_and_then (grant_to_owner net F c r) (owner_of net F c)) (end_of net.relation c)) None) (ungranted (verdict_in net F c) (silent c h))

  -- the verdicts take no effect
  at-stays : (after_verdicts net n F).at ≡ F.at
  unfolding network_cycle
  at-stays = cycle-same net made n quiet ∙ ap (λ (X : State). X.at) (sym frozen-is)

  own-stays : (after_verdicts net n F).own ≡ F.own
  unfolding after_verdicts
  own-stays =
      ap₂ (λ kept given. kept ++ given) (sym (filter-all (λ pair. not (is_released net F pair)) F.own (λ pair h. ap not (unreleased pair)))) (filter_map-none (granted_pair net F) (all_inputs net) no_pair)
      ∙ append-nil F.own

  routed-stays : (after_verdicts net n F).routed ≡ F.routed
  unfolding after_verdicts
  routed-stays =
      ap₂ (λ kept more. kept ++ more) (sym (filter-all (λ c. not (tail_leaves net F c)) F.routed (λ c h. ap not (no_tail c))))
      (filter-none (λ c. is_routed (verdict_in net F c)) (all_inputs net) (λ c h. unrouted (verdict_in net F c) (silent c h)))
      ∙ append-nil F.routed

  back-stays : (after_verdicts net n F).back ≡ F.back
  unfolding after_verdicts
  back-stays = filter-none (λ c. is_link c && is_moved (verdict_in net F c)) (all_inputs net) (λ c h. and_right (is_link c) _ (still c)) ∙ sym (quiet-frozen net n S quiet).no_credit

  arbiters-stay : (after_verdicts net n F).arbiters ≡ F.arbiters
  unfolding after_verdicts
  arbiters-stay =
      let none : ArbiterStates = record { channels = []; inputs = []; outputs = [] } in
      sym (map_indexed-from_each (λ r arbiters. arbiters_after (round_at net F r) arbiters) F.arbiters F.arbiters none none refl
      (λ r l. let in_net : r < nodes net.relation.grid = omega (arith, l, ap length (arbiters-frozen net n S), arbiters-state net n) in
      sym (arbiters-unasked net F (built net made) (chain net made n) n (quiet-frozen net n S quiet) r in_net (get_or F.arbiters r none))))

  verdicts-stay : after_verdicts net n F ≡ F
  verdicts-stay = rebuilt (after_verdicts net n F) F at-stays own-stays routed-stays back-stays arbiters-stay
    where
      rebuilt : (T U : State) → T.at ≡ U.at → T.own ≡ U.own → T.routed ≡ U.routed → T.back ≡ U.back → T.arbiters ≡ U.arbiters → T ≡ U
      rebuilt T U at own routed back arbiters =
          ap (λ (x : List Located). record T { at = x }) at ∙ ap (λ x. record U { own = x; routed = T.routed; back = T.back; arbiters = T.arbiters }) own
          ∙ ap (λ x. record U { routed = x; back = T.back; arbiters = T.arbiters }) routed ∙ ap (λ x. record U { back = x; arbiters = T.arbiters }) back ∙ ap (λ x. record U { arbiters = x }) arbiters

  -- a cycle without an event leaves the state as it is
  pub state-stays : state_at net (suc n) ≡ state_at net n
  unfolding state_at network_cycle
  state-stays = verdicts-stay ∙ frozen-is

-- cycles by which the same packets are due
module _ (net : Setup) (n m : ℕ) (later : n ≤ m) (none : NoneDue net n m) where
  due-same : (p : ℕ) → nat_le (packet_at net p).due m ≡ nat_le (packet_at net p).due n
  due-same p = at (cases_lt n (packet_at net p).due) (cases_lt p (length net.packets))
    where
      at : (n < (packet_at net p).due) ⊎ ((packet_at net p).due ≤ n) → (p < length net.packets) ⊎ (length net.packets ≤ p) → nat_le (packet_at net p).due m ≡ nat_le (packet_at net p).due n
      at (inr early) there = le-leb _ m (omega arith) ∙ sym (le-leb _ n early)
      at (inl late) (inl there) = lt-leb _ m (none p there late) ∙ sym (lt-leb _ n late)
      at (inl late) (inr past) =
          let unknown : (packet_at net p).due ≡ 0 = ap (λ (q : Packet). q.due) (get_or_past net.packets p _ past) in
          absurd (omega (arith, late, unknown))

  begins-same : (T : State) (node p : ℕ) (o : Option Channel) → injection_with net T m node p o ≡ injection_with net T n node p o
  begins-same T node p (Some c) = refl
  begins-same T node p None = ap (λ b. cond b (option_map (λ v. record { packet = p; channel = Inject node v; begins = true }) (find (λ v. is_idle net T (Inject node v)) (below net.relation.vcs))) None) (due-same p)

  injections-same : (T : State) → injections net T m ≡ injections net T n
  injections-same T = filter_map-same (injection_at net T m) (injection_at net T n) (below (nodes net.relation.grid)) (λ node. at node (first_waiting net T node))
    where
      at : (node : ℕ) (o : Option ℕ)
          → option_and_then (λ p. injection_with net T m node p (find (is_injection_of net node) (owned_by net T p))) o ≡ option_and_then (λ p. injection_with net T n node p (find (is_injection_of net node) (owned_by net T p))) o
      at node None = refl
      at node (Some p) = begins-same T node p (find (is_injection_of net node) (owned_by net T p))

  frozen-same : (T : State) → frozen_state net m T ≡ frozen_state net n T
  unfolding frozen_state after_injection
  frozen-same T =
      let U = after_credits net (after_landing net T) in
      ap (λ (all : List (Injection net)). record U {
        at = map (λ (f : Located). record f { place = injected_place net U f (find (λ (one : Injection net). nat_eq one.packet f.packet) all) }) U.at;
        own = U.own ++ map (λ (one : Injection net). (one.channel, one.packet)) (filter (λ (one : Injection net). one.begins) all);
      }) (injections-same U)

  -- from one state they have the same events
  events-same : (T : State) → events net m T ≡ events net n T
  events-same T =
      ap₂ (λ entries verdicts. count_by (λ (f : Located). is_flying f.place) T.at + length T.back + entries + verdicts)
      (ap length (injections-same (after_credits net (after_landing net T))))
      (ap (λ X. count_by (λ c. is_event (verdict_in net X c)) (all_inputs net)) (frozen-same T))

-- the cycles that follow one without an event
module _ (net : Setup) (made : IsWellFormedSetup net) (n : ℕ) (quiet : events net n (state_at net n) ≡ 0) where
  quiet-after : (k : ℕ) → NoneDue net n (n + k) → state_at net (n + k) ≡ state_at net n → events net (n + k) (state_at net (n + k)) ≡ 0
  quiet-after k none same = ap (events net (n + k)) same ∙ events-same net n (n + k) (omega arith) none (state_at net n) ∙ quiet

  same-after : (k : ℕ) → NoneDue net n (n + k) → state_at net (n + k) ≡ state_at net n
  same-after zero none = let here : n + 0 ≡ n = omega arith in ap (state_at net) here
  same-after (suc k) none =
      let fewer : NoneDue net n (n + k) = λ p l late. let far = none p l late in omega (arith, far) in
      let before = same-after k fewer in
      let next : n + suc k ≡ suc (n + k) = omega arith in
      ap (state_at net) next ∙ state-stays net made (n + k) (quiet-after k fewer before) ∙ before

  module _ (m : ℕ) (later : n ≤ m) (none : NoneDue net n m) where
    same-there : state_at net m ≡ state_at net n
    same-there = let there : n + (m - n) ≡ m = omega arith in ap (state_at net) (sym there) ∙ same-after (m - n) (subst (NoneDue net n) (sym there) none)

    -- none of them has an event before a packet is due
    pub quiet-until : events net m (state_at net m) ≡ 0
    quiet-until = ap (events net m) same-there ∙ events-same net n m later none (state_at net n) ∙ quiet

    -- and each leaves the state as it is
    pub state-until : state_at net (suc m) ≡ state_at net n
    state-until = state-stays net made m quiet-until ∙ same-there

-- a network that is stuck stays stuck until another packet is due
pub stuck-until : (net : Setup) → IsWellFormedSetup net → (n m : ℕ) → is_stuck net (suc n) ≡ true → n ≤ m → NoneDue net n m → is_stuck net (suc m) ≡ true
stuck-until net made n m stuck later none =
    let parts = and_parts (is_pending net n (state_at net n)) (nat_eq (events net n (state_at net n)) 0) stuck in
    let quiet = eqb-true _ _ parts.1 in
    let pending : is_pending net m (state_at net m) ≡ true =
    any-same (λ p. nat_le (packet_at net p).due m && is_none (arrival_in net (state_at net m) p)) (λ p. nat_le (packet_at net p).due n && is_none (arrival_in net (state_at net n) p)) (below (length net.packets))
    (λ p h. ap₂ (λ due (S : State). due && is_none (arrival_in net S p)) (due-same net n m later none p) (same-there net made n quiet m later none))
    ∙ parts.0 in
    and_from _ _ pending (eq-eqb _ 0 (quiet-until net made n quiet m later none))
