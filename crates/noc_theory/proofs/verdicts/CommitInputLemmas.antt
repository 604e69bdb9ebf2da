-- The verdicts take effect on the buffers and the input channels of a view.
use Rattle.std.proofs.Common.{◌≡◌, ℕ, ◌/◌, ◌%◌, ◌<◌, ◌≤◌, Bool, true, false, cond, List, [], ◌∷◌, map, length, drop, get_or, Option, Some, None, refl, ap, sym, ◌∙◌, inl, inr, arith}
use Rattle.std.specs.Prelude.{filter, find, option_map, option_and_then, ◌⊎◌, ◌&&◌, nat_lt, slice_get, slice_index, if◌then◌else◌}
use Rattle.noc_vc.specs.Input.{is_idle_phase}
use Rattle.noc_vc.specs.declared.input.InputState.TheVariants.{Active}
use Rattle.noc_view.specs.View.{buffer_after, input_after, granted_to, sent_from, route_of, route_for}
use Rattle.noc_view.specs.declared.verdict.Verdict.TheVariants.{NoFlit, NoCredit}
use Rattle.noc_view.proofs.PlanLemmas.{verdict-moved, verdict-granted, verdict-routed}
use Rattle.noc_theory.proofs.Common.{false≢true, cases_lt, none-some, same_Some, get_or-map, get_or_past, tabulate, Has, nodes, get_or-tabulate, length-tabulate, flit_at, Flit, Channel, output_index, set_at, Input, idle_input, Idle, Waiting, Claim, Unrouted, Waits, Holds, verdict_of, is_routed, is_granted, is_moved, ask_of, Site, View, Decisions, size_of, view_buffer, view_input, view_claim, decisions_of, decided_verdict, first_flit, Verdict, Empty, Routed, Granted, Moved, NoIdleChannel, LostChannel, LostInput, LostSwitch, Finding, finding_in, seen_flits, seen_input, seen_phase, seen_phase_with, seen_set, Setup, State, Located, size, arriving, leaving, packet_at, place_of_flit, owner_of, next_channel, has_channel, has_credit_in, ask, claim_of, claim_with, verdict_in, round_at, count_in, buffer_of, front_in, is_in, is_tail_of_packet, tail_leaves, after_verdicts, granted_pair, grant_to_owner, end_of, is_moved-true, IsSeen}
use Rattle.noc_theory.proofs.worms.BufferLemmas.{find-passes, buffer-moved, buffer-stays}
use Rattle.noc_theory.proofs.worms.GrantLemmas.{IsGrant, granted-is}
use Rattle.noc_theory.proofs.worms.MemberLemmas.{Has-kept, find-has}
use Rattle.noc_theory.proofs.worms.OwnedLemmas.{owner-has, owner-is}
use Rattle.noc_theory.proofs.worms.RoomLemmas.{unowned-empty}
use Rattle.noc_theory.proofs.worms.StateWordLemmas.{IsHeld}
use Rattle.noc_theory.proofs.worms.UnmixedLemmas.{in-buffer}
use Rattle.noc_theory.proofs.worms.VerdictRoomLemmas.{sorted-distinct}
use Rattle.noc_theory.proofs.verdicts.AfterInputLemmas.{unowned-after, phase-after, unchanged, waits-after, goes-after, left-after}
use Rattle.noc_theory.proofs.verdicts.AfterNextLemmas.{next-given}
use Rattle.noc_theory.proofs.verdicts.NextViewLemmas.{next-none}
use Rattle.noc_theory.proofs.join.OrderedLemmas.{IsGood, IsOrderedFrozen}
use Rattle.noc_theory.proofs.join.PlaceViewLemmas.{IsAt, arrives-in, not-eject, leaving-from}
use Rattle.noc_theory.proofs.verdicts.StandLemmas.{InputCase, none, some, input-case, claim-some, verdict-at, findings-are}

-- the first of a filter is what is found
pub first-filter : {X Y : Type 0} (f : X → Y) (t : X → Bool) (xs : List X) → slice_get (map f (filter t xs)) 0 ≡ option_map f (find t xs)
first-filter f t [] = refl
first-filter f t (x ∷ xs) = at (t x) refl (first-filter f t xs)
  where
    at : (b : Bool) → t x ≡ b → slice_get (map f (filter t xs)) 0 ≡ option_map f (find t xs) → slice_get (map f (filter t (x ∷ xs))) 0 ≡ option_map f (find t (x ∷ xs))
    at true e rest = rw e refl
    at false e rest = rw e rest

-- where nothing is found the filter is empty
pub find-empty : {X : Type 0} (t : X → Bool) (xs : List X) → find t xs ≡ None → filter t xs ≡ []
find-empty t [] e = refl
find-empty t (x ∷ xs) e = at (t x) refl e (find-empty t xs)
  where
    at : (b : Bool) → t x ≡ b → cond b (Some x) (find t xs) ≡ None → (find t xs ≡ None → filter t xs ≡ []) → filter t (x ∷ xs) ≡ []
    at true k z rest = absurd (none-some x (sym z))
    at false k z rest = rw k (rest z)

map-drop : {X Y : Type 0} (f : X → Y) (xs : List X) → drop 1 (map f xs) ≡ map f (drop 1 xs)
map-drop f [] = refl
map-drop f (x ∷ xs) = refl

-- ---- what a claim says
module _ (net : Setup) (F : State) (r : ℕ) (c : Channel) where
  pub claim-unrouted : claim_of net F r c ≡ Unrouted → has_channel F.routed c ≡ false
  claim-unrouted e = at (has_channel F.routed c) refl (next_channel net F c)
    where
      at : (b : Bool) → has_channel F.routed c ≡ b → (o : Option Channel) → has_channel F.routed c ≡ false
      at false k o = k
      at true k o = absurd (by (next_channel net F c) (sym (ap (λ b. cond b (claim_with net F r c (next_channel net F c)) Unrouted) k) ∙ e))
        where
          by : (o : Option Channel) → claim_with net F r c o ≡ Unrouted → ⊥
          by None z = cc z
          by (Some o) z = cc z

  pub claim-waits : (o : ℕ) → claim_of net F r c ≡ Waits (Some o) → (has_channel F.routed c ≡ true) × (next_channel net F c ≡ None) × (ask net F r c ≡ Some o)
  claim-waits o e = at (has_channel F.routed c) refl (next_channel net F c) refl
    where
      at : (b : Bool) → has_channel F.routed c ≡ b → (next : Option Channel) → next_channel net F c ≡ next → (has_channel F.routed c ≡ true) × (next_channel net F c ≡ None) × (ask net F r c ≡ Some o)
      at false k next m = let z : Unrouted ≡ Waits (Some o) = sym (rw k refl) ∙ e in absurd (cc z)
      at true k None m = let z : Waits (ask net F r c) ≡ Waits (Some o) = sym (rw (k, m) refl) ∙ e in (k, m, cc)
      at true k (Some q) m = let z : Holds (output_index net.relation.grid net.relation.vcs q) (has_credit_in net F q) ≡ Waits (Some o) = sym (rw (k, m) refl) ∙ e in absurd (cc z)

  pub claim-holds : (o : ℕ) (b : Bool) → claim_of net F r c ≡ Holds o b → (has_channel F.routed c ≡ true) × ((q : Channel) × (next_channel net F c ≡ Some q) × (output_index net.relation.grid net.relation.vcs q ≡ o) × (has_credit_in net F q ≡ b))
  claim-holds o b e = at (has_channel F.routed c) refl (next_channel net F c) refl
    where
      at : (y : Bool) → has_channel F.routed c ≡ y → (next : Option Channel) → next_channel net F c ≡ next
          → (has_channel F.routed c ≡ true) × ((q : Channel) × (next_channel net F c ≡ Some q) × (output_index net.relation.grid net.relation.vcs q ≡ o) × (has_credit_in net F q ≡ b))
      at false k next m = let z : Unrouted ≡ Holds o b = sym (rw k refl) ∙ e in absurd (cc z)
      at true k None m = let z : Waits (ask net F r c) ≡ Holds o b = sym (rw (k, m) refl) ∙ e in absurd (cc z)
      at true k (Some q) m =
          let z : Holds (output_index net.relation.grid net.relation.vcs q) (has_credit_in net F q) ≡ Holds o b = sym (rw (k, m) refl) ∙ e in
          (k, (q, m, cc, cc))

module _ (net : Setup) (good : IsGood net) (F : State) (x : IsOrderedFrozen net F) (n r : ℕ) (l : r < nodes net.relation.grid) (v : View) (seen : IsSeen net F r v) where
  abbrev pub T : State
  T = after_verdicts net n F

  abbrev pub d : Decisions
  d = decisions_of net.relation v

  -- ---- verdicts

  decided-is : (i : ℕ) → i < size net → decided_verdict d i ≡ (finding_in net F r i (arriving net r i)).verdict
  decided-is i u =
      let all = findings-are net good F x r l v seen in
      let fs : List Finding = tabulate (size net) (λ k. finding_in net F r k (arriving net r k)) in
      let len : length fs ≡ size net = length-tabulate (size net) _ in
      ap (λ (gs : List Finding). get_or (map (λ (f : Finding). f.verdict) gs) i Empty) all
      ∙ get_or-map (λ (f : Finding). f.verdict) fs i (finding_in net F r i (arriving net r i)) Empty (omega (arith, len))
      ∙ ap (λ (f : Finding). f.verdict) (get_or-tabulate (size net) i _ _ u)

  pub decided-none : (i : ℕ) → i < size net → arriving net r i ≡ None → decided_verdict d i ≡ Empty
  decided-none i u e = decided-is i u ∙ ap (λ (o : Option Channel). (finding_in net F r i o).verdict) e

  pub decided-some : (i : ℕ) (c : Channel) → i < size net → arriving net r i ≡ Some c → decided_verdict d i ≡ verdict_in net F c
  decided-some i c u e = decided-is i u ∙ ap (λ (o : Option Channel). (finding_in net F r i o).verdict) e

  abbrev flit_of : Located → Flit
  flit_of f = flit_at (packet_at net f.packet) f.packet f.index

  -- ---- buffers

  buffer-by : (c : Channel) → buffer_after (seen_flits net F (Some c)) (verdict_in net F c) ≡ seen_flits net T (Some c)
  buffer-by c = at (is_moved (verdict_in net F c)) refl
    where
      at : (b : Bool) → is_moved (verdict_in net F c) ≡ b → cond b (drop 1 (seen_flits net F (Some c))) (seen_flits net F (Some c)) ≡ seen_flits net T (Some c)
      at true e = map-drop flit_of (buffer_of net F c) ∙ sym (ap (map flit_of) (buffer-moved net F n c (is_moved-true _ e) (sorted-distinct net F.at x.whole.sound.keyed.sorted)))
      at false e = sym (ap (map flit_of) (buffer-stays net F n c e))

  pub buffer-commit : (i : ℕ) → i < size net → buffer_after (view_buffer v i) (decided_verdict d i) ≡ seen_flits net T (arriving net r i)
  buffer-commit i u = by (input-case net good F x r l v seen i u)
    where
      by : InputCase net good F x r l v seen i → buffer_after (view_buffer v i) (decided_verdict d i) ≡ seen_flits net T (arriving net r i)
      by (none e) =
          ap (λ (fs : List Flit). buffer_after fs (decided_verdict d i)) (seen.buffer i u ∙ ap (seen_flits net F) e) ∙ ap (buffer_after []) (decided-none i u e) ∙ sym (ap (seen_flits net T) e)
      by (some c e at) =
          ap (λ (fs : List Flit). buffer_after fs (decided_verdict d i)) (seen.buffer i u ∙ ap (seen_flits net F) e)
          ∙ ap (buffer_after (seen_flits net F (Some c))) (decided-some i c u e)
          ∙ buffer-by c
          ∙ sym (ap (seen_flits net T) e)

  pub first-is : (i : ℕ) (c : Channel) → i < size net → arriving net r i ≡ Some c → first_flit v i ≡ option_map flit_of (front_in net F c)
  first-is i c u e = ap (λ (fs : List Flit). slice_get fs 0) (seen.buffer i u ∙ ap (seen_flits net F) e) ∙ first-filter flit_of (λ (f : Located). is_in c f.place) F.at

  -- the first flit of a buffer that holds one
  pub first-some : (c : Channel) → nat_lt 0 (count_in net F c) ≡ true → (f : Located) × (front_in net F c ≡ Some f)
  first-some c e = at (front_in net F c) refl
    where
      at : (o : Option Located) → front_in net F c ≡ o → (f : Located) × (front_in net F c ≡ Some f)
      at (Some f) k = (f, k)
      at None k =
          let z : count_in net F c ≡ 0 = ap length (find-empty (λ (f : Located). is_in c f.place) F.at k) in
          absurd (false≢true (ap (nat_lt 0) (sym z) ∙ e))

  -- the first flit of a buffer is of the owner of the channel
  pub first-packet : (c : Channel) (p : ℕ) (f : Located) → owner_of net F c ≡ Some p → front_in net F c ≡ Some f → f.packet ≡ p
  first-packet c p f own e =
      let m : Has f (buffer_of net F c) = Has-kept (λ (g : Located). is_in c g.place) f F.at (find-has (λ (g : Located). is_in c g.place) F.at f e) (find-passes (λ (g : Located). is_in c g.place) F.at f e) in
      same_Some f.packet p (sym (in-buffer net good.built F x.whole.sound.keyed x.whole.sound.worm c f m).holder ∙ own)

  -- an output channel that is won exists
  pub won-below : (o i : ℕ) → get_or (round_at net F r).grants o None ≡ Some i → o < size net
  won-below o i e = at (cases_lt o (size net))
    where
      at : (o < size net) ⊎ (size net ≤ o) → o < size net
      at (inl u) = u
      at (inr u) =
          let len : length (round_at net F r).grants ≡ size net = length-tabulate (size net) _ in
          let none : get_or (round_at net F r).grants o None ≡ None = get_or_past (round_at net F r).grants o None (omega (arith, len)) in
          absurd (none-some i (sym none ∙ e))

  route-at : (i : ℕ) → i < size net → slice_index d.routes i ≡ route_of net.relation v i
  unfolding decisions_of
  route-at i u = let s : size_of v.site ≡ size net = ap size_of seen.site in get_or-tabulate (size_of v.site) i (route_of net.relation v) 0 (omega (arith, s))

  -- ---- grants

  -- what an input channel is granted
  pub record Given (i : ℕ) (c : Channel) (p : ℕ) : Type 0 where
    pub out : ℕ
    pub asks : view_claim v i ≡ Waits (Some out)
    pub routed : has_channel F.routed c ≡ true
    pub won : get_or (round_at net F r).grants out None ≡ Some i
    pub pair : granted_pair net F c ≡ Some (leaving net r out, p)
    pub grant : IsGrant net F c (leaving net r out) p

  pub given-at : (i p : ℕ) (c : Channel) → i < size net → arriving net r i ≡ Some c → IsAt net good r i c → owner_of net F c ≡ Some p → verdict_in net F c ≡ Granted → Given i c p
  given-at i p c u e at own m =
      let claims = claim-some net good F x r l v seen i c u e at in
      let g = verdict-granted net.relation.vcs (round_at net F r) i (claim_of net F r c) (nat_lt 0 (count_in net F c)) (sym (verdict-at net good F x r l v seen i c at) ∙ m) in
      let o : ℕ = g.0 in
      let w = claim-waits net F r c o g.1 in
      let pair : granted_pair net F c ≡ Some (leaving net r o, p)
      = ap (λ (verdict : Verdict). if is_granted verdict then option_and_then (λ q. option_and_then (grant_to_owner net F c q) (owner_of net F c)) (end_of net.relation c) else None) m
      ∙ ap (λ (a : Option (ℕ × ℕ)). option_and_then (λ q. option_and_then (grant_to_owner net F c q) (owner_of net F c)) (option_map (λ (place : ℕ × ℕ). place.0) a)) at.arrives
      ∙ ap (λ (b : Option ℕ). option_and_then (grant_to_owner net F c r) b) own
      ∙ ap (option_map (λ k. (leaving net r k, p))) w.2 in
      record { out = o; asks = claims ∙ g.1; routed = w.0; won = g.2; pair = pair; grant = granted-is net F c (leaving net r o) p pair }

  -- ---- input channels

  input-of : (i : ℕ) (c : Channel) → i < size net → arriving net r i ≡ Some c → view_input v i ≡ seen_input net F r i (Some c)
  input-of i c u e = seen.input i u ∙ ap (seen_input net F r i) e

  unowned : (i : ℕ) (c : Channel) → i < size net → arriving net r i ≡ Some c → (at : IsAt net good r i c) → owner_of net F c ≡ None → input_after d v i (view_input v i) (decided_verdict d i) ≡ seen_input net T r i (Some c)
  unowned i c u e at idle =
      let never : (p : ℕ) → Has (c, p) F.own → ⊥ = λ p h. Rattle.noc_theory.proofs.worms.OwnedLemmas.idle-none net F c p idle h in
      let unrouted : has_channel F.routed c ≡ false = no_route (has_channel F.routed c) refl never in
      let empty : count_in net F c ≡ 0 = unowned-empty net good.built F x.whole.sound.keyed x.whole.sound.worm c never in
      let verdict : verdict_in net F c ≡ Empty
      = verdict-at net good F x r l v seen i c at
      ∙ ap (λ b. verdict_of net.relation.vcs (round_at net F r) i (cond b (claim_with net F r c (next_channel net F c)) Unrouted) (nat_lt 0 (count_in net F c))) unrouted
      ∙ ap (λ k. verdict_of net.relation.vcs (round_at net F r) i Unrouted (nat_lt 0 k)) empty in
      let idle_now : seen_input net F r i (Some c) ≡ idle_input
      = Rattle.noc_theory.proofs.verdicts.AfterInputLemmas.seen-unowned net F r i c idle ∙ ap (λ b. Rattle.noc_theory.proofs.verdicts.AfterInputLemmas.made (cond b (seen_phase_with net F r i c (next_channel net F c)) Idle) None None) unrouted in
      ap (input_after d v i (view_input v i)) (decided-some i c u e ∙ verdict)
      ∙ input-of i c u e ∙ idle_now
      ∙ sym (unowned-after net good F x n r i c (arrives-in net good at) idle unrouted verdict (not-eject net good at))
    where
      no_route : (b : Bool) → has_channel F.routed c ≡ b → ((p : ℕ) → Has (c, p) F.own → ⊥) → has_channel F.routed c ≡ false
      no_route false k never = k
      no_route true k never = let o = x.whole.routed.mid.only c k in absurd (never o.0 o.1.0)

  held : (i p : ℕ) (c : Channel) → i < size net → arriving net r i ≡ Some c → (at : IsAt net good r i c) → owner_of net F c ≡ Some p → input_after d v i (view_input v i) (decided_verdict d i) ≡ seen_input net T r i (Some c)
  held i p c u e at own = ap (input_after d v i (view_input v i)) (decided-some i c u e) ∙ by (verdict_in net F c) refl
    where
      member : Has c (Rattle.noc_theory.specs.Network.all_inputs net)
      member = arrives-in net good at

      h : IsHeld net F c p
      h = (owner-has net F c p own, not-eject net good at)

      input : view_input v i ≡ seen_input net F r i (Some c)
      input = input-of i c u e

      still : (verdict : Verdict) → verdict_in net F c ≡ verdict → is_moved verdict ≡ false → tail_leaves net F c ≡ false
      still verdict k m = ap (λ (y : Verdict). is_moved y && is_tail_of_packet net (front_in net F c)) k ∙ ap (λ b. b && is_tail_of_packet net (front_in net F c)) m

      same : (verdict : Verdict) → verdict_in net F c ≡ verdict → is_moved verdict ≡ false → is_routed verdict ≡ false → is_granted verdict ≡ false → view_input v i ≡ seen_input net T r i (Some c)
      same verdict k m a b = input ∙ sym (unchanged net good F x n r i c member p h (still verdict k m) (ap is_routed k ∙ a) (ap is_granted k ∙ b))

      route : verdict_in net F c ≡ Routed → input_after d v i (view_input v i) Routed ≡ seen_input net T r i (Some c)
      route k =
          let q = verdict-routed net.relation.vcs (round_at net F r) i (claim_of net F r c) (nat_lt 0 (count_in net F c)) (sym (verdict-at net good F x r l v seen i c at) ∙ k) in
          let unrouted = claim-unrouted net F r c q.0 in
          let f = first-some c q.1 in
          let packet : f.0.packet ≡ p = first-packet c p f.0 own f.1 in
          let none : next_channel net F c ≡ None
          = next-none net good.built F x.whole.sound.keyed x.whole.sound.worm p c h.0 (λ o m. false≢true (sym unrouted ∙ x.whole.routed.mid.granted c p h (o, m.owns, m.leads) (x.whole.routed.behind c p h))) in
          let idle : is_idle_phase (view_input v i).phase ≡ true
          = ap (λ (y : Input). is_idle_phase y.phase) input ∙ ap (λ b. is_idle_phase (cond b (seen_phase_with net F r i c (next_channel net F c)) Idle)) unrouted in
          let set : slice_index d.routes i ≡ seen_set net F r i (Some p)
          = route-at i u
          ∙ ap (λ b. if b then route_for net.relation v i (first_flit v i) else 0) idle
          ∙ ap (route_for net.relation v i) (first-is i c u e ∙ ap (option_map flit_of) f.1)
          ∙ ap (λ (s : Site). set_at net.relation (packet_at net f.0.packet).class s.node (i / s.vcs) (i % s.vcs) (packet_at net f.0.packet).destination) seen.site
          ∙ ap (λ a. set_at net.relation (packet_at net a).class r (i / net.relation.vcs) (i % net.relation.vcs) (packet_at net a).destination) packet in
          ap (λ a. record (view_input v i) { phase = Waiting a }) set
          ∙ ap (λ (y : Input). record y { phase = Waiting (seen_set net F r i (Some p)) }) input
          ∙ sym (phase-after net good F x n r i c member p h (still Routed k refl) (Waiting (seen_set net F r i (Some p))) (waits-after net good F x n r i c member p h (still Routed k refl) k none))

      grant : verdict_in net F c ≡ Granted → input_after d v i (view_input v i) Granted ≡ seen_input net T r i (Some c)
      grant k =
          let g = given-at i p c u e at own k in
          let phase : seen_phase net T r i c ≡ Active g.out
          = goes-after net good F x n r i c member p h (still Granted k refl) (leaving net r g.out) g.routed (ap is_routed k) (next-given net good F x n p c (leaving net r g.out) member g.pair g.grant)
          ∙ ap Active (leaving-from net good r g.out (won-below g.out i g.won)).is_index in
          ap (λ (claim : Claim). granted_to (view_input v i) (ask_of claim)) g.asks
          ∙ ap (λ (y : Input). record y { phase = Active g.out }) input
          ∙ sym (phase-after net good F x n r i c member p h (still Granted k refl) (Active g.out) phase)

      move : verdict_in net F c ≡ Moved → input_after d v i (view_input v i) Moved ≡ seen_input net T r i (Some c)
      move k = by_first (front_in net F c) refl
        where
          by_first : (o : Option Located) → front_in net F c ≡ o → sent_from (view_input v i) (first_flit v i) ≡ seen_input net T r i (Some c)
          by_first None z =
              let q = verdict-moved net.relation.vcs (round_at net F r) i (claim_of net F r c) (nat_lt 0 (count_in net F c)) (sym (verdict-at net good F x r l v seen i c at) ∙ k) in
              let f = first-some c q.2 in
              absurd (none-some f.0 (sym z ∙ f.1))
          by_first (Some f) z =
              let tail : tail_leaves net F c ≡ (flit_of f).last = ap (λ (y : Verdict). is_moved y && is_tail_of_packet net (front_in net F c)) k ∙ ap (is_tail_of_packet net) z in
              ap (sent_from (view_input v i)) (first-is i c u e ∙ ap (option_map flit_of) z) ∙ cases (flit_of f).last tail
            where
              cases : (b : Bool) → tail_leaves net F c ≡ b → cond b idle_input (view_input v i) ≡ seen_input net T r i (Some c)
              cases true t = sym (left-after net good F x n r i c member p h t k)
              cases false t = input ∙ sym (unchanged net good F x n r i c member p h t (ap is_routed k) (ap is_granted k))

      by : (verdict : Verdict) → verdict_in net F c ≡ verdict → input_after d v i (view_input v i) verdict ≡ seen_input net T r i (Some c)
      by Empty k = same Empty k refl refl refl
      by Routed k = route k
      by Granted k = grant k
      by Moved k = move k
      by NoFlit k = same NoFlit k refl refl refl
      by NoIdleChannel k = same NoIdleChannel k refl refl refl
      by LostChannel k = same LostChannel k refl refl refl
      by NoCredit k = same NoCredit k refl refl refl
      by LostInput k = same LostInput k refl refl refl
      by LostSwitch k = same LostSwitch k refl refl refl

  pub input-commit : (i : ℕ) → i < size net → input_after d v i (view_input v i) (decided_verdict d i) ≡ seen_input net T r i (arriving net r i)
  input-commit i u = by (input-case net good F x r l v seen i u)
    where
      by : InputCase net good F x r l v seen i → input_after d v i (view_input v i) (decided_verdict d i) ≡ seen_input net T r i (arriving net r i)
      by (none e) =
          ap (input_after d v i (view_input v i)) (decided-none i u e) ∙ seen.input i u ∙ ap (seen_input net F r i) e ∙ sym (ap (seen_input net T r i) e)
      by (some c e at) = owned (owner_of net F c) refl ∙ sym (ap (seen_input net T r i) e)
        where
          owned : (o : Option ℕ) → owner_of net F c ≡ o → input_after d v i (view_input v i) (decided_verdict d i) ≡ seen_input net T r i (Some c)
          owned None k = unowned i c u e at k
          owned (Some p) k = held i p c u e at k
