-- From a view that shows a frozen state, each input channel stands where it stands in that state,
-- and so all verdicts are those of the state.
use Rattle.std.proofs.Common.{◌≡◌, ℕ, suc, ◌+◌, ◌*◌, ◌/◌, ◌%◌, ◌<◌, Bool, true, false, cond, List, [], ◌∷◌, map, length, Option, Some, None, refl, ap, sym, ◌∙◌, subst, arith}
use Rattle.std.specs.Prelude.{find, option_and_then, option_map, not, nat_lt, ◌&&◌, ◌||◌, is_none}
use Rattle.noc_vc.specs.Output.{is_free, has_credit}
use Rattle.noc_view.specs.Verdict.{Stand, round_of}
use Rattle.noc_view.specs.View.{asked_for, claim_in, view_stand, view_stands, finding_of, port_and_vc}
use Rattle.noc_theory.proofs.Common.{lt-ltb, false≢true, div-add-mod', below, tabulate, Has, nodes, ports, local_port, get_or-tabulate, length-tabulate, tabulate-from_each, has_bit, Flit, flit_at, Channel, Link, Inject, Eject, is_link, output_index, arrival_of, channel_vc, permits, set_at, Input, is_empty, Output, Idle, Owned, Draining, Claim, Unrouted, Waits, Holds, Round, ArbiterStates, verdict_of, out_of, Site, View, size_of, view_buffer, view_input, view_output, view_claim, view_round, decisions_of, Verdict, Empty, Finding, find-same, site_at, seen_flits, seen_input, seen_phase, seen_phase_with, seen_set, seen_output, seen_holder, seen_sender, has_come, finding_in, Setup, State, Located, size, arriving, leaving, packet_at, owner_of, next_channel, has_channel, has_credit_in, is_idle, ask, claim_of, claim_with, stand_of, round_at, verdict_in, verdict_at, count_in, buffer_of, is_on, tail_place, leads_from, IsSeen}
use Rattle.noc_theory.specs.Network.{stands_at}
use Rattle.noc_theory.proofs.worms.MoveLemmas.{IsNext, next-is, leads-end}
use Rattle.noc_theory.proofs.worms.OwnedLemmas.{owner-is}
use Rattle.noc_theory.proofs.join.OrderedLemmas.{IsGood, IsOrderedFrozen}
use Rattle.noc_theory.proofs.join.PlaceViewLemmas.{IsAt, IsFrom, arriving-at, input-at, permits-at, leaving-from, eject-from, link-from, same-place}

module _ (net : Setup) (good : IsGood net) (F : State) (x : IsOrderedFrozen net F) (r : ℕ) (l : r < nodes net.relation.grid) (v : View) (seen : IsSeen net F r v) where
  same_size : size_of v.site ≡ size net
  same_size = ap size_of seen.site

  -- what a view shows free is idle in the state
  free-idle : (c : Channel) (p : Option ℕ) → is_free (seen_holder net F r c p) ≡ is_none p
  free-idle c None = refl
  free-idle c (Some p) = at (is_link c && (is_on c (tail_place net F p) || has_come net c (packet_at net p).destination (tail_place net F p)))
    where
      at : (b : Bool) → is_free (cond b Draining (Owned (seen_sender net F r c) p)) ≡ false
      at true = refl
      at false = refl

  free-output : (c : Channel) → is_free (seen_output net F r c).holder ≡ is_idle net F c
  free-output (Link a p w) = free-idle (Link a p w) (owner_of net F (Link a p w))
  free-output (Inject a w) = free-idle (Inject a w) (owner_of net F (Inject a w))
  free-output (Eject a w) = free-idle (Eject a w) (owner_of net F (Eject a w))

  credit-output : (c : Channel) → has_credit (seen_output net F r c) ≡ has_credit_in net F c
  credit-output (Link a p w) = refl
  credit-output (Inject a w) = refl
  credit-output (Eject a w) = refl

  pub free-at : (o : ℕ) → o < size net → is_free (view_output v o).holder ≡ is_idle net F (leaving net r o)
  free-at o u = ap (λ (y : Output). is_free y.holder) (seen.output o u) ∙ free-output (leaving net r o)

  -- the next channel of an input channel of this router is one of its output channels
  pub next-from : (i p : ℕ) (c o : Channel) → IsAt net good r i c → Has (c, p) F.own → next_channel net F c ≡ Some o → (j : ℕ) × IsFrom net good r j o
  next-from i p c o at h e = by o (next-is net good.built F x.whole.sound.keyed x.whole.sound.worm p c o h e)
    where
      end : (o : Channel) → leads_from net c o ≡ true → (s : ℕ) → Rattle.noc_route.specs.Channel.sending_router o ≡ Some s → s ≡ r
      end o leads s b =
          let q = leads-end net c o leads in
          let a : q.0 ≡ s = Rattle.std.proofs.lemmas.Option.same_Some _ _ (sym q.1 ∙ b) in
          let z : q.0 ≡ r = Rattle.std.proofs.lemmas.Option.same_Some _ _ (sym q.2 ∙ ap (option_map (λ (place : ℕ × ℕ). place.0)) at.arrives) in
          sym a ∙ z

      by : (o : Channel) → IsNext net good.built F x.whole.sound.keyed x.whole.sound.worm p c o → (j : ℕ) × IsFrom net good r j o
      by (Link a b w) n =
          let s : a ≡ r = end (Link a b w) n.leads a refl in
          let at_o = input-at net good (Link a b w) (x.whole.covered (Link a b w) p (n.owns, (λ z. z))) in
          let port : b < local_port net.relation.grid = Rattle.noc_route.proofs.BuiltLemmas.linked-port net.relation.grid a b (at_o.0, at_o.1 / net.relation.vcs) at_o.2.arrives in
          let low : w < net.relation.vcs = subst (λ k. k < net.relation.vcs) (sym at_o.2.vc) (Rattle.noc_theory.proofs.join.PlaceViewLemmas.mod-below net good at_o.1) in
          (b * net.relation.vcs + w, subst (λ k. IsFrom net good r (b * net.relation.vcs + w) (Link k b w)) (sym s) (link-from net good r b w port low))
      by (Inject a w) n = absurd (false≢true n.leads)
      by (Eject a w) n =
          let s : a ≡ r = end (Eject a w) n.leads a refl in
          let low : w < net.relation.vcs = x.more.low a w p n.owns in
          (local_port net.relation.grid * net.relation.vcs + w, subst (λ k. IsFrom net good r (local_port net.relation.grid * net.relation.vcs + w) (Eject k w)) (sym s) (eject-from net good r w low))

  -- ---- claims

  asked-is : (i p : ℕ) (c : Channel) → IsAt net good r i c → owner_of net F c ≡ Some p → asked_for v (seen_set net F r i (owner_of net F c)) ≡ ask net F r c
  asked-is i p c at own =
      ap (λ (o : Option ℕ). asked_for v (seen_set net F r i o)) own
      ∙ ap (λ n. find (λ o. has_bit (set_at net.relation (packet_at net p).class r (i / net.relation.vcs) (i % net.relation.vcs) (packet_at net p).destination) o && is_free (view_output v o).holder) (below n)) same_size
      ∙ find-same (λ o. has_bit (set_at net.relation (packet_at net p).class r (i / net.relation.vcs) (i % net.relation.vcs) (packet_at net p).destination) o && is_free (view_output v o).holder)
      (λ o. is_idle net F (leaving net r o) && permits net.relation (packet_at net p).class c (packet_at net p).destination (leaving net r o)) (size net)
      (λ o u. swapped (has_bit (set_at net.relation (packet_at net p).class r (i / net.relation.vcs) (i % net.relation.vcs) (packet_at net p).destination) o) (is_free (view_output v o).holder)
      ∙ ap (λ b. b && has_bit (set_at net.relation (packet_at net p).class r (i / net.relation.vcs) (i % net.relation.vcs) (packet_at net p).destination) o) (free-at o u)
      ∙ ap (λ b. is_idle net F (leaving net r o) && b) (sym (permits-at net good (packet_at net p).class (packet_at net p).destination r i o c at u)))
      ∙ sym (ap (option_and_then (λ q. find (λ o. is_idle net F (leaving net r o) && permits net.relation (packet_at net q).class c (packet_at net q).destination (leaving net r o)) (below (size net)))) own)
    where
      swapped : (a b : Bool) → (a && b) ≡ (b && a)
      swapped true true = refl
      swapped true false = refl
      swapped false true = refl
      swapped false false = refl

  pub claim-is : (i : ℕ) (c : Channel) → IsAt net good r i c → claim_in v (seen_phase net F r i c) ≡ claim_of net F r c
  claim-is i c at = by (has_channel F.routed c) refl
    where
      held : (b : Bool) (next : Option Channel) → next_channel net F c ≡ next → (p : ℕ) → Has (c, p) F.own → owner_of net F c ≡ Some p
          → claim_in v (seen_phase_with net F r i c next) ≡ claim_with net F r c next
      held b None e p h own = ap Waits (asked-is i p c at own)
      held b (Some o) e p h own =
          let n = next-from i p c o at h e in
          let j : output_index net.relation.grid net.relation.vcs o ≡ n.0 = n.1.is_index in
          ap (Holds (output_index net.relation.grid net.relation.vcs o))
          (ap (λ k. has_credit (view_output v k)) j ∙ ap has_credit (seen.output n.0 n.1.index) ∙ ap (λ d. has_credit (seen_output net F r d)) n.1.found ∙ credit-output o)

      by : (b : Bool) → has_channel F.routed c ≡ b → claim_in v (cond b (seen_phase_with net F r i c (next_channel net F c)) Idle) ≡ cond b (claim_with net F r c (next_channel net F c)) Unrouted
      by false e = refl
      by true e =
          let o = x.whole.routed.mid.only c e in
          held true (next_channel net F c) refl o.0 o.1.0 (owner-is net F c o.0 x.whole.sound.worm.once o.1.0)

  has_flit-seen : (fs : List Located) → not (is_empty (map (λ (f : Located). flit_at (packet_at net f.packet) f.packet f.index) fs)) ≡ nat_lt 0 (length fs)
  has_flit-seen [] = refl
  has_flit-seen (f ∷ fs) = sym (lt-ltb 0 (suc (length fs)) (omega arith))

  -- ---- stands

  -- no channel arrives, or this one does
  pub data InputCase (i : ℕ) : Type 0 where
    none : arriving net r i ≡ None → InputCase i
    some : (c : Channel) → arriving net r i ≡ Some c → IsAt net good r i c → InputCase i

  pub input-case : (i : ℕ) → i < size net → InputCase i
  input-case i u = by (arriving net r i) refl
    where
      by : (o : Option Channel) → arriving net r i ≡ o → InputCase i
      by None e = none e
      by (Some c) e = some c e (arriving-at net good r i c l u e)

  pub claim-none : (i : ℕ) → i < size net → arriving net r i ≡ None → view_claim v i ≡ Unrouted
  claim-none i u e = ap (λ (y : Input). claim_in v y.phase) (seen.input i u ∙ ap (seen_input net F r i) e)

  pub claim-some : (i : ℕ) (c : Channel) → i < size net → arriving net r i ≡ Some c → IsAt net good r i c → view_claim v i ≡ claim_of net F r c
  claim-some i c u e at = ap (λ (y : Input). claim_in v y.phase) (seen.input i u ∙ ap (seen_input net F r i) e) ∙ claim-is i c at

  pub flit-none : (i : ℕ) → i < size net → arriving net r i ≡ None → not (is_empty (view_buffer v i)) ≡ false
  flit-none i u e = ap (λ (fs : List Flit). not (is_empty fs)) (seen.buffer i u ∙ ap (seen_flits net F) e)

  pub flit-some : (i : ℕ) (c : Channel) → i < size net → arriving net r i ≡ Some c → not (is_empty (view_buffer v i)) ≡ nat_lt 0 (count_in net F c)
  flit-some i c u e = ap (λ (fs : List Flit). not (is_empty fs)) (seen.buffer i u ∙ ap (seen_flits net F) e) ∙ has_flit-seen (buffer_of net F c)

  stand-is : (i : ℕ) → i < size net → view_stand v i ≡ stand_of net F r (arriving net r i)
  stand-is i u = by (input-case i u)
    where
      by : InputCase i → view_stand v i ≡ stand_of net F r (arriving net r i)
      by (none e) =
          ap (λ (c : Claim). record { claim = c; has_flit = not (is_empty (view_buffer v i)) }) (claim-none i u e)
          ∙ ap (λ (b : Bool). record { claim = Unrouted; has_flit = b }) (flit-none i u e)
          ∙ sym (ap (stand_of net F r) e)
      by (some c e at) =
          ap (λ (k : Claim). record { claim = k; has_flit = not (is_empty (view_buffer v i)) }) (claim-some i c u e at)
          ∙ ap (λ (b : Bool). record { claim = claim_of net F r c; has_flit = b }) (flit-some i c u e)
          ∙ sym (ap (stand_of net F r) e)

  stands-are : view_stands v ≡ stands_at net F r
  stands-are =
      ap (λ n. tabulate n (view_stand v)) same_size
      ∙ tabulate-from_each (size net) (λ i. stand_of net F r (arriving net r i)) (tabulate (size net) (view_stand v)) (record { claim = Unrouted; has_flit = false })
      (length-tabulate (size net) (view_stand v)) (λ i u. get_or-tabulate (size net) i (view_stand v) _ u ∙ stand-is i u)

  -- so the arbiters decide the same
  pub round-is : view_round v ≡ round_at net F r
  unfolding view_round
  round-is =
      ap (λ (s : Site). round_of (ports s.grid) s.vcs (view_stands v) v.arbiters) seen.site
      ∙ ap (λ (stands : List Stand). round_of (ports net.relation.grid) net.relation.vcs stands v.arbiters) stands-are
      ∙ ap (λ (arbiters : ArbiterStates). round_of (ports net.relation.grid) net.relation.vcs (stands_at net F r) arbiters) seen.arbiters

  -- ---- verdicts

  pub verdict-at : (i : ℕ) (c : Channel) → IsAt net good r i c → verdict_in net F c ≡ verdict_of net.relation.vcs (round_at net F r) i (claim_of net F r c) (nat_lt 0 (count_in net F c))
  verdict-at i c at =
      ap (verdict_at net F c) at.arrives
      ∙ ap (λ j. verdict_of net.relation.vcs (round_at net F r) (i / net.relation.vcs * net.relation.vcs + j) (claim_of net F r c) (nat_lt 0 (count_in net F c))) at.vc
      ∙ ap (λ j. verdict_of net.relation.vcs (round_at net F r) j (claim_of net F r c) (nat_lt 0 (count_in net F c))) (div-add-mod' i net.relation.vcs)

  verdict-of : (i : ℕ) (claim : Claim) (flit : Bool) → view_claim v i ≡ claim → not (is_empty (view_buffer v i)) ≡ flit
      → (finding_of (view_round v) v i).verdict ≡ verdict_of net.relation.vcs (round_at net F r) i claim flit
  verdict-of i claim flit e k =
      ap (λ (s : Site). verdict_of s.vcs (view_round v) i (view_claim v i) (not (is_empty (view_buffer v i)))) seen.site
      ∙ ap (λ (round : Round). verdict_of net.relation.vcs round i (view_claim v i) (not (is_empty (view_buffer v i)))) round-is
      ∙ ap (λ (c : Claim). verdict_of net.relation.vcs (round_at net F r) i c (not (is_empty (view_buffer v i)))) e
      ∙ ap (λ (b : Bool). verdict_of net.relation.vcs (round_at net F r) i claim b) k

  pub verdict-none : (i : ℕ) → i < size net → arriving net r i ≡ None → (finding_of (view_round v) v i).verdict ≡ Empty
  verdict-none i u e = verdict-of i Unrouted false (claim-none i u e) (flit-none i u e)

  pub verdict-some : (i : ℕ) (c : Channel) → i < size net → arriving net r i ≡ Some c → IsAt net good r i c → (finding_of (view_round v) v i).verdict ≡ verdict_in net F c
  verdict-some i c u e at = verdict-of i (claim_of net F r c) (nat_lt 0 (count_in net F c)) (claim-some i c u e at) (flit-some i c u e) ∙ sym (verdict-at i c at)

  -- ---- findings

  abbrev finding : Verdict → Option ℕ → Option (ℕ × ℕ) → Finding
  finding verdict packet out = record { verdict = verdict; packet = packet; out = out }

  pub finding-is : (i : ℕ) → i < size net → finding_of (view_round v) v i ≡ finding_in net F r i (arriving net r i)
  finding-is i u = by (input-case i u)
    where
      by : InputCase i → finding_of (view_round v) v i ≡ finding_in net F r i (arriving net r i)
      by (none e) =
          let verdict = verdict-none i u e in
          let packet : (view_input v i).packet ≡ None = ap (λ (y : Input). y.packet) (seen.input i u ∙ ap (seen_input net F r i) e) in
          let out : option_map (port_and_vc v.site) (out_of (view_claim v i)) ≡ None = ap (λ (k : Claim). option_map (port_and_vc v.site) (out_of k)) (claim-none i u e) in
          let all : finding (finding_of (view_round v) v i).verdict (view_input v i).packet (option_map (port_and_vc v.site) (out_of (view_claim v i))) ≡ finding Empty None None = cc in
          all ∙ sym (ap (finding_in net F r i) e)
      by (some c e at) =
          let verdict = verdict-some i c u e at in
          let packet : (view_input v i).packet ≡ (seen_input net F r i (Some c)).packet = ap (λ (y : Input). y.packet) (seen.input i u ∙ ap (seen_input net F r i) e) in
          let out : option_map (port_and_vc v.site) (out_of (view_claim v i)) ≡ option_map (port_and_vc (site_at net r)) (out_of (claim_of net F r c))
          = ap (λ (s : Site). option_map (port_and_vc s) (out_of (view_claim v i))) seen.site ∙ ap (λ (k : Claim). option_map (port_and_vc (site_at net r)) (out_of k)) (claim-some i c u e at) in
          let all : finding (finding_of (view_round v) v i).verdict (view_input v i).packet (option_map (port_and_vc v.site) (out_of (view_claim v i)))
          ≡ finding (verdict_in net F c) (seen_input net F r i (Some c)).packet (option_map (port_and_vc (site_at net r)) (out_of (claim_of net F r c))) = cc in
          all ∙ sym (ap (finding_in net F r i) e)

  -- what is found is what is found of the state
  pub findings-are : (decisions_of net.relation v).findings ≡ tabulate (size net) (λ i. finding_in net F r i (arriving net r i))
  unfolding decisions_of
  findings-are =
      ap (λ n. tabulate n (finding_of (view_round v) v)) same_size
      ∙ tabulate-from_each (size net) (λ i. finding_in net F r i (arriving net r i)) (tabulate (size net) (finding_of (view_round v) v)) (record { verdict = Empty; packet = None; out = None })
      (length-tabulate (size net) (finding_of (view_round v) v)) (λ i u. get_or-tabulate (size net) i (finding_of (view_round v) v) _ u ∙ finding-is i u)
