-- Every order of events shows the run of the network.
use Rattle.std.proofs.Common.{◌≡◌, ℕ, zero, suc, ◌+◌, ◌-◌, ◌<◌, ◌≤◌, Bool, true, false, not, ◌&&◌, List, [], ◌∷◌, map, length, get_or, Option, Some, None, is_some, refl, ap, sym, ◌∙◌, inl, inr, subst, arith}
use Rattle.std.proofs.lemmas.List.{length-map}
use Rattle.std.specs.Prelude.{◌⊎◌, if◌then◌else◌, option_and_then, option_map, slice_get}
use Rattle.std.specs.List.{range_with_len}
use Rattle.std.proofs.lemmas.Option.{get_or_from_slice_get, same_Some, slice_get_within}
use Rattle.noc_topo.specs.Shape.{nodes, neighbour}
use Rattle.noc_topo.proofs.LinkLemmas.{link_back, nodes-some}
use Rattle.noc_topo.proofs.ListLemmas.{get_or-tabulate, length-tabulate}
use Rattle.noc_packet.specs.Packet.{flit_at}
use Rattle.noc_packet.specs.declared.packet.Beat.{Beat}
use Rattle.noc_packet.specs.declared.packet.Flit.{Flit}
use Rattle.noc_route.specs.Channel.{Channel}
use Rattle.noc_view.specs.Verdict.{Claim, out_of}
use Rattle.noc_view.specs.View.{View, port_and_vc, view_buffer}
use Rattle.noc_view.specs.declared.finding.Finding.{Finding}
use Rattle.noc_topo.specs.Lists.{one_if}
use Rattle.noc_theory.specs.declared.event.Event.{Event}
use Rattle.noc_theory.specs.declared.limits.TheConstants.{CYCLE_LIMIT}
use Rattle.noc_theory.specs.Core.{CoreState, Post, after_events, are_between, has_beat, opening_core, post_at, wire_of}
use Rattle.noc_theory.specs.Halves.{beat_at}
use Rattle.noc_theory.specs.InStep.{HoldsCycles, IsInStep, IsPostInStep, KeepsStep, beats_of_cycles, cycle_put, cycle_taken, lockstep_core}
use Rattle.noc_theory.specs.Lockstep.{lockstep_at, view_at, view_in, findings_in_cycle, finding_in, is_present, seen_flits, site_at}
use Rattle.noc_theory.specs.Network.{Setup, Run, Located, size, packet_at, arriving, buffer_of, owner_of, state_at, frozen_at, claim_of}
use Rattle.noc_theory.specs.Order.{decides, happening, puts, takes}
use Rattle.noc_theory.specs.Worm.{IsRun, IsWormOrder}
use Rattle.noc_theory.proofs.runs.CoreLemmas.{get_some}
use Rattle.noc_theory.proofs.runs.OrderLemmas.{here_between, keeps_step, opening_in_step}
use Rattle.noc_theory.proofs.runs.EventLemmas.{linked_when}
use Rattle.noc_theory_headline.proofs.CountLemmas.{IsAfter, base_after, after-events}
use Rattle.noc_theory.specs.Good.{IsGoodSetup, IsWellFormedSetup}
use Rattle.noc_theory.proofs.join.OrderedStateLemmas.{ordered-frozen}
use Rattle.noc_theory.proofs.join.PlaceViewLemmas.{arriving-at}
use Rattle.noc_theory.proofs.join.CoreOpeningLemmas.{opening-is}
use Rattle.noc_theory.proofs.join.LockstepTheoremLemmas.{good-network, lockstep-is_state}
use Rattle.noc_theory.proofs.worms.BuiltLemmas.{well-formed}
use Rattle.noc_theory.proofs.worms.WormOrderLemmas.{worm_order-at}
use Rattle.noc_theory_headline.specs.Headline.{IsInputOf, AsksForChannel, GoesOnBy}
use Rattle.noc_theory_headline.specs.Steps.{IsBufferIn, IsFoundIn, IsRightCore, IsRightRouter, IsRightWire, beat_in, beats_of}
use Rattle.noc_theory_headline.proofs.ClaimLemmas.{Case, off, all_taken, asks, goes, case-of, claim-goes}
use Rattle.noc_theory_headline.proofs.CycleLemmas.{right-cycle}
use Rattle.noc_theory_headline.proofs.RoundLemmas.{asks-claim}

map-range : (f g : ℕ → Beat) (n a : ℕ) → ((k : ℕ) → a ≤ k → k < a + n → f k ≡ g k) → map f (range_with_len a n) ≡ map g (range_with_len a n)
map-range f g zero a same = refl
map-range f g (suc n) a same = rw (same a (omega arith) (omega arith)) (ap (λ xs. g a ∷ xs) (map-range f g n (a + 1) (λ k l u. same k (omega arith) (omega arith))))

kept-one : (b : Bool) (q p : ℕ) → (if b then Some q else None) ≡ Some p → (q ≡ p) × (b ≡ true)
kept-one true q p e = (same_Some q p e, refl)
kept-one false q p e = absurd (cc e)

-- who is kept where a test holds
kept-some : (test : ℕ → Bool) (o : Option ℕ) (p : ℕ) → option_and_then (λ q. if test q then Some q else None) o ≡ Some p → (o ≡ Some p) × (test p ≡ true)
kept-some test None p e = absurd (cc e)
kept-some test (Some q) p e = let k = kept-one (test q) q p e in (ap Some k.0, subst (λ r. test r ≡ true) k.0 k.1)

some-kept : (test : ℕ → Bool) (o : Option ℕ) (p : ℕ) → o ≡ Some p → test p ≡ true → option_and_then (λ q. if test q then Some q else None) o ≡ Some p
some-kept test o p is holds = ap (option_and_then (λ q. if test q then Some q else None)) is ∙ ap (λ b. if b then Some p else None) holds

module _ (net : Setup) (made : IsWellFormedSetup net) where
  -- the buffers that a view shows
  buffer-in : (n r i : ℕ) (c : Channel) → IsInputOf net r i c → IsBufferIn net (state_at net n) c (view_buffer (view_at net n r) i)
  unfolding view_at view_in
  buffer-in n r i c to = subst (IsBufferIn net (state_at net n) c) (sym is) (record {
    are = refl;
    in_depth = let l = worm.in_depth c in let m = length-map (buffer_of net (state_at net n) c) flit in omega arith;
    unmixed = by (worm.unmixed c);
  })
    where
      worm : IsWormOrder net (state_at net n)
      worm = worm_order-at net made n

      flit : Located → Flit
      flit f = flit_at (packet_at net f.packet) f.packet f.index

      is : view_buffer (view_at net n r) i ≡ map flit (buffer_of net (state_at net n) c)
      is = get_or-tabulate (size net) i (λ j. seen_flits net (state_at net n) (arriving net r j)) [] to.index ∙ ap (seen_flits net (state_at net n)) to.is

      by : (buffer_of net (state_at net n) c ≡ []) ⊎ ((p : ℕ) × (j : ℕ) × (owner_of net (state_at net n) c ≡ Some p) × IsRun net p j (buffer_of net (state_at net n) c))
          → (map flit (buffer_of net (state_at net n) c) ≡ []) ⊎ ((p : ℕ) × (j : ℕ) × (owner_of net (state_at net n) c ≡ Some p) × IsRun net p j (buffer_of net (state_at net n) c))
      by (inl none) = inl (ap (map flit) none)
      by (inr some) = inr some

  -- what the view of a router shows of the last cycle
  findings-are : (n r : ℕ) → (view_at net (suc n) r).findings ≡ findings_in_cycle net n r
  unfolding view_at
  findings-are n r = refl

  finding-is : (n r i : ℕ) (c : Channel) (finding : Finding) (findings : List Finding) → findings ≡ findings_in_cycle net n r → IsInputOf net r i c → slice_get findings i ≡ Some finding
      → finding ≡ finding_in net (frozen_at net n) r i (Some c)
  finding-is n r i c finding findings same at e =
      sym (get_or_from_slice_get findings i finding finding e) ∙ ap (λ xs. get_or xs i finding) same
      ∙ get_or-tabulate (size net) i (λ j. finding_in net (frozen_at net n) r j (arriving net r j)) finding at.index
      ∙ ap (finding_in net (frozen_at net n) r i) at.is

  found-in : (n r : ℕ) (findings : List Finding) → findings ≡ findings_in_cycle net n r → IsFoundIn net n r findings
  found-in n r findings same = record {
    each = ap length same ∙ length-tabulate (size net) (λ j. finding_in net (frozen_at net n) r j (arriving net r j));
    verdicts = λ i c finding at e v.
        let is = ap (λ (f : Finding). f.verdict) (finding-is n r i c finding findings same at e) in
        let says = (right-cycle net made n).verdicts r i c at v in
        ((λ h. says.0 (sym is ∙ h)), λ s. is ∙ says.1 s);
    packet = λ i p c finding at e.
        let is = ap (λ (f : Finding). f.packet) (finding-is n r i c finding findings same at e) in
        let there = is_present net (frozen_at net n) c in
        ((λ h. kept-some there (owner_of net (frozen_at net n) c) p (sym is ∙ h)), λ h. is ∙ some-kept there (owner_of net (frozen_at net n) c) p h.0 h.1);
    out = λ i o c finding at e h.
        ap (λ (f : Finding). f.out) (finding-is n r i c finding findings same at e) ∙ named i o c at h;
    no_out = λ i c finding at e none. ap (λ (f : Finding). f.out) (finding-is n r i c finding findings same at e) ∙ unnamed i c at none;
  }
    where
      named : (i o : ℕ) (c : Channel) → IsInputOf net r i c → AsksForChannel net (frozen_at net n) r c o ⊎ GoesOnBy net (frozen_at net n) r c o
          → option_map (port_and_vc (site_at net r)) (out_of (claim_of net (frozen_at net n) r c)) ≡ Some (port_and_vc (site_at net r) o)
      named i o c at (inl a) =
          ap (λ (y : Claim). option_map (port_and_vc (site_at net r)) (out_of y))
          (asks-claim net (good-network net made) (frozen_at net n) (ordered-frozen net (good-network net made) n) r at.router i c (arriving-at net (good-network net made) r i c at.router at.index at.is) o a)
      named i o c at (inr g) =
          ap (λ (y : Claim). option_map (port_and_vc (site_at net r)) (out_of y))
          (claim-goes net (good-network net made) (frozen_at net n) (ordered-frozen net (good-network net made) n) r i c (arriving-at net (good-network net made) r i c at.router at.index at.is) o g)

      unnamed : (i : ℕ) (c : Channel) → IsInputOf net r i c → ((o : ℕ) → ¬ (AsksForChannel net (frozen_at net n) r c o ⊎ GoesOnBy net (frozen_at net n) r c o))
          → option_map (port_and_vc (site_at net r)) (out_of (claim_of net (frozen_at net n) r c)) ≡ None
      unnamed i c at none =
          by (case-of net (good-network net made) (frozen_at net n) (ordered-frozen net (good-network net made) n) r i c (arriving-at net (good-network net made) r i c at.router at.index at.is))
        where
          by : Case net (good-network net made) (frozen_at net n) (ordered-frozen net (good-network net made) n) r c
              → option_map (port_and_vc (site_at net r)) (out_of (claim_of net (frozen_at net n) r c)) ≡ None
          by (off h e) = ap (λ (y : Claim). option_map (port_and_vc (site_at net r)) (out_of y)) e
          by (all_taken w h e) = ap (λ (y : Claim). option_map (port_and_vc (site_at net r)) (out_of y)) e
          by (asks o a e) = absurd (none o (inl a))
          by (goes o g e) = absurd (none o (inr g))

module _ (u : Run) (made : IsGoodSetup u.net) (few : u.count ≤ CYCLE_LIMIT) (events : List Event) where
  abbrev k : CoreState
  k = after_events CYCLE_LIMIT events (opening_core u)

  abbrev happened : List Event
  happened = happening CYCLE_LIMIT events (opening_core u)

  opens : opening_core u ≡ lockstep_core u
  opens = opening-is u made few

  keeps : KeepsStep u.net u.count happened k
  keeps = subst (λ (c : CoreState). KeepsStep u.net u.count (happening CYCLE_LIMIT events c) (after_events CYCLE_LIMIT events c)) (sym opens) (keeps_step u CYCLE_LIMIT events made.relation.table.grid)

  after : IsAfter CYCLE_LIMIT u.net k (base_after u.count happened)
  after = after-events CYCLE_LIMIT u events few (subst (IsInStep CYCLE_LIMIT) (sym opens) (opening_in_step CYCLE_LIMIT u made.relation.table.grid))

  -- ---- routers

  in_step : (r : ℕ) (post : Post) → post_at k r ≡ Some post → IsPostInStep CYCLE_LIMIT u.net r post
  in_step r post at = subst (λ (n : Setup). IsPostInStep CYCLE_LIMIT n r post) after.network (after.in_step.posts r post at)

  exists : (r : ℕ) (post : Post) → post_at k r ≡ Some post → r < nodes u.net.relation.grid
  exists r post at = let l = slice_get_within k.posts r post at in let n = keeps.routers in omega arith

  view-is : (r : ℕ) (post : Post) → post_at k r ≡ Some post → post.view ≡ view_at u.net (u.count + decides r happened) r
  view-is r post at =
      let n = u.count + decides r happened in
      keeps.views r post at
      ∙ ap (λ xs. get_or xs r post.view) (lockstep-is_state u.net made n (after.stand r post at).low).views
      ∙ get_or-tabulate (nodes u.net.relation.grid) r (view_at u.net n) post.view (exists r post at)

  beat-is : (r port n : ℕ) → n ≤ CYCLE_LIMIT → beat_at (lockstep_at u.net n).wires r port ≡ beat_in u.net r port n
  beat-is r port n l = ap (λ wires. beat_at wires r port) (lockstep-is_state u.net made n l).wires

  steps-within : (r : ℕ) (post : Post) → post_at k r ≡ Some post → post.steps + one_if post.decided ≤ CYCLE_LIMIT
  steps-within r post at = let s = after.stand r post at in let seen = s.seen in let low = s.low in omega arith

  right-router : (r : ℕ) (post : Post) → post_at k r ≡ Some post → IsRightRouter u.net r (u.count + decides r happened) post
  right-router r post at = record {
    view = view-is r post at;
    steps = (after.stand r post at).seen;
    between = keeps.steps r post at;
    findings = λ n e.
        let s : u.count + decides r happened ≡ suc n = omega arith in
        found-in u.net (well-formed u.net made) n r post.view.findings (ap (λ (v : View). v.findings) (view-is r post at ∙ ap (λ m. view_at u.net m r) s) ∙ findings-are u.net (well-formed u.net made) n r);
    buffers = λ i c to.
        subst (IsBufferIn u.net (state_at u.net (u.count + decides r happened)) c) (sym (ap (λ (v : View). view_buffer v i) (view-is r post at)))
        (buffer-in u.net (well-formed u.net made) (u.count + decides r happened) r i c to);
    taken = λ port beat e. (in_step r post at).beats_taken port beat e ∙ beat-is r port post.steps (let l = steps-within r post at in omega arith);
    unput = λ port s q beat e to.
        (in_step r post at).beats_unput port s q beat e to
        ∙ beat-is s q (post.steps + 1) (let l = (in_step r post at).below_limit ((in_step r post at).some_unput port (ap is_some e)) in omega arith);
  }

  -- ---- wires

  beats-are : (r port a b : ℕ) → b ≤ CYCLE_LIMIT + 1 → beats_of_cycles u.net r port a b ≡ beats_of u.net r port a b
  beats-are r port a b low =
      map-range (λ n. beat_at (lockstep_at u.net n).wires r port) (beat_in u.net r port) (b - a) a
      (λ n l m. beat-is r port n (below_limit n l m))
    where
      below_limit : (n : ℕ) → a ≤ n → n < a + (b - a) → n ≤ CYCLE_LIMIT
      below_limit n l m = omega arith

  -- no beat is put for a cycle beyond the one after the limit
  put-within : (s q : ℕ) (sender : Post) → post_at k s ≡ Some sender → cycle_put q sender ≤ CYCLE_LIMIT + 1
  put-within s q sender at = by sender.decided refl (steps-within s sender at)
    where
      at_most_one : (b : Bool) → one_if b ≤ 1
      at_most_one true = omega arith
      at_most_one false = omega arith

      by : (b : Bool) → sender.decided ≡ b → sender.steps + one_if b ≤ CYCLE_LIMIT → cycle_put q sender ≤ CYCLE_LIMIT + 1
      by true e l = let m = at_most_one (sender.decided && not (has_beat sender.unput q)) in omega arith
      by false e l =
          let none : cycle_put q sender ≡ sender.steps + 1 + 0 = ap (λ c. sender.steps + 1 + one_if (c && not (has_beat sender.unput q))) e in
          omega arith

  right-wire : (r port s q : ℕ) (post sender : Post) → post_at k r ≡ Some post → post_at k s ≡ Some sender → neighbour u.net.relation.grid r port ≡ Some (s, q)
      → IsRightWire u.net u.count happened r port post s q sender
  right-wire r port s q post sender at_r at_s to =
      let wire = keeps.wires r port s q post sender at_r at_s to in
      let back = link_back u.net.relation.grid r port s q made.relation.table.grid (exists r post at_r) to in
      let taken : cycle_taken port post ≡ u.count + takes r port happened = (after.stand r post at_r).taken port (linked_when u.net r port (s, q) to) in
      let put : cycle_put q sender ≡ u.count + 1 + puts s q happened = (after.stand s sender at_s).put q (linked_when u.net s q (r, port) back.back) in
      let holds = held r port s q post sender at_r at_s to in
      record {
        beats = wire.beats;
        few = wire.few;
        are = holds.beats ∙ beats-are r port (cycle_taken port post) (cycle_put q sender) (put-within s q sender at_s)
            ∙ ap (λ a. beats_of u.net r port a (cycle_put q sender)) taken ∙ ap (beats_of u.net r port (u.count + takes r port happened)) put;
        between = λ mine its.
            let all = wire.between mine its in
            let low : sender.steps + 1 ≤ CYCLE_LIMIT + 1 = let l = steps-within s sender at_s in omega arith in
            (all.1 ∙ beats-are r port post.steps (sender.steps + 1) low, all.0, all.2, all.3);
      }
    where
      held : (r port s q : ℕ) (post sender : Post) → post_at k r ≡ Some post → post_at k s ≡ Some sender → neighbour u.net.relation.grid r port ≡ Some (s, q)
          → HoldsCycles u.net r port (cycle_taken port post) (cycle_put q sender) (wire_of post port)
      held = subst
          (λ (n : Setup). (r port s q : ℕ) (post sender : Post) → post_at k r ≡ Some post → post_at k s ≡ Some sender → neighbour n.relation.grid r port ≡ Some (s, q)
          → HoldsCycles n r port (cycle_taken port post) (cycle_put q sender) (wire_of post port))
          after.network after.in_step.wires

  -- ---- all of it

  -- there is a router, so that the count at which all are is one that the network can have
  whole-is : (n : ℕ) → are_between k n ≡ true → k ≡ opening_core (record { net = u.net; count = n })
  whole-is n all =
      let some = nodes-some u.net.relation.grid made.relation.table.grid in
      let size = keeps.routers in
      let l : 0 < length k.posts = omega arith in
      let first = get_some k.posts 0 l in
      let here = here_between CYCLE_LIMIT n k after.in_step all 0 first.0 first.1 in
      let at = here.1 in
      let within = steps-within 0 first.0 first.1 in
      let low : n ≤ CYCLE_LIMIT = omega arith in
      keeps.whole n all ∙ sym (opening-is (record { net = u.net; count = n }) made low)

  pub right-core : IsRightCore u.net u.count happened k
  right-core = record {
    network = after.network;
    count_routers = keeps.routers;
    routers = right-router;
    wires = right-wire;
    whole = whole-is;
  }
