-- The source of a router injects: a view that showed the state after the
-- credits shows the frozen state.
use Rattle.std.proofs.Common.{◌≡◌, ◌≢◌, ℕ, zero, suc, ◌+◌, ◌*◌, ◌/◌, ◌%◌, ◌<◌, Bool, true, false, cond, List, [], ◌∷◌, ◌++◌, map, length, get_or, set, Option, Some, None, refl, ap, sym, ◌∙◌, inl, inr, subst, arith}
use Rattle.std.specs.Prelude.{filter, find, count_by, option_map, option_and_then, is_some, is_none, ◌⊎◌, ◌&&◌, ◌||◌, not, nat_eq, nat_lt, nat_le, if◌then◌else◌}
use Rattle.noc_vc.specs.Input.{is_idle_phase}
use Rattle.noc_view.proofs.FindLemmas.{find-some}
use Rattle.noc_theory.proofs.Common.{false≢true, true≢false, eq-eqb, cases_eq, or_cases, lt-ltb, none-some, same_Some, length-set, get_or-set_same, get_or-set_other, length-map, div-mul-add, mod-mul-add, below, Has, nodes, local_port, flit_at, Packet, Flit, Channel, Link, Inject, Eject, channel_vc, Input, idle_input, input_after_land, is_empty, Site, View, view_buffer, view_input, local_channel, is_vacant, with_landed, with_injected, begun_on, view_after_inject_from, view_after_inject, find-same, starts_at, ends_at, seen_flits, seen_input, seen_output, seen_phase_with, seen_sending, has_flit_at_source, Setup, State, Located, Place, Source, On, In, Out, Injection, size, arriving, leaving, packet_at, place_of_flit, tail_place, flits_of, owner_of, owned_by, next_channel, has_channel, is_idle, is_in, is_past, is_at_source, is_injection_of, first_waiting, beginning, injection_with, injection_at, injections, count_in, buffer_of, out_cycle, after_injection, head_place, IsSeen}
use Rattle.noc_theory.proofs.worms.InjectionPhaseLemmas.{IsEntry}
use Rattle.noc_theory.proofs.worms.InjectionStateLemmas.{waiting-is}
use Rattle.noc_theory.proofs.worms.OwnedLemmas.{owner-has, idle-none}
use Rattle.noc_theory.proofs.worms.PlaceLemmas.{flit-there}
use Rattle.noc_theory.proofs.worms.RoomLemmas.{unowned-empty}
use Rattle.noc_theory.proofs.worms.StateWordLemmas.{IsHeld, goal, last_of}
use Rattle.noc_theory.proofs.worms.WormRecordLemmas.{valid-last, valid-first}
use Rattle.noc_theory.proofs.injection.EntryChannelLemmas.{entered, flits-in, input-in}
use Rattle.noc_theory.proofs.injection.EntryLemmas.{keyed, worm, entry, Quiet, Goes, goes, stays, goes_in}
use Rattle.noc_theory.proofs.injection.EntrySourceLemmas.{queue-none, sending-none, queue-more, queue-last, sending-more, sending-last, count-was, entry-here}
use Rattle.noc_theory.proofs.injection.EntryViewLemmas.{flits-quiet, input-quiet, output-quiet}
use Rattle.noc_theory.proofs.verdicts.CommitEndLemmas.{map-each, ends-here}
use Rattle.noc_theory.proofs.join.OrderedLemmas.{IsGood, IsOrderedFrozen}
use Rattle.noc_theory.proofs.join.PhaseLemmas.{IsInjected}
use Rattle.noc_theory.proofs.join.PlaceViewLemmas.{IsAt, arriving-at, input-at, same-place, not-eject, in-size, begins-at, mod-below}
use Rattle.noc_theory.proofs.injection.QueueLemmas.{IsAhead, Queue, empty, front, queue-case}
use Rattle.noc_theory.proofs.injection.SourceStateLemmas.{injection-own}

module _ (net : Setup) (good : IsGood net) (M : State) (x : IsOrderedFrozen net M) (n r : ℕ) (l : r < nodes net.relation.grid) (v : View) (seen : IsSeen net M r v) where
  abbrev T : State
  T = after_injection net n M

  abbrev u : View
  u = record v { given = n }

  vcs-is : v.site.vcs ≡ net.relation.vcs
  vcs-is = ap (λ (s : Site). s.vcs) seen.site

  -- the local channel with this number
  local : ℕ → ℕ
  local w = local_port net.relation.grid * net.relation.vcs + w

  local-is : (w : ℕ) → local_channel v.site w ≡ local_port net.relation.grid * net.relation.vcs + w
  local-is w = ap (λ (s : Site). local_port s.grid * s.vcs + w) seen.site

  inside : (w : ℕ) → w < net.relation.vcs → local_port net.relation.grid * net.relation.vcs + w < size net
  inside w k = in-size net good (local_port net.relation.grid) w (omega arith) k

  at-local : (w : ℕ) → w < net.relation.vcs → IsAt net good r (local_port net.relation.grid * net.relation.vcs + w) (Inject r w)
  at-local w k =
      let i : ℕ = local_port net.relation.grid * net.relation.vcs + w in
      let row : i / net.relation.vcs ≡ local_port net.relation.grid = div-mul-add (local_port net.relation.grid) net.relation.vcs w k in
      let col : i % net.relation.vcs ≡ w = mod-mul-add (local_port net.relation.grid) net.relation.vcs w k in
      let found : arriving net r i ≡ Some (Inject r w)
      = ap (λ b. if b then Some (Inject r (i % net.relation.vcs)) else option_map (λ (from : ℕ × ℕ). Link from.0 from.1 (i % net.relation.vcs)) (Rattle.noc_topo.specs.Shape.neighbour net.relation.grid r (i / net.relation.vcs))) (eq-eqb (i / net.relation.vcs) (local_port net.relation.grid) row)
      ∙ ap (λ j. Some (Inject r j)) col in
      arriving-at net good r i (Inject r w) l (inside w k) found

  buffer-local : (w : ℕ) → w < net.relation.vcs → view_buffer v (local_channel v.site w) ≡ seen_flits net M (Some (Inject r w))
  buffer-local w k = ap (view_buffer v) (local-is w) ∙ seen.buffer (local_port net.relation.grid * net.relation.vcs + w) (inside w k) ∙ ap (seen_flits net M) (at-local w k).found

  input-local : (w : ℕ) → w < net.relation.vcs → view_input v (local_channel v.site w) ≡ seen_input net M r (local_port net.relation.grid * net.relation.vcs + w) (Some (Inject r w))
  input-local w k =
      ap (view_input v) (local-is w) ∙ seen.input (local_port net.relation.grid * net.relation.vcs + w) (inside w k)
      ∙ ap (seen_input net M r (local_port net.relation.grid * net.relation.vcs + w)) (at-local w k).found

  -- ---- what the injections leave as it is

  out-same : (q : ℕ) → Has q (ends_at net r) → out_cycle (tail_place net T q) ≡ out_cycle (tail_place net M q)
  out-same q h = by (goes net good M x n q (last_of net q) (valid-last net good.built q (ends-here net r q h).0))
    where
      by : Goes net good M x n q (last_of net q) → out_cycle (tail_place net T q) ≡ out_cycle (tail_place net M q)
      by (stays e) = ap out_cycle e
      by (goes_in one k e was now) = ap out_cycle now ∙ sym (ap out_cycle was)

  ends-same : v.ends ≡ map (λ q. (q, out_cycle (tail_place net T q))) (ends_at net r)
  ends-same = seen.ends ∙ map-each (λ q. (q, out_cycle (tail_place net M q))) (λ q. (q, out_cycle (tail_place net T q))) (ends_at net r) (λ q h. ap (λ (k : Option ℕ). (q, k)) (sym (out-same q h)))

  output-same : (o : ℕ) → o < size net → Rattle.noc_view.specs.View.view_output v o ≡ seen_output net T r (leaving net r o)
  output-same o k = seen.output o k ∙ sym (output-quiet net good M x n r (leaving net r o) quiet)
    where
      quiet : Quiet net good M x n (leaving net r o)
      quiet one h e =
          let y = entry net good M x n one h in
          let b : Some r ≡ None = sym (begins-at net good r o) ∙ ap Rattle.noc_route.specs.Channel.sending_router (sym e ∙ y.1.channel) in
          absurd (cc b)

  arbiters-same : v.arbiters ≡ Rattle.noc_theory.specs.Network.arbiters_at net T r
  unfolding after_injection
  arbiters-same = seen.arbiters

  -- an injection on a channel of this router is that of its source
  mine : (one : Injection net) → Has one (injections net M n) → (i : ℕ) (c : Channel) → IsAt net good r i c → one.channel ≡ c → injection_at net M n r ≡ Some one
  mine one h i c at e =
      let y = entry net good M x n one h in
      let a : IsAt net good r i (Inject y.0 y.1.vc) = subst (λ (d : Channel). IsAt net good r i d) (sym e ∙ y.1.channel) at in
      let here : y.0 ≡ r = ap (λ (p : ℕ × ℕ). p.0) (same_Some (y.0, local_port net.relation.grid) (r, i / net.relation.vcs) a.arrives) in
      entry-here net good M x n r l one h (sym y.1.from ∙ here)

  -- ---- nothing is injected

  quiet-here : injection_at net M n r ≡ None → (i : ℕ) (c : Channel) → IsAt net good r i c → Quiet net good M x n c
  quiet-here none i c at one h e = none-some one (sym none ∙ mine one h i c at e)

  input-none : injection_at net M n r ≡ None → (i : ℕ) → i < size net → (view_buffer v i ≡ seen_flits net T (arriving net r i)) × (view_input v i ≡ seen_input net T r i (arriving net r i))
  input-none none i k = by (arriving net r i) refl
    where
      by : (o : Option Channel) → arriving net r i ≡ o → (view_buffer v i ≡ seen_flits net T (arriving net r i)) × (view_input v i ≡ seen_input net T r i (arriving net r i))
      by None e = (seen.buffer i k ∙ ap (seen_flits net M) e ∙ sym (ap (seen_flits net T) e), seen.input i k ∙ ap (seen_input net M r i) e ∙ sym (ap (seen_input net T r i) e))
      by (Some c) e =
          let at = arriving-at net good r i c l k e in
          let quiet = quiet-here none i c at in (
            seen.buffer i k ∙ ap (seen_flits net M) e ∙ sym (ap (seen_flits net T) e ∙ flits-quiet net good M x n c quiet),
            seen.input i k ∙ ap (seen_input net M r i) e ∙ sym (ap (seen_input net T r i) e ∙ input-quiet net good M x n r i c (not-eject net good at) quiet),
          )

  nothing : injection_at net M n r ≡ None → IsInjected net M n r v u
  nothing none = record {
    seen = record {
      site = seen.site;
      n_buffers = seen.n_buffers;
      n_inputs = seen.n_inputs;
      n_outputs = seen.n_outputs;
      buffer = λ i k. (input-none none i k).0;
      input = λ i k. (input-none none i k).1;
      output = output-same;
      arbiters = arbiters-same;
      queue = seen.queue ∙ sym (queue-none net good M x n r l none);
      sending = seen.sending ∙ sym (sending-none net good M x n r l none);
      ends = ends-same;
      misfits = seen.misfits;
    };
    noted = record { last_event = refl; counts = refl; findings = refl; to_put = refl };
    given = refl;
    event = or-false v.had_event ∙ sym (ap (λ (o : Option (Injection net)). v.had_event || is_some o) none);
  }
    where
      or-false : (b : Bool) → b ≡ (b || false)
      or-false true = refl
      or-false false = refl

  -- ---- a flit is injected

  module _ (one : Injection net) (found : injection_at net M n r ≡ Some one) (w : ℕ) (low : w < net.relation.vcs) (is : one.channel ≡ Inject r w) (rest : List (ℕ × Packet))
      (queue_is : filter (has_flit_at_source net M) (starts_at net r) ≡ (one.packet, packet_at net one.packet) ∷ rest) (other : (z : ℕ × Packet) → Has z rest → z.0 ≢ one.packet)
      (ahead : (z : ℕ × Packet) → Has z rest → IsAhead (one.packet, packet_at net one.packet) z) (index : ℕ) (index_is : index ≡ (entered net good M x n r l one found).flit) where
    abbrev f : Flit
    f = flit_at (packet_at net one.packet) one.packet index

    abbrev i : ℕ
    i = local_channel v.site w

    abbrev done : View
    done = with_injected w index one.packet (packet_at net one.packet) rest u

    in-list : local_channel v.site w < size net
    in-list = subst (λ j. j < size net) (sym (local-is w)) (inside w low)

    at-i : IsAt net good r (local_channel v.site w) (Inject r w)
    at-i = subst (λ j. IsAt net good r j (Inject r w)) (sym (local-is w)) (at-local w low)

    buffer-here : view_buffer v (local_channel v.site w) ++ f ∷ [] ≡ seen_flits net T (Some (Inject r w))
    buffer-here =
        ap (λ (fs : List Flit). fs ++ f ∷ []) (buffer-local w low)
        ∙ ap (λ j. seen_flits net M (Some (Inject r w)) ++ flit_at (packet_at net one.packet) one.packet j ∷ []) index_is
        ∙ subst (λ (c : Channel). seen_flits net M (Some c) ++ flit_at (packet_at net one.packet) one.packet (entered net good M x n r l one found).flit ∷ [] ≡ seen_flits net T (Some c)) is (sym (flits-in net good M x n r l one found))

    input-here : input_after_land (view_input v (local_channel v.site w)) f ≡ seen_input net T r (local_channel v.site w) (Some (Inject r w))
    input-here =
        ap (λ (y : Input). input_after_land y f) (input-local w low)
        ∙ ap (λ j. input_after_land (seen_input net M r (local_port net.relation.grid * net.relation.vcs + w) (Some (Inject r w))) (flit_at (packet_at net one.packet) one.packet j)) index_is
        ∙ subst (λ (c : Channel). input_after_land (seen_input net M r (local_port net.relation.grid * net.relation.vcs + w) (Some c)) (flit_at (packet_at net one.packet) one.packet (entered net good M x n r l one found).flit) ≡ seen_input net T r (local_port net.relation.grid * net.relation.vcs + w) (Some c)) is
        (sym (input-in net good M x n r l one found (local_port net.relation.grid * net.relation.vcs + w)))
        ∙ ap (λ j. seen_input net T r j (Some (Inject r w))) (sym (local-is w))

    both : (j : ℕ) → j < size net → (view_buffer done j ≡ seen_flits net T (arriving net r j)) × (view_input done j ≡ seen_input net T r j (arriving net r j))
    both j k = by (cases_eq j (local_channel v.site w))
      where
        nb : local_channel v.site w < length v.buffers
        nb = let a = seen.n_buffers in let b = in-list in omega (arith, a, b)

        ni : local_channel v.site w < length v.inputs
        ni = let a = seen.n_inputs in let b = in-list in omega (arith, a, b)

        quiet : (j ≡ local_channel v.site w → ⊥) → (c : Channel) → arriving net r j ≡ Some c → IsAt net good r j c → Quiet net good M x n c
        quiet apart c e at two h z =
            let same : one ≡ two = same_Some _ _ (sym found ∙ mine two h j c at z) in
            let is_c : c ≡ Inject r w = sym z ∙ ap (λ (y : Injection net). y.channel) (sym same) ∙ is in
            apart (same-place net good r j r (local_channel v.site w) (Inject r w) (subst (λ (d : Channel). IsAt net good r j d) is_c at) at-i).1

        rest-of : (j ≡ local_channel v.site w → ⊥) → (o : Option Channel) → arriving net r j ≡ o → (view_buffer v j ≡ seen_flits net T (arriving net r j)) × (view_input v j ≡ seen_input net T r j (arriving net r j))
        rest-of apart None e = (seen.buffer j k ∙ ap (seen_flits net M) e ∙ sym (ap (seen_flits net T) e), seen.input j k ∙ ap (seen_input net M r j) e ∙ sym (ap (seen_input net T r j) e))
        rest-of apart (Some c) e =
            let at = arriving-at net good r j c l k e in
            let q = quiet apart c e at in (
              seen.buffer j k ∙ ap (seen_flits net M) e ∙ sym (ap (seen_flits net T) e ∙ flits-quiet net good M x n c q),
              seen.input j k ∙ ap (seen_input net M r j) e ∙ sym (ap (seen_input net T r j) e ∙ input-quiet net good M x n r j c (not-eject net good at) q),
            )

        by : (j ≡ local_channel v.site w) ⊎ (j ≡ local_channel v.site w → ⊥) → (view_buffer done j ≡ seen_flits net T (arriving net r j)) × (view_input done j ≡ seen_input net T r j (arriving net r j))
        by (inl e) = (
          ap (λ y. get_or (set v.buffers (local_channel v.site w) (view_buffer v (local_channel v.site w) ++ f ∷ [])) y []) e ∙ get_or-set_same v.buffers (local_channel v.site w) (view_buffer v (local_channel v.site w) ++ f ∷ []) [] nb ∙ buffer-here
              ∙ sym (ap (λ y. seen_flits net T (arriving net r y)) e ∙ ap (seen_flits net T) at-i.found),
          ap (λ y. get_or (set v.inputs (local_channel v.site w) (input_after_land (view_input v (local_channel v.site w)) f)) y idle_input) e ∙ get_or-set_same v.inputs (local_channel v.site w) (input_after_land (view_input v (local_channel v.site w)) f) idle_input ni ∙ input-here
              ∙ sym (ap (λ y. seen_input net T r y (arriving net r y)) e ∙ ap (seen_input net T r (local_channel v.site w)) at-i.found),
        )
        by (inr apart) =
            let q = rest-of apart (arriving net r j) refl in (
              get_or-set_other v.buffers (local_channel v.site w) j (view_buffer v (local_channel v.site w) ++ f ∷ []) [] apart ∙ q.0,
              get_or-set_other v.inputs (local_channel v.site w) j (input_after_land (view_input v (local_channel v.site w)) f) idle_input apart ∙ q.1,
            )

    last-is : f.last ≡ nat_eq ((entered net good M x n r l one found).flit + 1) (packet_at net one.packet).length
    last-is = ap (λ j. nat_eq (j + 1) (packet_at net one.packet).length) index_is

    queue-is : (b : Bool) → nat_eq ((entered net good M x n r l one found).flit + 1) (packet_at net one.packet).length ≡ b → cond b rest v.queue ≡ filter (has_flit_at_source net T) (starts_at net r)
    queue-is true e = sym (queue-last net good M x n r l one found rest queue_is other ahead e)
    queue-is false e = seen.queue ∙ sym (queue-more net good M x n r l one found rest queue_is other ahead e)

    sending-is : (b : Bool) → nat_eq ((entered net good M x n r l one found).flit + 1) (packet_at net one.packet).length ≡ b → cond b None (Some (w, index + 1)) ≡ seen_sending net T r (first_waiting net T r)
    sending-is true e = sym (sending-last net good M x n r l one found rest queue_is other ahead e)
    sending-is false e = ap (λ j. Some (w, j + 1)) index_is ∙ sym (sending-more net good M x n r l one found rest queue_is other ahead w is e)

    something : IsInjected net M n r v done
    something = record {
      seen = record {
        site = seen.site;
        n_buffers = length-set v.buffers _ _ ∙ seen.n_buffers;
        n_inputs = length-set v.inputs _ _ ∙ seen.n_inputs;
        n_outputs = seen.n_outputs;
        buffer = λ j k. (both j k).0;
        input = λ j k. (both j k).1;
        output = output-same;
        arbiters = arbiters-same;
        queue = ap (λ b. cond b rest v.queue) last-is ∙ queue-is (nat_eq ((entered net good M x n r l one found).flit + 1) (packet_at net one.packet).length) refl;
        sending = ap (λ b. cond b None (Some (w, index + 1))) last-is ∙ sending-is (nat_eq ((entered net good M x n r l one found).flit + 1) (packet_at net one.packet).length) refl;
        ends = ends-same;
        misfits = seen.misfits;
      };
      noted = record { last_event = refl; counts = refl; findings = refl; to_put = refl };
      given = refl;
      event = or-true v.had_event ∙ sym (ap (λ (o : Option (Injection net)). v.had_event || is_some o) found);
    }
      where
        or-true : (b : Bool) → true ≡ (b || true)
        or-true true = refl
        or-true false = refl

  -- ---- which of them

  -- a local channel is vacant where nobody owns the injection channel
  vacant-is : (w : ℕ) → w < net.relation.vcs → is_vacant u w ≡ is_idle net M (Inject r w)
  vacant-is w k =
      ap (λ (y : Input). is_idle_phase y.phase && is_empty (view_buffer v (local_channel v.site w))) (input-local w k)
      ∙ ap (λ (fs : List Flit). is_idle_phase (seen_input net M r (local_port net.relation.grid * net.relation.vcs + w) (Some (Inject r w))).phase && is_empty fs) (buffer-local w k)
      ∙ by (owner_of net M (Inject r w)) refl
    where
      i0 : ℕ
      i0 = local_port net.relation.grid * net.relation.vcs + w

      empty-is : (fs : List Located) → is_empty (map (λ (g : Located). flit_at (packet_at net g.packet) g.packet g.index) fs) ≡ nat_eq (length fs) 0
      empty-is [] = refl
      empty-is (g ∷ fs) = sym (Rattle.std.proofs.lemmas.Bool.ne_eqb (suc (length fs)) 0 (λ z. cc z))

      phase-is : (b : Bool) → has_channel M.routed (Inject r w) ≡ b → (o : Option Channel) → next_channel net M (Inject r w) ≡ o → is_idle_phase (seen_input net M r (local_port net.relation.grid * net.relation.vcs + w) (Some (Inject r w))).phase ≡ not b
      phase-is b e o q = ap (λ t. is_idle_phase (cond t (seen_phase_with net M r (local_port net.relation.grid * net.relation.vcs + w) (Inject r w) (next_channel net M (Inject r w))) Rattle.noc_vc.specs.declared.input.InputState.TheVariants.Idle)) e ∙ at b (next_channel net M (Inject r w))
        where
          at : (b : Bool) (o : Option Channel) → is_idle_phase (cond b (seen_phase_with net M r (local_port net.relation.grid * net.relation.vcs + w) (Inject r w) o) Rattle.noc_vc.specs.declared.input.InputState.TheVariants.Idle) ≡ not b
          at false o = refl
          at true None = refl
          at true (Some o) = refl

      abbreviated : Bool → Bool → Bool
      abbreviated a b = a && b

      by : (o : Option ℕ) → owner_of net M (Inject r w) ≡ o
          → (is_idle_phase (seen_input net M r (local_port net.relation.grid * net.relation.vcs + w) (Some (Inject r w))).phase && is_empty (seen_flits net M (Some (Inject r w)))) ≡ is_none (owner_of net M (Inject r w))
      by None e =
          let never : (p : ℕ) → Has (Inject r w, p) M.own → ⊥ = λ p h. idle-none net M (Inject r w) p e h in
          let unrouted : has_channel M.routed (Inject r w) ≡ false = no_route (has_channel M.routed (Inject r w)) refl never in
          let none : count_in net M (Inject r w) ≡ 0 = unowned-empty net good.built M (keyed net good M x n) (worm net good M x n) (Inject r w) never in
          ap (λ b. b && is_empty (seen_flits net M (Some (Inject r w)))) (phase-is false unrouted (next_channel net M (Inject r w)) refl) ∙ empty-is (buffer_of net M (Inject r w)) ∙ eq-eqb _ _ none ∙ sym (ap is_none e)
        where
          no_route : (b : Bool) → has_channel M.routed (Inject r w) ≡ b → ((p : ℕ) → Has (Inject r w, p) M.own → ⊥) → has_channel M.routed (Inject r w) ≡ false
          no_route false z never = z
          no_route true z never = let o = x.whole.routed.mid.only (Inject r w) z in absurd (never o.0 o.1.0)
      by (Some p) e = head (place_of_flit net M p 0) refl ∙ sym (ap is_none e)
        where
          h : IsHeld net M (Inject r w) p
          h = (owner-has net M (Inject r w) p e, (λ z. z))

          low : p < length net.packets
          low = (worm net good M x n).known (Inject r w) p h.0

          off : head_place net M p ≢ Source
          off = (worm net good M x n).begun (Inject r w) p h.0

          come : Rattle.noc_theory.specs.Lockstep.has_come net (Inject r w) (goal net p) (head_place net M p) ≡ true
          come =
              Rattle.noc_theory.proofs.landing.ComeLemmas.come-level net good.built M (keyed net good M x n) (worm net good M x n) p (Inject r w) (head_place net M p) h ((worm net good M x n).placed p 0 (valid-first net good.built p low))
              ∙ Rattle.std.proofs.lemmas.Bool.le-leb _ _ (Rattle.noc_theory.proofs.worms.InjectionPhaseLemmas.light net good.built M.own (place_of_flit net M) (worm net good M x n) p (head_place net M p) ((worm net good M x n).placed p 0 (valid-first net good.built p low)) off)

          and-false : (b : Bool) → (b && false) ≡ false
          and-false true = refl
          and-false false = refl

          head : (y : Place) → place_of_flit net M p 0 ≡ y → (is_idle_phase (seen_input net M r (local_port net.relation.grid * net.relation.vcs + w) (Some (Inject r w))).phase && is_empty (seen_flits net M (Some (Inject r w)))) ≡ false
          head y z = way (or_cases (is_in (Inject r w) (head_place net M p)) (is_past net (Inject r w) (goal net p) (head_place net M p)) come)
            where
              way : (is_in (Inject r w) (head_place net M p) ≡ true) ⊎ (is_past net (Inject r w) (goal net p) (head_place net M p) ≡ true) → (is_idle_phase (seen_input net M r (local_port net.relation.grid * net.relation.vcs + w) (Some (Inject r w))).phase && is_empty (seen_flits net M (Some (Inject r w)))) ≡ false
              way (inl t) =
                  let g : Located = record { packet = p; index = 0; place = place_of_flit net M p 0 } in
                  let member = flit-there net M (keyed net good M x n) p 0 (valid-first net good.built p low) in
                  let some : nat_eq (count_in net M (Inject r w)) 0 ≡ false = filled (nat_eq (count_in net M (Inject r w)) 0) refl g member t in
                  ap (λ b. is_idle_phase (seen_input net M r (local_port net.relation.grid * net.relation.vcs + w) (Some (Inject r w))).phase && b) (empty-is (buffer_of net M (Inject r w)) ∙ some)
                  ∙ and-false (is_idle_phase (seen_input net M r (local_port net.relation.grid * net.relation.vcs + w) (Some (Inject r w))).phase)
                where
                  filled : (b : Bool) → nat_eq (count_in net M (Inject r w)) 0 ≡ b → (g : Located) → Has g M.at → is_in (Inject r w) g.place ≡ true → nat_eq (count_in net M (Inject r w)) 0 ≡ false
                  filled false e g m t = e
                  filled true e g m t = absurd (false≢true (sym (Rattle.noc_theory.proofs.worms.InjectionRoomLemmas.filter-none (λ (q : Located). is_in (Inject r w) q.place) M.at g (Rattle.std.proofs.lemmas.Bool.eqb-true _ _ e) m) ∙ t))
              way (inr t) =
                  let routed = x.whole.routed.mid.passed (Inject r w) p h t (x.whole.routed.behind (Inject r w) p h) in
                  ap (λ b. b && is_empty (seen_flits net M (Some (Inject r w)))) (phase-is true routed (next_channel net M (Inject r w)) refl)

  -- what the source does, from its queue and what it is sending
  abbrev go : List (ℕ × Packet) → Option (ℕ × ℕ) → View
  go queue sending = view_after_inject_from n queue sending u

  injection-from : (p : ℕ) → first_waiting net M r ≡ Some p → injection_at net M n r ≡ injection_with net M n r p (find (is_injection_of net r) (owned_by net M p))
  injection-from p e = ap (option_and_then (λ q. injection_with net M n r q (find (is_injection_of net r) (owned_by net M q)))) e

  module _ (p : ℕ) (rest : List (ℕ × Packet)) (queue_is : filter (has_flit_at_source net M) (starts_at net r) ≡ (p, packet_at net p) ∷ rest) (first : first_waiting net M r ≡ Some p) (other : (z : ℕ × Packet) → Has z rest → z.0 ≢ p)
      (ahead : (z : ℕ × Packet) → Has z rest → IsAhead (p, packet_at net p) z) where
    count : ℕ
    count = count_by (λ (f : Located). not (is_at_source f.place)) (flits_of net M p)

    -- the packet has begun, on c
    goes-on : (c : Channel) → find (is_injection_of net r) (owned_by net M p) ≡ Some c → IsInjected net M n r v (go ((p, packet_at net p) ∷ rest) (Some (channel_vc c, count_by (λ (f : Located). not (is_at_source f.place)) (flits_of net M p))))
    goes-on c e = by (nat_lt (count_in net M c) net.depth) refl
      where
        own : (w : ℕ) × (c ≡ Inject r w) × Has (Inject r w, p) M.own
        own = injection-own net good.built M (keyed net good M x n) (worm net good M x n) p r c e

        w : ℕ
        w = own.0

        vc : channel_vc c ≡ own.0
        vc = ap channel_vc own.1

        low : own.0 < net.relation.vcs
        low =
            let a = input-at net good (Inject r own.0) (x.whole.covered (Inject r own.0) p (own.2, (λ z. z))) in
            subst (λ j. j < net.relation.vcs) (sym a.2.vc) (mod-below net good a.1)

        room : nat_lt (length (view_buffer v (local_channel v.site (channel_vc c)))) v.site.depth ≡ nat_lt (count_in net M c) net.depth
        room =
            ap (λ j. nat_lt (length (view_buffer v (local_channel v.site j))) v.site.depth) vc
            ∙ ap (λ (fs : List Flit). nat_lt (length fs) v.site.depth) (buffer-local own.0 low)
            ∙ ap (λ (s : Site). nat_lt (length (seen_flits net M (Some (Inject r own.0)))) s.depth) seen.site
            ∙ ap (λ j. nat_lt j net.depth) (length-map (buffer_of net M (Inject r own.0)) _)
            ∙ ap (λ (d : Channel). nat_lt (count_in net M d) net.depth) (sym own.1)

        by : (b : Bool) → nat_lt (count_in net M c) net.depth ≡ b → IsInjected net M n r v (go ((p, packet_at net p) ∷ rest) (Some (channel_vc c, count_by (λ (f : Located). not (is_at_source f.place)) (flits_of net M p))))
        by true k =
            let one : Injection net = record { packet = p; channel = c; begins = false } in
            let found : injection_at net M n r ≡ Some one = injection-from p first ∙ ap (injection_with net M n r p) e ∙ ap (λ b. if b then Some (record { packet = p; channel = c; begins = false }) else None) k in
            let index : count_by (λ (f : Located). not (is_at_source f.place)) (flits_of net M p) ≡ (entered net good M x n r l one found).flit = count-was net good M x n r l one found in
            let all = something one found own.0 low own.1 rest queue_is other ahead (count_by (λ (f : Located). not (is_at_source f.place)) (flits_of net M p)) index in
            let same : go ((p, packet_at net p) ∷ rest) (Some (channel_vc c, count_by (λ (f : Located). not (is_at_source f.place)) (flits_of net M p))) ≡ with_injected own.0 (count_by (λ (f : Located). not (is_at_source f.place)) (flits_of net M p)) p (packet_at net p) rest u
            = ap (λ b. cond b (with_injected (channel_vc c) (count_by (λ (f : Located). not (is_at_source f.place)) (flits_of net M p)) p (packet_at net p) rest u) u) (room ∙ k)
            ∙ ap (λ j. with_injected j (count_by (λ (f : Located). not (is_at_source f.place)) (flits_of net M p)) p (packet_at net p) rest u) vc in
            subst (λ (y : View). IsInjected net M n r v y) (sym same) all
        by false k =
            let none : injection_at net M n r ≡ None = injection-from p first ∙ ap (injection_with net M n r p) e ∙ ap (λ b. if b then Some (record { packet = p; channel = c; begins = false }) else None) k in
            let same : go ((p, packet_at net p) ∷ rest) (Some (channel_vc c, count_by (λ (f : Located). not (is_at_source f.place)) (flits_of net M p))) ≡ u
            = ap (λ b. cond b (with_injected (channel_vc c) (count_by (λ (f : Located). not (is_at_source f.place)) (flits_of net M p)) p (packet_at net p) rest u) u) (room ∙ k) in
            subst (λ (y : View). IsInjected net M n r v y) (sym same) (nothing none)

    -- the packet has not begun
    begins : find (is_injection_of net r) (owned_by net M p) ≡ None → IsInjected net M n r v (go ((p, packet_at net p) ∷ rest) None)
    begins e = due (nat_le (packet_at net p).due n) refl
      where
        wait : (p < length net.packets) × (r ≡ (packet_at net p).source) × (place_of_flit net M p (last_of net p) ≡ Source)
        wait = waiting-is net good.built M (keyed net good M x n) (worm net good M x n) n r p first

        -- its head is at the source
        head : (y : Place) → place_of_flit net M p 0 ≡ y → (y ≢ Source → ⊥) → y ≡ Source
        head Source z k = refl
        head (On c) z k = absurd (k (λ q. cc q))
        head (In c) z k = absurd (k (λ q. cc q))
        head (Out j) z k = absurd (k (λ q. cc q))

        not-begun : place_of_flit net M p 0 ≡ Source
        not-begun = head (place_of_flit net M p 0) refl (λ off.
            let h = (worm net good M x n).holds p wait.0 off wait.2 in
            let own : Has (Inject r h.0, p) M.own = subst (λ j. Has (Inject j h.0, p) M.own) (sym wait.1) h.1 in
            none-some (Inject r h.0) (sym e ∙ Rattle.noc_theory.proofs.injection.SourceStateLemmas.injection-at net good.built M (keyed net good M x n) (worm net good M x n) p r h.0 own))

        same-find : find (is_vacant u) (below v.site.vcs) ≡ find (λ j. is_idle net M (Inject r j)) (below net.relation.vcs)
        same-find = ap (λ j. find (is_vacant u) (below j)) vcs-is ∙ find-same (is_vacant u) (λ j. is_idle net M (Inject r j)) net.relation.vcs (λ j k. vacant-is j k)

        from : injection_at net M n r ≡ beginning net M n r p
        from = injection-from p first ∙ ap (injection_with net M n r p) e

        on : (o : Option ℕ) → find (λ j. is_idle net M (Inject r j)) (below net.relation.vcs) ≡ o → nat_le (packet_at net p).due n ≡ true → IsInjected net M n r v (begun_on o p (packet_at net p) rest u)
        on None k d =
            nothing (from ∙ ap (λ b. if b then option_map (λ j. record { packet = p; channel = Inject r j; begins = true }) (find (λ j. is_idle net M (Inject r j)) (below net.relation.vcs)) else None) d
            ∙ ap (option_map (λ j. record { packet = p; channel = Inject r j; begins = true })) k)
        on (Some w) k d =
            let one : Injection net = record { packet = p; channel = Inject r w; begins = true } in
            let found : injection_at net M n r ≡ Some one
            = from ∙ ap (λ b. if b then option_map (λ j. record { packet = p; channel = Inject r j; begins = true }) (find (λ j. is_idle net M (Inject r j)) (below net.relation.vcs)) else None) d
            ∙ ap (option_map (λ j. record { packet = p; channel = Inject r j; begins = true })) k in
            let low = (find-some (λ j. is_idle net M (Inject r j)) net.relation.vcs w k).1 in
            something one found w low refl rest queue_is other ahead 0 (zero-flit (entered net good M x n r l one found).flit (λ i. (entered net good M x n r l one found).first i))
          where
            zero-flit : (j : ℕ) → ((i : ℕ) → i < j → place_of_flit net M p i ≢ Source) → 0 ≡ j
            zero-flit zero f = refl
            zero-flit (suc j) f = absurd (f 0 (omega arith) not-begun)

        due : (b : Bool) → nat_le (packet_at net p).due n ≡ b → IsInjected net M n r v (go ((p, packet_at net p) ∷ rest) None)
        due true d =
            let same : go ((p, packet_at net p) ∷ rest) None ≡ begun_on (find (λ j. is_idle net M (Inject r j)) (below net.relation.vcs)) p (packet_at net p) rest u
            = ap (λ b. cond b (begun_on (find (is_vacant u) (below v.site.vcs)) p (packet_at net p) rest u) u) d ∙ ap (λ (o : Option ℕ). begun_on o p (packet_at net p) rest u) same-find in
            subst (λ (y : View). IsInjected net M n r v y) (sym same) (on (find (λ j. is_idle net M (Inject r j)) (below net.relation.vcs)) refl d)
        due false d =
            let same : go ((p, packet_at net p) ∷ rest) None ≡ u = ap (λ b. cond b (begun_on (find (is_vacant u) (below v.site.vcs)) p (packet_at net p) rest u) u) d in
            subst (λ (y : View). IsInjected net M n r v y) (sym same)
            (nothing (from ∙ ap (λ b. if b then option_map (λ j. record { packet = p; channel = Inject r j; begins = true }) (find (λ j. is_idle net M (Inject r j)) (below net.relation.vcs)) else None) d))

    front-goes : (o : Option Channel) → find (is_injection_of net r) (owned_by net M p) ≡ o → IsInjected net M n r v (go ((p, packet_at net p) ∷ rest) (seen_sending net M r (Some p)))
    front-goes (Some c) e =
        subst (λ (s : Option (ℕ × ℕ)). IsInjected net M n r v (go ((p, packet_at net p) ∷ rest) s)) (sym (ap (option_map (λ d. (channel_vc d, count_by (λ (f : Located). not (is_at_source f.place)) (flits_of net M p)))) e)) (goes-on c e)
    front-goes None e =
        subst (λ (s : Option (ℕ × ℕ)). IsInjected net M n r v (go ((p, packet_at net p) ∷ rest) s)) (sym (ap (option_map (λ d. (channel_vc d, count_by (λ (f : Located). not (is_at_source f.place)) (flits_of net M p)))) e)) (begins e)

  pub injects : IsInjected net M n r v (view_after_inject n v)
  unfolding view_after_inject
  injects = subst (λ (y : View). IsInjected net M n r v y) (sym same) (by (queue-case net M r))
    where
      same : view_after_inject_from n v.queue v.sending u ≡ view_after_inject_from n (filter (has_flit_at_source net M) (starts_at net r)) (seen_sending net M r (first_waiting net M r)) u
      same = ap (λ (q : List (ℕ × Packet)). view_after_inject_from n q v.sending u) seen.queue ∙ ap (λ (s : Option (ℕ × ℕ)). view_after_inject_from n (filter (has_flit_at_source net M) (starts_at net r)) s u) seen.sending

      by : Queue net M r → IsInjected net M n r v (view_after_inject_from n (filter (has_flit_at_source net M) (starts_at net r)) (seen_sending net M r (first_waiting net M r)) u)
      by (empty a b) =
          subst (λ (y : View). IsInjected net M n r v y) (sym (ap (λ (q : List (ℕ × Packet)). view_after_inject_from n q (seen_sending net M r (first_waiting net M r)) u) a))
          (nothing (ap (option_and_then (λ q. injection_with net M n r q (find (is_injection_of net r) (owned_by net M q)))) b))
      by (front p rest a b o w) =
          subst (λ (y : View). IsInjected net M n r v y)
          (sym (ap (λ (q : List (ℕ × Packet)). view_after_inject_from n q (seen_sending net M r (first_waiting net M r)) u) a ∙ ap (λ (f : Option ℕ). view_after_inject_from n ((p, packet_at net p) ∷ rest) (seen_sending net M r f) u) b))
          (front-goes p rest a b o w (find (is_injection_of net r) (owned_by net M p)) refl)
