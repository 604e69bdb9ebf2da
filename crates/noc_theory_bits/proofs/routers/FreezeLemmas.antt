-- From the words of a router before a cycle to those of its frozen state: beats are taken, and a
-- flit is injected.
use Rattle.std.proofs.Common.{◌≡◌, ℕ, zero, suc, ◌+◌, ◌/◌, ◌^◌, ◌<◌, ◌≤◌, Bool, true, false, List, [], ◌∷◌, length, Option, Some, None, refl, ap, ap₂, sym, ◌∙◌, subst, arith, inl, inr, bit_or}
use Rattle.std.specs.Prelude.{◌⊎◌, ◌&&◌, ◌||◌, not, is_some, nat_le, nat_lt, slice_index_or}
use Rattle.std.proofs.Math.Nat.{le-div_iff_mul-le}
use Rattle.noc_vc.specs.declared.output.OutputState.TheVariants.{Idle as Free}
use Rattle.noc_sets.specs.Sets.{differ}
use Rattle.noc_sets.specs.Passes.{frozen_column, lane_filled, lane_home, lane_landed}
use Rattle.noc_sets.specs.Planes.{any_from, raised_by}
use Rattle.noc_sets.specs.Source.{NEVER}
use Rattle.noc_sets.specs.Taken.{credited_by}
use Rattle.noc_sets.proofs.MemberLemmas.{xor_members, lowest_fits, or-true}
use Rattle.noc_sets.proofs.FlitLemmas.{empty-length, phase-kept, with-one-empty, with-one-length, begins_fits}
use Rattle.noc_sets.proofs.FrozenLemmas.{first-number, flit_from-beyond, frozen-words, marks-kept, owned-kept, sending-kept, turns-kept}
use Rattle.noc_sets.proofs.PlaneLemmas.{any-fits, filled-members, raised-length, raised-number}
use Rattle.noc_theory_bits.proofs.Common.{cases_lt, eq-eqb, eqb-true, le-ltb, true≢false, false≢true, and_parts, ltb-true, local_port, one_if, has_bit, Packet, Flit, Beat, either_members, Routes, MembersAreBelow, Input, is_active, is_empty, is_idle_phase, is_waiting, Output, ejection_output, InputState, OutputState, Idle, Waiting, Active, Owned, Draining, is_owned_from, is_supplied, owns, Site, View, size_of, local_channel, view_buffer, view_input, view_output, view_after_takes, view_after_inject, view_after_inject_from, lowest, Column, RouterMarks, IsColumn, IsTidy, ShowsHolder, ShowsInput, ShowsOutput, ShowsSending, HasInjected, injected_to, injection_from, injection_in, AreOwners, lane_begins, lane_injected, lane_raised, plane_number, wrong_from, AreAll, ShowsNext, ShowsQueue, ShowsSource, begun_source, due_of, Source, Start, HasSize, HasTaken, credit_from, flit_from, with_one, and_fits, below_fits, less_members, or_fits, AreFilled, ShowsWires}
use Rattle.noc_theory_bits.proofs.routers.ArriveLemmas.{AreCredits, outputs-arrived, place-left, supplied-arrived}
use Rattle.noc_theory_bits.proofs.routers.CommittedLemmas.{size-taken}
use Rattle.noc_theory_bits.proofs.routers.InjectLemmas.{HasSent, sent-by}
use Rattle.noc_theory_bits.proofs.routers.InjectedLemmas.{has-injected}

injected-is : (n : ℕ) (w : View) → view_after_inject n w ≡ view_after_inject_from n w.queue w.sending (record w { given = n })
unfolding view_after_inject
injected-is n w = refl

given-same : (n : ℕ) (queue : List (ℕ × Packet)) (sending : Option (ℕ × ℕ)) (w : View) → injection_from n queue sending (record w { given = n }) ≡ injection_from n queue sending w
given-same n [] sending w = refl
given-same n ((number, p) ∷ rest) None w = refl
given-same n ((number, p) ∷ rest) (Some (vc, index)) w = refl

injected_to-same : (n : ℕ) (w : View) (new : Option (ℕ × Flit)) (i : ℕ) → injected_to (record w { given = n }) new i ≡ injected_to w new i
injected_to-same n w None i = refl
injected_to-same n w (Some (vc, f)) i = refl

either-is : (a b c : Bool) → one_if a + one_if b ≡ one_if c → c ≡ (a || b)
either-is true true true e = refl
either-is true true false e = absurd (omega (arith, e))
either-is true false true e = refl
either-is true false false e = absurd (omega (arith, e))
either-is false true true e = refl
either-is false true false e = absurd (omega (arith, e))
either-is false false true e = absurd (omega (arith, e))
either-is false false false e = refl

-- the words of a router before cycle n: its column, what is on the wires to it, its source; the
-- local channels; and the input channels that come to be supplied
module _ (relation : Routes) (count : ℕ) (c : Column) (m : RouterMarks) (v : View) (beats : List Beat) (n local : ℕ) (starts : List Start) (s : Source) (flits tails credits up : ℕ) (bits : List ℕ)
    (column : IsColumn count c m v) (wires : ShowsWires v flits tails credits beats) (source : ShowsSource starts s v) (tidy : IsTidy v) (size : HasSize v)
    (taken : HasTaken relation v (view_after_takes relation beats v) (flit_from v.site.vcs 0 beats) (credit_from v.site.vcs 0 beats))
    (few : size_of v.site ≤ 63) (all : AreAll count (size_of v.site) v.site.depth bits) (some_place : 0 < v.site.depth) (short : length beats ≤ local_port v.site.grid) (now : n < NEVER)
    (is-local : (i : ℕ) → has_bit local i ≡ (nat_le (local_channel v.site 0) i && nat_lt i (size_of v.site)))
    (ups : AreOwners (lane_raised credits c) m.owner up) (up_fits : up < 2 ^ 64) where
  room : v.site.depth < 2 ^ count
  room = all.room

  abbrev w : View
  w = view_after_takes relation beats v

  abbrev x : View
  x = view_after_inject n (view_after_takes relation beats v)

  abbrev u : View
  u = record (view_after_takes relation beats v) { given = n }

  abbrev begins : ℕ
  begins = lane_begins local n s.due c

  abbrev went : ℕ
  went = bit_or (lane_injected bits c) (lowest (lane_begins local n s.due c))

  abbrev frozen : Column
  frozen = frozen_column bits credits up flits (lane_begins local n s.due c) (bit_or (lane_injected bits c) (lowest (lane_begins local n s.due c))) (begun_source starts (lane_begins local n s.due c) s).left c

  site : w.site ≡ v.site
  site = ap (λ (y : View). y.site) taken.rest

  injects : HasInjected w x (injection_in n w)
  injects = has-injected n w (size-taken relation beats v size)

  x_site : x.site ≡ v.site
  x_site = injects.site ∙ site

  begins-fit : lane_begins local n s.due c < 2 ^ 64
  begins-fit =
      begins_fits local n s.due c
      (below_fits 64 local (λ k e.
      let l : k < size_of v.site = ltb-true k (size_of v.site) (and_parts (nat_le (local_channel v.site 0) k) (nat_lt k (size_of v.site)) (sym (is-local k) ∙ e)).1 in
      omega (arith, l, few)))

  flits_fit : flits < 2 ^ 64
  flits_fit = below_fits 64 flits (λ k e. let l = wires.comes_below k e in omega (arith, l, few))

  credits_fit : credits < 2 ^ 64
  credits_fit = below_fits 64 credits (λ k e. let l = wires.returns_below k e in omega (arith, l, few))

  are_credits : AreCredits v credits (credit_from v.site.vcs 0 beats)
  are_credits = record { fits = credits_fit; each = wires.returns; below = wires.returns_below }

  -- nothing comes to a local channel
  local-none : (i : ℕ) → local_channel v.site 0 ≤ i → flit_from v.site.vcs 0 beats i ≡ None
  local-none i l = flit_from-beyond v.site.vcs 0 beats i (omega (arith, short, port))
    where
      port : local_port v.site.grid ≤ i / v.site.vcs
      port = (le-div_iff_mul-le {k = v.site.vcs} {x = local_port v.site.grid} {y = i} size.some).1 (omega arith)

  buffer_w : (i : ℕ) → local_channel v.site 0 ≤ i → i < size_of v.site → view_buffer w i ≡ view_buffer v i
  buffer_w i a l = taken.buffer i l ∙ ap (with_one (view_buffer v i)) (local-none i a)

  phase_w : (i : ℕ) → i < size_of v.site → (view_input w i).phase ≡ (view_input v i).phase
  phase_w i l = ap (λ (y : Input). y.phase) (taken.input i l) ∙ phase-kept (view_input v i) (flit_from v.site.vcs 0 beats i)

  -- what the source has injected
  pub sent : HasSent c starts s u x (lane_injected bits c) (lane_begins local n s.due c) (bit_or (lane_injected bits c) (lowest (lane_begins local n s.due c))) (injection_in n w)
  sent =
      subst (λ (y : View). HasSent c starts s u y (lane_injected bits c) (lane_begins local n s.due c) (bit_or (lane_injected bits c) (lowest (lane_begins local n s.due c))) (injection_in n w)) (sym (injected-is n w))
      (subst (λ (o : Option (ℕ × Flit)). HasSent c starts s u (view_after_inject_from n w.queue w.sending u) (lane_injected bits c) (lane_begins local n s.due c) (bit_or (lane_injected bits c) (lowest (lane_begins local n s.due c))) o) (given-same n w.queue w.sending w)
      (sent-by count c starts s u n local bits column.words source.few now
      (subst (λ (t : Site). size_of t ≤ 64) (sym site) (omega (arith, few)))
      (subst (λ (t : Site). AreAll count (size_of t) t.depth bits) (sym site) all)
      (subst (λ (t : Site). 0 < t.depth) (sym site) some_place)
      (subst (λ (t : Site). (i : ℕ) → has_bit local i ≡ (nat_le (local_channel t 0) i && nat_lt i (size_of t))) (sym site) is-local)
      (subst (λ (t : Site). (i : ℕ) → local_channel t 0 ≤ i → i < size_of t → plane_number c.len i ≡ length (view_buffer w i)) (sym site) (λ i a l. (column.channels.inputs i l).len ∙ ap (λ (xs : List Flit). length xs) (sym (buffer_w i a l))))
      (subst (λ (t : Site). (i : ℕ) → local_channel t 0 ≤ i → i < size_of t → has_bit c.waiting i ≡ is_waiting (view_input w i).phase) (sym site) (λ i a l. (column.channels.inputs i l).waiting ∙ ap is_waiting (sym (phase_w i l))))
      (subst (λ (t : Site). (i : ℕ) → local_channel t 0 ≤ i → i < size_of t → has_bit c.active i ≡ is_active (view_input w i).phase) (sym site) (λ i a l. (column.channels.inputs i l).active ∙ ap is_active (sym (phase_w i l))))
      (subst (λ (t : Site). (i : ℕ) → local_channel t 0 ≤ i → i < size_of t → length (view_buffer w i) ≤ t.depth) (sym site) (λ i a l. subst (λ (xs : List Flit). length xs ≤ v.site.depth) (sym (buffer_w i a l)) (tidy.lens i l)))
      w.queue w.sending refl refl
      (source.due ∙ ap due_of (sym queue))
      (subst (ShowsQueue starts s.queue) (sym queue) source.queue)
      (subst (λ (q : List (ℕ × Packet)). ShowsNext s q w.sending) (sym queue) (subst (ShowsNext s v.queue) (sym sending) source.next))
      (sends w.sending (subst (ShowsSending c v) (sym sending) column.sending))))
    where
      queue : w.queue ≡ v.queue
      queue = ap (λ (y : View). y.queue) taken.rest

      sending : w.sending ≡ v.sending
      sending = ap (λ (y : View). y.sending) taken.rest

      sends : (o : Option (ℕ × ℕ)) → ShowsSending c v o → ShowsSending c u o
      sends None t = t
      sends (Some (vc, index)) t = subst (λ (y : Site). (vc < y.vcs) × (c.injecting ≡ 2 ^ local_channel y vc)) (sym site) t

  -- ---- channel by channel
  went-is : (i : ℕ) → i < size_of v.site → has_bit went i ≡ is_some (injected_to w (injection_in n w) i)
  went-is i l = sent.goes i (subst (λ (t : Site). i < size_of t) (sym site) l) ∙ ap is_some (injected_to-same n w (injection_in n w) i)

  went-local : (i : ℕ) → has_bit went i ≡ true → (local_channel v.site 0 ≤ i) × (i < size_of v.site)
  went-local i e = subst (λ (t : Site). (local_channel t 0 ≤ i) × (i < size_of t)) site (sent.local i e)

  -- a channel to which a flit comes by a link injects none
  comes-alone : (i : ℕ) → has_bit went i ≡ true → has_bit flits i ≡ false
  comes-alone i e = wires.comes i (went-local i e).1 ∙ ap is_some (local-none i (went-local i e).0)

  -- the flits of a buffer then, and a flit that comes or is injected has a place
  buffer_x : (i : ℕ) → i < size_of v.site → view_buffer x i ≡ with_one (with_one (view_buffer v i) (flit_from v.site.vcs 0 beats i)) (injected_to w (injection_in n w) i)
  buffer_x i l = injects.buffer i (subst (λ (t : Site). i < size_of t) (sym site) l) ∙ ap (λ xs. with_one xs (injected_to w (injection_in n w) i)) (taken.buffer i l)

  length_x : (i : ℕ) → i < size_of v.site → length (view_buffer x i) ≡ length (view_buffer v i) + one_if (has_bit flits i) + one_if (has_bit went i)
  length_x i l =
      ap (λ (xs : List Flit). length xs) (buffer_x i l)
      ∙ with-one-length (with_one (view_buffer v i) (flit_from v.site.vcs 0 beats i)) (injected_to w (injection_in n w) i)
      ∙ ap₂ (λ a b. a + one_if b) (with-one-length (view_buffer v i) (flit_from v.site.vcs 0 beats i) ∙ ap (λ b. length (view_buffer v i) + one_if b) (sym (wires.comes i l))) (sym (went-is i l))

  fitting : (i : ℕ) → i < size_of v.site → plane_number c.len i + one_if (has_bit flits i) + one_if (has_bit went i) ≤ v.site.depth
  fitting i l = at (has_bit went i) refl
    where
      was : plane_number c.len i ≡ length (view_buffer v i)
      was = (column.channels.inputs i l).len

      at : (b : Bool) → has_bit went i ≡ b → plane_number c.len i + one_if (has_bit flits i) + one_if (has_bit went i) ≤ v.site.depth
      at true e =
          let place = subst (λ (t : Site). length (view_buffer w i) < t.depth) site (sent.place i e) in
          let same : length (view_buffer w i) ≡ length (view_buffer v i) = ap (λ (xs : List Flit). length xs) (buffer_w i (went-local i e).0 l) in
          let none : one_if (has_bit flits i) ≡ 0 = ap one_if (comes-alone i e) in
          let one : one_if (has_bit went i) ≡ 1 = ap one_if e in
          omega (arith, place, same, none, one, was)
      at false e =
          let left = place-left relation count c m v w (flit_from v.site.vcs 0 beats) (credit_from v.site.vcs 0 beats) bits column.words all column.channels tidy taken i l in
          let comes : one_if (has_bit flits i) ≡ one_if (is_some (flit_from v.site.vcs 0 beats i)) = ap one_if (wires.comes i l) in
          let none : one_if (has_bit went i) ≡ 0 = ap one_if e in
          omega (arith, left, comes, none, was)

  -- the length of a buffer
  number_x : (i : ℕ) → plane_number c.len i + one_if (has_bit flits i) + one_if (has_bit went i) < 2 ^ count
      → plane_number frozen.len i ≡ plane_number c.len i + one_if (has_bit flits i) + one_if (has_bit went i)
  number_x i small =
      let parts = sent.parts i in
      let landed : one_if (has_bit (lane_landed bits flits c) i) ≡ one_if (has_bit flits i) + one_if (has_bit (lane_injected bits c) i) =
      ap one_if (either_members flits (lane_injected bits c) i) ∙ apart (has_bit flits i) (has_bit (lane_injected bits c) i) alone in
      let raised : plane_number (raised_by c.len (lane_landed bits flits c)) i ≡ plane_number c.len i + one_if (has_bit (lane_landed bits flits c) i) =
      raised-number c.len (lane_landed bits flits c) i (subst (λ (k : ℕ). plane_number c.len i + one_if (has_bit (lane_landed bits flits c) i) < 2 ^ k) (sym column.words.len_bits) (omega (arith, landed, parts, small))) in
      first-number (lowest begins) (raised_by c.len (lane_landed bits flits c)) i long
      (λ e. let none : plane_number c.len i ≡ 0 = sent.vacant i e in
      let one : one_if (has_bit (lowest begins) i) ≡ 1 = ap one_if e in
      let goes : has_bit went i ≡ true = either-is (has_bit (lane_injected bits c) i) (has_bit (lowest begins) i) (has_bit went i) parts ∙ ap (λ b. has_bit (lane_injected bits c) i || b) e ∙ or-true (has_bit (lane_injected bits c) i) in
      let comes : one_if (has_bit flits i) ≡ 0 = ap one_if (comes-alone i goes) in
      let is_one : one_if (has_bit went i) ≡ 1 = ap one_if goes in
      omega (arith, none, one, comes, is_one, parts, landed, raised))
      ∙ omega (arith, raised, landed, parts)
    where
      long : 0 < length (raised_by c.len (lane_landed bits flits c))
      long = let e = raised-length c.len (lane_landed bits flits c) ∙ column.words.len_bits in omega (arith, e, some-bit count room)
        where
          some-bit : (k : ℕ) → v.site.depth < 2 ^ k → 0 < k
          some-bit zero l = absurd (omega (arith, l, some_place))
          some-bit (suc k) l = omega arith

      alone : has_bit flits i ≡ true → has_bit (lane_injected bits c) i ≡ false
      alone e = off (has_bit (lane_injected bits c) i) refl
        where
          off : (b : Bool) → has_bit (lane_injected bits c) i ≡ b → has_bit (lane_injected bits c) i ≡ false
          off true h = absurd (true≢false (sym e ∙ comes-alone i (either-is (has_bit (lane_injected bits c) i) (has_bit (lowest begins) i) (has_bit went i) (sent.parts i) ∙ ap (λ b. b || has_bit (lowest begins) i) h)))
          off false h = h

      apart : (a b : Bool) → (a ≡ true → b ≡ false) → one_if (a || b) ≡ one_if a + one_if b
      apart true true h = absurd (true≢false (h refl))
      apart true false h = omega arith
      apart false true h = omega arith
      apart false false h = omega arith

  phase_x : (i : ℕ) → i < size_of v.site → (view_input x i).phase ≡ (view_input v i).phase
  phase_x i l =
      ap (λ (y : Input). y.phase) (injects.input i (subst (λ (t : Site). i < size_of t) (sym site) l))
      ∙ phase-kept (view_input w i) (injected_to w (injection_in n w) i)
      ∙ phase_w i l

  inputs_x : (i : ℕ) → i < size_of v.site → ShowsInput frozen i (view_buffer x i) (view_input x i)
  inputs_x i l =
      let shows = column.channels.inputs i l in
      let phase : (view_input x i).phase ≡ (view_input v i).phase = phase_x i l in
      record {
        waiting = shows.waiting ∙ ap is_waiting (sym phase);
        active = shows.active ∙ ap is_active (sym phase);
        len = number_x i (let fit = fitting i l in omega (arith, fit, room)) ∙ ap (λ k. k + one_if (has_bit flits i) + one_if (has_bit went i)) shows.len ∙ sym (length_x i l);
      }

  outputs_x : (o : ℕ) → o < size_of v.site → ShowsOutput frozen o (view_output x o)
  outputs_x o l =
      let shows = outputs-arrived relation count c m v w (flit_from v.site.vcs 0 beats) (credit_from v.site.vcs 0 beats) bits column.words all column.channels tidy taken credits are_credits o l in
      subst (λ (os : List Output). ShowsOutput frozen o (slice_index_or os o ejection_output)) (sym injects.outputs)
      (record { idle = shows.idle; draining = shows.draining; credit = shows.credit })

  supplied_x : (i : ℕ) → i < size_of v.site → has_bit frozen.supplied i ≡ is_supplied x.outputs (view_input x i).phase
  supplied_x i l =
      supplied-arrived relation count c m v w (flit_from v.site.vcs 0 beats) (credit_from v.site.vcs 0 beats) bits column.words all column.channels tidy taken credits up m.owner are_credits named ups i l
      ∙ ap₂ (λ (os : List Output) (p : InputState). is_supplied os p) (sym injects.outputs) (phase_w i l ∙ sym (phase_x i l))
    where
      named : (o j p : ℕ) → o < size_of v.site → (view_output v o).holder ≡ Owned j p → m.owner o ≡ j
      named o j p lo e = subst (ShowsHolder m o) e (column.marks.holders o lo)

  -- ---- no channel beyond those of the router
  not-member : (set k : ℕ) → MembersAreBelow (size_of v.site) set → size_of v.site ≤ k → has_bit set k ≡ false
  not-member set k below beyond = at (has_bit set k) refl
    where
      at : (b : Bool) → has_bit set k ≡ b → has_bit set k ≡ false
      at true e = absurd (let l = below k e in omega (arith, l, beyond))
      at false e = e

  home_below : MembersAreBelow (size_of v.site) (lane_home bits credits c)
  home_below k e =
      column.channels.draining_below k
      (and_parts (has_bit c.draining k) (not (has_bit (wrong_from 0 (raised_by c.credit credits) bits) k))
      (sym (less_members c.draining (wrong_from 0 (raised_by c.credit credits) bits) k) ∙ e)).0

  idle_below_x : MembersAreBelow (size_of v.site) frozen.idle
  idle_below_x k e = at (has_bit c.idle k) refl (sym (either_members c.idle (lane_home bits credits c) k) ∙ e)
    where
      at : (b : Bool) → has_bit c.idle k ≡ b → (has_bit c.idle k || has_bit (lane_home bits credits c) k) ≡ true → k < size_of v.site
      at true h t = column.channels.idle_below k h
      at false h t = home_below k (sym (ap (λ b. b || has_bit (lane_home bits credits c) k) h) ∙ t)

  draining_below_x : MembersAreBelow (size_of v.site) frozen.draining
  draining_below_x k e = at (has_bit c.draining k) refl (sym (xor_members c.draining (lane_home bits credits c) k) ∙ e)
    where
      at : (b : Bool) → has_bit c.draining k ≡ b → differ (has_bit c.draining k) (has_bit (lane_home bits credits c) k) ≡ true → k < size_of v.site
      at true h t = column.channels.draining_below k h
      at false h t = home_below k (sym (ap (λ b. differ b (has_bit (lane_home bits credits c) k)) h) ∙ t)

  went_below : MembersAreBelow (size_of v.site) went
  went_below k e = (went-local k e).1

  len_below_x : (i : ℕ) → size_of v.site ≤ i → plane_number frozen.len i ≡ 0
  len_below_x i beyond =
      let none : plane_number c.len i ≡ 0 = column.channels.len_below i beyond in
      let comes : one_if (has_bit flits i) ≡ 0 = ap one_if (not-member flits i wires.comes_below beyond) in
      let goes : one_if (has_bit went i) ≡ 0 = ap one_if (not-member went i went_below beyond) in
      number_x i (omega (arith, none, comes, goes, room, some_place)) ∙ omega (arith, none, comes, goes)

  output-is : (o : ℕ) → o < size_of v.site → view_output x o ≡ credited_by (view_output v o) (credit_from v.site.vcs 0 beats o)
  output-is o l = ap (λ (os : List Output). slice_index_or os o ejection_output) injects.outputs ∙ taken.output o l

  -- a channel that is not idle keeps its packet: a flit in it stays there, and so does the owner of
  -- its output channel
  packet_x : IsTidy (view_after_inject n (view_after_takes relation beats v)) → (i : ℕ) → i < size_of v.site → is_idle_phase (view_input v i).phase ≡ false → (view_input x i).packet ≡ (view_input v i).packet
  packet_x tidy_x i l busy = by (view_input v i).phase refl
    where
      inside : (k : ℕ) → k < size_of v.site → k < size_of x.site
      inside k h = subst (λ (t : Site). k < size_of t) (sym x_site) h

      more : (f : Flit) (rest : List Flit) (a b : Option Flit) → with_one (with_one (f ∷ rest) a) b ≡ f ∷ with_one (with_one rest a) b
      more f rest None None = refl
      more f rest None (Some h) = refl
      more f rest (Some g) None = refl
      more f rest (Some g) (Some h) = refl

      holds : (flits : List Flit) → view_buffer v i ≡ flits → is_empty flits ≡ false → (view_input x i).packet ≡ (view_input v i).packet
      holds [] e some = absurd (true≢false some)
      holds (f ∷ rest) e some =
          tidy_x.firsts i f (with_one (with_one rest (flit_from v.site.vcs 0 beats i)) (injected_to w (injection_in n w) i)) (inside i l)
          (buffer_x i l
          ∙ ap (λ xs. with_one (with_one xs (flit_from v.site.vcs 0 beats i)) (injected_to w (injection_in n w) i)) e
          ∙ more f rest (flit_from v.site.vcs 0 beats i) (injected_to w (injection_in n w) i))
          ∙ sym (tidy.firsts i f rest l e)

      owns-one : (o : ℕ) → o < size_of v.site → (h : OutputState) → (view_output v o).holder ≡ h → is_owned_from h i ≡ true → (view_input x i).packet ≡ (view_input v i).packet
      owns-one o lo Free e owned = absurd (false≢true owned)
      owns-one o lo Draining e owned = absurd (false≢true owned)
      owns-one o lo (Owned j p) e owned =
          let is : (view_output v o).holder ≡ Owned i p = e ∙ ap (λ k. Owned k p) (eqb-true j i owned) in
          tidy_x.named i o p (inside i l) (inside o lo) (ap (λ (y : Output). y.holder) (output-is o lo) ∙ owned-kept (view_output v o) (credit_from v.site.vcs 0 beats o) i p is)
          ∙ sym (tidy.named i o p l lo is)

      by : (p : InputState) → (view_input v i).phase ≡ p → (view_input x i).packet ≡ (view_input v i).packet
      by Idle e = absurd (true≢false (ap is_idle_phase (sym e) ∙ busy))
      by (Waiting set) e = holds (view_buffer v i) refl (tidy.waits i l (ap is_waiting e))
      by (Active o) e =
          let lo = tidy.owned_below i o l e in
          owns-one o lo (view_output v o).holder refl (sym (tidy.owners i o l lo) ∙ ap (λ p. owns p o) e ∙ eq-eqb o o refl)

  -- the column shows the frozen state
  pub column-frozen : IsTidy (view_after_inject n (view_after_takes relation beats v)) → IsColumn count frozen m x
  column-frozen tidy_x = record {
    words = frozen-words count credits up flits (lane_begins local n s.due c) (bit_or (lane_injected bits c) (lowest (lane_begins local n s.due c))) (begun_source starts (lane_begins local n s.due c) s).left bits c
        column.words credits_fit up_fits flits_fit begins-fit;
    channels = record {
      inputs = subst (λ (t : Site). (i : ℕ) → i < size_of t → ShowsInput frozen i (view_buffer x i) (view_input x i)) (sym x_site) inputs_x;
      outputs = subst (λ (t : Site). (o : ℕ) → o < size_of t → ShowsOutput frozen o (view_output x o)) (sym x_site) outputs_x;
      supplied = subst (λ (t : Site). (i : ℕ) → i < size_of t → has_bit frozen.supplied i ≡ is_supplied x.outputs (view_input x i).phase) (sym x_site) supplied_x;
      waiting_below = subst (λ (t : Site). MembersAreBelow (size_of t) c.waiting) (sym x_site) column.channels.waiting_below;
      active_below = subst (λ (t : Site). MembersAreBelow (size_of t) c.active) (sym x_site) column.channels.active_below;
      idle_below = subst (λ (t : Site). MembersAreBelow (size_of t) frozen.idle) (sym x_site) idle_below_x;
      draining_below = subst (λ (t : Site). MembersAreBelow (size_of t) frozen.draining) (sym x_site) draining_below_x;
      len_below = subst (λ (t : Site). (i : ℕ) → size_of t ≤ i → plane_number frozen.len i ≡ 0) (sym x_site) len_below_x;
    };
    turns = turns-kept c frozen m v x refl x_site (injects.arbiters ∙ ap (λ (y : View). y.arbiters) taken.rest) column.turns;
    marks = marks-kept c frozen m v x (credit_from v.site.vcs 0 beats) refl x_site phase_x output-is (packet_x tidy_x) column.marks;
    sending = sending-kept (record c { injecting = frozen.injecting }) frozen x x.sending refl sent.injecting;
  }

  -- ---- the channels with a flit
  filled-bit : (i : ℕ) → has_bit (bit_or (lane_filled bits flits c) (lowest (lane_begins local n s.due c))) i
      ≡ ((nat_lt 0 (plane_number c.len i) || has_bit flits i) || has_bit went i)
  filled-bit i =
      either_members (lane_filled bits flits c) (lowest (lane_begins local n s.due c)) i
      ∙ ap (λ b. b || has_bit (lowest (lane_begins local n s.due c)) i)
      (either_members (any_from 0 c.len) (lane_landed bits flits c) i
      ∙ ap₂ (λ a b. a || b) (filled-members c.len i) (either_members flits (lane_injected bits c) i))
      ∙ assoc (nat_lt 0 (plane_number c.len i)) (has_bit flits i) (has_bit (lane_injected bits c) i) (has_bit (lowest (lane_begins local n s.due c)) i)
      ∙ ap (λ b. (nat_lt 0 (plane_number c.len i) || has_bit flits i) || b) (sym (either-is (has_bit (lane_injected bits c) i) (has_bit (lowest (lane_begins local n s.due c)) i) (has_bit went i) (sent.parts i)))
    where
      assoc : (a b j l : Bool) → ((a || (b || j)) || l) ≡ ((a || b) || (j || l))
      assoc true b j l = refl
      assoc false true j l = refl
      assoc false false j l = refl

  pub filled-frozen : AreFilled x (bit_or (lane_filled bits flits c) (lowest (lane_begins local n s.due c)))
  filled-frozen = record {
    fits = or_fits (lane_filled bits flits c) (lowest (lane_begins local n s.due c))
        (or_fits (any_from 0 c.len) (lane_landed bits flits c) (any-fits c.len column.words.len)
        (or_fits flits (lane_injected bits c) flits_fit (and_fits c.injecting (wrong_from 0 c.len bits) column.words.injecting)))
        (lowest_fits (lane_begins local n s.due c) begins-fit);
    below = subst (λ (t : Site). MembersAreBelow (size_of t) (bit_or (lane_filled bits flits c) (lowest (lane_begins local n s.due c)))) (sym x_site) (λ k e. within k e (cases_lt k (size_of v.site)));
    each = subst (λ (t : Site). (i : ℕ) → i < size_of t → has_bit (bit_or (lane_filled bits flits c) (lowest (lane_begins local n s.due c))) i ≡ not (is_empty (view_buffer x i))) (sym x_site) fills;
  }
    where
      within : (k : ℕ) → has_bit (bit_or (lane_filled bits flits c) (lowest (lane_begins local n s.due c))) k ≡ true → (k < size_of v.site) ⊎ (size_of v.site ≤ k) → k < size_of v.site
      within k e (inl l) = l
      within k e (inr beyond) = absurd (false≢true (sym none ∙ e))
        where
          none : has_bit (bit_or (lane_filled bits flits c) (lowest (lane_begins local n s.due c))) k ≡ false
          none =
              filled-bit k
              ∙ ap₂ (λ a b. (a || b) || has_bit went k) (ap (nat_lt 0) (column.channels.len_below k beyond) ∙ le-ltb 0 0 (omega arith)) (not-member flits k wires.comes_below beyond)
              ∙ not-member went k went_below beyond

      fills : (i : ℕ) → i < size_of v.site → has_bit (bit_or (lane_filled bits flits c) (lowest (lane_begins local n s.due c))) i ≡ not (is_empty (view_buffer x i))
      fills i l =
          filled-bit i
          ∙ ap₂ (λ a b. (a || b) || has_bit went i) (ap (nat_lt 0) (column.channels.inputs i l).len ∙ empty-length (view_buffer v i)) (wires.comes i l)
          ∙ ap (λ b. b || has_bit went i) (sym (with-one-empty (view_buffer v i) (flit_from v.site.vcs 0 beats i)))
          ∙ ap (λ b. not (is_empty (with_one (view_buffer v i) (flit_from v.site.vcs 0 beats i))) || b) (went-is i l)
          ∙ sym (with-one-empty (with_one (view_buffer v i) (flit_from v.site.vcs 0 beats i)) (injected_to w (injection_in n w) i))
          ∙ ap (λ (xs : List Flit). not (is_empty xs)) (sym (buffer_x i l))
