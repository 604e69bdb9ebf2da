-- What the switch leaves in the words of a router is what the round of its frozen view has.
use Rattle.std.proofs.Common.{◌≡◌, ◌≢◌, ℕ, zero, suc, ◌+◌, ◌*◌, ◌/◌, ◌%◌, ◌^◌, ◌<◌, Bool, true, false, Option, Some, None, refl, ap, ap₂, sym, ◌∙◌, subst, arith, inl, inr, div-add-mod'}
use Rattle.std.specs.Prelude.{◌⊎◌, ◌&&◌, ◌||◌, not, is_some, nat_eq, nat_le, option_and_then, slice_index, slice_index_or, if◌then◌else◌}
use Rattle.noc_sets.proofs.StandLemmas.{draws}
use Rattle.noc_theory_bits.proofs.Common.{cases_eq, eq-eqb, le-leb, ne_eqb, eqb-true, true≢false, false≢true, and_parts, get_or-map, div_below, mod_below, mul-add-lt, pow_below, is_some_of, ports, has_bit, has_bit-zero, Routes, RoundRobin, arbiter_at, pointers_of, MembersAreBelow, is_active, is_empty, is_idle_phase, InputState, Idle, Waiting, Active, is_supplied, is_won_from, ask_of, out_of, View, size_of, view_buffer, view_claim, claim_in, view_input, view_round, mover_to, IsColumn, ShowsPhase, sends_by, chosen_by, Allocation, phase_granted, with_grant, some_below, union_from, lane_heads, lane_ready, least, below_fits, standing, union-members, ShowsPorts, Surroundings, Layout, ArePicked}
use Rattle.noc_theory_bits.proofs.routers.ChosenLemmas.{IsStill, ShowsChosen}
use Rattle.noc_theory_bits.proofs.routers.MoveLemmas.{AreMoving, IsTaken, bit-is, moved-is, mover-is, taken-is}

-- ---- unions
pub some-found : (n : ℕ) (test : ℕ → Bool) → some_below n test ≡ true → (q : ℕ) × (q < n) × (test q ≡ true)
some-found zero test e = absurd (false≢true e)
some-found (suc n) test e = at (some_below n test) refl (some-found n test)
  where
    at : (b : Bool) → some_below n test ≡ b → (some_below n test ≡ true → (q : ℕ) × (q < n) × (test q ≡ true)) → (q : ℕ) × (q < suc n) × (test q ≡ true)
    at true h before = let t = before h in (t.0, let l = t.1 in omega (arith, l), t.2)
    at false h before = (n, omega arith, sym (ap (λ b. b || test n) h) ∙ e)

unnot : (b : Bool) → not b ≡ true → b ≡ false
unnot true e = absurd (false≢true e)
unnot false e = refl

module _ {count : ℕ} (relation : Routes) (layout : Layout) (x : Surroundings) (v : View) (still : IsStill relation layout x v) (a b : Allocation) (outs : ℕ)
    (shows : IsColumn count a.column a.marks v)
    (picks : ArePicked v.site.vcs (ports v.site.grid) (lane_ready x.filled a.column) a.column.ahead x.picked) (put : ShowsChosen relation x.filled a b outs v) where
  abbrev pub picked : ℕ
  picked = x.picked

  abbrev pub sel : ℕ → ℕ
  sel q = chosen_by picked b.marks q

  -- ---- who is picked
  pub picked-below : MembersAreBelow (size_of v.site) picked
  picked-below k e =
      (standing count a.column v x.filled shows.words shows.channels still.filled).ready_below k
      (picks.among k e)

  pub small : (set : ℕ) → MembersAreBelow (size_of v.site) set → set < 2 ^ 64
  small set below = let few = still.few in omega (arith, below_fits (size_of v.site) set below, pow_below (size_of v.site) 64 (omega (arith, few)))

  pub picked-is : (k : ℕ) → k < size_of v.site → has_bit picked k ≡ true
      → (is_active (view_input v k).phase ≡ true) × (is_empty (view_buffer v k) ≡ false) × (is_supplied v.outputs (view_input v k).phase ≡ true)
  picked-is k l e =
      let ready : has_bit (lane_ready x.filled a.column) k ≡ true = picks.among k e in
      let parts = and_parts (is_active (view_input v k).phase) (not (is_empty (view_buffer v k)) && is_supplied v.outputs (view_input v k).phase)
      (sym ((standing count a.column v x.filled shows.words shows.channels still.filled).ready k l) ∙ ready) in
      let both = and_parts (not (is_empty (view_buffer v k))) (is_supplied v.outputs (view_input v k).phase) parts.1 in
      (parts.0, unnot (is_empty (view_buffer v k)) both.0, both.1)

  pub head-is : (k : ℕ) → k < size_of v.site → has_bit (lane_heads x.filled a.column) k ≡ (is_idle_phase (view_input v k).phase && not (is_empty (view_buffer v k)))
  head-is = (standing count a.column v x.filled shows.words shows.channels still.filled).heads

  -- ---- an active channel after the grants
  pub active-granted : (k o : ℕ) → (view_input v k).phase ≡ Active o → phase_granted v k ≡ Active o
  active-granted k o e = ap (λ (p : InputState). with_grant (view_round v).grants (ask_of (claim_in v p)) k p) e

  pub active-headless : (k o : ℕ) → k < size_of v.site → (view_input v k).phase ≡ Active o → has_bit (lane_heads x.filled a.column) k ≡ false
  active-headless k o l e = head-is k l ∙ ap (λ (p : InputState). is_idle_phase p && not (is_empty (view_buffer v k))) e

  pub taken-shows : (i o : ℕ) → i < size_of v.site → (view_input v i).phase ≡ Active o → b.marks.taken i ≡ 2 ^ o
  taken-shows i o l e = subst (λ (p : InputState). Shows p) (active-granted i o e) (put.phases i l (active-headless i o l e))
    where
      Shows : InputState → Type 0
      Shows p = ShowsPhase b.column b.marks v.site i p

  -- ---- what the switch goes by
  pointers-at : (q : ℕ) → q < ports v.site.grid → slice_index (pointers_of v.arbiters.outputs) q ≡ (arbiter_at v.arbiters.outputs q).pointer
  pointers-at q lq = let long = still.arbiters.outputs.count in get_or-map (λ (t : RoundRobin). t.pointer) v.arbiters.outputs q (record { size = 0; pointer = 0 }) 0 (omega (arith, lq, long))

  port-of : (k : ℕ) → k < size_of v.site → k / v.site.vcs < ports v.site.grid
  port-of k l = div_below k v.site.vcs (ports v.site.grid) still.size.some l

  within : (k : ℕ) → k / v.site.vcs < ports v.site.grid → k < size_of v.site
  within k l =
      let m : k / v.site.vcs * v.site.vcs + k % v.site.vcs < v.site.vcs * ports v.site.grid = mul-add-lt (k / v.site.vcs) v.site.vcs (k % v.site.vcs) (ports v.site.grid) l (mod_below k v.site.vcs still.size.some) in
      let e : k / v.site.vcs * v.site.vcs + k % v.site.vcs ≡ k = div-add-mod' k v.site.vcs in
      omega arith

  ports-show : (q : ℕ) → q < ports v.site.grid → ShowsPorts v.site.vcs (ports v.site.grid) (a.marks.port_turn q) (arbiter_at v.arbiters.outputs q).pointer
  ports-show q lq = from (shows.turns.outputs q 0 lq first)
    where
      first : 0 < size_of v.site
      first = let m : 0 * v.site.vcs + 0 < v.site.vcs * ports v.site.grid = mul-add-lt 0 v.site.vcs 0 (ports v.site.grid) (omega arith) still.size.some in omega (arith, m)

      from : (has_bit (a.marks.port_turn q) 0 ≡ nat_le (arbiter_at v.arbiters.outputs q).pointer (0 / v.site.vcs))
          ⊎ (((arbiter_at v.arbiters.outputs q).pointer ≡ 0) × ((k : ℕ) → k < size_of v.site → has_bit (a.marks.port_turn q) k ≡ false))
          → ShowsPorts v.site.vcs (ports v.site.grid) (a.marks.port_turn q) (arbiter_at v.arbiters.outputs q).pointer
      from (inr none) = inr (none.0, λ k l. none.1 k (within k l))
      from (inl is) = inl (λ k l. each k (within k l) (shows.turns.outputs q k lq (within k l)))
        where
          each : (k : ℕ) → k < size_of v.site
              → (has_bit (a.marks.port_turn q) k ≡ nat_le (arbiter_at v.arbiters.outputs q).pointer (k / v.site.vcs))
              ⊎ (((arbiter_at v.arbiters.outputs q).pointer ≡ 0) × ((i : ℕ) → i < size_of v.site → has_bit (a.marks.port_turn q) i ≡ false))
              → has_bit (a.marks.port_turn q) k ≡ nat_le (arbiter_at v.arbiters.outputs q).pointer (k / v.site.vcs)
          each k l (inl e) = e
          each k l (inr none) = absurd (false≢true (sym (none.1 0 first) ∙ is ∙ ap (λ p. nat_le p (0 / v.site.vcs)) none.0 ∙ le-leb 0 (0 / v.site.vcs) (omega arith)))

  pub moving : AreMoving v picked b.marks.to_port b.marks.port_turn
  moving = record {
    some_vc = still.size.some;
    fits = small picked picked-below;
    below = picked-below;
    draws = draws count a.column v x.filled shows.words shows.channels still.filled x.picked still.size.some picks shows.turns.inputs still.arbiters.inputs.pointers still.arbiters.inputs.count;
    to_port = λ q k lq l e. put.to_port q k lq l ∙ ap (sends_by v.site.vcs q) (kept k (view_input v k).phase refl (picked-is k l e).0);
    pointers = λ q lq. subst (λ p. p < ports v.site.grid) (sym (pointers-at q lq)) (still.arbiters.outputs.pointers q lq);
    turns = λ q lq. subst (λ p. ShowsPorts v.site.vcs (ports v.site.grid) (b.marks.port_turn q) p) (sym (pointers-at q lq))
        (subst (λ (turn : ℕ → ℕ). ShowsPorts v.site.vcs (ports v.site.grid) (turn q) (arbiter_at v.arbiters.outputs q).pointer) (sym put.port_turn) (ports-show q lq));
    within = still.tidy.owned_below;
  }
    where
      kept : (k : ℕ) (p : InputState) → (view_input v k).phase ≡ p → is_active (view_input v k).phase ≡ true → phase_granted v k ≡ (view_input v k).phase
      kept k Idle e active = absurd (false≢true (sym (ap is_active e) ∙ active))
      kept k (Waiting set) e active = absurd (false≢true (sym (ap is_active e) ∙ active))
      kept k (Active o) e active = active-granted k o e ∙ sym e

  -- ---- the channels that the ports choose
  -- by port, whether one is chosen there
  pub chosen-bit : (q : ℕ) → q < ports v.site.grid → (k : ℕ) → has_bit (sel q) k ≡ ((has_bit picked k && has_bit (b.marks.to_port q) k) && is_some_of (slice_index_or (view_round v).wins q None) (k / v.site.vcs))
  chosen-bit q lq k = bit-is v picked b.marks.to_port b.marks.port_turn moving q lq k

  pub chosen-picked : (q : ℕ) → q < ports v.site.grid → (k : ℕ) → has_bit (sel q) k ≡ true → has_bit picked k ≡ true
  chosen-picked q lq k e =
      (and_parts (has_bit picked k) (has_bit (b.marks.to_port q) k)
      (and_parts (has_bit picked k && has_bit (b.marks.to_port q) k) (is_some_of (slice_index_or (view_round v).wins q None) (k / v.site.vcs)) (sym (chosen-bit q lq k) ∙ e)).0).0

  pub chosen-below : (q : ℕ) → q < ports v.site.grid → MembersAreBelow (size_of v.site) (sel q)
  chosen-below q lq k e = picked-below k (chosen-picked q lq k e)

  -- all that move
  abbrev pub all_moved : ℕ
  all_moved = union_from 0 (ports v.site.grid) (chosen_by picked b.marks)

  pub moved-found : (k : ℕ) → has_bit all_moved k ≡ true
      → (q : ℕ) × (q < ports v.site.grid) × (has_bit (sel q) k ≡ true)
  moved-found k e =
      some-found (ports v.site.grid) (λ q. has_bit (sel q) k)
      (sym (union-members 0 (ports v.site.grid) (chosen_by picked b.marks) k
      ∙ ap (λ p. p || some_below (ports v.site.grid) (λ q. has_bit (sel q) k)) (has_bit-zero k)) ∙ e)

  pub moved-below : MembersAreBelow (size_of v.site) all_moved
  moved-below k e = let t = moved-found k e in chosen-below t.0 t.1 k t.2

  pub moved-picked : (k : ℕ) → has_bit all_moved k ≡ true
      → has_bit picked k ≡ true
  moved-picked k e = let t = moved-found k e in chosen-picked t.0 t.1 k t.2

  -- the flits that move are those that the round moves
  pub moved-won : (k : ℕ) → k < size_of v.site → has_bit all_moved k
      ≡ (has_bit picked k && is_won_from v (view_round v) k (view_input v k).phase)
  moved-won k l =
      (moved-is v picked b.marks.to_port b.marks.port_turn moving).each k l
      ∙ ap (λ p. p && is_won_from v (view_round v) k (view_input v k).phase) (sym (moving.draws k l))

  -- one moves by the port to which it sends
  pub chosen-is : (q k : ℕ) → q < ports v.site.grid → k < size_of v.site → has_bit (sel q) k
      ≡ (has_bit all_moved k && sends_by v.site.vcs q (view_input v k).phase)
  chosen-is q k lq l = at (has_bit picked k) refl (view_input v k).phase refl
    where
      Is : Type 0
      Is = has_bit (sel q) k ≡ (has_bit all_moved k && sends_by v.site.vcs q (view_input v k).phase)

      none : (p : Bool) → (p && false) ≡ false
      none true = refl
      none false = refl

      -- where it sends by no such port
      elsewhere : has_bit picked k ≡ true → sends_by v.site.vcs q (view_input v k).phase ≡ false → Is
      elsewhere here off =
          chosen-bit q lq k
          ∙ ap₂ (λ p t. (p && t) && is_some_of (slice_index_or (view_round v).wins q None) (k / v.site.vcs)) here (moving.to_port q k lq l here ∙ off)
          ∙ sym (ap (λ s. has_bit all_moved k && s) off
          ∙ none (has_bit all_moved k))

      at : (p : Bool) → has_bit picked k ≡ p → (s : InputState) → (view_input v k).phase ≡ s → Is
      at false ep s es =
          chosen-bit q lq k ∙ ap (λ p. (p && has_bit (b.marks.to_port q) k) && is_some_of (slice_index_or (view_round v).wins q None) (k / v.site.vcs)) ep
          ∙ sym (ap (λ m. m && sends_by v.site.vcs q (view_input v k).phase) (moved-won k l ∙ ap (λ p. p && is_won_from v (view_round v) k (view_input v k).phase) ep))
      at true ep Idle es = elsewhere ep (ap (sends_by v.site.vcs q) es)
      at true ep (Waiting set) es = elsewhere ep (ap (sends_by v.site.vcs q) es)
      at true ep (Active o) es = by (cases_eq (o / v.site.vcs) q)
        where
          by : (o / v.site.vcs ≡ q) ⊎ (o / v.site.vcs ≢ q) → Is
          by (inr other) = elsewhere ep (ap (sends_by v.site.vcs q) es ∙ ne_eqb (o / v.site.vcs) q other)
          by (inl same) =
              let sends : sends_by v.site.vcs q (view_input v k).phase ≡ true = ap (sends_by v.site.vcs q) es ∙ eq-eqb (o / v.site.vcs) q same in
              chosen-bit q lq k
              ∙ ap₂ (λ p t. (p && t) && is_some_of (slice_index_or (view_round v).wins q None) (k / v.site.vcs)) ep (moving.to_port q k lq l ep ∙ sends)
              ∙ sym (ap₂ (λ m s. m && s) (moved-won k l ∙ ap₂ (λ p (t : InputState). p && is_won_from v (view_round v) k t) ep es) sends
              ∙ alone (is_some_of (slice_index_or (view_round v).wins (o / v.site.vcs) None) (k / v.site.vcs))
              ∙ ap (λ n. is_some_of (slice_index_or (view_round v).wins n None) (k / v.site.vcs)) same)
            where
              alone : (p : Bool) → (p && true) ≡ p
              alone true = refl
              alone false = refl

  -- ---- an output channel by which a flit moves
  pub mover-at : (i o : ℕ) → i < size_of v.site → has_bit all_moved i ≡ true
      → (view_input v i).phase ≡ Active o → mover_to v (view_round v) o ≡ Some i
  mover-at i o l moves e =
      ap (λ (m : Option ℕ). option_and_then (λ j. if is_some_of (out_of (view_claim v j)) o then Some j else None) m)
      (mover-is v picked b.marks.to_port b.marks.port_turn moving (o / v.site.vcs) lq ∙ ap (λ n. if n then None else Some (least (sel (o / v.site.vcs)))) (ne_eqb (sel (o / v.site.vcs)) 0 some) ∙ ap Some (sym lead))
      ∙ ap (λ (s : InputState). if is_some_of (out_of (claim_in v s)) o then Some i else None) e
      ∙ ap (λ n. if n then Some i else None) (eq-eqb o o refl)
    where
      lq : o / v.site.vcs < ports v.site.grid
      lq = port-of o (still.tidy.owned_below i o l e)

      member : has_bit (sel (o / v.site.vcs)) i ≡ true
      member = chosen-is (o / v.site.vcs) i lq l ∙ ap₂ (λ m s. m && s) moves (ap (sends_by v.site.vcs (o / v.site.vcs)) e ∙ eq-eqb (o / v.site.vcs) (o / v.site.vcs) refl)

      some : sel (o / v.site.vcs) ≢ 0
      some z = true≢false (sym member ∙ ap (λ n. has_bit n i) z ∙ has_bit-zero i)

      lead : i ≡ least (sel (o / v.site.vcs))
      lead = eqb-true i (least (sel (o / v.site.vcs)))
          (sym ((taken-is v picked b.marks.to_port b.marks.port_turn moving (o / v.site.vcs) lq some).alone i) ∙ member)

  -- who moves a flit to an output channel
  pub record Sender (o i : ℕ) : Type 0 where
    pub channel : i < size_of v.site
    pub moves : has_bit all_moved i ≡ true
    pub phase : (view_input v i).phase ≡ Active o

  pub mover-from : (o i : ℕ) → o < size_of v.site → mover_to v (view_round v) o ≡ Some i → Sender o i
  mover-from o i l e = at (cases_eq (sel (o / v.site.vcs)) 0)
    where
      To : Option ℕ → Option ℕ
      To m = option_and_then (λ j. if is_some_of (out_of (view_claim v j)) o then Some j else None) m

      mover : mover_to v (view_round v) o ≡ To (if nat_eq (sel (o / v.site.vcs)) 0 then None else Some (least (sel (o / v.site.vcs))))
      mover = ap To (mover-is v picked b.marks.to_port b.marks.port_turn moving (o / v.site.vcs) (port-of o l))

      at : (sel (o / v.site.vcs) ≡ 0) ⊎ (sel (o / v.site.vcs) ≢ 0) → Sender o i
      at (inl none) =
          absurd (false≢true (ap is_some (sym (mover ∙ ap (λ n. To (if n then None else Some (least (sel (o / v.site.vcs))))) (eq-eqb (sel (o / v.site.vcs)) 0 none)) ∙ e)))
      at (inr some) = by one.out one.phase
          (sym (mover ∙ ap (λ n. To (if n then None else Some (least (sel (o / v.site.vcs))))) (ne_eqb (sel (o / v.site.vcs)) 0 some)
          ∙ ap (λ (s : InputState). if is_some_of (out_of (claim_in v s)) o then Some (least (sel (o / v.site.vcs))) else None) one.phase) ∙ e)
          (cases_eq one.out o)
        where
          one : IsTaken v (o / v.site.vcs) (sel (o / v.site.vcs)) (least (sel (o / v.site.vcs)))
          one = taken-is v picked b.marks.to_port b.marks.port_turn moving (o / v.site.vcs) (port-of o l) some

          by : (p : ℕ) → (view_input v (least (sel (o / v.site.vcs)))).phase ≡ Active p
              → (if nat_eq p o then Some (least (sel (o / v.site.vcs))) else None) ≡ Some i → (p ≡ o) ⊎ (p ≢ o) → Sender o i
          by p phase is (inr other) = absurd (false≢true (ap is_some (sym (ap (λ n. if n then Some (least (sel (o / v.site.vcs))) else None) (ne_eqb p o other)) ∙ is)))
          by p phase is (inl same) =
              let i-is : Some (least (sel (o / v.site.vcs))) ≡ Some i = sym (ap (λ n. if n then Some (least (sel (o / v.site.vcs))) else None) (eq-eqb p o same)) ∙ is in
              let j-is : least (sel (o / v.site.vcs)) ≡ i = cc in
              subst (λ j. Sender o j) j-is
              (record {
                channel = one.channel;
                moves = (and_parts (has_bit all_moved (least (sel (o / v.site.vcs))))
                    (sends_by v.site.vcs (o / v.site.vcs) (view_input v (least (sel (o / v.site.vcs)))).phase)
                    (sym (chosen-is (o / v.site.vcs) (least (sel (o / v.site.vcs))) (port-of o l) one.channel) ∙ one.alone (least (sel (o / v.site.vcs))) ∙ eq-eqb _ _ refl)).0;
                phase = phase ∙ ap Active same;
              })
