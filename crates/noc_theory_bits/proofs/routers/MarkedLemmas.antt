-- The marks of a router after a cycle show its view after it.
use Rattle.std.proofs.Common.{◌≡◌, ℕ, ◌<◌, Bool, true, false, Option, Some, None, refl, ap, ap₂, sym, ◌∙◌, subst}
use Rattle.std.specs.Prelude.{◌&&◌, not, is_some, slice_index_or, if◌then◌else◌}
use Rattle.noc_vc.specs.Output.{output_after_spend, output_without_credit}
use Rattle.noc_vc.specs.declared.output.OutputState.TheVariants.{Idle as Free}
use Rattle.noc_view.specs.View.{held_by, spent_by}
use Rattle.noc_theory_bits.proofs.Common.{eq-eqb, true≢false, is_some_of, ports, has_bit, Routes, is_given, is_empty, is_idle_phase, Output, InputState, Idle, Waiting, Active, OutputState, Owned, Draining, ask_of, Site, View, size_of, view_buffer, view_claim, claim_in, view_input, view_output, view_round, first_flit, is_tail, mover_to, decisions_of, view_after_commit, route_of, Column, IsColumn, RouterMarks, ShowsHolder, ShowsMarks, ShowsPhase, sends_by, HasSwitched, single_in, Allocation, phase_granted, with_grant, Effects, lane_heads, settled_lane, lane_ready, Surroundings, Layout, ArePicked}
use Rattle.noc_theory_bits.proofs.routers.ChosenLemmas.{IsStill, ShowsChosen, phase-as}
use Rattle.noc_theory_bits.proofs.routers.CommittedLemmas.{packet-committed}
use Rattle.noc_theory_bits.proofs.routers.FateLemmas.{Fate, Leaves, Gets, Rests, fate, output-by, Sends, Begins}
use Rattle.noc_theory_bits.proofs.routers.SettleLemmas.{committed-site}
use Rattle.noc_theory_bits.proofs.routers.SettlingLemmas.{granted-is, moves-picked, says-out, tail-is}
use Rattle.noc_theory_bits.proofs.routers.SwitchedLemmas.{active-granted, active-headless, chosen-is, head-is}

-- the parts of what marks show, for a site
record MarksIn (site : Site) (c : Column) (m : RouterMarks) (v : View) : Type 0 where
  phases : (i : ℕ) → i < size_of site → ShowsPhase c m site i (view_input v i).phase
  holders : (o : ℕ) → o < size_of site → ShowsHolder m o (view_output v o).holder
  packets : (i : ℕ) → i < size_of site → is_idle_phase (view_input v i).phase ≡ false → (view_input v i).packet ≡ Some (m.packet i)
  to_port : (q i : ℕ) → q < ports site.grid → i < size_of site → has_bit (m.to_port q) i ≡ sends_by site.vcs q (view_input v i).phase

shows-marks : (c : Column) (m : RouterMarks) (v : View) → MarksIn v.site c m v → ShowsMarks c m v
shows-marks c m v parts = record { phases = parts.phases; holders = parts.holders; packets = parts.packets; to_port = parts.to_port }

holder-as : (m w : RouterMarks) (o : ℕ) (h : OutputState) → w.owner o ≡ m.owner o → ShowsHolder m o h → ShowsHolder w o h
holder-as m w o Free e is = tt
holder-as m w o (Owned i p) e is = e ∙ is
holder-as m w o Draining e is = tt

holder-spent : (m : RouterMarks) (o : ℕ) (last : Bool) (output : Output) → ShowsHolder m o output.holder → ShowsHolder m o (output_after_spend last output).holder
holder-spent m o last output is = at output.credit last
  where
    at : (credit : Option ℕ) (t : Bool) → ShowsHolder m o (output_without_credit t output credit).holder
    at None true = tt
    at None false = is
    at (Some n) true = tt
    at (Some n) false = is

left-off : (s : Bool) → (s && not ((true && s) && true)) ≡ false
left-off true = refl
left-off false = refl

left-on : (s : Bool) → (s && not ((true && s) && false)) ≡ s
left-on true = refl
left-on false = refl

kept-on : (s t : Bool) → (s && not (false && t)) ≡ s
kept-on true t = refl
kept-on false t = refl

module _ {count : ℕ} (relation : Routes) (layout : Layout) (x : Surroundings) (v : View) (still : IsStill relation layout x v) (a b : Allocation) (outs : ℕ)
    (shows : IsColumn count a.column a.marks v)
    (picks : ArePicked v.site.vcs (ports v.site.grid) (lane_ready x.filled a.column) a.column.ahead x.picked) (put : ShowsChosen relation x.filled a b outs v) (w : RouterMarks) (e : Effects) (supplied : ℕ)
    (switched : HasSwitched v.site.vcs (ports v.site.grid) x.picked (single_in layout.links a.column) x.tail b.marks w e b.column.supplied supplied)
    (heads_are : e.heads ≡ lane_heads x.filled a.column) (granted_are : e.granted ≡ b.granted) where
  -- the column after the cycle
  abbrev pub column_after : Column
  column_after = settled_lane x.ahead layout.links layout.local e (record b.column { supplied = supplied })

  abbrev sw : HasSwitched v.site.vcs (ports v.site.grid) x.picked (single_in layout.links a.column) x.tail b.marks w e b.column.supplied supplied
  sw = switched

  -- ---- phases
  phase-kept : (i : ℕ) (p : InputState) → ShowsPhase b.column b.marks v.site i p → ShowsPhase column_after w v.site i p
  phase-kept i p is =
      phase-as b.column column_after b.marks w v.site i p (ap (λ (m : RouterMarks). m.set i) sw.rest) (ap (λ (m : RouterMarks). m.taken i) sw.rest) (λ o h. h) is

  granted-phase : (i o : ℕ) → ask_of (view_claim v i) ≡ Some o → slice_index_or (view_round v).grants o None ≡ Some i → phase_granted v i ≡ Active o
  granted-phase i o ask round =
      ap (λ (y : Option ℕ). with_grant (view_round v).grants y i (view_input v i).phase) ask
      ∙ ap (λ (g : Option ℕ). if is_some_of g i then Active o else (view_input v i).phase) round
      ∙ ap (λ t. if t then Active o else (view_input v i).phase) (eq-eqb i i refl)

  same-phase : (i : ℕ) → i < size_of v.site → has_bit e.granted i ≡ false → phase_granted v i ≡ (view_input v i).phase
  same-phase i l eg = at (ask_of (view_claim v i)) (sym (granted-is relation layout x v still a b outs shows picks put w e supplied switched heads_are granted_are i l) ∙ eg)
    where
      at : (ask : Option ℕ) → is_given (view_round v).grants ask i ≡ false → with_grant (view_round v).grants ask i (view_input v i).phase ≡ (view_input v i).phase
      at None h = refl
      at (Some o) h = ap (λ t. if t then Active o else (view_input v i).phase) h

  headless : (i : ℕ) → has_bit e.heads i ≡ false → has_bit (lane_heads x.filled a.column) i ≡ false
  headless i eh = ap (λ n. has_bit n i) (sym heads_are) ∙ eh

  waiting-headless : (i set : ℕ) → i < size_of v.site → (view_input v i).phase ≡ Waiting set → has_bit (lane_heads x.filled a.column) i ≡ false
  waiting-headless i set l ep = head-is relation layout x v still a b outs shows picks put i l ∙ ap (λ (p : InputState). is_idle_phase p && not (is_empty (view_buffer v i))) ep

  phases-after : (i : ℕ) → i < size_of v.site → ShowsPhase column_after w v.site i (view_input (view_after_commit (decisions_of relation v) v) i).phase
  phases-after i l = by (fate relation layout x v still a b outs shows picks put w e supplied switched heads_are granted_are i l)
    where
      To : InputState → Type 0
      To p = ShowsPhase column_after w v.site i p

      by : Fate v (view_after_commit (decisions_of relation v) v) e (route_of relation v i) i → To (view_input (view_after_commit (decisions_of relation v) v) i).phase
      by (Leaves o em et ep ew) = subst To (sym ew) tt
      by (Sends o em et ep ew) =
          subst To (sym ew) (phase-kept i (Active o) (subst (ShowsPhase b.column b.marks v.site i) (active-granted relation layout x v still a b outs shows picks put i o ep)
          (put.phases i l (active-headless relation layout x v still a b outs shows picks put i o l ep))))
      by (Gets o set em eg ep ask round ew) =
          subst To (sym ew) (phase-kept i (Active o) (subst (ShowsPhase b.column b.marks v.site i) (granted-phase i o ask round) (put.phases i l (waiting-headless i set l ep))))
      by (Begins em eg eh ep ew) = subst To (sym ew) (phase-kept i (Waiting (route_of relation v i)) (put.routed i l (ap (λ n. has_bit n i) (sym heads_are) ∙ eh)))
      by (Rests em eg eh same) =
          subst To (sym same) (phase-kept i (view_input v i).phase (subst (ShowsPhase b.column b.marks v.site i) (same-phase i l eg) (put.phases i l (headless i eh))))

  -- ---- holders
  holders-after : (o : ℕ) → o < size_of v.site → ShowsHolder w o (view_output (view_after_commit (decisions_of relation v) v) o).holder
  holders-after o l = by (slice_index_or (view_round v).grants o None) refl (mover_to v (view_round v) o) refl
    where
      To : Output → Type 0
      To output = ShowsHolder w o output.holder

      After : Option ℕ → Option ℕ → Output
      After grant mover = spent_by v (held_by v (view_output v o) grant) mover

      is : (grant mover : Option ℕ) → slice_index_or (view_round v).grants o None ≡ grant → mover_to v (view_round v) o ≡ mover
          → view_output (view_after_commit (decisions_of relation v) v) o ≡ After grant mover
      is grant mover eg em = output-by relation layout x v still a b outs shows picks put w e supplied switched heads_are granted_are o grant mover l eg em

      owner : w.owner o ≡ b.marks.owner o
      owner = ap (λ (m : RouterMarks). m.owner o) sw.rest

      by : (grant : Option ℕ) → slice_index_or (view_round v).grants o None ≡ grant → (mover : Option ℕ) → mover_to v (view_round v) o ≡ mover → To (view_output (view_after_commit (decisions_of relation v) v) o)
      by None eg None em = subst To (sym (is None None eg em)) (holder-as a.marks w o (view_output v o).holder (owner ∙ put.others o l eg) (shows.marks.holders o l))
      by None eg (Some i) em =
          subst To (sym (is None (Some i) eg em)) (holder-spent w o (is_tail (first_flit v i)) (view_output v o) (holder-as a.marks w o (view_output v o).holder (owner ∙ put.others o l eg) (shows.marks.holders o l)))
      by (Some k) eg None em = subst To (sym (is (Some k) None eg em)) (owner ∙ put.owners o k l eg)
      by (Some k) eg (Some i) em =
          absurd (true≢false (ap is_some (sym em ∙ ((says-out relation layout x v still a b outs shows picks put w e supplied switched heads_are granted_are o l).free (ap is_some eg)).1)))

  -- ---- packets
  packets-after : (i : ℕ) → i < size_of v.site → is_idle_phase (view_input (view_after_commit (decisions_of relation v) v) i).phase ≡ false
      → (view_input (view_after_commit (decisions_of relation v) v) i).packet ≡ Some (w.packet i)
  packets-after i l busy =
      packet-committed (decisions_of relation v) v still.size i l busy ∙ by (has_bit e.heads i) refl ∙ ap Some (sym (ap (λ (m : RouterMarks). m.packet i) sw.rest))
    where
      by : (h : Bool) → has_bit e.heads i ≡ h → (view_input v i).packet ≡ Some (b.marks.packet i)
      by true eh = put.numbers i l (ap (λ n. has_bit n i) (sym heads_are) ∙ eh)
      by false eh =
          shows.marks.packets i l (was (fate relation layout x v still a b outs shows picks put w e supplied switched heads_are granted_are i l)) ∙ ap (λ (p : ℕ → ℕ). Some (p i)) (sym put.packets)
        where
          was : Fate v (view_after_commit (decisions_of relation v) v) e (route_of relation v i) i → is_idle_phase (view_input v i).phase ≡ false
          was (Leaves o em et ep ew) = absurd (true≢false (ap is_idle_phase (sym ew) ∙ busy))
          was (Sends o em et ep ew) = ap is_idle_phase ep
          was (Gets o set em eg ep ask round ew) = ap is_idle_phase ep
          was (Begins em eg head ep ew) = absurd (true≢false (sym head ∙ eh))
          was (Rests em eg head same) = ap is_idle_phase (sym same) ∙ busy

  -- ---- who sends by a port
  ports-after : (q i : ℕ) → q < ports v.site.grid → i < size_of v.site → has_bit (w.to_port q) i ≡ sends_by v.site.vcs q (view_input (view_after_commit (decisions_of relation v) v) i).phase
  ports-after q i lq l = sw.to_port q i lq l
      ∙ ap₂ (λ s c. s && not (c && x.tail i)) (put.to_port q i lq l)
      (chosen-is relation layout x v still a b outs shows picks put q i lq l ∙ ap (λ n. has_bit n i && sends_by v.site.vcs q (view_input v i).phase) (sym sw.moved))
      ∙ by (fate relation layout x v still a b outs shows picks put w e supplied switched heads_are granted_are i l)
    where
      Left : InputState → Bool → InputState → Bool → Bool
      Left granted moved phase tail = sends_by v.site.vcs q granted && not ((moved && sends_by v.site.vcs q phase) && tail)

      tail : has_bit e.moved i ≡ true → x.tail i ≡ is_tail (first_flit v i)
      tail em = tail-is relation layout x v still a b outs shows picks put w e supplied switched heads_are granted_are i l (moves-picked relation layout x v still a b outs shows picks put w e supplied switched heads_are granted_are i em)

      -- one that moves
      gone : (o : ℕ) (t : Bool) → has_bit e.moved i ≡ true → is_tail (first_flit v i) ≡ t → (view_input v i).phase ≡ Active o
          → Left (phase_granted v i) (has_bit e.moved i) (view_input v i).phase (x.tail i) ≡ (sends_by v.site.vcs q (Active o) && not ((true && sends_by v.site.vcs q (Active o)) && t))
      gone o t em et ep =
          ap₂ (λ g m. Left g m (view_input v i).phase (x.tail i)) (active-granted relation layout x v still a b outs shows picks put i o ep) em
          ∙ ap₂ (λ p y. Left (Active o) true p y) ep (tail em ∙ et)

      -- one that does not move
      stays : (p : InputState) → has_bit e.moved i ≡ false → phase_granted v i ≡ p → Left (phase_granted v i) (has_bit e.moved i) (view_input v i).phase (x.tail i) ≡ sends_by v.site.vcs q p
      stays p em eg = ap₂ (λ g m. Left g m (view_input v i).phase (x.tail i)) eg em ∙ kept-on (sends_by v.site.vcs q p) (x.tail i)

      idle-granted : (view_input v i).phase ≡ Idle → phase_granted v i ≡ Idle
      idle-granted ep = ap (λ (p : InputState). with_grant (view_round v).grants (ask_of (claim_in v p)) i p) ep

      by : Fate v (view_after_commit (decisions_of relation v) v) e (route_of relation v i) i
          → Left (phase_granted v i) (has_bit e.moved i) (view_input v i).phase (x.tail i) ≡ sends_by v.site.vcs q (view_input (view_after_commit (decisions_of relation v) v) i).phase
      by (Leaves o em et ep ew) = gone o true em et ep ∙ left-off (sends_by v.site.vcs q (Active o)) ∙ sym (ap (sends_by v.site.vcs q) ew)
      by (Sends o em et ep ew) = gone o false em et ep ∙ left-on (sends_by v.site.vcs q (Active o)) ∙ sym (ap (sends_by v.site.vcs q) ew)
      by (Gets o set em eg ep ask round ew) = stays (Active o) em (granted-phase i o ask round) ∙ sym (ap (sends_by v.site.vcs q) ew)
      by (Begins em eg eh ep ew) = stays Idle em (idle-granted ep) ∙ sym (ap (sends_by v.site.vcs q) ew)
      by (Rests em eg eh same) = stays (view_input v i).phase em (same-phase i l eg) ∙ sym (ap (sends_by v.site.vcs q) same)

  pub marks-after : ShowsMarks (settled_lane x.ahead layout.links layout.local e (record b.column { supplied = supplied })) w (view_after_commit (decisions_of relation v) v)
  marks-after =
      shows-marks column_after w (view_after_commit (decisions_of relation v) v)
      (subst (λ site. MarksIn site column_after w (view_after_commit (decisions_of relation v) v)) (sym (committed-site (decisions_of relation v) v).0)
      (record { phases = phases-after; holders = holders-after; packets = packets-after; to_port = ports-after }))
