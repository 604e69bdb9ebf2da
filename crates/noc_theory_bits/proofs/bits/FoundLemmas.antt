-- What the words of a router find of a channel in a cycle is what its view finds.
use Rattle.std.proofs.Common.{◌≡◌, ◌≢◌, ℕ, suc, ◌/◌, ◌%◌, ◌^◌, ◌<◌, Bool, true, false, List, Option, Some, None, refl, ap, ap₂, sym, ◌∙◌, subst, arith, bit_or}
use Rattle.std.specs.Prelude.{◌&&◌, ◌||◌, not, option_map, slice_index_or, if◌then◌else◌}
use Rattle.noc_view.specs.VerdictSets.{verdict_by}
use Rattle.noc_view.specs.View.{port_and_vc}
use Rattle.noc_sets.specs.Counts.{verdict_sets}
use Rattle.noc_sets.specs.Found.{found_in, out_in, packet_in}
use Rattle.noc_sets.proofs.AskLemmas.{asked-is}
use Rattle.noc_theory_bits.proofs.Common.{eq-eqb, eqb-true, false≢true, local_port, nodes, ports, tabulate, get_or-tabulate, IsLeast, has_bit, Beat, either_members, has_bit-zero, Routes, is_active, is_empty, is_idle_phase, is_waiting, InputState, Idle, Waiting, Active, arrivals_after, is_expected_in, empty_finding, out_of, Site, View, claim_in, decisions_of, finding_of, flit_out, local_step, size_of, tail_packet, view_after_commit, view_after_inject, view_after_takes, view_buffer, view_claim, view_input, view_round, with_arrival, with_misfit, Finding, Verdict, CYCLE_LIMIT, IsGoodSetup, findings_before, view_at, view_in, Setup, size, Column, RouterMarks, ShowsPhase, IsColumn, lane_verdicts, HasDecided, Still, Allocation, asked_of, IsLayoutOf, Layout, Effects, least, Start, below_fits, least_is, power-members, verdicts, permitted}
use Rattle.noc_theory_bits.proofs.bits.CountedLemmas.{decides, fit, some-vcs, turns, was}
use Rattle.noc_theory_bits.proofs.bits.CycleLemmas.{packet-found, picks-there}
use Rattle.noc_theory_bits.proofs.bits.FreezeLemmas.{ShowsStill}
use Rattle.noc_theory_bits.proofs.network.NetworkLemmas.{beats, frozen-seen, frozen-tidy, frozen_view, next-count}

-- ---- what is found in a cycle is kept at the next count
arrival-findings : (p : Option ℕ) (w : View) → (with_arrival p w).findings ≡ w.findings
arrival-findings None w = refl
arrival-findings (Some p) w = at (is_expected_in p w.ends)
  where
    at : (b : Bool) → (if b then record w { ends = arrivals_after p w.given w.ends } else with_misfit w).findings ≡ w.findings
    at true = refl
    at false = refl

committed-findings : (relation : Routes) (v : View) → (view_after_commit (decisions_of relation v) v).findings ≡ tabulate (size_of v.site) (finding_of (view_round v) v)
unfolding view_after_commit decisions_of
committed-findings relation v = arrival-findings (tail_packet (flit_out v (view_round v) (local_port v.site.grid))) _

step-findings : (relation : Routes) (v : View) (row : List Beat) (n : ℕ)
    → (local_step relation v row n).0.findings
    ≡ tabulate (size_of (view_after_inject n (view_after_takes relation row v)).site) (finding_of (view_round (view_after_inject n (view_after_takes relation row v))) (view_after_inject n (view_after_takes relation row v)))
unfolding local_step
step-findings relation v row n = committed-findings relation (view_after_inject n (view_after_takes relation row v))

module _ (net : Setup) (setup : IsGoodSetup net) (n r : ℕ) (l : r < nodes net.relation.grid) (few : n < CYCLE_LIMIT) where
  kept : (view_at net (suc n) r).findings ≡ findings_before net (suc n) r
  unfolding view_at view_in
  kept = refl

  pub found-next : (i : ℕ) → i < size net → finding_of (view_round (frozen_view net setup n r l)) (frozen_view net setup n r l) i ≡ slice_index_or (findings_before net (suc n) r) i empty_finding
  found-next i u =
      let x : View = frozen_view net setup n r l in
      sym (get_or-tabulate (size_of x.site) i (finding_of (view_round x) x) empty_finding (subst (λ (s : Site). i < size_of s) (sym (frozen-seen net setup n r l).site) u))
      ∙ ap (λ (fs : List Finding). slice_index_or fs i empty_finding)
      (sym (step-findings net.relation (view_at net n r) (beats net setup n r l) n) ∙ ap (λ (v : View). v.findings) (next-count net setup n r l few) ∙ kept)

-- ---- by its words
power-some : (o : ℕ) → 2 ^ o ≢ 0
power-some o none = false≢true (sym (has_bit-zero o) ∙ ap (λ w. has_bit w o) (sym none) ∙ power-members o o ∙ eq-eqb o o refl)

power-least : (o : ℕ) → o < 64 → least (2 ^ o) ≡ o
power-least o k =
    let fits : 2 ^ o < 2 ^ 64 = below_fits 64 (2 ^ o) (λ j h. let same : j ≡ o = eqb-true j o (sym (power-members o j) ∙ h) in omega (arith, same, k)) in
    let found : IsLeast (has_bit (2 ^ o)) (Some (least (2 ^ o))) = least_is (2 ^ o) (let some = power-some o in omega (arith, some)) fits in
    eqb-true (least (2 ^ o)) o (sym (power-members o (least (2 ^ o))) ∙ found.0)

module _ {count : ℕ} (net : Setup) (setup : IsGoodSetup net) (n r : ℕ) (l : r < nodes net.relation.grid) (layout : Layout) (is_layout : IsLayoutOf count net.relation net.depth layout) (starts : List Start) (few : n < CYCLE_LIMIT)
    (s : Still) (shows : ShowsStill count net n r starts (frozen_view net setup n r l) s.column s.marks s.ended s.filled s.source)
    (a b : Allocation) (picked ahead : ℕ) (e : Effects) (c : Column) (w : RouterMarks) (ended : ℕ)
    (decided : HasDecided (ports net.relation.grid) net.relation.vcs layout (permitted net r) s a b picked ahead e c w ended) where
  abbrev x : View
  x = frozen_view net setup n r l

  module _ (i : ℕ) (u : i < size net) where
    within : i < size_of (frozen_view net setup n r l).site
    within = subst (λ (t : Site). i < size_of t) (sym (frozen-seen net setup n r l).site) u

    shown : IsColumn count a.column a.marks (frozen_view net setup n r l)
    shown = was net setup n r l layout is_layout starts few s shows a b picked ahead e c w ended decided

    waits : has_bit a.column.waiting i ≡ is_waiting (view_input x i).phase
    waits = (shown.channels.inputs i within).waiting

    owns : has_bit a.column.active i ≡ is_active (view_input x i).phase
    owns = (shown.channels.inputs i within).active

    -- its packet
    packet-is : packet_in s.filled a.column a.marks i ≡ (view_input x i).packet
    packet-is =
        ap (λ y. if y then Some (a.marks.packet i) else None) bit
        ∙ ap (λ (m : RouterMarks). if (is_waiting (view_input x i).phase || is_active (view_input x i).phase) || not (is_empty (view_buffer x i)) then Some (m.packet i) else None) decided.marks_were
        ∙ same (view_input x i).phase (is_empty (view_buffer x i)) ∙ sym (packet-found net setup n r l starts s.column s.marks s.ended s.filled s.source shows i within)
      where
        bit : has_bit (bit_or (bit_or a.column.waiting a.column.active) s.filled) i ≡ ((is_waiting (view_input x i).phase || is_active (view_input x i).phase) || not (is_empty (view_buffer x i)))
        bit =
            either_members (bit_or a.column.waiting a.column.active) s.filled i
            ∙ ap₂ (λ y z. y || z) (either_members a.column.waiting a.column.active i ∙ ap₂ (λ y z. y || z) waits owns) (shows.fill.each i within)

        same : (p : InputState) (y : Bool) → (if (is_waiting p || is_active p) || not y then Some (s.marks.packet i) else None) ≡ (if is_idle_phase p && y then None else Some (s.marks.packet i))
        same Idle true = refl
        same Idle false = refl
        same (Waiting set) y = refl
        same (Active o) y = refl

    -- its output channel
    out-is : out_in a.column a.marks i ≡ out_of (view_claim x i)
    out-is = at (view_input x i).phase refl
      where
        branch : Bool → Bool → Option ℕ
        branch y z = if y then asked_of a.column.idle (a.marks.set i) else if z then Some (least (a.marks.taken i)) else None

        at : (p : InputState) → (view_input x i).phase ≡ p → out_in a.column a.marks i ≡ out_of (view_claim x i)
        at Idle is = ap₂ branch (waits ∙ ap is_waiting is) (owns ∙ ap is_active is) ∙ sym (ap (λ (p : InputState). out_of (claim_in x p)) is)
        at (Waiting set) is =
            let phase = subst (λ (p : InputState). ShowsPhase a.column a.marks x.site i p) is (shown.marks.phases i within) in
            ap₂ branch (waits ∙ ap is_waiting is) (owns ∙ ap is_active is)
            ∙ ap (asked_of a.column.idle) phase.0
            ∙ sym (asked-is x a.column.idle set phase.1 shown.channels.idle_below (λ o k. (shown.channels.outputs o k).idle))
            ∙ sym (ap (λ (p : InputState). out_of (claim_in x p)) is)
        at (Active o) is =
            let phase = subst (λ (p : InputState). ShowsPhase a.column a.marks x.site i p) is (shown.marks.phases i within) in
            let below : o < size_of x.site = (frozen-tidy net setup n r l).owned_below i o within is in
            ap₂ branch (waits ∙ ap is_waiting is) (owns ∙ ap is_active is)
            ∙ ap (λ y. Some (least y)) phase ∙ ap Some (power-least o (let narrow = is_layout.few in let here = subst (λ (t : Site). o < size_of t) (frozen-seen net setup n r l).site below in omega (arith, here, narrow)))
            ∙ sym (ap (λ (p : InputState). out_of (claim_in x p)) is)

    verdict-is : verdict_by (verdict_sets (lane_verdicts s.filled picked e.heads e.granted b.lost e.moved a.column)) i ≡ (finding_of (view_round x) x i).verdict
    verdict-is =
        let turn = turns net setup n r l layout is_layout starts few s shows a b picked ahead e c w ended decided in
        let fits = fit net setup n r l layout is_layout starts few s shows a b picked ahead e c w ended decided in
        let are = decides net setup n r l layout is_layout starts few s shows a b picked ahead e c w ended decided in
        ap (λ h. verdict_by (verdict_sets (lane_verdicts s.filled picked h e.granted b.lost e.moved a.column)) i) decided.heads
        ∙ verdicts count a.column x s.filled shown.words shown.channels shows.fill picked (some-vcs net setup n r l layout is_layout starts few s shows a b picked ahead e c w ended decided)
        (picks-there net setup n r l layout is_layout starts few s shows a b picked ahead e c w ended decided) turn.ahead turn.pointers turn.arbiters e.granted b.lost e.moved fits.granted are.lost_fits fits.moved
        are.granted are.lost are.moved i within

    pub found-is : found_in net.relation.vcs (lane_verdicts s.filled picked e.heads e.granted b.lost e.moved a.column) s.filled a.column a.marks i
        ≡ finding_of (view_round (frozen_view net setup n r l)) (frozen_view net setup n r l) i
    found-is = same verdict-is packet-is (ap (option_map (λ o. (o / net.relation.vcs, o % net.relation.vcs))) out-is ∙ ap (λ (t : Site). option_map (port_and_vc t) (out_of (view_claim x i))) (sym (frozen-seen net setup n r l).site))
      where
        same : {v w : Verdict} {p q : Option ℕ} {o y : Option (ℕ × ℕ)} → v ≡ w → p ≡ q → o ≡ y → ◌≡◌ {A = Finding} (record { verdict = v; packet = p; out = o }) (record { verdict = w; packet = q; out = y })
        same ev ep eo = rw (ev, ep, eo) refl
