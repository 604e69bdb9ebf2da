-- The counts of a channel after one more cycle, and the last event.
use Rattle.std.proofs.Common.{◌≡◌, ℕ, ◌+◌, ◌-◌, ◌^◌, ◌<◌, ◌≤◌, Bool, true, false, List, [], ◌∷◌, length, Option, Some, None, sum, refl, ap, sym, ◌∙◌, subst, arith}
use Rattle.std.specs.Prelude.{find, nat_le, nat_lt, slice_index, slice_index_or, slice_set, if◌then◌else◌}
use Rattle.noc_view.specs.Verdict.{column}
use Rattle.noc_view.specs.VerdictSets.{verdict_by, sets_with}
use Rattle.noc_sets.specs.Counts.{with_verdicts, verdict_sets}
use Rattle.noc_sets.proofs.StandLemmas.{verdicts-apart}
use Rattle.noc_theory_bits.proofs.Common.{lt-ltb, local_port, ports, get_or-map_indexed, below, one_if, Beat, Packet, has_bit, Routes, is_expected_in, arrivals_after, Site, View, Decisions, size_of, counts_after, view_after_commit, decisions_of, view_after_inject, view_after_inject_from, with_injected, begun_on, is_vacant, local_channel, view_buffer, view_after_takes, local_step, decided_verdict, with_arrival, with_misfit, tail_packet, flit_out, Verdict, nine_counts, ten_counts, ShowsCounts, ByVerdict, lane_verdicts, Column, AreWords, ShowsChannels, Effects, lane_heads, lane_ready, AreEffects, verdict_of_bits, AreFilled, verdicts, ArePicked}
use Rattle.noc_theory_bits.proofs.routers.CommittedLemmas.{verdict-planned}
use Rattle.noc_theory_bits.proofs.routers.DecideLemmas.{AreDecided, HasTurns}
use Rattle.noc_theory_bits.proofs.routers.SettleLemmas.{committed-site}

pub ten-same : (a b c d e f g h i j x0 x1 x2 x3 x4 x5 x6 x7 x8 x9 : ℕ) → a ≡ x0 → b ≡ x1 → c ≡ x2 → d ≡ x3 → e ≡ x4 → f ≡ x5 → g ≡ x6 → h ≡ x7 → i ≡ x8 → j ≡ x9
    → a ∷ b ∷ c ∷ d ∷ e ∷ f ∷ g ∷ h ∷ i ∷ j ∷ [] ≡ x0 ∷ x1 ∷ x2 ∷ x3 ∷ x4 ∷ x5 ∷ x6 ∷ x7 ∷ x8 ∷ x9 ∷ []
ten-same a b c d e f g h i j x0 x1 x2 x3 x4 x5 x6 x7 x8 x9 e0 e1 e2 e3 e4 e5 e6 e7 e8 e9 = rw (e0, e1, e2, e3, e4, e5, e6, e7, e8, e9) refl

-- one more in its place: by the sets of those that have each verdict, of which a channel is in one
-- at most
abbrev pub risen : Verdict → List ℕ → List ℕ
risen verdict counts = slice_set counts (column verdict) (slice_index counts (column verdict) + 1)

abbrev pub total : ℕ → ℕ → ℕ → ℕ → ℕ → ℕ → ℕ → ℕ → ℕ → ℕ
total r g m nf ni l nc li ls = sum (r ∷ g ∷ m ∷ nf ∷ ni ∷ l ∷ nc ∷ li ∷ ls ∷ [])

abbrev pub ones_of : Bool → Bool → Bool → Bool → Bool → Bool → Bool → Bool → Bool → ℕ
ones_of bm bg br nf ni l nc li ls = one_if bm + one_if bg + one_if br + one_if nf + one_if ni + one_if l + one_if nc + one_if li + one_if ls

module _ (n r g m nf ni l nc li ls : ℕ) (few : total r g m nf ni l nc li ls ≤ n) where
  abbrev pub Rises : Verdict → Bool → Bool → Bool → Bool → Bool → Bool → Bool → Bool → Bool → Type 0
  Rises verdict bm bg br bnf bni bl bnc bli bls =
      risen verdict ((n - total r g m nf ni l nc li ls) ∷ r ∷ g ∷ m ∷ nf ∷ ni ∷ l ∷ nc ∷ li ∷ ls ∷ [])
      ≡ (n + 1 - total (r + one_if br) (g + one_if bg) (m + one_if bm) (nf + one_if bnf) (ni + one_if bni) (l + one_if bl) (nc + one_if bnc)
      (li + one_if bli) (ls + one_if bls))
      ∷ (r + one_if br) ∷ (g + one_if bg) ∷ (m + one_if bm) ∷ (nf + one_if bnf) ∷ (ni + one_if bni) ∷ (l + one_if bl) ∷ (nc + one_if bnc) ∷
      (li + one_if bli) ∷ (ls + one_if bls) ∷ []

  pub rises : (bm bg br bnf bni bl bnc bli bls : Bool) → ones_of bm bg br bnf bni bl bnc bli bls ≤ 1
      → Rises (verdict_of_bits bm bg br bnf bni bl bnc bli bls) bm bg br bnf bni bl bnc bli bls
  rises true bg br bnf bni bl bnc bli bls one =
      ten-same _ _ _ _ _ _ _ _ _ _ _ _ _ _ _ _ _ _ _ _ (omega arith) (omega arith) (omega arith) (omega arith) (omega arith) (omega arith) (omega arith)
      (omega arith) (omega arith) (omega arith)
  rises false true br bnf bni bl bnc bli bls one =
      ten-same _ _ _ _ _ _ _ _ _ _ _ _ _ _ _ _ _ _ _ _ (omega arith) (omega arith) (omega arith) (omega arith) (omega arith) (omega arith) (omega arith)
      (omega arith) (omega arith) (omega arith)
  rises false false true bnf bni bl bnc bli bls one =
      ten-same _ _ _ _ _ _ _ _ _ _ _ _ _ _ _ _ _ _ _ _ (omega arith) (omega arith) (omega arith) (omega arith) (omega arith) (omega arith) (omega arith)
      (omega arith) (omega arith) (omega arith)
  rises false false false true bni bl bnc bli bls one =
      ten-same _ _ _ _ _ _ _ _ _ _ _ _ _ _ _ _ _ _ _ _ (omega arith) (omega arith) (omega arith) (omega arith) (omega arith) (omega arith) (omega arith)
      (omega arith) (omega arith) (omega arith)
  rises false false false false true bl bnc bli bls one =
      ten-same _ _ _ _ _ _ _ _ _ _ _ _ _ _ _ _ _ _ _ _ (omega arith) (omega arith) (omega arith) (omega arith) (omega arith) (omega arith) (omega arith)
      (omega arith) (omega arith) (omega arith)
  rises false false false false false true bnc bli bls one =
      ten-same _ _ _ _ _ _ _ _ _ _ _ _ _ _ _ _ _ _ _ _ (omega arith) (omega arith) (omega arith) (omega arith) (omega arith) (omega arith) (omega arith)
      (omega arith) (omega arith) (omega arith)
  rises false false false false false false true bli bls one =
      ten-same _ _ _ _ _ _ _ _ _ _ _ _ _ _ _ _ _ _ _ _ (omega arith) (omega arith) (omega arith) (omega arith) (omega arith) (omega arith) (omega arith)
      (omega arith) (omega arith) (omega arith)
  rises false false false false false false false true bls one =
      ten-same _ _ _ _ _ _ _ _ _ _ _ _ _ _ _ _ _ _ _ _ (omega arith) (omega arith) (omega arith) (omega arith) (omega arith) (omega arith) (omega arith)
      (omega arith) (omega arith) (omega arith)
  rises false false false false false false false false true one =
      ten-same _ _ _ _ _ _ _ _ _ _ _ _ _ _ _ _ _ _ _ _ (omega arith) (omega arith) (omega arith) (omega arith) (omega arith) (omega arith) (omega arith)
      (omega arith) (omega arith) (omega arith)
  rises false false false false false false false false false one =
      ten-same _ _ _ _ _ _ _ _ _ _ _ _ _ _ _ _ _ _ _ _ (omega arith) (omega arith) (omega arith) (omega arith) (omega arith) (omega arith) (omega arith)
      (omega arith) (omega arith) (omega arith)

-- the counts of a channel after one more cycle, and no channel has more verdicts than there were
-- cycles
pub counts-after : (sets : ByVerdict) (k cycles : ℕ) (counts : ByVerdict) → sets_with (verdict_sets sets) k ≤ 1 → sum (nine_counts counts) ≤ cycles → cycles < 2 ^ 64 - 1
    → (counts_after (verdict_by (verdict_sets sets) k) (ten_counts cycles counts) ≡ ten_counts (cycles + 1) (with_verdicts sets k counts)) × (sum (nine_counts (with_verdicts sets k counts)) ≤ cycles + 1)
counts-after sets k cycles counts one few small =
    let whole : sum (ten_counts cycles counts) ≡ cycles = omega arith in
    let room : nat_lt (sum (ten_counts cycles counts)) (2 ^ 64 - 1) ≡ true = lt-ltb (sum (ten_counts cycles counts)) (2 ^ 64 - 1) (omega arith) in (
      ap (λ b. if b then risen (verdict_by (verdict_sets sets) k) (ten_counts cycles counts) else ten_counts cycles counts) room
          ∙ rises cycles counts.routed counts.granted counts.moved counts.no_flit counts.no_idle_channel counts.lost_channel counts.no_credit counts.lost_input counts.lost_switch few
          (has_bit sets.moved k) (has_bit sets.granted k) (has_bit sets.routed k) (has_bit sets.no_flit k) (has_bit sets.no_idle_channel k)
          (has_bit sets.lost_channel k) (has_bit sets.no_credit k) (has_bit sets.lost_input k) (has_bit sets.lost_switch k) one,
      omega arith,
    )

-- ---- the counts of all channels
arrival-counts : (p : Option ℕ) (v : View) → (with_arrival p v).counts ≡ v.counts
arrival-counts None v = refl
arrival-counts (Some p) v = at (is_expected_in p v.ends)
  where
    at : (b : Bool) → let w = if b then record v { ends = arrivals_after p v.given v.ends } else with_misfit v in w.counts ≡ v.counts
    at true = refl
    at false = refl

counts-committed : (d : Decisions) (v : View) (i : ℕ) → i < length v.counts → slice_index_or (view_after_commit d v).counts i []
    ≡ counts_after (decided_verdict d i) (slice_index_or v.counts i [])
unfolding view_after_commit
counts-committed d v i l =
    ap (λ (xs : List (List ℕ)). slice_index_or xs i []) (arrival-counts (tail_packet (flit_out v d.round (local_port v.site.grid))) _)
    ∙ get_or-map_indexed (λ j counts. counts_after (decided_verdict d j) counts) v.counts i [] [] l

module _ (relation : Routes) (count picked : ℕ) (c : Column) (v : View) (filled lost_set : ℕ) (e : Effects) (words : AreWords count c)
    (effects : AreEffects e) (some_vc : 0 < v.site.vcs) (picks : ArePicked v.site.vcs (ports v.site.grid) (lane_ready filled c) c.ahead picked)
    (shows : ShowsChannels c v) (fill : AreFilled v filled) (turns : HasTurns c v) (are : AreDecided picked c v filled lost_set e) where
  -- one more of each channel's verdict
  pub counts-decided : (cycles : ℕ) (counts : ℕ → ByVerdict) → cycles < 2 ^ 64 - 1 → length v.counts ≡ size_of v.site
      → ShowsCounts cycles counts v
      → ShowsCounts (cycles + 1) (λ i. with_verdicts (lane_verdicts filled picked (lane_heads filled c) e.granted lost_set e.moved c) i (counts i)) (view_after_commit (decisions_of relation v) v)
  counts-decided cycles counts small long counted_so i l_after =
      let l : i < size_of v.site = subst (λ (s : Site). i < size_of s) (committed-site (decisions_of relation v) v).0 l_after in
      let was = counted_so i l in
      let is = verdicts count c v filled words shows fill picked some_vc picks turns.ahead turns.pointers turns.arbiters e.granted lost_set e.moved
      effects.granted are.lost_fits effects.moved are.granted are.lost are.moved i l in
      let apart = verdicts-apart count c v filled words shows fill picked some_vc picks turns.ahead turns.pointers turns.arbiters e.granted lost_set e.moved
      effects.granted are.lost_fits effects.moved are.granted are.lost are.moved i l in
      let sets : ByVerdict = lane_verdicts filled picked (lane_heads filled c) e.granted lost_set e.moved c in
      let after = counts-after sets i cycles (counts i) apart was.1 small in (
        counts-committed (decisions_of relation v) v i (omega (arith, l, long))
            ∙ ap (λ (x : Verdict). counts_after x (slice_index_or v.counts i [])) (verdict-planned relation v i l ∙ sym is)
            ∙ ap (λ xs. counts_after (verdict_by (verdict_sets sets) i) xs) was.0
            ∙ after.0,
        after.1,
      )

-- ---- before the verdicts: what lands and is injected changes neither, and the view knows the cycle
abbrev Keeps : ℕ → View → View → Type 0
Keeps n v w = (w.counts ≡ v.counts) × (w.last_event ≡ v.last_event) × (w.given ≡ n)

pub injected-keeps : (n : ℕ) (v : View) → Keeps n v (view_after_inject n v)
unfolding view_after_inject
injected-keeps n v = by v.queue v.sending
  where
    by : (queue : List (ℕ × Packet)) (sending : Option (ℕ × ℕ)) → Keeps n v (view_after_inject_from n queue sending (record v { given = n }))
    by [] sending = (refl, refl, refl)
    by ((number, p) ∷ rest) (Some (vc, index)) = room (nat_lt (length (view_buffer v (local_channel v.site vc))) v.site.depth)
      where
        room : (b : Bool) → Keeps n v (if b then with_injected vc index number p rest (record v { given = n }) else record v { given = n })
        room true = (refl, refl, refl)
        room false = (refl, refl, refl)
    by ((number, p) ∷ rest) None = due (nat_le p.due n)
      where
        begun : (vc : Option ℕ) → Keeps n v (begun_on vc number p rest (record v { given = n }))
        begun None = (refl, refl, refl)
        begun (Some vc) = (refl, refl, refl)

        due : (b : Bool) → Keeps n v (if b then begun_on (find (is_vacant (record v { given = n })) (below v.site.vcs)) number p rest
            (record v { given = n }) else record v { given = n })
        due true = begun (find (is_vacant (record v { given = n })) (below v.site.vcs))
        due false = (refl, refl, refl)

-- ---- after the cycle, once its beats are put
pub counts-put : (cycles : ℕ) (counts : ℕ → ByVerdict) (relation : Routes) (v : View) (beats : List Beat) (n : ℕ)
    → ShowsCounts cycles counts (view_after_commit (decisions_of relation (view_after_inject n (view_after_takes relation beats v))) (view_after_inject n
    (view_after_takes relation beats v)))
    → ShowsCounts cycles counts (local_step relation v beats n).0
unfolding local_step
counts-put cycles counts relation v beats n shows = shows
