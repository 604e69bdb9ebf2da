-- Whether something happened in a router in a cycle, by the words of its channels.
use Rattle.std.proofs.Common.{◌≡◌, ℕ, suc, ◌<◌, ◌≤◌, Bool, true, false, List, [], ◌∷◌, length, get_or, refl, ap, ap₂, sym, ◌∙◌, arith, inl, inr, bit_or}
use Rattle.std.specs.Prelude.{◌⊎◌, ◌&&◌, ◌||◌, not, nat_eq}
use Rattle.std.specs.List.{list_any}
use Rattle.std.proofs.lemmas.List.Folds.{list_any_at}
use Rattle.noc_sets.proofs.MemberLemmas.{either-zero}
use Rattle.noc_theory_bits.proofs.Common.{cases_eq, cases_lt, eq-eqb, ne_eqb, false≢true, true≢false, ports, tabulate, get_or-tabulate, length-tabulate, has_bit, has_bit-zero, zero_from_none, Routes, MembersAreBelow, is_event, View, size_of, view_round, finding_of, decisions_of, has_event, Finding, less, Column, AreWords, ShowsChannels, Effects, lane_heads, lane_no_credit, lane_no_flit, lane_no_idle_channel, lane_ready, AreEffects, verdict_of_bits, AreFilled, verdicts, ArePicked}
use Rattle.noc_theory_bits.proofs.routers.DecideLemmas.{AreDecided, HasTurns}
use Rattle.noc_theory_bits.proofs.routers.SettleLemmas.{less-below, none-above}

any-at : (p : Finding → Bool) (fs : List Finding) (d : Finding) → list_any p fs ≡ true → (i : ℕ) × (i < length fs) × (p (get_or fs i d) ≡ true)
any-at p [] d e = absurd (false≢true e)
any-at p (f ∷ fs) d e = at (p f) refl (λ t. any-at p fs d t)
  where
    at : (b : Bool) → p f ≡ b → (list_any p fs ≡ true → (i : ℕ) × (i < length fs) × (p (get_or fs i d) ≡ true))
        → (i : ℕ) × (i < length (f ∷ fs)) × (p (get_or (f ∷ fs) i d) ≡ true)
    at true t more = (0, omega arith, t)
    at false t more = let r = more (ap (λ b. b || list_any p fs) (sym t) ∙ e) in (suc r.0, omega (arith, r.1), r.2)

event-bits : (m g r a b c d e f : Bool) → is_event (verdict_of_bits m g r a b c d e f) ≡ (m || (g || r))
event-bits true g r a b c d e f = refl
event-bits false true r a b c d e f = refl
event-bits false false true a b c d e f = refl
event-bits false false false true b c d e f = refl
event-bits false false false false true c d e f = refl
event-bits false false false false false true d e f = refl
event-bits false false false false false false true e f = refl
event-bits false false false false false false false true f = refl
event-bits false false false false false false false false true = refl
event-bits false false false false false false false false false = refl

member-some : (w k : ℕ) → has_bit w k ≡ true → nat_eq w 0 ≡ false
member-some w k e = elim (cases_eq w 0) [
  | inl z ↦ absurd (false≢true (sym (has_bit-zero k) ∙ ap (λ x. has_bit x k) (sym z) ∙ e))
  | inr n ↦ ne_eqb w 0 n
]

-- a channel in one of three sets: not all are empty
some-word : (m g h k : ℕ) → (has_bit m k || (has_bit g k || has_bit h k)) ≡ true → ((nat_eq h 0 && nat_eq g 0) && nat_eq m 0) ≡ false
some-word m g h k e = by (has_bit m k) refl (has_bit g k) refl e
  where
    off : (b : Bool) → (b && false) ≡ false
    off true = refl
    off false = refl

    by : (x : Bool) → has_bit m k ≡ x → (y : Bool) → has_bit g k ≡ y → (x || (y || has_bit h k)) ≡ true → ((nat_eq h 0 && nat_eq g 0) && nat_eq m 0) ≡ false
    by true em y eg z = ap (λ b. (nat_eq h 0 && nat_eq g 0) && b) (member-some m k em) ∙ off (nat_eq h 0 && nat_eq g 0)
    by false em true eg z = ap (λ b. (nat_eq h 0 && b) && nat_eq m 0) (member-some g k eg) ∙ ap (λ b. b && nat_eq m 0) (off (nat_eq h 0))
    by false em false eg z = ap (λ b. (b && nat_eq g 0) && nat_eq m 0) (member-some h k z)

none-of : (x y z : Bool) → (x || (y || z)) ≡ false → (x ≡ false) × (y ≡ false) × (z ≡ false)
none-of true y z e = absurd (true≢false e)
none-of false true z e = absurd (true≢false e)
none-of false false z e = (refl, refl, e)

no-word : (n w : ℕ) → MembersAreBelow n w → ((k : ℕ) → k < n → has_bit w k ≡ false) → nat_eq w 0 ≡ true
no-word n w below none = eq-eqb w 0 (zero_from_none w (λ k. at k (cases_lt k n)))
  where
    at : (k : ℕ) → (k < n) ⊎ (n ≤ k) → has_bit w k ≡ false
    at k (inl l) = none k l
    at k (inr u) = none-above n w k below u

module _ (relation : Routes) (count picked : ℕ) (c : Column) (v : View) (filled lost_set : ℕ) (e : Effects) (words : AreWords count c)
    (effects : AreEffects e) (some_vc : 0 < v.site.vcs) (picks : ArePicked v.site.vcs (ports v.site.grid) (lane_ready filled c) c.ahead picked)
    (shows : ShowsChannels c v) (fill : AreFilled v filled) (turns : HasTurns c v) (are : AreDecided picked c v filled lost_set e) (granted_below : MembersAreBelow
    (size_of v.site) e.granted) (moved_below : MembersAreBelow (size_of v.site) e.moved) where
  event-at : (k : ℕ) → k < size_of v.site → is_event (finding_of (view_round v) v k).verdict
      ≡ (has_bit e.moved k || (has_bit e.granted k || has_bit (lane_heads filled c) k))
  event-at k l =
      ap is_event (sym (verdicts count c v filled words shows fill picked some_vc picks turns.ahead turns.pointers turns.arbiters e.granted lost_set e.moved
      effects.granted are.lost_fits effects.moved are.granted are.lost are.moved k l))
      ∙ event-bits (has_bit e.moved k) (has_bit e.granted k) (has_bit (lane_heads filled c) k) (has_bit (lane_no_flit filled c) k) (has_bit
      (lane_no_idle_channel e.granted lost_set c) k) (has_bit lost_set k) (has_bit (lane_no_credit filled c) k) (has_bit (less (lane_ready filled c)
      picked) k) (has_bit (less picked e.moved) k)

  -- whether a verdict is an event
  verdict-event : list_any (λ (x : Finding). is_event x.verdict) (tabulate (size_of v.site) (finding_of (view_round v) v))
      ≡ not ((nat_eq (lane_heads filled c) 0 && nat_eq e.granted 0) && nat_eq e.moved 0)
  verdict-event = by (list_any (λ (x : Finding). is_event x.verdict) (tabulate (size_of v.site) (finding_of (view_round v) v))) refl
    where
      found : (k : ℕ) → k < size_of v.site → is_event (get_or (tabulate (size_of v.site) (finding_of (view_round v) v)) k (finding_of
          (view_round v) v 0)).verdict ≡ (has_bit e.moved k || (has_bit e.granted k || has_bit (lane_heads filled c) k))
      found k l = ap (λ (x : Finding). is_event x.verdict) (get_or-tabulate (size_of v.site) k (finding_of (view_round v) v) (finding_of
          (view_round v) v 0) l) ∙ event-at k l

      by : (b : Bool) → list_any (λ (x : Finding). is_event x.verdict) (tabulate (size_of v.site) (finding_of (view_round v) v)) ≡ b
          → list_any (λ (x : Finding). is_event x.verdict) (tabulate (size_of v.site) (finding_of (view_round v) v))
          ≡ not ((nat_eq (lane_heads filled c) 0 && nat_eq e.granted 0) && nat_eq e.moved 0)
      by true q =
          let a = any-at (λ (x : Finding). is_event x.verdict) (tabulate (size_of v.site) (finding_of (view_round v) v)) (finding_of (view_round v) v 0) q in
          let l : a.0 < size_of v.site = omega (arith, a.1, length-tabulate (size_of v.site) (finding_of (view_round v) v)) in
          q ∙ sym (ap not (some-word e.moved e.granted (lane_heads filled c) a.0 (sym (found a.0 l) ∙ a.2)))
      by false q =
          let quiet : (k : ℕ) → k < size_of v.site → (has_bit e.moved k ≡ false) × (has_bit e.granted k ≡ false) × (has_bit (lane_heads filled c) k
          ≡ false) = λ k l.
          none-of (has_bit e.moved k) (has_bit e.granted k) (has_bit (lane_heads filled c) k) (sym (event-at k l) ∙ silent k l) in
          let h : nat_eq (lane_heads filled c) 0 ≡ true = no-word (size_of v.site) (lane_heads filled c) (less-below (size_of v.site) filled
          (bit_or c.waiting c.active) fill.below) (λ k l. (quiet k l).2) in
          let g : nat_eq e.granted 0 ≡ true = no-word (size_of v.site) e.granted granted_below (λ k l. (quiet k l).1) in
          let m : nat_eq e.moved 0 ≡ true = no-word (size_of v.site) e.moved moved_below (λ k l. (quiet k l).0) in
          q ∙ sym (ap not (ap₂ (λ x y. x && y) (ap₂ (λ x y. x && y) h g) m))
        where
          silent : (k : ℕ) → k < size_of v.site → is_event (finding_of (view_round v) v k).verdict ≡ false
          silent k l = at (is_event (finding_of (view_round v) v k).verdict) refl
            where
              at : (b : Bool) → is_event (finding_of (view_round v) v k).verdict ≡ b → is_event (finding_of (view_round v) v k).verdict ≡ false
              at true t =
                  absurd (false≢true (sym q ∙ list_any_at (λ (x : Finding). is_event x.verdict) (tabulate (size_of v.site) (finding_of
                  (view_round v) v)) k (finding_of (view_round v) v 0)
                  (omega (arith, l, length-tabulate (size_of v.site) (finding_of (view_round v) v)))
                  (ap (λ (x : Finding). is_event x.verdict) (get_or-tabulate (size_of v.site) k (finding_of (view_round v) v) (finding_of
                  (view_round v) v 0) l) ∙ t)))
              at false t = t

  -- something happened in the cycle just where one of the words has a channel; a flit that landed
  -- and a credit that came are events too
  pub event-decided : (landed credited : ℕ) → v.had_event ≡ not (nat_eq (bit_or landed credited) 0)
      → nat_eq (bit_or (bit_or (bit_or (bit_or landed credited) (lane_heads filled c)) e.granted) e.moved) 0 ≡ not (has_event (decisions_of relation v) v)
  unfolding decisions_of
  event-decided landed credited had =
      either-zero (bit_or (bit_or (bit_or landed credited) (lane_heads filled c)) e.granted) e.moved
      ∙ ap (λ b. b && nat_eq e.moved 0) (either-zero (bit_or (bit_or landed credited) (lane_heads filled c)) e.granted
      ∙ ap (λ b. b && nat_eq e.granted 0) (either-zero (bit_or landed credited) (lane_heads filled c)))
      ∙ together (nat_eq (bit_or landed credited) 0) (nat_eq (lane_heads filled c) 0) (nat_eq e.granted 0) (nat_eq e.moved 0)
      ∙ sym (ap₂ (λ x y. not (x || y)) had verdict-event)
    where
      together : (a h g m : Bool) → (((a && h) && g) && m) ≡ not (not a || not ((h && g) && m))
      together false h g m = refl
      together true h g m = twice ((h && g) && m)
        where
          twice : (b : Bool) → b ≡ not (not b)
          twice true = refl
          twice false = refl
