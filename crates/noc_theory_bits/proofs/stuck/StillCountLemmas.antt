-- What is counted of a channel in cycles in which nothing happens: one more of the same verdict in
-- each.
use Rattle.std.proofs.Common.{◌≡◌, ℕ, zero, suc, ◌+◌, ◌-◌, ◌*◌, ◌^◌, ◌<◌, ◌≤◌, Bool, true, false, List, sum, refl, ap, sym, ◌∙◌, subst, arith}
use Rattle.std.specs.Prelude.{nat_lt, slice_index, if◌then◌else◌}
use Rattle.noc_view.specs.Still.{counted_times}
use Rattle.noc_sets.specs.Counts.{RisesOn, RunOn}
use Rattle.noc_theory_bits.proofs.Common.{lt-ltb, true≢false, one_if, is_event, counts_after, Verdict, Empty, Routed, Granted, Moved, NoFlit, NoIdleChannel, LostChannel, NoCredit, LostInput, LostSwitch, ByVerdict, nine_counts, ten_counts, verdict_of_bits}
use Rattle.noc_theory_bits.proofs.routers.CountLemmas.{rises, risen, ten-same}
use Rattle.noc_theory_bits.proofs.stuck.StillVerdictLemmas.{is_loss}

-- ---- the verdict of a channel that is empty or waits, by whether it waits for a flit, an idle channel or a credit

abbrev waiting_for : Bool → Bool → Bool → Verdict
waiting_for nf ni nc = verdict_of_bits false false false nf ni false nc false false

pub record Waits (verdict : Verdict) : Type 0 where
  pub nf : Bool
  pub ni : Bool
  pub nc : Bool
  pub one : one_if nf + one_if ni + one_if nc ≤ 1
  pub is : verdict ≡ waiting_for nf ni nc

pub waits-for : (verdict : Verdict) → is_event verdict ≡ false → is_loss verdict ≡ false → Waits verdict
waits-for Empty e f = record { nf = false; ni = false; nc = false; one = omega arith; is = refl }
waits-for Routed e f = absurd (true≢false e)
waits-for Granted e f = absurd (true≢false e)
waits-for Moved e f = absurd (true≢false e)
waits-for NoFlit e f = record { nf = true; ni = false; nc = false; one = omega arith; is = refl }
waits-for NoIdleChannel e f = record { nf = false; ni = true; nc = false; one = omega arith; is = refl }
waits-for LostChannel e f = absurd (true≢false f)
waits-for NoCredit e f = record { nf = false; ni = false; nc = true; one = omega arith; is = refl }
waits-for LostInput e f = absurd (true≢false f)
waits-for LostSwitch e f = absurd (true≢false f)

-- so many more of it
abbrev plus : ℕ → Bool → Bool → Bool → ByVerdict → ByVerdict
plus t nf ni nc counts = record counts {
  no_flit = counts.no_flit + t * one_if nf;
  no_idle_channel = counts.no_idle_channel + t * one_if ni;
  no_credit = counts.no_credit + t * one_if nc;
}

-- counts with the same numbers are the same
same-counts : (r g m f i l c p s r2 g2 m2 f2 i2 l2 c2 p2 s2 : ℕ) → r ≡ r2 → g ≡ g2 → m ≡ m2 → f ≡ f2 → i ≡ i2 → l ≡ l2 → c ≡ c2 → p ≡ p2 → s ≡ s2
    → ◌≡◌ {A = ByVerdict} (record { routed = r; granted = g; moved = m; no_flit = f; no_idle_channel = i; lost_channel = l; no_credit = c; lost_input = p; lost_switch = s })
    (record { routed = r2; granted = g2; moved = m2; no_flit = f2; no_idle_channel = i2; lost_channel = l2; no_credit = c2; lost_input = p2; lost_switch = s2 })
same-counts r g m f i l c p s r2 g2 m2 f2 i2 l2 c2 p2 s2 e0 e1 e2 e3 e4 e5 e6 e7 e8 = rw (e0, e1, e2, e3, e4, e5, e6, e7, e8) refl

-- ---- so many cycles

module _ (nf ni nc : Bool) (one : one_if nf + one_if ni + one_if nc ≤ 1) where
  one-more : (n : ℕ) (counts : ByVerdict) → sum (nine_counts counts) ≤ n → n < 2 ^ 64 - 1 → counts_after (waiting_for nf ni nc) (ten_counts n counts) ≡ ten_counts (n + 1) (plus 1 nf ni nc counts)
  one-more n counts few small =
      let whole : sum (ten_counts n counts) ≡ n = omega (arith, few) in
      let room : nat_lt (sum (ten_counts n counts)) (2 ^ 64 - 1) ≡ true = lt-ltb (sum (ten_counts n counts)) (2 ^ 64 - 1) (omega (arith, whole, small)) in
      ap (λ b. if b then risen (waiting_for nf ni nc) (ten_counts n counts) else ten_counts n counts) room
      ∙ rises n counts.routed counts.granted counts.moved counts.no_flit counts.no_idle_channel counts.lost_channel counts.no_credit counts.lost_input counts.lost_switch few
      false false false nf ni false nc false false (omega (arith, one))
      ∙ ten-same _ _ _ _ _ _ _ _ _ _ _ _ _ _ _ _ _ _ _ _ (omega arith) (omega arith) (omega arith) (omega arith) (omega arith) (omega arith) (omega arith) (omega arith) (omega arith) (omega arith)

  plus-next : (t : ℕ) (counts : ByVerdict) → plus 1 nf ni nc (plus t nf ni nc counts) ≡ plus (suc t) nf ni nc counts
  plus-next t counts = same-counts _ _ _ _ _ _ _ _ _ _ _ _ _ _ _ _ _ _ refl refl refl (omega arith) (omega arith) refl (omega arith) refl refl

  few-more : (n t : ℕ) (counts : ByVerdict) → sum (nine_counts counts) ≤ n → sum (nine_counts (plus t nf ni nc counts)) ≤ n + t
  few-more n zero counts few = omega (arith, few)
  few-more n (suc t) counts few = let before = few-more n t counts few in omega (arith, before, one)

  times-more : (t n : ℕ) (counts : ByVerdict) → sum (nine_counts counts) ≤ n → n + t < 2 ^ 64
      → counted_times t (waiting_for nf ni nc) (ten_counts n counts) ≡ ten_counts (n + t) (plus t nf ni nc counts)
  times-more zero n counts few small =
      let same : counts ≡ plus 0 nf ni nc counts = same-counts _ _ _ _ _ _ _ _ _ _ _ _ _ _ _ _ _ _ refl refl refl (omega arith) (omega arith) refl (omega arith) refl refl in
      let here : n ≡ n + 0 = omega arith in
      ap (λ m. ten_counts m counts) here ∙ ap (ten_counts (n + 0)) same
  times-more (suc t) n counts few small =
      let next : n + t + 1 ≡ n + suc t = omega arith in
      ap (counts_after (waiting_for nf ni nc)) (times-more t n counts few (omega (arith, small)))
      ∙ one-more (n + t) (plus t nf ni nc counts) (few-more n t counts few) (omega (arith, small))
      ∙ ap (ten_counts (n + t + 1)) (plus-next t counts)
      ∙ ap (λ m. ten_counts m (plus (suc t) nf ni nc counts)) next

-- ---- a count that has risen in one cycle rises as much in each of so many more

rises-on : (t x y z : ℕ) (b : Bool) → RisesOn t x y z → y ≡ x + 1 * one_if b → x + suc t * one_if b ≡ z
rises-on t x y z b rise is =
    let same : rise.by ≡ one_if b = (let o = rise.once in omega (arith, o, is)) in
    let more : z ≡ y + t * one_if b = rise.again ∙ ap (λ d. y + t * d) same in
    omega (arith, more, is)

module _ (n t : ℕ) (x y z : ByVerdict) (verdict : Verdict) (waits : Waits verdict) (small : n + suc t < 2 ^ 64)
    (now : List ℕ) (is : now ≡ ten_counts n x) (few : sum (nine_counts x) ≤ n) (next : counts_after verdict now ≡ ten_counts (suc n) y) (run : RunOn t x y z) where
  same : ten_counts (suc n) y ≡ ten_counts (n + 1) (plus 1 waits.nf waits.ni waits.nc x)
  same =
      sym next ∙ ap (λ v. counts_after v now) waits.is ∙ ap (counts_after (waiting_for waits.nf waits.ni waits.nc)) is
      ∙ one-more waits.nf waits.ni waits.nc waits.one n x few (omega (arith, small))

  at : (k : ℕ) → slice_index (ten_counts (suc n) y) k ≡ slice_index (ten_counts (n + 1) (plus 1 waits.nf waits.ni waits.nc x)) k
  at k = ap (λ xs. slice_index xs k) same

  counts-then : plus (suc t) waits.nf waits.ni waits.nc x ≡ z
  counts-then =
      same-counts _ _ _ _ _ _ _ _ _ _ _ _ _ _ _ _ _ _
      (sym (at 1) ∙ sym run.routed) (sym (at 2) ∙ sym run.granted) (sym (at 3) ∙ sym run.moved)
      (rises-on t x.no_flit y.no_flit z.no_flit waits.nf run.no_flit (at 4))
      (rises-on t x.no_idle_channel y.no_idle_channel z.no_idle_channel waits.ni run.no_idle_channel (at 5))
      (sym (at 6) ∙ sym run.lost_channel)
      (rises-on t x.no_credit y.no_credit z.no_credit waits.nc run.no_credit (at 7))
      (sym (at 8) ∙ sym run.lost_input) (sym (at 9) ∙ sym run.lost_switch)

  -- its counts then
  pub still-counts : counted_times (suc t) verdict now ≡ ten_counts (n + suc t) z
  still-counts =
      ap (λ v. counted_times (suc t) v now) waits.is
      ∙ ap (counted_times (suc t) (waiting_for waits.nf waits.ni waits.nc)) is
      ∙ times-more waits.nf waits.ni waits.nc waits.one (suc t) n x few small
      ∙ ap (ten_counts (n + suc t)) counts-then

  -- and they add up to no more than the cycles
  pub still-few : sum (nine_counts z) ≤ n + suc t
  still-few = let before = few-more waits.nf waits.ni waits.nc waits.one n (suc t) x few in subst (λ (c : ByVerdict). sum (nine_counts c) ≤ n + suc t) counts-then before
