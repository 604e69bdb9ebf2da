-- Beats are taken and a flit is injected: the words of a lane show the view after it.
use Rattle.std.proofs.Common.{◌≡◌, ℕ, ◌+◌, ◌/◌, ◌%◌, ◌^◌, ◌<◌, ◌≤◌, Bool, true, length, Option, Some, None, IfSome, ap, sym, ◌∙◌, subst, arith, bit_or, List}
use Rattle.std.specs.Prelude.{is_some, nat_lt}
use Rattle.noc_vc.specs.Input.{is_expected}
use Rattle.noc_vc.specs.Output.{credit_fits_at}
use Rattle.noc_sets.specs.Passes.{with_credits}
use Rattle.noc_sets.proofs.CreditLemmas.{credited-shows, supplied-shows}
use Rattle.noc_sets.proofs.FlitLemmas.{phase-kept}
use Rattle.noc_theory_bits.proofs.Common.{false≢true, and_parts, ltb-true, lt-ltb, one_if, has_bit, Flit, Routes, Input, fits, Output, credit_fits, Owned, is_supplied, View, size_of, view_buffer, view_input, view_output, HasTaken, Column, RouterMarks, AreWords, ShowsOutput, ShowsChannels, IsTidy, is_draining, lane_raised, AreOwners, AreAll}

-- a word of credits, by the channels to which one comes
pub record AreCredits (v : View) (came : ℕ) (credit : ℕ → Bool) : Type 0 where
  pub fits : came < 2 ^ 64
  pub each : (o : ℕ) → o < size_of v.site → has_bit came o ≡ credit o
  pub below : (o : ℕ) → has_bit came o ≡ true → o < size_of v.site

module _ (relation : Routes) (count : ℕ) (c : Column) (m : RouterMarks) (v w : View) (flit : ℕ → Option Flit) (credit : ℕ → Bool) (bits : List ℕ) (words : AreWords count c) (all : AreAll count (size_of v.site) v.site.depth bits)
    (shows : ShowsChannels c v) (tidy : IsTidy v) (taken : HasTaken relation v w flit credit) where
  -- the output channels, once the credits have come
  pub outputs-arrived : (came : ℕ) → AreCredits v came credit → (o : ℕ) → o < size_of v.site → ShowsOutput (with_credits bits came c) o (view_output w o)
  outputs-arrived came credits o l =
      subst (λ (x : Output). ShowsOutput (with_credits bits came c) o x) (sym (taken.output o l))
      (credited-shows count c bits (size_of v.site) v.site.depth came o (view_output v o) (credit o) words credits.fits l all (shows.outputs o l) places (tidy.credits o l) drains (credits.each o l) (taken.credits o l))
    where
      at-places : (k : Option ℕ) → IfSome k (λ n. (view_output v o).depth ≡ v.site.depth) → is_some k ≡ true → (view_output v o).depth ≡ v.site.depth
      at-places None h e = absurd (false≢true e)
      at-places (Some n) h e = h

      places : is_some (view_output v o).credit ≡ true → (view_output v o).depth ≡ v.site.depth
      places = at-places (view_output v o).credit (tidy.places o l)

      some-fits : (k : Option ℕ) (p : ℕ) → p ≡ v.site.depth → IfSome k (λ n. n < v.site.depth) → is_some k ≡ true → credit_fits_at p k ≡ true
      some-fits None p e h s = absurd (false≢true s)
      some-fits (Some n) p e h s = rw e (lt-ltb n v.site.depth h)

      drains : is_draining (view_output v o).holder ≡ true → credit_fits (view_output v o) ≡ true
      drains e = let d = tidy.drains o l e in some-fits (view_output v o).credit (view_output v o).depth (places d.1) d.0 d.1

  -- the input channels whose output channel has a credit then
  pub supplied-arrived : (came up : ℕ) (owner : ℕ → ℕ) → AreCredits v came credit → ((o i p : ℕ) → o < size_of v.site → (view_output v o).holder ≡ Owned i p → owner o ≡ i) → AreOwners (lane_raised came c) owner up
      → (i : ℕ) → i < size_of v.site → has_bit (bit_or c.supplied up) i ≡ is_supplied w.outputs (view_input w i).phase
  supplied-arrived came up owner credits named ups i l =
      supplied-shows count c m v w came up owner credit words credits.fits shows.outputs shows.supplied tidy.owners tidy.owned_below named credits.each credits.below taken.credits taken.output ups i l
      ∙ ap (is_supplied w.outputs) (sym (ap (λ (x : Input). x.phase) (taken.input i l) ∙ phase-kept (view_input v i) (flit i)))

  -- a flit comes only where there is a place
  pub place-left : (i : ℕ) → i < size_of v.site → length (view_buffer v i) + one_if (is_some (flit i)) ≤ v.site.depth
  place-left i l = at (flit i) (taken.fits i l)
    where
      at : (f : Option Flit) → IfSome f (λ one. fits relation v.site.node (i / v.site.vcs) (i % v.site.vcs) v.site.depth (view_buffer v i) (view_input v i) one ≡ true) → length (view_buffer v i) + one_if (is_some f) ≤ v.site.depth
      at None h = omega (arith, tidy.lens i l)
      at (Some f) h =
          let parts = and_parts (nat_lt (length (view_buffer v i)) v.site.depth) (is_expected relation v.site.node (i / v.site.vcs) (i % v.site.vcs) (view_buffer v i) (view_input v i) f (view_input v i).phase) h in
          let less_than : length (view_buffer v i) < v.site.depth = ltb-true (length (view_buffer v i)) v.site.depth parts.0 in
          omega arith
