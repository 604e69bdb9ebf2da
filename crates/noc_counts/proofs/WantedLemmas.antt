-- All that waiting channels may take is wanted.
use Rattle.std.proofs.Common.{◌≡◌, ℕ, true, List, ap, sym, ◌∙◌}
use Rattle.std.proofs.lemmas.Bool.{false≢true}
use Rattle.noc_packet.specs.Set.{has_bit}
use Rattle.noc_vc.specs.Input.{is_waiting}
use Rattle.noc_vc.specs.declared.input.InputState.{InputState}
use Rattle.noc_vc.specs.declared.input.InputState.TheVariants.{Idle, Waiting, Active}
use Rattle.noc_view.specs.View.{Site, View}
use Rattle.noc_sets.specs.Column.{Column, IsColumn, RouterMarks, ShowsPhase}
use Rattle.noc_sets.specs.Cycle.{Router, still_of}
use Rattle.noc_sets.specs.Layout.{Layout}
use Rattle.noc_sets.specs.Source.{Start}
use Rattle.noc_columns.specs.declared.channels.Standing.{Standing}
use Rattle.noc_cycles.specs.Held.{Held, ShowsStill}
use Rattle.noc_cycles.specs.declared.pattern.Pattern.{Pattern}

-- all that a channel in this state may take is wanted, where it waits
wants : (c : Column) (m : RouterMarks) (site : Site) (i : ℕ) (phase : InputState) → ShowsPhase c m site i phase → is_waiting phase ≡ true → (o : ℕ) → has_bit (m.set i) o ≡ true → has_bit c.wanted o ≡ true
wants c m site i Idle shows waits o e = absurd (false≢true waits)
wants c m site i (Waiting set) shows waits o e = shows.2 o (ap (λ n. has_bit n o) (sym shows.0) ∙ e)
wants c m site i (Active out) shows waits o e = absurd (false≢true waits)

module _ (pattern : Pattern) (layout : Layout) (starts : List Start) (cycle up : ℕ) (b : Router) (a : Held) (standing : Standing ℕ) (no_credit : ℕ) (shows : ShowsStill pattern a standing no_credit (still_of layout starts cycle up b)) where
  -- a channel that waits did so before the router took what comes
  pub was-waiting : (i : ℕ) → has_bit a.waiting i ≡ true → has_bit b.column.waiting i ≡ true
  was-waiting i waits = (λ x. has_bit (shows.column x).waiting i) ∙ ap (λ n. has_bit n i) (sym shows.waiting) ∙ waits

  pub all-wanted : (count : ℕ) (v : View) → IsColumn count b.column b.marks v → (i o : ℕ) → has_bit a.waiting i ≡ true → has_bit (a.set i) o ≡ true → has_bit a.wanted o ≡ true
  all-wanted count v is i o waits takes =
      let waiting = was-waiting i waits in
      let few = is.channels.waiting_below i waiting in
      ap (λ n. has_bit n o) (sym (λ x. (shows.column x).wanted))
      ∙ wants b.column b.marks v.site i _ (is.marks.phases i few) (sym (is.channels.inputs i few).waiting ∙ waiting) o
      ((λ x. has_bit (shows.marks.set x i) o) ∙ takes)
