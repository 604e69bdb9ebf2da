-- What the channels of a router are, where its words show a view, and numbers tell which output
-- channel each active input channel owns.
use Rattle.std.proofs.Common.{◌≡◌, ℕ, ◌+◌, ◌*◌, ◌^◌, ◌<◌, ◌≤◌, Bool, true, false, List, Option, Some, None, IfSome, ap, ap₂, arith, mul-le-mul_right, refl, subst, sym, ◌∙◌}
use Rattle.std.specs.Prelude.{◌&&◌, is_some, nat_lt, if◌then◌else◌}
use Rattle.std.proofs.lemmas.Bool.{eq-eqb, eqb-true, false≢true, le-ltb, lt-ltb, ltb-false, ltb-true, true≢false}
use Rattle.std.proofs.lemmas.Nat.{mul-add-lt}
use Rattle.noc_topo.specs.Shape.{local_port, ports}
use Rattle.noc_packet.specs.Set.{has_bit}
use Rattle.noc_vc.specs.Input.{is_active, is_waiting}
use Rattle.noc_vc.specs.Output.{Output, has_credit, has_credit_at, is_free}
use Rattle.noc_vc.specs.declared.input.InputState.{InputState}
use Rattle.noc_vc.specs.declared.input.InputState.TheVariants.{Idle, Waiting, Active}
use Rattle.noc_vc.specs.declared.output.OutputState.{OutputState}
use Rattle.noc_vc.specs.declared.output.OutputState.TheVariants.{Idle as Free, Owned, Draining}
use Rattle.noc_view.specs.States.{is_owned_from, is_supplied, owns}
use Rattle.noc_view.specs.View.{View, size_of, view_input, view_output}
use Rattle.noc_sets.specs.Column.{Column, IsColumn, IsTidy, RouterMarks, ShowsPhase, is_draining}
use Rattle.noc_sets.specs.Planes.{any_from, plane_number}
use Rattle.noc_sets.proofs.MemberLemmas.{power-members}
use Rattle.noc_sets.proofs.PlaneLemmas.{filled-members}
use Rattle.noc_columns.specs.Allotted.{ShowsOwned}
use Rattle.noc_columns.specs.Supply.{is_fed}
use Rattle.noc_columns.proofs.SetLemmas.{below-members}
use Rattle.noc_cycles.specs.May.{with_credit}

-- ---- by phase and by holder
active-phase : (phase : InputState) → is_active phase ≡ true → (o : ℕ) × (phase ≡ Active o)
active-phase Idle e = absurd (false≢true e)
active-phase (Waiting set) e = absurd (false≢true e)
active-phase (Active o) e = (o, refl)

owns-active : (phase : InputState) (o : ℕ) → owns phase o ≡ true → phase ≡ Active o
owns-active Idle o e = absurd (false≢true e)
owns-active (Waiting set) o e = absurd (false≢true e)
owns-active (Active p) o e = ap Active (eqb-true p o e)

not-supplied : (outputs : List Output) (phase : InputState) → is_active phase ≡ false → is_supplied outputs phase ≡ false
not-supplied outputs Idle e = refl
not-supplied outputs (Waiting set) e = refl
not-supplied outputs (Active o) e = absurd (true≢false e)

same-output : (a b : ℕ) → Active a ≡ Active b → a ≡ b
same-output a b e = cc

owned-busy : (h : OutputState) (i : ℕ) → is_owned_from h i ≡ true → (is_free h ≡ false) × (is_draining h ≡ false)
owned-busy Free i e = absurd (false≢true e)
owned-busy (Owned j p) i e = (refl, refl)
owned-busy Draining i e = absurd (false≢true e)

holder-owned : (h : OutputState) → is_free h ≡ false → is_draining h ≡ false → (i : ℕ) × (is_owned_from h i ≡ true)
holder-owned Free free draining = absurd (true≢false free)
holder-owned (Owned i p) free draining = (i, eq-eqb i i refl)
holder-owned Draining free draining = absurd (true≢false draining)

pub power-same : (a b : ℕ) → 2 ^ a ≡ 2 ^ b → a ≡ b
power-same a b e = eqb-true a b (sym (power-members b a) ∙ ap (λ w. has_bit w a) (sym e) ∙ power-members a a ∙ eq-eqb a a refl)

-- ---- by credit
some-credit : (credit : Option ℕ) (number : ℕ) → is_some credit ≡ true → IfSome credit (λ n. number ≡ n) → has_credit_at credit ≡ nat_lt 0 number
some-credit None number e is = absurd (false≢true e)
some-credit (Some n) number e is = ap (nat_lt 0) (sym is)

no-credit : (credit : Option ℕ) → is_some credit ≡ false → has_credit_at credit ≡ true
no-credit None e = refl
no-credit (Some n) e = absurd (true≢false e)

module _ (count : ℕ) (c : Column) (m : RouterMarks) (v : View) (is : IsColumn count c m v) (tidy : IsTidy v) (width vcs : ℕ) (port vc : ℕ → ℕ)
    (wide : ports v.site.grid ≡ width + 1) (many : v.site.vcs ≡ vcs) (owned : ShowsOwned (width + 1) vcs c.active port vc m) where
  -- the number of the output channel of an active input channel
  abbrev out : ℕ → ℕ
  out i = port i * vcs + vc i

  pub active-owns : (i : ℕ) → has_bit c.active i ≡ true → (view_input v i).phase ≡ Active (out i)
  active-owns i e =
      let small = is.channels.active_below i e in
      let one = active-phase (view_input v i).phase (sym (is.channels.inputs i small).active ∙ e) in
      let shown : m.taken i ≡ 2 ^ one.0 = subst (ShowsPhase c m v.site i) one.1 (is.marks.phases i small) in
      one.1 ∙ ap Active (power-same one.0 (out i) (sym shown ∙ owned.sends.taken i e))

  out-small : (i : ℕ) → has_bit c.active i ≡ true → out i < size_of v.site
  out-small i e = tidy.owned_below i (out i) (is.channels.active_below i e) (active-owns i e)

  held : (i : ℕ) → has_bit c.active i ≡ true → is_owned_from (view_output v (out i)).holder i ≡ true
  held i e =
      sym (tidy.owners i (out i) (is.channels.active_below i e) (out-small i e))
      ∙ ap (λ p. owns p (out i)) (active-owns i e) ∙ eq-eqb (out i) (out i) refl

  -- that is neither idle nor drains
  pub owner-busy : (i : ℕ) → has_bit c.active i ≡ true → (has_bit c.idle (out i) ≡ false) × (has_bit c.draining (out i) ≡ false)
  owner-busy i e =
      let shows = is.channels.outputs (out i) (out-small i e) in
      let busy = owned-busy (view_output v (out i)).holder i (held i e) in
      (shows.idle ∙ busy.0, shows.draining ∙ busy.1)

  -- and each such one is owned
  pub busy-owned : (o : ℕ) → o < size_of v.site → has_bit c.idle o ≡ false → has_bit c.draining o ≡ false
      → (i : ℕ) × (has_bit c.active i ≡ true) × (out i ≡ o)
  busy-owned o l idle draining =
      let shows = is.channels.outputs o l in
      let one = holder-owned (view_output v o).holder (sym shows.idle ∙ idle) (sym shows.draining ∙ draining) in
      let small = tidy.owner_below one.0 o l one.1 in
      let phase = owns-active (view_input v one.0).phase o (tidy.owners one.0 o small l ∙ one.1) in
      let e : has_bit c.active one.0 ≡ true = (is.channels.inputs one.0 small).active ∙ ap is_active phase in
      (one.0, e, same-output (out one.0) o (sym (active-owns one.0 e) ∙ phase))

  -- who is active does not wait
  pub active-apart : (i : ℕ) → has_bit c.active i ≡ true → has_bit c.waiting i ≡ false
  active-apart i e = (is.channels.inputs i (is.channels.active_below i e)).waiting ∙ ap is_waiting (active-owns i e)

  -- ---- who is supplied
  by-credit : (i : ℕ) → has_bit c.active i ≡ true → has_credit (view_output v (out i)) ≡ is_fed width (with_credit vcs c.credit) (port i) (vc i)
  by-credit i e = at (nat_lt (port i) width) refl
    where
      l : out i < size_of v.site
      l = out-small i e

      link : is_some (view_output v (out i)).credit ≡ nat_lt (out i) (local_port v.site.grid * v.site.vcs)
      link = tidy.links (out i) l

      places : local_port v.site.grid * v.site.vcs ≡ width * vcs
      places = let low : local_port v.site.grid ≡ width = omega (arith, wide) in ap₂ (λ p w. p * w) low many

      low : vc i < vcs
      low = owned.sends.vc i e

      at : (b : Bool) → nat_lt (port i) width ≡ b → has_credit (view_output v (out i)) ≡ (if b then has_bit (with_credit vcs c.credit (port i)) (vc i) else true)
      at true below =
          let small : out i < vcs * width = mul-add-lt (port i) vcs (vc i) width (ltb-true (port i) width below) low in
          let inside : out i < local_port v.site.grid * v.site.vcs = omega (arith, small, places) in
          some-credit (view_output v (out i)).credit (plane_number c.credit (out i)) (link ∙ lt-ltb (out i) (local_port v.site.grid * v.site.vcs) inside) (is.channels.outputs (out i) l).credit
          ∙ sym (filled-members c.credit (out i))
          ∙ sym (below-members vcs (λ w. has_bit (any_from 0 c.credit) (port i * vcs + w)) (vc i) ∙ ap (λ b. b && has_bit (any_from 0 c.credit) (out i)) (lt-ltb (vc i) vcs low))
      at false above = no-credit (view_output v (out i)).credit (link ∙ le-ltb (out i) (local_port v.site.grid * v.site.vcs) outside)
        where
          outside : local_port v.site.grid * v.site.vcs ≤ out i
          outside =
              let far : width * vcs ≤ port i * vcs = mul-le-mul_right vcs (ltb-false (port i) width above) in
              omega (arith, far, places)

  pub supplied-fed : (i : ℕ) → i < size_of v.site → has_bit c.supplied i ≡ (has_bit c.active i && is_fed width (with_credit vcs c.credit) (port i) (vc i))
  supplied-fed i l = is.channels.supplied i l ∙ at (has_bit c.active i) refl
    where
      at : (b : Bool) → has_bit c.active i ≡ b → is_supplied v.outputs (view_input v i).phase ≡ (b && is_fed width (with_credit vcs c.credit) (port i) (vc i))
      at true e = ap (is_supplied v.outputs) (active-owns i e) ∙ by-credit i e
      at false e = not-supplied v.outputs (view_input v i).phase (sym (is.channels.inputs i l).active ∙ e)
