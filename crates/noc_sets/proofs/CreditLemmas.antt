-- Credits come.
use Rattle.std.proofs.Common.{◌≡◌, ℕ, ◌+◌, ◌^◌, ◌<◌, ◌≤◌, Bool, true, false, List, length, Option, Some, None, IfSome, refl, ap, sym, ◌∙◌, subst, ap₂, true≢false, arith, inl, inr, bit_or}
use Rattle.std.specs.Prelude.{◌⊎◌, ◌&&◌, ◌||◌, not, is_some, nat_eq, nat_lt}
use Rattle.std.proofs.lemmas.Bool.{eq-eqb, ne_eqb, cases_lt, false≢true, lt-ltb, ltb-true, eqb-true, and_parts, or_parts}
use Rattle.noc_topo.specs.Lists.{one_if}
use Rattle.noc_packet.specs.Set.{has_bit}
use Rattle.noc_packet.proofs.SetLemmas.{either_members}
use Rattle.noc_vc.specs.Output.{Output, is_free, credit_fits, credit_fits_at, output_after_credit, has_credit, has_credit_at, holder_at}
use Rattle.noc_vc.specs.declared.input.InputState.{InputState}
use Rattle.noc_vc.specs.declared.input.InputState.TheVariants.{Idle, Waiting, Active}
use Rattle.noc_vc.specs.declared.output.OutputState.{OutputState}
use Rattle.noc_vc.specs.declared.output.OutputState.TheVariants.{Idle as Free, Owned, Draining}
use Rattle.noc_view.specs.States.{is_supplied, owns, is_owned_from}
use Rattle.noc_view.specs.View.{View, size_of, view_input, view_output}
use Rattle.noc_sets.specs.Sets.{differ}
use Rattle.noc_sets.specs.Planes.{AreAll, plane_number, raised_by, any_from, wrong_from}
use Rattle.noc_sets.specs.Taken.{credited_by}
use Rattle.noc_sets.specs.Column.{Column, RouterMarks, AreWords, ShowsOutput, is_draining}
use Rattle.noc_sets.specs.Passes.{lane_home, lane_raised, with_credits, AreOwners}
use Rattle.noc_sets.proofs.MemberLemmas.{xor_members, less_members, or-false, or-true}
use Rattle.noc_sets.proofs.PlaneLemmas.{raised-number, raised-length, filled-members, wrong-members}

twice : (b : Bool) → not (not b) ≡ b
twice true = refl
twice false = refl

-- the channels that are home
pub home-members : (count : ℕ) (c : Column) (bits : List ℕ) (size places came o : ℕ) → AreWords count c → came < 2 ^ 64 → o < size → AreAll count size places bits
    → has_bit (lane_home (bits) came c) o ≡ (has_bit c.draining o && nat_eq (plane_number (raised_by c.credit came) o) places)
home-members count c bits size places came o words small l all =
    let long : length (raised_by c.credit came) ≡ count = raised-length c.credit came ∙ words.credit_bits in
    less_members c.draining (wrong_from 0 (raised_by c.credit came) (bits)) o
    ∙ ap (λ b. has_bit c.draining o && not b) (wrong-members (raised_by c.credit came) bits count size places o long l all)
    ∙ ap (λ b. has_bit c.draining o && b) (twice (nat_eq (plane_number (raised_by c.credit came) o) places))

-- the channels that had no credit and have one
pub raised-members : (count : ℕ) (c : Column) (came o : ℕ) → AreWords count c → came < 2 ^ 64
    → has_bit (lane_raised came c) o ≡ (has_bit came o && not ((nat_lt 0 (plane_number c.credit o) || has_bit c.idle o) || has_bit c.draining o))
raised-members count c came o words small =
    less_members came (bit_or (bit_or (any_from 0 c.credit) c.idle) c.draining) o
    ∙ ap (λ b. has_bit came o && not b)
    (either_members (bit_or (any_from 0 c.credit) c.idle) c.draining o
    ∙ ap (λ b. b || has_bit c.draining o) (either_members (any_from 0 c.credit) c.idle o ∙ ap (λ b. b || has_bit c.idle o) (filled-members c.credit o)))

-- the words of a channel after its credit
module _ (count : ℕ) (c : Column) (bits : List ℕ) (size places came o : ℕ) (words : AreWords count c) (small : came < 2 ^ 64) (l : o < size) (all : AreAll count size places bits) where
  room : places < 2 ^ count
  room = all.room

  idle-after : has_bit (with_credits (bits) came c).idle o ≡ (has_bit c.idle o || (has_bit c.draining o && nat_eq (plane_number (raised_by c.credit came) o) places))
  idle-after = either_members c.idle (lane_home (bits) came c) o ∙ ap (λ b. has_bit c.idle o || b) (home-members count c bits size places came o words small l all)

  draining-after : has_bit (with_credits (bits) came c).draining o ≡ (has_bit c.draining o && not (nat_eq (plane_number (raised_by c.credit came) o) places))
  draining-after =
      xor_members c.draining (lane_home (bits) came c) o
      ∙ ap (differ (has_bit c.draining o)) (home-members count c bits size places came o words small l all)
      ∙ off (has_bit c.draining o) (nat_eq (plane_number (raised_by c.credit came) o) places)
    where
      off : (a b : Bool) → differ a (a && b) ≡ (a && not b)
      off true b = refl
      off false b = refl

  -- a channel with no credit
  ejects : (holder : OutputState) (p : ℕ) → ShowsOutput c o (record { holder = holder; credit = None; depth = p }) → is_draining holder ≡ false
      → ShowsOutput (with_credits (bits) came c) o (record { holder = holder; credit = None; depth = p })
  ejects holder p shows apart =
      let none : has_bit c.draining o ≡ false = shows.draining ∙ apart in
      record {
        idle = idle-after ∙ rw none (or-false (has_bit c.idle o)) ∙ shows.idle;
        draining = draining-after ∙ rw none refl ∙ sym apart;
        credit = tt;
      }

  -- one with n credits, to which none comes
  stays : (holder : OutputState) (n : ℕ) → ShowsOutput c o (record { holder = holder; credit = Some n; depth = places }) → n ≤ places → (is_draining holder ≡ true → n < places) → has_bit came o ≡ false
      → ShowsOutput (with_credits (bits) came c) o (record { holder = holder; credit = Some n; depth = places })
  stays holder n shows few drains none =
      let was : plane_number c.credit o ≡ n = shows.credit in
      let zero_more : one_if (has_bit came o) ≡ 0 = ap one_if none in
      let now : plane_number (raised_by c.credit came) o ≡ n = raised-number c.credit came o (rw words.credit_bits (omega (arith, room))) ∙ omega arith in
      record {
        idle = idle-after ∙ rw (now, shows.idle, shows.draining) (at (is_free holder) (is_draining holder) refl);
        draining = draining-after ∙ rw (now, shows.draining) (still (is_draining holder) refl);
        credit = now;
      }
    where
      still : (d : Bool) → is_draining holder ≡ d → (d && not (nat_eq n places)) ≡ d
      still true e = let u : n < places = drains e in rw (ne_eqb n places (λ same. absurd (omega arith))) refl
      still false e = refl

      at : (i d : Bool) → is_draining holder ≡ d → (i || (d && nat_eq n places)) ≡ i
      at true d e = refl
      at false true e = let u : n < places = drains e in ne_eqb n places (λ same. absurd (omega arith))
      at false false e = refl

  -- an output channel to which a credit comes
  comes : (holder : OutputState) (n : ℕ) → ShowsOutput c o (record { holder = holder; credit = Some n; depth = places }) → n < places → has_bit came o ≡ true
      → ShowsOutput (with_credits (bits) came c) o (record { holder = holder_at places (n + 1) holder; credit = Some (n + 1); depth = places })
  comes holder n shows few here = by holder shows.idle shows.draining
    where
      now : plane_number (raised_by c.credit came) o ≡ n + 1
      now =
          let was : plane_number c.credit o ≡ n = shows.credit in
          let one_more : one_if (has_bit came o) ≡ 1 = ap one_if here in
          raised-number c.credit came o (rw words.credit_bits (omega (arith, room))) ∙ omega arith

      by : (h : OutputState) → has_bit c.idle o ≡ is_free h → has_bit c.draining o ≡ is_draining h
          → ShowsOutput (with_credits (bits) came c) o (record { holder = holder_at places (n + 1) h; credit = Some (n + 1); depth = places })
      by Free i d = record { idle = idle-after ∙ rw i refl; draining = draining-after ∙ rw d refl; credit = now }
      by (Owned j p) i d = record { idle = idle-after ∙ rw (i, d) refl; draining = draining-after ∙ rw d refl; credit = now }
      by Draining i d = full (nat_eq (n + 1) places) refl
        where
          full : (b : Bool) → nat_eq (n + 1) places ≡ b → ShowsOutput (with_credits (bits) came c) o (record { holder = holder_at places (n + 1) Draining; credit = Some (n + 1); depth = places })
          full true e = record { idle = idle-after ∙ rw (i, d, now, e) refl; draining = draining-after ∙ rw (d, now, e) refl; credit = now }
          full false e = record { idle = idle-after ∙ rw (i, d, now, e) refl; draining = draining-after ∙ rw (d, now, e) refl; credit = now }

-- an output channel after a credit has come to it, or not
pub credited-shows : (count : ℕ) (c : Column) (bits : List ℕ) (size places came o : ℕ) (output : Output) (b : Bool) → AreWords count c → came < 2 ^ 64 → o < size → AreAll count size places bits
    → ShowsOutput c o output → (is_some output.credit ≡ true → output.depth ≡ places) → IfSome output.credit (λ n. n ≤ places)
    → (is_draining output.holder ≡ true → credit_fits output ≡ true) → has_bit came o ≡ b → (b ≡ true → credit_fits output ≡ true)
    → ShowsOutput (with_credits (bits) came c) o (credited_by output b)
credited-shows count c bits size places came o output b words small l all shows holds few drains here fit = at output.credit refl b here fit
  where
    at : (credit : Option ℕ) → output.credit ≡ credit → (b : Bool) → has_bit came o ≡ b → (b ≡ true → credit_fits output ≡ true) → ShowsOutput (with_credits (bits) came c) o (credited_by output b)
    at None e true h f = absurd (false≢true (ap (credit_fits_at output.depth) (sym e) ∙ f refl))
    at None e false h f =
        subst (λ (x : Output). ShowsOutput (with_credits (bits) came c) o x) (ap (λ k. record output { credit = k }) (sym e))
        (ejects count c bits size places came o words small l all output.holder output.depth (subst (λ k. ShowsOutput c o (record output { credit = k })) e shows) (apart (is_draining output.holder) refl))
      where
        apart : (d : Bool) → is_draining output.holder ≡ d → is_draining output.holder ≡ false
        apart true d = absurd (false≢true (ap (credit_fits_at output.depth) (sym e) ∙ drains d))
        apart false d = d
    at (Some n) e true h f =
        let p : output.depth ≡ places = holds (ap is_some e) in
        let whole : output ≡ record { holder = output.holder; credit = Some n; depth = places } = ap₂ (λ k m. record output { credit = k; depth = m }) e p in
        let less_than : n < places = ltb-true n places (ap₂ credit_fits_at (sym p) (sym e) ∙ f refl) in
        subst (λ (x : Output). ShowsOutput (with_credits (bits) came c) o (output_after_credit x)) (sym whole)
        (comes count c bits size places came o words small l all output.holder n (subst (λ (x : Output). ShowsOutput c o x) whole shows) less_than h)
    at (Some n) e false h f =
        let p : output.depth ≡ places = holds (ap is_some e) in
        let whole : output ≡ record { holder = output.holder; credit = Some n; depth = places } = ap₂ (λ k m. record output { credit = k; depth = m }) e p in
        let le : n ≤ places = rw e at few in
        subst (λ (x : Output). ShowsOutput (with_credits (bits) came c) o x) (sym whole)
        (stays count c bits size places came o words small l all output.holder n (subst (λ (x : Output). ShowsOutput c o x) whole shows) le
        (λ d. ltb-true n places (ap₂ credit_fits_at (sym p) (sym e) ∙ drains d)) h)

-- ---- the input channels that are supplied
credit-number : (c : Column) (o : ℕ) (output : Output) → ShowsOutput c o output → has_credit output ≡ (not (is_some output.credit) || nat_lt 0 (plane_number c.credit o))
credit-number c o output shows = at output.credit shows.credit
  where
    at : (credit : Option ℕ) → IfSome credit (λ n. plane_number c.credit o ≡ n) → has_credit_at credit ≡ (not (is_some credit) || nat_lt 0 (plane_number c.credit o))
    at None e = refl
    at (Some n) e = ap (nat_lt 0) (sym e)

credited-has : (output : Output) (b : Bool) → (b ≡ true → credit_fits output ≡ true) → has_credit (credited_by output b) ≡ (has_credit output || b)
credited-has output false f = sym (or-false (has_credit output))
credited-has output true f = at output.credit refl
  where
    at : (credit : Option ℕ) → output.credit ≡ credit → has_credit (output_after_credit output) ≡ (has_credit output || true)
    at None e = absurd (false≢true (ap (credit_fits_at output.depth) (sym e) ∙ f refl))
    at (Some n) e =
        ap (λ (x : Output). has_credit (output_after_credit x)) (ap (λ k. record output { credit = k }) e) ∙ lt-ltb 0 (n + 1) (omega arith) ∙ sym (or-true (has_credit output))

holds-out : (holder : OutputState) (i : ℕ) → is_owned_from holder i ≡ true → (is_free holder ≡ false) × (is_draining holder ≡ false)
holds-out Free i e = absurd (false≢true e)
holds-out (Owned j p) i e = (refl, refl)
holds-out Draining i e = absurd (false≢true e)

owned-by : (holder : OutputState) → is_free holder ≡ false → is_draining holder ≡ false → (j : ℕ) × (p : ℕ) × (holder ≡ Owned j p)
owned-by Free a b = absurd (true≢false a)
owned-by (Owned j p) a b = (j, p, refl)
owned-by Draining a b = absurd (true≢false b)

-- the input channels of the raised output channels are supplied too
pub supplied-shows : (count : ℕ) (c : Column) (m : RouterMarks) (v w : View) (came up : ℕ) (owner : ℕ → ℕ) (credit : ℕ → Bool) → AreWords count c → came < 2 ^ 64
    → ((o : ℕ) → o < size_of v.site → ShowsOutput c o (view_output v o))
    → ((i : ℕ) → i < size_of v.site → has_bit c.supplied i ≡ is_supplied v.outputs (view_input v i).phase)
    → ((i o : ℕ) → i < size_of v.site → o < size_of v.site → owns (view_input v i).phase o ≡ is_owned_from (view_output v o).holder i)
    → ((i o : ℕ) → i < size_of v.site → (view_input v i).phase ≡ Active o → o < size_of v.site)
    → ((o i p : ℕ) → o < size_of v.site → (view_output v o).holder ≡ Owned i p → owner o ≡ i)
    → ((o : ℕ) → o < size_of v.site → has_bit came o ≡ credit o)
    → ((o : ℕ) → has_bit came o ≡ true → o < size_of v.site)
    → ((o : ℕ) → o < size_of v.site → credit o ≡ true → credit_fits (view_output v o) ≡ true)
    → ((o : ℕ) → o < size_of v.site → view_output w o ≡ credited_by (view_output v o) (credit o))
    → AreOwners (lane_raised came c) owner up
    → (i : ℕ) → i < size_of v.site → has_bit (bit_or c.supplied up) i ≡ is_supplied w.outputs (view_input v i).phase
supplied-shows count c m v w came up owner credit words small outputs supplied owners owned_below named came_is came_below fit after ups i l =
    either_members c.supplied up i ∙ ap (λ b. b || has_bit up i) (supplied i l) ∙ at (view_input v i).phase refl
  where
    -- a member of `up` owns a raised channel
    source : has_bit up i ≡ true → (o : ℕ) × (o < size_of v.site) × (has_bit came o ≡ true) × (owns (view_input v i).phase o ≡ true) × (plane_number c.credit o ≡ 0)
    source e =
        let some = ups.some i e in
        let parts = and_parts (has_bit came some.0) (not ((nat_lt 0 (plane_number c.credit some.0) || has_bit c.idle some.0) || has_bit c.draining some.0)) (sym (raised-members count c came some.0 words small) ∙ some.1) in
        let lo : some.0 < size_of v.site = came_below some.0 parts.0 in
        let none = or_parts (nat_lt 0 (plane_number c.credit some.0) || has_bit c.idle some.0) (has_bit c.draining some.0) (unnot ((nat_lt 0 (plane_number c.credit some.0) || has_bit c.idle some.0) || has_bit c.draining some.0) parts.1) in
        let fewer = or_parts (nat_lt 0 (plane_number c.credit some.0)) (has_bit c.idle some.0) none.0 in
        let shows = outputs some.0 lo in
        let holder = owned-by (view_output v some.0).holder (sym shows.idle ∙ fewer.1) (sym shows.draining ∙ none.1) in
        let who : owner some.0 ≡ holder.0 = named some.0 holder.0 holder.1 lo holder.2 in
        let mine : is_owned_from (view_output v some.0).holder i ≡ true = ap (λ (h : OutputState). is_owned_from h i) holder.2 ∙ eq-eqb holder.0 i (sym who ∙ some.2) in
        (some.0, lo, parts.0, owners i some.0 l lo ∙ mine, zero-of (plane_number c.credit some.0) fewer.0)
      where
        unnot : (b : Bool) → not b ≡ true → b ≡ false
        unnot true e = absurd (false≢true e)
        unnot false e = refl

        zero-of : (n : ℕ) → nat_lt 0 n ≡ false → n ≡ 0
        zero-of n e = by (cases_lt 0 n)
          where
            by : (0 < n) ⊎ (n ≤ 0) → n ≡ 0
            by (inl p) = absurd (false≢true (sym e ∙ lt-ltb 0 n p))
            by (inr p) = omega arith

    off : (view_input v i).phase ≡ Idle ⊎ (set : ℕ) × ((view_input v i).phase ≡ Waiting set) → has_bit up i ≡ false
    off p = by (has_bit up i) refl p
      where
        by : (b : Bool) → has_bit up i ≡ b → (view_input v i).phase ≡ Idle ⊎ (set : ℕ) × ((view_input v i).phase ≡ Waiting set) → b ≡ false
        by false e q = refl
        by true e (inl q) = let s = source e in absurd (false≢true (ap (λ (x : InputState). owns x s.0) (sym q) ∙ s.3))
        by true e (inr q) = let s = source e in absurd (false≢true (ap (λ (x : InputState). owns x s.0) (sym q.1) ∙ s.3))

    at : (phase : InputState) → (view_input v i).phase ≡ phase → (is_supplied v.outputs (view_input v i).phase || has_bit up i) ≡ is_supplied w.outputs (view_input v i).phase
    at Idle e = rw (off (inl e), e) refl
    at (Waiting set) e = rw (off (inr (set, e)), e) refl
    at (Active x) e =
        rw e
        (let lx : x < size_of v.site = owned_below i x l e in
        ap (λ (b : Bool). b) (two x lx e)
        ∙ sym (ap (λ (y : Output). has_credit y) (after x lx) ∙ credited-has (view_output v x) (credit x) (fit x lx)))
      where
        two : (x : ℕ) → (lx : x < size_of v.site) → (view_input v i).phase ≡ Active x → (has_credit (view_output v x) || has_bit up i) ≡ (has_credit (view_output v x) || credit x)
        two x lx e = by (has_credit (view_output v x)) refl (credit x) refl
          where
            mine : is_owned_from (view_output v x).holder i ≡ true
            mine = sym (owners i x l lx) ∙ ap (λ (p : InputState). owns p x) e ∙ eq-eqb x x refl

            by : (h : Bool) → has_credit (view_output v x) ≡ h → (b : Bool) → credit x ≡ b → (h || has_bit up i) ≡ (h || b)
            by true eh b eb = refl
            by false eh true eb =
                let free = holds-out (view_output v x).holder i mine in
                let shows = outputs x lx in
                let owned = owned-by (view_output v x).holder free.0 free.1 in
                let me : owned.0 ≡ i = eqb-true owned.0 i (ap (λ (h : OutputState). is_owned_from h i) (sym owned.2) ∙ mine) in
                let dry = or_parts (not (is_some (view_output v x).credit)) (nat_lt 0 (plane_number c.credit x)) (sym (credit-number c x (view_output v x) shows) ∙ eh) in
                let here : has_bit (lane_raised came c) x ≡ true =
                raised-members count c came x words small ∙ rw (came_is x lx ∙ eb, dry.1, shows.idle ∙ free.0, shows.draining ∙ free.1) refl in
                ap (has_bit up) (sym (named x owned.0 owned.1 lx owned.2 ∙ me)) ∙ ups.each x here
            by false eh false eb = none (has_bit up i) refl
              where
                none : (b : Bool) → has_bit up i ≡ b → b ≡ false
                none false e2 = refl
                none true e2 =
                    let s = source e2 in
                    let same : x ≡ s.0 = eqb-true x s.0 (ap (λ (p : InputState). owns p s.0) (sym e) ∙ s.3) in
                    absurd (false≢true (sym eb ∙ sym (came_is x lx) ∙ ap (has_bit came) same ∙ s.2))
