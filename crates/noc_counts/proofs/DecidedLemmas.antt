-- What a router of a block decides is told of its words, and what it holds then shows what is found of its channels.
use Rattle.std.proofs.Common.{◌≡◌, ◌≢◌, ◌⊎◌, ℕ, ◌+◌, ◌*◌, ◌/◌, ◌^◌, ◌<◌, ◌≤◌, Bool, true, false, refl, ap, ap₂, sym, ◌∙◌, subst, arith, inl, inr, bit_and, bit_or}
use Rattle.std.specs.Prelude.{◌&&◌, ◌||◌, is_some, not, if◌then◌else◌}
use Rattle.std.proofs.lemmas.Bool.{and_parts, cases_eq, cases_lt, eq-eqb, eqb-true, false≢true, ne_eqb, true≢false}
use Rattle.std.proofs.lemmas.Nat.{mul-add-lt}
use Rattle.noc_topo.specs.Lists.{is_some_of}
use Rattle.noc_packet.specs.Set.{has_bit}
use Rattle.noc_packet.proofs.SetLemmas.{both_members, either_members, has_bit-zero}
use Rattle.noc_sets.specs.Cycle.{Still}
use Rattle.noc_sets.specs.Grants.{Allocation, HasAllocated, asked_of, winner}
use Rattle.noc_sets.specs.Layout.{Layout}
use Rattle.noc_sets.specs.Passes.{lane_asks, lane_heads}
use Rattle.noc_alloc.specs.Members.{MembersAreBelow}
use Rattle.noc_sets.specs.Sets.{least, less}
use Rattle.noc_sets.specs.Unions.{some_below}
use Rattle.noc_sets.proofs.UnionLemmas.{union-members}
use Rattle.noc_columns.proofs.AskLemmas.{asks-idle, in-word}
use Rattle.noc_columns.proofs.PickLemmas.{Found, find-first, some-each}
use Rattle.noc_sets.proofs.MemberLemmas.{above_64, and-false, below_fits, less_members, or-true, power-members}
use Rattle.noc_sets.proofs.TurnLemmas.{first-among}
use Rattle.noc_columns.specs.declared.channels.Decided.{Decided}
use Rattle.noc_columns.specs.declared.channels.Links.{Links}
use Rattle.noc_columns.specs.declared.channels.Standing.{Standing}
use Rattle.noc_columns.specs.declared.channels.Verdicts.{Verdicts}
use Rattle.noc_cycles.specs.Concluding.{HasConcludedHeld}
use Rattle.noc_cycles.specs.Deciding.{HasDecidedHeld, undecided}
use Rattle.noc_cycles.specs.Held.{Held, ShowsStill}
use Rattle.noc_cycles.specs.declared.pattern.Pattern.{Pattern}
use Rattle.noc_counts.proofs.FoundLemmas.{ShowsFound, least-power}
use Rattle.noc_counts.specs.Findings.{outs_of}
use Rattle.noc_counts.proofs.OutLemmas.{asked-one, asked-same, asked-won, winner-of}
use Rattle.noc_counts.proofs.VerdictLemmas.{AreAmong, IsTold}

-- ---- a channel that does not wait wins nothing
module _ (size : ℕ) (port : ℕ → ℕ) (a b : Allocation) (has : HasAllocated size port a b) (k : ℕ) (idles : has_bit a.column.waiting k ≡ false) where
  wins-nothing : (o : ℕ) → has_bit has.outs o ≡ true → has_bit (winner has.requests a.marks o) k ≡ false
  wins-nothing o out = by (has_bit (winner has.requests a.marks o) k) refl (cases_lt o 64)
    where
      by : (x : Bool) → has_bit (winner has.requests a.marks o) k ≡ x → (o < 64) ⊎ (64 ≤ o) → has_bit (winner has.requests a.marks o) k ≡ false
      by false none low = none
      by true won (inl low) =
          absurd (true≢false (sym (first-among (has.requests o) (a.marks.turn o) k won) ∙ has.asks.asked o k low ∙ ap (λ y. y && is_some_of (asked_of a.column.idle (a.marks.set k)) o) idles))
      by true won (inr high) = absurd (false≢true (sym (above_64 has.outs o has.outs_fit high) ∙ out))

  not-lost : has_bit b.lost k ≡ false
  not-lost =
      ap (λ n. has_bit n k) has.lost ∙ less_members has.inputs b.granted k
      ∙ ap (λ x. x && not (has_bit b.granted k)) (has.asks.asking k ∙ ap (λ x. x && is_some (asked_of a.column.idle (a.marks.set k))) idles)

  not-granted : has_bit b.granted k ≡ false
  not-granted = has.marks.none k wins-nothing

  keeps-taken : b.marks.taken k ≡ a.marks.taken k
  keeps-taken = (has.marks.inputs k wins-nothing).taken

module _ (pattern : Pattern) (layout : Layout) (sets : ℕ → ℕ → ℕ) (s : Still) (a h : Held) (standing : Standing ℕ) (decided : Decided ℕ) (granted lost no_credit : ℕ) (left : Links ℕ)
    (shows : ShowsStill pattern a standing no_credit s) (did : HasDecidedHeld pattern layout sets s a h standing decided granted lost left) where
  abbrev between : Allocation
  between = did.choice.granted

  -- what holds of the router before the heads are routed, where it holds where channels ask, and where none does
  by-asks : (P : Allocation → Type 0)
      → (HasAllocated ((pattern.table.ports.links.width + 1) * pattern.table.ports.links.vcs) (λ o. o / pattern.table.ports.links.vcs) (undecided s) between → P between)
      → P (undecided s) → P between
  by-asks P some none = at (cases_eq (lane_asks s.column) 0)
    where
      at : (lane_asks s.column ≡ 0) ⊎ (lane_asks s.column ≢ 0) → P between
      at (inl zero) = subst P (sym (did.choice.unasked zero)) none
      at (inr other) = some (did.choice.asked other)

  waiting-is : s.column.waiting ≡ a.inputs.waiting
  waiting-is = λ x. (shows.column x).waiting

  active-is : s.column.active ≡ a.inputs.active
  active-is = λ x. (shows.column x).active

  granted-is : granted ≡ between.granted
  granted-is = did.granted_are ∙ (λ x. (did.choice.rest x).granted)

  granted-waits : AreAmong s.column.waiting granted
  granted-waits k e = at (has_bit s.column.waiting k) refl
    where
      at : (w : Bool) → has_bit s.column.waiting k ≡ w → has_bit s.column.waiting k ≡ true
      at true is = is
      at false is =
          let none : has_bit between.granted k ≡ false =
          by-asks (λ (b : Allocation). has_bit b.granted k ≡ false) (λ has. not-granted _ _ _ _ has k is) (has_bit-zero k) in
          absurd (false≢true (sym none ∙ ap (λ n. has_bit n k) (sym granted-is) ∙ e))

  lost-waits : AreAmong s.column.waiting lost
  lost-waits k e = at (has_bit s.column.waiting k) refl
    where
      at : (w : Bool) → has_bit s.column.waiting k ≡ w → has_bit s.column.waiting k ≡ true
      at true is = is
      at false is =
          let none : has_bit between.lost k ≡ false = by-asks (λ (b : Allocation). has_bit b.lost k ≡ false) (λ has. not-lost _ _ _ _ has k is) (has_bit-zero k) in
          let same : lost ≡ between.lost = did.lost_are ∙ (λ x. (did.choice.rest x).lost) in
          absurd (false≢true (sym none ∙ ap (λ n. has_bit n k) (sym same) ∙ e))

  module _ (v w : Verdicts ℕ) (n : Held) (arrived : ℕ) (gone : Links ℕ) (short : no_credit ≡ v.no_credit) (done : HasConcludedHeld pattern standing decided granted gone arrived h n v w) where
    -- ---- what it tells
    pub is-told : IsTold s.filled decided.picked s.column standing w n.inputs.waiting granted lost
    is-told =
        let settled = done.settles in
        record {
          heads_are = shows.heads;
          ready_are = shows.ready;
          granted_are = granted-waits;
          lost_are = lost-waits;
          waiting_are = (λ x. (settled.column 0 0 0 s.column x).waiting) ∙ ap (λ (m : ℕ). bit_or (less m granted) standing.heads) ((λ x. (did.inputs x).waiting) ∙ sym waiting-is);
          active = (λ x. (settled.verdicts x).active) ∙ (λ x. (did.inputs x).active) ∙ sym active-is;
          no_credit = (λ x. (settled.verdicts x).no_credit) ∙ sym short ∙ shows.no_credit_is;
          picked_are = did.picks.among;
          moved_are = λ k e. (and_parts (has_bit decided.picked k) (has_bit decided.sends k)
              (sym (both_members decided.picked decided.sends k) ∙ ap (λ m. has_bit m k) (sym (λ x. (settled.verdicts x).moved)) ∙ e)).0;
        }

    -- ---- what it shows
    module _ (apart : (i : ℕ) → has_bit a.inputs.active i ≡ true → has_bit a.waiting i ≡ false) where
      idles : (i : ℕ) → has_bit s.column.active i ≡ true → has_bit s.column.waiting i ≡ false
      idles i e = ap (λ m. has_bit m i) (waiting-is ∙ sym shows.waiting) ∙ apart i (ap (λ m. has_bit m i) (sym active-is) ∙ e)

      not-both : (i : ℕ) → (has_bit s.column.waiting i && has_bit s.column.active i) ≡ false
      not-both i = at (has_bit s.column.active i) refl
        where
          at : (b : Bool) → has_bit s.column.active i ≡ b → (has_bit s.column.waiting i && b) ≡ false
          at true e = ap (λ x. x && true) (idles i e)
          at false e = and-false (has_bit s.column.waiting i)

      not-head : (i : ℕ) → has_bit s.column.waiting i ≡ true → has_bit (lane_heads s.filled s.column) i ≡ false
      not-head i e =
          less_members s.filled (bit_or s.column.waiting s.column.active) i
          ∙ ap (λ b. has_bit s.filled i && not b) (either_members s.column.waiting s.column.active i ∙ ap (λ b. b || has_bit s.column.active i) e)
          ∙ and-false (has_bit s.filled i)

      set-is : (i : ℕ) → has_bit s.column.waiting i ≡ true → n.set i ≡ s.marks.set i
      set-is i e =
          (λ x. (done.rest x).set i) ∙ (λ x. sym did.set x i) ∙ did.choice.routed.kept i (not-head i e)
          ∙ by-asks (λ (b : Allocation). b.marks.set i ≡ s.marks.set i) (λ has x. has.marks.rest.set x i) refl

      taken-kept : (i : ℕ) → has_bit s.column.active i ≡ true → did.chosen.marks.taken i ≡ s.marks.taken i
      taken-kept i e =
          (λ x. (did.choice.routed.rest x).taken i)
          ∙ by-asks (λ (b : Allocation). b.marks.taken i ≡ s.marks.taken i) (λ has. keeps-taken _ _ _ _ has i (idles i e)) refl

      owns : (i : ℕ) → has_bit s.column.active i ≡ true → has_bit (bit_or a.inputs.active granted) i ≡ true
      owns i e = either_members a.inputs.active granted i ∙ ap (λ b. b || has_bit granted i) (ap (λ m. has_bit m i) (sym active-is) ∙ e)

      abbrev vcs : ℕ
      vcs = pattern.table.ports.links.vcs

      port-is : (i : ℕ) → h.out_port i ≡ n.out_port i
      port-is i = λ x. sym (λ y. (done.rest y).out_port i) x

      vc-is : (i : ℕ) → h.out_vc i ≡ n.out_vc i
      vc-is i = λ x. sym (λ y. (done.rest y).out_vc i) x

      -- where these output channels give the same as those that were idle
      pub shows-found : (outs : ℕ) → ((i : ℕ) → has_bit s.column.waiting i ≡ true → asked_of s.column.idle (s.marks.set i) ≡ asked_of outs (s.marks.set i))
          → ShowsFound vcs s.column s.marks outs n
      shows-found outs same = record {
        apart = not-both;
        asked = λ i e. ap (asked_of outs) (set-is i e) ∙ sym (same i e);
        packet = λ i. (λ x. (done.rest x).packet i) ∙ (λ x. did.packet x i) ∙ (λ x. sym shows.marks.packet x i);
        taken = λ i e. sym (taken-kept i e) ∙ did.owned.sends.taken i (owns i e) ∙ (λ x. 2 ^ (port-is i x * vcs + vc-is i x));
        number = λ i e.
            let few = pattern.table.few in
            let port = did.owned.sends.port i (owns i e) in
            let vc = did.owned.sends.vc i (owns i e) in
            let all : vcs * (pattern.table.ports.links.width + 1) ≡ (pattern.table.ports.links.width + 1) * vcs = omega arith in
            let below : h.out_port i * vcs + h.out_vc i < 64 = omega (arith, mul-add-lt (h.out_port i) vcs (h.out_vc i) (pattern.table.ports.links.width + 1) port vc, all, few) in (
              subst (λ m. m < vcs) (vc-is i) vc,
              subst (λ m. m < 64) (λ x. port-is i x * vcs + vc-is i x) below,
            );
      }

    -- ---- a waiting channel asks for an output channel that is granted
    module _ (below : MembersAreBelow ((pattern.table.ports.links.width + 1) * pattern.table.ports.links.vcs) a.waiting)
        (idles_below : MembersAreBelow ((pattern.table.ports.links.width + 1) * pattern.table.ports.links.vcs) a.idle)
        (wanted : (i o : ℕ) → has_bit a.waiting i ≡ true → has_bit (a.set i) o ≡ true → has_bit a.wanted o ≡ true)
      where
        abbrev size : ℕ
        size = (pattern.table.ports.links.width + 1) * pattern.table.ports.links.vcs

        abbrev width : ℕ
        width = pattern.table.ports.links.vcs

        abbrev number : ℕ → ℕ
        number k = h.out_port k * width + h.out_vc k

        abbrev outs : ℕ
        outs = outs_of size width granted h

        waits-same : s.column.waiting ≡ a.waiting
        waits-same = waiting-is ∙ sym shows.waiting

        idle-same : s.column.idle ≡ a.idle
        idle-same = λ x. (shows.column x).idle

        idle-fits : s.column.idle < 2 ^ 64
        idle-fits =
            let few = pattern.table.few in
            subst (λ m. m < 2 ^ 64) (sym idle-same) (below_fits 64 a.idle (λ k e. let l : k < size = idles_below k e in omega arith))

        waits-below : MembersAreBelow size s.column.waiting
        waits-below k e = below k (ap (λ m. has_bit m k) (sym waits-same) ∙ e)

        owned : (k : ℕ) → has_bit granted k ≡ true → has_bit (bit_or a.inputs.active granted) k ≡ true
        owned k e = either_members a.inputs.active granted k ∙ ap (λ b. has_bit a.inputs.active k || b) e ∙ or-true (has_bit a.inputs.active k)

        number-fits : (k : ℕ) → has_bit granted k ≡ true → number k < 64
        number-fits k e =
            let few = pattern.table.few in
            let port = did.owned.sends.port k (owned k e) in
            let vc = did.owned.sends.vc k (owned k e) in
            let all : width * (pattern.table.ports.links.width + 1) ≡ size = omega arith in
            omega (arith, mul-add-lt (h.out_port k) width (h.out_vc k) (pattern.table.ports.links.width + 1) port vc, all, few)

        -- the number of who has won is that of the output channel
        won-number : (has : HasAllocated size (λ o. o / width) (undecided s) between) (o k : ℕ) → o < 64 → has_bit has.outs o ≡ true → has_bit (winner has.requests s.marks o) k ≡ true
            → has_bit granted k ≡ true → o ≡ number k
        won-number has o k low out won e =
            sym (least-power o low)
            ∙ ap least (sym (has.marks.bound o k out won).taken ∙ sym (λ x. (did.choice.routed.rest x).taken k) ∙ did.owned.sends.taken k (owned k e))
            ∙ least-power (number k) (number-fits k e)

        outs-members : (o : ℕ) → has_bit outs o ≡ some_below size (λ k. has_bit (if has_bit granted k then 2 ^ number k else 0) o)
        outs-members o = union-members 0 size (λ k. if has_bit granted k then 2 ^ number k else 0) o ∙ ap (λ b. b || some_below size (λ k. has_bit (if has_bit granted k then 2 ^ number k else 0) o)) (has_bit-zero o)

        -- an output channel that is granted has a channel with its number
        given-by : (o : ℕ) → has_bit outs o ≡ true → (k : ℕ) × (has_bit granted k ≡ true) × (o ≡ number k)
        given-by o e = at (find-first size (λ k. has_bit (if has_bit granted k then 2 ^ number k else 0) o))
          where
            at : Found size (λ k. has_bit (if has_bit granted k then 2 ^ number k else 0) o) → (k : ℕ) × (has_bit granted k ≡ true) × (o ≡ number k)
            at (inl nobody) = absurd (true≢false (sym e ∙ outs-members o ∙ nobody))
            at (inr found) = by (has_bit granted found.0) refl
              where
                by : (g : Bool) → has_bit granted found.0 ≡ g → (k : ℕ) × (has_bit granted k ≡ true) × (o ≡ number k)
                by true is = (found.0, is, eqb-true o (number found.0) (sym (ap (λ b. has_bit (if b then 2 ^ number found.0 else 0) o) is ∙ power-members (number found.0) o) ∙ found.2))
                by false is = absurd (false≢true (sym (ap (λ b. has_bit (if b then 2 ^ number found.0 else 0) o) is ∙ has_bit-zero o) ∙ found.2))

        gives : (o k : ℕ) → has_bit granted k ≡ true → o ≡ number k → has_bit outs o ≡ true
        gives o k e same =
            outs-members o
            ∙ some-each size (λ j. has_bit (if has_bit granted j then 2 ^ number j else 0) o) k (waits-below k (granted-waits k e))
            (ap (λ b. has_bit (if b then 2 ^ number k else 0) o) e ∙ power-members (number k) o ∙ eq-eqb o (number k) same)

        pub asks-for-granted : (i : ℕ) → has_bit s.column.waiting i ≡ true → asked_of s.column.idle (s.marks.set i) ≡ asked_of outs (s.marks.set i)
        asks-for-granted i waits = at (cases_eq (lane_asks s.column) 0)
          where
            outs-fit : AreAmong s.column.idle outs → outs < 2 ^ 64
            outs-fit among = below_fits 64 outs (λ k e. in-word s.column.idle k idle-fits (among k e))

            at : (lane_asks s.column ≡ 0) ⊎ (lane_asks s.column ≢ 0) → asked_of s.column.idle (s.marks.set i) ≡ asked_of outs (s.marks.set i)
            at (inl zero) =
                let none : granted ≡ 0 = granted-is ∙ (λ x. (did.choice.unasked zero x).granted) in
                let among : AreAmong s.column.idle outs = λ o e.
                let k = given-by o e in absurd (false≢true (sym (has_bit-zero k.0) ∙ ap (λ m. has_bit m k.0) (sym none) ∙ k.1)) in
                let some : s.column.waiting ≢ 0 = λ z. false≢true (sym (has_bit-zero i) ∙ ap (λ m. has_bit m i) (sym z) ∙ waits) in
                let no-asks : bit_and s.column.wanted s.column.idle ≡ 0 =
                sym (ap (λ b. if b then 0 else bit_and s.column.wanted s.column.idle) (ne_eqb s.column.waiting 0 some)) ∙ zero in
                let want : s.column.wanted ≡ a.wanted = λ x. (shows.column x).wanted in
                asked-same s.column.idle outs (s.marks.set i) idle-fits (outs-fit among) among (λ o asks.
                let one = asked-one s.column.idle (s.marks.set i) o idle-fits asks in
                let wants : has_bit s.column.wanted o ≡ true =
                ap (λ m. has_bit m o) want ∙ wanted i o (ap (λ m. has_bit m i) (sym waits-same) ∙ waits) (ap (λ m. has_bit m o) (λ x. sym shows.marks.set x i) ∙ one.0) in
                absurd (false≢true (sym (has_bit-zero o) ∙ ap (λ m. has_bit m o) (sym no-asks) ∙ both_members s.column.wanted s.column.idle o ∙ ap₂ (λ x y. x && y) wants one.1)))
            at (inr other) =
                let has = did.choice.asked other in
                let few = pattern.table.few in
                let among : AreAmong s.column.idle outs = λ o e.
                let k = given-by o e in
                let won = winner-of size (λ o. o / width) (undecided s) between has few waits-below k.0 (ap (λ m. has_bit m k.0) (sym granted-is) ∙ k.1) in
                let same : won.0 ≡ o = won-number has won.0 k.0 (in-word has.outs won.0 has.outs_fit won.1) won.1 won.2 k.1 ∙ sym k.2 in
                subst (λ m. has_bit s.column.idle m ≡ true) same
                (asks-idle (has_bit s.column.waiting) s.column.idle s.marks.set has.requests has.outs has.inputs has.wanted has.asks has.outs_fit idle-fits won.0 won.1) in
                asked-same s.column.idle outs (s.marks.set i) idle-fits (outs-fit among) among (λ o asks.
                let low = (asked-one s.column.idle (s.marks.set i) o idle-fits asks).2 in
                let won = asked-won size (λ o. o / width) (undecided s) between has few waits-below i o waits asks low in
                let e : has_bit granted won.0 ≡ true = ap (λ m. has_bit m won.0) granted-is ∙ has.marks.given o won.0 won.1 won.2 in
                gives o won.0 e (won-number has o won.0 low won.1 won.2 e))
