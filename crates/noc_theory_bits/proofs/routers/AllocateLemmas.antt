-- What allocation decides of a router is what the round of its frozen view has.
use Rattle.std.proofs.Common.{◌≡◌, ◌≢◌, ℕ, ◌+◌, ◌/◌, ◌%◌, ◌^◌, ◌<◌, ◌≤◌, Bool, true, false, length, get_or, Option, Some, None, refl, ap, ap₂, sym, ◌∙◌, subst, arith, inl, inr, bit_and, bit_or}
use Rattle.std.specs.Prelude.{◌⊎◌, ◌&&◌, ◌||◌, not, is_some, nat_eq, slice_index_or, if◌then◌else◌}
use Rattle.noc_alloc.specs.Arbiter.{first_in_turn}
use Rattle.noc_alloc.specs.Allocation.{grant_of}
use Rattle.noc_alloc.proofs.ArbiterLemmas.{first_in_turn-same, first_in_turn-none}
use Rattle.noc_view.specs.Verdict.{asks_of}
use Rattle.noc_view.proofs.FindLemmas.{find-some}
use Rattle.noc_view.proofs.StandLemmas.{asks_of-stands}
use Rattle.noc_sets.specs.Turns.{in_turn}
use Rattle.noc_sets.specs.Grants.{HasAllocated, KeepsInput, ShowsGrants, winner}
use Rattle.noc_sets.specs.Passes.{lane_asks}
use Rattle.noc_sets.proofs.AskLemmas.{asked-is}
use Rattle.noc_sets.proofs.MemberLemmas.{eq-turned, or-false, same-word, above_64, and-true}
use Rattle.noc_sets.proofs.TurnLemmas.{first-among, first-is, first-members, mask-past}
use Rattle.noc_theory_bits.proofs.Common.{cases_eq, cases_lt, eq-eqb, ne_eqb, eqb-true, false≢true, true≢false, and_parts, pow_below, get_or-map, is_some_of, ports, get_or-tabulate, get_or-map_indexed, has_bit, has_bit-zero, both_members, RoundRobin, arbiter_at, arbiter_after, pointer_after, pointers_of, MembersAreBelow, is_given, is_waiting, is_free, InputState, Idle, Waiting, Active, ask_of, arbiters_after, View, size_of, claim_in, view_claim, view_input, view_output, view_round, view_stands, less, least, Column, RouterMarks, IsColumn, ShowsPhase, sends_by, ShowsPointer, Allocation, asked_of, phase_granted, with_grant, or-zero, below_fits, least_is, less_members, power-members}
use Rattle.noc_theory_bits.proofs.network.PointerLemmas.{AreTurns}

some-of : (o : Option ℕ) (x : ℕ) → is_some_of o x ≡ true → o ≡ Some x
some-of None x e = absurd (false≢true e)
some-of (Some y) x e = ap Some (eqb-true y x e)

module _ {count : ℕ} (c : Column) (m : RouterMarks) (v : View) (shows : IsColumn count c m v) (few : size_of v.site ≤ 63) where
  -- what a channel asks for
  pub ask-at : (k : ℕ) → k < size_of v.site → (test : Option ℕ → Bool) → test None ≡ false → (has_bit c.waiting k && test (asked_of c.idle (m.set k))) ≡ test (ask_of (view_claim v k))
  ask-at k l test none = at (view_input v k).phase refl
    where
      at : (phase : InputState) → (view_input v k).phase ≡ phase → (has_bit c.waiting k && test (asked_of c.idle (m.set k))) ≡ test (ask_of (claim_in v (view_input v k).phase))
      at Idle e =
          let off : has_bit c.waiting k ≡ false = (shows.channels.inputs k l).waiting ∙ ap is_waiting e in
          ap (λ b. b && test (asked_of c.idle (m.set k))) off ∙ sym (ap (λ p. test (ask_of (claim_in v p))) e ∙ none)
      at (Waiting set) e =
          let on : has_bit c.waiting k ≡ true = (shows.channels.inputs k l).waiting ∙ ap is_waiting e in
          let is = subst (ShowsPhase c m v.site k) e (shows.marks.phases k l) in
          ap (λ b. b && test (asked_of c.idle (m.set k))) on
          ∙ ap (λ s. test (asked_of c.idle s)) is.0
          ∙ ap test (sym (asked-is v c.idle set is.1 shows.channels.idle_below (λ o lo. (shows.channels.outputs o lo).idle)))
          ∙ sym (ap (λ p. test (ask_of (claim_in v p))) e)
      at (Active o) e =
          let off : has_bit c.waiting k ≡ false = (shows.channels.inputs k l).waiting ∙ ap is_waiting e in
          ap (λ b. b && test (asked_of c.idle (m.set k))) off ∙ sym (ap (λ p. test (ask_of (claim_in v p))) e ∙ none)

  -- the grants of the round, by the asks of the channels
  pub grants-at : (o : ℕ) → o < size_of v.site → (asks : ℕ → Bool) → ((k : ℕ) → k < size_of v.site → asks k ≡ is_some_of (ask_of (view_claim v k)) o) → length v.arbiters.channels ≡ size_of v.site
      → slice_index_or (view_round v).grants o None ≡ first_in_turn (size_of v.site) (arbiter_at v.arbiters.channels o).pointer asks
  unfolding view_round
  grants-at o l asks same count =
      get_or-tabulate (size_of v.site) o (grant_of (asks_of (view_stands v)) (size_of v.site) (pointers_of v.arbiters.channels)) None l
      ∙ ap (λ p. first_in_turn (size_of v.site) p (λ i. is_some_of (slice_index_or (asks_of (view_stands v)) i None) o)) (get_or-map (λ (t : RoundRobin). t.pointer) v.arbiters.channels o (record { size = 0; pointer = 0 }) 0 (omega (arith, count)))
      ∙ sym (first_in_turn-same (size_of v.site) (arbiter_at v.arbiters.channels o).pointer asks (λ i. is_some_of (slice_index_or (asks_of (view_stands v)) i None) o)
      (λ k lk. same k lk ∙ ap (λ a. is_some_of a o) (sym (ap (λ xs. get_or xs k None) (asks_of-stands v) ∙ get_or-tabulate (size_of v.site) k (λ i. ask_of (view_claim v i)) None lk))))

  -- nobody is granted a channel that nobody asks for
  pub grants-none : (o : ℕ) → o < size_of v.site → ((k : ℕ) → k < size_of v.site → is_some_of (ask_of (view_claim v k)) o ≡ false) → length v.arbiters.channels ≡ size_of v.site → slice_index_or (view_round v).grants o None ≡ None
  grants-none o l none count = grants-at o l (λ k. false) (λ k lk. sym (none k lk)) count ∙ first_in_turn-none (size_of v.site) (arbiter_at v.arbiters.channels o).pointer (λ k. false) (λ k lk. refl)

-- ---- in a router in which something is asked for
module _ {count : ℕ} (v : View) (a b : Allocation) (port : ℕ → ℕ) (shows : IsColumn count a.column a.marks v) (few : size_of v.site ≤ 63) (turns : AreTurns (size_of v.site) (size_of v.site) v.arbiters.channels)
    (ports_are : (o : ℕ) → o < size_of v.site → port o ≡ o / v.site.vcs)
    (has : HasAllocated (size_of v.site) port a b) where
  requests-at : (o k : ℕ) → o < size_of v.site → k < size_of v.site → has_bit (has.requests o) k ≡ is_some_of (ask_of (view_claim v k)) o
  requests-at o k lo lk = has.asks.asked o k (omega (arith, few)) ∙ ask-at a.column a.marks v shows few k lk (λ ask. is_some_of ask o) refl

  requests-below : (o : ℕ) → o < size_of v.site → MembersAreBelow (size_of v.site) (has.requests o)
  requests-below o lo k e = shows.channels.waiting_below k (and_parts (has_bit a.column.waiting k) (is_some_of (asked_of a.column.idle (a.marks.set k)) o) (sym (has.asks.asked o k (omega (arith, few))) ∙ e)).0

  small : (word : ℕ) → MembersAreBelow (size_of v.site) word → word < 2 ^ 64
  small word below = omega (arith, below_fits (size_of v.site) word below, pow_below (size_of v.site) 64 (omega (arith, few)))

  -- the winner of an output channel is the one that the round grants it to
  wins-at : (o k : ℕ) → o < size_of v.site → has_bit (winner has.requests a.marks o) k ≡ is_some_of (slice_index_or (view_round v).grants o None) k
  wins-at o k lo =
      first-members (size_of v.site) (arbiter_at v.arbiters.channels o).pointer (has.requests o) (a.marks.turn o) (small (has.requests o) (requests-below o lo)) (requests-below o lo) (turns.pointers o lo) (shows.turns.channels o lo) k
      ∙ ap (λ w. is_some_of w k) (sym (grants-at a.column a.marks v shows few o lo (has_bit (has.requests o)) (λ i li. requests-at o i lo li) turns.count))

  outs-below : (o : ℕ) → has_bit has.outs o ≡ true → o < 64 → (k : ℕ) → has_bit (winner has.requests a.marks o) k ≡ true → (k < size_of v.site) × (o < size_of v.site) × (ask_of (view_claim v k) ≡ Some o)
  outs-below o e small_o k won =
      let parts = and_parts (has_bit a.column.waiting k) (is_some_of (asked_of a.column.idle (a.marks.set k)) o) (sym (has.asks.asked o k small_o) ∙ first-among (has.requests o) (a.marks.turn o) k won) in
      let lk : k < size_of v.site = shows.channels.waiting_below k parts.0 in
      (lk, idle-of, some-of (ask_of (view_claim v k)) o (sym (ask-at a.column a.marks v shows few k lk (λ ask. is_some_of ask o) refl) ∙ ap (λ x. x && is_some_of (asked_of a.column.idle (a.marks.set k)) o) parts.0 ∙ parts.1))
    where
      idle-of : o < size_of v.site
      idle-of = at (cases_eq (bit_and (a.marks.set k) a.column.idle) 0)
        where
          below : MembersAreBelow (size_of v.site) (bit_and (a.marks.set k) a.column.idle)
          below i h = shows.channels.idle_below i (and_parts (has_bit (a.marks.set k) i) (has_bit a.column.idle i) (sym (both_members (a.marks.set k) a.column.idle i) ∙ h)).1

          test : is_some_of (asked_of a.column.idle (a.marks.set k)) o ≡ true
          test = (and_parts (has_bit a.column.waiting k) (is_some_of (asked_of a.column.idle (a.marks.set k)) o) (sym (has.asks.asked o k small_o) ∙ first-among (has.requests o) (a.marks.turn o) k won)).1

          at : (bit_and (a.marks.set k) a.column.idle ≡ 0) ⊎ (bit_and (a.marks.set k) a.column.idle ≢ 0) → o < size_of v.site
          at (inl z) = absurd (false≢true (sym (ap (λ x. is_some_of (if x then None else Some (least (bit_and (a.marks.set k) a.column.idle))) o) (eq-eqb (bit_and (a.marks.set k) a.column.idle) 0 z)) ∙ test))
          at (inr some) =
              let is : least (bit_and (a.marks.set k) a.column.idle) ≡ o =
              eqb-true (least (bit_and (a.marks.set k) a.column.idle)) o (sym (ap (λ x. is_some_of (if x then None else Some (least (bit_and (a.marks.set k) a.column.idle))) o) (ne_eqb (bit_and (a.marks.set k) a.column.idle) 0 some)) ∙ test) in
              subst (λ n. n < size_of v.site) is (below (least (bit_and (a.marks.set k) a.column.idle)) (least_is (bit_and (a.marks.set k) a.column.idle) (omega arith) (small (bit_and (a.marks.set k) a.column.idle) below)).0)

  -- who wins an output channel that is asked for has asked for it
  pub asker : (o k : ℕ) → has_bit has.outs o ≡ true → has_bit (winner has.requests a.marks o) k ≡ true → (k < size_of v.site) × (o < size_of v.site) × (ask_of (view_claim v k) ≡ Some o)
  asker o k e won = at (cases_lt o 64)
    where
      at : (o < 64) ⊎ (64 ≤ o) → (k < size_of v.site) × (o < size_of v.site) × (ask_of (view_claim v k) ≡ Some o)
      at (inl l) = outs-below o e l k won
      at (inr u) = absurd (true≢false (sym e ∙ above_64 has.outs o has.outs_fit u))

  -- what is asked for is an output channel of the router
  asked-below : (k : ℕ) → k < size_of v.site → (o : ℕ) → ask_of (view_claim v k) ≡ Some o → o < size_of v.site
  asked-below k lk o e = at (view_input v k).phase e
    where
      at : (phase : InputState) → ask_of (claim_in v phase) ≡ Some o → o < size_of v.site
      at Idle h = absurd (false≢true (ap is_some h))
      at (Waiting set) h = (find-some (λ i. has_bit set i && is_free (view_output v i).holder) (size_of v.site) o h).1
      at (Active x) h = absurd (false≢true (ap is_some h))

  -- an output channel that has a request is asked for
  asked-out : (o k : ℕ) → o < size_of v.site → has_bit (has.requests o) k ≡ true → has_bit has.outs o ≡ true
  asked-out o k lo e = has.asks.asked_for o (omega (arith, few)) ∙ ap not (ne_eqb (has.requests o) 0 (λ z. false≢true (sym (ap (λ n. has_bit n k) z ∙ has_bit-zero k) ∙ e)))

  -- a channel to which the round gives nothing wins nothing
  wins-none : (k : ℕ) → k < size_of v.site → is_given (view_round v).grants (ask_of (view_claim v k)) k ≡ false → (o : ℕ) → has_bit has.outs o ≡ true → has_bit (winner has.requests a.marks o) k ≡ false
  wins-none k lk none o e = at (has_bit (winner has.requests a.marks o) k) refl
    where
      at : (x : Bool) → has_bit (winner has.requests a.marks o) k ≡ x → x ≡ false
      at false h = refl
      at true h =
          let who = asker o k e h in
          absurd (true≢false (sym h ∙ wins-at o k who.1 ∙ sym (ap (λ ask. is_given (view_round v).grants ask k) who.2) ∙ none))

  given-at : (o k : ℕ) → o < size_of v.site → slice_index_or (view_round v).grants o None ≡ Some k → (has_bit (winner has.requests a.marks o) k ≡ true) × (has_bit has.outs o ≡ true) × (k < size_of v.site) × (ask_of (view_claim v k) ≡ Some o)
  given-at o k lo is =
      let won : has_bit (winner has.requests a.marks o) k ≡ true = wins-at o k lo ∙ ap (λ w. is_some_of w k) is ∙ eq-eqb k k refl in
      let out = asked-out o k lo (first-among (has.requests o) (a.marks.turn o) k won) in
      let who = asker o k out won in
      (won, out, who.0, who.2)

  -- an output channel that the round does not grant has no winner
  not-out : (o : ℕ) → o < size_of v.site → slice_index_or (view_round v).grants o None ≡ None → has_bit has.outs o ≡ false
  not-out o lo is = has.asks.asked_for o (omega (arith, few)) ∙ ap not (eq-eqb (has.requests o) 0 (empty (cases_lt 0 (has.requests o))))
    where
      empty : (0 < has.requests o) ⊎ (has.requests o ≤ 0) → has.requests o ≡ 0
      empty (inr z) = omega arith
      empty (inl some) =
          let first = first-is (has.requests o) (a.marks.turn o) some (small (has.requests o) (requests-below o lo)) in
          absurd (false≢true (sym (wins-at o (least (in_turn (has.requests o) (a.marks.turn o))) lo ∙ ap (λ w. is_some_of w (least (in_turn (has.requests o) (a.marks.turn o)))) is)
          ∙ ap (λ n. has_bit n (least (in_turn (has.requests o) (a.marks.turn o)))) first.2 ∙ power-members (least (in_turn (has.requests o) (a.marks.turn o))) (least (in_turn (has.requests o) (a.marks.turn o))) ∙ eq-eqb (least (in_turn (has.requests o) (a.marks.turn o))) (least (in_turn (has.requests o) (a.marks.turn o))) refl))

  pub granted-is : (k : ℕ) → k < size_of v.site → has_bit b.granted k ≡ is_given (view_round v).grants (ask_of (view_claim v k)) k
  granted-is k lk = at (is_given (view_round v).grants (ask_of (view_claim v k)) k) refl
    where
      gets : (ask : Option ℕ) → ask_of (view_claim v k) ≡ ask → is_given (view_round v).grants ask k ≡ true → has_bit b.granted k ≡ true
      gets None e g = absurd (false≢true g)
      gets (Some o) e g =
          let lo : o < size_of v.site = asked-below k lk o e in
          let got = given-at o k lo (some-of (slice_index_or (view_round v).grants o None) k g) in
          has.marks.given o k got.1 got.0

      at : (x : Bool) → is_given (view_round v).grants (ask_of (view_claim v k)) k ≡ x → has_bit b.granted k ≡ x
      at false e = has.marks.none k (wins-none k lk e)
      at true e = gets (ask_of (view_claim v k)) refl e

  pub lost-is : (k : ℕ) → k < size_of v.site → has_bit b.lost k ≡ (not (has_bit b.granted k) && is_some (ask_of (view_claim v k)))
  lost-is k lk =
      ap (λ n. has_bit n k) has.lost ∙ less_members has.inputs b.granted k
      ∙ ap (λ x. x && not (has_bit b.granted k)) (has.asks.asking k ∙ ask-at a.column a.marks v shows few k lk is_some refl)
      ∙ and-turned (is_some (ask_of (view_claim v k))) (not (has_bit b.granted k))
    where
      inputs-below : MembersAreBelow (size_of v.site) has.inputs
      inputs-below i e = shows.channels.waiting_below i (and_parts (has_bit a.column.waiting i) (is_some (asked_of a.column.idle (a.marks.set i))) (sym (has.asks.asking i) ∙ e)).0

      and-turned : (x y : Bool) → (x && y) ≡ (y && x)
      and-turned true true = refl
      and-turned true false = refl
      and-turned false true = refl
      and-turned false false = refl

  pub taken-is : (o : ℕ) → o < size_of v.site → has_bit has.outs o ≡ is_some (slice_index_or (view_round v).grants o None)
  taken-is o lo = at (slice_index_or (view_round v).grants o None) refl
    where
      at : (grant : Option ℕ) → slice_index_or (view_round v).grants o None ≡ grant → has_bit has.outs o ≡ is_some grant
      at None is = not-out o lo is
      at (Some k) is = (given-at o k lo is).1

  pub turns-show : (o : ℕ) → o < size_of v.site → ShowsPointer (size_of v.site) (b.marks.turn o) 0 (arbiter_at (arbiters_after (view_round v) v.arbiters).channels o).pointer
  turns-show o lo = subst (λ n. ShowsPointer (size_of v.site) (b.marks.turn o) 0 n) (sym pointer) (at (slice_index_or (view_round v).grants o None) refl)
    where
      pointer : (arbiter_at (arbiters_after (view_round v) v.arbiters).channels o).pointer ≡ pointer_after (arbiter_at v.arbiters.channels o).size (arbiter_at v.arbiters.channels o).pointer (slice_index_or (view_round v).grants o None)
      pointer =
          ap (λ (t : RoundRobin). t.pointer)
          (get_or-map_indexed (λ i (t : RoundRobin). arbiter_after t (slice_index_or (view_round v).grants i None)) v.arbiters.channels o (record { size = 0; pointer = 0 }) (record { size = 0; pointer = 0 }) (omega (arith, turns.count)))

      at : (grant : Option ℕ) → slice_index_or (view_round v).grants o None ≡ grant
          → ShowsPointer (size_of v.site) (b.marks.turn o) 0 (pointer_after (arbiter_at v.arbiters.channels o).size (arbiter_at v.arbiters.channels o).pointer (slice_index_or (view_round v).grants o None))
      at None is =
          subst (λ (grant : Option ℕ). ShowsPointer (size_of v.site) (b.marks.turn o) 0 (pointer_after (arbiter_at v.arbiters.channels o).size (arbiter_at v.arbiters.channels o).pointer grant)) (sym is)
          (subst (λ n. ShowsPointer (size_of v.site) n 0 (arbiter_at v.arbiters.channels o).pointer) (sym (has.marks.outputs o (not-out o lo is)).turn) (shows.turns.channels o lo))
      at (Some k) is =
          let got = given-at o k lo is in
          subst (λ (grant : Option ℕ). ShowsPointer (size_of v.site) (b.marks.turn o) 0 (pointer_after (arbiter_at v.arbiters.channels o).size (arbiter_at v.arbiters.channels o).pointer grant)) (sym is)
          (subst (λ n. ShowsPointer (size_of v.site) (b.marks.turn o) 0 ((k + 1) % n)) (sym (turns.sizes o lo))
          (mask-past (size_of v.site) k (b.marks.turn o) got.2 (λ i li. has.marks.turns o k i got.1 got.0 li)))

  -- an input channel that is granted nothing is shown as before
  stays : (k : ℕ) → k < size_of v.site → ((o : ℕ) → has_bit has.outs o ≡ true → has_bit (winner has.requests a.marks o) k ≡ false)
      → ShowsPhase b.column b.marks v.site k (view_input v k).phase × ((q : ℕ) → q < ports v.site.grid → has_bit (b.marks.to_port q) k ≡ sends_by v.site.vcs q (view_input v k).phase)
  stays k lk none = (at (view_input v k).phase refl, λ q lq. kept.to_port q ∙ shows.marks.to_port q k lq lk)
    where
      kept : KeepsInput a.marks b.marks k
      kept = has.marks.inputs k none

      at : (phase : InputState) → (view_input v k).phase ≡ phase → ShowsPhase b.column b.marks v.site k phase
      at Idle e = tt
      at (Waiting set) e =
          let was = subst (ShowsPhase a.column a.marks v.site k) e (shows.marks.phases k lk) in
          let on : has_bit a.column.waiting k ≡ true = (shows.channels.inputs k lk).waiting ∙ ap is_waiting e in (
            ap (λ (f : ℕ → ℕ). f k) has.marks.rest.set ∙ was.0,
            was.1,
            λ o h. ap (λ (x : Column). has_bit x.wanted o) has.column ∙ has.asks.wanted o k on (ap (λ n. has_bit n o) was.0 ∙ h),
          )
      at (Active o) e =
          let was = subst (ShowsPhase a.column a.marks v.site k) e (shows.marks.phases k lk) in
          kept.taken ∙ was

  -- what the marks have of input channel k: its output channel where it is granted one, and else
  -- what they had
  input-shows : (k : ℕ) → k < size_of v.site → (ask : Option ℕ) → ask_of (view_claim v k) ≡ ask → (x : Bool) → is_given (view_round v).grants ask k ≡ x
      → ShowsPhase b.column b.marks v.site k (with_grant (view_round v).grants ask k (view_input v k).phase)
      × ((q : ℕ) → q < ports v.site.grid → has_bit (b.marks.to_port q) k ≡ sends_by v.site.vcs q (with_grant (view_round v).grants ask k (view_input v k).phase))
  input-shows k lk None e x g = stays k lk (wins-none k lk (ap (λ ask. is_given (view_round v).grants ask k) e))
  input-shows k lk (Some o) e false g =
      subst (λ (phase : InputState). ShowsPhase b.column b.marks v.site k phase × ((q : ℕ) → q < ports v.site.grid → has_bit (b.marks.to_port q) k ≡ sends_by v.site.vcs q phase))
      (sym (ap (λ y. if y then Active o else (view_input v k).phase) g))
      (stays k lk (wins-none k lk (ap (λ ask. is_given (view_round v).grants ask k) e ∙ g)))
  input-shows k lk (Some o) e true g =
      let lo : o < size_of v.site = asked-below k lk o e in
      let got = given-at o k lo (some-of (slice_index_or (view_round v).grants o None) k g) in
      let bound = has.marks.bound o k got.1 got.0 in
      subst (λ (phase : InputState). ShowsPhase b.column b.marks v.site k phase × ((q : ℕ) → q < ports v.site.grid → has_bit (b.marks.to_port q) k ≡ sends_by v.site.vcs q phase))
      (sym (ap (λ y. if y then Active o else (view_input v k).phase) g)) (
        bound.taken,
        λ q lq. bound.to_port q ∙ ap (λ y. nat_eq q (port o) || y) (shows.marks.to_port q k lq lk ∙ quiet q (view_input v k).phase e) ∙ or-false (nat_eq q (port o)) ∙ eq-turned q (port o) ∙ ap (λ n. nat_eq n q) (ports_are o lo),
      )
    where
      quiet : (q : ℕ) (phase : InputState) → ask_of (claim_in v phase) ≡ Some o → sends_by v.site.vcs q phase ≡ false
      quiet q Idle h = refl
      quiet q (Waiting set) h = refl
      quiet q (Active y) h = absurd (false≢true (ap is_some h))

  pub phases-show : (k : ℕ) → k < size_of v.site → ShowsPhase b.column b.marks v.site k (phase_granted v k)
  phases-show k lk = (input-shows k lk (ask_of (view_claim v k)) refl (is_given (view_round v).grants (ask_of (view_claim v k)) k) refl).0

  pub ports-show : (q k : ℕ) → q < ports v.site.grid → k < size_of v.site → has_bit (b.marks.to_port q) k ≡ sends_by v.site.vcs q (phase_granted v k)
  ports-show q k lq lk = (input-shows k lk (ask_of (view_claim v k)) refl (is_given (view_round v).grants (ask_of (view_claim v k)) k) refl).1 q lq

  pub allocated : ShowsGrants a b has.outs v
  allocated = record {
    granted = granted-is;
    lost = lost-is;
    taken = taken-is;
    column = has.column ∙ ap (λ (w : ℕ). record a.column { wanted = w; idle = less a.column.idle has.outs; supplied = bit_or a.column.supplied b.granted }) (sym (ap (λ (x : Column). x.wanted) has.column));
    turns = turns-show;
    phases = phases-show;
    owners = λ o k lo is. let got = given-at o k lo is in (has.marks.bound o k got.1 got.0).owner;
    others = λ o lo is. (has.marks.outputs o (not-out o lo is)).owner;
    to_port = ports-show;
    port_turn = has.marks.rest.port_turn;
    packet = has.marks.rest.packet;
  }

-- ---- in a router in which no idle channel is wanted
module _ {count : ℕ} (v : View) (a : Allocation) (shows : IsColumn count a.column a.marks v) (few : size_of v.site ≤ 63) (turns : AreTurns (size_of v.site) (size_of v.site) v.arbiters.channels) (quiet : lane_asks a.column ≡ 0) (no_grant : a.granted ≡ 0) (no_loss : a.lost ≡ 0) where
  pub asks-nothing : (k : ℕ) → k < size_of v.site → ask_of (view_claim v k) ≡ None
  asks-nothing k lk = at (view_input v k).phase refl
    where
      at : (phase : InputState) → (view_input v k).phase ≡ phase → ask_of (claim_in v (view_input v k).phase) ≡ None
      at Idle e = ap (λ p. ask_of (claim_in v p)) e
      at (Active o) e = ap (λ p. ask_of (claim_in v p)) e
      at (Waiting set) e =
          let is = subst (ShowsPhase a.column a.marks v.site k) e (shows.marks.phases k lk) in
          let none : bit_and set a.column.idle ≡ 0 = same-word (bit_and set a.column.idle) 0 (λ i. free i (has_bit (bit_and set a.column.idle) i) refl is.2 ∙ sym (has_bit-zero i)) in
          ap (λ p. ask_of (claim_in v p)) e
          ∙ asked-is v a.column.idle set is.1 shows.channels.idle_below (λ o lo. (shows.channels.outputs o lo).idle)
          ∙ ap (λ x. if x then None else Some (least (bit_and set a.column.idle))) (eq-eqb (bit_and set a.column.idle) 0 none)
        where
          free : (i : ℕ) (x : Bool) → has_bit (bit_and set a.column.idle) i ≡ x → ((o : ℕ) → has_bit set o ≡ true → has_bit a.column.wanted o ≡ true) → has_bit (bit_and set a.column.idle) i ≡ false
          free i false h wanted = h
          free i true h wanted =
              let both = and_parts (has_bit set i) (has_bit a.column.idle i) (sym (both_members set a.column.idle i) ∙ h) in
              let waits : has_bit a.column.waiting k ≡ true = (shows.channels.inputs k lk).waiting ∙ ap is_waiting e in
              let some : nat_eq a.column.waiting 0 ≡ false = ne_eqb a.column.waiting 0 (λ z. absurd (true≢false (sym waits ∙ ap (λ n. has_bit n k) z ∙ has_bit-zero k))) in
              let member : has_bit (lane_asks a.column) i ≡ true = ap (λ t. has_bit (if t then 0 else bit_and a.column.wanted a.column.idle) i) some
              ∙ both_members a.column.wanted a.column.idle i ∙ ap₂ (λ x y. x && y) (wanted i both.0) both.1 in
              absurd (true≢false (sym member ∙ ap (λ n. has_bit n i) quiet ∙ has_bit-zero i))

  no-grant : (o : ℕ) → o < size_of v.site → slice_index_or (view_round v).grants o None ≡ None
  no-grant o lo = grants-none a.column a.marks v shows few o lo (λ k lk. ap (λ ask. is_some_of ask o) (asks-nothing k lk)) turns.count

  pub not-allocated : ShowsGrants a a 0 v
  not-allocated = record {
    granted = λ k lk. ap (λ n. has_bit n k) no_grant ∙ has_bit-zero k ∙ sym (ap (λ ask. is_given (view_round v).grants ask k) (asks-nothing k lk));
    lost = λ k lk. ap (λ n. has_bit n k) no_loss ∙ has_bit-zero k ∙ sym (ap (λ ask. not (has_bit a.granted k) && is_some ask) (asks-nothing k lk) ∙ none (not (has_bit a.granted k)));
    taken = λ o lo. has_bit-zero o ∙ sym (ap is_some (no-grant o lo));
    column = ap₂ (λ (i s : ℕ). record a.column { idle = i; supplied = s }) (sym idle) (sym supplied);
    turns = λ o lo. subst (λ n. ShowsPointer (size_of v.site) (a.marks.turn o) 0 n) (sym (pointer o lo)) (shows.turns.channels o lo);
    phases = λ k lk. subst (ShowsPhase a.column a.marks v.site k) (sym (same k lk)) (shows.marks.phases k lk);
    owners = λ o k lo is. absurd (false≢true (ap is_some (sym (no-grant o lo) ∙ is)));
    others = λ o lo is. refl;
    to_port = λ q k lq lk. shows.marks.to_port q k lq lk ∙ ap (sends_by v.site.vcs q) (sym (same k lk));
    port_turn = refl;
    packet = refl;
  }
    where
      none : (x : Bool) → (x && false) ≡ false
      none true = refl
      none false = refl

      idle : less a.column.idle 0 ≡ a.column.idle
      idle = same-word (less a.column.idle 0) a.column.idle (λ k. less_members a.column.idle 0 k ∙ ap (λ x. has_bit a.column.idle k && not x) (has_bit-zero k) ∙ and-true (has_bit a.column.idle k))

      supplied : bit_or a.column.supplied a.granted ≡ a.column.supplied
      supplied = ap (bit_or a.column.supplied) no_grant ∙ or-zero a.column.supplied

      same : (k : ℕ) → k < size_of v.site → phase_granted v k ≡ (view_input v k).phase
      same k lk = ap (λ ask. with_grant (view_round v).grants ask k (view_input v k).phase) (asks-nothing k lk)

      pointer : (o : ℕ) → o < size_of v.site → (arbiter_at (arbiters_after (view_round v) v.arbiters).channels o).pointer ≡ (arbiter_at v.arbiters.channels o).pointer
      pointer o lo =
          ap (λ (t : RoundRobin). t.pointer)
          (get_or-map_indexed (λ i (t : RoundRobin). arbiter_after t (slice_index_or (view_round v).grants i None)) v.arbiters.channels o (record { size = 0; pointer = 0 }) (record { size = 0; pointer = 0 }) (omega (arith, turns.count)))
          ∙ ap (pointer_after (arbiter_at v.arbiters.channels o).size (arbiter_at v.arbiters.channels o).pointer) (no-grant o lo)
