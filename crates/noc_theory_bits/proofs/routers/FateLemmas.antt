-- What becomes of each input channel of a router in a cycle, and which are supplied after it.
use Rattle.std.proofs.Common.{◌≡◌, ℕ, ◌<◌, Bool, true, false, List, [], ◌∷◌, Option, Some, None, IfSome, refl, ap, ap₂, sym, ◌∙◌, arith, bit_or}
use Rattle.std.specs.Prelude.{◌&&◌, ◌||◌, not, is_some, nat_lt, slice_get, slice_index, slice_index_or, if◌then◌else◌}
use Rattle.noc_vc.specs.Output.{has_credit_at, output_after_spend}
use Rattle.noc_vc.specs.declared.output.OutputState.TheVariants.{Idle as Free}
use Rattle.noc_view.specs.View.{input_after, held_by, spent_by, sent_from, granted_to}
use Rattle.noc_sets.specs.Moves.{dry_by}
use Rattle.noc_sets.specs.Planes.{more_than_one}
use Rattle.noc_sets.proofs.PlaneLemmas.{more-members}
use Rattle.noc_sets.proofs.SettleLemmas.{quiet-input}
use Rattle.noc_sets.proofs.SuppliedLemmas.{Gone, Gets as GetsOne, Stays, Sends as SendsOn, Waits}
use Rattle.noc_sets.proofs.UnionLemmas.{rest-members}
use Rattle.noc_theory_bits.proofs.Common.{eq-eqb, eqb-true, lt-ltb, true≢false, false≢true, and_parts, ports, get_or-tabulate, has_bit, Flit, either_members, has_bit-zero, Routes, is_given, Input, idle_input, is_active, is_empty, is_idle_phase, has_credit, InputState, Idle, Waiting, Active, OutputState, Owned, Draining, is_owned_from, is_supplied, owns, ask_of, Verdict, View, size_of, view_buffer, view_claim, claim_in, view_input, view_output, view_round, first_flit, is_tail, mover_to, decisions_of, view_after_commit, decided_verdict, route_of, less, IsColumn, RouterMarks, HasSwitched, chosen_by, single_in, Allocation, some_below, union_from, Effects, lane_heads, lane_no_credit, lane_no_flit, lane_no_idle_channel, lane_ready, plane_number, less_members, verdict_of_bits, verdicts, union-members, Surroundings, Layout, ArePicked}
use Rattle.noc_theory_bits.proofs.routers.ChosenLemmas.{IsStill, ShowsChosen}
use Rattle.noc_theory_bits.proofs.routers.CommittedLemmas.{input-committed, output-committed, verdict-planned}
use Rattle.noc_theory_bits.proofs.routers.MoveLemmas.{dry-is, spends}
use Rattle.noc_theory_bits.proofs.routers.SettleLemmas.{SaysSupplied}
use Rattle.noc_theory_bits.proofs.routers.SettlingLemmas.{asker, decided, effects, grant-found, grantee, granted-is, moves-picked, owned-not-free, released-is, says-out, supplied-was}
use Rattle.noc_theory_bits.proofs.routers.SwitchedLemmas.{head-is, mover-at, mover-from, moving, picked-is, taken-shows}

one-owner : (h : OutputState) (i j : ℕ) → is_owned_from h i ≡ true → is_owned_from h j ≡ true → i ≡ j
one-owner Free i j ei ej = absurd (false≢true ei)
one-owner (Owned k p) i j ei ej = sym (eqb-true k i ei) ∙ eqb-true k j ej
one-owner Draining i j ei ej = absurd (false≢true ei)

-- what becomes of input channel i: its tail leaves, another flit of it does, it is granted an
-- output channel, its head is routed, or nothing
pub data Fate (v w : View) (e : Effects) (set_of i : ℕ) : Type 0 where
  Leaves : (o : ℕ) → has_bit e.moved i ≡ true → is_tail (first_flit v i) ≡ true → (view_input v i).phase ≡ Active o → (view_input w i).phase ≡ Idle → Fate v w e set_of i
  Sends : (o : ℕ) → has_bit e.moved i ≡ true → is_tail (first_flit v i) ≡ false → (view_input v i).phase ≡ Active o → (view_input w i).phase ≡ Active o → Fate v w e set_of i
  Gets : (o set : ℕ) → has_bit e.moved i ≡ false → has_bit e.granted i ≡ true → (view_input v i).phase ≡ Waiting set → ask_of (view_claim v i) ≡ Some o
      → slice_index_or (view_round v).grants o None ≡ Some i → (view_input w i).phase ≡ Active o → Fate v w e set_of i
  Begins : has_bit e.moved i ≡ false → has_bit e.granted i ≡ false → has_bit e.heads i ≡ true → (view_input v i).phase ≡ Idle → (view_input w i).phase ≡ Waiting set_of → Fate v w e set_of i
  Rests : has_bit e.moved i ≡ false → has_bit e.granted i ≡ false → has_bit e.heads i ≡ false → (view_input w i).phase ≡ (view_input v i).phase → Fate v w e set_of i

module _ {count : ℕ} (relation : Routes) (layout : Layout) (x : Surroundings) (v : View) (still : IsStill relation layout x v) (a b : Allocation) (outs : ℕ)
    (shows : IsColumn count a.column a.marks v)
    (picks : ArePicked v.site.vcs (ports v.site.grid) (lane_ready x.filled a.column) a.column.ahead x.picked) (put : ShowsChosen relation x.filled a b outs v) (w : RouterMarks) (e : Effects) (supplied : ℕ)
    (switched : HasSwitched v.site.vcs (ports v.site.grid) x.picked (single_in layout.links a.column) x.tail b.marks w e b.column.supplied supplied)
    (heads_are : e.heads ≡ lane_heads x.filled a.column) (granted_are : e.granted ≡ b.granted) where
  -- the verdict of a channel, by the sets that say so
  verdict-is : (k : ℕ) → k < size_of v.site
      → decided_verdict (decisions_of relation v) k
      ≡ verdict_of_bits (has_bit e.moved k) (has_bit e.granted k) (has_bit e.heads k) (has_bit (lane_no_flit x.filled a.column) k) (has_bit (lane_no_idle_channel e.granted b.lost a.column) k) (has_bit b.lost k)
      (has_bit (lane_no_credit x.filled a.column) k) (has_bit (less (lane_ready x.filled a.column) x.picked) k) (has_bit (less x.picked e.moved) k)
  verdict-is k l =
      let fit = effects relation layout x v still a b outs shows picks put w e supplied switched heads_are granted_are in
      let are = decided relation layout x v still a b outs shows picks put w e supplied switched heads_are granted_are in
      verdict-planned relation v k l
      ∙ sym (verdicts count a.column v x.filled shows.words shows.channels still.filled x.picked still.size.some picks shows.turns.inputs still.arbiters.inputs.pointers still.arbiters.inputs.count
      e.granted b.lost e.moved fit.granted are.lost_fits fit.moved are.granted are.lost are.moved k l)
      ∙ ap (λ n. verdict_of_bits (has_bit e.moved k) (has_bit e.granted k) (has_bit n k) (has_bit (lane_no_flit x.filled a.column) k) (has_bit (lane_no_idle_channel e.granted b.lost a.column) k) (has_bit b.lost k)
      (has_bit (lane_no_credit x.filled a.column) k) (has_bit (less (lane_ready x.filled a.column) x.picked) k) (has_bit (less x.picked e.moved) k)) (sym heads_are)

  route-at : (k : ℕ) → k < size_of v.site → slice_index (decisions_of relation v).routes k ≡ route_of relation v k
  unfolding decisions_of
  route-at k l = get_or-tabulate (size_of v.site) k (route_of relation v) 0 l

  pub fate : (k : ℕ) → k < size_of v.site → Fate v (view_after_commit (decisions_of relation v) v) e (route_of relation v k) k
  fate k l = by (has_bit e.moved k) refl (has_bit e.granted k) refl (has_bit e.heads k) refl
    where
      After : Verdict → InputState
      After verdict = (input_after (decisions_of relation v) v k (view_input v k) verdict).phase

      after-is : (m g h : Bool) → has_bit e.moved k ≡ m → has_bit e.granted k ≡ g → has_bit e.heads k ≡ h
          → (view_input (view_after_commit (decisions_of relation v) v) k).phase
          ≡ After (verdict_of_bits m g h (has_bit (lane_no_flit x.filled a.column) k) (has_bit (lane_no_idle_channel e.granted b.lost a.column) k) (has_bit b.lost k)
          (has_bit (lane_no_credit x.filled a.column) k) (has_bit (less (lane_ready x.filled a.column) x.picked) k) (has_bit (less x.picked e.moved) k))
      after-is m g h em eg eh =
          ap (λ (input : Input). input.phase) (input-committed (decisions_of relation v) v still.size k l)
          ∙ ap After (verdict-is k l)
          ∙ ap After (rw (em, eg, eh) refl)

      -- a flit moves
      moves : has_bit e.moved k ≡ true → (view_input (view_after_commit (decisions_of relation v) v) k).phase ≡ (sent_from (view_input v k) (first_flit v k)).phase
          → Fate v (view_after_commit (decisions_of relation v) v) e (route_of relation v k) k
      moves em is = at (view_buffer v k) refl (view_input v k).phase refl
        where
          here : (is_active (view_input v k).phase ≡ true) × (is_empty (view_buffer v k) ≡ false) × (is_supplied v.outputs (view_input v k).phase ≡ true)
          here = picked-is relation layout x v still a b outs shows picks put k l (moves-picked relation layout x v still a b outs shows picks put w e supplied switched heads_are granted_are k em)

          at : (flits : List Flit) → view_buffer v k ≡ flits → (p : InputState) → (view_input v k).phase ≡ p → Fate v (view_after_commit (decisions_of relation v) v) e (route_of relation v k) k
          at [] ef p ep = absurd (true≢false (ap is_empty (sym ef) ∙ here.1))
          at (f ∷ rest) ef Idle ep = absurd (false≢true (sym (ap is_active ep) ∙ here.0))
          at (f ∷ rest) ef (Waiting set) ep = absurd (false≢true (sym (ap is_active ep) ∙ here.0))
          at (f ∷ rest) ef (Active o) ep = last f.last refl
            where
              first : first_flit v k ≡ Some f
              first = ap (λ xs. slice_get xs 0) ef

              last : (t : Bool) → f.last ≡ t → Fate v (view_after_commit (decisions_of relation v) v) e (route_of relation v k) k
              last true et = Leaves o em (ap is_tail first ∙ et) ep (is ∙ ap (λ (y : Option Flit). (sent_from (view_input v k) y).phase) first ∙ ap (λ t. (if t then idle_input else view_input v k).phase) et)
              last false et = Sends o em (ap is_tail first ∙ et) ep (is ∙ ap (λ (y : Option Flit). (sent_from (view_input v k) y).phase) first ∙ ap (λ t. (if t then idle_input else view_input v k).phase) et ∙ ep)

      -- an output channel is granted
      gets : has_bit e.moved k ≡ false → has_bit e.granted k ≡ true → (view_input (view_after_commit (decisions_of relation v) v) k).phase ≡ (granted_to (view_input v k) (ask_of (view_claim v k))).phase
          → Fate v (view_after_commit (decisions_of relation v) v) e (route_of relation v k) k
      gets em eg is =
          let g = grant-found relation layout x v still a b outs shows picks put w e supplied switched heads_are granted_are k l eg in
          Gets g.out g.to.set em eg g.to.phase g.to.asks g.round (is ∙ ap (λ (y : Option ℕ). (granted_to (view_input v k) y).phase) g.to.asks)

      -- a head is routed
      begins : has_bit e.moved k ≡ false → has_bit e.granted k ≡ false → has_bit e.heads k ≡ true → (view_input (view_after_commit (decisions_of relation v) v) k).phase ≡ Waiting (slice_index (decisions_of relation v).routes k)
          → Fate v (view_after_commit (decisions_of relation v) v) e (route_of relation v k) k
      begins em eg eh is = Begins em eg eh (idle (view_input v k).phase refl) (is ∙ ap Waiting (route-at k l))
        where
          both : (is_idle_phase (view_input v k).phase ≡ true) × (not (is_empty (view_buffer v k)) ≡ true)
          both = and_parts (is_idle_phase (view_input v k).phase) (not (is_empty (view_buffer v k))) (sym (ap (λ n. has_bit n k) heads_are ∙ head-is relation layout x v still a b outs shows picks put k l) ∙ eh)

          idle : (p : InputState) → (view_input v k).phase ≡ p → (view_input v k).phase ≡ Idle
          idle Idle ep = ep
          idle (Waiting set) ep = absurd (false≢true (sym (ap is_idle_phase ep) ∙ both.0))
          idle (Active o) ep = absurd (false≢true (sym (ap is_idle_phase ep) ∙ both.0))

      by : (m : Bool) → has_bit e.moved k ≡ m → (g : Bool) → has_bit e.granted k ≡ g → (h : Bool) → has_bit e.heads k ≡ h → Fate v (view_after_commit (decisions_of relation v) v) e (route_of relation v k) k
      by true em g eg h eh = moves em (after-is true g h em eg eh)
      by false em true eg h eh = gets em eg (after-is false true h em eg eh)
      by false em false eg true eh = begins em eg eh (after-is false false true em eg eh)
      by false em false eg false eh = Rests em eg eh
          (after-is false false false em eg eh
          ∙ ap (λ (input : Input). input.phase) (quiet-input (decisions_of relation v) v k (view_input v k) (has_bit (lane_no_flit x.filled a.column) k) (has_bit (lane_no_idle_channel e.granted b.lost a.column) k) (has_bit b.lost k)
          (has_bit (lane_no_credit x.filled a.column) k) (has_bit (less (lane_ready x.filled a.column) x.picked) k) (has_bit (less x.picked e.moved) k)))

  -- ---- credits
  -- who takes the last credit of its output channel
  abbrev pub dry : ℕ
  dry = union_from 0 (ports v.site.grid) (λ q. dry_by (single_in layout.links a.column) b.marks.taken (chosen_by x.picked b.marks q))

  -- whether a channel in this state sends by one
  abbrev last_by : InputState → Bool
  last_by p = spends v x.picked b.marks.to_port b.marks.port_turn (moving relation layout x v still a b outs shows picks put) (single_in layout.links a.column) p

  dry-bit : (k : ℕ) → has_bit dry k ≡ (has_bit e.moved k && last_by (view_input v k).phase)
  dry-bit k =
      dry-is v x.picked b.marks.to_port b.marks.port_turn (moving relation layout x v still a b outs shows picks put) b.marks.taken (taken-shows relation layout x v still a b outs shows picks put)
      (single_in layout.links a.column) k
      ∙ ap (λ n. has_bit n k && last_by (view_input v k).phase) (sym switched.moved)

  supplied-bit : (k : ℕ) → has_bit supplied k ≡ ((has_bit a.column.supplied k || has_bit e.granted k) && not (has_bit dry k))
  supplied-bit k =
      ap (λ n. has_bit n k) switched.supplied
      ∙ rest-members b.column.supplied (ports v.site.grid) words k
      ∙ ap₂ (λ p q. p && not q) (ap (λ n. has_bit n k) was ∙ either_members a.column.supplied e.granted k)
      (sym (union-members 0 (ports v.site.grid) words k ∙ ap (λ p. p || some_below (ports v.site.grid) (λ q. has_bit (words q) k)) (has_bit-zero k)))
    where
      words : ℕ → ℕ
      words q = dry_by (single_in layout.links a.column) b.marks.taken (chosen_by x.picked b.marks q)

      was : b.column.supplied ≡ bit_or a.column.supplied e.granted
      was = supplied-was relation layout x v still a b outs shows picks put w e supplied switched heads_are granted_are

  -- the link channels with one credit at most
  single-bit : (o : ℕ) → o < size_of v.site → has_bit (single_in layout.links a.column) o ≡ (not (nat_lt 1 (plane_number a.column.credit o)) && is_some (view_output v o).credit)
  single-bit o l =
      less_members layout.links (more_than_one a.column.credit) o
      ∙ ap₂ (λ p q. p && not q) (still.sides.link_is o ∙ sym (still.tidy.links o l)) (more-members a.column.credit o)
      ∙ turn (is_some (view_output v o).credit) (not (nat_lt 1 (plane_number a.column.credit o)))
    where
      turn : (p q : Bool) → (p && q) ≡ (q && p)
      turn true true = refl
      turn true false = refl
      turn false true = refl
      turn false false = refl

  -- ---- output channels after the cycle
  pub output-by : (o : ℕ) (grant mover : Option ℕ) → o < size_of v.site → slice_index_or (view_round v).grants o None ≡ grant → mover_to v (view_round v) o ≡ mover
      → view_output (view_after_commit (decisions_of relation v) v) o ≡ spent_by v (held_by v (view_output v o) grant) mover
  unfolding decisions_of
  output-by o grant mover l eg em =
      output-committed (decisions_of relation v) v still.size o l ∙ ap₂ (λ g m. spent_by v (held_by v (view_output v o) g) m) eg em

  -- who sends by an output channel, no one else is granted it
  no-grant-at : (o i : ℕ) → o < size_of v.site → is_owned_from (view_output v o).holder i ≡ true → slice_index_or (view_round v).grants o None ≡ None
  no-grant-at o i l owned = at (slice_index_or (view_round v).grants o None) refl
    where
      at : (g : Option ℕ) → slice_index_or (view_round v).grants o None ≡ g → slice_index_or (view_round v).grants o None ≡ None
      at None eg = eg
      at (Some k) eg =
          absurd (false≢true (sym (owned-not-free (view_output v o).holder i owned).0 ∙ (grantee relation layout x v still a b outs shows picks put w e supplied switched heads_are granted_are o k l eg).free))

  owns-it : (i o : ℕ) → i < size_of v.site → (view_input v i).phase ≡ Active o → is_owned_from (view_output v o).holder i ≡ true
  owns-it i o l ep = sym (still.tidy.owners i o l (still.tidy.owned_below i o l ep)) ∙ ap (λ p. owns p o) ep ∙ eq-eqb o o refl

  -- an owner that moves nothing: nothing leaves by its output channel
  nothing-leaves : (i o : ℕ) → i < size_of v.site → (view_input v i).phase ≡ Active o → has_bit e.moved i ≡ false → mover_to v (view_round v) o ≡ None
  nothing-leaves i o l ep em = at (mover_to v (view_round v) o) refl
    where
      lo : o < size_of v.site
      lo = still.tidy.owned_below i o l ep

      at : (m : Option ℕ) → mover_to v (view_round v) o ≡ m → mover_to v (view_round v) o ≡ None
      at None h = h
      at (Some j) h =
          let s = mover-from relation layout x v still a b outs shows picks put o j lo h in
          let same : i ≡ j = one-owner (view_output v o).holder i j (owns-it i o l ep) (owns-it j o s.channel s.phase) in
          absurd (false≢true (sym em ∙ ap (has_bit e.moved) same ∙ ap (λ n. has_bit n j) switched.moved ∙ s.moves))

  -- ---- which input channels are supplied
  quiet-dry : (k : ℕ) → has_bit e.moved k ≡ false → has_bit dry k ≡ false
  quiet-dry k em = dry-bit k ∙ ap (λ m. m && last_by (view_input v k).phase) em

  quiet-release : (k : ℕ) → k < size_of v.site → has_bit e.moved k ≡ false → has_bit e.released k ≡ false
  quiet-release k l em = released-is relation layout x v still a b outs shows picks put w e supplied switched heads_are granted_are k l ∙ ap (λ m. m && is_tail (first_flit v k)) em

  active-ungranted : (k o : ℕ) → k < size_of v.site → (view_input v k).phase ≡ Active o → has_bit e.granted k ≡ false
  active-ungranted k o l ep =
      granted-is relation layout x v still a b outs shows picks put w e supplied switched heads_are granted_are k l ∙ ap (λ p. is_given (view_round v).grants (ask_of (claim_in v p)) k) ep

  pub says-supplied : (k : ℕ) → k < size_of v.site → SaysSupplied v (view_after_commit (decisions_of relation v) v) a.column e supplied dry k
  says-supplied k l = by (fate k l)
    where
      last-credit : (o : ℕ) → has_bit e.moved k ≡ true → (view_input v k).phase ≡ Active o → has_bit dry k ≡ (not (nat_lt 1 (plane_number a.column.credit o)) && is_some (view_output v o).credit)
      last-credit o em ep =
          dry-bit k ∙ ap₂ (λ m (p : InputState). m && last_by p) em ep ∙ single-bit o (still.tidy.owned_below k o l ep)

      one-left : (o : ℕ) → o < size_of v.site → has_bit dry k ≡ (not (nat_lt 1 (plane_number a.column.credit o)) && is_some (view_output v o).credit)
          → IfSome (view_output v o).credit (λ n. has_bit dry k ≡ not (nat_lt 1 n)) × ((view_output v o).credit ≡ None → has_bit dry k ≡ false)
      one-left o lo is = at (view_output v o).credit (shows.channels.outputs o lo).credit is
        where
          turn : (p : Bool) → (p && true) ≡ p
          turn true = refl
          turn false = refl

          drop : (p : Bool) → (p && false) ≡ false
          drop true = refl
          drop false = refl

          at : (credit : Option ℕ) → IfSome credit (λ n. plane_number a.column.credit o ≡ n) → has_bit dry k ≡ (not (nat_lt 1 (plane_number a.column.credit o)) && is_some credit)
              → IfSome credit (λ n. has_bit dry k ≡ not (nat_lt 1 n)) × (credit ≡ None → has_bit dry k ≡ false)
          at None h e = (tt, λ z. e ∙ drop (not (nat_lt 1 (plane_number a.column.credit o))))
          at (Some n) h e = (e ∙ turn (not (nat_lt 1 (plane_number a.column.credit o))) ∙ ap (λ c. not (nat_lt 1 c)) h, λ z. absurd (true≢false (ap is_some z)))

      -- all credits of a free channel are there
      rich : (o : ℕ) (set : ℕ) → o < size_of v.site → slice_index_or (view_round v).grants o None ≡ Some k → has_credit (view_output (view_after_commit (decisions_of relation v) v) o) ≡ true
      rich o set lo eg =
          let free = (grantee relation layout x v still a b outs shows picks put w e supplied switched heads_are granted_are o k lo eg).free in
          let none = ((says-out relation layout x v still a b outs shows picks put w e supplied switched heads_are granted_are o lo).free (ap is_some eg)).1 in
          ap has_credit (output-by o (Some k) None lo eg none) ∙ at (view_output v o).credit (still.full o lo free)
        where
          at : (credit : Option ℕ) → IfSome credit (λ n. n ≡ v.site.depth) → has_credit_at credit ≡ true
          at None h = refl
          at (Some n) h = let some = still.some_place in lt-ltb 0 n (omega (arith, some, h))

      bit : has_bit supplied k ≡ ((has_bit a.column.supplied k || has_bit e.granted k) && not (has_bit dry k))
      bit = supplied-bit k

      by : Fate v (view_after_commit (decisions_of relation v) v) e (route_of relation v k) k → SaysSupplied v (view_after_commit (decisions_of relation v) v) a.column e supplied dry k
      by (Leaves o em et ep ew) = record {
        bit = bit;
        turn = Gone o ep ew;
        says = released-is relation layout x v still a b outs shows picks put w e supplied switched heads_are granted_are k l ∙ ap₂ (λ p q. p && q) em et;
      }
      by (Sends o em et ep ew) =
          let lo : o < size_of v.site = still.tidy.owned_below k o l ep in
          let moves : mover_to v (view_round v) o ≡ Some k = mover-at relation layout x v still a b outs shows picks put k o l (ap (λ n. has_bit n k) (sym switched.moved) ∙ em) ep in
          let credits = one-left o lo (last-credit o em ep) in
          record {
            bit = bit;
            turn = SendsOn o ep ew (output-by o None (Some k) lo (no-grant-at o k lo (owns-it k o l ep)) moves ∙ ap (λ t. output_after_spend t (view_output v o)) et)
                (sym (ap (is_supplied v.outputs) ep) ∙ (picked-is relation layout x v still a b outs shows picks put k l (moves-picked relation layout x v still a b outs shows picks put w e supplied switched heads_are granted_are k em)).2);
            says = (
              released-is relation layout x v still a b outs shows picks put w e supplied switched heads_are granted_are k l ∙ ap₂ (λ p q. p && q) em et,
              active-ungranted k o l ep,
              credits.0,
              credits.1,
            );
          }
      by (Gets o set em eg ep ask round ew) =
          let to = asker relation layout x v still a b outs shows picks put w e supplied switched heads_are granted_are o k l ask in
          record { bit = bit; turn = GetsOne o set ep ew (rich o set to.below round); says = (quiet-release k l em, eg, quiet-dry k em) }
      by (Begins em eg eh ep ew) = record { bit = bit; turn = Waits (route_of relation v k) ew (ap (is_supplied v.outputs) ep); says = eg }
      by (Rests em eg eh same) = record {
        bit = bit;
        turn = Stays (sym same) (λ o ep. ap has_credit (output-by o None None (still.tidy.owned_below k o l ep) (no-grant-at o k (still.tidy.owned_below k o l ep) (owns-it k o l ep)) (nothing-leaves k o l ep em)));
        says = (quiet-release k l em, eg, quiet-dry k em);
      }
