-- What grants, routes and moves have decided of a router, as the passes that take effect rest on
-- it.
use Rattle.std.proofs.Common.{◌≡◌, ◌≢◌, ℕ, ◌*◌, ◌^◌, ◌<◌, ◌≤◌, Bool, true, false, List, [], ◌∷◌, Option, Some, None, IfSome, refl, ap, sym, ◌∙◌, subst, inl, inr, bit_or}
use Rattle.std.specs.Prelude.{◌⊎◌, ◌&&◌, ◌||◌, not, is_some, nat_eq, nat_le, nat_lt, slice_get, slice_index_or, if◌then◌else◌}
use Rattle.noc_alloc.proofs.ArbiterLemmas.{first_in_turn-picks}
use Rattle.noc_vc.specs.Output.{has_credit_at}
use Rattle.noc_vc.specs.declared.output.OutputState.TheVariants.{Idle as Free}
use Rattle.noc_view.proofs.FindLemmas.{find-some}
use Rattle.noc_sets.specs.Sets.{of_one}
use Rattle.noc_sets.proofs.SettleLemmas.{SaysOut}
use Rattle.noc_sets.proofs.UnionLemmas.{union-same, rest-fits}
use Rattle.noc_theory_bits.proofs.Common.{cases_eq, cases_lt, eq-eqb, ne_eqb, eqb-true, le-leb, lt-leb, lt-ltb, le-ltb, true≢false, false≢true, and_parts, is_some_of, local_port, ports, has_bit, Flit, has_bit-zero, Routes, arbiter_at, MembersAreBelow, is_given, is_empty, is_free, InputState, Idle, Waiting, Active, OutputState, Owned, Draining, is_owned_from, is_supplied, owns, ask_of, View, size_of, view_buffer, view_claim, claim_in, view_input, view_output, view_round, first_flit, is_tail, mover_to, Column, IsColumn, RouterMarks, is_draining, HasSwitched, chosen_by, single_in, Allocation, least, some_below, Effects, lane_heads, lane_ready, less_fits, or_fits, power-members, AreEffects, union-members, Surroundings, Layout, ArePicked}
use Rattle.noc_theory_bits.proofs.routers.AllocateLemmas.{grants-at}
use Rattle.noc_theory_bits.proofs.routers.ChosenLemmas.{IsStill, ShowsChosen}
use Rattle.noc_theory_bits.proofs.routers.DecideLemmas.{AreDecided}
use Rattle.noc_theory_bits.proofs.routers.MoveLemmas.{freed-is, left-is, taken-is}
use Rattle.noc_theory_bits.proofs.routers.SwitchedLemmas.{chosen-picked, mover-from, moved-below, moved-picked, moved-won, moving, picked-is, small, some-found, taken-shows}

some-of : (o : Option ℕ) (n : ℕ) → is_some_of o n ≡ true → o ≡ Some n
some-of None n e = absurd (false≢true e)
some-of (Some m) n e = ap Some (eqb-true m n e)

pub owned-not-free : (h : OutputState) (i : ℕ) → is_owned_from h i ≡ true → (is_free h ≡ false) × (is_draining h ≡ false)
owned-not-free Free i e = absurd (false≢true e)
owned-not-free (Owned j p) i e = (refl, refl)
owned-not-free Draining i e = absurd (false≢true e)

has-some : (credit : Option ℕ) → has_credit_at credit ≡ true → IfSome credit (λ n. 0 < n)
has-some None e = tt
has-some (Some n) e = at (cases_lt 0 n)
  where
    at : (0 < n) ⊎ (n ≤ 0) → 0 < n
    at (inl l) = l
    at (inr u) = absurd (false≢true (sym (le-ltb 0 n u) ∙ e))

module _ {count : ℕ} (relation : Routes) (layout : Layout) (x : Surroundings) (v : View) (still : IsStill relation layout x v) (a b : Allocation) (outs : ℕ)
    (shows : IsColumn count a.column a.marks v)
    (picks : ArePicked v.site.vcs (ports v.site.grid) (lane_ready x.filled a.column) a.column.ahead x.picked) (put : ShowsChosen relation x.filled a b outs v) (w : RouterMarks) (e : Effects) (supplied : ℕ)
    (switched : HasSwitched v.site.vcs (ports v.site.grid) x.picked (single_in layout.links a.column) x.tail b.marks w e b.column.supplied supplied)
    (heads_are : e.heads ≡ lane_heads x.filled a.column) (granted_are : e.granted ≡ b.granted) where
  abbrev pub sel : ℕ → ℕ
  sel q = chosen_by x.picked b.marks q

  -- ---- tails
  pub tail-is : (k : ℕ) → k < size_of v.site → has_bit x.picked k ≡ true → x.tail k ≡ is_tail (first_flit v k)
  tail-is k l here = at (view_buffer v k) refl
    where
      at : (flits : List Flit) → view_buffer v k ≡ flits → x.tail k ≡ is_tail (first_flit v k)
      at [] is = absurd (true≢false (ap is_empty (sym is) ∙ (picked-is relation layout x v still a b outs shows picks put k l here).1))
      at (f ∷ rest) is = still.tails.each k f rest l is ∙ sym (ap (λ xs. is_tail (slice_get xs 0)) is)

  -- ---- what is decided of the input channels
  pub moves-below : MembersAreBelow (size_of v.site) e.moved
  moves-below = subst (λ n. MembersAreBelow (size_of v.site) n) (sym switched.moved) (moved-below relation layout x v still a b outs shows picks put)

  pub moves-picked : (k : ℕ) → has_bit e.moved k ≡ true → has_bit x.picked k ≡ true
  moves-picked k here = moved-picked relation layout x v still a b outs shows picks put k (ap (λ n. has_bit n k) (sym switched.moved) ∙ here)

  pub released-is : (k : ℕ) → k < size_of v.site → has_bit e.released k ≡ (has_bit e.moved k && is_tail (first_flit v k))
  released-is k l = switched.released k l ∙ at (has_bit e.moved k) refl
    where
      at : (m : Bool) → has_bit e.moved k ≡ m → (m && x.tail k) ≡ (m && is_tail (first_flit v k))
      at false h = refl
      at true h = tail-is k l (moves-picked k h)

  pub granted-is : (k : ℕ) → k < size_of v.site → has_bit e.granted k ≡ is_given (view_round v).grants (ask_of (view_claim v k)) k
  granted-is k l = ap (λ n. has_bit n k) granted_are ∙ put.granted k l

  pub decided : AreDecided x.picked a.column v x.filled b.lost e
  decided = record {
    heads = heads_are;
    lost_fits = put.lost_fit;
    granted = granted-is;
    lost = λ k l. put.lost k l ∙ ap (λ n. not (has_bit n k) && is_some (ask_of (view_claim v k))) (sym granted_are);
    moved = λ k l. ap (λ n. has_bit n k) switched.moved ∙ moved-won relation layout x v still a b outs shows picks put k l;
    released = released-is;
  }

  -- ---- the words fit
  out-below : MembersAreBelow (size_of v.site) e.out
  out-below k here =
      let found = some-found (ports v.site.grid) (λ q. has_bit (of_one (sel q) b.marks.taken) k)
      (sym (ap (λ n. has_bit n k) switched.out ∙ union-members 0 (ports v.site.grid) (λ q. of_one (sel q) b.marks.taken) k
      ∙ ap (λ p. p || some_below (ports v.site.grid) (λ q. has_bit (of_one (sel q) b.marks.taken) k)) (has_bit-zero k)) ∙ here) in
      at found.0 found.1 found.2 (cases_eq (sel found.0) 0)
    where
      at : (q : ℕ) → q < ports v.site.grid → has_bit (of_one (sel q) b.marks.taken) k ≡ true → (sel q ≡ 0) ⊎ (sel q ≢ 0) → k < size_of v.site
      at q lq is (inl none) = absurd (false≢true (sym (ap (λ n. has_bit (if n then 0 else b.marks.taken (least (sel q))) k) (eq-eqb (sel q) 0 none) ∙ has_bit-zero k) ∙ is))
      at q lq is (inr some) =
          let one = taken-is v x.picked b.marks.to_port b.marks.port_turn (moving relation layout x v still a b outs shows picks put) q lq some in
          let same : k ≡ one.out = eqb-true k one.out
          (sym (ap (λ n. has_bit (if n then 0 else b.marks.taken (least (sel q))) k) (ne_eqb (sel q) 0 some)
          ∙ ap (λ n. has_bit n k) (taken-shows relation layout x v still a b outs shows picks put (least (sel q)) one.out one.channel one.phase) ∙ power-members one.out k) ∙ is) in
          subst (λ n. n < size_of v.site) (sym same) one.below

  pub effects : AreEffects e
  effects = record {
    heads = subst (λ n. n < 2 ^ 64) (sym heads_are) (less_fits x.filled (bit_or a.column.waiting a.column.active) still.filled.fits);
    granted = subst (λ n. n < 2 ^ 64) (sym granted_are) put.granted_fit;
    moved = small relation layout x v still a b outs shows picks put e.moved moves-below;
    out = small relation layout x v still a b outs shows picks put e.out out-below;
    released = switched.released_fits;
    freed = switched.freed_fits;
  }

  pub supplied-was : b.column.supplied ≡ bit_or a.column.supplied e.granted
  supplied-was = ap (λ (c : Column). c.supplied) put.column ∙ ap (bit_or a.column.supplied) (sym granted_are)

  pub supplied-fits : supplied < 2 ^ 64
  supplied-fits =
      subst (λ n. n < 2 ^ 64) (sym switched.supplied) (rest-fits b.column.supplied (ports v.site.grid) _ (subst (λ n. n < 2 ^ 64) (sym supplied-was) (or_fits a.column.supplied e.granted shows.words.supplied effects.granted)))

  -- ---- grants
  -- an input channel that waits for an output channel which is free
  pub record Grantee (o k : ℕ) : Type 0 where
    pub channel : k < size_of v.site
    pub below : o < size_of v.site
    pub set : ℕ
    pub phase : (view_input v k).phase ≡ Waiting set
    pub asks : ask_of (view_claim v k) ≡ Some o
    pub free : is_free (view_output v o).holder ≡ true

  pub asker : (o k : ℕ) → k < size_of v.site → ask_of (view_claim v k) ≡ Some o → Grantee o k
  asker o k l is = at (view_input v k).phase refl is
    where
      at : (p : InputState) → (view_input v k).phase ≡ p → ask_of (claim_in v p) ≡ Some o → Grantee o k
      at Idle ep h = absurd (false≢true (ap is_some h))
      at (Active y) ep h = absurd (false≢true (ap is_some h))
      at (Waiting s) ep h =
          let found = find-some (λ i. has_bit s i && is_free (view_output v i).holder) (size_of v.site) o h in
          record { channel = l; below = found.1; set = s; phase = ep; asks = is; free = (and_parts (has_bit s o) (is_free (view_output v o).holder) found.0).1 }

  -- to whom the round grants an output channel
  pub grantee : (o k : ℕ) → o < size_of v.site → slice_index_or (view_round v).grants o None ≡ Some k → Grantee o k
  grantee o k l is =
      let picks = first_in_turn-picks (size_of v.site) (arbiter_at v.arbiters.channels o).pointer k (λ i. is_some_of (ask_of (view_claim v i)) o)
      (sym (grants-at a.column a.marks v shows still.few o l (λ i. is_some_of (ask_of (view_claim v i)) o) (λ i li. refl) still.arbiters.channels.count) ∙ is) in
      asker o k picks.1 (some-of (ask_of (view_claim v k)) o picks.0)

  -- what the words grant
  pub record Grant (k : ℕ) : Type 0 where
    pub out : ℕ
    pub to : Grantee out k
    pub round : slice_index_or (view_round v).grants out None ≡ Some k

  pub grant-found : (k : ℕ) → k < size_of v.site → has_bit e.granted k ≡ true → Grant k
  grant-found k l here = at (ask_of (view_claim v k)) refl
    where
      at : (ask : Option ℕ) → ask_of (view_claim v k) ≡ ask → Grant k
      at None is = absurd (false≢true (sym (granted-is k l ∙ ap (λ ask. is_given (view_round v).grants ask k) is) ∙ here))
      at (Some o) is = record {
        out = o;
        to = asker o k l is;
        round = some-of (slice_index_or (view_round v).grants o None) k (sym (granted-is k l ∙ ap (λ ask. is_given (view_round v).grants ask k) is) ∙ here);
      }

  -- ---- an output channel
  -- who sends by it owns it
  pub sender-owns : (o i : ℕ) → o < size_of v.site → mover_to v (view_round v) o ≡ Some i → is_owned_from (view_output v o).holder i ≡ true
  sender-owns o i l is =
      let s = mover-from relation layout x v still a b outs shows picks put o i l is in
      sym (still.tidy.owners i o s.channel l) ∙ ap (λ p. owns p o) s.phase ∙ eq-eqb o o refl

  pub says-out : (o : ℕ) → o < size_of v.site
      → SaysOut v layout.links layout.local outs e o (view_output v o) (slice_index_or (view_round v).grants o None) (mover_to v (view_round v) o)
  says-out o l = record {
    link = still.sides.link_is o ∙ sym (still.tidy.links o l);
    eject = still.sides.local_is o ∙ ap (λ p. nat_le (local_port v.site.grid * v.site.vcs) o && p) (lt-ltb o (size_of v.site) l) ∙ turn (cases_lt o (local_port v.site.grid * v.site.vcs)) ∙ ap not (sym (still.tidy.links o l));
    taken = put.taken o l;
    left = ap (λ n. has_bit n o) switched.out
        ∙ left-is v x.picked b.marks.to_port b.marks.port_turn (moving relation layout x v still a b outs shows picks put) b.marks.taken (taken-shows relation layout x v still a b outs shows picks put) o l;
    freed = switched.freed o l ∙ ap (λ n. has_bit n o) (union-same (ports v.site.grid) _ _ same)
        ∙ freed-is v x.picked b.marks.to_port b.marks.port_turn (moving relation layout x v still a b outs shows picks put) b.marks.taken (taken-shows relation layout x v still a b outs shows picks put) o l;
    free = λ some. granted (slice_index_or (view_round v).grants o None) refl some;
    owned = λ some. moved (mover_to v (view_round v) o) refl some;
  }
    where
      turn : (o < local_port v.site.grid * v.site.vcs) ⊎ (local_port v.site.grid * v.site.vcs ≤ o)
          → (nat_le (local_port v.site.grid * v.site.vcs) o && true) ≡ not (nat_lt o (local_port v.site.grid * v.site.vcs))
      turn (inl s) = ap (λ p. p && true) (lt-leb (local_port v.site.grid * v.site.vcs) o s) ∙ sym (ap not (lt-ltb o (local_port v.site.grid * v.site.vcs) s))
      turn (inr s) = ap (λ p. p && true) (le-leb (local_port v.site.grid * v.site.vcs) o s) ∙ sym (ap not (le-ltb o (local_port v.site.grid * v.site.vcs) s))

      same : (q : ℕ) → q < ports v.site.grid → of_one (sel q) (λ i. if x.tail i then b.marks.taken i else 0) ≡ of_one (sel q) (λ i. if is_tail (first_flit v i) then b.marks.taken i else 0)
      same q lq = at (cases_eq (sel q) 0)
        where
          at : (sel q ≡ 0) ⊎ (sel q ≢ 0) → of_one (sel q) (λ i. if x.tail i then b.marks.taken i else 0) ≡ of_one (sel q) (λ i. if is_tail (first_flit v i) then b.marks.taken i else 0)
          at (inl none) =
              let z = eq-eqb (sel q) 0 none in
              ap (λ n. if n then 0 else (if x.tail (least (sel q)) then b.marks.taken (least (sel q)) else 0)) z
              ∙ sym (ap (λ n. if n then 0 else (if is_tail (first_flit v (least (sel q))) then b.marks.taken (least (sel q)) else 0)) z)
          at (inr some) =
              let one = taken-is v x.picked b.marks.to_port b.marks.port_turn (moving relation layout x v still a b outs shows picks put) q lq some in
              let here : has_bit x.picked (least (sel q)) ≡ true
              = chosen-picked relation layout x v still a b outs shows picks put q lq (least (sel q)) (one.alone (least (sel q)) ∙ eq-eqb _ _ refl) in
              ap (λ t. if nat_eq (sel q) 0 then 0 else (if t then b.marks.taken (least (sel q)) else 0)) (tail-is (least (sel q)) one.channel here)

      granted : (grant : Option ℕ) → slice_index_or (view_round v).grants o None ≡ grant → is_some (slice_index_or (view_round v).grants o None) ≡ true → (is_free (view_output v o).holder ≡ true) × (mover_to v (view_round v) o ≡ None)
      granted None is some = absurd (false≢true (sym (ap is_some is) ∙ some))
      granted (Some k) is some = (free, nobody (mover_to v (view_round v) o) refl)
        where
          free : is_free (view_output v o).holder ≡ true
          free = (grantee o k l is).free

          nobody : (m : Option ℕ) → mover_to v (view_round v) o ≡ m → mover_to v (view_round v) o ≡ None
          nobody None em = em
          nobody (Some i) em = absurd (false≢true (sym (owned-not-free (view_output v o).holder i (sender-owns o i l em)).0 ∙ free))

      moved : (m : Option ℕ) → mover_to v (view_round v) o ≡ m → is_some (mover_to v (view_round v) o) ≡ true
          → (is_free (view_output v o).holder ≡ false) × (is_draining (view_output v o).holder ≡ false) × IfSome (view_output v o).credit (λ n. 0 < n)
      moved None em some = absurd (false≢true (sym (ap is_some em) ∙ some))
      moved (Some i) em some =
          let s = mover-from relation layout x v still a b outs shows picks put o i l em in
          let here : has_bit x.picked i ≡ true = moved-picked relation layout x v still a b outs shows picks put i s.moves in
          let both = owned-not-free (view_output v o).holder i (sender-owns o i l em) in
          (both.0, both.1, has-some (view_output v o).credit (sym (ap (is_supplied v.outputs) s.phase) ∙ (picked-is relation layout x v still a b outs shows picks put i s.channel here).2))
