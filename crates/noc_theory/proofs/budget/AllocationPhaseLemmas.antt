-- What the heads have left to do falls by one for each route and each grant.
use Rattle.std.proofs.Common.{◌≡◌, ◌≢◌, ℕ, zero, suc, ◌+◌, ◌*◌, ◌<◌, ◌≤◌, Bool, true, false, cond, List, [], ◌∷◌, length, Option, Some, None, refl, ap, sym, ◌∙◌, arith, inl, inr}
use Rattle.std.specs.Prelude.{filter, find, get_or, ◌/◌, ◌%◌, nat_eq, nat_lt, not, ◌&&◌, ◌||◌, sum_by, count_by, is_some, option_map, unwrap_or, ◌⊎◌}
use Rattle.std.proofs.lemmas.List.Folds.{list_any-append}
use Rattle.noc_theory.proofs.Common.{range_with_len, false≢true, and_right, and_left, and_from, cases_eq, false_from_ne_true, sum_by-cons, In, Located, On, Out, Place, Setup, Source, State, after_verdicts, all_inputs, ask, claim_of, claim_with, count_in, end_distance, front_in, gone_to, has_channel, has_credit_in, is_in, is_tail_of_packet, is_the_flit, moved_place, next_channel, packet_at, round_at, tail_leaves, verdict_at, verdict_in, head_place, remainder, allocations_left, Channel, Eject, Inject, Link, arrival_of, channel_vc, output_index, same_channel, Claim, Holds, Round, Unrouted, Waits, is_event, is_granted, is_moved, is_routed, verdict_of, Verdict, Empty, Granted, LostChannel, LostInput, LostSwitch, Moved, Routed, Has, below, is_some_of}
use Rattle.noc_theory.proofs.worms.BufferLemmas.{same_flit, IsDistinct, same_channel-refl, same_channel-true, moved-holds}
use Rattle.noc_theory.proofs.worms.MemberLemmas.{list_any-from}
use Rattle.noc_theory.proofs.worms.GrantLemmas.{Has-below}
use Rattle.noc_theory.proofs.worms.PlaceLemmas.{is_in-is}
use Rattle.noc_theory.proofs.budget.SumLemmas.{sum_by-sum_by, sum_by-+}
use Rattle.noc_theory.proofs.budget.RemainderPhaseLemmas.{sum_by-each, find-map}
use Rattle.noc_theory.proofs.budget.InjectionProgressLemmas.{IsApart, sum-none}
use Rattle.noc_theory.proofs.budget.MovePhaseLemmas.{gone, amount-at, MovesNear, moves-fall}
use Rattle.noc_theory.proofs.budget.WormLemmas.{next-has}

range-low : (z b c : ℕ) → Has z (range_with_len b c) → b ≤ z
range-low z b zero w = absurd w
range-low z b (suc c) (inl s) = omega arith
range-low z b (suc c) (inr w) = let r = range-low z (b + 1) c w in omega arith

plus-zero : (m : ℕ) → m + 0 ≡ m
plus-zero m = omega arith

zero-plus : (m : ℕ) → 0 + m ≡ m
zero-plus m = omega arith

-- an amount that one number alone has
sum-only : (t : ℕ → Bool) (k a m x : ℕ) → a ≤ x → x < a + m → t x ≡ true → ((y : ℕ) → Has y (range_with_len a m) → t y ≡ true → y ≡ x)
    → sum_by (λ y. cond (t y) k 0) (range_with_len a m) ≡ k
sum-only t k a zero x l u e only = absurd (omega arith)
sum-only t k a (suc m) x l u e only = at (cases_eq a x) (λ o. sum-only t k (a + 1) m x (omega arith) (omega arith) e (λ y h. only y (inr h)))
  where
    at : (a ≡ x) ⊎ (a ≡ x → ⊥) → (a ≢ x → sum_by (λ y. cond (t y) k 0) (range_with_len (a + 1) m) ≡ k) → sum_by (λ y. cond (t y) k 0) (range_with_len a (suc m)) ≡ k
    at (inl s) rest =
        let others : sum_by (λ y. cond (t y) k 0) (range_with_len (a + 1) m) ≡ 0
        = sum-none (λ y. cond (t y) k 0) (range_with_len (a + 1) m) (λ y h. ap (λ b. cond b k 0) (false_from_ne_true (t y) (λ g. let same = only y (inr h) g in let low = range-low y (a + 1) m h in omega arith))) in
        sum_by-cons (λ y. cond (t y) k 0) a (range_with_len (a + 1) m)
        ∙ ap (λ i. i + sum_by (λ y. cond (t y) k 0) (range_with_len (a + 1) m)) (ap (λ b. cond b k 0) (ap t s ∙ e))
        ∙ ap (λ i. k + i) others ∙ plus-zero k
    at (inr o) rest =
        sum_by-cons (λ y. cond (t y) k 0) a (range_with_len (a + 1) m)
        ∙ ap (λ i. i + sum_by (λ y. cond (t y) k 0) (range_with_len (a + 1) m)) (ap (λ b. cond b k 0) (false_from_ne_true (t a) (λ g. o (only a (inl refl) g))))
        ∙ zero-plus (sum_by (λ y. cond (t y) k 0) (range_with_len (a + 1) m)) ∙ rest o

-- what a verdict says of a claim
pub routed-claims : (vcs : ℕ) (round : Round) (i : ℕ) (claim : Claim) (flit : Bool) → verdict_of vcs round i claim flit ≡ Routed → claim ≡ Unrouted
routed-claims vcs round i Unrouted flit e = refl
routed-claims vcs round i (Waits None) flit e = absurd (cc e)
routed-claims vcs round i (Waits (Some o)) flit e = at (is_some_of (get_or round.grants o None) i) e
  where
    at : (b : Bool) → cond b Granted LostChannel ≡ Routed → Waits (Some o) ≡ Unrouted
    at true h = absurd (cc h)
    at false h = absurd (cc h)
routed-claims vcs round i (Holds o true) true e = at (is_some_of (get_or round.picks (i / vcs) None) (i % vcs)) (is_some_of (get_or round.wins (o / vcs) None) (i / vcs)) e
  where
    at : (b d : Bool) → cond b (cond d Moved LostSwitch) LostInput ≡ Routed → Holds o true ≡ Unrouted
    at true true h = absurd (cc h)
    at true false h = absurd (cc h)
    at false d h = absurd (cc h)
routed-claims vcs round i (Holds o true) false e = absurd (cc e)
routed-claims vcs round i (Holds o false) true e = absurd (cc e)
routed-claims vcs round i (Holds o false) false e = absurd (cc e)

granted-claims : (vcs : ℕ) (round : Round) (i : ℕ) (claim : Claim) (flit : Bool) → verdict_of vcs round i claim flit ≡ Granted → (o : Option ℕ) × (claim ≡ Waits o)
granted-claims vcs round i Unrouted true e = absurd (cc e)
granted-claims vcs round i Unrouted false e = absurd (cc e)
granted-claims vcs round i (Waits o) flit e = (o, refl)
granted-claims vcs round i (Holds o true) true e = at (is_some_of (get_or round.picks (i / vcs) None) (i % vcs)) (is_some_of (get_or round.wins (o / vcs) None) (i / vcs)) e
  where
    at : (b d : Bool) → cond b (cond d Moved LostSwitch) LostInput ≡ Granted → (x : Option ℕ) × (Holds o true ≡ Waits x)
    at true true h = absurd (cc h)
    at true false h = absurd (cc h)
    at false d h = absurd (cc h)
granted-claims vcs round i (Holds o true) false e = absurd (cc e)
granted-claims vcs round i (Holds o false) true e = absurd (cc e)
granted-claims vcs round i (Holds o false) false e = absurd (cc e)

module _ (net : Setup) (F : State) where
  -- the claim behind a verdict
  pub claimed : (v : Verdict) → v ≢ Empty → (c : Channel) → verdict_in net F c ≡ v
      → (r : ℕ) × (i : ℕ) × (verdict_of net.relation.vcs (round_at net F r) i (claim_of net F r c) (nat_lt 0 (count_in net F c)) ≡ v)
  claimed v some c e = at (arrival_of net.relation.grid c) refl
    where
      at : (a : Option (ℕ × ℕ)) → arrival_of net.relation.grid c ≡ a → (r : ℕ) × (i : ℕ) × (verdict_of net.relation.vcs (round_at net F r) i (claim_of net F r c) (nat_lt 0 (count_in net F c)) ≡ v)
      at None h = absurd (some (sym e ∙ ap (verdict_at net F c) h))
      at (Some place) h = (place.0, place.1 * net.relation.vcs + channel_vc c, sym (ap (verdict_at net F c) h) ∙ e)

  abbrev ClaimSplit : ℕ → Channel → Type 0
  ClaimSplit r c = ((has_channel F.routed c ≡ false) × (claim_of net F r c ≡ Unrouted))
      ⊎ (((has_channel F.routed c ≡ true) × (next_channel net F c ≡ None) × (claim_of net F r c ≡ Waits (ask net F r c)))
      ⊎ ((has_channel F.routed c ≡ true) × (o : Channel) × (next_channel net F c ≡ Some o) × (x : ℕ) × (k : Bool) × (claim_of net F r c ≡ Holds x k)))

  claim-split : (r : ℕ) (c : Channel) → ClaimSplit r c
  claim-split r c = at (has_channel F.routed c) refl (next_channel net F c) refl
    where
      at : (b : Bool) → has_channel F.routed c ≡ b → (next : Option Channel) → next_channel net F c ≡ next → ClaimSplit r c
      at false h next k = inl (h, ap (λ b. cond b (claim_with net F r c (next_channel net F c)) Unrouted) h)
      at true h None k = inr (inl (h, k, ap (λ b. cond b (claim_with net F r c (next_channel net F c)) Unrouted) h ∙ ap (claim_with net F r c) k))
      at true h (Some o) k = inr (inr (h, o, k, output_index net.relation.grid net.relation.vcs o, has_credit_in net F o, ap (λ b. cond b (claim_with net F r c (next_channel net F c)) Unrouted) h ∙ ap (claim_with net F r c) k))

  pub routed-before : (c : Channel) → verdict_in net F c ≡ Routed → has_channel F.routed c ≡ false
  routed-before c e =
      let v = claimed Routed (λ s. cc) c e in
      let u = routed-claims net.relation.vcs (round_at net F v.0) v.1 (claim_of net F v.0 c) (nat_lt 0 (count_in net F c)) v.2 in
      at v.0 (claim-split v.0 c) u
    where
      at : (r : ℕ) → ClaimSplit r c → claim_of net F r c ≡ Unrouted → has_channel F.routed c ≡ false
      at r (inl a) u = a.0
      at r (inr (inl a)) u = let g : Waits (ask net F r c) ≡ Unrouted = sym a.2 ∙ u in absurd (cc g)
      at r (inr (inr a)) u = let g : Holds a.3 a.4 ≡ Unrouted = sym a.5 ∙ u in absurd (cc g)

  pub granted-before : (c : Channel) → verdict_in net F c ≡ Granted → (has_channel F.routed c ≡ true) × (next_channel net F c ≡ None)
  granted-before c e =
      let v = claimed Granted (λ s. cc) c e in
      let u = granted-claims net.relation.vcs (round_at net F v.0) v.1 (claim_of net F v.0 c) (nat_lt 0 (count_in net F c)) v.2 in
      at v.0 (claim-split v.0 c) u.0 u.1
    where
      at : (r : ℕ) → ClaimSplit r c
          → (w : Option ℕ) → claim_of net F r c ≡ Waits w → (has_channel F.routed c ≡ true) × (next_channel net F c ≡ None)
      at r (inl a) w u = let g : Unrouted ≡ Waits w = sym a.1 ∙ u in absurd (cc g)
      at r (inr (inl a)) w u = (a.0, a.1)
      at r (inr (inr a)) w u = let g : Holds a.3 a.4 ≡ Waits w = sym a.5 ∙ u in absurd (cc g)

  pub moved-before : (c : Channel) → verdict_in net F c ≡ Moved → (has_channel F.routed c ≡ true) × (o : Channel) × (next_channel net F c ≡ Some o)
  moved-before c e =
      let v = claimed Moved (λ s. cc) c e in
      let u = moved-holds net.relation.vcs (round_at net F v.0) v.1 (claim_of net F v.0 c) (nat_lt 0 (count_in net F c)) v.2 in
      at v.0 (claim-split v.0 c) u.0 u.1
    where
      at : (r : ℕ) → ClaimSplit r c
          → (w : ℕ) → claim_of net F r c ≡ Holds w true → (has_channel F.routed c ≡ true) × (o : Channel) × (next_channel net F c ≡ Some o)
      at r (inl a) w u = let g : Unrouted ≡ Holds w true = sym a.1 ∙ u in absurd (cc g)
      at r (inr (inl a)) w u = let g : Waits (ask net F r c) ≡ Holds w true = sym a.2 ∙ u in absurd (cc g)
      at r (inr (inr a)) w u = (a.0, a.1, a.2)

-- ---- after the verdicts

has-filtered : (keep : Channel → Bool) (cs : List Channel) (c : Channel) → has_channel (filter keep cs) c ≡ (has_channel cs c && keep c)
has-filtered keep [] c = refl
has-filtered keep (x ∷ xs) c = at (keep x) refl (same_channel c x) refl (has-filtered keep xs c)
  where
    and-true : (b : Bool) → keep c ≡ true → (b && keep c) ≡ b
    and-true true k = k
    and-true false k = refl

    at : (k : Bool) → keep x ≡ k → (s : Bool) → same_channel c x ≡ s → has_channel (filter keep xs) c ≡ (has_channel xs c && keep c)
        → has_channel (cond (keep x) (x ∷ filter keep xs) (filter keep xs)) c ≡ ((same_channel c x || has_channel xs c) && keep c)
    at true k true s rest = rw (k, s) (sym (ap keep (same_channel-true c x s) ∙ k))
    at true k false s rest = rw (k, s) rest
    at false k true s rest =
        let no : keep c ≡ false = ap keep (same_channel-true c x s) ∙ k in
        rw (k, s) (rest ∙ and_right (has_channel xs c) (keep c) no ∙ sym no)
    at false k false s rest = rw (k, s) rest

module _ (net : Setup) (n : ℕ) (F : State) where
  abbrev after : State
  after = after_verdicts net n F

  -- routes and grants at c
  abbrev pub allocation : Channel → ℕ
  allocation c = cond (is_routed (verdict_in net F c)) 1 0 + cond (is_granted (verdict_in net F c)) 1 0

  -- what is assumed of heads
  pub record AllocationsRight : Type 0 where
    -- no channel is twice among all
    pub once : IsApart same_channel (all_inputs net)
    -- a head stands in a channel of the network, alone of the heads, and
    -- before all other flits there
    pub listed : (p : ℕ) (c : Channel) → p < length net.packets → head_place net F p ≡ In c → Has c (all_inputs net)
    pub one_head : (p q : ℕ) (c : Channel) → p < length net.packets → q < length net.packets → head_place net F p ≡ In c → head_place net F q ≡ In c → p ≡ q
    pub goes_first : (p : ℕ) (c : Channel) (f : Located) → p < length net.packets → f.place ≡ In c → find (λ (g : Located). nat_eq p g.packet && nat_eq 0 g.index) F.at ≡ Some f
        → is_the_flit net f (front_in net F c) ≡ true
    -- a channel that is routed or granted another has a head
    pub at_heads : (c : Channel) → Has c (all_inputs net) → (verdict_in net F c ≡ Routed) ⊎ (verdict_in net F c ≡ Granted) → (p : ℕ) × (p < length net.packets) × (head_place net F p ≡ In c)
    -- the next channel of a head's channel is one nearer, or the destination's
    pub near : (p : ℕ) (c : Channel) (r q v : ℕ) → p < length net.packets → head_place net F p ≡ In c → next_channel net F c ≡ Some (Link r q v)
        → end_distance net.relation (Link r q v) (packet_at net p).destination + 1 ≡ end_distance net.relation c (packet_at net p).destination
    pub near_end : (p : ℕ) (c : Channel) (m v : ℕ) → p < length net.packets → head_place net F p ≡ In c → next_channel net F c ≡ Some (Eject m v) → end_distance net.relation c (packet_at net p).destination ≡ 0
    -- the next channel of a head's channel after the verdicts
    pub next_routed : (p : ℕ) (c : Channel) → p < length net.packets → head_place net F p ≡ In c → verdict_in net F c ≡ Routed → next_channel net after c ≡ None
    pub next_granted : (p : ℕ) (c : Channel) → p < length net.packets → head_place net F p ≡ In c → verdict_in net F c ≡ Granted → (o : Channel) × (next_channel net after c ≡ Some o)
    pub next_kept : (p : ℕ) (c : Channel) → p < length net.packets → head_place net F p ≡ In c → is_event (verdict_in net F c) ≡ false → next_channel net after c ≡ next_channel net F c

  routed-after : (c : Channel) → Has c (all_inputs net)
      → has_channel after.routed c ≡ ((has_channel F.routed c && not (tail_leaves net F c)) || is_routed (verdict_in net F c))
  unfolding after_verdicts
  routed-after c h =
      list_any-append (same_channel c) (filter (λ c. not (tail_leaves net F c)) F.routed) (filter (λ c. is_routed (verdict_in net F c)) (all_inputs net))
      ∙ ap (λ b. b || has_channel (filter (λ c. is_routed (verdict_in net F c)) (all_inputs net)) c) (has-filtered (λ c. not (tail_leaves net F c)) F.routed c)
      ∙ ap (λ b. (has_channel F.routed c && not (tail_leaves net F c)) || b)
      (has-filtered (λ c. is_routed (verdict_in net F c)) (all_inputs net) c ∙ ap (λ b. b && is_routed (verdict_in net F c)) (list_any-from (same_channel c) (all_inputs net) c h (same_channel-refl c)))

  -- what a head in c has left, by what is so of c
  abbrev left : ℕ → Channel → Bool → Option Channel → ℕ
  left p c routed next = 2 * end_distance net.relation c (packet_at net p).destination + cond routed (cond (is_some next) 0 1) 2

  module _ (right : AllocationsRight) (p : ℕ) (l : p < length net.packets) (c : Channel) (f : Located) (here : head_place net F p ≡ In c)
      (found : find (λ (g : Located). nat_eq p g.packet && nat_eq 0 g.index) F.at ≡ Some f) (place : f.place ≡ In c) where
    unmoved : is_moved (verdict_in net F c) ≡ false → moved_place net F n f (In c) ≡ In c
    unmoved e = ap (λ b. cond b (gone net F n c) (In c)) (and_left (is_moved (verdict_in net F c)) (is_the_flit net f (front_in net F c)) e)

    stays-routed : is_moved (verdict_in net F c) ≡ false → has_channel after.routed c ≡ (has_channel F.routed c || is_routed (verdict_in net F c))
    stays-routed e =
        routed-after c (right.listed p c l here)
        ∙ ap (λ b. (has_channel F.routed c && not b) || is_routed (verdict_in net F c)) (and_left (is_moved (verdict_in net F c)) (is_tail_of_packet net (front_in net F c)) e)
        ∙ ap (λ b. b || is_routed (verdict_in net F c)) (and-true (has_channel F.routed c))
      where
        and-true : (b : Bool) → (b && true) ≡ b
        and-true true = refl
        and-true false = refl

    allocation-left : (routed : Bool) (next : Option Channel) → has_channel after.routed c ≡ routed → next_channel net after c ≡ next → is_moved (verdict_in net F c) ≡ false
        → allocations_left net after p (moved_place net F n f (In c)) ≡ left p c routed next
    allocation-left routed next e k m =
        ap (allocations_left net after p) (unmoved m)
        ∙ ap (λ b. left p c b (next_channel net after c)) e ∙ ap (λ x. left p c routed x) k

    or-true : (b : Bool) → (b || true) ≡ true
    or-true true = refl
    or-true false = refl

    or-false : (b : Bool) → (b || false) ≡ b
    or-false true = refl
    or-false false = refl

    -- with no event at c
    step-other : is_event (verdict_in net F c) ≡ false → is_moved (verdict_in net F c) ≡ false → is_routed (verdict_in net F c) ≡ false → is_granted (verdict_in net F c) ≡ false
        → allocations_left net after p (moved_place net F n f (In c)) + allocation c ≡ allocations_left net F p (In c)
    step-other e m r g =
        let t : allocations_left net after p (moved_place net F n f (In c)) ≡ left p c (has_channel F.routed c) (next_channel net F c)
        = allocation-left (has_channel F.routed c) (next_channel net F c) (stays-routed m ∙ ap (λ b. has_channel F.routed c || b) r ∙ or-false (has_channel F.routed c)) (right.next_kept p c l here e) m in
        let z : allocation c ≡ 0 = ap (λ b. cond b 1 0 + cond (is_granted (verdict_in net F c)) 1 0) r ∙ ap (λ b. 0 + cond b 1 0) g in
        ap (λ x. x + allocation c) t ∙ ap (λ x. left p c (has_channel F.routed c) (next_channel net F c) + x) z ∙ plus-zero (left p c (has_channel F.routed c) (next_channel net F c))

    step-routed : verdict_in net F c ≡ Routed → allocations_left net after p (moved_place net F n f (In c)) + allocation c ≡ allocations_left net F p (In c)
    step-routed e =
        let t : allocations_left net after p (moved_place net F n f (In c)) ≡ left p c true None
        = allocation-left true None (stays-routed (ap (is_moved) e) ∙ ap (λ b. has_channel F.routed c || b) (ap (is_routed) e) ∙ or-true (has_channel F.routed c)) (right.next_routed p c l here e) (ap (is_moved) e) in
        let z : allocation c ≡ 1 = ap (λ v. cond (is_routed v) 1 0 + cond (is_granted v) 1 0) e in
        let w : allocations_left net F p (In c) ≡ left p c false (next_channel net F c) = ap (λ b. left p c b (next_channel net F c)) (routed-before net F c e) in
        omega arith

    step-granted : verdict_in net F c ≡ Granted → allocations_left net after p (moved_place net F n f (In c)) + allocation c ≡ allocations_left net F p (In c)
    step-granted e =
        let b = granted-before net F c e in
        let o = right.next_granted p c l here e in
        let t : allocations_left net after p (moved_place net F n f (In c)) ≡ left p c true (Some o.0)
        = allocation-left true (Some o.0) (stays-routed (ap (is_moved) e) ∙ ap (λ b. b || is_routed (verdict_in net F c)) b.0) o.1 (ap (is_moved) e) in
        let z : allocation c ≡ 1 = ap (λ v. cond (is_routed v) 1 0 + cond (is_granted v) 1 0) e in
        let w : allocations_left net F p (In c) ≡ left p c true None = ap (λ b. left p c b (next_channel net F c)) b.0 ∙ ap (left p c true) b.1 in
        omega arith

    step-moved : verdict_in net F c ≡ Moved → allocations_left net after p (moved_place net F n f (In c)) + allocation c ≡ allocations_left net F p (In c)
    step-moved e =
        let b = moved-before net F c e in
        let goes : moved_place net F n f (In c) ≡ gone_to net n c (Some b.1)
        = ap (λ x. cond x (gone net F n c) (In c)) (and_from (is_moved (verdict_in net F c)) (is_the_flit net f (front_in net F c)) (ap (is_moved) e) (right.goes_first p c f l place found)) ∙ ap (gone_to net n c) b.2 in
        let z : allocation c ≡ 0 = ap (λ v. cond (is_routed v) 1 0 + cond (is_granted v) 1 0) e in
        let w : allocations_left net F p (In c) ≡ left p c true (Some b.1) = ap (λ b. left p c b (next_channel net F c)) b.0 ∙ ap (left p c true) b.2 in
        ap (λ x. allocations_left net after p x + allocation c) goes ∙ ap (λ x. allocations_left net after p (gone_to net n c (Some b.1)) + x) z
        ∙ plus-zero (allocations_left net after p (gone_to net n c (Some b.1))) ∙ at b.1 b.2 ∙ sym w
      where
        at : (o : Channel) → next_channel net F c ≡ Some o → allocations_left net after p (gone_to net n c (Some o)) ≡ left p c true (Some o)
        at (Link r q v) k = let d = right.near p c r q v l here k in omega arith
        at (Eject m v) k = let d = right.near_end p c m v l here k in omega arith
        at (Inject m v) k = absurd (false≢true (next-has net F c (Inject m v) k).3)

    step-in : (v : Verdict) → verdict_in net F c ≡ v → allocations_left net after p (moved_place net F n f (In c)) + allocation c ≡ allocations_left net F p (In c)
    step-in Routed e = step-routed e
    step-in Granted e = step-granted e
    step-in Moved e = step-moved e
    step-in _ e = step-other (ap (is_event) e) (ap (is_moved) e) (ap (is_routed) e) (ap (is_granted) e)

  module _ (right : AllocationsRight) where
    -- one packet's head, and the routes and grants where it stands
    allocation-of : (p : ℕ) → p < length net.packets
        → allocations_left net after p (head_place net after p) + sum_by (λ c. cond (is_in c (head_place net F p)) (allocation c) 0) (all_inputs net) ≡ allocations_left net F p (head_place net F p)
    unfolding after_verdicts
    allocation-of p l =
        ap (λ (o : Option Located). allocations_left net after p (unwrap_or (option_map (λ (f : Located). f.place) o) Source) + sum_by (λ c. cond (is_in c (head_place net F p)) (allocation c) 0) (all_inputs net))
        (find-map (λ (g : Located). nat_eq p g.packet && nat_eq 0 g.index) step (λ f. refl) F.at)
        ∙ at (find (λ (g : Located). nat_eq p g.packet && nat_eq 0 g.index) F.at) refl
      where
        step : Located → Located
        step f = record f { place = moved_place net F n f f.place }

        nowhere : (place : Place) → ((c : Channel) → is_in c place ≡ false) → sum_by (λ c. cond (is_in c place) (allocation c) 0) (all_inputs net) ≡ 0
        nowhere place misses = sum-none (λ c. cond (is_in c place) (allocation c) 0) (all_inputs net) (λ c h. ap (λ b. cond b (allocation c) 0) (misses c))

        by-place : (f : Located) → find (λ (g : Located). nat_eq p g.packet && nat_eq 0 g.index) F.at ≡ Some f → (place : Place) → f.place ≡ place → head_place net F p ≡ place
            → allocations_left net after p (moved_place net F n f place) + sum_by (λ c. cond (is_in c place) (allocation c) 0) (all_inputs net) ≡ allocations_left net F p place
        by-place f found Source e here = ap (λ m. allocations_left net F p Source + m) (nowhere Source (λ c. refl)) ∙ plus-zero (allocations_left net F p Source)
        by-place f found (On d) e here = ap (λ m. allocations_left net F p (On d) + m) (nowhere (On d) (λ c. refl)) ∙ plus-zero (allocations_left net F p (On d))
        by-place f found (Out m) e here = ap (λ x. allocations_left net F p (Out m) + x) (nowhere (Out m) (λ c. refl)) ∙ plus-zero (allocations_left net F p (Out m))
        by-place f found (In d) e here =
            ap (λ m. allocations_left net after p (moved_place net F n f (In d)) + m) (amount-at allocation d (all_inputs net) (λ z. right.listed p d l here) right.once)
            ∙ step-in right p l d f here found e (verdict_in net F d) refl

        at : (o : Option Located) → find (λ (g : Located). nat_eq p g.packet && nat_eq 0 g.index) F.at ≡ o
            → allocations_left net after p (unwrap_or (option_map (λ (f : Located). f.place) (option_map step o)) Source) + sum_by (λ c. cond (is_in c (head_place net F p)) (allocation c) 0) (all_inputs net)
            ≡ allocations_left net F p (head_place net F p)
        at None e =
            let here : head_place net F p ≡ Source = ap (λ (o : Option Located). unwrap_or (option_map (λ (f : Located). f.place) o) Source) e in
            ap (λ (q : Place). allocations_left net after p Source + sum_by (λ c. cond (is_in c q) (allocation c) 0) (all_inputs net)) here
            ∙ ap (λ m. allocations_left net F p Source + m) (nowhere Source (λ c. refl)) ∙ plus-zero (allocations_left net F p Source) ∙ ap (allocations_left net F p) (sym here)
        at (Some f) e =
            let here : head_place net F p ≡ f.place = ap (λ (o : Option Located). unwrap_or (option_map (λ (f : Located). f.place) o) Source) e in
            ap (λ (q : Place). allocations_left net after p (moved_place net F n f f.place) + sum_by (λ c. cond (is_in c q) (allocation c) 0) (all_inputs net)) here
            ∙ by-place f e f.place refl here ∙ ap (allocations_left net F p) (sym here)

    -- the same, by the channel where the head stands
    pub allocation-here : (p : ℕ) → p < length net.packets → (c : Channel) → head_place net F p ≡ In c → allocations_left net after p (head_place net after p) + allocation c ≡ allocations_left net F p (In c)
    allocation-here p l c here =
        ap (λ m. allocations_left net after p (head_place net after p) + m) (sym (amount-at allocation c (all_inputs net) (λ z. right.listed p c l here) right.once))
        ∙ ap (λ (x : Place). allocations_left net after p (head_place net after p) + sum_by (λ d. cond (is_in d x) (allocation d) 0) (all_inputs net)) (sym here)
        ∙ allocation-of p l ∙ ap (allocations_left net F p) here

    -- one channel's routes and grants, head by head
    allocation-at : (c : Channel) → Has c (all_inputs net) → sum_by (λ p. cond (is_in c (head_place net F p)) (allocation c) 0) (below (length net.packets)) ≡ allocation c
    unfolding below
    allocation-at c h = at (verdict_in net F c) refl
      where
        headed : (verdict_in net F c ≡ Routed) ⊎ (verdict_in net F c ≡ Granted) → sum_by (λ p. cond (is_in c (head_place net F p)) (allocation c) 0) (below (length net.packets)) ≡ allocation c
        headed v =
            let a = right.at_heads c h v in
            sum-only (λ p. is_in c (head_place net F p)) (allocation c) 0 (length net.packets) a.0 (omega arith) (omega (arith, a.1)) (ap (is_in c) a.2 ∙ same_channel-refl c)
            (λ q k e. right.one_head q a.0 c (Has-below q (length net.packets) k) a.1 (is_in-is c (head_place net F q) e) a.2)

        none : allocation c ≡ 0 → sum_by (λ p. cond (is_in c (head_place net F p)) (allocation c) 0) (below (length net.packets)) ≡ allocation c
        none z = sum-none (λ p. cond (is_in c (head_place net F p)) (allocation c) 0) (below (length net.packets)) (λ p k. ap (λ m. cond (is_in c (head_place net F p)) m 0) z ∙ both (is_in c (head_place net F p))) ∙ sym z
          where
            both : (b : Bool) → cond {A = ℕ} b 0 0 ≡ 0
            both true = refl
            both false = refl

        at : (v : Verdict) → verdict_in net F c ≡ v → sum_by (λ p. cond (is_in c (head_place net F p)) (allocation c) 0) (below (length net.packets)) ≡ allocation c
        at Routed e = headed (inl e)
        at Granted e = headed (inr e)
        at _ e = none (ap (λ v. cond (is_routed v) 1 0 + cond (is_granted v) 1 0) e)

    -- the allocations fall by one for each route and each grant
    pub allocations-fall : sum_by (λ p. allocations_left net after p (head_place net after p)) (below (length net.packets)) + sum_by allocation (all_inputs net)
        ≡ sum_by (λ p. allocations_left net F p (head_place net F p)) (below (length net.packets))
    allocations-fall =
        let s : sum_by (λ p. sum_by (λ c. cond (is_in c (head_place net F p)) (allocation c) 0) (all_inputs net)) (below (length net.packets)) ≡ sum_by allocation (all_inputs net)
        = sum_by-sum_by (λ p c. cond (is_in c (head_place net F p)) (allocation c) 0) (below (length net.packets)) (all_inputs net)
        ∙ sum_by-each (λ c. sum_by (λ p. cond (is_in c (head_place net F p)) (allocation c) 0) (below (length net.packets))) allocation (all_inputs net) allocation-at in
        ap (λ m. sum_by (λ p. allocations_left net after p (head_place net after p)) (below (length net.packets)) + m) (sym s)
        ∙ sym (sum_by-+ (λ p. allocations_left net after p (head_place net after p)) (λ p. sum_by (λ c. cond (is_in c (head_place net F p)) (allocation c) 0) (all_inputs net)) (below (length net.packets)))
        ∙ sum_by-each (λ p. allocations_left net after p (head_place net after p) + sum_by (λ c. cond (is_in c (head_place net F p)) (allocation c) 0) (all_inputs net)) (λ p. allocations_left net F p (head_place net F p)) (below (length net.packets))
        (λ p h. allocation-of p (Has-below p (length net.packets) h))

  event-split : (v : Verdict) → cond (is_event v) 1 0 ≡ cond (is_moved v) 1 0 + (cond (is_routed v) 1 0 + cond (is_granted v) 1 0)
  event-split Routed = refl
  event-split Granted = refl
  event-split Moved = refl
  event-split _ = refl

  -- each verdict that is an event takes one from the remainder
  pub verdicts-fall : AllocationsRight → MovesNear net n F → IsDistinct (same_flit) F.at → F.back ≡ []
      → remainder net after + count_by (λ c. is_event (verdict_in net F c)) (all_inputs net) ≡ remainder net F
  verdicts-fall right near distinct back =
      let w = moves-fall net n F near distinct right.once in
      let t = allocations-fall right in
      let b : length F.back ≡ 0 = ap (λ (cs : List Channel). length cs) back in
      let e : count_by (λ c. is_event (verdict_in net F c)) (all_inputs net) ≡ count_by (λ c. is_moved (verdict_in net F c)) (all_inputs net) + sum_by allocation (all_inputs net)
      = sum_by-each (λ c. cond (is_event (verdict_in net F c)) 1 0) (λ c. cond (is_moved (verdict_in net F c)) 1 0 + allocation c) (all_inputs net) (λ c h. event-split (verdict_in net F c))
      ∙ sum_by-+ (λ c. cond (is_moved (verdict_in net F c)) 1 0) allocation (all_inputs net) in
      omega arith
