-- In whose buffer the tail is: kept through a cycle, as equations on sets.
use Rattle.std.proofs.Common.{◌≡◌, ℕ, ◌^◌, ◌<◌, ◌≤◌, Bool, true, false, List, [], ◌∷◌, length, Option, refl, ap, ap₂, sym, ◌∙◌, subst, arith, inl, inr, bit_and, bit_or}
use Rattle.std.specs.Prelude.{◌⊎◌, ◌&&◌, ◌||◌, drop, nat_eq, nat_lt, not, slice_get, if◌then◌else◌}
use Rattle.noc_sets.specs.Planes.{more_than_one}
use Rattle.noc_sets.proofs.PlaneLemmas.{more-members}
use Rattle.noc_sets.specs.Ended.{ended_next, ended_taken, lane_released, leads_tail}
use Rattle.noc_sets.proofs.TailLemmas.{tail-first, tail-joined, tail-left}
use Rattle.noc_theory_bits.proofs.Common.{and_parts, cases_lt, eq-eqb, le-ltb, lt-ltb, ne_eqb, has_bit, Beat, Flit, both_members, either_members, Routes, MembersAreBelow, Site, View, size_of, view_buffer, first_flit, is_tail, decisions_of, view_after_commit, HasInjected, injected_to, Column, RouterMarks, IsColumn, HasSize, HasTaken, credit_from, flit_from, less_members, AreMoved, AreTails, ShowsEnded, AreConsecutive, holds_tail, ShowsWires}
use Rattle.noc_theory_bits.proofs.network.PutLemmas.{buffer-next}
use Rattle.noc_theory_bits.proofs.routers.SettleLemmas.{committed-site}
use Rattle.noc_sets.proofs.MemberLemmas.{and-true}

or-below : (n a b : ℕ) → MembersAreBelow n a → MembersAreBelow n b → MembersAreBelow n (bit_or a b)
or-below n a b la lb k e = by (has_bit a k) refl
  where
    by : (x : Bool) → has_bit a k ≡ x → k < n
    by true h = la k h
    by false h = lb k (sym (either_members a b k ∙ ap (λ x. x || has_bit b k) h) ∙ e)

-- ---- flits land
-- the tails that come are in the buffers from then on
pub ended-taken : (relation : Routes) (v w : View) (beats : List Beat) (ended flits tails credits : ℕ)
    → ShowsEnded ended v → ShowsWires v flits tails credits beats → HasTaken relation v w (flit_from v.site.vcs 0 beats) (credit_from v.site.vcs 0 beats) → ShowsEnded (ended_taken ended tails) w
ended-taken relation v w beats ended flits tails credits shows wires taken = record {
  each = λ i l.
      let u : i < size_of v.site = subst (λ (s : Site). i < size_of s) same l in
      either_members ended tails i
      ∙ ap₂ (λ a b. a || b) (shows.each i u) (wires.tail_comes i u)
      ∙ sym (ap holds_tail (taken.buffer i u) ∙ tail-joined (view_buffer v i) (flit_from v.site.vcs 0 beats i));
  below = subst (λ (s : Site). MembersAreBelow (size_of s) (bit_or ended tails)) (sym same) (or-below (size_of v.site) ended tails shows.below wires.tail_comes_below);
}
  where
    same : w.site ≡ v.site
    same = ap (λ (x : View). x.site) taken.rest

-- ---- a flit is injected
-- where `last` are the channels into which a tail is injected
pub ended-injected : (v w : View) (new : Option (ℕ × Flit)) (ended last : ℕ) → ShowsEnded ended v → HasInjected v w new
    → ((i : ℕ) → i < size_of v.site → has_bit last i ≡ is_tail (injected_to v new i)) → MembersAreBelow (size_of v.site) last → ShowsEnded (bit_or ended last) w
ended-injected v w new ended last shows injected is small = record {
  each = λ i l.
      let u : i < size_of v.site = subst (λ (s : Site). i < size_of s) injected.site l in
      either_members ended last i
      ∙ ap₂ (λ a b. a || b) (shows.each i u) (is i u)
      ∙ sym (ap holds_tail (injected.buffer i u) ∙ tail-joined (view_buffer v i) (injected_to v new i));
  below = subst (λ (s : Site). MembersAreBelow (size_of s) (bit_or ended last)) (sym injected.site) (or-below (size_of v.site) ended last shows.below small);
}

-- ---- what is in front
module _ (count : ℕ) (c : Column) (m : RouterMarks) (v : View) (ended : ℕ) (column : IsColumn count c m v) (shows : ShowsEnded ended v)
    (worms : (i : ℕ) → i < size_of v.site → AreConsecutive (view_buffer v i)) where
  more-is : (i : ℕ) → i < size_of v.site → has_bit (more_than_one c.len) i ≡ nat_lt 1 (length (view_buffer v i))
  more-is i l = more-members c.len i ∙ ap (λ k. nat_lt 1 k) (column.channels.inputs i l).len

  one-or-more : (flits : List Flit) → (holds_tail flits && nat_eq (length flits) 1) ≡ (holds_tail flits && not (nat_lt 1 (length flits)))
  one-or-more [] = refl
  one-or-more (f ∷ rest) = ap (λ b. holds_tail (f ∷ rest) && b) (at (cases_lt 1 (length (f ∷ rest))))
    where
      at : (1 < length (f ∷ rest)) ⊎ (length (f ∷ rest) ≤ 1) → nat_eq (length (f ∷ rest)) 1 ≡ not (nat_lt 1 (length (f ∷ rest)))
      at (inl l) = ne_eqb (length (f ∷ rest)) 1 (λ e. absurd (omega (arith, e, l))) ∙ sym (ap not (lt-ltb 1 (length (f ∷ rest)) l))
      at (inr u) = eq-eqb (length (f ∷ rest)) 1 (omega arith) ∙ sym (ap not (le-ltb 1 (length (f ∷ rest)) u))

  -- the first flit of a buffer is a tail exactly where the words say so
  pub first-told : (i : ℕ) → i < size_of v.site → is_tail (first_flit v i) ≡ leads_tail ended c.len i
  first-told i l =
      tail-first (view_buffer v i) (worms i l) ∙ one-or-more (view_buffer v i)
      ∙ sym (ap₂ (λ a b. a && not b) (shows.each i l) (more-is i l))

  -- so no flit has to be looked at
  pub tails-told : AreTails (leads_tail ended c.len) v
  tails-told = record { each = λ i f rest l e. sym (first-told i l) ∙ ap (λ (fs : List Flit). is_tail (slice_get fs 0)) e }

  module _ (relation : Routes) (size : HasSize v) (few : size_of v.site ≤ 63) (moved : ℕ) (are : AreMoved v moved) (fits : moved < 2 ^ 64) where
    -- the tails that move, in one operation on words
    pub released-told : (k : ℕ) → has_bit (lane_released moved ended c.len) k ≡ (has_bit moved k && leads_tail ended c.len k)
    released-told k =
        less_members (bit_and moved ended) (more_than_one c.len) k
        ∙ ap (λ b. b && not (has_bit (more_than_one c.len) k)) (both_members moved ended k)
        ∙ and-assoc (has_bit moved k) (has_bit ended k) (not (has_bit (more_than_one c.len) k))
      where
        and-assoc : (x y z : Bool) → ((x && y) && z) ≡ (x && (y && z))
        and-assoc true y z = refl
        and-assoc false y z = refl

    -- a tail that moves is in the buffer no more
    pub ended-moved : (released : ℕ) → released < 2 ^ 64 → ((k : ℕ) → k < size_of v.site → has_bit released k ≡ (has_bit moved k && leads_tail ended c.len k))
        → ShowsEnded (ended_next ended released) (view_after_commit (decisions_of relation v) v)
    ended-moved released small is = record {
      each = λ i l.
          let u : i < size_of v.site = subst (λ (s : Site). i < size_of s) same l in
          less_members ended released i
          ∙ ap₂ (λ a b. a && not b) (shows.each i u) (is i u ∙ ap (λ b. has_bit moved i && b) (sym (first-told i u)))
          ∙ left i u (has_bit moved i) refl;
      below = λ k e. subst (λ (s : Site). k < size_of s) (sym same) (shows.below k (and_parts (has_bit ended k) (not (has_bit released k)) (sym (less_members ended released k) ∙ e)).0);
    }
      where
        same : (view_after_commit (decisions_of relation v) v).site ≡ v.site
        same = (committed-site (decisions_of relation v) v).0

        left : (i : ℕ) (u : i < size_of v.site) (b : Bool) → has_bit moved i ≡ b
            → (holds_tail (view_buffer v i) && not (has_bit moved i && is_tail (first_flit v i))) ≡ holds_tail (view_buffer (view_after_commit (decisions_of relation v) v) i)
        left i u true e =
            ap (λ b. holds_tail (view_buffer v i) && not (b && is_tail (first_flit v i))) e
            ∙ sym (tail-left (view_buffer v i) (worms i u))
            ∙ sym (ap holds_tail (buffer-next relation v moved size.some are size i u ∙ ap (λ b. if b then drop 1 (view_buffer v i) else view_buffer v i) e))
        left i u false e =
            ap (λ b. holds_tail (view_buffer v i) && not (b && is_tail (first_flit v i))) e
            ∙ and-true (holds_tail (view_buffer v i))
            ∙ sym (ap holds_tail (buffer-next relation v moved size.some are size i u ∙ ap (λ b. if b then drop 1 (view_buffer v i) else view_buffer v i) e))
