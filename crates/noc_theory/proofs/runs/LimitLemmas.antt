-- No router goes past the limit.
use Rattle.std.proofs.Common.{◌≡◌, ℕ, ◌+◌, ◌<◌, ◌≤◌, Bool, true, false, length, get_or, Some, refl, ap, sym, ◌∙◌, arith}
use Rattle.std.specs.Prelude.{not, nat_lt, nat_eq, ◌&&◌}
use Rattle.noc_theory.proofs.Common.{get_or_from_slice_get, slice_get_within, and_parts, ltb-true, eqb-true, map_indexed, one_if, length-map_indexed, get_or-map_indexed, View, Event, Take, Decide, Put, CoreState, Post, happens, is_ready, may_decide, all_have, holds_at, post_at, resting_post, IsInStep, cycle_of, lockstep_core, lockstep_wires, lockstep_at, Run, is_decide}
use Rattle.noc_theory.specs.InStep.{AreWithin}
use Rattle.noc_theory.proofs.runs.CoreLemmas.{moves}

module _ (limit : ℕ) where
  not-decided : (b : Bool) → not b ≡ true → one_if b ≡ 0
  not-decided true e = absurd (cc e)
  not-decided false e = refl

  -- a router that decides is not yet at the limit
  pub decides-below : (k : CoreState) (r : ℕ) (post : Post) → post_at k r ≡ Some post → is_ready limit k (Decide r) ≡ true → cycle_of post < limit
  unfolding is_ready
  decides-below k r post at ready =
      let may : may_decide limit k.net r post ≡ true = sym (ap (holds_at (may_decide limit k.net r)) at) ∙ ready in
      let parts = and_parts (not post.decided && all_have k.net r post.taken) (nat_lt post.steps limit) may in
      let free = and_parts (not post.decided) (all_have k.net r post.taken) parts.0 in
      let low : post.steps < limit = ltb-true _ _ parts.1 in
      let none : one_if post.decided ≡ 0 = not-decided post.decided free.0 in
      omega arith

  -- an event leaves all routers within the limit
  pub happens-within : (k : CoreState) (e : Event) → IsInStep limit k → AreWithin limit k → is_ready limit k e ≡ true → AreWithin limit (happens k e)
  happens-within k e sound there ready r post at = by e (moves limit k e r post sound ready at).0 (moves limit k e r post sound ready at).1 ready (moves limit k e r post sound ready at).2.cycle
    where
      by : (e : Event) (before : Post) → post_at k r ≡ Some before → is_ready limit k e ≡ true → cycle_of post ≡ cycle_of before + one_if (is_decide r e) → cycle_of post ≤ limit
      by (Take x p) before was ready moved = let l = there r before was in omega arith
      by (Put x p) before was ready moved = let l = there r before was in omega arith
      by (Decide x) before was ready moved = one (nat_eq r x) refl moved
        where
          one : (b : Bool) → nat_eq r x ≡ b → cycle_of post ≡ cycle_of before + one_if b → cycle_of post ≤ limit
          one false same m = let l = there r before was in omega arith
          one true same m =
              let here : is_ready limit k (Decide r) ≡ true = ap (λ y. is_ready limit k (Decide y)) (eqb-true r x same) ∙ ready in
              let l = decides-below k r before was here in omega arith

  -- and it begins within it
  pub opening-within : (u : Run) → u.count ≤ limit → AreWithin limit (lockstep_core u)
  unfolding lockstep_core
  opening-within u few r post at =
      let opened = λ (i : ℕ) (view : View). resting_post u.net view u.count (lockstep_wires u.net u.count i) in
      let views = (lockstep_at u.net u.count).views in
      let count : length (map_indexed (λ (i : ℕ) (view : View). resting_post u.net view u.count (lockstep_wires u.net u.count i)) (lockstep_at u.net u.count).views) ≡ length (lockstep_at u.net u.count).views = length-map_indexed opened views in
      let within = slice_get_within (map_indexed opened views) r post at in
      let l : r < length (lockstep_at u.net u.count).views = omega arith in
      let is : post ≡ opened r (get_or views r post.view) = sym (get_or_from_slice_get (map_indexed opened views) r post post at) ∙ get_or-map_indexed opened views r post.view post l in
      let cycle : cycle_of post ≡ u.count + 0 = ap cycle_of is in
      omega arith
