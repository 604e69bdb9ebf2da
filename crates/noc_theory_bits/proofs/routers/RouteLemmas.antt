-- The set to which a head is routed is a word.
use Rattle.std.proofs.Common.{◌≡◌, ℕ, ◌/◌, ◌%◌, ◌^◌, ◌<◌, ◌≤◌, Bool, true, false, Option, Some, None, sym, ◌∙◌, arith}
use Rattle.std.specs.Prelude.{if◌then◌else◌}
use Rattle.noc_route.specs.Routes.{IsRelation, width}
use Rattle.noc_view.specs.View.{route_for}
use Rattle.noc_theory_bits.proofs.Common.{false≢true, pow_below, has_bit, Flit, has_bit-zero, Routes, is_idle_phase, View, view_input, first_flit, route_of, below_fits}

pub route-fits : (relation : Routes) (v : View) → IsRelation relation → width relation.grid relation.vcs ≤ 63 → (k : ℕ) → route_of relation v k < 2 ^ 64
route-fits relation v are few k = small (route_of relation v k) (λ o h. real (first_flit v k) (is_idle_phase (view_input v k).phase) o h)
  where
    real : (f : Option Flit) (b : Bool) (o : ℕ) → has_bit (if b then route_for relation v k f else 0) o ≡ true → o < width relation.grid relation.vcs
    real f false o h = absurd (false≢true (sym (has_bit-zero o) ∙ h))
    real None true o h = absurd (false≢true (sym (has_bit-zero o) ∙ h))
    real (Some f) true o h = are.real f.class v.site.node (k / v.site.vcs) (k % v.site.vcs) f.dst o h

    small : (n : ℕ) → ((o : ℕ) → has_bit n o ≡ true → o < width relation.grid relation.vcs) → n < 2 ^ 64
    small n below = omega (arith, below_fits (width relation.grid relation.vcs) n below, pow_below (width relation.grid relation.vcs) 64 (omega (arith, few)))
