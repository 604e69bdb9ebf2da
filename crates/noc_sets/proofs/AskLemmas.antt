-- What a waiting channel asks for.
use Rattle.std.proofs.Common.{◌≡◌, ℕ, ◌-◌, ◌^◌, ◌<◌, ◌≤◌, true, Some, None, ap, sym, ◌∙◌, arith, inl, inr, w64, bit_and}
use Rattle.std.specs.Prelude.{nat_eq, ◌⊎◌, ◌&&◌, find, if◌then◌else◌}
use Rattle.std.specs.Int.{trailing_zeros}
use Rattle.std.proofs.lemmas.Bool.{eq-eqb, ne_eqb, cases_lt, and_parts}
use Rattle.noc_topo.specs.Lists.{below}
use Rattle.noc_packet.specs.Set.{has_bit, IsLeast}
use Rattle.noc_packet.proofs.SetLemmas.{both_members, has_bit-zero}
use Rattle.noc_alloc.specs.Members.{MembersAreBelow}
use Rattle.noc_vc.specs.Output.{is_free}
use Rattle.noc_view.specs.View.{View, size_of, view_output, asked_for, local_channel, is_vacant}
use Rattle.noc_view.proofs.FindLemmas.{find-below, find-none}
use Rattle.noc_sets.proofs.MemberLemmas.{and_fits, least_is}

-- the least idle channel of a set: `(set & idle).trailing_zeros()`, where there is one
pub asked-is : (v : View) (idle set : ℕ) → set < 2 ^ 64 → MembersAreBelow (size_of v.site) idle → ((o : ℕ) → o < size_of v.site → has_bit idle o ≡ is_free (view_output v o).holder)
    → asked_for v set ≡ (if nat_eq (bit_and set idle) 0 then None else Some (trailing_zeros w64 (bit_and set idle)))
asked-is v idle set fits below_size is = at (cases_lt 0 (bit_and set idle))
  where
    both : (o : ℕ) → o < size_of v.site → (has_bit set o && is_free (view_output v o).holder) ≡ has_bit (bit_and set idle) o
    both o l = ap (λ b. has_bit set o && b) (sym (is o l)) ∙ sym (both_members set idle o)

    at : (0 < bit_and set idle) ⊎ (bit_and set idle ≤ 0) → asked_for v set ≡ (if nat_eq (bit_and set idle) 0 then None else Some (trailing_zeros w64 (bit_and set idle)))
    at (inl some) =
        let least : IsLeast (has_bit (bit_and set idle)) (Some (trailing_zeros w64 (bit_and set idle))) = least_is (bit_and set idle) some (and_fits set idle fits) in
        let within : trailing_zeros w64 (bit_and set idle) < size_of v.site =
        below_size (trailing_zeros w64 (bit_and set idle)) (and_parts (has_bit set (trailing_zeros w64 (bit_and set idle))) (has_bit idle (trailing_zeros w64 (bit_and set idle))) (sym (both_members set idle (trailing_zeros w64 (bit_and set idle))) ∙ least.0)).1 in
        find-below (λ o. has_bit set o && is_free (view_output v o).holder) (size_of v.site) (trailing_zeros w64 (bit_and set idle)) within
        (both (trailing_zeros w64 (bit_and set idle)) within ∙ least.0)
        (λ k l. both k (omega (arith, within)) ∙ least.1 k l)
        ∙ sym (ap (λ b. if b then None else Some (trailing_zeros w64 (bit_and set idle))) (ne_eqb (bit_and set idle) 0 (λ e. absurd (omega arith))))
    at (inr none) =
        let z : bit_and set idle ≡ 0 = omega arith in
        find-none (λ o. has_bit set o && is_free (view_output v o).holder) (size_of v.site) (λ k l. both k l ∙ ap (λ m. has_bit m k) z ∙ has_bit-zero k)
        ∙ sym (ap (λ b. if b then None else Some (trailing_zeros w64 (bit_and set idle))) (eq-eqb (bit_and set idle) 0 z))

-- the lowest vacant local channel: `least(free)`, where the word has just those that are vacant
pub vacant-is : (v : View) (free : ℕ) → free < 2 ^ 64 → ((i : ℕ) → has_bit free i ≡ true → (local_channel v.site 0 ≤ i) × (i < local_channel v.site v.site.vcs))
    → ((vc : ℕ) → vc < v.site.vcs → has_bit free (local_channel v.site vc) ≡ is_vacant v vc)
    → find (is_vacant v) (below v.site.vcs) ≡ (if nat_eq free 0 then None else Some (trailing_zeros w64 free - local_channel v.site 0))
vacant-is v free fits local each = at (cases_lt 0 free)
  where
    at : (0 < free) ⊎ (free ≤ 0) → find (is_vacant v) (below v.site.vcs) ≡ (if nat_eq free 0 then None else Some (trailing_zeros w64 free - local_channel v.site 0))
    at (inl some) =
        let least : IsLeast (has_bit free) (Some (trailing_zeros w64 free)) = least_is free some fits in
        let range = local (trailing_zeros w64 free) least.0 in
        let back : local_channel v.site (trailing_zeros w64 free - local_channel v.site 0) ≡ trailing_zeros w64 free = omega (arith, range.0) in
        let within : trailing_zeros w64 free - local_channel v.site 0 < v.site.vcs = omega (arith, range.0, range.1) in
        find-below (is_vacant v) v.site.vcs (trailing_zeros w64 free - local_channel v.site 0) within
        (sym (each (trailing_zeros w64 free - local_channel v.site 0) within) ∙ ap (has_bit free) back ∙ least.0)
        (λ k l. sym (each k (omega (arith, within))) ∙ least.1 (local_channel v.site k) (omega (arith, range.0)))
        ∙ sym (ap (λ b. if b then None else Some (trailing_zeros w64 free - local_channel v.site 0)) (ne_eqb free 0 (λ e. absurd (omega arith))))
    at (inr none) =
        let z : free ≡ 0 = omega arith in
        find-none (is_vacant v) v.site.vcs (λ k l. sym (each k l) ∙ ap (λ m. has_bit m (local_channel v.site k)) z ∙ has_bit-zero (local_channel v.site k))
        ∙ sym (ap (λ b. if b then None else Some (trailing_zeros w64 free - local_channel v.site 0)) (eq-eqb free 0 z))
