-- What allocation and routes make of a router of a block is what a router chooses.
use Rattle.std.proofs.Common.{◌≡◌, ◌≢◌, ℕ, ◌+◌, ◌*◌, ◌/◌, ◌^◌, ◌<◌, ◌≤◌, Bool, false, ap, ◌∙◌, refl, bit_or}
use Rattle.std.specs.Prelude.{◌&&◌, nat_eq, nat_lt, if◌then◌else◌}
use Rattle.noc_packet.specs.Set.{has_bit}
use Rattle.noc_packet.proofs.SetLemmas.{has_bit-zero, zero_from_none}
use Rattle.std.proofs.lemmas.Bool.{eq-eqb}
use Rattle.noc_alloc.specs.Members.{MembersAreBelow}
use Rattle.noc_sets.specs.Column.{Column, RouterMarks}
use Rattle.noc_sets.specs.Routed.{HasChosen, HasRouted}
use Rattle.noc_sets.specs.Sets.{least}
use Rattle.noc_sets.proofs.MemberLemmas.{and-false, or-zero}
use Rattle.noc_columns.specs.Allotted.{Allotment, HasAllotted, allotted_after, allotted_before, allotted_marks, given_to, routed_after}
use Rattle.noc_columns.specs.Wants.{asks_of}
use Rattle.noc_columns.specs.Words.{set_below}
use Rattle.noc_columns.proofs.AllocatedLemmas.{is-allocated}
use Rattle.noc_columns.proofs.SetLemmas.{below-members}

-- where nothing is granted, nothing changes
module _ (size vcs : ℕ) (a : Allotment) (c : Column) (m : RouterMarks) (clear : a.granted ≡ 0) (unlost : a.lost ≡ 0) where
  no-grant : (k : ℕ) → has_bit a.granted k ≡ false
  no-grant k = ap (λ w. has_bit w k) clear ∙ has_bit-zero k

  none-of : (test : ℕ → Bool) → set_below size (λ k. has_bit a.granted k && test k) ≡ 0
  none-of test = zero_from_none _ (λ k. below-members size (λ j. has_bit a.granted j && test j) k ∙ ap (λ g. nat_lt k size && (g && test k)) (no-grant k) ∙ and-false (nat_lt k size))

  taken-same : (k : ℕ) → (if has_bit a.granted k then 2 ^ (a.out_port k * vcs + a.out_vc k) else m.taken k) ≡ m.taken k
  taken-same k = ap (λ g. if g then 2 ^ (a.out_port k * vcs + a.out_vc k) else m.taken k) (no-grant k)

  owner-same : (o : ℕ) → (if nat_eq (given_to size vcs a o) 0 then m.owner o else least (given_to size vcs a o)) ≡ m.owner o
  owner-same o = ap (λ z. if z then m.owner o else least (given_to size vcs a o)) (eq-eqb (given_to size vcs a o) 0 (none-of (λ k. nat_eq (a.out_port k * vcs + a.out_vc k) o)))

  ports-same : (q : ℕ) → bit_or (m.to_port q) (set_below size (λ k. has_bit a.granted k && nat_eq (a.out_port k) q)) ≡ m.to_port q
  ports-same q = ap (bit_or (m.to_port q)) (none-of (λ k. nat_eq (a.out_port k) q)) ∙ or-zero (m.to_port q)

  pub not-allotted : allotted_after size vcs a a c m ≡ allotted_before a c m
  not-allotted =
      let supplied = ap (bit_or c.supplied) clear ∙ or-zero c.supplied in
      λ x. record {
        column = record c { waiting = a.waiting; idle = a.idle; wanted = a.wanted; supplied = supplied x };
        marks = record m {
          set = a.set;
          turn = a.turn;
          taken = λ k. taken-same k x;
          owner = λ o. owner-same o x;
          to_port = λ q. ports-same q x;
        };
        granted = clear x;
        lost = unlost x;
      }

pub is-chosen : (size vcs heads all : ℕ) (sets : ℕ → ℕ → ℕ) (set : ℕ → ℕ) (a b : Allotment) (c : Column) (m : RouterMarks) → 0 < vcs → size ≤ 64 → MembersAreBelow size a.waiting → a.granted ≡ 0 → a.lost ≡ 0 → all < 2 ^ 64
    → (asks_of a.waiting a.wanted a.idle ≢ 0 → HasAllotted vcs a b) → (asks_of a.waiting a.wanted a.idle ≡ 0 → b ≡ a)
    → HasRouted heads sets (allotted_marks size vcs b m) (record (allotted_marks size vcs b m) { set = set }) b.wanted all
    → HasChosen size (λ o. o / vcs) heads sets (allotted_before a c m) (routed_after (allotted_after size vcs a b c m) set all)
is-chosen size vcs heads all sets set a b c m some few waits clear unlost fits asked unasked routed = record {
  granted = allotted_after size vcs a b c m;
  asked = λ asks. is-allocated size vcs a b some few waits clear (asked asks) m c unlost;
  unasked = λ none. ap (λ x. allotted_after size vcs a x c m) (unasked none) ∙ not-allotted size vcs a c m clear unlost;
  routed = routed;
  rest = refl;
  wanted_fits = fits;
}
