-- The layout of the routers of a block.
use Rattle.std.proofs.Common.{◌≡◌, ℕ, ◌+◌, ◌-◌, ◌*◌, ◌^◌, ◌<◌, ◌≤◌, Bool, true, false, List, [], ◌∷◌, length, map, ap, ap₂, arith, inl, inr, mul-le-mul_right, pow_mono, refl, subst, sym, ◌∙◌}
use Rattle.std.specs.Prelude.{◌⊎◌, ◌&&◌, nat_le, nat_lt}
use Rattle.std.proofs.lemmas.Bool.{and_parts, cases_lt, le-leb, le-ltb, lt-leb, lt-ltb, ltb-true}
use Rattle.std.proofs.lemmas.List.{length-map}
use Rattle.noc_topo.specs.Lists.{one_if}
use Rattle.noc_topo.specs.Shape.{Grid, local_port, ports}
use Rattle.noc_packet.specs.Set.{has_bit}
use Rattle.noc_alloc.specs.Members.{MembersAreBelow}
use Rattle.noc_sets.specs.Opening.{AreSides}
use Rattle.noc_sets.specs.Planes.{AreAll, ArePlanes, plane_number}
use Rattle.noc_sets.proofs.MemberLemmas.{below_fits, up_members, up_none, and-true}
use Rattle.noc_sets.proofs.PlaneLemmas.{number-small}
use Rattle.noc_theory.specs.Good.{IsGoodSetup}
use Rattle.noc_theory.specs.Network.{Setup}
use Rattle.noc_columns.specs.Picks.{channels_of, port_at}
use Rattle.noc_columns.specs.Planes.{list_of, planes_by}
use Rattle.noc_columns.specs.Routing.{IsOfPorts}
use Rattle.noc_columns.specs.Words.{Numbering, all_of, set_alike, set_below}
use Rattle.noc_columns.specs.declared.planes.Planes.{Planes}
use Rattle.noc_columns.proofs.SetLemmas.{below-members}
use Rattle.noc_cycles.specs.Patterns.{IsPatternOf}
use Rattle.noc_cycles.specs.Taking.{FitsLayout, links_count}
use Rattle.noc_cycles.specs.declared.pattern.Pattern.{Pattern}
use Rattle.noc_theory_cycles.specs.Fits.{FitsNetwork, bits_of, layout_of}

-- ---- counts that are alike
-- the two bits are the same where the numbers are, and so are the rest
one-same : (a b : Bool) (m n : ℕ) → one_if a + 2 * m ≡ one_if b + 2 * n → (a ≡ b) × (m ≡ n)
one-same true true m n e = (refl, omega (arith, e))
one-same true false m n e = absurd (omega (arith, e))
one-same false true m n e = absurd (omega (arith, e))
one-same false false m n e = (refl, omega (arith, e))

alike-same : (n : Numbering) (r s word : ℕ) → has_bit word r ≡ has_bit word s → set_alike n r word ≡ set_alike n s word
alike-same n r s word e = ap (λ b. set_below n.size (λ c. b)) e

-- the planes of the counts of one router, where channels have one word for all
alike-planes : (n : Numbering) (r s : ℕ) (planes : List ℕ) → plane_number planes r ≡ plane_number planes s → map (set_alike n r) planes ≡ map (set_alike n s) planes
alike-planes n r s [] e = refl
alike-planes n r s (plane ∷ planes) e =
    let both = one-same (has_bit plane r) (has_bit plane s) (plane_number planes r) (plane_number planes s) e in
    ap₂ (λ p ps. p ∷ ps) (alike-same n r s plane both.0) (alike-planes n r s planes both.1)

alike-number : (n : Numbering) (r x : ℕ) (planes : List ℕ) → x < n.size → plane_number (map (set_alike n r) planes) x ≡ plane_number planes r
alike-number n r x [] l = refl
alike-number n r x (plane ∷ planes) l =
    ap₂ (λ b m. one_if b + 2 * m) (below-members n.size (λ c. has_bit plane r) x ∙ ap (λ b. b && has_bit plane r) (lt-ltb x n.size l)) (alike-number n r x planes l)

set-fits : (n : ℕ) (test : ℕ → Bool) → n ≤ 64 → set_below n test < 2 ^ 64
set-fits n test few =
    let small = below_fits n (set_below n test) (λ k e. ltb-true k n (first (nat_lt k n) (test k) (sym (below-members n test k) ∙ e))) in
    let most = pow_mono few in
    omega (arith, small, most)
  where
    first : (a b : Bool) → (a && b) ≡ true → a ≡ true
    first true b e = refl
    first false b e = e

alike-fits : (n : Numbering) (r : ℕ) (planes : List ℕ) → n.size ≤ 64 → ArePlanes (map (set_alike n r) planes)
alike-fits n r [] few = tt
alike-fits n r (plane ∷ planes) few = (set-fits n.size (λ c. has_bit plane r) few, alike-fits n r planes few)

list-mapped : (deep : Bool) (f : ℕ → ℕ) (planes : Planes ℕ) → list_of deep (planes_by f planes) ≡ map f (list_of deep planes)
list-mapped true f planes = refl
list-mapped false f planes = refl

pub fits-layout : (g : Grid) (vcs places : ℕ) (pattern : Pattern) → IsPatternOf g vcs places pattern → FitsLayout pattern (layout_of pattern)
fits-layout g vcs places pattern is = record {
  links = refl;
  local = refl;
  places = λ r l.
      let all = channels_of pattern.table.ports in
      list-mapped pattern.frame.deep (set_alike all 0) pattern.frame.places
      ∙ alike-planes all 0 r (list_of pattern.frame.deep pattern.frame.places) (is.places_are 0 (omega arith) ∙ sym (is.places_are r l))
      ∙ sym (list-mapped pattern.frame.deep (set_alike all r) pattern.frame.places);
}

-- ---- of a pattern
module _ (net : Setup) (setup : IsGoodSetup net) (pattern : Pattern) (is : IsPatternOf net.relation.grid net.relation.vcs net.depth pattern) where
  abbrev width : ℕ
  width = pattern.table.ports.links.width

  abbrev vcs : ℕ
  vcs = pattern.table.ports.links.vcs

  abbrev places : List ℕ
  places = list_of pattern.frame.deep pattern.frame.places

  abbrev all : Numbering
  all = channels_of pattern.table.ports

  of : IsOfPorts pattern.table.ports net.relation
  of = let width = is.width in record { count = omega (arith, width); vcs = sym is.vcs_are }

  pub size-is : ports net.relation.grid * net.relation.vcs ≡ (pattern.table.ports.links.width + 1) * pattern.table.ports.links.vcs
  size-is = ap₂ (λ p w. p * w) of.count of.vcs

  few : (pattern.table.ports.links.width + 1) * pattern.table.ports.links.vcs ≤ 63
  few =
      let dimensions = setup.relation.table.grid.few_dimensions in
      let count = of.count in
      let most : (pattern.table.ports.links.width + 1) * pattern.table.ports.links.vcs ≤ 7 * pattern.table.ports.links.vcs = mul-le-mul_right pattern.table.ports.links.vcs (omega (arith, dimensions, count)) in
      let room : pattern.table.ports.links.vcs ≤ 8 = pattern.table.ports.few in
      omega (arith, most, room)

  side-is : local_port net.relation.grid * net.relation.vcs ≡ links_count pattern
  side-is =
      let count = of.count in
      let low : local_port net.relation.grid ≡ pattern.table.ports.links.width = omega (arith, count) in
      ap₂ (λ p w. p * w) low of.vcs

  link-is : (k : ℕ) → has_bit (layout_of pattern).links k ≡ nat_lt k (local_port net.relation.grid * net.relation.vcs)
  link-is k = below-members (links_count pattern) (λ c. true) k ∙ and-true (nat_lt k (links_count pattern)) ∙ ap (nat_lt k) (sym side-is)

  local-members : (k : ℕ) → (k < links_count pattern) ⊎ (links_count pattern ≤ k) → has_bit (layout_of pattern).local k ≡ (nat_le (links_count pattern) k && nat_lt k ((pattern.table.ports.links.width + 1) * pattern.table.ports.links.vcs))
  local-members k (inl low) =
      up_none (all_of (port_at pattern.table.ports.local 0)) (links_count pattern) k low
      ∙ sym (ap (λ b. b && nat_lt k ((width + 1) * vcs)) (lt-leb (links_count pattern) k low))
  local-members k (inr high) =
      up_members (all_of (port_at pattern.table.ports.local 0)) (links_count pattern) k high
      ∙ below-members pattern.table.ports.local.vcs (λ c. true) (k - links_count pattern) ∙ and-true (nat_lt (k - links_count pattern) pattern.table.ports.local.vcs)
      ∙ same (cases_lt k ((width + 1) * vcs))
      ∙ sym (ap (λ b. b && nat_lt k ((width + 1) * vcs)) (le-leb (links_count pattern) k high))
    where
      more : (pattern.table.ports.links.width + 1) * pattern.table.ports.links.vcs ≡ pattern.table.ports.links.width * pattern.table.ports.links.vcs + pattern.table.ports.links.vcs
      more = omega arith

      alike : pattern.table.ports.local.vcs ≡ pattern.table.ports.links.vcs
      alike = pattern.table.ports.alike

      same : (k < (pattern.table.ports.links.width + 1) * pattern.table.ports.links.vcs) ⊎ ((pattern.table.ports.links.width + 1) * pattern.table.ports.links.vcs ≤ k)
          → nat_lt (k - links_count pattern) pattern.table.ports.local.vcs ≡ nat_lt k ((pattern.table.ports.links.width + 1) * pattern.table.ports.links.vcs)
      same (inl l) = lt-ltb (k - links_count pattern) pattern.table.ports.local.vcs (omega (arith, more, alike, l, high)) ∙ sym (lt-ltb k ((width + 1) * vcs) l)
      same (inr u) = le-ltb (k - links_count pattern) pattern.table.ports.local.vcs (omega (arith, more, alike, u, high)) ∙ sym (le-ltb k ((width + 1) * vcs) u)

  local-is : (k : ℕ) → has_bit (layout_of pattern).local k ≡ (nat_le (local_port net.relation.grid * net.relation.vcs) k && nat_lt k (ports net.relation.grid * net.relation.vcs))
  local-is k = local-members k (cases_lt k (links_count pattern)) ∙ ap₂ (λ low high. nat_le low k && nat_lt k high) (sym side-is) (sym size-is)

  word-fits : (word : ℕ) → MembersAreBelow (ports net.relation.grid * net.relation.vcs) word → word < 2 ^ 64
  word-fits word below =
      let small = below_fits (ports net.relation.grid * net.relation.vcs) word below in
      let low : ports net.relation.grid * net.relation.vcs ≤ 64 = omega (arith, size-is, few) in
      let most = pow_mono low in
      omega (arith, small, most)

  sides-are : AreSides net.relation.grid net.relation.vcs (layout_of pattern).links (layout_of pattern).local
  sides-are = record {
    link_fits = word-fits (layout_of pattern).links (λ k e.
        let l : k < local_port net.relation.grid * net.relation.vcs = ltb-true k (local_port net.relation.grid * net.relation.vcs) (sym (link-is k) ∙ e) in
        let more : local_port net.relation.grid * net.relation.vcs ≤ ports net.relation.grid * net.relation.vcs = mul-le-mul_right net.relation.vcs (omega arith) in
        omega (arith, l, more));
    local_fits = word-fits (layout_of pattern).local (λ k e.
        ltb-true k (ports net.relation.grid * net.relation.vcs) (and_parts (nat_le (local_port net.relation.grid * net.relation.vcs) k) (nat_lt k (ports net.relation.grid * net.relation.vcs)) (sym (local-is k) ∙ e)).1);
    link_is = link-is;
    local_is = local-is;
  }

  places-are : AreAll (bits_of pattern) (ports net.relation.grid * net.relation.vcs) net.depth (layout_of pattern).places
  places-are = record {
    bits = ap length (list-mapped pattern.frame.deep (set_alike all 0) pattern.frame.places) ∙ length-map places (set_alike all 0);
    room = let e = is.places_are 0 (omega arith) in let small = number-small places 0 in omega (arith, e, small);
    fits = subst ArePlanes (sym (list-mapped pattern.frame.deep (set_alike all 0) pattern.frame.places)) (alike-fits all 0 places (omega (arith, few)));
    each = λ x l.
        ap (λ ps. plane_number ps x) (list-mapped pattern.frame.deep (set_alike all 0) pattern.frame.places)
        ∙ alike-number all 0 x places (subst (λ m. x < m) size-is l) ∙ is.places_are 0 (omega arith);
  }

  pub fits-network : FitsNetwork (bits_of pattern) net (layout_of pattern) pattern
  fits-network = record {
    layout_is = record {
      sides = sides-are;
      all = places-are;
      few = omega (arith, size-is, few);
    };
    ports = of;
  }
