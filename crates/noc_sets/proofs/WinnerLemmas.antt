-- The winner of an output port, by a word of channels: one channel of a port at most, and masks of
-- whole ports.
use Rattle.std.proofs.Common.{◌≡◌, ℕ, ◌+◌, ◌*◌, ◌/◌, ◌%◌, ◌^◌, ◌<◌, ◌≤◌, Bool, true, false, Some, None, refl, ap, sym, ◌∙◌, arith, inl, inr, w64, bit_and, add-mul, mul-le-mul_right}
use Rattle.std.specs.Prelude.{nat_eq, nat_le, ◌⊎◌, ◌&&◌, if◌then◌else◌}
use Rattle.std.specs.Int.{trailing_zeros}
use Rattle.std.proofs.lemmas.Bool.{eq-eqb, ne_eqb, cases_lt, false≢true, le-leb, leb-true, and_parts}
use Rattle.std.proofs.lemmas.Nat.{div-mul-add, div-add-mod', and_le_l}
use Rattle.noc_packet.specs.Set.{has_bit, IsLeast}
use Rattle.noc_packet.proofs.SetLemmas.{both_members, has_bit-zero}
use Rattle.noc_alloc.specs.Arbiter.{first_in_turn}
use Rattle.noc_alloc.proofs.ArbiterLemmas.{first_in_turn-at, first_in_turn-before, first_in_turn-none}
use Rattle.noc_sets.specs.Turns.{in_turn}
use Rattle.noc_sets.proofs.MemberLemmas.{least_is, and_fits}

-- the channels of each port that asks, and whether it asks
pub record AreAsking (vcs ports asks : ℕ) (port_asks : ℕ → Bool) : Type 0 where
  pub some : 0 < vcs
  pub fits : asks < 2 ^ 64
  pub each : (k : ℕ) → has_bit asks k ≡ true → (k / vcs < ports) × (port_asks (k / vcs) ≡ true)
  pub from : (p : ℕ) → p < ports → port_asks p ≡ true → (d : ℕ) × (d < vcs) × (has_bit asks (p * vcs + d) ≡ true)

-- the channels of the ports at or after the pointer; where that is 0, it may also have none
abbrev pub ShowsPorts : ℕ → ℕ → ℕ → ℕ → Type 0
ShowsPorts vcs ports mask pointer =
    ((k : ℕ) → k / vcs < ports → has_bit mask k ≡ nat_le pointer (k / vcs))
    ⊎ ((pointer ≡ 0) × ((k : ℕ) → k / vcs < ports → has_bit mask k ≡ false))

-- a place of a lower port is lower
lower : (vcs y d t : ℕ) → 0 < vcs → d < vcs → y < t / vcs → y * vcs + d < t
lower vcs y d t some l u =
    let whole : t / vcs * vcs + t % vcs ≡ t = div-add-mod' t vcs in
    let m : (y + 1) * vcs ≤ t / vcs * vcs = mul-le-mul_right vcs (omega arith) in
    let s : (y + 1) * vcs ≡ y * vcs + 1 * vcs = add-mul y 1 vcs in
    omega arith

module _ (vcs ports asks mask pointer : ℕ) (port_asks : ℕ → Bool) (are : AreAsking vcs ports asks port_asks) (few : pointer < ports) (shows : ShowsPorts vcs ports mask pointer) where
  -- no port below the least channel of a set asks by a channel of the set
  silent : (set t y : ℕ) → IsLeast (has_bit set) (Some t) → ((d : ℕ) → d < vcs → has_bit asks (y * vcs + d) ≡ true → has_bit set (y * vcs + d) ≡ true) → y < ports → y < t / vcs → port_asks y ≡ false
  silent set t y least among ly lu = at (port_asks y) refl
    where
      at : (b : Bool) → port_asks y ≡ b → b ≡ false
      at false e = refl
      at true e =
          let one = are.from y ly e in
          absurd (false≢true (sym (least.1 (y * vcs + one.0) (lower vcs y one.0 t are.some one.1 lu)) ∙ among one.0 one.1 one.2))

  high-bit : (k : ℕ) → has_bit (bit_and asks mask) k ≡ (has_bit asks k && has_bit mask k)
  high-bit k = both_members asks mask k

  -- the least of those at or after the pointer
  ahead : (t : ℕ) → IsLeast (has_bit (bit_and asks mask)) (Some t) → first_in_turn ports pointer port_asks ≡ Some (t / vcs)
  ahead t least = side shows
    where
      both : (has_bit asks t ≡ true) × (has_bit mask t ≡ true)
      both = and_parts (has_bit asks t) (has_bit mask t) (sym (high-bit t) ∙ least.0)

      side : ShowsPorts vcs ports mask pointer → first_in_turn ports pointer port_asks ≡ Some (t / vcs)
      side (inl from) =
          let here = are.each t both.0 in
          first_in_turn-at ports pointer (t / vcs) port_asks (leb-true pointer (t / vcs) (sym (from t here.0) ∙ both.1)) here.0 here.1
          (λ y ly lu. silent (bit_and asks mask) t y least
          (λ d ld e. let at_port : (y * vcs + d) / vcs ≡ y = div-mul-add y vcs d ld in
          high-bit (y * vcs + d) ∙ ap (λ b. b && has_bit mask (y * vcs + d)) e ∙ from (y * vcs + d) (omega (arith, here.0)) ∙ ap (nat_le pointer) at_port ∙ le-leb pointer y ly)
          (omega (arith, here.0)) lu)
      side (inr none) = absurd (false≢true (sym (none.1 t (are.each t both.0).0) ∙ both.1))

  -- none at or after the pointer: the least of all
  behind : (t : ℕ) → bit_and asks mask ≡ 0 → IsLeast (has_bit asks) (Some t) → first_in_turn ports pointer port_asks ≡ Some (t / vcs)
  behind t nobody least = side shows
    where
      here : (t / vcs < ports) × (port_asks (t / vcs) ≡ true)
      here = are.each t least.0

      before_it : (y : ℕ) → y < t / vcs → port_asks y ≡ false
      before_it y lu = silent asks t y least (λ d ld e. e) (omega (arith, here.0)) lu

      side : ShowsPorts vcs ports mask pointer → first_in_turn ports pointer port_asks ≡ Some (t / vcs)
      side (inl from) = first_in_turn-before ports pointer (t / vcs) port_asks (before (cases_lt (t / vcs) pointer)) (omega arith) here.1 free before_it
        where
          off : (k : ℕ) → has_bit asks k ≡ true → pointer ≤ k / vcs → ⊥
          off k e l =
              let on : has_bit (bit_and asks mask) k ≡ true = high-bit k ∙ ap (λ b. b && has_bit mask k) e ∙ from k (are.each k e).0 ∙ le-leb pointer (k / vcs) l in
              false≢true (sym (ap (λ m. has_bit m k) nobody ∙ has_bit-zero k) ∙ on)

          free : (y : ℕ) → pointer ≤ y → y < ports → port_asks y ≡ false
          free y ly lu = at (port_asks y) refl
            where
              at : (b : Bool) → port_asks y ≡ b → b ≡ false
              at false e = refl
              at true e =
                  let one = are.from y lu e in
                  let at_port : (y * vcs + one.0) / vcs ≡ y = div-mul-add y vcs one.0 one.1 in
                  absurd (off (y * vcs + one.0) one.2 (omega arith))

          before : (t / vcs < pointer) ⊎ (pointer ≤ t / vcs) → t / vcs < pointer
          before (inl l) = l
          before (inr u) = absurd (off t least.0 u)
      side (inr none) = first_in_turn-at ports pointer (t / vcs) port_asks (omega (arith, none.0)) here.0 here.1 (λ y ly lu. before_it y lu)

  -- the port of the least channel in turn comes first
  pub winner-is : first_in_turn ports pointer port_asks ≡ (if nat_eq asks 0 then None else Some (trailing_zeros w64 (in_turn asks mask) / vcs))
  winner-is = at (cases_lt 0 (bit_and asks mask)) (cases_lt 0 asks)
    where
      at : (0 < bit_and asks mask) ⊎ (bit_and asks mask ≤ 0) → (0 < asks) ⊎ (asks ≤ 0) → first_in_turn ports pointer port_asks ≡ (if nat_eq asks 0 then None else Some (trailing_zeros w64 (in_turn asks mask) / vcs))
      at (inl some) (inr nobody) = let le : bit_and asks mask ≤ asks = and_le_l asks mask in absurd (omega arith)
      at (inl some) (inl any) =
          rw (ne_eqb asks 0 (λ e. absurd (omega arith)), ne_eqb (bit_and asks mask) 0 (λ e. absurd (omega arith)))
          (ahead (trailing_zeros w64 (bit_and asks mask)) (least_is (bit_and asks mask) some (and_fits asks mask are.fits)))
      at (inr none) (inl any) =
          let z : bit_and asks mask ≡ 0 = omega arith in
          rw (ne_eqb asks 0 (λ e. absurd (omega arith)), eq-eqb (bit_and asks mask) 0 z)
          (behind (trailing_zeros w64 asks) z (least_is asks any are.fits))
      at (inr none) (inr nobody) =
          let zz : asks ≡ 0 = omega arith in
          rw (eq-eqb asks 0 zz)
          (first_in_turn-none ports pointer port_asks (λ y l. quiet y l (port_asks y) refl))
        where
          quiet : (y : ℕ) → y < ports → (b : Bool) → port_asks y ≡ b → b ≡ false
          quiet y l false e = refl
          quiet y l true e =
              let one = are.from y l e in
              let zz : asks ≡ 0 = omega arith in
              absurd (false≢true (sym (ap (λ m. has_bit m (y * vcs + one.0)) zz ∙ has_bit-zero (y * vcs + one.0)) ∙ one.2))
