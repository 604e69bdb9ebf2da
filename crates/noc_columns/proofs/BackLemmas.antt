-- The local output channels by which packets leave are those that tails free.
use Rattle.std.proofs.Common.{◌≡◌, ◌⊎◌, ℕ, ◌+◌, ◌*◌, ◌^◌, ◌<◌, ◌≤◌, Bool, true, false, Some, arith, ap, ap₂, sym, ◌∙◌, refl, inl, inr, bit_and, bit_or}
use Rattle.std.specs.Prelude.{◌&&◌, ◌||◌, nat_eq, nat_le, nat_lt, if◌then◌else◌}
use Rattle.std.proofs.Math.Pow.{pow-lt}
use Rattle.std.proofs.lemmas.Bool.{and_from, and_parts, cases_lt, eq-eqb, eqb-true, le-leb, leb-true, lt-ltb, ltb-true, ne_eqb, true≢false}
use Rattle.std.proofs.lemmas.Nat.{pow_pos}
use Rattle.noc_packet.specs.Set.{has_bit, IsLeast}
use Rattle.noc_packet.proofs.SetLemmas.{both_members, either_members, has_bit-zero, zero_from_none}
use Rattle.noc_alloc.specs.Members.{MembersAreBelow}
use Rattle.noc_sets.specs.Column.{RouterMarks}
use Rattle.noc_sets.specs.Moves.{HasSwitched, chosen_by}
use Rattle.noc_sets.specs.Passes.{Effects}
use Rattle.noc_sets.specs.Sets.{least, of_one}
use Rattle.noc_sets.specs.Turns.{in_turn}
use Rattle.noc_sets.specs.Unions.{some_below}
use Rattle.noc_sets.proofs.MemberLemmas.{lowest-one, power-members, same-word}
use Rattle.noc_sets.proofs.TurnLemmas.{first-among}
use Rattle.noc_sets.proofs.UnionLemmas.{union-members}
use Rattle.noc_columns.specs.Arrivals.{given_back}
use Rattle.noc_columns.specs.Switch.{ShowsSends}
use Rattle.noc_columns.proofs.LoopLemmas.{least-same}
use Rattle.noc_columns.proofs.PassLemmas.{some-same}
use Rattle.noc_columns.proofs.PickLemmas.{apart, find-first, none-each, some-each}
use Rattle.noc_columns.proofs.PortLemmas.{lowest-least}

-- what a set with one member has
one-of : (i : ℕ) (f : ℕ → ℕ) → i < 64 → of_one (2 ^ i) f ≡ f i
one-of i f few = ap (λ b. if b then 0 else f (least (2 ^ i))) (ne_eqb (2 ^ i) 0 (λ e. absurd (omega (arith, e, some)))) ∙ ap f (sym (least-same (2 ^ i) i some fits is))
  where
    some : 0 < 2 ^ i
    some = pow_pos i

    fits : 2 ^ i < 2 ^ 64
    fits = pow-lt few

    is : IsLeast (has_bit (2 ^ i)) (Some i)
    is = (power-members i i ∙ eq-eqb i i refl, λ k l. power-members i k ∙ ne_eqb k i (omega (arith, l)))

back-members : (idle size links set : ℕ) (vc : ℕ → ℕ) (o : ℕ) → has_bit (given_back idle size links set vc) o ≡ (has_bit idle o || some_below size (λ c. has_bit set c && nat_eq o (links + vc c)))
back-members idle size links set vc o =
    union-members idle size (λ c. if has_bit set c then 2 ^ (links + vc c) else 0) o
    ∙ ap (λ b. has_bit idle o || b) (some-same size _ _ (λ c l. at (has_bit set c) (links + vc c)))
  where
    at : (b : Bool) (n : ℕ) → has_bit (if b then 2 ^ n else 0) o ≡ (b && nat_eq o n)
    at true n = power-members n o
    at false n = has_bit-zero o

module _ (links vcs picked single : ℕ) (tail : ℕ → Bool) (m w : RouterMarks) (e : Effects) (old new : ℕ) (port vc : ℕ → ℕ) (local : ℕ) (few : (links + 1) * vcs ≤ 64)
    (below : MembersAreBelow ((links + 1) * vcs) picked) (shows : ShowsSends (links + 1) vcs picked port vc m) (has : HasSwitched vcs (links + 1) picked single tail m w e old new)
    (local_is : (o : ℕ) → has_bit local o ≡ (nat_le (links * vcs) o && nat_lt o ((links + 1) * vcs))) where
  abbrev size : ℕ
  size = (links + 1) * vcs

  abbrev arrived : ℕ
  arrived = bit_and e.released (m.to_port links)

  abbrev given : ℕ → Bool
  given o = some_below size (λ c. has_bit arrived c && nat_eq o (links * vcs + vc c))

  abbrev of : ℕ → ℕ
  of i = if tail i then m.taken i else 0

  -- a channel that an output port chooses
  chosen-one : (q i : ℕ) → has_bit (chosen_by picked m q) i ≡ true → (has_bit picked i ≡ true) × (of_one (chosen_by picked m q) of ≡ of i)
  chosen-one q i is =
      let among = and_parts (has_bit picked i) (has_bit (m.to_port q) i) (sym (both_members picked (m.to_port q) i) ∙ first-among (bit_and picked (m.to_port q)) (m.port_turn q) i is) in
      let turn = in_turn (bit_and picked (m.to_port q)) (m.port_turn q) in
      let power : chosen_by picked m q ≡ 2 ^ i = lowest-one turn i (lowest-least turn i is) in
      let inside = below i among.0 in
      (among.0, ap (λ s. of_one s of) power ∙ one-of i of (omega (arith, inside, few)))

  -- who moves, and what is freed
  moved-is : (i : ℕ) → has_bit e.moved i ≡ some_below (links + 1) (λ q. has_bit (chosen_by picked m q) i)
  moved-is i = ap (λ s. has_bit s i) has.moved ∙ union-members 0 (links + 1) (chosen_by picked m) i ∙ ap (λ b. b || some_below (links + 1) (λ q. has_bit (chosen_by picked m q) i)) (has_bit-zero i)

  freed-is : (o : ℕ) → o < size → has_bit e.freed o ≡ some_below (links + 1) (λ q. has_bit (of_one (chosen_by picked m q) of) o)
  freed-is o l =
      has.freed o l ∙ union-members 0 (links + 1) (λ q. of_one (chosen_by picked m q) of) o
      ∙ ap (λ b. b || some_below (links + 1) (λ q. has_bit (of_one (chosen_by picked m q) of) o)) (has_bit-zero o)

  -- a channel from which a packet leaves frees its output channel
  frees : (c o : ℕ) → has_bit arrived c ≡ true → c < size → o ≡ links * vcs + vc c → (has_bit e.freed o && has_bit local o) ≡ true
  frees c o leaves l o_is = at (find-first (links + 1) (λ q. has_bit (chosen_by picked m q) c))
    where
      parts : (has_bit e.released c ≡ true) × (has_bit (m.to_port links) c ≡ true)
      parts = and_parts (has_bit e.released c) (has_bit (m.to_port links) c) (sym (both_members e.released (m.to_port links) c) ∙ leaves)

      tails : (has_bit e.moved c ≡ true) × (tail c ≡ true)
      tails = and_parts (has_bit e.moved c) (tail c) (sym (has.released c l) ∙ parts.0)

      at : (some_below (links + 1) (λ q. has_bit (chosen_by picked m q) c) ≡ false) ⊎ ((q : ℕ) × (q < links + 1) × (has_bit (chosen_by picked m q) c ≡ true) × (some_below q (λ p. has_bit (chosen_by picked m p) c) ≡ false))
          → (has_bit e.freed o && has_bit local o) ≡ true
      at (inl none) = absurd (true≢false (sym tails.0 ∙ moved-is c ∙ none))
      at (inr found) =
          let one = chosen-one found.0 c found.2 in
          let by_local : port c ≡ links = eqb-true (port c) links (sym (shows.to_port c links one.0 (omega arith)) ∙ parts.1) in
          let small = shows.vc c one.0 in
          let within : o < (links + 1) * vcs = omega (arith, o_is, small) in
          let bit : has_bit (of c) o ≡ true =
          ap (λ b. has_bit (if b then m.taken c else 0) o) tails.1
          ∙ ap (λ s. has_bit s o) (shows.taken c one.0 ∙ ap (λ p. 2 ^ (p * vcs + vc c)) by_local)
          ∙ power-members (links * vcs + vc c) o ∙ eq-eqb o (links * vcs + vc c) o_is in
          and_from (has_bit e.freed o) (has_bit local o)
          (freed-is o within ∙ some-each (links + 1) (λ q. has_bit (of_one (chosen_by picked m q) of) o) found.0 found.1 (ap (λ s. has_bit s o) one.1 ∙ bit))
          (local_is o ∙ ap₂ (λ a b. a && b) (le-leb (links * vcs) o (omega (arith, o_is))) (lt-ltb o ((links + 1) * vcs) within))

  -- a local output channel that is freed is that of a channel from which a packet leaves
  freed-by : (o : ℕ) → (has_bit e.freed o && has_bit local o) ≡ true → given o ≡ true
  freed-by o is = at (find-first (links + 1) (λ q. has_bit (of_one (chosen_by picked m q) of) o))
    where
      parts : (has_bit e.freed o ≡ true) × (has_bit local o ≡ true)
      parts = and_parts (has_bit e.freed o) (has_bit local o) is

      range : (nat_le (links * vcs) o ≡ true) × (nat_lt o ((links + 1) * vcs) ≡ true)
      range = and_parts (nat_le (links * vcs) o) (nat_lt o ((links + 1) * vcs)) (sym (local_is o) ∙ parts.1)

      low : links * vcs ≤ o
      low = leb-true (links * vcs) o range.0

      high : o < (links + 1) * vcs
      high = ltb-true o ((links + 1) * vcs) range.1

      -- of a channel that is chosen
      by : (q i : ℕ) → q < links + 1 → has_bit (chosen_by picked m q) i ≡ true → has_bit (of_one (chosen_by picked m q) of) o ≡ true → given o ≡ true
      by q i l chosen freed =
          let one = chosen-one q i chosen in
          let inside = below i one.0 in
          let mine : has_bit (of i) o ≡ true = ap (λ s. has_bit s o) (sym one.1) ∙ freed in
          let moves : has_bit e.moved i ≡ true = moved-is i ∙ some-each (links + 1) (λ p. has_bit (chosen_by picked m p) i) q l chosen in
          leaving i one.0 inside moves (tail i) refl mine
        where
          leaving : (i : ℕ) → has_bit picked i ≡ true → i < size → has_bit e.moved i ≡ true → (b : Bool) → tail i ≡ b → has_bit (if b then m.taken i else 0) o ≡ true → given o ≡ true
          leaving i p inside moves false t mine = absurd (true≢false (sym mine ∙ has_bit-zero o))
          leaving i p inside moves true t mine =
              let same : o ≡ port i * vcs + vc i = eqb-true o (port i * vcs + vc i) (sym (power-members (port i * vcs + vc i) o) ∙ ap (λ s. has_bit s o) (sym (shows.taken i p)) ∙ mine) in
              let small = shows.vc i p in
              let few_ports = shows.port i p in
              let last : port i ≡ links = elim (cases_lt (port i) links) [
                | inl l ↦ (let far = apart (port i) links vcs (vc i) l small in let z = low in absurd (omega (arith, far, same, z)))
                | inr l ↦ omega (arith, l, few_ports)
              ] in
              let released : has_bit e.released i ≡ true = has.released i inside ∙ and_from (has_bit e.moved i) (tail i) moves t in
              let there : has_bit (m.to_port links) i ≡ true = shows.to_port i links p (omega arith) ∙ eq-eqb (port i) links last in
              some-each size (λ c. has_bit arrived c && nat_eq o (links * vcs + vc c)) i inside
              (and_from (has_bit arrived i) (nat_eq o (links * vcs + vc i))
              (both_members e.released (m.to_port links) i ∙ and_from (has_bit e.released i) (has_bit (m.to_port links) i) released there)
              (eq-eqb o (links * vcs + vc i) (same ∙ ap (λ p. p * vcs + vc i) last)))

      at : (some_below (links + 1) (λ q. has_bit (of_one (chosen_by picked m q) of) o) ≡ false)
          ⊎ ((q : ℕ) × (q < links + 1) × (has_bit (of_one (chosen_by picked m q) of) o ≡ true) × (some_below q (λ p. has_bit (of_one (chosen_by picked m p) of) o) ≡ false))
          → given o ≡ true
      at (inl none) = absurd (true≢false (sym parts.0 ∙ freed-is o high ∙ none))
      at (inr found) = elim (find-first size (has_bit (chosen_by picked m found.0))) [
        | inl none ↦ absurd (true≢false (sym found.2 ∙ ap (λ s. has_bit (of_one s of) o) (nobody found.0 none) ∙ has_bit-zero o))
        | inr one ↦ by found.0 one.0 found.1 one.2 found.2
      ]
        where
          nobody : (q : ℕ) → some_below size (has_bit (chosen_by picked m q)) ≡ false → chosen_by picked m q ≡ 0
          nobody q none = zero_from_none (chosen_by picked m q) (λ i. free i (has_bit (chosen_by picked m q) i) refl)
            where
              free : (i : ℕ) (b : Bool) → has_bit (chosen_by picked m q) i ≡ b → has_bit (chosen_by picked m q) i ≡ false
              free i false is = is
              free i true is = absurd (true≢false (sym is ∙ none-each size (has_bit (chosen_by picked m q)) none i (below i (chosen-one q i is).0)))

  pub given-back : (idle : ℕ) → given_back idle size (links * vcs) arrived vc ≡ bit_or idle (bit_and e.freed local)
  given-back idle = same-word _ _ (λ o.
      back-members idle size (links * vcs) arrived vc o
      ∙ ap (λ b. has_bit idle o || b) (same o (given o) (has_bit e.freed o && has_bit local o) refl refl ∙ sym (both_members e.freed local o))
      ∙ sym (either_members idle (bit_and e.freed local) o))
    where
      same : (o : ℕ) (a b : Bool) → given o ≡ a → (has_bit e.freed o && has_bit local o) ≡ b → given o ≡ (has_bit e.freed o && has_bit local o)
      same o true b p q = p ∙ sym (found o p)
        where
          found : (o : ℕ) → given o ≡ true → (has_bit e.freed o && has_bit local o) ≡ true
          found o p = elim (find-first size (λ c. has_bit arrived c && nat_eq o (links * vcs + vc c))) [
            | inl none ↦ absurd (true≢false (sym p ∙ none))
            | inr one ↦
                let parts = and_parts (has_bit arrived one.0) (nat_eq o (links * vcs + vc one.0)) one.2 in
                frees one.0 o parts.0 one.1 (eqb-true o (links * vcs + vc one.0) parts.1)
          ]
      same o false true p q = absurd (true≢false (sym (freed-by o q) ∙ p))
      same o false false p q = p ∙ sym q
