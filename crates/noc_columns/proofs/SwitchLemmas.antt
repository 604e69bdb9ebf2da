-- What goes through the switch port by port is what a router moves channel by channel.
use Rattle.std.proofs.Common.{◌≡◌, ◌≢◌, ◌⊎◌, ℕ, zero, suc, ◌+◌, ◌-◌, ◌*◌, ◌/◌, ◌%◌, ◌^◌, ◌<◌, ◌≤◌, Bool, true, false, Some, arith, ap, ap₂, sym, ◌∙◌, subst, refl, inl, inr, bit_and}
use Rattle.std.specs.Prelude.{◌&&◌, ◌||◌, not, nat_eq, nat_le, nat_lt, unwrap_or, if◌then◌else◌}
use Rattle.std.proofs.lemmas.Bool.{and_parts, cases_eq, cases_lt, eq-eqb, eqb-true, le-leb, le-ltb, lt-leb, lt-ltb, ne_eqb, true≢false}
use Rattle.std.proofs.lemmas.Nat.{div-mul-add, mod-mul-add}
use Rattle.std.proofs.Math.Pow.{pow_mono}
use Rattle.noc_packet.specs.Set.{has_bit, IsLeast}
use Rattle.noc_packet.proofs.SetLemmas.{both_members, has_bit-zero, least-one, zero_from_none}
use Rattle.noc_alloc.specs.Members.{MembersAreBelow}
use Rattle.noc_sets.specs.Column.{RouterMarks}
use Rattle.noc_sets.specs.Moves.{HasAdvanced, HasSwitched, chosen_by, dry_by}
use Rattle.noc_sets.specs.Passes.{Effects}
use Rattle.noc_sets.specs.Sets.{least, lowest, of_one}
use Rattle.noc_sets.specs.Turns.{in_turn}
use Rattle.noc_sets.specs.Unions.{rest_from, some_below, union_from}
use Rattle.noc_sets.proofs.MemberLemmas.{and-false, and-true, below_fits, least_is, less_members, lowest_members, power-members, same-word, zero_members}
use Rattle.noc_sets.proofs.TurnLemmas.{first-among}
use Rattle.noc_columns.specs.Switch.{HasTraversed, PortPicks, ShowsOutputs, ShowsPicks, asks_for, channels_at, leaves_by, switched_effects, switched_marks, taken_by}
use Rattle.noc_columns.specs.Words.{set_below}
use Rattle.noc_columns.proofs.ChannelLemmas.{channel-below, channel-eq, part, port-below, whole}
use Rattle.noc_columns.proofs.PassLemmas.{some-same}
use Rattle.noc_columns.proofs.PastLemmas.{first-before, first-some}
use Rattle.noc_columns.proofs.PickLemmas.{apart, find-first, none-each, union-members}
use Rattle.noc_columns.proofs.PortLemmas.{lowest-alone, lowest-least, one-both, some-member}
use Rattle.noc_columns.proofs.RouterLemmas.{below-fits}
use Rattle.noc_columns.proofs.SetLemmas.{below-members, below-same}
use Rattle.noc_sets.proofs.UnionLemmas.{some-none}

-- a test of all with a fact beside it
some-and : (n : ℕ) (b : Bool) (test : ℕ → Bool) → some_below n (λ k. b && test k) ≡ (b && some_below n test)
some-and zero b test = sym (and-false b)
some-and (suc n) b test = ap (λ x. x || (b && test n)) (some-and n b test) ∙ at b (some_below n test) (test n)
  where
    at : (x y z : Bool) → ((x && y) || (x && z)) ≡ (x && (y || z))
    at true y z = refl
    at false y z = refl

next-le : (d c : ℕ) → nat_le (d + 1) c ≡ nat_lt d c
next-le d c = elim (cases_lt d c) [ inl l ↦ le-leb (d + 1) c (omega (arith, l)) ∙ sym (lt-ltb d c l) | inr l ↦ lt-leb (d + 1) c (omega (arith, l)) ∙ sym (le-ltb d c l) ]

module _ (ports vcs : ℕ) (some : 0 < vcs) (few : ports * vcs ≤ 64) (picked : ℕ) (tail : ℕ → Bool) (m : RouterMarks) (picks : PortPicks) (shows : ShowsPicks ports vcs picked tail m picks) where
  -- the picked channels of these ports
  record Lifts (channels set : ℕ) : Type 0 where
    pub bits : (p v : ℕ) → p < ports → v < vcs → has_bit channels (p * vcs + v) ≡ (has_bit picked (p * vcs + v) && has_bit set p)
    pub among : (i : ℕ) → has_bit channels i ≡ true → has_bit picked i ≡ true
    pub asking : (p : ℕ) → has_bit set p ≡ true → (p < ports) × (picks.any p ≡ true)

  -- the port of a picked channel
  port-of : (channels set i : ℕ) → Lifts channels set → has_bit channels i ≡ true → (i < ports * vcs) × (has_bit set (i / vcs) ≡ true)
  port-of channels set i is e =
      let l = shows.below i (is.among i e) in
      let both : (has_bit picked (i / vcs * vcs + i % vcs) && has_bit set (i / vcs)) ≡ true =
      sym (is.bits (i / vcs) (i % vcs) (port-below ports vcs some i l) (part ports vcs some i)) ∙ ap (has_bit channels) (whole ports vcs some i) ∙ e in
      (l, (and_parts _ _ both).1)

  -- a port of the set has a channel
  channel-of : (channels set p : ℕ) → Lifts channels set → has_bit set p ≡ true → (v : ℕ) × (v < vcs) × (has_bit picked (p * vcs + v) ≡ true) × (has_bit channels (p * vcs + v) ≡ true)
  channel-of channels set p is e =
      let asks = is.asking p e in
      let one = shows.some p asks.0 asks.1 in
      (one.0, one.1, one.2, is.bits p one.0 asks.0 one.1 ∙ ap₂ (λ a b. a && b) one.2 e)

  no-ports : (channels set : ℕ) → Lifts channels set → some_below ports (has_bit set) ≡ false → set ≡ 0
  no-ports channels set is none = zero_from_none set (λ p. free p (has_bit set p) refl)
    where
      free : (p : ℕ) (b : Bool) → has_bit set p ≡ b → has_bit set p ≡ false
      free p false e = e
      free p true e = absurd (true≢false (sym e ∙ none-each ports (has_bit set) none p (is.asking p e).0))

  no-channels : (channels set : ℕ) → Lifts channels set → set ≡ 0 → channels ≡ 0
  no-channels channels set is none = zero_from_none channels (λ i. free i (has_bit channels i) refl)
    where
      free : (i : ℕ) (b : Bool) → has_bit channels i ≡ b → has_bit channels i ≡ false
      free i false e = e
      free i true e = absurd (true≢false (sym (port-of channels set i is e).1 ∙ ap (λ s. has_bit s (i / vcs)) none ∙ has_bit-zero (i / vcs)))

  empty-same : (channels set : ℕ) → Lifts channels set → nat_eq channels 0 ≡ nat_eq set 0
  empty-same channels set is = elim (find-first ports (has_bit set)) [
    | inl none ↦ let e = no-ports channels set is none in eq-eqb channels 0 (no-channels channels set is e) ∙ sym (eq-eqb set 0 e)
    | inr found ↦ let one = channel-of channels set found.0 is found.2 in some-member channels (found.0 * vcs + one.0) one.3 ∙ sym (some-member set found.0 found.2)
  ]

  lifts-lowest : (channels set : ℕ) → Lifts channels set → Lifts (lowest channels) (lowest set)
  lifts-lowest channels set is = record {
    bits = λ p v l k. at p v l k (find-first ports (has_bit set));
    among = λ i e. is.among i (and_parts (has_bit channels i) _ (sym (less_members channels (channels - 1) i) ∙ e)).0;
    asking = λ p e. is.asking p (and_parts (has_bit set p) _ (sym (less_members set (set - 1) p) ∙ e)).0;
  }
    where
      at : (p v : ℕ) → p < ports → v < vcs → (some_below ports (has_bit set) ≡ false) ⊎ ((t : ℕ) × (t < ports) × (has_bit set t ≡ true) × (some_below t (has_bit set) ≡ false))
          → has_bit (lowest channels) (p * vcs + v) ≡ (has_bit picked (p * vcs + v) && has_bit (lowest set) p)
      at p v l k (inl none) =
          let e = no-ports channels set is none in
          ap (λ x. has_bit (lowest x) (p * vcs + v)) (no-channels channels set is e) ∙ zero_members (p * vcs + v)
          ∙ sym (ap (λ x. has_bit picked (p * vcs + v) && has_bit (lowest x) p) e ∙ ap (λ b. has_bit picked (p * vcs + v) && b) (zero_members p) ∙ and-false (has_bit picked (p * vcs + v)))
      at p v l k (inr found) =
          lowest_members channels (t * vcs + w) (p * vcs + v) least-channel
          ∙ same (cases_eq p t)
          ∙ ap (λ b. has_bit picked (p * vcs + v) && b) (sym (lowest_members set t p least-port))
        where
          t : ℕ
          t = found.0

          one : (u : ℕ) × (u < vcs) × (has_bit picked (found.0 * vcs + u) ≡ true) × (has_bit channels (found.0 * vcs + u) ≡ true)
          one = channel-of channels set found.0 is found.2

          w : ℕ
          w = one.0

          least-port : IsLeast (has_bit set) (Some found.0)
          least-port = (found.2, λ j b. none-each found.0 (has_bit set) found.3 j b)

          free : (i : ℕ) → i < found.0 * vcs + one.0 → (b : Bool) → has_bit channels i ≡ b → has_bit channels i ≡ false
          free i b false e = e
          free i b true e =
              let here = port-of channels set i is e in
              elim (cases_lt (i / vcs) found.0) [
                | inl before ↦ absurd (true≢false (sym here.1 ∙ none-each found.0 (has_bit set) found.3 (i / vcs) before))
                | inr after ↦
                    let there = cases_lt found.0 (i / vcs) in
                    elim there [
                      | inl far ↦
                          let n = apart found.0 (i / vcs) vcs one.0 far one.1 in
                          let y = whole ports vcs some i in
                          absurd (omega (arith, b, n, y))
                      | inr near ↦
                          let port : i / vcs ≡ found.0 = omega (arith, after, near) in
                          let it : has_bit picked (found.0 * vcs + i % vcs) ≡ true = ap (λ x. has_bit picked (x * vcs + i % vcs)) (sym port) ∙ ap (has_bit picked) (whole ports vcs some i) ∙ is.among i e in
                          let v : i % vcs ≡ one.0 = shows.alone found.0 one.0 (i % vcs) found.1 one.1 (part ports vcs some i) one.2 it in
                          let y : found.0 * vcs + one.0 ≡ i = ap₂ (λ x z. x * vcs + z) (sym port) (sym v) ∙ whole ports vcs some i in
                          absurd (omega (arith, b, y))
                    ]
              ]

          least-channel : IsLeast (has_bit channels) (Some (found.0 * vcs + one.0))
          least-channel = (one.3, λ i b. free i b (has_bit channels i) refl)

          same : (p ≡ found.0) ⊎ (p ≢ found.0) → nat_eq (p * vcs + v) (found.0 * vcs + one.0) ≡ (has_bit picked (p * vcs + v) && nat_eq p found.0)
          same (inr other) =
              channel-eq ports vcs some (p * vcs + v) found.0 one.0 one.1
              ∙ ap (λ x. nat_eq found.0 x && nat_eq one.0 ((p * vcs + v) % vcs)) (div-mul-add p vcs v k)
              ∙ ap (λ b. b && nat_eq one.0 ((p * vcs + v) % vcs)) (ne_eqb found.0 p (λ e. other (sym e)))
              ∙ sym (ap (λ b. has_bit picked (p * vcs + v) && b) (ne_eqb p found.0 other) ∙ and-false (has_bit picked (p * vcs + v)))
          same (inl here) = by (cases_eq v one.0)
            where
              by : (v ≡ one.0) ⊎ (v ≢ one.0) → nat_eq (p * vcs + v) (found.0 * vcs + one.0) ≡ (has_bit picked (p * vcs + v) && nat_eq p found.0)
              by (inl e) =
                  eq-eqb (p * vcs + v) (found.0 * vcs + one.0) (ap₂ (λ x y. x * vcs + y) here e)
                  ∙ sym (ap₂ (λ a b. a && b) (ap₂ (λ x y. has_bit picked (x * vcs + y)) here e ∙ one.2) (eq-eqb p found.0 here))
              by (inr o) =
                  ne_eqb (p * vcs + v) (found.0 * vcs + one.0) (λ e. o (sym (mod-mul-add p vcs v k) ∙ ap (λ x. x % vcs) e ∙ mod-mul-add found.0 vcs one.0 one.1))
                  ∙ sym (ap (λ b. b && nat_eq p found.0) (not-picked (has_bit picked (p * vcs + v)) refl))
                where
                  not-picked : (b : Bool) → has_bit picked (p * vcs + v) ≡ b → has_bit picked (p * vcs + v) ≡ false
                  not-picked false e = e
                  not-picked true e = absurd (o (shows.alone found.0 one.0 v found.1 one.1 k one.2 (ap (λ x. has_bit picked (x * vcs + v)) (sym here) ∙ e)))

  module _ (ahead : ℕ → ℕ) (turns : ShowsOutputs ports vcs ahead m) where
    asks : ℕ → ℕ
    asks q = asks_for ports picks q

    asks-is : (q p : ℕ) → has_bit (asks_for ports picks q) p ≡ (nat_lt p ports && (picks.any p && nat_eq (picks.port p) q))
    asks-is q p = below-members ports (λ k. picks.any k && nat_eq (picks.port k) q) p

    asking-is : (q p : ℕ) → has_bit (asks_for ports picks q) p ≡ true → (p < ports) × (picks.any p ≡ true) × (picks.port p ≡ q)
    asking-is q p e =
        let both = and_parts (nat_lt p ports) _ (sym (asks-is q p) ∙ e) in
        let rest = and_parts (picks.any p) (nat_eq (picks.port p) q) both.1 in
        (below (cases_lt p ports) both.0, rest.0, eqb-true (picks.port p) q rest.1)
      where
        below : (p < ports) ⊎ (ports ≤ p) → nat_lt p ports ≡ true → p < ports
        below (inl l) b = l
        below (inr l) b = absurd (true≢false (sym b ∙ le-ltb p ports l))

    requests : (q : ℕ) → q < ports → Lifts (bit_and picked (m.to_port q)) (asks_for ports picks q)
    requests q l = record {
      bits = λ p v b k. both_members picked (m.to_port q) (p * vcs + v) ∙ at p v b k (has_bit picked (p * vcs + v)) refl;
      among = λ i e. (and_parts (has_bit picked i) _ (sym (both_members picked (m.to_port q) i) ∙ e)).0;
      asking = λ p e. let is = asking-is q p e in (is.0, is.1);
    }
      where
        at : (p v : ℕ) → p < ports → v < vcs → (b : Bool) → has_bit picked (p * vcs + v) ≡ b → (has_bit picked (p * vcs + v) && has_bit (m.to_port q) (p * vcs + v)) ≡ (has_bit picked (p * vcs + v) && has_bit (asks_for ports picks q) p)
        at p v b k false e = ap (λ x. x && has_bit (m.to_port q) (p * vcs + v)) e ∙ sym (ap (λ x. x && has_bit (asks_for ports picks q) p) e)
        at p v b k true e =
            let each = shows.each p v b k e in
            ap (λ x. has_bit picked (p * vcs + v) && x)
            (each.to_port q l
            ∙ sym (asks-is q p ∙ ap₂ (λ x y. x && (y && nat_eq (picks.port p) q)) (lt-ltb p ports b) each.any))

    pointer-is : (q p v : ℕ) → q < ports → p < ports → v < vcs → has_bit (m.port_turn q) (p * vcs + v) ≡ has_bit (ahead q) p
    pointer-is q p v l b k =
        ap (λ s. has_bit s (p * vcs + v)) (turns q l)
        ∙ below-members (ports * vcs) (λ c. has_bit (ahead q) (c / vcs)) (p * vcs + v)
        ∙ ap₂ (λ x y. x && has_bit (ahead q) y) (lt-ltb (p * vcs + v) (ports * vcs) (apart p ports vcs v b k)) (div-mul-add p vcs v k)

    after-pointer : (q : ℕ) → q < ports → Lifts (bit_and (bit_and picked (m.to_port q)) (m.port_turn q)) (bit_and (asks_for ports picks q) (ahead q))
    after-pointer q l =
        let is = requests q l in
        record {
          bits = λ p v b k.
              both_members (bit_and picked (m.to_port q)) (m.port_turn q) (p * vcs + v)
              ∙ ap₂ (λ x y. x && y) (is.bits p v b k) (pointer-is q p v l b k)
              ∙ assoc (has_bit picked (p * vcs + v)) (has_bit (asks_for ports picks q) p) (has_bit (ahead q) p)
              ∙ ap (λ x. has_bit picked (p * vcs + v) && x) (sym (both_members (asks_for ports picks q) (ahead q) p));
          among = λ i e. is.among i (and_parts (has_bit (bit_and picked (m.to_port q)) i) _ (sym (both_members (bit_and picked (m.to_port q)) (m.port_turn q) i) ∙ e)).0;
          asking = λ p e. is.asking p (and_parts (has_bit (asks_for ports picks q) p) _ (sym (both_members (asks_for ports picks q) (ahead q) p) ∙ e)).0;
        }
      where
        assoc : (a b d : Bool) → ((a && b) && d) ≡ (a && (b && d))
        assoc true b d = refl
        assoc false b d = refl

    -- the channel that an output port takes is that of the input port that it takes
    chosen : (q : ℕ) → q < ports → Lifts (chosen_by picked m q) (taken_by ports picks ahead q)
    chosen q l = lifts-lowest _ _ (at (nat_eq (bit_and (asks_for ports picks q) (ahead q)) 0) refl)
      where
        at : (b : Bool) → nat_eq (bit_and (asks_for ports picks q) (ahead q)) 0 ≡ b → Lifts (in_turn (bit_and picked (m.to_port q)) (m.port_turn q)) (in_turn (asks_for ports picks q) (ahead q))
        at true e =
            let f : nat_eq (bit_and (bit_and picked (m.to_port q)) (m.port_turn q)) 0 ≡ true = empty-same _ _ (after-pointer q l) ∙ e in
            coe 0 1
            (x. Lifts (if sym f x then bit_and picked (m.to_port q) else bit_and (bit_and picked (m.to_port q)) (m.port_turn q)) (if sym e x then asks_for ports picks q else bit_and (asks_for ports picks q) (ahead q)))
            (requests q l)
        at false e =
            let f : nat_eq (bit_and (bit_and picked (m.to_port q)) (m.port_turn q)) 0 ≡ false = empty-same _ _ (after-pointer q l) ∙ e in
            coe 0 1
            (x. Lifts (if sym f x then bit_and picked (m.to_port q) else bit_and (bit_and picked (m.to_port q)) (m.port_turn q)) (if sym e x then asks_for ports picks q else bit_and (asks_for ports picks q) (ahead q)))
            (after-pointer q l)

    -- ---- one output port: nothing is asked for, or this channel is chosen
    record IsChosen (q p v : ℕ) : Type 0 where
      pub port : p < ports
      pub vc : v < vcs
      pub is_picked : has_bit picked (p * vcs + v) ≡ true
      pub is_taken : has_bit (taken_by ports picks ahead q) p ≡ true
      pub is_least : least (chosen_by picked m q) ≡ p * vcs + v
      pub is_some : nat_eq (chosen_by picked m q) 0 ≡ false

    NothingAsked : ℕ → Type 0
    NothingAsked q = (nat_eq (asks_for ports picks q) 0 ≡ true) × (chosen_by picked m q ≡ 0)

    small : (set : ℕ) → MembersAreBelow (ports * vcs) set → set < 2 ^ 64
    small set below = let low = below_fits (ports * vcs) set below in let mono : 2 ^ (ports * vcs) ≤ 2 ^ 64 = pow_mono few in omega (arith, low, mono)

    either-chosen : (q : ℕ) → q < ports → NothingAsked q ⊎ ((p : ℕ) × (v : ℕ) × IsChosen q p v)
    unfolding NothingAsked
    either-chosen q l = at (nat_eq (asks_for ports picks q) 0) refl
      where
        is : Lifts (chosen_by picked m q) (taken_by ports picks ahead q)
        is = chosen q l

        at : (b : Bool) → nat_eq (asks_for ports picks q) 0 ≡ b → NothingAsked q ⊎ ((p : ℕ) × (v : ℕ) × IsChosen q p v)
        at true e = inl (e, no-channels _ _ is (zero_from_none _ (λ p. free p (has_bit (taken_by ports picks ahead q) p) refl)))
          where
            free : (p : ℕ) (b : Bool) → has_bit (taken_by ports picks ahead q) p ≡ b → has_bit (taken_by ports picks ahead q) p ≡ false
            free p false none = none
            free p true one = absurd (true≢false (sym e ∙ some-member (asks_for ports picks q) p (first-among (asks_for ports picks q) (ahead q) p one)))
        at false e =
            let found = first-some ports (asks_for ports picks q) (ahead q) (λ p b. (asking-is q p b).0) e in
            let one = channel-of _ _ found.0 is found.2 in
            let here : has_bit (chosen_by picked m q) (found.0 * vcs + one.0) ≡ true = one.3 in
            let some : nat_eq (chosen_by picked m q) 0 ≡ false = some-member _ _ here in
            let fits : chosen_by picked m q < 2 ^ 64 = small _ (λ i b. shows.below i (is.among i b)) in
            let more : 0 < chosen_by picked m q = positive (chosen_by picked m q) some in
            let only : IsLeast (has_bit (chosen_by picked m q)) (Some (found.0 * vcs + one.0)) = alone _ (found.0 * vcs + one.0) here in
            inr (
              found.0,
              one.0,
              record {
                port = found.1;
                vc = one.1;
                is_picked = one.2;
                is_taken = found.2;
                is_least = some-same-option (least-one (has_bit (chosen_by picked m q)) _ _ (least_is (chosen_by picked m q) more fits) only);
                is_some = some;
              },
            )
          where
            positive : (n : ℕ) → nat_eq n 0 ≡ false → 0 < n
            positive zero none = absurd (true≢false (sym (eq-eqb 0 0 refl) ∙ none))
            positive (suc n) none = omega arith

            some-same-option : {a b : ℕ} → Some a ≡ Some b → a ≡ b
            some-same-option {a} {b} same = ap (λ o. unwrap_or o a) same

            -- a set with one member
            alone : (set i : ℕ) → has_bit (lowest set) i ≡ true → IsLeast (has_bit (lowest set)) (Some i)
            alone set i one = (one, λ k b. lowest_members set i k (lowest-least set i one) ∙ ne_eqb k i (omega (arith, b)))

    -- what leaves by an output port, of those of which a test holds
    leaves-by : (test : ℕ → Bool) (leaves : ℕ → ℕ → Bool)
        → ((q p w v : ℕ) → q < ports → v < vcs → IsChosen q p w → leaves q v ≡ (nat_eq (picks.vc p) v && test (p * vcs + w)))
        → ((q v : ℕ) → q < ports → v < vcs → nat_eq (asks_for ports picks q) 0 ≡ true → leaves q v ≡ false)
        → (q k : ℕ) → q < ports → has_bit (of_one (chosen_by picked m q) (λ i. if test i then m.taken i else 0)) k ≡ (nat_eq q (k / vcs) && leaves q (k % vcs))
    unfolding NothingAsked
    leaves-by test leaves goes none q k l = elim (either-chosen q l) [
      | inl nothing ↦
          ap (λ s. has_bit (if s then 0 else (if test (least (chosen_by picked m q)) then m.taken (least (chosen_by picked m q)) else 0)) k) (eq-eqb (chosen_by picked m q) 0 nothing.1)
          ∙ has_bit-zero k
          ∙ sym (ap (λ b. nat_eq q (k / vcs) && b) (none q (k % vcs) l (part ports vcs some k) nothing.0) ∙ and-false (nat_eq q (k / vcs)))
      | inr one ↦ by one.0 one.1 one.2
    ]
      where
        by : (p w : ℕ) → IsChosen q p w → has_bit (of_one (chosen_by picked m q) (λ i. if test i then m.taken i else 0)) k ≡ (nat_eq q (k / vcs) && leaves q (k % vcs))
        by p w is =
            let pick = shows.each p w is.port is.vc is.is_picked in
            let port : picks.port p ≡ q = (asking-is q p (first-among (asks_for ports picks q) (ahead q) p is.is_taken)).2 in
            ap (λ s. has_bit (if s then 0 else (if test (least (chosen_by picked m q)) then m.taken (least (chosen_by picked m q)) else 0)) k) is.is_some
            ∙ ap (λ i. has_bit (if test i then m.taken i else 0) k) is.is_least
            ∙ ap (λ x. has_bit (if test (p * vcs + w) then x else 0) k) (pick.taken ∙ ap (λ x. 2 ^ (x * vcs + picks.vc p)) port)
            ∙ told (test (p * vcs + w)) pick.vc
            ∙ ap (λ b. nat_eq q (k / vcs) && b) (sym (goes q p w (k % vcs) l (part ports vcs some k) is))
          where
            told : (b : Bool) → picks.vc p < vcs → has_bit (if b then 2 ^ (q * vcs + picks.vc p) else 0) k ≡ (nat_eq q (k / vcs) && (nat_eq (picks.vc p) (k % vcs) && b))
            told true few = power-members (q * vcs + picks.vc p) k ∙ channel-eq ports vcs some k q (picks.vc p) few ∙ ap (λ b. nat_eq q (k / vcs) && b) (sym (and-true (nat_eq (picks.vc p) (k % vcs))))
            told false few = has_bit-zero k ∙ sym (ap (λ b. nat_eq q (k / vcs) && b) (and-false (nat_eq (picks.vc p) (k % vcs))) ∙ and-false (nat_eq q (k / vcs)))

    -- what leaves by all of them
    leaves-all : (test : ℕ → Bool) (leaves : ℕ → ℕ → Bool)
        → ((q p w v : ℕ) → q < ports → v < vcs → IsChosen q p w → leaves q v ≡ (nat_eq (picks.vc p) v && test (p * vcs + w)))
        → ((q v : ℕ) → q < ports → v < vcs → nat_eq (asks_for ports picks q) 0 ≡ true → leaves q v ≡ false)
        → (k : ℕ) → has_bit (set_below (ports * vcs) (λ o. leaves (o / vcs) (o % vcs))) k ≡ has_bit (union_from 0 ports (λ q. of_one (chosen_by picked m q) (λ i. if test i then m.taken i else 0))) k
    leaves-all test leaves goes none k =
        below-members (ports * vcs) (λ o. leaves (o / vcs) (o % vcs)) k
        ∙ at (cases_lt k (ports * vcs))
        ∙ sym (some-same ports _ _ (λ q l. leaves-by test leaves goes none q k l))
        ∙ sym (union-members ports (λ q. of_one (chosen_by picked m q) (λ i. if test i then m.taken i else 0)) k)
      where
        at : (k < ports * vcs) ⊎ (ports * vcs ≤ k) → (nat_lt k (ports * vcs) && leaves (k / vcs) (k % vcs)) ≡ some_below ports (λ q. nat_eq q (k / vcs) && leaves q (k % vcs))
        at (inl l) =
            ap (λ b. b && leaves (k / vcs) (k % vcs)) (lt-ltb k (ports * vcs) l)
            ∙ sym (one-both ports (λ q. nat_eq q (k / vcs)) (λ q. leaves q (k % vcs)) (k / vcs) (port-below ports vcs some k l) (eq-eqb (k / vcs) (k / vcs) refl) (λ d b e. eqb-true d (k / vcs) e))
        at (inr l) =
            ap (λ b. b && leaves (k / vcs) (k % vcs)) (le-ltb k (ports * vcs) l)
            ∙ sym (some-none ports _ (λ q b. ap (λ x. x && leaves q (k % vcs)) (ne_eqb q (k / vcs) (λ e. far q b e))))
          where
            far : (q : ℕ) → q < ports → q ≡ k / vcs → ⊥
            far q b e = let n = channel-below ports vcs some k (subst (λ x. x < ports) e b) in absurd (omega (arith, l, n))

    -- ---- the switch of a router
    module _ (after : ℕ → ℕ) (sends flits tails : ℕ → ℕ → Bool) (passed : HasTraversed ports vcs picks ahead after sends flits tails) where
      -- what leaves by the local port too
      leaves-goes : (test : ℕ → Bool) (told : ℕ → ℕ → Bool)
          → ((q p v : ℕ) → q + 1 < ports → v < vcs → has_bit (taken_by ports picks ahead q) p ≡ true → told q v ≡ (nat_eq (picks.vc p) v && test p))
          → (q p v : ℕ) → p < ports → v < vcs → has_bit (taken_by ports picks ahead q) p ≡ true → leaves_by ports picks ahead test told q v ≡ (nat_eq (picks.vc p) v && test p)
      leaves-goes test told goes q p v l k is = elim (cases_lt (q + 1) ports) [
        | inl link ↦ ap (λ b. if b then told q v else some_below ports (λ j. has_bit (taken_by ports picks ahead q) j && (nat_eq (picks.vc j) v && test j))) (lt-ltb (q + 1) ports link) ∙ goes q p v link k is
        | inr last ↦
            ap (λ b. if b then told q v else some_below ports (λ j. has_bit (taken_by ports picks ahead q) j && (nat_eq (picks.vc j) v && test j))) (le-ltb (q + 1) ports last)
            ∙ one-both ports (has_bit (taken_by ports picks ahead q)) (λ j. nat_eq (picks.vc j) v && test j) p l is (λ d b e. lowest-alone (in_turn (asks_for ports picks q) (ahead q)) p d is e)
      ]

      leaves-none : (test : ℕ → Bool) (told : ℕ → ℕ → Bool)
          → ((q v : ℕ) → q + 1 < ports → v < vcs → nat_eq (asks_for ports picks q) 0 ≡ true → told q v ≡ false)
          → (q v : ℕ) → v < vcs → nat_eq (asks_for ports picks q) 0 ≡ true → leaves_by ports picks ahead test told q v ≡ false
      leaves-none test told none q v k asks = elim (cases_lt (q + 1) ports) [
        | inl link ↦ ap (λ b. if b then told q v else some_below ports (λ j. has_bit (taken_by ports picks ahead q) j && (nat_eq (picks.vc j) v && test j))) (lt-ltb (q + 1) ports link) ∙ none q v link k asks
        | inr last ↦
            ap (λ b. if b then told q v else some_below ports (λ j. has_bit (taken_by ports picks ahead q) j && (nat_eq (picks.vc j) v && test j))) (le-ltb (q + 1) ports last)
            ∙ some-none ports _ (λ j b. free j (has_bit (taken_by ports picks ahead q) j) refl)
      ]
        where
          free : (j : ℕ) (b : Bool) → has_bit (taken_by ports picks ahead q) j ≡ b → (has_bit (taken_by ports picks ahead q) j && (nat_eq (picks.vc j) v && test j)) ≡ false
          free j false e = ap (λ b. b && (nat_eq (picks.vc j) v && test j)) e
          free j true e = absurd (true≢false (sym asks ∙ some-member (asks_for ports picks q) j (first-among (asks_for ports picks q) (ahead q) j e)))

      moved-is : set_below (ports * vcs) (λ i. has_bit picked i && sends (i / vcs) (i % vcs)) ≡ union_from 0 ports (chosen_by picked m)
      moved-is = same-word _ _ (λ k. below-members (ports * vcs) _ k ∙ at k (cases_lt k (ports * vcs)) ∙ sym (union-members ports (chosen_by picked m) k))
        where
          at : (k : ℕ) → (k < ports * vcs) ⊎ (ports * vcs ≤ k) → (nat_lt k (ports * vcs) && (has_bit picked k && sends (k / vcs) (k % vcs))) ≡ some_below ports (λ q. has_bit (chosen_by picked m q) k)
          at k (inl l) =
              let p = k / vcs in
              let v = k % vcs in
              let b = port-below ports vcs some k l in
              let few = part ports vcs some k in
              ap (λ x. x && (has_bit picked k && sends p v)) (lt-ltb k (ports * vcs) l)
              ∙ ap (λ x. has_bit picked k && x) (passed.sending p v b few)
              ∙ sym (some-and ports (has_bit picked k) (λ q. has_bit (taken_by ports picks ahead q) p))
              ∙ some-same ports _ _ (λ q c.
              ap (λ i. has_bit picked i && has_bit (taken_by ports picks ahead q) p) (sym (whole ports vcs some k))
              ∙ sym ((chosen q c).bits p v b few)
              ∙ ap (has_bit (chosen_by picked m q)) (whole ports vcs some k))
          at k (inr l) =
              ap (λ x. x && (has_bit picked k && sends (k / vcs) (k % vcs))) (le-ltb k (ports * vcs) l)
              ∙ sym (some-none ports _ (λ q c. free q c (has_bit (chosen_by picked m q) k) refl))
            where
              free : (q : ℕ) → q < ports → (b : Bool) → has_bit (chosen_by picked m q) k ≡ b → has_bit (chosen_by picked m q) k ≡ false
              free q c false e = e
              free q c true e = let n = shows.below k ((chosen q c).among k e) in absurd (omega (arith, l, n))

      turn-is : (q : ℕ) → q < ports → HasAdvanced vcs (ports * vcs) (chosen_by picked m q) (m.port_turn q) (channels_at ports vcs (after q))
      unfolding NothingAsked
      turn-is q l = record {
        stays = λ none.
            let asks : nat_eq (asks_for ports picks q) 0 ≡ true = elim (either-chosen q l) [
              | inl nothing ↦ nothing.0
              | inr one ↦ absurd (true≢false (sym (eq-eqb (chosen_by picked m q) 0 none) ∙ one.2.is_some))
            ] in
            below-same (ports * vcs) _ _ (λ c b.
            passed.turns q (c / vcs) l (port-below ports vcs some c b)
            ∙ ap (λ x. if x then has_bit (ahead q) (c / vcs) else some_below (c / vcs) (has_bit (in_turn (asks_for ports picks q) (ahead q)))) asks)
            ∙ sym (turns q l);
        passes = λ i k e b.
            let is = chosen q l in
            let at = port-of _ _ i is e in
            let asks : nat_eq (asks_for ports picks q) 0 ≡ false = some-member _ (i / vcs) (first-among (asks_for ports picks q) (ahead q) (i / vcs) at.1) in
            below-members (ports * vcs) (λ c. has_bit (after q) (c / vcs)) k
            ∙ ap (λ x. x && has_bit (after q) (k / vcs)) (lt-ltb k (ports * vcs) b)
            ∙ passed.turns q (k / vcs) l (port-below ports vcs some k b)
            ∙ ap (λ x. if x then has_bit (ahead q) (k / vcs) else some_below (k / vcs) (has_bit (in_turn (asks_for ports picks q) (ahead q)))) asks
            ∙ first-before (in_turn (asks_for ports picks q) (ahead q)) (i / vcs) at.1 (k / vcs)
            ∙ next-le (i / vcs) (k / vcs);
      }

      pub has-switched : (single old : ℕ) (e : Effects) → HasSwitched vcs ports picked single tail m (switched_marks ports vcs picked tail after m) (switched_effects ports vcs picked tail sends (leaves_by ports picks ahead (λ p. true) flits) (leaves_by ports picks ahead picks.tail tails) e) old (rest_from old ports (λ q. dry_by single m.taken (chosen_by picked m q)))
      has-switched single old e = record {
        moved = moved-is;
        out = same-word _ _ (leaves-all (λ i. true) (leaves_by ports picks ahead (λ p. true) flits)
            (λ q p w v l b is. leaves-goes (λ j. true) flits (λ x y z link few taken. (passed.goes x y z link few taken).0 ∙ sym (and-true (nat_eq (picks.vc y) z))) q p v is.port b is.is_taken)
            (λ q v l b none. leaves-none (λ j. true) flits (λ x z link few free. (passed.none x z link few free).0) q v b none));
        supplied = refl;
        released = λ i l.
            below-members (ports * vcs) _ i
            ∙ assoc (nat_lt i (ports * vcs)) (has_bit picked i && sends (i / vcs) (i % vcs)) (tail i)
            ∙ ap (λ b. b && tail i) (sym (below-members (ports * vcs) _ i));
        freed = λ o l. leaves-all tail (leaves_by ports picks ahead picks.tail tails)
            (λ q p w v b k is.
            leaves-goes picks.tail tails (λ x y z link few taken. (passed.goes x y z link few taken).1) q p v is.port k is.is_taken
            ∙ ap (λ x. nat_eq (picks.vc p) v && x) (shows.each p w is.port is.vc is.is_picked).tail)
            (λ q v b k none. leaves-none picks.tail tails (λ x z link few free. (passed.none x z link few free).1) q v k none) o;
        turns = turn-is;
        to_port = λ q i l b.
            less_members (m.to_port q) _ i
            ∙ ap (λ x. has_bit (m.to_port q) i && not x)
            (below-members (ports * vcs) (λ k. has_bit (chosen_by picked m q) k && tail k) i ∙ ap (λ x. x && (has_bit (chosen_by picked m q) i && tail i)) (lt-ltb i (ports * vcs) b));
        rest = refl;
        released_fits = fits _;
        freed_fits = fits _;
      }
        where
          assoc : (a b d : Bool) → (a && (b && d)) ≡ ((a && b) && d)
          assoc true b d = refl
          assoc false b d = refl

          fits : (test : ℕ → Bool) → set_below (ports * vcs) test < 2 ^ 64
          fits test = let low = below-fits (ports * vcs) test in let mono : 2 ^ (ports * vcs) ≤ 2 ^ 64 = pow_mono few in omega (arith, low, mono)
