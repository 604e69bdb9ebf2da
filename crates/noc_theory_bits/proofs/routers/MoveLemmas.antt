-- What goes through the switch is what the view's round says: the channels that move, the output
-- channels by which they leave, the tails among them, and the pointers of the output ports after
-- it.
use Rattle.std.proofs.Common.{◌≡◌, ◌≢◌, ℕ, ◌+◌, ◌*◌, ◌/◌, ◌%◌, ◌^◌, ◌<◌, ◌≤◌, Bool, true, false, length, Option, Some, None, refl, ap, ap₂, sym, ◌∙◌, subst, arith, inl, inr, bit_and, div-add-mod', mod-eq_of_lt}
use Rattle.std.specs.Prelude.{nat_eq, nat_le, nat_lt, ◌⊎◌, ◌&&◌, ◌||◌, not, is_some, option_and_then, option_map, slice_index, slice_index_or, if◌then◌else◌}
use Rattle.std.proofs.lemmas.Nat.{pow_pos}
use Rattle.std.proofs.lemmas.Nat.Bits.{and_pow}
use Rattle.std.proofs.Math.Nat.{mod_self}
use Rattle.noc_packet.proofs.SetLemmas.{bit_at-true, bit_at-false}
use Rattle.noc_sets.specs.Moves.{selected_by, dry_by, HasAdvanced}
use Rattle.noc_sets.specs.Sets.{of_one}
use Rattle.noc_sets.specs.Turns.{in_turn}
use Rattle.noc_sets.proofs.MemberLemmas.{lowest_fits, and-false}
use Rattle.noc_sets.proofs.SelectLemmas.{selected, wins-is, pick-of-member, in_turn-some}
use Rattle.noc_sets.proofs.SettleLemmas.{is_tail_by}
use Rattle.noc_sets.proofs.UnionLemmas.{some-none, some-one, some-same, some-and}
use Rattle.noc_theory_bits.proofs.Common.{eq-eqb, ne_eqb, cases_eq, cases_lt, false≢true, and_parts, eqb-true, lt-leb, le-leb, lt-ltb, le-ltb, get_or-map, div_below, mod_below, mul-add-lt, is_some_of, ports, get_or-map_indexed, has_bit, IsLeast, both_members, has_bit-zero, RoundRobin, pointer_after, pointers_of, arbiter_at, arbiter_after, MembersAreBelow, InputState, Idle, Waiting, Active, is_won_from, arbiters_after, out_of, View, size_of, view_input, view_claim, claim_in, view_round, first_flit, is_tail, mover, mover_to, sends_by, least, some_below, union_from, and_fits, least_is, lowest_members, power-members, AreMoved, union-members, ShowsPorts}

-- the words that the switch of a router goes by: the picked channels, by output port those that go
-- by it, and the pointers
pub record AreMoving (v : View) (picked : ℕ) (to turn : ℕ → ℕ) : Type 0 where
  pub some_vc : 0 < v.site.vcs
  pub fits : picked < 2 ^ 64
  pub below : MembersAreBelow (size_of v.site) picked
  pub draws : (k : ℕ) → k < size_of v.site → has_bit picked k ≡ is_some_of (slice_index_or (view_round v).picks (k / v.site.vcs) None) (k % v.site.vcs)
  pub to_port : (q k : ℕ) → q < ports v.site.grid → k < size_of v.site → has_bit picked k ≡ true → has_bit (to q) k ≡ sends_by v.site.vcs q (view_input v k).phase
  pub pointers : (q : ℕ) → q < ports v.site.grid → slice_index (pointers_of v.arbiters.outputs) q < ports v.site.grid
  pub turns : (q : ℕ) → q < ports v.site.grid → ShowsPorts v.site.vcs (ports v.site.grid) (turn q) (slice_index (pointers_of v.arbiters.outputs) q)
  pub within : (k o : ℕ) → k < size_of v.site → (view_input v k).phase ≡ Active o → o < size_of v.site

-- the channel that a port takes
pub record IsTaken (v : View) (q set i : ℕ) : Type 0 where
  pub channel : i < size_of v.site
  pub out : ℕ
  pub phase : (view_input v i).phase ≡ Active out
  pub port : out / v.site.vcs ≡ q
  pub below : out < size_of v.site
  pub alone : (k : ℕ) → has_bit set k ≡ nat_eq k i

eq-turned : (a b : ℕ) → nat_eq a b ≡ nat_eq b a
eq-turned a b = at (cases_eq a b)
  where
    at : (a ≡ b) ⊎ (a ≢ b) → nat_eq a b ≡ nat_eq b a
    at (inl e) = eq-eqb a b e ∙ sym (eq-eqb b a (sym e))
    at (inr o) = ne_eqb a b o ∙ sym (ne_eqb b a (λ e. o (sym e)))

module _ (v : View) (picked : ℕ) (to turn : ℕ → ℕ) (are : AreMoving v picked to turn) where
  -- the set of the channel that a port takes, and the channel
  abbrev pub sel : ℕ → ℕ
  sel q = selected_by picked to turn q

  abbrev pub lead : ℕ → ℕ
  lead q = least (selected_by picked to turn q)

  asks-fit : (q : ℕ) → bit_and picked (to q) < 2 ^ 64
  asks-fit q = and_fits picked (to q) are.fits

  to-port : (q : ℕ) → q < ports v.site.grid → (k : ℕ) → k < size_of v.site → has_bit picked k ≡ true → has_bit (to q) k ≡ sends_by v.site.vcs q (view_input v k).phase
  to-port q lq k l e = are.to_port q k lq l e

  pub bit-is : (q : ℕ) → q < ports v.site.grid → (k : ℕ) → has_bit (sel q) k ≡ ((has_bit picked k && has_bit (to q) k) && is_some_of (slice_index_or (view_round v).wins q None) (k / v.site.vcs))
  bit-is q lq k =
      selected v picked (to q) q are.some_vc are.fits are.below lq are.draws (to-port q lq) (turn q) k (are.pointers q lq) (are.turns q lq)
      ∙ ap (λ b. b && is_some_of (slice_index_or (view_round v).wins q None) (k / v.site.vcs)) (both_members picked (to q) k)

  selected-fits : (q : ℕ) → sel q < 2 ^ 64
  selected-fits q = lowest_fits (in_turn (bit_and picked (to q)) (turn q)) (by (nat_eq (bit_and (bit_and picked (to q)) (turn q)) 0))
    where
      by : (b : Bool) → (if b then bit_and picked (to q) else bit_and (bit_and picked (to q)) (turn q)) < 2 ^ 64
      by true = asks-fit q
      by false = and_fits (bit_and picked (to q)) (turn q) (asks-fit q)

  -- what is known of a channel that a port takes
  pub taken-is : (q : ℕ) → q < ports v.site.grid → sel q ≢ 0 → IsTaken v q (sel q) (lead q)
  taken-is q lq some = by (view_input v (lead q)).phase refl
    where
      member : has_bit (sel q) (lead q) ≡ true
      member = (least_is (sel q) (let p : 0 < sel q = omega arith in p) (selected-fits q)).0

      parts : ((has_bit picked (lead q) && has_bit (to q) (lead q)) ≡ true)
          × (is_some_of (slice_index_or (view_round v).wins q None) (lead q / v.site.vcs) ≡ true)
      parts = and_parts _ _ (sym (bit-is q lq (lead q)) ∙ member)

      both : (has_bit picked (lead q) ≡ true) × (has_bit (to q) (lead q) ≡ true)
      both = and_parts _ _ parts.0

      channel : lead q < size_of v.site
      channel = are.below (lead q) both.0

      sends : sends_by v.site.vcs q (view_input v (lead q)).phase ≡ true
      sends = sym (to-port q lq (lead q) channel both.0) ∙ both.1

      alone : (k : ℕ) → has_bit (sel q) k ≡ nat_eq k (lead q)
      alone k = single (cases_lt 0 (bit_and picked (to q)))
        where
          single : (0 < bit_and picked (to q)) ⊎ (bit_and picked (to q) ≤ 0) → has_bit (sel q) k ≡ nat_eq k (lead q)
          single (inr none) =
              let z : bit_and picked (to q) ≡ 0 = omega arith in
              absurd (false≢true (sym (ap (λ n. has_bit n (lead q)) z ∙ has_bit-zero (lead q)) ∙ both_members picked (to q) (lead q) ∙ parts.0))
          single (inl one) =
              let from = in_turn-some v picked (to q) q are.some_vc are.fits are.below lq are.draws (to-port q lq) (bit_and picked (to q)) (turn q) one (asks-fit q) in
              let is_least : IsLeast (has_bit (in_turn (bit_and picked (to q)) (turn q))) (Some (least (in_turn (bit_and picked (to q)) (turn q)))) = least_is (in_turn (bit_and picked (to q)) (turn q)) from.0 from.1 in
              let each : (n : ℕ) → has_bit (sel q) n ≡ nat_eq n (least (in_turn (bit_and picked (to q)) (turn q)))
              = λ n. lowest_members (in_turn (bit_and picked (to q)) (turn q)) (least (in_turn (bit_and picked (to q)) (turn q))) n is_least in
              let same : lead q ≡ least (in_turn (bit_and picked (to q)) (turn q))
              = eqb-true _ _ (sym (each (lead q)) ∙ member) in
              each k ∙ ap (nat_eq k) (sym same)

      by : (phase : InputState) → (view_input v (lead q)).phase ≡ phase → IsTaken v q (sel q) (lead q)
      by Idle e = absurd (false≢true (sym (ap (sends_by v.site.vcs q) e) ∙ sends))
      by (Waiting set) e = absurd (false≢true (sym (ap (sends_by v.site.vcs q) e) ∙ sends))
      by (Active o) e = record {
        channel = channel;
        out = o;
        phase = e;
        port = eqb-true (o / v.site.vcs) q (sym (ap (sends_by v.site.vcs q) e) ∙ sends);
        below = are.within (lead q) o channel e;
        alone = alone;
      }

  -- a port that takes none is asked by none
  nobody-asks : (q : ℕ) → q < ports v.site.grid → sel q ≡ 0 → bit_and picked (to q) ≡ 0
  nobody-asks q lq none = at (cases_lt 0 (bit_and picked (to q)))
    where
      at : (0 < bit_and picked (to q)) ⊎ (bit_and picked (to q) ≤ 0) → bit_and picked (to q) ≡ 0
      at (inr u) = omega arith
      at (inl one) =
          let from = in_turn-some v picked (to q) q are.some_vc are.fits are.below lq are.draws (to-port q lq) (bit_and picked (to q)) (turn q) one (asks-fit q) in
          let is_least : IsLeast (has_bit (in_turn (bit_and picked (to q)) (turn q))) (Some (least (in_turn (bit_and picked (to q)) (turn q)))) = least_is (in_turn (bit_and picked (to q)) (turn q)) from.0 from.1 in
          let on : has_bit (sel q) (least (in_turn (bit_and picked (to q)) (turn q))) ≡ true =
          lowest_members (in_turn (bit_and picked (to q)) (turn q)) (least (in_turn (bit_and picked (to q)) (turn q))) (least (in_turn (bit_and picked (to q)) (turn q))) is_least ∙ eq-eqb _ _ refl in
          absurd (false≢true (sym (ap (λ n. has_bit n (least (in_turn (bit_and picked (to q)) (turn q)))) none ∙ has_bit-zero (least (in_turn (bit_and picked (to q)) (turn q)))) ∙ on))

  -- the input channel that moves a flit through an output port
  pub mover-is : (q : ℕ) → q < ports v.site.grid → mover v.site (view_round v) q ≡ (if nat_eq (sel q) 0 then None else Some (lead q))
  mover-is q lq = at (cases_eq (sel q) 0)
    where
      Mover : Option ℕ → Option ℕ
      Mover won = option_and_then (λ p. option_map (λ vc. p * v.site.vcs + vc) (slice_index_or (view_round v).picks p None)) won

      won-is : slice_index_or (view_round v).wins q None ≡ (if nat_eq (bit_and picked (to q)) 0 then None else Some (least (in_turn (bit_and picked (to q)) (turn q)) / v.site.vcs))
      won-is = wins-is v picked (to q) q are.some_vc are.fits are.below lq are.draws (to-port q lq) (turn q) (are.pointers q lq) (are.turns q lq)

      at : (sel q ≡ 0) ⊎ (sel q ≢ 0)
          → mover v.site (view_round v) q ≡ (if nat_eq (sel q) 0 then None else Some (lead q))
      at (inr some) =
          let taken = taken-is q lq some in
          let member : has_bit (sel q) (lead q) ≡ true = taken.alone (lead q) ∙ eq-eqb _ _ refl in
          let parts = and_parts (has_bit picked (lead q) && has_bit (to q) (lead q)) _ (sym (bit-is q lq (lead q)) ∙ member) in
          let pick = pick-of-member v picked (to q) q are.some_vc are.fits are.below lq are.draws (to-port q lq) (lead q) (and_parts (has_bit picked (lead q)) _ parts.0).0 in
          ap Mover (some-is (slice_index_or (view_round v).wins q None) (lead q / v.site.vcs) parts.1)
          ∙ ap (λ (o : Option ℕ). option_map (λ vc. lead q / v.site.vcs * v.site.vcs + vc) o) pick.2
          ∙ ap Some (div-add-mod' (lead q) v.site.vcs)
          ∙ sym (ap (λ b. if b then None else Some (lead q)) (ne_eqb (sel q) 0 some))
        where
          some-is : (o : Option ℕ) (x : ℕ) → is_some_of o x ≡ true → o ≡ Some x
          some-is None x e = absurd (false≢true e)
          some-is (Some y) x e = ap Some (eqb-true y x e)
      at (inl none) =
          ap Mover (won-is ∙ ap (λ b. if b then None else Some (least (in_turn (bit_and picked (to q)) (turn q)) / v.site.vcs)) (eq-eqb (bit_and picked (to q)) 0 (nobody-asks q lq none)))
          ∙ sym (ap (λ b. if b then None else Some (lead q)) (eq-eqb (sel q) 0 none))

  -- the channels that move
  pub moved-is : AreMoved v (union_from 0 (ports v.site.grid) (selected_by picked to turn))
  moved-is = record { each = λ k l. union-members 0 (ports v.site.grid) (selected_by picked to turn) k ∙ ap (λ b. b || some_below (ports v.site.grid) (λ q. has_bit (sel q) k)) (has_bit-zero k) ∙ by k l (has_bit picked k) refl (view_input v k).phase refl }
    where
      by : (k : ℕ) → k < size_of v.site → (b : Bool) → has_bit picked k ≡ b → (phase : InputState) → (view_input v k).phase ≡ phase
          → some_below (ports v.site.grid) (λ q. has_bit (sel q) k) ≡ (is_some_of (slice_index_or (view_round v).picks (k / v.site.vcs) None) (k % v.site.vcs) && is_won_from v (view_round v) k (view_input v k).phase)
      by k l false eb phase e =
          some-none (ports v.site.grid) (λ q. has_bit (sel q) k) (λ q lq. bit-is q lq k ∙ ap (λ b. (b && has_bit (to q) k) && is_some_of (slice_index_or (view_round v).wins q None) (k / v.site.vcs)) eb)
          ∙ ap (λ b. b && is_won_from v (view_round v) k (view_input v k).phase) (sym eb ∙ are.draws k l)
      by k l true eb Idle e =
          some-none (ports v.site.grid) (λ q. has_bit (sel q) k) (λ q lq. bit-is q lq k ∙ ap₂ (λ a b. (a && b) && is_some_of (slice_index_or (view_round v).wins q None) (k / v.site.vcs)) eb (are.to_port q k lq l eb ∙ ap (sends_by v.site.vcs q) e))
          ∙ sym (ap₂ (λ a (p : InputState). a && is_won_from v (view_round v) k p) (sym (are.draws k l) ∙ eb) e)
      by k l true eb (Waiting set) e =
          some-none (ports v.site.grid) (λ q. has_bit (sel q) k) (λ q lq. bit-is q lq k ∙ ap₂ (λ a b. (a && b) && is_some_of (slice_index_or (view_round v).wins q None) (k / v.site.vcs)) eb (are.to_port q k lq l eb ∙ ap (sends_by v.site.vcs q) e))
          ∙ sym (ap₂ (λ a (p : InputState). a && is_won_from v (view_round v) k p) (sym (are.draws k l) ∙ eb) e)
      by k l true eb (Active o) e =
          some-one (ports v.site.grid) (o / v.site.vcs) (λ q. has_bit (sel q) k) (div_below o v.site.vcs (ports v.site.grid) are.some_vc (are.within k o l e))
          (λ q lq other. at q lq ∙ ap (λ b. b && is_some_of (slice_index_or (view_round v).wins q None) (k / v.site.vcs)) (ne_eqb (o / v.site.vcs) q (λ s. other (sym s))))
          ∙ at (o / v.site.vcs) (div_below o v.site.vcs (ports v.site.grid) are.some_vc (are.within k o l e)) ∙ ap (λ b. b && is_some_of (slice_index_or (view_round v).wins (o / v.site.vcs) None) (k / v.site.vcs)) (eq-eqb (o / v.site.vcs) (o / v.site.vcs) refl)
          ∙ sym (ap₂ (λ a (p : InputState). a && is_won_from v (view_round v) k p) (sym (are.draws k l) ∙ eb) e)
        where
          at : (q : ℕ) → q < ports v.site.grid → has_bit (sel q) k ≡ (nat_eq (o / v.site.vcs) q && is_some_of (slice_index_or (view_round v).wins q None) (k / v.site.vcs))
          at q lq = bit-is q lq k ∙ ap₂ (λ a b. (a && b) && is_some_of (slice_index_or (view_round v).wins q None) (k / v.site.vcs)) eb (are.to_port q k lq l eb ∙ ap (sends_by v.site.vcs q) e)

  -- ---- the output channels by which flits leave
  -- whether a test holds of the one that moves, if one does
  abbrev pub test_of : (ℕ → Bool) → Option ℕ → Bool
  test_of test None = false
  test_of test (Some i) = test i

  module _ (taken : ℕ → ℕ) (shows : (i o : ℕ) → i < size_of v.site → (view_input v i).phase ≡ Active o → taken i ≡ 2 ^ o) (test : ℕ → Bool) where
    -- the output channel of the channel that a port takes, if the test holds of it
    abbrev gone_by : ℕ → ℕ
    gone_by q = of_one (sel q) (λ i. if test i then taken i else 0)

    gone-bit : (q o : ℕ) → q < ports v.site.grid → o / v.site.vcs ≢ q → has_bit (gone_by q) o ≡ false
    gone-bit q o lq other = at (cases_eq (sel q) 0)
      where
        at : (sel q ≡ 0) ⊎ (sel q ≢ 0) → has_bit (gone_by q) o ≡ false
        at (inl none) = ap (λ b. has_bit (if b then 0 else (if test (lead q) then taken (lead q) else 0)) o) (eq-eqb (sel q) 0 none) ∙ has_bit-zero o
        at (inr some) =
            let one = taken-is q lq some in
            ap (λ b. has_bit (if b then 0 else (if test (lead q) then taken (lead q) else 0)) o) (ne_eqb (sel q) 0 some)
            ∙ by one.out one.port (shows (lead q) one.out one.channel one.phase) (test (lead q))
          where
            by : (p : ℕ) → p / v.site.vcs ≡ q → taken (lead q) ≡ 2 ^ p → (b : Bool) → has_bit (if b then taken (lead q) else 0) o ≡ false
            by p port is true = ap (λ w. has_bit w o) is ∙ power-members p o ∙ ne_eqb o p (λ e. other (ap (λ n. n / v.site.vcs) e ∙ port))
            by p port is false = has_bit-zero o

    pub gone-is : (o : ℕ) → o < size_of v.site → has_bit (union_from 0 (ports v.site.grid) gone_by) o ≡ test_of test (mover_to v (view_round v) o)
    gone-is o l =
        union-members 0 (ports v.site.grid) gone_by o ∙ ap (λ b. b || some_below (ports v.site.grid) (λ q. has_bit (gone_by q) o)) (has_bit-zero o)
        ∙ some-one (ports v.site.grid) (o / v.site.vcs) (λ q. has_bit (gone_by q) o) lq (λ q u other. gone-bit q o u (λ e. other (sym e)))
        ∙ at (cases_eq (sel (o / v.site.vcs)) 0)
      where
        lq : o / v.site.vcs < ports v.site.grid
        lq = div_below o v.site.vcs (ports v.site.grid) are.some_vc l

        To : Option ℕ → Bool
        To m = test_of test (option_and_then (λ i. if is_some_of (out_of (view_claim v i)) o then Some i else None) m)

        at : (sel (o / v.site.vcs) ≡ 0) ⊎ (sel (o / v.site.vcs) ≢ 0) → has_bit (gone_by (o / v.site.vcs)) o ≡ test_of test (mover_to v (view_round v) o)
        at (inl none) =
            let z = eq-eqb (sel (o / v.site.vcs)) 0 none in
            ap (λ b. has_bit (if b then 0 else (if test (lead (o / v.site.vcs)) then taken (lead (o / v.site.vcs)) else 0)) o) z ∙ has_bit-zero o
            ∙ sym (ap To (mover-is (o / v.site.vcs) lq ∙ ap (λ b. if b then None else Some (lead (o / v.site.vcs))) z))
        at (inr some) =
            let z = ne_eqb (sel (o / v.site.vcs)) 0 some in
            let one = taken-is (o / v.site.vcs) lq some in
            ap (λ b. has_bit (if b then 0 else (if test (lead (o / v.site.vcs)) then taken (lead (o / v.site.vcs)) else 0)) o) z
            ∙ by one.out one.phase (shows (lead (o / v.site.vcs)) one.out one.channel one.phase) (test (lead (o / v.site.vcs))) refl
            ∙ sym (ap To (mover-is (o / v.site.vcs) lq ∙ ap (λ b. if b then None else Some (lead (o / v.site.vcs))) z))
          where
            by : (p : ℕ) → (view_input v (lead (o / v.site.vcs))).phase ≡ Active p → taken (lead (o / v.site.vcs)) ≡ 2 ^ p
                → (b : Bool) → test (lead (o / v.site.vcs)) ≡ b
                → has_bit (if b then taken (lead (o / v.site.vcs)) else 0) o ≡ To (Some (lead (o / v.site.vcs)))
            by p phase is b eb =
                side b eb ∙ sym (ap (λ (s : InputState). test_of test (if is_some_of (out_of (claim_in v s)) o then Some (lead (o / v.site.vcs)) else None)) phase ∙ ends (nat_eq p o))
              where
                ends : (x : Bool) → test_of test (if x then Some (lead (o / v.site.vcs)) else None) ≡ (x && test (lead (o / v.site.vcs)))
                ends true = refl
                ends false = refl

                side : (b : Bool) → test (lead (o / v.site.vcs)) ≡ b
                    → has_bit (if b then taken (lead (o / v.site.vcs)) else 0) o ≡ (nat_eq p o && test (lead (o / v.site.vcs)))
                side true t = ap (λ w. has_bit w o) is ∙ power-members p o ∙ eq-turned o p ∙ sym (ap (λ x. nat_eq p o && x) t ∙ alone (nat_eq p o))
                  where
                    alone : (b : Bool) → (b && true) ≡ b
                    alone true = refl
                    alone false = refl
                side false t = has_bit-zero o ∙ sym (ap (λ x. nat_eq p o && x) t ∙ and-false (nat_eq p o))

  module _ (taken : ℕ → ℕ) (shows : (i o : ℕ) → i < size_of v.site → (view_input v i).phase ≡ Active o → taken i ≡ 2 ^ o) where
    -- the output channels by which a flit leaves
    pub left-is : (o : ℕ) → o < size_of v.site → has_bit (union_from 0 (ports v.site.grid) (λ q. of_one (sel q) taken)) o ≡ is_some (mover_to v (view_round v) o)
    left-is o l = gone-is taken shows (λ i. true) o l ∙ at (mover_to v (view_round v) o)
      where
        at : (m : Option ℕ) → test_of (λ i. true) m ≡ is_some m
        at None = refl
        at (Some i) = refl

    -- the output channels by which a tail leaves
    pub freed-is : (o : ℕ) → o < size_of v.site
        → has_bit (union_from 0 (ports v.site.grid) (λ q. of_one (sel q) (λ i. if is_tail (first_flit v i) then taken i else 0))) o ≡ is_tail_by v (mover_to v (view_round v) o)
    freed-is o l = gone-is taken shows (λ i. is_tail (first_flit v i)) o l ∙ at (mover_to v (view_round v) o)
      where
        at : (m : Option ℕ) → test_of (λ i. is_tail (first_flit v i)) m ≡ is_tail_by v m
        at None = refl
        at (Some i) = refl

  -- ---- who takes the last credit of its output channel
  abbrev pub spends : ℕ → InputState → Bool
  spends single Idle = false
  spends single (Waiting set) = false
  spends single (Active o) = has_bit single o

  module _ (taken : ℕ → ℕ) (shows : (i o : ℕ) → i < size_of v.site → (view_input v i).phase ≡ Active o → taken i ≡ 2 ^ o) (single : ℕ) where
    dry-bit : (q k : ℕ) → q < ports v.site.grid → has_bit (dry_by single taken (sel q)) k ≡ (has_bit (sel q) k && spends single (view_input v k).phase)
    dry-bit q k lq = at (cases_eq (sel q) 0)
      where
        neither : (b : Bool) (set : ℕ) → set ≡ 0 → has_bit (if b then 0 else set) k ≡ false
        neither true set z = has_bit-zero k
        neither false set z = ap (λ n. has_bit n k) z ∙ has_bit-zero k

        at : (sel q ≡ 0) ⊎ (sel q ≢ 0) → has_bit (dry_by single taken (sel q)) k ≡ (has_bit (sel q) k && spends single (view_input v k).phase)
        at (inl none) =
            neither (nat_eq (bit_and single (of_one (sel q) taken)) 0) (sel q) none
            ∙ sym (ap (λ b. b && spends single (view_input v k).phase) (ap (λ n. has_bit n k) none ∙ has_bit-zero k))
        at (inr some) =
            let one = taken-is q lq some in
            ap (λ w. has_bit (if nat_eq (bit_and single w) 0 then 0 else sel q) k) (ap (λ b. if b then 0 else taken (lead q)) (ne_eqb (sel q) 0 some) ∙ shows (lead q) one.out one.channel one.phase ∙ refl)
            ∙ by one.out one.phase one.alone (has_bit single one.out) refl
          where
            by : (p : ℕ) → (view_input v (lead q)).phase ≡ Active p → ((n : ℕ) → has_bit (sel q) n ≡ nat_eq n (lead q))
                → (b : Bool) → has_bit single p ≡ b → has_bit (if nat_eq (bit_and single (2 ^ p)) 0 then 0 else sel q) k ≡ (has_bit (sel q) k && spends single (view_input v k).phase)
            by p phase alone b eb = ap (λ x. has_bit (if x then 0 else sel q) k) (test b eb) ∙ side b eb (cases_eq k (lead q))
              where
                test : (b : Bool) → has_bit single p ≡ b → nat_eq (bit_and single (2 ^ p)) 0 ≡ not b
                test true e = ne_eqb (bit_and single (2 ^ p)) 0 (λ z. let w : bit_and single (2 ^ p) ≡ 1 * 2 ^ p = and_pow single p ∙ ap (λ n. n * 2 ^ p) (bit_at-true single p e) in absurd (omega (arith, pow_pos p)))
                test false e = eq-eqb (bit_and single (2 ^ p)) 0 (and_pow single p ∙ ap (λ n. n * 2 ^ p) (bit_at-false single p e) ∙ (let z : 0 * 2 ^ p ≡ 0 = omega arith in z))

                spent : k ≡ lead q → spends single (view_input v k).phase ≡ has_bit single p
                spent same = ap (λ n. spends single (view_input v n).phase) same ∙ ap (spends single) phase

                side : (b : Bool) → has_bit single p ≡ b → (k ≡ lead q) ⊎ (k ≢ lead q)
                    → has_bit (if not b then 0 else sel q) k ≡ (has_bit (sel q) k && spends single (view_input v k).phase)
                side true e (inl same) = alone k ∙ eq-eqb k _ same ∙ sym (ap₂ (λ a c. a && c) (alone k ∙ eq-eqb k _ same) (spent same ∙ e))
                side true e (inr other) = alone k ∙ ne_eqb k _ other ∙ sym (ap (λ a. a && spends single (view_input v k).phase) (alone k ∙ ne_eqb k _ other))
                side false e (inl same) = has_bit-zero k ∙ sym (ap₂ (λ a c. a && c) (alone k ∙ eq-eqb k _ same) (spent same ∙ e))
                side false e (inr other) = has_bit-zero k ∙ sym (ap (λ a. a && spends single (view_input v k).phase) (alone k ∙ ne_eqb k _ other))

    pub dry-is : (k : ℕ) → has_bit (union_from 0 (ports v.site.grid) (λ q. dry_by single taken (sel q))) k ≡ (has_bit (union_from 0 (ports v.site.grid) (selected_by picked to turn)) k && spends single (view_input v k).phase)
    dry-is k =
        union-members 0 (ports v.site.grid) (λ q. dry_by single taken (sel q)) k
        ∙ ap₂ (λ a b. a || b) (has_bit-zero k) (some-same (ports v.site.grid) (λ q. has_bit (dry_by single taken (sel q)) k) (λ q. has_bit (sel q) k && spends single (view_input v k).phase) (λ q lq. dry-bit q k lq))
        ∙ some-and (ports v.site.grid) (λ q. has_bit (sel q) k) (spends single (view_input v k).phase)
        ∙ ap (λ b. b && spends single (view_input v k).phase) (sym (union-members 0 (ports v.site.grid) (selected_by picked to turn) k ∙ ap (λ b. b || some_below (ports v.site.grid) (λ q. has_bit (sel q) k)) (has_bit-zero k)))

  -- ---- the pointers of the output ports
  won-is : (q : ℕ) → q < ports v.site.grid → slice_index_or (view_round v).wins q None ≡ (if nat_eq (sel q) 0 then None else Some (lead q / v.site.vcs))
  won-is q lq = at (cases_eq (sel q) 0)
    where
      some-is : (o : Option ℕ) (x : ℕ) → is_some_of o x ≡ true → o ≡ Some x
      some-is None x e = absurd (false≢true e)
      some-is (Some y) x e = ap Some (eqb-true y x e)

      at : (sel q ≡ 0) ⊎ (sel q ≢ 0)
          → slice_index_or (view_round v).wins q None ≡ (if nat_eq (sel q) 0 then None else Some (lead q / v.site.vcs))
      at (inr some) =
          let member : has_bit (sel q) (lead q) ≡ true = (taken-is q lq some).alone (lead q) ∙ eq-eqb _ _ refl in
          let parts = and_parts (has_bit picked (lead q) && has_bit (to q) (lead q)) _ (sym (bit-is q lq (lead q)) ∙ member) in
          some-is (slice_index_or (view_round v).wins q None) (lead q / v.site.vcs) parts.1
          ∙ sym (ap (λ b. if b then None else Some (lead q / v.site.vcs)) (ne_eqb (sel q) 0 some))
      at (inl none) =
          wins-is v picked (to q) q are.some_vc are.fits are.below lq are.draws (to-port q lq) (turn q) (are.pointers q lq) (are.turns q lq)
          ∙ ap (λ b. if b then None else Some (least (in_turn (bit_and picked (to q)) (turn q)) / v.site.vcs)) (eq-eqb (bit_and picked (to q)) 0 (nobody-asks q lq none))
          ∙ sym (ap (λ b. if b then None else Some (lead q / v.site.vcs)) (eq-eqb (sel q) 0 none))

  module _ (after : ℕ → ℕ) (goes : (q : ℕ) → q < ports v.site.grid → HasAdvanced v.site.vcs (size_of v.site) (sel q) (turn q) (after q)) where
    -- the mask of a port after its winner
    turned-shows : (q : ℕ) → q < ports v.site.grid
        → ShowsPorts v.site.vcs (ports v.site.grid) (after q) (pointer_after (ports v.site.grid) (slice_index (pointers_of v.arbiters.outputs) q) (slice_index_or (view_round v).wins q None))
    turned-shows q lq =
        subst (λ (won : Option ℕ). ShowsPorts v.site.vcs (ports v.site.grid) (after q) (pointer_after (ports v.site.grid) (slice_index (pointers_of v.arbiters.outputs) q) won)) (sym (won-is q lq))
        (at (cases_eq (sel q) 0))
      where
        Shows : Bool → Type 0
        Shows b = ShowsPorts v.site.vcs (ports v.site.grid) (after q)
            (pointer_after (ports v.site.grid) (slice_index (pointers_of v.arbiters.outputs) q) (if b then None else Some (lead q / v.site.vcs)))

        within : (k : ℕ) → k / v.site.vcs < ports v.site.grid → k < size_of v.site
        within k l =
            let some : 0 < v.site.vcs = are.some_vc in
            let m : k / v.site.vcs * v.site.vcs + k % v.site.vcs < v.site.vcs * ports v.site.grid = mul-add-lt (k / v.site.vcs) v.site.vcs (k % v.site.vcs) (ports v.site.grid) l (mod_below k v.site.vcs some) in
            let e : k / v.site.vcs * v.site.vcs + k % v.site.vcs ≡ k = div-add-mod' k v.site.vcs in
            omega arith

        at : (sel q ≡ 0) ⊎ (sel q ≢ 0) → Shows (nat_eq (sel q) 0)
        at (inl none) =
            subst Shows (sym (eq-eqb (sel q) 0 none))
            (subst (λ m. ShowsPorts v.site.vcs (ports v.site.grid) m (slice_index (pointers_of v.arbiters.outputs) q)) (sym ((goes q lq).stays none)) (are.turns q lq))
        at (inr some) = subst Shows (sym (ne_eqb (sel q) 0 some)) (past (cases_lt (lead q / v.site.vcs + 1) (ports v.site.grid)))
          where
            channel : lead q < size_of v.site
            channel = (taken-is q lq some).channel

            port : lead q / v.site.vcs < ports v.site.grid
            port = div_below (lead q) v.site.vcs (ports v.site.grid) are.some_vc channel

            bit : (k : ℕ) → k / v.site.vcs < ports v.site.grid → has_bit (after q) k ≡ nat_lt (lead q / v.site.vcs) (k / v.site.vcs)
            bit k l = (goes q lq).passes (lead q) k ((taken-is q lq some).alone (lead q) ∙ eq-eqb (lead q) (lead q) refl) (within k l)

            next : (a b : ℕ) → nat_lt a b ≡ nat_le (a + 1) b
            next a b = elim (cases_lt a b) [ inl l ↦ lt-ltb a b l ∙ sym (le-leb (a + 1) b (omega arith)) | inr l ↦ le-ltb a b l ∙ sym (lt-leb (a + 1) b (omega arith)) ]

            past : (lead q / v.site.vcs + 1 < ports v.site.grid) ⊎ (ports v.site.grid ≤ lead q / v.site.vcs + 1) → Shows false
            past (inl l) = inl (λ k u. bit k u ∙ next (lead q / v.site.vcs) (k / v.site.vcs) ∙ ap (λ m. nat_le m (k / v.site.vcs)) (sym (mod-eq_of_lt l)))
            past (inr l) =
                let last : lead q / v.site.vcs + 1 ≡ ports v.site.grid = omega (arith, port, l) in
                inr (
                  ap (λ m. m % ports v.site.grid) last ∙ mod_self (ports v.site.grid),
                  λ k u. bit k u ∙ le-ltb (lead q / v.site.vcs) (k / v.site.vcs) (omega (arith, last, u)),
                )

    -- the masks after the cycle show the pointers after it
    pub turns-after : (q : ℕ) → q < ports v.site.grid → length v.arbiters.outputs ≡ ports v.site.grid → (arbiter_at v.arbiters.outputs q).size ≡ ports v.site.grid
        → ShowsPorts v.site.vcs (ports v.site.grid) (after q) (arbiter_at (arbiters_after (view_round v) v.arbiters).outputs q).pointer
    turns-after q lq long size =
        subst (ShowsPorts v.site.vcs (ports v.site.grid) (after q))
        (ap₂ (λ n p. pointer_after n p (slice_index_or (view_round v).wins q None)) (sym size) (get_or-map (λ (t : RoundRobin). t.pointer) v.arbiters.outputs q (record { size = 0; pointer = 0 }) 0 (omega (arith, long)))
        ∙ sym (ap (λ (t : RoundRobin). t.pointer)
        (get_or-map_indexed (λ p (t : RoundRobin). arbiter_after t (slice_index_or (view_round v).wins p None)) v.arbiters.outputs q (record { size = 0; pointer = 0 }) (record { size = 0; pointer = 0 }) (omega (arith, long)))))
        (turned-shows q lq)
