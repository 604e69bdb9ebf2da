-- What allocation makes of a router of a block is what a router allocates.
use Rattle.std.proofs.Common.{◌≡◌, ℕ, ◌+◌, ◌*◌, ◌/◌, ◌^◌, ◌<◌, ◌≤◌, Bool, true, false, arith, ap, ap₂, sym, ◌∙◌, subst, refl, inl, inr, bit_or}
use Rattle.std.specs.Prelude.{◌&&◌, ◌||◌, nat_eq, nat_lt, if◌then◌else◌}
use Rattle.std.proofs.lemmas.Bool.{and_parts, cases_eq, eq-eqb, eqb-true, lt-ltb, true≢false}
use Rattle.std.proofs.Math.Pow.{pow_mono}
use Rattle.noc_packet.specs.Set.{has_bit}
use Rattle.noc_packet.proofs.SetLemmas.{either_members, has_bit-zero, zero_from_none}
use Rattle.noc_alloc.specs.Members.{MembersAreBelow}
use Rattle.noc_sets.specs.Column.{Column, RouterMarks}
use Rattle.noc_sets.specs.Grants.{HasAllocated, HasGranted, IsBound, KeepsInput, KeepsOutput}
use Rattle.noc_sets.specs.Sets.{least, less}
use Rattle.noc_sets.specs.Turns.{in_turn}
use Rattle.noc_sets.proofs.MemberLemmas.{and-false, eq-turned, least_is, or-false, or-left, or-right}
use Rattle.noc_sets.proofs.TurnLemmas.{first-among}
use Rattle.noc_columns.specs.Allotted.{Allotment, HasAllotted, ShowsOwned, allotted_after, allotted_before, allotted_marks, given_to}
use Rattle.noc_columns.specs.Grants.{first_of}
use Rattle.noc_columns.specs.Words.{set_below}
use Rattle.noc_columns.proofs.AllotmentLemmas.{fits-below}
use Rattle.noc_columns.proofs.AskLemmas.{asks-idle, asks-wait, in-word}
use Rattle.noc_columns.proofs.ChannelLemmas.{part, port-below, whole}
use Rattle.noc_columns.proofs.PickLemmas.{Found, find-first, none-each}
use Rattle.noc_columns.proofs.PortLemmas.{lowest-alone, some-member}
use Rattle.noc_columns.proofs.RouterLemmas.{below-fits}
use Rattle.noc_columns.proofs.SetLemmas.{below-members}
use Rattle.noc_columns.proofs.SourceLemmas.{none-or}

module _ (size vcs : ℕ) (a b : Allotment) (some : 0 < vcs) (few : size ≤ 64) (waits : MembersAreBelow size a.waiting) (clear : a.granted ≡ 0) (has : HasAllotted vcs a b) where
  -- ---- who wins an output channel
  pub granted-is : b.granted ≡ has.granted
  granted-is = has.granted_is ∙ ap (λ x. bit_or x has.granted) clear ∙ none-or has.granted

  given-is : (o k : ℕ) → has_bit has.outs o ≡ true → has_bit (first_of has.requests a.turn o) k ≡ true → has_bit b.granted k ≡ true
  given-is o k out won = ap (λ w. has_bit w k) granted-is ∙ has.given o k out won

  none-is : (k : ℕ) → ((o : ℕ) → has_bit has.outs o ≡ true → has_bit (first_of has.requests a.turn o) k ≡ false) → has_bit b.granted k ≡ false
  none-is k none = ap (λ w. has_bit w k) granted-is ∙ has.none k none

  out-below : (o : ℕ) → has_bit has.outs o ≡ true → o < 64
  out-below o out = in-word has.outs o has.outs_fit out

  pub winner-waits : (o k : ℕ) → has_bit has.outs o ≡ true → has_bit (first_of has.requests a.turn o) k ≡ true → has_bit a.waiting k ≡ true
  winner-waits o k out won =
      asks-wait (has_bit a.waiting) a.idle a.set has.requests has.outs has.inputs b.wanted has.asks o k (out-below o out) (first-among (has.requests o) (a.turn o) k won)

  winner-number : (o k : ℕ) → has_bit has.outs o ≡ true → has_bit (first_of has.requests a.turn o) k ≡ true → b.out_port k * vcs + b.out_vc k ≡ o
  winner-number o k out won = let e = has.numbers o k out won in ap₂ (λ p v. p * vcs + v) e.0 e.1 ∙ whole size vcs some o

  pub winner-of : (k : ℕ) → has_bit b.granted k ≡ true → (o : ℕ) × (has_bit has.outs o ≡ true) × (has_bit (first_of has.requests a.turn o) k ≡ true)
  winner-of k e = at (find-first 64 (λ o. has_bit has.outs o && has_bit (first_of has.requests a.turn o) k))
    where
      at : Found 64 (λ o. has_bit has.outs o && has_bit (first_of has.requests a.turn o) k) → (o : ℕ) × (has_bit has.outs o ≡ true) × (has_bit (first_of has.requests a.turn o) k ≡ true)
      at (inl nobody) = absurd (true≢false (sym e ∙ none-is k (λ o out. by o out (has_bit (first_of has.requests a.turn o) k) refl)))
        where
          by : (o : ℕ) → has_bit has.outs o ≡ true → (w : Bool) → has_bit (first_of has.requests a.turn o) k ≡ w → has_bit (first_of has.requests a.turn o) k ≡ false
          by o out false won = won
          by o out true won =
              absurd (true≢false (sym (ap₂ (λ x y. x && y) out won) ∙ none-each 64 (λ p. has_bit has.outs p && has_bit (first_of has.requests a.turn p) k) nobody o (out-below o out)))
      at (inr found) = let parts = and_parts (has_bit has.outs found.0) (has_bit (first_of has.requests a.turn found.0) k) found.2 in (found.0, parts.0, parts.1)

  -- who sends by a virtual channel that a port has still does
  pub sends-within : (k : ℕ) → a.out_vc k < vcs → b.out_vc k < vcs
  sends-within k before = at (has_bit b.granted k) refl
    where
      at : (x : Bool) → has_bit b.granted k ≡ x → b.out_vc k < vcs
      at true given = let w = winner-of k given in subst (λ v. v < vcs) (sym (has.numbers w.0 k w.1 w.2).1) (part size vcs some w.0)
      at false ungiven = subst (λ v. v < vcs) (sym (has.kept k (ap (λ x. has_bit x k) (sym granted-is) ∙ ungiven)).1) before

  granted-below : MembersAreBelow size b.granted
  granted-below k e = let w = winner-of k e in waits k (winner-waits w.0 k w.1 w.2)

  -- ---- the owner of an output channel is the one with its number
  given-members : (o k : ℕ) → has_bit (given_to size vcs b o) k ≡ (nat_lt k size && (has_bit b.granted k && nat_eq (b.out_port k * vcs + b.out_vc k) o))
  given-members o k = below-members size (λ j. has_bit b.granted j && nat_eq (b.out_port j * vcs + b.out_vc j) o) k

  given-here : (o k : ℕ) → has_bit has.outs o ≡ true → has_bit (first_of has.requests a.turn o) k ≡ true → has_bit (given_to size vcs b o) k ≡ true
  given-here o k out won =
      given-members o k
      ∙ ap₂ (λ x y. x && y) (lt-ltb k size (waits k (winner-waits o k out won))) (ap₂ (λ x y. x && y) (given-is o k out won) (eq-eqb (b.out_port k * vcs + b.out_vc k) o (winner-number o k out won)))

  given-only : (o k : ℕ) → has_bit (given_to size vcs b o) k ≡ true → (has_bit has.outs o ≡ true) × (has_bit (first_of has.requests a.turn o) k ≡ true)
  given-only o k e =
      let parts = and_parts (nat_lt k size) (has_bit b.granted k && nat_eq (b.out_port k * vcs + b.out_vc k) o) (sym (given-members o k) ∙ e) in
      let both = and_parts (has_bit b.granted k) (nat_eq (b.out_port k * vcs + b.out_vc k) o) parts.1 in
      let w = winner-of k both.0 in
      let same : w.0 ≡ o = sym (winner-number w.0 k w.1 w.2) ∙ eqb-true (b.out_port k * vcs + b.out_vc k) o both.1 in (
        subst (λ p. has_bit has.outs p ≡ true) same w.1,
        subst (λ p. has_bit (first_of has.requests a.turn p) k ≡ true) same w.2,
      )

  pub owner-is : (o k other : ℕ) → has_bit has.outs o ≡ true → has_bit (first_of has.requests a.turn o) k ≡ true → (if nat_eq (given_to size vcs b o) 0 then other else least (given_to size vcs b o)) ≡ k
  owner-is o k other out won =
      let given = given_to size vcs b o in
      let member = given-here o k out won in
      let is_some : nat_eq given 0 ≡ false = some-member given k member in
      let low : given < 2 ^ size = below-fits size (λ j. has_bit b.granted j && nat_eq (b.out_port j * vcs + b.out_vc j) o) in
      let mono : 2 ^ size ≤ 2 ^ 64 = pow_mono few in
      let fits : given < 2 ^ 64 = omega (arith, low, mono) in
      let one = least_is given (positive given k member) fits in
      ap (λ z. if z then other else least given) is_some
      ∙ lowest-alone (in_turn (has.requests o) (a.turn o)) k (least given) won (given-only o (least given) one.0).1
    where
      positive : (set j : ℕ) → has_bit set j ≡ true → 0 < set
      positive set j e = elim (cases_eq set 0) [ inl z ↦ absurd (true≢false (sym e ∙ ap (λ w. has_bit w j) z ∙ has_bit-zero j)) | inr o ↦ omega arith ]

  pub owner-none : (o : ℕ) → has_bit has.outs o ≡ false → nat_eq (given_to size vcs b o) 0 ≡ true
  owner-none o free = eq-eqb (given_to size vcs b o) 0 (zero_from_none (given_to size vcs b o) (λ k. at k (has_bit (given_to size vcs b o) k) refl))
    where
      at : (k : ℕ) (x : Bool) → has_bit (given_to size vcs b o) k ≡ x → has_bit (given_to size vcs b o) k ≡ false
      at k false e = e
      at k true e = absurd (true≢false (sym (given-only o k e).0 ∙ free))

  -- ---- by which ports they send
  sent-members : (q k : ℕ) → has_bit (set_below size (λ j. has_bit b.granted j && nat_eq (b.out_port j) q)) k ≡ (nat_lt k size && (has_bit b.granted k && nat_eq (b.out_port k) q))
  sent-members q k = below-members size (λ j. has_bit b.granted j && nat_eq (b.out_port j) q) k

  module _ (m : RouterMarks) where
    pub sent-none : (q k : ℕ) → has_bit b.granted k ≡ false → has_bit ((allotted_marks size vcs b m).to_port q) k ≡ has_bit (m.to_port q) k
    sent-none q k ungiven =
        either_members (m.to_port q) (set_below size (λ j. has_bit b.granted j && nat_eq (b.out_port j) q)) k
        ∙ ap (λ x. has_bit (m.to_port q) k || x) (sent-members q k ∙ ap (λ g. nat_lt k size && (g && nat_eq (b.out_port k) q)) ungiven ∙ and-false (nat_lt k size))
        ∙ or-false (has_bit (m.to_port q) k)

    pub sent-some : (q k : ℕ) → k < size → has_bit b.granted k ≡ true → has_bit ((allotted_marks size vcs b m).to_port q) k ≡ (has_bit (m.to_port q) k || nat_eq (b.out_port k) q)
    sent-some q k l given =
        either_members (m.to_port q) (set_below size (λ j. has_bit b.granted j && nat_eq (b.out_port j) q)) k
        ∙ ap (λ x. has_bit (m.to_port q) k || x) (sent-members q k ∙ ap₂ (λ x g. x && (g && nat_eq (b.out_port k) q)) (lt-ltb k size l) given)

    bound-is : (o k : ℕ) → has_bit has.outs o ≡ true → has_bit (first_of has.requests a.turn o) k ≡ true → IsBound (record m { set = a.set; turn = a.turn }) (allotted_marks size vcs b m) o k (o / vcs)
    bound-is o k out won =
        let given = given-is o k out won in
        record {
          owner = owner-is o k (m.owner o) out won;
          taken = ap (λ g. if g then 2 ^ (b.out_port k * vcs + b.out_vc k) else m.taken k) given ∙ ap (λ n. 2 ^ n) (winner-number o k out won);
          to_port = λ q.
              sent-some q k (waits k (winner-waits o k out won)) given
              ∙ ap (λ x. has_bit (m.to_port q) k || x) (ap (λ p. nat_eq p q) (has.numbers o k out won).0 ∙ eq-turned (o / vcs) q)
              ∙ turn (has_bit (m.to_port q) k) (nat_eq q (o / vcs));
        }
      where
        turn : (x y : Bool) → (x || y) ≡ (y || x)
        turn true true = refl
        turn true false = refl
        turn false true = refl
        turn false false = refl

    input-kept : (k : ℕ) → has_bit b.granted k ≡ false → KeepsInput (record m { set = a.set; turn = a.turn }) (allotted_marks size vcs b m) k
    input-kept k ungiven = record {
      taken = ap (λ g. if g then 2 ^ (b.out_port k * vcs + b.out_vc k) else m.taken k) ungiven;
      to_port = λ q. sent-none q k ungiven;
    }

    output-kept : (o : ℕ) → has_bit has.outs o ≡ false → KeepsOutput (record m { set = a.set; turn = a.turn }) (allotted_marks size vcs b m) o
    output-kept o free = record {
      owner = ap (λ z. if z then m.owner o else least (given_to size vcs b o)) (owner-none o free);
      turn = has.others o free;
    }

    has-granted : HasGranted size (has_bit has.outs) has.requests (λ o. o / vcs) (record m { set = a.set; turn = a.turn }) (allotted_marks size vcs b m) b.granted
    has-granted = record {
      bound = bound-is;
      given = given-is;
      turns = λ o k i out won l. has.turns o k i out won (omega (arith, l, few));
      none = none-is;
      inputs = λ k none. input-kept k (none-is k none);
      outputs = output-kept;
      rest = record { set = has.set; packet = refl; port_turn = refl };
    }

    pub is-allocated : (c : Column) → a.lost ≡ 0 → HasAllocated size (λ o. o / vcs) (allotted_before a c m) (allotted_after size vcs a b c m)
    is-allocated c unlost = record {
      requests = has.requests;
      outs = has.outs;
      inputs = has.inputs;
      wanted = b.wanted;
      asks = has.asks;
      marks = has-granted;
      outs_fit = has.outs_fit;
      granted_fit = fits-below size b.granted few granted-below;
      lost = has.lost_is ∙ ap (λ x. bit_or x (less has.inputs has.granted)) unlost ∙ none-or (less has.inputs has.granted) ∙ ap (less has.inputs) (sym granted-is);
      column = λ x. record c { waiting = a.waiting; idle = has.idle x; wanted = b.wanted; supplied = bit_or c.supplied b.granted };
    }

-- ---- which output channel each input channel owns
-- the output channel that one input channel owns
record Owns (ports vcs : ℕ) (b : Allotment) (m : RouterMarks) (i : ℕ) : Type 0 where
  port : b.out_port i < ports
  vc : b.out_vc i < vcs
  taken : m.taken i ≡ 2 ^ (b.out_port i * vcs + b.out_vc i)
  to_port : (q : ℕ) → q < ports → has_bit (m.to_port q) i ≡ nat_eq (b.out_port i) q
  owner : m.owner (b.out_port i * vcs + b.out_vc i) ≡ i

module _ (ports vcs active : ℕ) (a b : Allotment) (m : RouterMarks) (some : 0 < vcs) (few : ports * vcs ≤ 64) (waits : MembersAreBelow (ports * vcs) a.waiting) (idles : MembersAreBelow (ports * vcs) a.idle) (clear : a.granted ≡ 0)
    (apart : (i : ℕ) → has_bit active i ≡ true → has_bit a.waiting i ≡ false) (owned : (i : ℕ) → has_bit active i ≡ true → has_bit a.idle (a.out_port i * vcs + a.out_vc i) ≡ false)
    (has : HasAllotted vcs a b) (shows : ShowsOwned ports vcs active a.out_port a.out_vc m) where
  idle-is : (o : ℕ) → has_bit has.outs o ≡ true → has_bit a.idle o ≡ true
  idle-is o out = asks-idle (has_bit a.waiting) a.idle a.set has.requests has.outs has.inputs b.wanted has.asks has.outs_fit (fits-below (ports * vcs) a.idle few idles) o out

  -- one that is granted an output channel
  owns-new : (i : ℕ) → has_bit b.granted i ≡ true → Owns ports vcs b (allotted_marks (ports * vcs) vcs b m) i
  owns-new i given =
      let w = winner-of (ports * vcs) vcs a b some few waits clear has i given in
      let numbers = has.numbers w.0 i w.1 w.2 in
      let within : w.0 < ports * vcs = idles w.0 (idle-is w.0 w.1) in
      let waiting = winner-waits (ports * vcs) vcs a b some few waits clear has w.0 i w.1 w.2 in
      let is : b.out_port i * vcs + b.out_vc i ≡ w.0 = ap₂ (λ p v. p * vcs + v) numbers.0 numbers.1 ∙ whole ports vcs some w.0 in
      record {
        port = subst (λ p. p < ports) (sym numbers.0) (port-below ports vcs some w.0 within);
        vc = subst (λ v. v < vcs) (sym numbers.1) (part ports vcs some w.0);
        taken = ap (λ g. if g then 2 ^ (b.out_port i * vcs + b.out_vc i) else m.taken i) given;
        to_port = λ q l.
            sent-some (ports * vcs) vcs a b some few waits clear has m q i (waits i waiting) given
            ∙ ap (λ x. x || nat_eq (b.out_port i) q) (before q waiting (has_bit (m.to_port q) i) refl);
        owner =
            ap (λ o. if nat_eq (given_to (ports * vcs) vcs b o) 0 then m.owner o else least (given_to (ports * vcs) vcs b o)) is
            ∙ owner-is (ports * vcs) vcs a b some few waits clear has w.0 i (m.owner w.0) w.1 w.2;
      }
    where
      -- it sent by no port before
      before : (q : ℕ) → has_bit a.waiting i ≡ true → (x : Bool) → has_bit (m.to_port q) i ≡ x → has_bit (m.to_port q) i ≡ false
      before q waiting false e = e
      before q waiting true e = absurd (true≢false (sym waiting ∙ apart i (shows.only q i e)))

  -- one that owned one before
  owns-still : (i : ℕ) → has_bit b.granted i ≡ false → has_bit active i ≡ true → Owns ports vcs b (allotted_marks (ports * vcs) vcs b m) i
  owns-still i ungiven was =
      let kept = has.kept i (ap (λ x. has_bit x i) (sym (granted-is (ports * vcs) vcs a b some few waits clear has)) ∙ ungiven) in
      let same : b.out_port i * vcs + b.out_vc i ≡ a.out_port i * vcs + a.out_vc i = ap₂ (λ p v. p * vcs + v) kept.0 kept.1 in
      let o = a.out_port i * vcs + a.out_vc i in
      record {
        port = subst (λ p. p < ports) (sym kept.0) (shows.sends.port i was);
        vc = subst (λ v. v < vcs) (sym kept.1) (shows.sends.vc i was);
        taken =
            ap (λ g. if g then 2 ^ (b.out_port i * vcs + b.out_vc i) else m.taken i) ungiven
            ∙ shows.sends.taken i was
            ∙ ap (λ n. 2 ^ n) (sym same);
        to_port = λ q l. sent-none (ports * vcs) vcs a b some few waits clear has m q i ungiven ∙ shows.sends.to_port i q was l ∙ ap (λ p. nat_eq p q) (sym kept.0);
        owner =
            ap (λ n. if nat_eq (given_to (ports * vcs) vcs b n) 0 then m.owner n else least (given_to (ports * vcs) vcs b n)) same
            ∙ ap (λ z. if z then m.owner o else least (given_to (ports * vcs) vcs b o)) (owner-none (ports * vcs) vcs a b some few waits clear has o (free o (has_bit has.outs o) refl (owned i was)))
            ∙ shows.owner i was;
      }
    where
      free : (o : ℕ) (x : Bool) → has_bit has.outs o ≡ x → has_bit a.idle o ≡ false → has_bit has.outs o ≡ false
      free o false e taken = e
      free o true e taken = absurd (true≢false (sym (idle-is o e) ∙ taken))

  owns : (i : ℕ) → has_bit (bit_or active b.granted) i ≡ true → Owns ports vcs b (allotted_marks (ports * vcs) vcs b m) i
  owns i e = at (has_bit b.granted i) refl
    where
      at : (x : Bool) → has_bit b.granted i ≡ x → Owns ports vcs b (allotted_marks (ports * vcs) vcs b m) i
      at true given = owns-new i given
      at false ungiven = owns-still i ungiven (sym (ap (λ x. has_bit active i || x) ungiven ∙ or-false (has_bit active i)) ∙ sym (either_members active b.granted i) ∙ e)

  pub shows-owned : ShowsOwned ports vcs (bit_or active b.granted) b.out_port b.out_vc (allotted_marks (ports * vcs) vcs b m)
  shows-owned = record {
    sends = record {
      port = λ i e. (owns i e).port;
      vc = λ i e. (owns i e).vc;
      taken = λ i e. (owns i e).taken;
      to_port = λ i q e l. (owns i e).to_port q l;
    };
    only = λ q i e. only q i e (has_bit b.granted i) refl;
    owner = λ i e. (owns i e).owner;
  }
    where
      only : (q i : ℕ) → has_bit ((allotted_marks (ports * vcs) vcs b m).to_port q) i ≡ true → (x : Bool) → has_bit b.granted i ≡ x → has_bit (bit_or active b.granted) i ≡ true
      only q i e true given = either_members active b.granted i ∙ or-right (has_bit active i) (has_bit b.granted i) given
      only q i e false ungiven =
          either_members active b.granted i
          ∙ or-left (has_bit active i) (has_bit b.granted i) (shows.only q i (sym (sent-none (ports * vcs) vcs a b some few waits clear has m q i ungiven) ∙ e))
