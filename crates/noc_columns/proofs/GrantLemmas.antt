-- A grant is written at one channel of one router.
use Rattle.std.proofs.Common.{◌≡◌, ◌≢◌, ◌⊎◌, ℕ, ◌/◌, ◌%◌, ◌^◌, ◌<◌, Bool, true, false, List, Some, arith, ap, ap₂, sym, ◌∙◌, refl, inl, inr, bit_or}
use Rattle.std.specs.Prelude.{◌&&◌, ◌||◌, nat_eq, if◌then◌else◌}
use Rattle.std.proofs.lemmas.Bool.{cases_eq, eq-eqb, eqb-true, ne_eqb, true≢false}
use Rattle.noc_packet.specs.Set.{IsLeast, has_bit}
use Rattle.noc_packet.proofs.SetLemmas.{either_members, has_bit-zero}
use Rattle.noc_alloc.specs.Members.{MembersAreBelow}
use Rattle.noc_sets.specs.Turns.{first_bit, in_turn}
use Rattle.noc_sets.proofs.MemberLemmas.{and-false, lowest-one, or-cases, or-left, or-none, or-right, or-zero, power-members}
use Rattle.noc_columns.specs.Grants.{AreGranted, IsNumbered, first_of}
use Rattle.noc_columns.specs.Supply.{digits_by, number_in}
use Rattle.noc_columns.specs.Words.{AreApart, Numbering, set_of, word}
use Rattle.noc_columns.specs.declared.given.Grants.{Grants}
use Rattle.noc_columns.specs.declared.supply.Digits.{Digits}
use Rattle.noc_columns.proofs.PastLemmas.{first-some}
use Rattle.noc_columns.proofs.PortLemmas.{lowest-least}
use Rattle.noc_columns.proofs.SupplyLemmas.{number-is}
use Rattle.noc_columns.proofs.TableLemmas.{or-joined}

-- the number of channel c of router r, where it is written at channel k of a router
pub number-written : (n : Numbering) (old new : Digits (List ℕ)) (k router value r c : ℕ) → AreApart n → k < n.size → c < n.size
    → ((i s : ℕ) → number_in (digits_by (word i) new) s ≡ (if nat_eq i (n.index k) && nat_eq s router then value else number_in (digits_by (word i) old) s))
    → number_in (digits_by (set_of n r) new) c ≡ (if nat_eq r router && has_bit (2 ^ k) c then value else number_in (digits_by (set_of n r) old) c)
number-written n old new k router value r c apart few l is =
    number-is n r c new l
    ∙ is (n.index c) r
    ∙ ap₂ (λ b m. if b then value else m) (here (cases_eq c k)) (sym (number-is n r c old l))
  where
    turn : (a b : Bool) → (a && b) ≡ (b && a)
    turn true true = refl
    turn true false = refl
    turn false true = refl
    turn false false = refl

    here : (c ≡ k) ⊎ (c ≢ k) → (nat_eq (n.index c) (n.index k) && nat_eq r router) ≡ (nat_eq r router && has_bit (2 ^ k) c)
    here (inl same) =
        ap (λ b. b && nat_eq r router) (eq-eqb (n.index c) (n.index k) (ap n.index same))
        ∙ turn true (nat_eq r router)
        ∙ ap (λ b. nat_eq r router && b) (sym (power-members k c ∙ eq-eqb c k same))
    here (inr other) =
        ap (λ b. b && nat_eq r router) (ne_eqb (n.index c) (n.index k) (λ e. other (apart c k l few e)))
        ∙ turn false (nat_eq r router)
        ∙ ap (λ b. nat_eq r router && b) (sym (power-members k c ∙ ne_eqb c k other))

-- one of the requests is first
pub first-is : (n requests mask bit : ℕ) → MembersAreBelow n requests → 0 < requests → bit ≡ first_bit requests mask → (t : ℕ) × (t < n) × (bit ≡ 2 ^ t)
first-is n requests mask bit below some is =
    let found = first-some n requests mask below (ne_eqb requests 0 (λ e. absurd (omega (arith, some, e)))) in
    (found.0, found.1, is ∙ lowest-one (in_turn requests mask) found.0 (lowest-least (in_turn requests mask) found.0 found.2))

pub least-one-is : (bit t k : ℕ) → bit ≡ 2 ^ t → IsLeast (has_bit bit) (Some k) → k ≡ t
least-one-is bit t k one is = eqb-true k t (sym (ap (λ x. has_bit x k) one ∙ power-members t k) ∙ is.0)

-- ---- one grant more
module _ (n : Numbering) (vcs router : ℕ) (prev next : ℕ → Bool) (requests turn : ℕ → ℕ) (granted t bit : ℕ) (old now new : Grants)
    (more : (k : ℕ) → next k ≡ (prev k || nat_eq k t)) (is : bit ≡ first_of requests turn t)
    (apart : (o k : ℕ) → prev o ≡ true → has_bit (first_of requests turn o) k ≡ true → has_bit bit k ≡ false)
    (one : (r : ℕ) → IsNumbered n r router bit (t / vcs) (t % vcs) now new)
    (are : AreGranted n vcs router prev requests turn granted old now) where
  here : (o : ℕ) → next o ≡ true → (prev o ≡ true) ⊎ (o ≡ t)
  here o a = elim (or-cases (prev o) (nat_eq o t) (sym (more o) ∙ a)) [ inl p ↦ inl p | inr e ↦ inr (eqb-true o t e) ]

  neither : (a b c : Bool) → (a && (b || c)) ≡ false → ((a && b) ≡ false) × ((a && c) ≡ false)
  neither true b c e = or-none b c e
  neither false b c e = (refl, refl)

  pub granted-next : AreGranted n vcs router next requests turn (bit_or granted bit) old new
  granted-next = record {
    given = λ o k a b. either_members granted bit k ∙ elim (here o a) [
      | inl p ↦ or-left (has_bit granted k) (has_bit bit k) (are.given o k p b)
      | inr e ↦ or-right (has_bit granted k) (has_bit bit k) (ap (λ w. has_bit w k) (is ∙ ap (first_of requests turn) (sym e)) ∙ b)
    ];
    none = λ k all.
        either_members granted bit k
        ∙ ap₂ (λ a b. a || b) (are.none k (λ o p. all o (more o ∙ or-left (prev o) (nat_eq o t) p)))
        (ap (λ w. has_bit w k) is ∙ all t (more t ∙ or-right (prev t) (nat_eq t t) (eq-eqb t t refl)));
    bits = λ r. (one r).granted ∙ at r (nat_eq r router) refl;
    numbers = λ o c l a b. elim (here o a) [
      | inl p ↦
          let away : (nat_eq router router && has_bit bit c) ≡ false = ap (λ x. nat_eq router router && x) (apart o c p b) ∙ and-false (nat_eq router router) in
          let was = are.numbers o c l p b in (
            (one router).port c l ∙ ap (λ x. if x then t / vcs else number_in (digits_by (set_of n router) now.sends.port) c) away ∙ was.0,
            (one router).vc c l ∙ ap (λ x. if x then t % vcs else number_in (digits_by (set_of n router) now.sends.vc) c) away ∙ was.1,
          )
      | inr e ↦
          let it : (nat_eq router router && has_bit bit c) ≡ true = ap₂ (λ x y. x && y) (eq-eqb router router refl) (ap (λ w. has_bit w c) (is ∙ ap (first_of requests turn) (sym e)) ∙ b) in (
            (one router).port c l ∙ ap (λ x. if x then t / vcs else number_in (digits_by (set_of n router) now.sends.port) c) it ∙ ap (λ x. x / vcs) (sym e),
            (one router).vc c l ∙ ap (λ x. if x then t % vcs else number_in (digits_by (set_of n router) now.sends.vc) c) it ∙ ap (λ x. x % vcs) (sym e),
          )
    ];
    kept = λ r c l e.
        let both = neither (nat_eq r router) (has_bit granted c) (has_bit bit c) (ap (λ x. nat_eq r router && x) (sym (either_members granted bit c)) ∙ e) in
        let was = are.kept r c l both.0 in (
          (one r).port c l ∙ ap (λ x. if x then t / vcs else number_in (digits_by (set_of n r) now.sends.port) c) both.1 ∙ was.0,
          (one r).vc c l ∙ ap (λ x. if x then t % vcs else number_in (digits_by (set_of n r) now.sends.vc) c) both.1 ∙ was.1,
        );
  }
    where
      at : (r : ℕ) (b : Bool) → nat_eq r router ≡ b
          → (if nat_eq r router then bit_or (set_of n r now.granted) bit else set_of n r now.granted)
          ≡ (if nat_eq r router then bit_or (set_of n r old.granted) (bit_or granted bit) else set_of n r old.granted)
      at r true e =
          let was : set_of n r now.granted ≡ bit_or (set_of n r old.granted) granted = are.bits r ∙ ap (λ b. if b then bit_or (set_of n r old.granted) granted else set_of n r old.granted) e in
          ap (λ b. if b then bit_or (set_of n r now.granted) bit else set_of n r now.granted) e
          ∙ ap (λ x. bit_or x bit) was
          ∙ or-joined (set_of n r old.granted) granted bit
          ∙ sym (ap (λ b. if b then bit_or (set_of n r old.granted) (bit_or granted bit) else set_of n r old.granted) e)
      at r false e =
          ap (λ b. if b then bit_or (set_of n r now.granted) bit else set_of n r now.granted) e
          ∙ are.bits r
          ∙ ap (λ b. if b then bit_or (set_of n r old.granted) granted else set_of n r old.granted) e
          ∙ sym (ap (λ b. if b then bit_or (set_of n r old.granted) (bit_or granted bit) else set_of n r old.granted) e)

-- none yet
pub granted-none : (n : Numbering) (vcs router : ℕ) (outs : ℕ → Bool) (requests turn : ℕ → ℕ) (old : Grants) → ((o : ℕ) → outs o ≡ false) → AreGranted n vcs router outs requests turn 0 old old
granted-none n vcs router outs requests turn old empty = record {
  given = λ o k a b. absurd (true≢false (sym a ∙ empty o));
  none = λ k all. has_bit-zero k;
  bits = λ r. at r (nat_eq r router);
  numbers = λ o c l a b. absurd (true≢false (sym a ∙ empty o));
  kept = λ r c l e. (λ x. number_in (digits_by (set_of n r) old.sends.port) c, λ x. number_in (digits_by (set_of n r) old.sends.vc) c);
}
  where
    at : (r : ℕ) (b : Bool) → set_of n r old.granted ≡ (if b then bit_or (set_of n r old.granted) 0 else set_of n r old.granted)
    at r true = sym (or-zero (set_of n r old.granted))
    at r false = refl

-- the same output channels
pub granted-same : (n : Numbering) (vcs router : ℕ) (outs others : ℕ → Bool) (requests turn : ℕ → ℕ) (granted : ℕ) (old new : Grants) → ((o : ℕ) → others o ≡ outs o)
    → AreGranted n vcs router outs requests turn granted old new → AreGranted n vcs router others requests turn granted old new
granted-same n vcs router outs others requests turn granted old new same are = record {
  given = λ o k a b. are.given o k (sym (same o) ∙ a) b;
  none = λ k all. are.none k (λ o a. all o (same o ∙ a));
  bits = are.bits;
  numbers = λ o c l a b. are.numbers o c l (sym (same o) ∙ a) b;
  kept = are.kept;
}
