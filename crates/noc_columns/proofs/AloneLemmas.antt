-- One channel alone waits in a router.
use Rattle.std.proofs.Common.{◌≡◌, ◌≢◌, ◌⊎◌, ℕ, ◌+◌, ◌/◌, ◌%◌, ◌^◌, ◌<◌, Bool, true, false, Some, refl, arith, ap, sym, ◌∙◌, subst, inl, inr, bit_and}
use Rattle.std.specs.Prelude.{◌&&◌, not, nat_eq, nat_lt, if◌then◌else◌}
use Rattle.std.specs.Int.Bits.{or_zero_l}
use Rattle.std.specs.Int.Count.{trailing_of_zero}
use Rattle.std.proofs.lemmas.Bool.{cases_eq, eq-eqb, eqb-true, false≢true, ne_eqb, true≢false}
use Rattle.std.proofs.lemmas.Nat.{pow_pos}
use Rattle.noc_packet.specs.Set.{IsLeast, has_bit}
use Rattle.noc_packet.proofs.SetLemmas.{has_bit-zero, same_set, zero_from_none}
use Rattle.noc_sets.specs.Grants.{AreAsks}
use Rattle.noc_sets.specs.Sets.{least, less, lowest}
use Rattle.noc_sets.specs.Turns.{first_bit}
use Rattle.noc_sets.proofs.MemberLemmas.{least_below, least_is, power-members}
use Rattle.noc_sets.proofs.TurnLemmas.{first-among}
use Rattle.noc_columns.specs.Grants.{AreGranted, ArePointersPast, IsNumbered, first_of}
use Rattle.noc_columns.specs.Words.{Numbering}
use Rattle.noc_columns.specs.declared.given.Grants.{Grants}
use Rattle.noc_columns.proofs.AskLemmas.{asking-all, asking-opened, asking-stepped, asks-requests}
use Rattle.noc_columns.proofs.GrantLemmas.{first-is, granted-next, granted-none, least-one-is}
use Rattle.noc_columns.proofs.LoopLemmas.{left-members, was-left}
use Rattle.noc_columns.proofs.TableLemmas.{less-none, less-self}

-- a set with one member
one-least : (t : ℕ) → IsLeast (has_bit (2 ^ t)) (Some t)
one-least t = (power-members t t ∙ eq-eqb t t refl, λ k l. power-members t k ∙ ne_eqb k t (λ e. absurd (omega (arith, e, l))))

-- none is left but the least member
pub alone-is : (set t : ℕ) → IsLeast (has_bit set) (Some t) → less set (lowest set) ≡ 0 → set ≡ 2 ^ t
alone-is set t is none = same_set set (2 ^ t) (λ k. at k (cases_eq k t))
  where
    at : (k : ℕ) → (k ≡ t) ⊎ (k ≢ t) → has_bit set k ≡ has_bit (2 ^ t) k
    at k (inl same) = ap (has_bit set) same ∙ is.0 ∙ sym (power-members t k ∙ eq-eqb k t same)
    at k (inr other) = was-left set t k is other (ap (λ w. has_bit w k) none ∙ has_bit-zero k) ∙ sym (power-members t k ∙ ne_eqb k t other)

-- the member of a set with one
pub alone-least : (set t : ℕ) → (k : ℕ) × (set ≡ 2 ^ k) → IsLeast (has_bit set) (Some t) → set ≡ 2 ^ t
alone-least set t one is = one.1 ∙ ap (λ x. 2 ^ x) (sym (least-one-is set one.0 t one.1 is))

-- a set without its members
-- ---- it asks
-- by output channel who asks for it, where the channel finds these free
abbrev pub alone-requests : ℕ → ℕ → ℕ → ℕ
alone-requests t free o = if nat_eq o (least free) then (if nat_eq free 0 then 0 else 2 ^ t) else 0

pub asks-alone : (waiting idle t free : ℕ) (set : ℕ → ℕ) → waiting ≡ 2 ^ t → free ≡ bit_and (set t) idle → free < 2 ^ 64
    → AreAsks (has_bit waiting) idle set (alone-requests t free) (lowest free) (if nat_eq free 0 then 0 else 2 ^ t) (set t)
asks-alone waiting idle t free set one is fits =
    let first : IsLeast (has_bit waiting) (Some t) = subst (λ w. IsLeast (has_bit w) (Some t)) (sym one) (one-least t) in
    asks-requests (has_bit waiting) idle set noted (alone-requests t free) (lowest free) asks (set t)
    (asking-all waiting idle set noted (lowest free) asks (set t) (less waiting (lowest waiting)) (zero_from_none _ (λ k. left-members waiting t k first ∙ ap (λ b. b && not (nat_eq k t)) (ap (λ w. has_bit w k) one ∙ power-members t k) ∙ neither (nat_eq k t)))
    (others (cases_eq free 0))
    (asking-stepped waiting idle waiting (less waiting (lowest waiting)) t set (λ o. 0) noted 0 0 (lowest free) (set t) (set t) free (2 ^ t) (least free) (lowest free)
    first refl is fits refl (λ some. least_is free some fits) past
    (ap (λ b. if b then 2 ^ t else 0) (eq-eqb (least free) (least free) refl) ∙ sym (or_zero_l (2 ^ t)))
    (λ o other. ap (λ b. if b then 2 ^ t else 0) (ne_eqb o (least free) other))
    refl (sym (or_zero_l (lowest free))) (sym (or_zero_l (set t))) refl
    (asking-opened waiting idle set (λ o. 0) 0 0 refl refl (λ o l. refl) refl)))
    (λ o l. same o l (cases_eq o (least free)))
  where
    asks : ℕ
    asks = if nat_eq free 0 then 0 else 2 ^ t

    -- where the code's loop would note that it asks
    noted : ℕ → ℕ
    noted o = if nat_eq o (least free) then 2 ^ t else 0

    past : free ≡ 0 → least free ≡ 64
    past z = ap least z ∙ trailing_of_zero 64

    neither : (b : Bool) → (b && not b) ≡ false
    neither true = refl
    neither false = refl

    others : (free ≡ 0) ⊎ (free ≢ 0) → asks ≡ less waiting (noted 64)
    others (inl z) =
        ap (λ b. if b then 0 else 2 ^ t) (eq-eqb free 0 z)
        ∙ sym (ap (less waiting) (ap (λ b. if b then 2 ^ t else 0) (eq-eqb 64 (least free) (sym (past z)))) ∙ ap (λ w. less w (2 ^ t)) one ∙ less-self (2 ^ t))
    others (inr some) =
        let below : least free < 64 = least_below free (omega (arith, some)) fits in
        ap (λ b. if b then 0 else 2 ^ t) (ne_eqb free 0 some)
        ∙ sym (ap (less waiting) (ap (λ b. if b then 2 ^ t else 0) (ne_eqb 64 (least free) (omega (arith, below)))) ∙ less-none waiting 0 refl ∙ one)

    same : (o : ℕ) → o < 64 → (o ≡ least free) ⊎ (o ≢ least free) → alone-requests t free o ≡ noted o
    same o l (inl e) =
        let some : free ≢ 0 = λ z. absurd (omega (arith, l, e, past z)) in
        ap (λ b. if b then asks else 0) (eq-eqb o (least free) e) ∙ ap (λ b. if b then 0 else 2 ^ t) (ne_eqb free 0 some) ∙ sym (ap (λ b. if b then 2 ^ t else 0) (eq-eqb o (least free) e))
    same o l (inr other) = ap (λ b. if b then asks else 0) (ne_eqb o (least free) other) ∙ sym (ap (λ b. if b then 2 ^ t else 0) (ne_eqb o (least free) other))

-- ---- it is granted what it asks for
first-alone : (t mask : ℕ) → first_bit (2 ^ t) mask ≡ 2 ^ t
first-alone t mask =
    let found = first-is (t + 1) (2 ^ t) mask (first_bit (2 ^ t) mask) (λ k e. (let same = eqb-true k t (sym (power-members t k) ∙ e) in omega (arith, same))) (pow_pos t) refl in
    let member : has_bit (first_bit (2 ^ t) mask) found.0 ≡ true = ap (λ w. has_bit w found.0) found.2 ∙ (one-least found.0).0 in
    found.2 ∙ ap (λ x. 2 ^ x) (eqb-true found.0 t (sym (power-members t found.0) ∙ first-among (2 ^ t) mask found.0 member))

module _ (requests turn : ℕ → ℕ) (t out : ℕ) (asks : requests out ≡ 2 ^ t) where
  its : first_of requests turn out ≡ 2 ^ t
  its = ap (λ x. first_bit x (turn out)) asks ∙ first-alone t (turn out)

  pub granted-alone : (n : Numbering) (vcs router : ℕ) (old new : Grants) → ((r : ℕ) → IsNumbered n r router (2 ^ t) (out / vcs) (out % vcs) old new)
      → AreGranted n vcs router (has_bit (2 ^ out)) requests turn (2 ^ t) old new
  granted-alone n vcs router old new one =
      subst (λ x. AreGranted n vcs router (has_bit (2 ^ out)) requests turn x old new) (or_zero_l (2 ^ t))
      (granted-next n vcs router (λ o. false) (has_bit (2 ^ out)) requests turn 0 out (2 ^ t) old old new (λ k. power-members out k) (sym its) (λ o k p b. absurd (false≢true p)) one
      (granted-none n vcs router (λ o. false) requests turn old (λ o. refl)))

  pub past-alone : (turn' : ℕ → ℕ) → ((k i : ℕ) → 2 ^ t ≡ 2 ^ k → i < 64 → has_bit (turn' out) i ≡ nat_lt k i) → ((o : ℕ) → o ≢ out → turn' o ≡ turn o)
      → ArePointersPast (has_bit (2 ^ out)) requests turn turn'
  past-alone turn' here others = record {
    past = λ o k i a b l.
        let same = eqb-true o out (sym (power-members out o) ∙ a) in
        let it = eqb-true k t (sym (power-members t k) ∙ sym (ap (λ w. has_bit w k) (ap (first_of requests turn) same ∙ its)) ∙ b) in
        ap (λ x. has_bit (turn' x) i) same ∙ here k i (ap (λ x. 2 ^ x) (sym it)) l;
    others = λ o e. others o (λ same. true≢false (sym (power-members out o ∙ eq-eqb o out same) ∙ e));
  }
