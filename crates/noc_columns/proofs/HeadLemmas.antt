-- Heads are routed channel by channel, and in each channel router by router.
use Rattle.std.proofs.Common.{◌≡◌, ◌≢◌, ℕ, ◌^◌, Bool, true, false, refl, ap, ap₂, sym, ◌∙◌, inl, inr, bit_or}
use Rattle.std.specs.Prelude.{◌&&◌, ◌||◌, nat_eq, if◌then◌else◌}
use Rattle.std.proofs.lemmas.Bool.{cases_eq, eq-eqb, ne_eqb, true≢false}
use Rattle.noc_packet.specs.Set.{has_bit}
use Rattle.noc_packet.proofs.SetLemmas.{either_members}
use Rattle.noc_sets.specs.Column.{RouterMarks}
use Rattle.noc_sets.specs.Routed.{HasRouted}
use Rattle.noc_sets.proofs.MemberLemmas.{and-false, or-false, or-left, or-right, or-true, power-members, same-word}
use Rattle.noc_columns.specs.Heads.{Heading, headed, headed_marks}

-- what routing changes of a router, part by part
abbrev pub the-heading : ℕ → ℕ → (ℕ → ℕ) → Heading
the-heading waiting wanted set = record { waiting = waiting; wanted = wanted; set = set }

pub same-heading : {waiting waiting2 wanted wanted2 : ℕ} {set set2 : ℕ → ℕ} → waiting ≡ waiting2 → wanted ≡ wanted2 → set ≡ set2 → the-heading waiting wanted set ≡ the-heading waiting2 wanted2 set2
same-heading a b d = λ x. the-heading (a x) (b x) (d x)

-- the heads in the channels of a test wait, each for its set
pub record IsHeaded (test : ℕ → Bool) (set : ℕ → ℕ) (h x : Heading) : Type 0 where
  pub each : (k : ℕ) → test k ≡ true → x.set k ≡ set k
  pub kept : (k : ℕ) → test k ≡ false → x.set k ≡ h.set k
  pub wants : (k o : ℕ) → test k ≡ true → has_bit (set k) o ≡ true → has_bit x.wanted o ≡ true
  pub still : (o : ℕ) → has_bit h.wanted o ≡ true → has_bit x.wanted o ≡ true
  pub waiting : (k : ℕ) → has_bit x.waiting k ≡ (has_bit h.waiting k || test k)

module _ (test : ℕ → Bool) (set : ℕ → ℕ) (h : Heading) where
  -- in none
  pub headed-none : ((k : ℕ) → test k ≡ false) → IsHeaded test set h h
  headed-none none = record {
    each = λ k e. absurd (true≢false (sym e ∙ none k));
    kept = λ k e. refl;
    wants = λ k o e b. absurd (true≢false (sym e ∙ none k));
    still = λ o e. e;
    waiting = λ k. sym (ap (λ b. has_bit h.waiting k || b) (none k) ∙ or-false (has_bit h.waiting k));
  }

  -- the same channels by another test
  pub headed-like : (more : ℕ → Bool) (x : Heading) → ((k : ℕ) → more k ≡ test k) → IsHeaded test set h x → IsHeaded more set h x
  headed-like more x is are = record {
    each = λ k e. are.each k (sym (is k) ∙ e);
    kept = λ k e. are.kept k (sym (is k) ∙ e);
    wants = λ k o e b. are.wants k o (sym (is k) ∙ e) b;
    still = are.still;
    waiting = λ k. are.waiting k ∙ ap (λ b. has_bit h.waiting k || b) (sym (is k));
  }

  -- and the one in channel n
  headed-more : (more : ℕ → Bool) (n : ℕ) (y : Heading) → ((k : ℕ) → more k ≡ (test k || (nat_eq k n && true))) → IsHeaded test set h y → IsHeaded more set h (headed n (set n) y)
  headed-more more n y is are = record {
    each = λ k e. elim (cases_eq k n) [
      | inl same ↦ ap (λ b. if b then set n else y.set k) (eq-eqb k n same) ∙ ap set (sym same)
      | inr other ↦ ap (λ b. if b then set n else y.set k) (ne_eqb k n other) ∙ are.each k (sym (same-at k other) ∙ e)
    ];
    kept = λ k e. elim (cases_eq k n) [
      | inl same ↦ absurd (true≢false (sym (here k same) ∙ e))
      | inr other ↦ ap (λ b. if b then set n else y.set k) (ne_eqb k n other) ∙ are.kept k (sym (same-at k other) ∙ e)
    ];
    wants = λ k o e b. either_members y.wanted (set n) o ∙ elim (cases_eq k n) [
      | inl same ↦ or-right (has_bit y.wanted o) (has_bit (set n) o) (ap (λ j. has_bit (set j) o) (sym same) ∙ b)
      | inr other ↦ or-left (has_bit y.wanted o) (has_bit (set n) o) (are.wants k o (sym (same-at k other) ∙ e) b)
    ];
    still = λ o e. either_members y.wanted (set n) o ∙ or-left (has_bit y.wanted o) (has_bit (set n) o) (are.still o e);
    waiting = λ k. either_members y.waiting (2 ^ n) k ∙ ap₂ (λ a b. a || b) (are.waiting k) (power-members n k) ∙ elim (cases_eq k n) [
      | inl same ↦ ap (λ b. (has_bit h.waiting k || test k) || b) (eq-eqb k n same) ∙ or-true (has_bit h.waiting k || test k) ∙ sym (ap (λ b. has_bit h.waiting k || b) (here k same) ∙ or-true (has_bit h.waiting k))
      | inr other ↦ ap (λ b. (has_bit h.waiting k || test k) || b) (ne_eqb k n other) ∙ or-false (has_bit h.waiting k || test k) ∙ ap (λ b. has_bit h.waiting k || b) (sym (same-at k other))
    ];
  }
    where
      same-at : (k : ℕ) → k ≢ n → more k ≡ test k
      same-at k other = is k ∙ ap (λ b. test k || (b && true)) (ne_eqb k n other) ∙ or-false (test k)

      here : (k : ℕ) → k ≡ n → more k ≡ true
      here k same = is k ∙ ap (λ b. test k || (b && true)) (eq-eqb k n same) ∙ or-true (test k)

  -- .. if it has one
  pub headed-next : (more : ℕ → Bool) (n : ℕ) (b : Bool) (x : Heading) → ((k : ℕ) → more k ≡ (test k || (nat_eq k n && b))) → IsHeaded test set h x
      → IsHeaded more set h (if b then headed n (set n) x else x)
  headed-next more n true x is are = headed-more more n x is are
  headed-next more n false x is are = headed-like more x (λ k. is k ∙ ap (λ b. test k || b) (and-false (nat_eq k n)) ∙ or-false (test k)) are

-- ---- the heads are a set of channels of a router
module _ (heads : ℕ) (sets : ℕ → ℕ → ℕ) (packet : ℕ → ℕ) (h x : Heading) (are : IsHeaded (has_bit heads) (λ k. sets k (packet k)) h x) where
  pub heads-routed : (m : RouterMarks) → HasRouted heads sets (headed_marks h packet m) (headed_marks x packet m) h.wanted x.wanted
  heads-routed m = record {
    each = are.each;
    wants = λ k o e b. are.wants k o e (ap (λ s. has_bit s o) (sym (are.each k e)) ∙ b);
    still = are.still;
    kept = are.kept;
    rest = refl;
  }

  pub heads-wait : x.waiting ≡ bit_or h.waiting heads
  heads-wait = same-word _ _ (λ k. are.waiting k ∙ sym (either_members h.waiting heads k))
