-- A source injects: a flit of the packet that has begun, or the head of the next.
use Rattle.std.proofs.Common.{◌≡◌, ◌≢◌, ℕ, Bool, true, false, List, ap, ap₂, sym, ◌∙◌, refl, inl, inr, bit_or}
use Rattle.std.specs.Prelude.{◌⊎◌, ◌&&◌, ◌||◌, not, nat_eq, if◌then◌else◌}
use Rattle.std.proofs.lemmas.Bool.{cases_Bool}
use Rattle.noc_packet.proofs.SetLemmas.{same_set}
use Rattle.noc_sets.specs.Passes.{injecting_after}
use Rattle.noc_sets.proofs.MemberLemmas.{and-false, and-true, or-false, or-true}
use Rattle.noc_columns.proofs.SourceLemmas.{none-or}
use Rattle.noc_cycles.proofs.Common.{cases_eq, eq-eqb, ne_eqb, true≢false, has_bit, either_members, has_bit-zero, zero_from_none, less, up_by, Source, Start, start_in, less_members, or-zero, sent_if}
use Rattle.noc_cycles.proofs.ShiftLemmas.{up-or, up-some, up-zero}

-- where no flit of a packet that has begun is injected, the next packet is as it was
pub begun-last : (starts : List Start) (begins went : Bool) → (begins ≡ true → went ≡ false) → (old mid : Source) → mid ≡ sent_if starts went old
    → (begins && nat_eq (start_in starts mid.queue).length 1) ≡ (begins && nat_eq (start_in starts old.queue).length 1)
begun-last starts false went apart old mid is = refl
begun-last starts true went apart old mid is = ap (λ (s : Source). nat_eq (start_in starts s.queue).length 1) (is ∙ ap (λ b. sent_if starts b old) (apart refl))

pub less-none : (a : ℕ) → less a 0 ≡ a
less-none a = same_set _ _ (λ k. less_members a 0 k ∙ ap (λ b. has_bit a k && not b) (has_bit-zero k) ∙ and-true (has_bit a k))

-- all members are taken away
less-all : (a b : ℕ) → ((k : ℕ) → has_bit a k ≡ true → has_bit b k ≡ true) → less a b ≡ 0
less-all a b part = zero_from_none (less a b) (λ k. less_members a b k ∙ at k (cases_Bool (has_bit a k)))
  where
    at : (k : ℕ) → (has_bit a k ≡ true) ⊎ (has_bit a k ≡ false) → (has_bit a k && not (has_bit b k)) ≡ false
    at k (inl e) = ap₂ (λ x y. x && not y) e (part k e)
    at k (inr e) = ap (λ x. x && not (has_bit b k)) e

-- `injecting` is being injected, of which a flit goes to `went`, or a packet begins in `begun`
module _ (n injecting went begun left length ready : ℕ) (last : Bool) (apart : (went ≡ 0) ⊎ (begun ≡ 0)) (free : begun ≢ 0 → injecting ≡ 0) (all : went ≢ 0 → (k : ℕ) → has_bit injecting k ≡ true → has_bit went k ≡ true)
    (last_is : last ≡ ((not (nat_eq went 0) && nat_eq left 1) || (not (nat_eq begun 0) && nat_eq length 1))) (ready_is : ready ≡ (if nat_eq begun 0 then left else length)) where
  -- the last flit is injected where one is, and one is left
  last-none : begun ≡ 0 → last ≡ (not (nat_eq (bit_or went begun) 0) && nat_eq ready 1)
  last-none none =
      last_is
      ∙ ap (λ b. (not (nat_eq went 0) && nat_eq left 1) || (not b && nat_eq length 1)) (eq-eqb begun 0 none)
      ∙ or-false (not (nat_eq went 0) && nat_eq left 1)
      ∙ sym (ap₂ (λ w x. not (nat_eq w 0) && nat_eq x 1) (ap (bit_or went) none ∙ or-zero went) (ready_is ∙ ap (λ b. if b then left else length) (eq-eqb begun 0 none)))

  last-some : begun ≢ 0 → went ≡ 0 → last ≡ (not (nat_eq (bit_or went begun) 0) && nat_eq ready 1)
  last-some some none =
      last_is
      ∙ ap (λ b. (not b && nat_eq left 1) || (not (nat_eq begun 0) && nat_eq length 1)) (eq-eqb went 0 none)
      ∙ sym (ap₂ (λ w x. not (nat_eq w 0) && nat_eq x 1) (ap (λ w. bit_or w begun) none ∙ none-or begun) (ready_is ∙ ap (λ b. if b then left else length) (ne_eqb begun 0 some)))

  pub last-is : last ≡ (not (nat_eq (bit_or went begun) 0) && nat_eq ready 1)
  last-is = at apart (cases_eq begun 0)
    where
      at : (went ≡ 0) ⊎ (begun ≡ 0) → (begun ≡ 0) ⊎ (begun ≢ 0) → last ≡ (not (nat_eq (bit_or went begun) 0) && nat_eq ready 1)
      at a (inl none) = last-none none
      at (inl e) (inr some) = last-some some e
      at (inr e) (inr some) = absurd (some e)

  -- what is injected then goes on to be injected, but for the last flit
  gone : last ≡ true → less (bit_or injecting begun) (bit_or went begun) ≡ 0
  gone e = less-all (bit_or injecting begun) (bit_or went begun) (λ k m. either_members went begun k ∙ at k (cases_Bool (has_bit begun k)) (sym (either_members injecting begun k) ∙ m))
    where
      some-went : (k : ℕ) → begun ≡ 0 → went ≢ 0
      some-went k none zero = true≢false
          (sym e ∙ last-is ∙ ap (λ w. not (nat_eq w 0) && nat_eq ready 1) (ap₂ bit_or zero none ∙ or-zero 0))

      began : (k : ℕ) → has_bit injecting k ≡ true → begun ≡ 0
      began k m = elim (cases_eq begun 0) [
        | inl none ↦ none
        | inr some ↦ absurd (true≢false (sym m ∙ ap (λ w. has_bit w k) (free some) ∙ has_bit-zero k))
      ]

      at : (k : ℕ) → (has_bit begun k ≡ true) ⊎ (has_bit begun k ≡ false) → (has_bit injecting k || has_bit begun k) ≡ true → (has_bit went k || has_bit begun k) ≡ true
      at k (inl b) m = ap (λ x. has_bit went k || x) b ∙ or-true (has_bit went k)
      at k (inr b) m =
          let here : has_bit injecting k ≡ true = sym (or-false (has_bit injecting k)) ∙ ap (λ x. has_bit injecting k || x) (sym b) ∙ m in
          ap₂ (λ x y. x || y) (all (some-went k (began k here)) k here) b

  pub tails-sent : up_by (if last then bit_or went begun else 0) n ≡ (if nat_eq ready 1 then up_by (bit_or went begun) n else 0)
  tails-sent = ap (λ b. up_by (if b then bit_or went begun else 0) n) last-is ∙ at (nat_eq ready 1) (cases_eq (bit_or went begun) 0)
    where
      at : (b : Bool) → (bit_or went begun ≡ 0) ⊎ (bit_or went begun ≢ 0) → up_by (if not (nat_eq (bit_or went begun) 0) && b then bit_or went begun else 0) n ≡ (if b then up_by (bit_or went begun) n else 0)
      at true (inl none) = ap (λ x. up_by (if not x && true then bit_or went begun else 0) n) (eq-eqb (bit_or went begun) 0 none) ∙ ap (λ w. up_by w n) (sym none)
      at true (inr some) = ap (λ x. up_by (if not x && true then bit_or went begun else 0) n) (ne_eqb (bit_or went begun) 0 some)
      at false o = ap (λ x. up_by (if x then bit_or went begun else 0) n) (and-false (not (nat_eq (bit_or went begun) 0))) ∙ up-zero n

  pub injecting-sent : up_by (less (bit_or injecting begun) (if last then bit_or went begun else 0)) n ≡ injecting_after (up_by (bit_or went begun) n) ready (bit_or (up_by injecting n) (up_by begun n))
  injecting-sent = at last refl ∙ ap (λ b. if b then 0 else bit_or (up_by injecting n) (up_by begun n)) (last-is ∙ ap (λ x. not x && nat_eq ready 1) (sym (up-some (bit_or went begun) n)))
    where
      at : (b : Bool) → last ≡ b → up_by (less (bit_or injecting begun) (if last then bit_or went begun else 0)) n ≡ (if last then 0 else bit_or (up_by injecting n) (up_by begun n))
      at true e =
          ap (λ b. up_by (less (bit_or injecting begun) (if b then bit_or went begun else 0)) n) e
          ∙ ap (λ w. up_by w n) (gone e) ∙ up-zero n
          ∙ ap (λ b. if b then 0 else bit_or (up_by injecting n) (up_by begun n)) (sym e)
      at false e =
          ap (λ b. up_by (less (bit_or injecting begun) (if b then bit_or went begun else 0)) n) e
          ∙ ap (λ w. up_by w n) (less-none (bit_or injecting begun)) ∙ sym (up-or injecting begun n)
          ∙ ap (λ b. if b then 0 else bit_or (up_by injecting n) (up_by begun n)) (sym e)

  -- where something goes on to be injected, it was not the last flit
  pub still-injecting : less (bit_or injecting begun) (if last then bit_or went begun else 0) ≢ 0 → (last ≡ false) × ((injecting ≢ 0) ⊎ (begun ≢ 0))
  still-injecting some = (
    elim (cases_Bool last) [
      | inl e ↦ absurd (some (ap (λ b. less (bit_or injecting begun) (if b then bit_or went begun else 0)) e ∙ gone e))
      | inr e ↦ e
    ],
    elim (cases_eq begun 0) [
      | inr began ↦ inr began
      | inl none ↦ inl (λ zero. some (ap (λ w. less w (if last then bit_or went begun else 0)) (ap₂ bit_or zero none ∙ or-zero 0) ∙ less-all 0 (if last then bit_or went begun else 0) (λ k m. absurd (true≢false (sym m ∙ has_bit-zero k)))))
    ],
  )
