-- The pointers of the ports of a router, past what is picked.
use Rattle.std.proofs.Common.{◌≡◌, ◌⊎◌, ℕ, ◌+◌, ◌-◌, ◌*◌, ◌%◌, ◌^◌, ◌<◌, ◌≤◌, Bool, true, false, List, Some, arith, ap, ap₂, sym, ◌∙◌, refl, inl, inr, bit_and, bit_or, mod-eq_of_lt}
use Rattle.std.specs.Prelude.{◌&&◌, ◌||◌, not, nat_eq, nat_le, if◌then◌else◌}
use Rattle.std.proofs.lemmas.Bool.{and_parts, cases_eq, cases_lt, eq-eqb, le-leb, lt-leb, ne_eqb, true≢false}
use Rattle.std.proofs.Math.Nat.{mod_self}
use Rattle.std.proofs.Math.Pow.{pow_mono}
use Rattle.noc_packet.specs.Set.{has_bit, IsLeast}
use Rattle.noc_packet.proofs.SetLemmas.{both_members, either_members, zero_from_none}
use Rattle.noc_sets.specs.Sets.{less, lowest}
use Rattle.noc_sets.specs.Turns.{ArePast, ShowsPointer, first_bit, in_turn}
use Rattle.noc_sets.specs.Unions.{some_below}
use Rattle.noc_sets.proofs.MemberLemmas.{and_fits, less_fits, less_members, lowest_members, or_fits}
use Rattle.noc_columns.specs.Picks.{IsPassedBy, channels_of, port_of}
use Rattle.noc_columns.specs.Words.{set_of, word}
use Rattle.noc_columns.specs.declared.ports.RouterPorts.{RouterPorts}
use Rattle.noc_columns.proofs.PickLemmas.{find-first, none-each, some-each}
use Rattle.noc_columns.proofs.RouterLemmas.{below-fits, part-is, port-members}

-- what is before the one that is first in turn
pub first-before : (turn d : ℕ) → has_bit (lowest turn) d ≡ true → (c : ℕ) → some_below c (has_bit turn) ≡ nat_le (d + 1) c
first-before turn d e c = at (find-first d (has_bit turn)) (cases_lt d c)
  where
    here : has_bit turn d ≡ true
    here = (and_parts (has_bit turn d) (not (has_bit (turn - 1) d)) (sym (less_members turn (turn - 1) d) ∙ e)).0

    none-upto : (k : ℕ) → k ≤ d → some_below d (has_bit turn) ≡ false → some_below k (has_bit turn) ≡ false
    none-upto k l none = elim (find-first k (has_bit turn)) [
      | inl free ↦ free
      | inr found ↦ absurd (true≢false (sym found.2 ∙ none-each d (has_bit turn) none found.0 (let f = found.1 in omega (arith, f, l))))
    ]

    at : (some_below d (has_bit turn) ≡ false) ⊎ ((t : ℕ) × (t < d) × (has_bit turn t ≡ true) × (some_below t (has_bit turn) ≡ false)) → (d < c) ⊎ (c ≤ d) → some_below c (has_bit turn) ≡ nat_le (d + 1) c
    at (inl none) (inl l) = some-each c (has_bit turn) d l here ∙ sym (le-leb (d + 1) c (omega (arith, l)))
    at (inl none) (inr m) = none-upto c m none ∙ sym (lt-leb (d + 1) c (omega (arith, m)))
    at (inr found) o =
        let f = found.1 in
        let least : IsLeast (has_bit turn) (Some found.0) = (found.2, λ k b. none-each found.0 (has_bit turn) found.3 k b) in
        absurd (true≢false (sym e ∙ lowest_members turn found.0 d least ∙ ne_eqb d found.0 (λ same. absurd (omega (arith, f, same)))))

-- one is picked where there is one
pub first-some : (n requests mask : ℕ) → ((k : ℕ) → has_bit requests k ≡ true → k < n) → nat_eq requests 0 ≡ false → (t : ℕ) × (t < n) × (has_bit (first_bit requests mask) t ≡ true)
first-some n requests mask below some = at (find-first n (has_bit (in_turn requests mask)))
  where
    among : (k : ℕ) → has_bit (in_turn requests mask) k ≡ true → has_bit requests k ≡ true
    among k e = by (nat_eq (bit_and requests mask) 0) refl
      where
        by : (b : Bool) → nat_eq (bit_and requests mask) 0 ≡ b → has_bit requests k ≡ true
        by true none = ap (λ b. has_bit (if b then requests else bit_and requests mask) k) (sym none) ∙ e
        by false both = (and_parts (has_bit requests k) (has_bit mask k) (sym (both_members requests mask k) ∙ ap (λ b. has_bit (if b then requests else bit_and requests mask) k) (sym both) ∙ e)).0

    zero-turn : in_turn requests mask ≡ 0 → requests ≡ 0
    zero-turn e = by (cases_eq (bit_and requests mask) 0)
      where
        by : (bit_and requests mask ≡ 0) ⊎ (bit_and requests mask ≡ 0 → ⊥) → requests ≡ 0
        by (inl none) = sym (ap (λ b. if b then requests else bit_and requests mask) (eq-eqb (bit_and requests mask) 0 none)) ∙ e
        by (inr both) = absurd (both (sym (ap (λ b. if b then requests else bit_and requests mask) (ne_eqb (bit_and requests mask) 0 both)) ∙ e))

    at : (some_below n (has_bit (in_turn requests mask)) ≡ false) ⊎ ((t : ℕ) × (t < n) × (has_bit (in_turn requests mask) t ≡ true) × (some_below t (has_bit (in_turn requests mask)) ≡ false)) → (t : ℕ) × (t < n) × (has_bit (first_bit requests mask) t ≡ true)
    at (inl none) = absurd (true≢false (sym (eq-eqb requests 0 (zero-turn (zero_from_none (in_turn requests mask) (λ k. free k (has_bit (in_turn requests mask) k) refl)))) ∙ some))
      where
        free : (k : ℕ) (b : Bool) → has_bit (in_turn requests mask) k ≡ b → has_bit (in_turn requests mask) k ≡ false
        free k false e = e
        free k true e = absurd (true≢false (sym e ∙ none-each n (has_bit (in_turn requests mask)) none k (below k (among k e))))
    at (inr found) = (found.0, found.1, lowest_members (in_turn requests mask) found.0 found.0 (found.2, λ k b. none-each found.0 (has_bit (in_turn requests mask)) found.3 k b) ∙ eq-eqb found.0 found.0 refl)

-- what a port's pointer becomes
after-is : (ahead past sends k : ℕ) (s : Bool) → has_bit sends k ≡ s → has_bit (bit_or (less ahead sends) (bit_and past sends)) k ≡ (if s then has_bit past k else has_bit ahead k)
after-is ahead past sends k s e =
    either_members (less ahead sends) (bit_and past sends) k
    ∙ ap₂ (λ a b. a || b) (less_members ahead sends k ∙ ap (λ b. has_bit ahead k && not b) e) (both_members past sends k ∙ ap (λ b. has_bit past k && b) e)
    ∙ at (has_bit ahead k) (has_bit past k) s
  where
    at : (a b x : Bool) → (a && not x || b && x) ≡ (if x then b else a)
    at true true true = refl
    at true true false = refl
    at true false true = refl
    at true false false = refl
    at false true true = refl
    at false true false = refl
    at false false true = refl
    at false false false = refl

module _ (ports : RouterPorts) (r : ℕ) (ready ahead picked past sends : List ℕ) (sending : ℕ → Bool) (some : 0 < ports.links.vcs) (few : (ports.links.width + 1) * ports.links.vcs ≤ 64)
    (each : (p : ℕ) → p < ports.links.width + 1 → IsPassedBy (port_of ports p) r ready ahead picked past sends (sending p)) where
  abbrev set : List ℕ → ℕ
  set words = set_of (channels_of ports) r words

  told : (p c : ℕ) → p < ports.links.width + 1 → c < ports.links.vcs → has_bit (set sends) (p * ports.links.vcs + c) ≡ sending p
  told p c l m = part-is ports r sends p c l m ∙ (each p l).told c m

  after : (p c : ℕ) (s : Bool) → p < ports.links.width + 1 → c < ports.links.vcs → sending p ≡ s → has_bit (bit_or (less (set ahead) (set sends)) (bit_and (set past) (set sends))) (p * ports.links.vcs + c) ≡ (if s then has_bit (set past) (p * ports.links.vcs + c) else has_bit (set ahead) (p * ports.links.vcs + c))
  after p c s l m e = after-is (set ahead) (set past) (set sends) (p * ports.links.vcs + c) s (told p c l m ∙ e)

  moved-is : (p c : ℕ) → p < ports.links.width + 1 → c < ports.links.vcs → has_bit (bit_and (set picked) (set sends)) (p * ports.links.vcs + c) ≡ (has_bit (first_bit (set_of (port_of ports p) r ready) (set_of (port_of ports p) r ahead)) c && sending p)
  moved-is p c l m = both_members (set picked) (set sends) (p * ports.links.vcs + c) ∙ ap₂ (λ a b. a && b) (part-is ports r picked p c l m ∙ ap (λ s. has_bit s c) (each p l).picks.first) (told p c l m)

  pub are-past : ArePast ports.links.vcs (ports.links.width + 1) (set ahead) (bit_and (set picked) (set sends)) (bit_or (less (set ahead) (set sends)) (bit_and (set past) (set sends)))
  are-past = record {
    moves = λ p d l m is.
        let both = and_parts _ (sending p) (sym (moved-is p d l m) ∙ is d m ∙ eq-eqb d d refl) in
        let pointer : (c : ℕ) → c < ports.links.vcs → has_bit (bit_or (less (set ahead) (set sends)) (bit_and (set past) (set sends))) (p * ports.links.vcs + c) ≡ nat_le (d + 1) c =
        λ c k. after p c true l k both.1 ∙ part-is ports r past p c l k ∙ (each p l).picks.after c k ∙ first-before (in_turn (set_of (port_of ports p) r ready) (set_of (port_of ports p) r ahead)) d both.0 c in
        goes p d m pointer (cases_lt (d + 1) ports.links.vcs);
    stays = λ p pointer l none shows. kept p pointer l shows (λ c k. after p c false l k (idle p l none (sending p) refl));
    fits = or_fits (less (set ahead) (set sends)) (bit_and (set past) (set sends)) (less_fits (set ahead) (set sends) (small ahead)) (and_fits (set past) (set sends) (small past));
  }
    where
      small : (words : List ℕ) → set words < 2 ^ 64
      small words = let low = below-fits ((ports.links.width + 1) * ports.links.vcs) (λ c. has_bit (word ((channels_of ports).index c) words) r) in let mono : 2 ^ ((ports.links.width + 1) * ports.links.vcs) ≤ 2 ^ 64 = pow_mono few in omega (arith, low, mono)

      goes : (p d : ℕ) → d < ports.links.vcs → ((c : ℕ) → c < ports.links.vcs → has_bit (bit_or (less (set ahead) (set sends)) (bit_and (set past) (set sends))) (p * ports.links.vcs + c) ≡ nat_le (d + 1) c) → (d + 1 < ports.links.vcs) ⊎ (ports.links.vcs ≤ d + 1)
          → ShowsPointer ports.links.vcs (bit_or (less (set ahead) (set sends)) (bit_and (set past) (set sends))) p ((d + 1) % ports.links.vcs)
      goes p d m pointer (inl below) = inl (λ c k. pointer c k ∙ ap (λ x. nat_le x c) (sym (mod-eq_of_lt below)))
      goes p d m pointer (inr last) = let e : d + 1 ≡ ports.links.vcs = omega (arith, m, last) in inr (ap (λ x. x % ports.links.vcs) e ∙ mod_self ports.links.vcs, λ c k. pointer c k ∙ lt-leb (d + 1) c (omega (arith, k, last)))

      idle : (p : ℕ) → p < ports.links.width + 1 → ((c : ℕ) → c < ports.links.vcs → has_bit (bit_and (set picked) (set sends)) (p * ports.links.vcs + c) ≡ false) → (b : Bool) → sending p ≡ b → sending p ≡ false
      idle p l none false e = e
      idle p l none true e =
          let found = first-some ports.links.vcs (set_of (port_of ports p) r ready) (set_of (port_of ports p) r ahead) (port-members ports r ready p) ((each p l).some e) in
          absurd (true≢false (sym (ap₂ (λ a b. a && b) found.2 e) ∙ sym (moved-is p found.0 l found.1) ∙ none found.0 found.1))

      kept : (p pointer : ℕ) → p < ports.links.width + 1 → ShowsPointer ports.links.vcs (set ahead) p pointer → ((c : ℕ) → c < ports.links.vcs → has_bit (bit_or (less (set ahead) (set sends)) (bit_and (set past) (set sends))) (p * ports.links.vcs + c) ≡ has_bit (set ahead) (p * ports.links.vcs + c))
          → ShowsPointer ports.links.vcs (bit_or (less (set ahead) (set sends)) (bit_and (set past) (set sends))) p pointer
      kept p pointer l (inl from) same = inl (λ c k. same c k ∙ from c k)
      kept p pointer l (inr none) same = inr (none.0, λ c k. same c k ∙ none.1 c k)
