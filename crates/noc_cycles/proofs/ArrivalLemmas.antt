-- Packets arrive channel by channel, and in each channel router by router.
use Rattle.std.proofs.Common.{◌≡◌, ◌≢◌, ℕ, ◌<◌, Bool, true, false, List, Some, length, ap, ap₂, refl, sym, ◌∙◌, inl, inr, set, slice_index}
use Rattle.std.specs.Prelude.{◌⊎◌, ◌&&◌, ◌||◌, nat_eq, if◌then◌else◌}
use Rattle.noc_packet.specs.Set.{IsLeast}
use Rattle.noc_sets.proofs.MemberLemmas.{or-cases, or-right}
use Rattle.noc_columns.proofs.LoopLemmas.{left-part, was-left}
use Rattle.noc_columns.proofs.MarkLemmas.{entry-put}
use Rattle.noc_cycles.proofs.Common.{and_parts, cases_eq, eq-eqb, eqb-true, ne_eqb, true≢false, has_bit, has_bit-zero, less, lowest, some_below, Numbering, set_of, find-first, none-each}
use Rattle.noc_cycles.specs.Concluding.{HaveArrived}
use Rattle.noc_cycles.proofs.UsedLemmas.{or-left}

-- ---- in one channel: the packets of the routers of a set that are not left have arrived
pub record HaveArrivedBut (cycle set rest : ℕ) (packet : ℕ → ℕ) (old now : ℕ → ℕ) : Type 0 where
  pub part : (r : ℕ) → has_bit rest r ≡ true → has_bit set r ≡ true
  pub some : (r : ℕ) → has_bit set r ≡ true → has_bit rest r ≡ false → now (packet r) ≡ cycle
  pub others : (p : ℕ) → ((r : ℕ) → r < 64 → has_bit set r ≡ true → packet r ≢ p) → now p ≡ old p

pub arrivals-next : (cycle members rest left t : ℕ) (packet : ℕ → ℕ) (old : ℕ → ℕ) (table : List ℕ) → IsLeast (has_bit rest) (Some t) → t < 64 → left ≡ less rest (lowest rest) → packet t < length table
    → HaveArrivedBut cycle members rest packet old (slice_index table) → HaveArrivedBut cycle members left packet old (slice_index (set table (packet t) cycle))
arrivals-next cycle members rest left t packet old table is few left_is within are = record {
  part = λ r e. left-part members rest t is are.part r (ap (λ n. has_bit n r) (sym left_is) ∙ e);
  some = λ r a b. some r a (ap (λ n. has_bit n r) (sym left_is) ∙ b) (cases_eq (packet r) (packet t)) (cases_eq r t);
  others = λ p none. written p ∙ ap (λ b. if b then cycle else slice_index table p) (ne_eqb p (packet t) (λ same. none t few (are.part t is.0) (sym same))) ∙ are.others p none;
}
  where
    written : (p : ℕ) → slice_index (set table (packet t) cycle) p ≡ (if nat_eq p (packet t) then cycle else slice_index table p)
    written p = entry-put table (packet t) cycle p within

    some : (r : ℕ) → has_bit members r ≡ true → has_bit (less rest (lowest rest)) r ≡ false → (packet r ≡ packet t) ⊎ (packet r ≢ packet t) → (r ≡ t) ⊎ (r ≢ t) → slice_index (set table (packet t) cycle) (packet r) ≡ cycle
    some r a b (inl same) one = written (packet r) ∙ ap (λ x. if x then cycle else slice_index table (packet r)) (eq-eqb (packet r) (packet t) same)
    some r a b (inr other) (inl one) = absurd (other (ap packet one))
    some r a b (inr other) (inr apart) = written (packet r) ∙ ap (λ x. if x then cycle else slice_index table (packet r)) (ne_eqb (packet r) (packet t) other) ∙ are.some r a (was-left rest t r is apart b)

-- ---- in the channels that have been come to
pub record HaveArrivedIn (cycle : ℕ) (done : ℕ → ℕ → Bool) (packet : ℕ → ℕ → ℕ) (old now : ℕ → ℕ) : Type 0 where
  pub some : (r k : ℕ) → r < 64 → done r k ≡ true → now (packet r k) ≡ cycle
  pub others : (p : ℕ) → ((r k : ℕ) → r < 64 → done r k ≡ true → packet r k ≢ p) → now p ≡ old p

pub arrived-none : (cycle : ℕ) (done : ℕ → ℕ → Bool) (packet : ℕ → ℕ → ℕ) (old : ℕ → ℕ) → ((r k : ℕ) → done r k ≡ false) → HaveArrivedIn cycle done packet old old
arrived-none cycle done packet old none = record { some = λ r k few e. absurd (true≢false (sym e ∙ none r k)); others = λ p other. refl }

-- channel n is come to, which these routers have
pub arrived-next : (cycle n routers : ℕ) (done more : ℕ → ℕ → Bool) (packet : ℕ → ℕ → ℕ) (old now new : ℕ → ℕ) → ((r k : ℕ) → more r k ≡ (done r k || (nat_eq k n && has_bit routers r)))
    → HaveArrivedIn cycle done packet old now
    → ((r : ℕ) → r < 64 → has_bit routers r ≡ true → new (packet r n) ≡ cycle) → ((p : ℕ) → ((r : ℕ) → r < 64 → has_bit routers r ≡ true → packet r n ≢ p) → new p ≡ now p)
    → HaveArrivedIn cycle more packet old new
arrived-next cycle n routers done more packet old now new is are here others = record {
  some = λ r k few e. elim (or-cases (done r k) (nat_eq k n && has_bit routers r) (sym (is r k) ∙ e)) [
    | inl before ↦ at r k few before (find-first 64 (test (packet r k)))
    | inr it ↦
        let both = and_parts (nat_eq k n) (has_bit routers r) it in
        ap (λ j. new (packet r j)) (eqb-true k n both.0) ∙ here r few both.1
  ];
  others = λ p none.
      others p (λ r few e. none r n few (is r n ∙ or-right (done r n) (nat_eq n n && has_bit routers r) (ap₂ (λ a b. a && b) (eq-eqb n n refl) e)))
      ∙ are.others p (λ r k few e. none r k few (is r k ∙ or-left (done r k) (nat_eq k n && has_bit routers r) e));
}
  where
    test : ℕ → ℕ → Bool
    test p j = has_bit routers j && nat_eq (packet j n) p

    at : (r k : ℕ) → r < 64 → done r k ≡ true
        → (some_below 64 (test (packet r k)) ≡ false) ⊎ ((t : ℕ) × (t < 64) × (test (packet r k) t ≡ true) × (some_below t (test (packet r k)) ≡ false)) → new (packet r k) ≡ cycle
    at r k few e (inl none) =
        others (packet r k) (λ j m h same. true≢false (sym (ap₂ (λ a b. a && b) h (eq-eqb (packet j n) (packet r k) same)) ∙ none-each 64 (test (packet r k)) none j m))
        ∙ are.some r k few e
    at r k few e (inr found) =
        let both = and_parts (has_bit routers found.0) (nat_eq (packet found.0 n) (packet r k)) found.2 in
        ap new (sym (eqb-true (packet found.0 n) (packet r k) both.1)) ∙ here found.0 found.1 both.0

-- .. which are all
pub arrived-all : (cycle : ℕ) (done : ℕ → ℕ → Bool) (n : Numbering) (words : List ℕ) (packet : ℕ → ℕ → ℕ) (old now : ℕ → ℕ) → ((r k : ℕ) → done r k ≡ has_bit (set_of n r words) k) → HaveArrivedIn cycle done packet old now
    → HaveArrived cycle 64 (λ r. set_of n r words) packet old now
arrived-all cycle done n words packet old now all are = record {
  some = λ r k few e. are.some r k few (all r k ∙ e);
  others = λ p none. are.others p (λ r k few e. none r k few (sym (all r k) ∙ e));
}

-- ---- where no router has a channel
pub none-arrive : (cycle : ℕ) (n : Numbering) (words : List ℕ) (packet : ℕ → ℕ → ℕ) (now : ℕ → ℕ) → ((r : ℕ) → set_of n r words ≡ 0) → HaveArrived cycle 64 (λ r. set_of n r words) packet now now
none-arrive cycle n words packet now none = record {
  some = λ r k few e. absurd (true≢false (sym e ∙ ap (λ s. has_bit s k) (none r) ∙ has_bit-zero k));
  others = λ p other. refl;
}
