-- What the passes make of all blocks, one block after the other.
use Rattle.std.proofs.Common.{◌≡◌, ◌≢◌, ℕ, zero, suc, ◌+◌, ◌*◌, ◌%◌, ◌^◌, ◌<◌, ◌≤◌, Bool, true, List, Some, length, get_or, ap, ap₂, sym, ◌∙◌, subst, arith, inl, inr}
use Rattle.std.specs.Prelude.{◌⊎◌, ◌||◌, Option, slice_get}
use Rattle.std.proofs.lemmas.Bool.{cases_eq, cases_lt}
use Rattle.std.proofs.lemmas.Option.{get_or_from_slice_get, slice_get-get_or}
use Rattle.noc_packet.specs.Set.{has_bit}
use Rattle.noc_sets.specs.Counts.{ByVerdict, with_verdicts}
use Rattle.noc_sets.specs.Unions.{some_below}
use Rattle.noc_sets.proofs.UnionLemmas.{or-assoc, or-none}
use Rattle.noc_columns.specs.Heads.{packet_in}
use Rattle.noc_columns.specs.Picks.{channels_of}
use Rattle.noc_columns.specs.Words.{IsWithin, Numbering, set_of}
use Rattle.noc_columns.specs.declared.ports.RouterPorts.{RouterPorts}
use Rattle.noc_counts.specs.Counts.{HasHad, WaitsOn, counted_in, delays_of, last_at}
use Rattle.noc_counts.specs.Told.{told_at}
use Rattle.noc_counts.specs.declared.counts.Counts.{Counts}
use Rattle.noc_cycles.specs.Concluding.{HaveArrived}
use Rattle.noc_cycles.specs.declared.block.Block.{Block}
use Rattle.noc_cycles.specs.declared.block.Work.{Work}
use Rattle.noc_cycles.specs.declared.pattern.Pattern.{Pattern}
use Rattle.noc_cycles.proofs.ConcludingLemmas.{all-within}
use Rattle.noc_engine.specs.Passes.{HasCounted, TellLeaving, arrived_of, arrived_or, packets_of, packets_or}
use Rattle.noc_engine.proofs.ListLemmas.{block-of, place-of}

-- ---- some of one block, or of those before
pub some-sum : (m n : ℕ) (test : ℕ → Bool) → some_below (m + n) test ≡ (some_below m test || some_below n (λ r. test (m + r)))
some-sum m zero test = (let e : m + 0 ≡ m = omega arith in ap (λ k. some_below k test) e) ∙ sym (or-none (some_below m test))
some-sum m (suc n) test =
    (let e : m + suc n ≡ suc (m + n) = omega arith in ap (λ k. some_below k test) e)
    ∙ ap (λ b. b || test (m + n)) (some-sum m n test)
    ∙ or-assoc (some_below m test) (some_below n (λ r. test (m + r))) (test (m + n))

-- ---- packets arrive
-- those of a block more
pub arrived-next : (cycle n : ℕ) (channels : ℕ → ℕ) (packet : ℕ → ℕ → ℕ) (here : ℕ → ℕ) (held : ℕ → ℕ → ℕ) (old now new : ℕ → ℕ)
    → ((r : ℕ) → r < 64 → channels (64 * n + r) ≡ here r) → ((r k : ℕ) → r < 64 → packet (64 * n + r) k ≡ held r k)
    → HaveArrived cycle (64 * n) channels packet old now → HaveArrived cycle 64 here held now new → HaveArrived cycle (64 * (n + 1)) channels packet old new
arrived-next cycle n channels packet here held old now new same-channels same-packets before more = record {
  some = λ s k l h. some s k h (cases_lt s (64 * n)) l;
  others = λ p none.
      more.others p (λ r k l h e. none (64 * n + r) k (omega (arith, l)) (ap (λ c. has_bit c k) (same-channels r l) ∙ h) (same-packets r k l ∙ e))
      ∙ before.others p (λ s k l h. none s k (omega (arith, l)) h);
}
  where
    stays : (p : ℕ) → now p ≡ cycle → (new p ≡ cycle) ⊎ (new p ≢ cycle) → new p ≡ cycle
    stays p is (inl same) = same
    stays p is (inr other) = more.others p (λ r k l h same. other (ap new (sym same) ∙ more.some r k l h)) ∙ is

    some : (s k : ℕ) → has_bit (channels s) k ≡ true → (s < 64 * n) ⊎ (64 * n ≤ s) → s < 64 * (n + 1) → new (packet s k) ≡ cycle
    some s k h (inl l) m = stays (packet s k) (before.some s k l h) (cases_eq (new (packet s k)) cycle)
    some s k h (inr u) m =
        let r : ℕ = s % 64 in
        let low : r < 64 = omega arith in
        let e : s ≡ 64 * n + r = omega (arith, u, m) in
        ap (λ t. new (packet t k)) e
        ∙ ap new (same-packets r k low)
        ∙ more.some r k low (ap (λ c. has_bit c k) (sym (same-channels r low)) ∙ ap (λ t. has_bit (channels t) k) (sym e) ∙ h)

-- what is held and arrives in a block
pub packets-at : (blocks : List Block) (b r k : ℕ) (d : Block) → r < 64 → b < length blocks → packets_of blocks (64 * b + r) k ≡ packet_in (get_or blocks b d).packets r k
packets-at blocks b r k d l m = ap₂ (λ (o : Option Block) q. packets_or o q k) (ap (slice_get blocks) (block-of b r l) ∙ slice_get-get_or blocks b d m) (place-of b r l)

pub arrived-at : (ports : RouterPorts) (works : List Work) (b r : ℕ) (d : Work) → r < 64 → b < length works → arrived_of ports works (64 * b + r) ≡ set_of (channels_of ports) r (get_or works b d).arrived
arrived-at ports works b r d l m = ap₂ (λ (o : Option Work) q. arrived_or ports o q) (ap (slice_get works) (block-of b r l) ∙ slice_get-get_or works b d m) (place-of b r l)

pub may-arrive : (ports : RouterPorts) (blocks : List Block) (works : List Work) (n count : ℕ) (d : Block) (e : Work) → n < length blocks → length works ≡ length blocks
    → ((s k : ℕ) → s < 64 * length blocks → has_bit (arrived_of ports works s) k ≡ true → packets_of blocks s k < count)
    → (r k : ℕ) → r < 64 → has_bit (set_of (channels_of ports) r (get_or works n e).arrived) k ≡ true → packet_in (get_or blocks n d).packets r k < count
may-arrive ports blocks works n count d e inside long may r k l h =
    subst (λ p. p < count) (packets-at blocks n r k d l inside)
    (may (64 * n + r) k (omega (arith, inside, l)) (ap (λ c. has_bit c k) (arrived-at ports works n r e l (omega (arith, inside, long))) ∙ h))

pub none-leaves : (ports : RouterPorts) (works : List Work) (n : ℕ) (e : Work) → n < length works → TellLeaving ports works → (get_or works n e).leaving ≡ 0 → (r : ℕ) → set_of (channels_of ports) r (get_or works n e).arrived ≡ 0
none-leaves ports works n e inside tells = tells n (get_or works n e) (slice_get-get_or works n e inside)

-- ---- a block is counted
pub counted-here : (pattern : Pattern) (works : List Work) (counts : List Counts) (n : ℕ) (x : Counts) (block : Block) (e : Work) (f : Counts) → n < length counts
    → ((m : Numbering) (r i before after : ℕ) (c : ByVerdict) → IsWithin (4 * pattern.frame.groups) m → i < m.size → counted_in (get_or counts n f) + 1 < 2 ^ 32 → WaitsOn (told_at m block (get_or works n e) r) i before after
    → HasHad m (get_or counts n f) r i before c → HasHad m x r i after (with_verdicts (told_at m block (get_or works n e) r) i c))
    → ((m : Numbering) (r : ℕ) → IsWithin (4 * pattern.frame.groups) m → counted_in (get_or counts n f) + 1 < 2 ^ 32 → last_at m x r ≡ delays_of (told_at m block (get_or works n e) r))
    → counted_in x ≡ (counted_in (get_or counts n f) + 1) % 2 ^ 32
    → (work : Work) → slice_get works n ≡ Some work → HasCounted pattern.table.ports block work (get_or counts n x) x
counted-here pattern works counts n x block e f inside each last cycles work on =
    let ports = pattern.table.ports in
    subst (λ (w : Work). HasCounted ports block w (get_or counts n x) x) (get_or_from_slice_get works n work e on)
    (subst (λ (c : Counts). HasCounted ports block (get_or works n e) c x) (get_or_from_slice_get counts n (get_or counts n x) f (slice_get-get_or counts n x inside))
    (record {
      counts = λ r i before after had l few waits is. each (channels_of ports) r i before after had (all-within pattern) l few waits is;
      last = λ r few. last (channels_of ports) r (all-within pattern) few;
      cycles = cycles;
    }))
