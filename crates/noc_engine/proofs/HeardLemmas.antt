-- The blocks of a tile hear what is told in a cycle.
use Rattle.std.proofs.Common.{◌≡◌, ◌≢◌, ℕ, ◌+◌, ◌-◌, ◌*◌, ◌/◌, ◌%◌, ◌<◌, ◌≤◌, Bool, true, false, Vec, Global, List, [], length, get_or, get_or-set_other, get_or-set_same, set as write, Option, Some, None, refl, ap, ap₂, sym, ◌∙◌, subst, arith, inl, inr}
use Rattle.std.specs.Prelude.{◌⊎◌, ◌&&◌, ◌||◌, nat_eq, nat_le, nat_lt, slice_get, slice_index, unwrap_or, if◌then◌else◌}
use Rattle.std.proofs.lemmas.Bool.{and_from, cases_eq, cases_lt, eq-eqb, false_from_ne_true, le-leb, le-ltb, leb-true, lt-ltb, ne_eqb}
use Rattle.std.proofs.lemmas.List.{length-set}
use Rattle.std.proofs.lemmas.Option.{get_or_from_slice_get, slice_get_within}
use Rattle.noc_topo.specs.Shape.{Grid, local_port, neighbour, nodes}
use Rattle.noc_sets.specs.Cycle.{Links as Left, Router, Turn}
use Rattle.noc_theory.specs.Network.{Setup, size}
use Rattle.noc_theory_bits.specs.Network.{AreArrivals, IsLastAfter, IsOwn, numbers_in}
use Rattle.noc_theory_bits.specs.Owners.{granted_to}
use Rattle.noc_theory_bits.specs.Sends.{Sends}
use Rattle.noc_columns.specs.declared.channels.Links.{Links}
use Rattle.noc_columns.specs.declared.ports.RouterPorts.{RouterPorts}
use Rattle.noc_counts.specs.declared.counts.Counts.{Counts}
use Rattle.noc_cycles.specs.Gathered.{left_by}
use Rattle.noc_cycles.specs.Held.{held_at}
use Rattle.noc_cycles.specs.Taking.{IsPunctual}
use Rattle.noc_cycles.specs.Told.{HasHeard, HaveRoom, heard, heard_over, notes_by, told_by}
use Rattle.noc_cycles.specs.Turning.{ShowsTurn}
use Rattle.noc_cycles.specs.declared.block.Block.{Block}
use Rattle.noc_cycles.specs.declared.notes.Note.{Note}
use Rattle.noc_theory_cycles.specs.Fits.{layout_of}
use Rattle.noc_engine.specs.Shows.{arrival_by, has_block, has_router}
use Rattle.noc_engine.specs.Tiles.{AreNotesOf, HasRunBlock, HasRunTile, IsTold, granted_in, left_at, left_of}
use Rattle.noc_engine.specs.declared.plan.Plan.{Plan}
use Rattle.noc_engine.specs.declared.tile.Tile.{Tile}
use Rattle.noc_engine.specs.declared.exchange.Told.{Told}
use Rattle.noc_engine.proofs.ListLemmas.{block-of, place-of, read, there}
use Rattle.noc_engine.proofs.WholeLemmas.{block-is}
use Rattle.noc_engine.proofs.TileLemmas.{same-routers}

and_false : (x : Bool) → (x && false) ≡ false
and_false true = refl
and_false false = refl

or_true : (x : Bool) → (x || true) ≡ true
or_true true = refl
or_true false = refl

or_false : (x : Bool) → (x || false) ≡ x
or_false true = refl
or_false false = refl

-- ---- one block more is heard
heard-twice : (own before : Bool) (x : Option ℕ) (old : ℕ) → unwrap_or (if own then x else None) (unwrap_or (if before then x else None) old) ≡ unwrap_or (if before || own then x else None) old
heard-twice true true None old = refl
heard-twice true true (Some y) old = refl
heard-twice true false x old = refl
heard-twice false true x old = refl
heard-twice false false x old = refl

module _ (net : Setup) (plan : Plan) (n : ℕ) (from more : ℕ → Bool) (k : ℕ) (adds : (b : ℕ) → more b ≡ (from b || nat_eq b k)) where
  heard-more : (r i old : ℕ) → unwrap_or (heard net.relation.grid net.relation.vcs (told_by k (granted_to net n)) r i) (unwrap_or (heard net.relation.grid net.relation.vcs (granted_in net n from) r i) old)
      ≡ unwrap_or (heard net.relation.grid net.relation.vcs (granted_in net n more) r i) old
  heard-more r i old = by (neighbour net.relation.grid r (i / net.relation.vcs))
    where
      by : (o : Option (ℕ × ℕ)) → unwrap_or (heard_over net.relation.vcs (told_by k (granted_to net n)) (i % net.relation.vcs) o) (unwrap_or (heard_over net.relation.vcs (granted_in net n from) (i % net.relation.vcs) o) old)
          ≡ unwrap_or (heard_over net.relation.vcs (granted_in net n more) (i % net.relation.vcs) o) old
      by None = refl
      by (Some (s, q)) =
          heard-twice (nat_eq (s / 64) k) (from (s / 64)) (granted_to net n s (q * net.relation.vcs + i % net.relation.vcs)) old
          ∙ sym (ap (λ b. unwrap_or (if b then granted_to net n s (q * net.relation.vcs + i % net.relation.vcs) else None) old) (adds (s / 64)))

  pub block-hears : (b : ℕ) (words : ℕ → Router) (turns : ℕ → Turn) (notes : List Note) (old new : Block) (counts : Counts) → AreNotesOf net n k notes → HasHeard notes b old new
      → HasRunBlock net plan n b from words turns old counts → HasRunBlock net plan n b more words turns new counts
  block-hears b words turns notes old new counts are hears ran = record {
    turn = ran.turn;
    shows = λ r l. subst (λ (x : Block). ShowsTurn plan.pattern (record (held_at plan.pattern.table.ports x r) { packet = (turns (64 * b + r)).marks.packet }) (turns (64 * b + r))) (sym hears.rest) (ran.shows r l);
    packets = λ r i l known u.
        hears.packets r i l
        ∙ ap₂ unwrap_or (are.are (64 * b + r) i known u) (ran.packets r i l known u)
        ∙ heard-more (64 * b + r) i (numbers_in net (layout_of plan.pattern) n (words (64 * b + r)) i);
    counted = ran.counted;
    last = ran.last;
    few = ran.few;
    punctual = subst (λ (x : Block). IsPunctual n plan.pattern.table.ports x) (sym hears.rest) (record { due = ran.punctual.due; injected = ran.punctual.injected });
  }

-- ---- the blocks of a tile below a number
module _ (is : Tile) where
  abbrev pub own_below : ℕ → ℕ → Bool
  own_below m b = nat_le is.first b && nat_lt b (is.first + m)

  pub none-below : (b : ℕ) → own_below 0 b ≡ false
  none-below b = by (cases_lt b is.first)
    where
      by : (b < is.first) ⊎ (is.first ≤ b) → own_below 0 b ≡ false
      by (inl low) = ap (λ x. x && nat_lt b (is.first + 0)) (false_from_ne_true (nat_le is.first b) (λ e. let l = leb-true is.first b e in omega (arith, l, low)))
      by (inr high) = ap (λ x. nat_le is.first b && x) (le-ltb b (is.first + 0) (omega (arith, high))) ∙ and_false (nat_le is.first b)

  pub one-below : (m b : ℕ) → own_below (m + 1) b ≡ (own_below m b || nat_eq b (is.first + m))
  one-below m b = by (cases_eq b (is.first + m)) (cases_lt b (is.first + m))
    where
      by : (b ≡ is.first + m) ⊎ (b ≢ is.first + m) → (b < is.first + m) ⊎ (is.first + m ≤ b) → own_below (m + 1) b ≡ (own_below m b || nat_eq b (is.first + m))
      by (inl same) c =
          and_from _ _ (le-leb is.first b (omega (arith, same))) (lt-ltb b (is.first + (m + 1)) (omega (arith, same)))
          ∙ sym (ap (λ x. own_below m b || x) (eq-eqb b (is.first + m) same) ∙ or_true (own_below m b))
      by (inr other) (inl low) =
          ap (λ x. nat_le is.first b && x) (lt-ltb b (is.first + (m + 1)) (omega (arith, low)) ∙ sym (lt-ltb b (is.first + m) low))
          ∙ sym (ap (λ x. own_below m b || x) (ne_eqb b (is.first + m) other) ∙ or_false (own_below m b))
      by (inr other) (inr high) =
          ap (λ x. nat_le is.first b && x) (le-ltb b (is.first + (m + 1)) (omega (arith, high, other)) ∙ sym (le-ltb b (is.first + m) high))
          ∙ sym (ap (λ x. own_below m b || x) (ne_eqb b (is.first + m) other) ∙ or_false (own_below m b))

-- from blocks that are the same
pub block-from : (net : Setup) (plan : Plan) (n b : ℕ) (from more : ℕ → Bool) (words : ℕ → Router) (turns : ℕ → Turn) (block : Block) (counts : Counts) → ((c : ℕ) → from c ≡ more c) → HasRunBlock net plan n b from words turns block counts → HasRunBlock net plan n b more words turns block counts
block-from net plan n b from more words turns block counts same ran = subst (λ (f : ℕ → Bool). HasRunBlock net plan n b f words turns block counts) (λ i c. same c i) ran

-- ---- all blocks of a tile have heard from these
module _ (net : Setup) (plan : Plan) (n : ℕ) (from : ℕ → Bool) (words : ℕ → Router) (turns : ℕ → Turn) (was is : Tile) (ran : HasRunTile net plan n from words turns was is) where
  abbrev all : RouterPorts
  all = plan.pattern.table.ports

  abbrev g : Grid
  g = net.relation.grid

  module _ (more : ℕ → Bool) (blocks : Vec Block Global) (left : Vec (Links (List ℕ)) Global) (long : length blocks.items ≡ length is.blocks.items) (left_long : length left.items ≡ length is.left.items)
      (blocks_ran : (b : ℕ) (block : Block) (counts : Counts) → slice_get blocks.items b ≡ Some block → slice_get is.counts.items b ≡ Some counts → HasRunBlock net plan n (is.first + b) more words turns block counts)
      (left_are : (s port : ℕ) → s < nodes g → (has_router is s || more (s / 64)) ≡ true → port < local_port g → Sends net n s port (left_of all left.items s) (granted_to net n s)) where
    abbrev later : Tile
    later = record is { blocks = blocks; left = left }

    pub has-heard : HasRunTile net plan n more words turns was later
    has-heard = record {
      good = ran.good;
      few = ran.few;
      before = ran.before;
      first_is = ran.first_is;
      blocks_are = long ∙ ran.blocks_are;
      cycle = ran.cycle;
      lists = record {
        within = let within = ran.lists.within in omega (arith, long, within);
        works_are = ran.lists.works_are ∙ sym long;
        counts_are = ran.lists.counts_are ∙ sym long;
        room = subst (λ k. HaveRoom k is.notes.items) (sym long) ran.lists.room;
        left_are = left_long ∙ ran.lists.left_are;
        arrivals_are = ran.lists.arrivals_are;
      };
      blocks = blocks_ran;
      notes = λ b l. ran.notes b (omega (arith, l, long));
      left = λ s port known own u. left_are s port known (ap (λ x. x || more (s / 64)) (sym (same-routers later is s refl long)) ∙ own) u;
      last = subst (λ k. IsLastAfter (λ s. IsOwn net (λ r. nat_le is.first (r / 64) && nat_lt (r / 64) (is.first + k)) s) n turns was.last is.last) (sym long) ran.last;
      arrivals = subst
          (λ k. AreArrivals (λ s. IsOwn net (λ r. nat_le is.first (r / 64) && nat_lt (r / 64) (is.first + k)) s) (size net) n turns (λ s. numbers_in net (layout_of plan.pattern) n (words s)) (λ p. arrival_by (slice_index was.arrivals.items p))
          (λ p. arrival_by (slice_index is.arrivals.items p)))
          (sym long) ran.arrivals;
    }

  -- ---- a block of another tile
  module _ (told : Told) (is_told : IsTold net plan n told) where
    abbrev left_then : List (Links (List ℕ))
    left_then = write is.left.items told.block told.left

    told-here : (b : ℕ) → b ≡ told.block → left_by left_then b ≡ told.left
    told-here b same = ap (left_by left_then) same ∙ get_or-set_same is.left.items told.block told.left (record { flits = []; tails = []; credits = [] }) (let low = is_told.block in let long = ran.lists.left_are in omega (arith, low, long))

    told-other : (b : ℕ) → b ≢ told.block → left_by left_then b ≡ left_by is.left.items b
    told-other b other = get_or-set_other is.left.items told.block b told.left (record { flits = []; tails = []; credits = [] }) other

    pub sends-told : (s port : ℕ) → s < nodes g → (has_router is s || (from (s / 64) || nat_eq (s / 64) told.block)) ≡ true → port < local_port g → Sends net n s port (left_of all left_then s) (granted_to net n s)
    sends-told s port known own u = by (cases_eq (s / 64) told.block)
      where
        by : (s / 64 ≡ told.block) ⊎ (s / 64 ≢ told.block) → Sends net n s port (left_of all left_then s) (granted_to net n s)
        by (inl same) =
            let place : 64 * told.block + s % 64 ≡ s = omega (arith, same) in
            subst (λ (w : Links (List ℕ)). Sends net n s port (left_at all w (s % 64)) (granted_to net n s)) (sym (told-here (s / 64) same))
            (subst (λ t. Sends net n t port (left_at all told.left (s % 64)) (granted_to net n t)) place (is_told.left (s % 64) port (omega arith) (omega (arith, place, known)) u))
        by (inr other) =
            subst (λ (w : Links (List ℕ)). Sends net n s port (left_at all w (s % 64)) (granted_to net n s)) (sym (told-other (s / 64) other))
            (ran.left s port known (sym (ap (λ x. has_router is s || x) (ap (λ x. from (s / 64) || x) (ne_eqb (s / 64) told.block other) ∙ or_false (from (s / 64)))) ∙ own) u)

    pub hears-told : (blocks : Vec Block Global) (left : Vec (Links (List ℕ)) Global) → length blocks.items ≡ length is.blocks.items → left.items ≡ left_then
        → ((b : ℕ) (old new : Block) → slice_get is.blocks.items b ≡ Some old → slice_get blocks.items b ≡ Some new → HasHeard told.notes.items (is.first + b) old new)
        → HasRunTile net plan n (λ b. from b || nat_eq b told.block) words turns was (record is { blocks = blocks; left = left })
    hears-told blocks left long left_is hears =
        has-heard (λ b. from b || nat_eq b told.block) blocks left long (ap length left_is ∙ length-set is.left.items told.block told.left)
        (λ b block counts at on.
        let old = there is.blocks.items b (let inside = slice_get_within blocks.items b block at in omega (arith, inside, long)) in
        block-hears net plan n from (λ c. from c || nat_eq c told.block) told.block (λ c. refl) (is.first + b) words turns told.notes.items old.0 block counts is_told.notes (hears b old.0 block old.1 at) (ran.blocks b old.0 counts old.1 on))
        (subst (λ (xs : List (Links (List ℕ))). (s port : ℕ) → s < nodes g → (has_router is s || (from (s / 64) || nat_eq (s / 64) told.block)) ≡ true → port < local_port g → Sends net n s port (left_of all xs s) (granted_to net n s)) (sym left_is) sends-told)

-- ---- its own blocks
pub hears-own : (net : Setup) (plan : Plan) (n : ℕ) (words : ℕ → Router) (turns : ℕ → Turn) (was is : Tile) → HasRunTile net plan n (λ b. false) words turns was is → (blocks : Vec Block Global) → length blocks.items ≡ length is.blocks.items
    → ((b : ℕ) (block : Block) (counts : Counts) → slice_get blocks.items b ≡ Some block → slice_get is.counts.items b ≡ Some counts → HasRunBlock net plan n (is.first + b) (has_block is) words turns block counts)
    → HasRunTile net plan n (has_block is) words turns was (record is { blocks = blocks })
hears-own net plan n words turns was is ran blocks long ran_all = has-heard net plan n (λ b. false) words turns was is ran (has_block is) blocks is.left long refl ran_all (λ s port known own u. ran.left s port known (or_false (has_router is s) ∙ twice (has_router is s) own) u)
  where
    twice : (x : Bool) → (x || x) ≡ true → x ≡ true
    twice true e = refl
    twice false e = e

-- ---- what a block of a tile tells
module _ (net : Setup) (plan : Plan) (n : ℕ) (from : ℕ → Bool) (words : ℕ → Router) (turns : ℕ → Turn) (was is : Tile) (ran : HasRunTile net plan n from words turns was is) (block : ℕ) (own : has_block is block ≡ true) where
  abbrev index : ℕ
  index = block - is.first

  pub index-within : (block < length is.left.items) × (index < length is.notes.items)
  index-within =
      let both = block-is is block own in
      let within = ran.lists.within in
      (omega (arith, both.1, within, ran.lists.left_are), omega (arith, both.0, both.1, ran.lists.room.many))

  place : is.first + index ≡ block
  place = let both = block-is is block own in omega (arith, both.0)

  pub notes-are : AreNotesOf net n block (notes_by is.notes.items index)
  notes-are = subst (λ b. AreNotesOf net n b (notes_by is.notes.items index)) place (ran.notes index (let both = block-is is block own in omega (arith, both.0, both.1)))

  pub is-told : (told : Told) (one : Links (List ℕ)) → told.block ≡ block → told.left ≡ one → one ≡ get_or is.left.items block one → told.notes.items ≡ notes_by is.notes.items index → IsTold net plan n told
  is-told told one block_is left_is at notes_is = record {
    block = let low = index-within.0 in let long = ran.lists.left_are in omega (arith, block_is, low, long);
    left = λ r port l known u.
        subst (λ b. Sends net n (64 * b + r) port (left_at plan.pattern.table.ports told.left r) (granted_to net n (64 * b + r))) (sym block_is)
        (subst (λ (w : Left). Sends net n (64 * block + r) port w (granted_to net n (64 * block + r))) (same r l)
        (ran.left (64 * block + r) port (subst (λ b. 64 * b + r < nodes net.relation.grid) block_is known) (ap (λ x. x || from ((64 * block + r) / 64)) (ap (has_block is) (block-of block r l) ∙ own)) u));
    notes = subst (λ b. AreNotesOf net n b told.notes.items) (sym block_is) (subst (AreNotesOf net n block) (sym notes_is) notes-are);
  }
    where
      left-here : left_by is.left.items block ≡ told.left
      left-here = get_or_from_slice_get is.left.items block one (record { flits = []; tails = []; credits = [] }) (read is.left.items block one index-within.0 at) ∙ sym left_is

      same : (r : ℕ) → r < 64 → left_of plan.pattern.table.ports is.left.items (64 * block + r) ≡ left_at plan.pattern.table.ports told.left r
      same r l = ap₂ (left_at plan.pattern.table.ports) (ap (left_by is.left.items) (block-of block r l) ∙ left-here) (place-of block r l)
