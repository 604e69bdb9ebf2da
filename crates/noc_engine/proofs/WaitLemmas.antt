-- Cycles that are like the last one, in which nothing happened: what a network of blocks shows after
-- as many of them.
use Rattle.std.proofs.Common.{◌≡◌, ◌≢◌, ℕ, suc, ◌+◌, ◌-◌, ◌*◌, ◌/◌, ◌%◌, ◌<◌, ◌≤◌, Vec, Global, length, Option, Some, None, refl, ap, ap₂, sym, ◌∙◌, subst, add-one, add-zero, arith, inl, inr}
use Rattle.std.specs.Prelude.{◌⊎◌, nat_lt, slice_get, sum, if◌then◌else◌}
use Rattle.std.proofs.lemmas.Bool.{cases_lt, le-ltb, lt-ltb}
use Rattle.std.proofs.lemmas.Nat.{mod_below}
use Rattle.std.proofs.lemmas.Option.{slice_get_within}
use Rattle.noc_topo.specs.Lists.{one_if}
use Rattle.noc_topo.specs.Shape.{nodes}
use Rattle.noc_packet.specs.Set.{has_bit}
use Rattle.noc_packet.proofs.SetLemmas.{has_bit-zero}
use Rattle.noc_sets.specs.Counts.{ByVerdict, RunOn, nine_counts, no_counts}
use Rattle.noc_sets.specs.Cycle.{Router}
use Rattle.noc_sets.specs.Source.{Source}
use Rattle.noc_theory.specs.Lockstep.{view_at, view_in}
use Rattle.noc_theory.specs.Network.{Setup, size}
use Rattle.noc_theory_bits.specs.Network.{HasWaited, MayWait, ShowsNetwork}
use Rattle.noc_theory_bits.proofs.bits.NetworkLemmas.{network-own}
use Rattle.noc_theory_bits.proofs.stuck.WaitLemmas.{network-waits}
use Rattle.noc_columns.specs.Picks.{channels_of}
use Rattle.noc_columns.specs.declared.ports.RouterPorts.{RouterPorts}
use Rattle.noc_counts.specs.Counts.{Delays, HasDelayed, HasHad, last_at, with_delays, word_counts}
use Rattle.noc_counts.specs.declared.counts.Counts.{Counts}
use Rattle.noc_cycles.specs.Held.{held_at, links_at}
use Rattle.noc_cycles.specs.declared.block.Block.{Block}
use Rattle.noc_cycles.specs.declared.block.Work.{Work}
use Rattle.noc_cycles.specs.declared.pattern.Pattern.{Pattern}
use Rattle.noc_theory_cycles.specs.Blank.{channels_count}
use Rattle.noc_theory_cycles.specs.Fits.{bits_of}
use Rattle.noc_theory_cycles.proofs.CountedLemmas.{counted-blank, counted-held}
use Rattle.noc_engine.specs.Runs.{HasJustRun, HasRepeated, IsNextDue, ShowsRun}
use Rattle.noc_engine.specs.Shows.{ShowsAt, ShowsBlock, ShowsTile, has_router, words_in}
use Rattle.noc_engine.specs.declared.columns.Columns.{Columns}
use Rattle.noc_engine.specs.declared.plan.Plan.{Plan}
use Rattle.noc_engine.specs.declared.tile.Tile.{Tile}
use Rattle.noc_engine.proofs.ListLemmas.{block-of, place-of, there}
use Rattle.noc_engine.proofs.ReaderLemmas.{sizes}
use Rattle.noc_engine.proofs.WholeLemmas.{in-block, network-shown, next-shown, number-is}

-- which channels waited in the last cycle, if anything was counted
abbrev last_or : RouterPorts → Option Counts → ℕ → Delays
last_or ports None r = record { no_flit = 0; no_idle_channel = 0; no_credit = 0 }
last_or ports (Some c) r = last_at (channels_of ports) c r

-- what was counted of a channel that does not wait
abbrev counted_or : RouterPorts → Option Counts → ℕ → ℕ → ByVerdict
counted_or ports None r i = no_counts
counted_or ports (Some c) r i = let counts = word_counts c ((channels_of ports).index i) r in record counts { granted = counts.routed }

-- no channel was counted more often than there were cycles
module _ (net : Setup) (n : ℕ) (words : ℕ → Router) (all : Columns) (shows : ShowsAt net n words all) where
  counted-few : (r i : ℕ) → r < nodes net.relation.grid → i < size net → sum (nine_counts ((words r).counts i)) ≤ n
  unfolding view_at view_in
  counted-few r i l u = (((network-shown net n words all shows).routers r l).counts i u).1

-- ---- the cycle is repeated
module _ (net : Setup) (n most : ℕ) (is : Columns) (just : HasJustRun net n most is) where
  abbrev pattern : Pattern
  pattern = is.plan.pattern

  abbrev ports : RouterPorts
  ports = is.plan.pattern.table.ports

  pub shows-is : ShowsAt net (n + 1) just.next is
  shows-is = next-shown net n just.words just.next just.was is just.may.shows just.stepped

  number : (b : ℕ) → is.tile.first + b ≡ b
  number = number-is net (n + 1) just.next is shows-is

  block-now : (b : ℕ) (block : Block) (work : Work) (c : Counts) → slice_get is.tile.blocks.items b ≡ Some block → slice_get is.tile.works.items b ≡ Some work → slice_get is.tile.counts.items b ≡ Some c
      → ShowsBlock net is.plan (n + 1) b just.next block work.came c
  block-now b block work c at doing on = subst (λ k. ShowsBlock net is.plan (n + 1) k just.next block work.came c) (number b) (shows-is.tile.blocks b block work c at doing on)

  -- what was counted in it
  counted-here : (b r i : ℕ) (c : Counts) → slice_get is.tile.counts.items b ≡ Some c → r < 64 → i < (ports.links.width + 1) * ports.links.vcs
      → HasDelayed (last_at (channels_of ports) c r) i ((just.words (64 * (is.tile.first + b) + r)).counts i) ((just.next (64 * (is.tile.first + b) + r)).counts i)
  counted-here = subst
      (λ (p : Plan). (b r i : ℕ) (c : Counts) → slice_get is.tile.counts.items b ≡ Some c → r < 64 → i < (p.pattern.table.ports.links.width + 1) * p.pattern.table.ports.links.vcs
      → HasDelayed (last_at (channels_of p.pattern.table.ports) c r) i ((just.words (64 * (is.tile.first + b) + r)).counts i) ((just.next (64 * (is.tile.first + b) + r)).counts i))
      (sym just.stepped.plan_stays) just.stepped.tile.counted

  counted-last : (b r i : ℕ) (c : Counts) → slice_get is.tile.counts.items b ≡ Some c → r < 64 → i < (ports.links.width + 1) * ports.links.vcs
      → HasDelayed (last_at (channels_of ports) c r) i ((just.words (64 * b + r)).counts i) ((just.next (64 * b + r)).counts i)
  counted-last b r i c at l u = subst (λ k. HasDelayed (last_at (channels_of ports) c r) i ((just.words (64 * k + r)).counts i) ((just.next (64 * k + r)).counts i)) (number b) (counted-here b r i c at l u)

  -- before and after it
  before : ShowsNetwork (bits_of pattern) net n (words_in just.words just.was.tile)
  before = subst (λ (p : Plan). ShowsNetwork (bits_of p.pattern) net n (words_in just.words just.was.tile)) (sym just.stepped.plan_stays) (network-shown net n just.words just.was just.may.shows)

  after : ShowsNetwork (bits_of pattern) net (suc n) (words_in just.next is.tile)
  after = subst (λ m. ShowsNetwork (bits_of pattern) net m (words_in just.next is.tile)) (add-one n) (network-shown net (n + 1) just.next is shows-is)

  -- where no cycle follows
  pub none-follow : ShowsRun net (is.tile.cycle + 0) is
  none-follow = (just.next, subst (λ m. ShowsAt net m just.next is) (let cycle = shows-is.tile.cycle in omega (arith, cycle)) shows-is)

  -- where so many follow
  module _ (times next : ℕ) (few : times ≤ most) (quiet : is.tile.last ≢ is.tile.cycle) (is_next : IsNextDue is.tile.blocks.items next) (until : times ≤ next - is.tile.cycle)
      (counts : Vec Counts Global) (long : length counts.items ≡ length is.tile.counts.items)
      (repeats : (b : ℕ) (old new : Counts) → slice_get is.tile.counts.items b ≡ Some old → slice_get counts.items b ≡ Some new → HasRepeated pattern times old new) where
    abbrev pub waited : Tile
    waited = record is.tile { counts = counts; cycle = is.tile.cycle + times }

    abbrev pub later : Columns
    later = record is { tile = waited }

    -- what was counted of a router by then
    abbrev delayed_or : Option Counts → ℕ → ℕ → ℕ → ByVerdict
    delayed_or old r s i = with_delays times (last_or ports old r) i ((just.next s).counts i)

    abbrev then_counted : ℕ → ℕ → ByVerdict
    then_counted s i = if nat_lt s (nodes net.relation.grid) then delayed_or (slice_get is.tile.counts.items (s / 64)) (s % 64) s i else counted_or ports (slice_get counts.items (s / 64)) (s % 64) i

    abbrev words_then : ℕ → Router
    words_then s = record (just.next s) { counts = then_counted s }

    -- .. of one of the network, and of one that it does not have
    then-known : (s i : ℕ) → s < nodes net.relation.grid → then_counted s i ≡ delayed_or (slice_get is.tile.counts.items (s / 64)) (s % 64) s i
    then-known s i l =
        ap (λ b. if b then delayed_or (slice_get is.tile.counts.items (s / 64)) (s % 64) s i else counted_or ports (slice_get counts.items (s / 64)) (s % 64) i) (lt-ltb s (nodes net.relation.grid) l)

    then-absent : (s i : ℕ) → nodes net.relation.grid ≤ s → then_counted s i ≡ counted_or ports (slice_get counts.items (s / 64)) (s % 64) i
    then-absent s i u =
        ap (λ b. if b then delayed_or (slice_get is.tile.counts.items (s / 64)) (s % 64) s i else counted_or ports (slice_get counts.items (s / 64)) (s % 64) i) (le-ltb s (nodes net.relation.grid) u)

    block-at : (b : ℕ) → b < length is.tile.blocks.items → (x : Block) × (slice_get is.tile.blocks.items b ≡ Some x)
    block-at b l = there is.tile.blocks.items b l

    work-at : (b : ℕ) → b < length is.tile.blocks.items → (x : Work) × (slice_get is.tile.works.items b ≡ Some x)
    work-at b l = there is.tile.works.items b (let same = shows-is.tile.lists.works_are in omega (arith, l, same))

    old-at : (b : ℕ) → b < length is.tile.blocks.items → (c : Counts) × (slice_get is.tile.counts.items b ≡ Some c)
    old-at b l = there is.tile.counts.items b (let same = shows-is.tile.lists.counts_are in omega (arith, l, same))

    runs-on : (s i : ℕ) → s < nodes net.relation.grid → i < size net → RunOn times ((just.words s).counts i) ((just.next s).counts i) ((words_then s).counts i)
    runs-on s i l u =
        let b = s / 64 in
        let r = s % 64 in
        let inside = in-block net (n + 1) just.next is shows-is s l in
        let old = old-at b inside in
        let low : r < 64 = mod_below s 64 (omega arith) in
        let channel : i < (ports.links.width + 1) * ports.links.vcs = subst (λ m. i < m) (sizes net (n + 1) just.next is shows-is) u in
        let whole : 64 * (s / 64) + s % 64 ≡ s = omega arith in
        let last = last_at (channels_of ports) old.0 r in
        let told : HasDelayed last i ((just.words s).counts i) ((just.next s).counts i) =
        subst (λ t. HasDelayed last i ((just.words t).counts i) ((just.next t).counts i)) whole (counted-last b r i old.0 old.1 low channel) in
        subst (λ (c : ByVerdict). RunOn times ((just.words s).counts i) ((just.next s).counts i) c) (sym (then-known s i l ∙ ap (λ (o : Option Counts). delayed_or o r s i) old.1)) (record {
          no_flit = record { by = one_if (has_bit last.no_flit i); once = told.no_flit; again = refl };
          no_idle_channel = record { by = one_if (has_bit last.no_idle_channel i); once = told.no_idle_channel; again = refl };
          no_credit = record { by = one_if (has_bit last.no_credit i); once = told.no_credit; again = refl };
          routed = refl;
          granted = refl;
          moved = refl;
          lost_channel = refl;
          lost_input = refl;
          lost_switch = refl;
        })

    has-waited : HasWaited net times (words_in just.words just.was.tile) (words_in just.next is.tile) (words_in words_then waited)
    has-waited = record {
      counts = runs-on;
      rest = λ r l. refl;
      last = refl;
      arrivals = λ p l. refl;
    }

    -- no packet comes to be due
    none-due : (s : ℕ) → s < nodes net.relation.grid → n < (just.next s).source.due → n + 1 + times ≤ (just.next s).source.due
    none-due s l due =
        let b = s / 64 in
        let r = s % 64 in
        let inside = in-block net (n + 1) just.next is shows-is s l in
        let block = block-at b inside in
        let work = work-at b inside in
        let old = old-at b inside in
        let low : r < 64 = mod_below s 64 (omega arith) in
        let whole : 64 * (s / 64) + s % 64 ≡ s = omega arith in
        let node = (block-now b block.0 work.0 old.0 block.1 work.1 old.1).routers r low in
        let source : (just.next s).source.due ≡ (held_at ports block.0 r).source.due = ap (λ t. (just.next t).source.due) (sym whole) ∙ ap (λ (x : Source). x.due) node.held.source in
        let first = (just.stepped.tile.due b block.0 block.1).later r low (subst (λ m. n < m) source due) in
        let least = is_next.below b block.0 block.1 in
        let now = shows-is.tile.cycle in
        omega (arith, source, first, least, now, until, due)

    may-wait : MayWait net n (n + 1 + times) (words_in just.next is.tile)
    may-wait = record { quiet = λ e. quiet (e ∙ sym shows-is.tile.cycle); due = none-due }

    shows-later : ShowsNetwork (bits_of pattern) net (n + 1 + times) (words_in words_then waited)
    shows-later = network-waits net shows-is.good n times (n + 1 + times) (omega arith) (let most = just.within in omega (arith, most, few)) (words_in just.words just.was.tile) (words_in just.next is.tile) (words_in words_then waited) before after may-wait has-waited

    -- ---- a block then
    -- what was counted of a router of it
    counted-then : (b r i : ℕ) (block : Block) (work : Work) (old count : Counts) → slice_get is.tile.counts.items b ≡ Some old → slice_get counts.items b ≡ Some count → ShowsBlock net is.plan (n + 1) b just.next block work.came old → r < 64
        → i < (ports.links.width + 1) * ports.links.vcs → (64 * b + r < nodes net.relation.grid) ⊎ (nodes net.relation.grid ≤ 64 * b + r)
        → HasHad (channels_of ports) count r i (one_if (has_bit (just.next (64 * b + r)).column.waiting i)) (then_counted (64 * b + r) i)
    counted-then b r i block work old count at on was l u (inl known) =
        let s = 64 * b + r in
        let waits = one_if (has_bit (just.next s).column.waiting i) in
        let limit = just.within in
        let few_counted = counted-few net (n + 1) just.next is shows-is s i known (subst (λ m. i < m) (sym (sizes net (n + 1) just.next is shows-is)) u) in
        subst (HasHad (channels_of ports) count r i waits)
        (sym (then-known s i known
        ∙ ap₂ (λ x y. delayed_or (slice_get is.tile.counts.items x) y s i) (block-of b r l) (place-of b r l)
        ∙ ap (λ (o : Option Counts). delayed_or o r s i) at))
        ((repeats b old count at on).counts r i waits ((just.next s).counts i) u (omega (arith, few_counted, limit, few)) (was.counted r i l u))
    counted-then b r i block work old count at on was l u (inr absent) =
        let s = 64 * b + r in
        let none : 0 ≡ one_if (has_bit (just.next s).column.waiting i) = sym (ap (λ w. one_if (has_bit w i)) ((was.routers r l).blank absent).waiting ∙ ap one_if (has_bit-zero i)) in
        subst (HasHad (channels_of ports) count r i (one_if (has_bit (just.next s).column.waiting i)))
        (sym (then-absent s i absent
        ∙ ap₂ (λ x y. counted_or ports (slice_get counts.items x) y i) (block-of b r l) (place-of b r l)
        ∙ ap (λ (o : Option Counts). counted_or ports o r i) on))
        (subst (λ w. HasHad (channels_of ports) count r i w (counted_or ports (Some count) r i)) none (record { counted = refl; granted = sym (add-zero _) }))

    block-then : (b : ℕ) (block : Block) (work : Work) (count : Counts) → slice_get is.tile.blocks.items b ≡ Some block → slice_get is.tile.works.items b ≡ Some work → slice_get counts.items b ≡ Some count
        → ShowsBlock net is.plan (n + 1 + times) b words_then block work.came count
    block-then b block work count at doing on =
        let old = there is.tile.counts.items b (let inside = slice_get_within counts.items b count on in omega (arith, inside, long)) in
        let was = block-now b block work old.0 at doing old.1 in
        record {
          routers = λ r l.
              let s = 64 * b + r in
              let node = was.routers r l in
              record {
                held = counted-held pattern (held_at ports block r) (links_at ports work.came r) (just.next s) (words_then s) refl node.held;
                shows = λ k. shows-later.routers s k;
                blank = λ k. counted-blank (channels_count pattern) (just.next s) (words_then s) refl (node.blank k);
              };
          counted = λ r i l u. counted-then b r i block work old.0 count old.1 on was l u (cases_lt (64 * b + r) (nodes net.relation.grid));
          few = let same = (repeats b old.0 count old.1 on).cycles in let most = was.few in omega (arith, same, most);
          before = was.before;
          known = let known = was.known in omega (arith, known);
          punctual = was.punctual;
        }

    -- ---- the network shows the other one after them
    tile-later : ShowsTile net is.plan (n + 1 + times) words_then waited
    tile-later =
        let lists = shows-is.tile.lists in
        record {
          plan_is = shows-is.tile.plan_is;
          cycle = ap (λ m. m + times) shows-is.tile.cycle;
          lists = record {
            within = lists.within;
            works_are = lists.works_are;
            counts_are = long ∙ lists.counts_are;
            room = lists.room;
            left_are = lists.left_are;
            arrivals_are = lists.arrivals_are;
          };
          blocks = λ b block work count at doing on. subst (λ k. ShowsBlock net is.plan (n + 1 + times) k words_then block work.came count) (sym (number b)) (block-then b block work count at doing on);
          shows = network-own net shows-is.good (has_router waited) (n + 1 + times) (words_in words_then waited) shows-later;
        }

    pub waits : ShowsRun net (is.tile.cycle + times) later
    waits = (
      words_then,
      record {
        good = shows-is.good;
        made = shows-is.made;
        tile = subst (λ m. ShowsTile net is.plan (m + times) words_then waited) (sym shows-is.tile.cycle) tile-later;
        first = shows-is.first;
        blocks_are = shows-is.blocks_are;
        found_are = shows-is.found_are;
      },
    )
