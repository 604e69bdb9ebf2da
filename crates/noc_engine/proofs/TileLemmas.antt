-- A tile has its turn in a cycle: what its blocks have made of it, and what they tell.
use Rattle.std.proofs.Common.{◌≡◌, ◌≢◌, ℕ, ◌+◌, ◌-◌, ◌*◌, ◌/◌, ◌%◌, ◌<◌, ◌≤◌, ◌^◌, Bool, true, false, List, length, Option, Some, None, refl, ap, ap₂, sym, ◌∙◌, subst, arith, inl, inr}
use Rattle.std.specs.Prelude.{◌⊎◌, ◌&&◌, ◌||◌, nat_le, nat_lt, slice_get, slice_index, unwrap_or, if◌then◌else◌}
use Rattle.std.proofs.lemmas.Bool.{and_parts, cases_eq, cases_lt, eq-eqb, false≢true, ltb-true, ne_eqb}
use Rattle.std.proofs.lemmas.Nat.{mod_below, mul-add-lt}
use Rattle.std.proofs.lemmas.Option.{slice_get_within}
use Rattle.noc_topo.specs.Lists.{one_if}
use Rattle.noc_topo.specs.Shape.{Grid, local_port, neighbour, nodes, ports}
use Rattle.noc_topo.proofs.LinkLemmas.{link_back}
use Rattle.noc_packet.specs.Set.{has_bit}
use Rattle.noc_packet.proofs.SetLemmas.{has_bit-zero}
use Rattle.noc_route.specs.Routes.{Routes}
use Rattle.noc_alloc.specs.Members.{MembersAreBelow}
use Rattle.noc_sets.specs.Counts.{ByVerdict}
use Rattle.noc_sets.specs.Cycle.{Links as Left, Router, Turn}
use Rattle.noc_sets.specs.Layout.{Layout}
use Rattle.noc_sets.specs.Unions.{some_below}
use Rattle.noc_sets.proofs.UnionLemmas.{some-none}
use Rattle.noc_theory.specs.Network.{Setup, size}
use Rattle.noc_theory_bits.specs.Network.{AreArrivals, IsLastAfter, IsOwn, numbers_in, tells_in}
use Rattle.noc_theory_bits.specs.Owners.{granted_to}
use Rattle.noc_theory_bits.specs.Sends.{Sends}
use Rattle.noc_columns.proofs.PickLemmas.{some-each}
use Rattle.noc_columns.proofs.SetLemmas.{below-members}
use Rattle.noc_columns.specs.Picks.{channels_of}
use Rattle.noc_columns.specs.Words.{word}
use Rattle.noc_columns.specs.declared.channels.Links.{Links}
use Rattle.noc_columns.specs.declared.due.TheConstants.{NEVER}
use Rattle.noc_columns.specs.declared.ports.RouterPorts.{RouterPorts}
use Rattle.noc_counts.specs.Counts.{HasDelayed, HasHad, counted_in}
use Rattle.noc_counts.specs.declared.counts.Counts.{Counts}
use Rattle.noc_cycles.specs.Concluding.{HaveArrived}
use Rattle.noc_cycles.specs.Gathered.{left_by}
use Rattle.noc_cycles.specs.Held.{held_at}
use Rattle.noc_cycles.specs.Taking.{links_count}
use Rattle.noc_cycles.specs.Told.{HaveRoom, heard, heard_over, noted, notes_by, told_by}
use Rattle.noc_cycles.specs.Turning.{ShowsTurn}
use Rattle.noc_cycles.specs.declared.block.Block.{Block}
use Rattle.noc_cycles.specs.declared.block.Work.{Work}
use Rattle.noc_cycles.specs.declared.notes.Note.{Note}
use Rattle.noc_cycles.specs.declared.pattern.Pattern.{Pattern}
use Rattle.noc_theory_cycles.specs.Blank.{DoesNothing}
use Rattle.noc_theory_cycles.specs.Fits.{bits_of, layout_of}
use Rattle.noc_theory_cycles.proofs.ArriveLemmas.{arrived-network}
use Rattle.noc_theory_cycles.proofs.NodeLemmas.{node-nothing, node-sends}
use Rattle.noc_engine.specs.Passes.{AreAllNotes, HasCounted, HaveTurned, MayTurnAll, TellAll, TellLeaving, arrived_of, arrived_or, packets_of, packets_or}
use Rattle.noc_engine.specs.Shows.{HasLists, IsPlanOf, ShowsBlock, ShowsTile, arrival_by, has_router}
use Rattle.noc_engine.specs.Tiles.{AreNotesBy, AreNotesOf, HasRunBlock, HasTurnedTile, MayRunTile, granted_in, left_at, left_of}
use Rattle.noc_engine.specs.Turns.{HasTurnedBlock, MayTurn}
use Rattle.noc_engine.specs.declared.plan.Plan.{Plan}
use Rattle.noc_engine.specs.declared.tile.Tile.{Tile}
use Rattle.noc_engine.proofs.ListLemmas.{block-of, place-of, there}
use Rattle.noc_engine.proofs.WholeLemmas.{block-is, is-block, plan-fits}

-- ---- the routers of a tile
-- each is a router of one of its blocks
pub record IsPlaced (tile : Tile) (s : ℕ) : Type 0 where
  pub block : ℕ
  pub router : ℕ
  pub inside : block < length tile.blocks.items
  pub low : router < 64
  pub is : 64 * (tile.first + block) + router ≡ s

pub placed : (tile : Tile) (s : ℕ) → has_router tile s ≡ true → IsPlaced tile s
placed tile s e =
    let both = block-is tile (s / 64) e in
    record { block = s / 64 - tile.first; router = s % 64; inside = omega (arith, both.0, both.1); low = omega arith; is = omega (arith, both.0) }

-- tiles of the same blocks have the same
pub same-routers : (a b : Tile) (s : ℕ) → a.first ≡ b.first → length a.blocks.items ≡ length b.blocks.items → has_router a s ≡ has_router b s
same-routers a b s first long = ap₂ (λ f l. nat_le f (s / 64) && nat_lt (s / 64) (f + l)) first long

-- the cycle that is to run is the one that a tile counts
pub at-cycle : (net : Setup) (relation : Routes) (plan : Plan) (n : ℕ) (words : ℕ → Router) (tile : Tile) → MayRunTile net relation plan n words tile → MayRunTile net relation plan tile.cycle words tile
at-cycle net relation plan n words tile may = subst (λ m. MayRunTile net relation plan m words tile) (sym may.shows.cycle) may

-- ---- who has heard nothing yet
pub none-heard : (net : Setup) (n r i old : ℕ) → unwrap_or (heard net.relation.grid net.relation.vcs (granted_in net n (λ b. false)) r i) old ≡ old
none-heard net n r i old = by (neighbour net.relation.grid r (i / net.relation.vcs))
  where
    by : (o : Option (ℕ × ℕ)) → unwrap_or (heard_over net.relation.vcs (granted_in net n (λ b. false)) (i % net.relation.vcs) o) old ≡ old
    by None = refl
    by (Some (s, q)) = refl

module _ (net : Setup) (relation : Routes) (plan : Plan) (n : ℕ) (words : ℕ → Router) (was : Tile) (may : MayRunTile net relation plan n words was) where
  abbrev pattern : Pattern
  pattern = plan.pattern

  abbrev all : RouterPorts
  all = plan.pattern.table.ports

  abbrev layout : Layout
  layout = layout_of plan.pattern

  abbrev g : Grid
  g = net.relation.grid

  abbrev first : ℕ
  first = was.first

  abbrev many : ℕ
  many = length was.blocks.items

  abbrev shows : ShowsTile net plan n words was
  shows = may.shows

  abbrev lists : HasLists net plan was
  lists = may.shows.lists

  abbrev is_plan : IsPlanOf net plan
  is_plan = may.shows.plan_is

  -- ---- before the cycle
  block-shown : (b : ℕ) (block : Block) (work : Work) → slice_get was.blocks.items b ≡ Some block → slice_get was.works.items b ≡ Some work
      → (counts : Counts) × (slice_get was.counts.items b ≡ Some counts) × ShowsBlock net plan n (first + b) words block work.came counts
  block-shown b block work here at =
      let inside = slice_get_within was.blocks.items b block here in
      let counts = there was.counts.items b (let long = lists.counts_are in omega (arith, inside, long)) in
      (counts.0, counts.1, shows.blocks b block work counts.0 here at counts.1)

  may-one : (b : ℕ) (block : Block) (work : Work) → slice_get was.blocks.items b ≡ Some block → slice_get was.works.items b ≡ Some work → MayTurn net relation plan n (first + b) words block work
  may-one b block work here at =
      let one = (block-shown b block work here at).2 in
      record {
        good = may.good;
        is = may.is;
        few = may.few;
        plan_is = is_plan;
        number = let inside = slice_get_within was.blocks.items b block here in let within = lists.within in omega (arith, inside, within);
        routers = one.routers;
        before = one.before;
        known = one.known;
        punctual = one.punctual;
      }

  may-turn : MayTurnAll net relation plan n first words was.blocks.items was.works.items
  may-turn = record { within = lists.within; works_are = lists.works_are; each = may-one }

  pub may-turn-as : (blocks : List Block) (works : List Work) → blocks ≡ was.blocks.items → works ≡ was.works.items → MayTurnAll net relation plan n first words blocks works
  may-turn-as blocks works same_blocks same_works =
      subst (λ (xs : List Block). MayTurnAll net relation plan n first words xs works) (sym same_blocks) (subst (MayTurnAll net relation plan n first words was.blocks.items) (sym same_works) may-turn)

  -- ---- once the blocks have had their turn
  module _ (turns : ℕ → Turn) (happened : Bool) (turned : List Block) (worked : List Work) (sent : List (Links (List ℕ))) (long : length turned ≡ many) (works_long : length worked ≡ many) (has : HaveTurned net plan n first words turns turned worked sent happened) where
    -- block b
    pub record IsTurned (b : ℕ) : Type 0 where
      pub block : Block
      pub work : Work
      pub at : slice_get turned b ≡ Some block
      pub on : slice_get worked b ≡ Some work
      pub is : HasTurnedBlock net plan n (first + b) words turns block work (left_by sent (first + b)) (some_below 64 (λ r. (turns (64 * (first + b) + r)).happened))

    pub turned-at : (b : ℕ) → b < many → IsTurned b
    turned-at b l =
        let block = there turned b (omega (arith, l, long)) in
        let work = there worked b (omega (arith, l, works_long)) in
        record { block = block.0; work = work.0; at = block.1; on = work.1; is = has.each b block.0 work.0 block.1 work.1 }

    -- what the routers tell
    abbrev pub tells : ℕ → ℕ → Option ℕ
    tells s o = tells_in net layout n (words s) (turns s) o

    pub tell-all : TellAll net all first turned tells
    tell-all b r block at l =
        let inside = slice_get_within turned b block at in
        let work = there worked b (omega (arith, inside, long, works_long)) in
        (has.each b block work.0 at work.1).told r l

    -- ---- of one router
    router-nothing : (b r : ℕ) → b < many → r < 64 → nodes g ≤ 64 * (first + b) + r → DoesNothing (ports g * net.relation.vcs) (turns (64 * (first + b) + r))
    router-nothing b r l m u =
        let one = turned-at b l in
        let block = there was.blocks.items b l in
        let work = there was.works.items b (let same = lists.works_are in omega (arith, l, same)) in
        node-nothing (bits_of pattern) net layout pattern n (64 * (first + b) + r) _ _ (words (64 * (first + b) + r)) may.good may.few (plan-fits net plan may.good is_plan) ((block-shown b block.0 work.0 block.1 work.1).2.routers r m) (turns (64 * (first + b) + r)) (one.is.turn r m) u

    router-sends : (b r port : ℕ) → b < many → r < 64 → 64 * (first + b) + r < nodes g → port < ports g
        → Sends net n (64 * (first + b) + r) port (turns (64 * (first + b) + r)).left (tells (64 * (first + b) + r))
    router-sends b r port l m known low =
        let one = turned-at b l in
        let block = there was.blocks.items b l in
        let work = there was.works.items b (let same = lists.works_are in omega (arith, l, same)) in
        node-sends (bits_of pattern) net layout pattern n (64 * (first + b) + r) _ _ (words (64 * (first + b) + r)) may.good may.few (plan-fits net plan may.good is_plan) ((block-shown b block.0 work.0 block.1 work.1).2.routers r m) (turns (64 * (first + b) + r)) (one.is.turn r m) port known low

    -- ---- what leaves the network
    -- the routers from the first one on
    abbrev at_place : ℕ → ℕ
    at_place s = 64 * first + s

    whole : (s : ℕ) → 64 * (first + s / 64) + s % 64 ≡ at_place s
    whole s = omega arith

    in-block : (s : ℕ) → s % 64 < 64
    in-block s = mod_below s 64 (omega arith)

    block-there : (s : ℕ) → s < 64 * many → s / 64 < many
    block-there s l = omega (arith, l)

    router-packets : (s : ℕ) → s < 64 * many → packets_of turned s ≡ numbers_in net layout n (words (at_place s))
    router-packets s l =
        let one = turned-at (s / 64) (block-there s l) in
        ap (λ (o : Option Block). packets_or o (s % 64)) one.at ∙ one.is.packets (s % 64) (in-block s) ∙ ap (λ t. numbers_in net layout n (words t)) (whole s)

    router-arrived : (s : ℕ) → s < 64 * many → arrived_of all worked s ≡ (turns (at_place s)).arrived
    router-arrived s l =
        let one = turned-at (s / 64) (block-there s l) in
        ap (λ (o : Option Work). arrived_or all o (s % 64)) one.on ∙ one.is.arrived (s % 64) (in-block s) ∙ ap (λ t. (turns t).arrived) (whole s)

    pub leaving : TellLeaving all worked
    leaving b work on =
        let inside = slice_get_within worked b work on in
        let block = there turned b (omega (arith, inside, long, works_long)) in
        (has.each b block.0 work block.1 on).leaving

    pub arriving : (s k : ℕ) → s < 64 * length turned → has_bit (arrived_of all worked s) k ≡ true → packets_of turned s k < length net.packets
    arriving s k l e =
        let one = turned-at (s / 64) (block-there s (omega (arith, l, long))) in
        subst (λ (o : Option Block). packets_or o (s % 64) k < length net.packets) (sym one.at)
        (one.is.arrive (s % 64) k (in-block s) (ap (λ (o : Option Work). has_bit (arrived_or all o (s % 64)) k) (sym one.on) ∙ e))

    sizes : size net ≡ (all.links.width + 1) * all.links.vcs
    sizes = ap₂ (λ p v. p * v) (plan-fits net plan may.good is_plan).ports.count (plan-fits net plan may.good is_plan).ports.vcs

    channel-of : (s : ℕ) → MembersAreBelow (size net) (arrived_of all worked s)
    channel-of s k e = at (slice_get worked (s / 64)) e
      where
        at : (o : Option Work) → has_bit (arrived_or all o (s % 64)) k ≡ true → k < size net
        at None f = absurd (false≢true (sym (has_bit-zero k) ∙ f))
        at (Some work) f =
            let low = ltb-true k ((all.links.width + 1) * all.links.vcs) (and_parts _ _ (sym (below-members ((all.links.width + 1) * all.links.vcs) (λ c. has_bit (word ((channels_of all).index c) work.arrived) (s % 64)) k) ∙ f)).0 in
            subst (λ v. k < v) (sym sizes) low

    -- the routers that the network does not have
    place-nothing : (s : ℕ) → s < 64 * many → nodes g ≤ at_place s → DoesNothing (ports g * net.relation.vcs) (turns (at_place s))
    place-nothing s l u = subst (λ t. DoesNothing (ports g * net.relation.vcs) (turns t)) (whole s) (router-nothing (s / 64) (s % 64) (block-there s l) (in-block s) (omega (arith, whole s, u)))

    -- ---- what is told is what the network grants
    pub told-granted : (b : ℕ) (notes : List Note) → b < many → AreNotesBy net tells (first + b) notes → AreNotesOf net n (first + b) notes
    told-granted b notes l noted = record {
      are = λ r i known low. noted.are r i known low ∙ by r i known (neighbour g r (i / net.relation.vcs)) refl;
      few = noted.few;
    }
      where
        by : (r i : ℕ) → r < nodes g → (o : Option (ℕ × ℕ)) → neighbour g r (i / net.relation.vcs) ≡ o
            → heard_over net.relation.vcs (told_by (first + b) tells) (i % net.relation.vcs) o ≡ heard_over net.relation.vcs (told_by (first + b) (granted_to net n)) (i % net.relation.vcs) o
        by r i known None e = refl
        by r i known (Some (s, port)) e = at (cases_eq (s / 64) (first + b))
          where
            at : (s / 64 ≡ first + b) ⊎ (s / 64 ≢ first + b)
                → told_by (first + b) tells s (port * net.relation.vcs + i % net.relation.vcs) ≡ told_by (first + b) (granted_to net n) s (port * net.relation.vcs + i % net.relation.vcs)
            at (inl same) =
                let back = link_back g r (i / net.relation.vcs) s port may.good.relation.table.grid known e in
                let place : 64 * (first + b) + s % 64 ≡ s = omega (arith, same) in
                let one = router-sends b (s % 64) port l (in-block s) (let low = back.node in omega (arith, place, low)) (let low = back.port in omega (arith, low)) in
                let low : i % net.relation.vcs < net.relation.vcs = mod_below i net.relation.vcs may.good.relation.table.some_vcs in
                ap (λ x. if x then tells s (port * net.relation.vcs + i % net.relation.vcs) else None) (eq-eqb (s / 64) (first + b) same)
                ∙ subst (λ t. tells t (port * net.relation.vcs + i % net.relation.vcs) ≡ granted_to net n t (port * net.relation.vcs + i % net.relation.vcs)) place (one.told (i % net.relation.vcs) low)
                ∙ sym (ap (λ x. if x then granted_to net n s (port * net.relation.vcs + i % net.relation.vcs) else None) (eq-eqb (s / 64) (first + b) same))
            at (inr other) =
                ap (λ x. if x then tells s (port * net.relation.vcs + i % net.relation.vcs) else None) (ne_eqb (s / 64) (first + b) other)
                ∙ sym (ap (λ x. if x then granted_to net n s (port * net.relation.vcs + i % net.relation.vcs) else None) (ne_eqb (s / 64) (first + b) other))

    -- ---- once that is kept, told and counted
    module _ (is : Tile) (first_is : is.first ≡ first) (cycle_is : is.cycle ≡ n + 1) (blocks_are : is.blocks.items ≡ turned) (works_are : is.works.items ≡ worked)
        (left_is : is.left.items ≡ sent) (left_long : length is.left.items ≡ length plan.around.items)
        (noted : AreAllNotes net tells first (length turned) is.notes.items) (room : HaveRoom (length turned) is.notes.items)
        (counted : (b : ℕ) (block : Block) (work : Work) (old new : Counts) → slice_get turned b ≡ Some block → slice_get worked b ≡ Some work → slice_get was.counts.items b ≡ Some old → slice_get is.counts.items b ≡ Some new → HasCounted all block work old new)
        (counts_long : length is.counts.items ≡ many)
        (arrives : HaveArrived n (64 * length turned) (arrived_of all worked) (packets_of turned) (slice_index was.arrivals.items) (slice_index is.arrivals.items)) (arrivals_long : length is.arrivals.items ≡ length net.packets)
        (later : is.last ≡ (if happened then n + 1 else was.last)) where
      blocks_long : length is.blocks.items ≡ many
      blocks_long = ap length blocks_are ∙ long

      own-was : (s : ℕ) → has_router is s ≡ true → has_router was s ≡ true
      own-was s e = sym (same-routers is was s first_is blocks_long) ∙ e

      lists-are : HasLists net plan is
      lists-are = record {
        within = let within = lists.within in omega (arith, first_is, blocks_long, within);
        works_are = ap length works_are ∙ works_long ∙ sym blocks_long;
        counts_are = counts_long ∙ sym blocks_long;
        room = subst (λ k. HaveRoom k is.notes.items) (long ∙ sym blocks_long) room;
        left_are = left_long;
        arrivals_are = arrivals_long;
      }

      -- ---- block by block
      module _ (b : ℕ) (block : Block) (count : Counts) (block_at : slice_get is.blocks.items b ≡ Some block) (count_at : slice_get is.counts.items b ≡ Some count) where
        at : slice_get turned b ≡ Some block
        at = ap (λ (xs : List Block). slice_get xs b) (sym blocks_are) ∙ block_at

        low : b < many
        low = let inside = slice_get_within turned b block at in omega (arith, inside, long)

        a-work : (x : Work) × (slice_get worked b ≡ Some x)
        a-work = there worked b (omega (arith, low, works_long))

        abbrev work : Work
        work = a-work.0

        turned-one : HasTurnedBlock net plan n (first + b) words turns block work (left_by sent (first + b)) (some_below 64 (λ r. (turns (64 * (first + b) + r)).happened))
        turned-one = has.each b block work at a-work.1

        an-old-block : (x : Block) × (slice_get was.blocks.items b ≡ Some x)
        an-old-block = there was.blocks.items b low

        an-old-work : (x : Work) × (slice_get was.works.items b ≡ Some x)
        an-old-work = there was.works.items b (let same = lists.works_are in omega (arith, low, same))

        old-shown : (counts : Counts) × (slice_get was.counts.items b ≡ Some counts) × ShowsBlock net plan n (first + b) words an-old-block.0 an-old-work.0.came counts
        old-shown = block-shown b an-old-block.0 an-old-work.0 an-old-block.1 an-old-work.1

        abbrev old : Counts
        old = old-shown.0

        count-one : HasCounted all block work old count
        count-one = counted b block work old count at a-work.1 old-shown.1 count_at

        few-counted : counted_in old + 1 < 2 ^ 32
        few-counted = let most = old-shown.2.few in let soon = may.few in omega (arith, most, soon)

        run-before : HasRunBlock net plan n (first + b) (λ k. false) words turns block count
        run-before = record {
          turn = turned-one.turn;
          shows = λ r l.
              let one = turned-one.shows r l in
              let turn = turns (64 * (first + b) + r) in
              subst (λ (p : ℕ → ℕ). ShowsTurn pattern (record (held_at all block r) { packet = p }) turn) (sym one.marks.packet) one;
          packets = λ r i l known u. ap (λ (f : ℕ → ℕ). f i) (turned-one.packets r l) ∙ sym (none-heard net n (64 * (first + b) + r) i (numbers_in net layout n (words (64 * (first + b) + r)) i));
          counted = λ r i l u.
              subst (HasHad (channels_of all) count r i (one_if (has_bit (turns (64 * (first + b) + r)).column.waiting i))) (sym (turned-one.counted r i l u))
              (count-one.counts r i _ _ _ u few-counted (turned-one.waits r i l) (old-shown.2.counted r i l u));
          last = λ r i l u.
              let told = turned-one.counted r i l u in
              subst (λ d. HasDelayed d i ((words (64 * (first + b) + r)).counts i) ((turns (64 * (first + b) + r)).counts i)) (sym (count-one.last r few-counted)) (record {
                no_flit = ap (λ (c : ByVerdict). c.no_flit) told;
                no_idle_channel = ap (λ (c : ByVerdict). c.no_idle_channel) told;
                no_credit = ap (λ (c : ByVerdict). c.no_credit) told;
              });
          few = let most = old-shown.2.few in let cycles = count-one.cycles in omega (arith, most, cycles);
          punctual = turned-one.punctual;
        }

        pub run-block : HasRunBlock net plan n (is.first + b) (λ k. false) words turns block count
        run-block = subst (λ f. HasRunBlock net plan n (f + b) (λ k. false) words turns block count) (sym first_is) run-before

      -- ---- what has left
      link-count : local_port g * net.relation.vcs ≡ links_count pattern
      link-count = sym (ap₂ (λ p v. p * v) is_plan.pattern_is.width is_plan.pattern_is.vcs_are)

      sends-left : (b r port : ℕ) → b < many → r < 64 → 64 * (first + b) + r < nodes g → port < local_port g
          → Sends net n (64 * (first + b) + r) port (left_of all is.left.items (64 * (first + b) + r)) (granted_to net n (64 * (first + b) + r))
      sends-left b r port l m known low =
          let one = turned-at b l in
          let leaves = one.is.leaves r m in
          let sends = router-sends b r port l m known (omega (arith, low)) in
          let inside : (vc : ℕ) → vc < net.relation.vcs → port * net.relation.vcs + vc < links_count pattern = λ vc u. subst (λ k. port * net.relation.vcs + vc < k) link-count (let k = mul-add-lt port net.relation.vcs vc (local_port g) low u in omega (arith, k)) in
          let words_are : left_of all is.left.items (64 * (first + b) + r) ≡ left_at all (left_by sent (first + b)) r = ap₂ (left_at all) (ap (left_by is.left.items) (block-of (first + b) r m) ∙ ap (λ xs. left_by xs (first + b)) left_is) (place-of (first + b) r m) in
          subst (λ (w : Left). Sends net n (64 * (first + b) + r) port w (granted_to net n (64 * (first + b) + r))) (sym words_are) (record {
            beat = record {
              flits = λ vc u. leaves.flits (port * net.relation.vcs + vc) (inside vc u) ∙ sends.beat.flits vc u;
              tails = λ vc u. leaves.tails (port * net.relation.vcs + vc) (inside vc u) ∙ sends.beat.tails vc u;
              credits = λ vc u. leaves.credits (port * net.relation.vcs + vc) (inside vc u) ∙ sends.beat.credits vc u;
            };
            told = λ vc u. refl;
          })

      left-are : (s port : ℕ) → s < nodes g → (has_router is s || false) ≡ true → port < local_port g → Sends net n s port (left_of all is.left.items s) (granted_to net n s)
      left-are s port known own u =
          let place = placed was s (own-was s (sym (or-false (has_router is s)) ∙ own)) in
          subst (λ t. Sends net n t port (left_of all is.left.items t) (granted_to net n t)) place.is
          (sends-left place.block place.router port place.inside place.low (let same = place.is in omega (arith, same, known)) u)
        where
          or-false : (x : Bool) → (x || false) ≡ x
          or-false true = refl
          or-false false = refl

      -- ---- what happens, and what arrives
      last-is : IsLastAfter (λ s. IsOwn net (has_router is) s) n turns was.last is.last
      last-is = record {
        some = λ s own e.
            let place = placed was s (own-was s own.1) in
            let here : at_place (64 * place.block + place.router) ≡ s = (let same = place.is in omega (arith, same)) in
            later
            ∙ ap (λ b. if b then n + 1 else was.last)
            (has.happened_is ∙ some-each (64 * length turned) (λ t. (turns (at_place t)).happened) (64 * place.block + place.router) (let l = place.inside in let m = place.low in omega (arith, l, m, long)) (ap (λ t. (turns t).happened) here ∙ e));
        none = λ quiet.
            later
            ∙ ap (λ b. if b then n + 1 else was.last)
            (has.happened_is ∙ some-none (64 * length turned) (λ t. (turns (at_place t)).happened) (λ s l. none quiet s (omega (arith, l, long)) (cases_lt (at_place s) (nodes g))));
      }
        where
          own-place : (s : ℕ) → s < 64 * many → has_router is (at_place s) ≡ true
          own-place s l = is-block is (at_place s / 64) (omega (arith, first_is)) (omega (arith, first_is, l, blocks_long))

          none : ((s : ℕ) → IsOwn net (has_router is) s → (turns s).happened ≡ false) → (s : ℕ) → s < 64 * many → (at_place s < nodes g) ⊎ (nodes g ≤ at_place s) → (turns (at_place s)).happened ≡ false
          none quiet s l (inl known) = quiet (at_place s) (known, own-place s l)
          none quiet s l (inr absent) = (place-nothing s l absent).happened

      arrivals-by : AreArrivals (λ s. s < 64 * length turned) (size net) n (λ s. turns (at_place s)) (λ s. numbers_in net layout n (words (at_place s))) (λ p. arrival_by (slice_index was.arrivals.items p)) (λ p. arrival_by (slice_index is.arrivals.items p))
      arrivals-by =
          arrived-network (size net) n (64 * length turned) (λ s. turns (at_place s)) (arrived_of all worked) (packets_of turned) (λ s. numbers_in net layout n (words (at_place s))) (slice_index was.arrivals.items) (slice_index is.arrivals.items) arrival_by
          arrives (ap (λ (b : Bool). if b then None else Some n) (ne_eqb n NEVER (λ same. omega (arith, may.few, same))))
          (λ s l. sym (router-arrived s (omega (arith, l, long)))) (λ s l. channel-of s) (λ s l. sym (router-packets s (omega (arith, l, long))))

      arrivals-are : AreArrivals (λ s. IsOwn net (has_router is) s) (size net) n turns (λ s. numbers_in net layout n (words s)) (λ p. arrival_by (slice_index was.arrivals.items p)) (λ p. arrival_by (slice_index is.arrivals.items p))
      arrivals-are = record {
        some = λ s i own u e.
            let place = placed was s (own-was s own.1) in
            let here : at_place (64 * place.block + place.router) ≡ s = (let same = place.is in omega (arith, same)) in
            subst (λ t. arrival_by (slice_index is.arrivals.items (numbers_in net layout n (words t) i)) ≡ Some n) here
            (arrivals-by.some (64 * place.block + place.router) i (let l = place.inside in let m = place.low in omega (arith, l, m, long)) u (ap (λ t. has_bit (turns t).arrived i) here ∙ e));
        others = λ p none. arrivals-by.others p (λ s i l u e. other p none s i (omega (arith, l, long)) u e (cases_lt (at_place s) (nodes g)));
      }
        where
          own-place : (s : ℕ) → s < 64 * many → has_router is (at_place s) ≡ true
          own-place s l = is-block is (at_place s / 64) (omega (arith, first_is)) (omega (arith, first_is, l, blocks_long))

          other : (p : ℕ) → ((r i : ℕ) → IsOwn net (has_router is) r → i < size net → has_bit (turns r).arrived i ≡ true → numbers_in net layout n (words r) i ≢ p)
              → (s i : ℕ) → s < 64 * many → i < size net → has_bit (turns (at_place s)).arrived i ≡ true → (at_place s < nodes g) ⊎ (nodes g ≤ at_place s) → numbers_in net layout n (words (at_place s)) i ≢ p
          other p none s i l u e (inl known) = none (at_place s) i (known, own-place s l) u e
          other p none s i l u e (inr absent) = absurd (false≢true (sym (ap (λ w. has_bit w i) (place-nothing s l absent).arrived ∙ has_bit-zero i) ∙ e))

      -- ---- all of it
      pub has-turned : HasTurnedTile net plan n words turns was is
      has-turned = record {
        ran = record {
          good = may.good;
          few = may.few;
          before = may.shows;
          first_is = first_is;
          blocks_are = blocks_long;
          cycle = cycle_is;
          lists = lists-are;
          blocks = run-block;
          notes = λ b l. let low : b < many = omega (arith, l, blocks_long) in subst (λ f. AreNotesOf net n (f + b) (notes_by is.notes.items b)) (sym first_is) (told-granted b (notes_by is.notes.items b) low (noted b (omega (arith, low, long))));
          left = left-are;
          last = last-is;
          arrivals = arrivals-are;
        };
        found = λ b r i block work at on l.
            let one = has.each b block work (ap (λ (xs : List Block). slice_get xs b) (sym blocks_are) ∙ at) (ap (λ (xs : List Work). slice_get xs b) (sym works_are) ∙ on) in
            ap (λ f. (turns (64 * (f + b) + r)).found i) first_is ∙ one.found r i l;
      }
