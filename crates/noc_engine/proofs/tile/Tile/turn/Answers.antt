use Rattle.std.proofs.Common.{◌≡◌, ℕ, ◌+◌, ◌*◌, ◌<◌, ◌∙◌, List, length, ap, arith, refl, subst, sym}
use Rattle.std.specs.Prelude.{slice_get, slice_index}
use Rattle.std.specs.Vec.{with_items}
use Rattle.std.proofs.lemmas.List.{with_items_is}
use Rattle.noc_sets.specs.Cycle.{Turn}
use Rattle.noc_counts.specs.declared.counts.Counts.{Counts}
use Rattle.noc_cycles.specs.Concluding.{HaveArrived}
use Rattle.noc_cycles.specs.Told.{HaveRoom}
use Rattle.noc_engine.specs.Passes.{AreAllNotes, arrived_of, packets_of}
use Rattle.noc_engine.specs.Tiles.{HasTurnedTile}
use Rattle.noc_engine.specs.declared.tile.Tile.{Tile}
use Rattle.noc_engine.proofs.TileLemmas.{arriving, at-cycle, has-turned, leaving, may-turn-as, tell-all, tells}
use Rattle.noc_engine.proofs.tile.Tile.turn.Goals as goal

pub turn_all-happened-requires-clause-may : goal.turn_all-happened-requires-clause-may
turn_all-happened-requires-clause-may c =
    let net = c.requires.0 in
    let words = c.requires.2 in
    let was = c.args.self.now in
    let relation = c.args.relation.now in
    let plan = c.args.plan.now in
    let may = at-cycle net relation plan c.requires.1 words was c.requires.3 in
    (net, words, may-turn-as net relation plan was.cycle words was may c.as_mut_slice-blocks.result.now c.as_mut_slice-works.result.now c.as_mut_slice-blocks.ensures.value c.as_mut_slice-works.ensures.value)

pub arrive_blocks-requires : goal.arrive_blocks-requires
arrive_blocks-requires c =
    let net = c.requires.0 in
    let words = c.requires.2 in
    let was = c.args.self.now in
    let relation = c.args.relation.now in
    let plan = c.args.plan.now in
    let may = at-cycle net relation plan c.requires.1 words was c.requires.3 in
    let turned = c.turn_all-happened.ensures net words (may-turn-as net relation plan was.cycle words was may c.as_mut_slice-blocks.result.now c.as_mut_slice-works.result.now c.as_mut_slice-blocks.ensures.value c.as_mut_slice-works.ensures.value) in
    let long : length c.turn_all-happened.new.blocks ≡ length was.blocks.items = c.turn_all-happened.auto.blocks ∙ ap length c.as_mut_slice-blocks.ensures.value in
    let works_long : length c.turn_all-happened.new.works ≡ length was.blocks.items = c.turn_all-happened.auto.works ∙ ap length c.as_mut_slice-works.ensures.value ∙ may.shows.lists.works_are in
    record {
      works = works_long ∙ sym long;
      leaving = leaving net relation plan was.cycle words was may turned.0 c.turn_all-happened.result c.turn_all-happened.new.blocks c.turn_all-happened.new.works c.turn_all-happened.new.left long works_long turned.1;
      packets = λ s k l e. subst (λ m. packets_of c.turn_all-happened.new.blocks s k < m) (sym (ap length c.as_mut_slice.ensures.value ∙ may.shows.lists.arrivals_are)) (arriving net relation plan was.cycle words was may turned.0 c.turn_all-happened.result c.turn_all-happened.new.blocks c.turn_all-happened.new.works c.turn_all-happened.new.left long works_long turned.1 s k l e);
    }

pub turn_all-happened-requires-clause-left : goal.turn_all-happened-requires-clause-left
turn_all-happened-requires-clause-left c =
    let lists = c.requires.3.shows.lists in
    omega (arith, ap length c.as_mut_slice-blocks.ensures.value, ap length c.as_mut_slice-left.ensures.value, lists.left_are, lists.within)

pub tell_all-requires : goal.tell_all-requires
tell_all-requires c =
    let net = c.requires.0 in
    let words = c.requires.2 in
    let was = c.args.self.now in
    let relation = c.args.relation.now in
    let plan = c.args.plan.now in
    let may = at-cycle net relation plan c.requires.1 words was c.requires.3 in
    let turned = c.turn_all-happened.ensures net words (may-turn-as net relation plan was.cycle words was may c.as_mut_slice-blocks.result.now c.as_mut_slice-works.result.now c.as_mut_slice-blocks.ensures.value c.as_mut_slice-works.ensures.value) in
    let long : length c.turn_all-happened.new.blocks ≡ length was.blocks.items = c.turn_all-happened.auto.blocks ∙ ap length c.as_mut_slice-blocks.ensures.value in
    let works_long : length c.turn_all-happened.new.works ≡ length was.blocks.items = c.turn_all-happened.auto.works ∙ ap length c.as_mut_slice-works.ensures.value ∙ may.shows.lists.works_are in
    record {
      told = (net, tells net relation plan was.cycle words was may turned.0 c.turn_all-happened.result c.turn_all-happened.new.blocks c.turn_all-happened.new.works c.turn_all-happened.new.left long works_long turned.1, may.good, may.shows.plan_is, tell-all net relation plan was.cycle words was may turned.0 c.turn_all-happened.result c.turn_all-happened.new.blocks c.turn_all-happened.new.works c.turn_all-happened.new.left long works_long turned.1);
      blocks = omega (arith, long, may.shows.lists.within);
      room = subst (HaveRoom (length c.turn_all-happened.new.blocks)) (sym c.as_mut_slice-2.ensures.value) (subst (λ k. HaveRoom k was.notes.items) (sym long) may.shows.lists.room);
    }

pub count_all-requires : goal.count_all-requires
count_all-requires c =
    let lists = c.requires.3.shows.lists in
    let long : length c.turn_all-happened.new.blocks ≡ length c.args.self.now.blocks.items = c.turn_all-happened.auto.blocks ∙ ap length c.as_mut_slice-blocks.ensures.value in
    record {
      works = c.turn_all-happened.auto.works ∙ ap length c.as_mut_slice-works.ensures.value ∙ lists.works_are ∙ sym long;
      counts = ap length c.as_mut_slice-3.ensures.value ∙ lists.counts_are ∙ sym long;
    }

pub overflow_add-self : goal.overflow_add-self
overflow_add-self c = omega (arith, c.requires.3.few, c.requires.3.shows.cycle)

pub returns : goal.returns
returns c = λ net n words permitted.
    let was = c.args.self.now in
    let relation = c.args.relation.now in
    let plan = c.args.plan.now in
    let may = at-cycle net relation plan n words was permitted in
    let turned = c.turn_all-happened.ensures net words (may-turn-as net relation plan was.cycle words was may c.as_mut_slice-blocks.result.now c.as_mut_slice-works.result.now c.as_mut_slice-blocks.ensures.value c.as_mut_slice-works.ensures.value) in
    let long : length c.turn_all-happened.new.blocks ≡ length was.blocks.items = c.turn_all-happened.auto.blocks ∙ ap length c.as_mut_slice-blocks.ensures.value in
    let works_long : length c.turn_all-happened.new.works ≡ length was.blocks.items = c.turn_all-happened.auto.works ∙ ap length c.as_mut_slice-works.ensures.value ∙ may.shows.lists.works_are in
    let lists = may.shows.lists in
    let left_long : length c.turn_all-happened.new.left ≡ length was.left.items = c.turn_all-happened.auto.left ∙ ap length c.as_mut_slice-left.ensures.value in
    let notes_long : length c.tell_all.new.notes ≡ length was.notes.items = c.tell_all.auto.notes ∙ ap length c.as_mut_slice-2.ensures.value in
    let counts_long : length c.count_all.new.counts ≡ length was.counts.items = c.count_all.auto.counts ∙ ap length c.as_mut_slice-3.ensures.value in
    let arrivals_long : length c.arrive_blocks.new.arrivals ≡ length was.arrivals.items = c.arrive_blocks.auto.arrivals ∙ ap length c.as_mut_slice.ensures.value in
    let next_blocks : (with_items was.blocks c.turn_all-happened.new.blocks).items ≡ c.turn_all-happened.new.blocks = with_items_is was.blocks c.turn_all-happened.new.blocks (long ∙ sym was.blocks.ok.0) in
    let next_works : (with_items was.works c.turn_all-happened.new.works).items ≡ c.turn_all-happened.new.works = with_items_is was.works c.turn_all-happened.new.works (works_long ∙ sym lists.works_are ∙ sym was.works.ok.0) in
    let next_left : (with_items was.left c.turn_all-happened.new.left).items ≡ c.turn_all-happened.new.left = with_items_is was.left c.turn_all-happened.new.left (left_long ∙ sym was.left.ok.0) in
    let next_notes : (with_items was.notes c.tell_all.new.notes).items ≡ c.tell_all.new.notes = with_items_is was.notes c.tell_all.new.notes (notes_long ∙ sym was.notes.ok.0) in
    let next_counts : (with_items was.counts c.count_all.new.counts).items ≡ c.count_all.new.counts = with_items_is was.counts c.count_all.new.counts (counts_long ∙ sym was.counts.ok.0) in
    let next_arrivals : (with_items was.arrivals c.arrive_blocks.new.arrivals).items ≡ c.arrive_blocks.new.arrivals = with_items_is was.arrivals c.arrive_blocks.new.arrivals (arrivals_long ∙ sym was.arrivals.ok.0) in
    let told = tells net relation plan was.cycle words was may turned.0 c.turn_all-happened.result c.turn_all-happened.new.blocks c.turn_all-happened.new.works c.turn_all-happened.new.left long works_long turned.1 in
    let blocks = c.turn_all-happened.new.blocks in
    let works = c.turn_all-happened.new.works in
    let is : Tile = record {
      first = was.first;
      blocks = with_items was.blocks blocks;
      works = with_items was.works works;
      counts = with_items was.counts c.count_all.new.counts;
      notes = with_items was.notes c.tell_all.new.notes;
      left = with_items was.left c.turn_all-happened.new.left;
      arrivals = with_items was.arrivals c.arrive_blocks.new.arrivals;
      last = c.last_after-self.result;
      cycle = was.cycle + 1;
    } in
    let done : HasTurnedTile net plan was.cycle words turned.0 was is =
    has-turned net relation plan was.cycle words was may turned.0 c.turn_all-happened.result c.turn_all-happened.new.blocks c.turn_all-happened.new.works c.turn_all-happened.new.left long works_long turned.1 is refl refl next_blocks next_works
    next_left (ap length next_left ∙ left_long ∙ lists.left_are)
    (subst (AreAllNotes net told was.first (length blocks)) (sym next_notes) (c.tell_all.ensures.noted net told may.good may.shows.plan_is (tell-all net relation plan was.cycle words was may turned.0 c.turn_all-happened.result c.turn_all-happened.new.blocks c.turn_all-happened.new.works c.turn_all-happened.new.left long works_long turned.1)))
    (subst (HaveRoom (length blocks)) (sym next_notes) c.tell_all.ensures.room)
    (λ b block work old new at on before after. c.count_all.ensures b block work old new at on (ap (λ (xs : List Counts). slice_get xs b) c.as_mut_slice-3.ensures.value ∙ before) (ap (λ (xs : List Counts). slice_get xs b) (sym next_counts) ∙ after))
    (ap length next_counts ∙ counts_long ∙ lists.counts_are)
    (subst (λ (xs : List ℕ). HaveArrived was.cycle (64 * length blocks) (arrived_of plan.pattern.table.ports works) (packets_of blocks) (slice_index was.arrivals.items) (slice_index xs)) (sym next_arrivals)
    (subst (λ (xs : List ℕ). HaveArrived was.cycle (64 * length blocks) (arrived_of plan.pattern.table.ports works) (packets_of blocks) (slice_index xs) (slice_index c.arrive_blocks.new.arrivals)) c.as_mut_slice.ensures.value
    (record { some = c.arrive_blocks.ensures.some; others = c.arrive_blocks.ensures.others })))
    (ap length next_arrivals ∙ arrivals_long ∙ lists.arrivals_are)
    c.last_after-self.ensures in
    subst (λ m. (t : ℕ → Turn) × HasTurnedTile net plan m words t was is) permitted.shows.cycle (turned.0, done)
