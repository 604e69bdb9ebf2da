use Rattle.std.proofs.Common.{◌≡◌, ℕ, ◌/◌, ◌<◌, ◌∙◌, List, ap, ap₂, length, subst, sym}
use Rattle.std.specs.Prelude.{slice_index, if◌then◌else◌}
use Rattle.std.specs.Vec.{with_items}
use Rattle.std.proofs.lemmas.List.{length-map, with_items_is}
use Rattle.noc_columns.specs.Routing.{header_in, header_of}
use Rattle.noc_columns.specs.declared.header.Header.{Header}
use Rattle.noc_engine.specs.Shows.{has_block}
use Rattle.noc_engine.specs.Tiles.{HasBehind, IsJoined}
use Rattle.noc_engine.specs.declared.tile.Tile.{Tile}
use Rattle.noc_engine.proofs.JoinLemmas.{are-joined}
use Rattle.noc_engine.proofs.ListLemmas.{on-ok}
use Rattle.noc_engine.proofs.tile.Tile.join.Goals as goal

pub take_arrivals-requires-clause-tile : goal.take_arrivals-requires-clause-tile
take_arrivals-requires-clause-tile c = let shows = c.requires.shows in shows.3.1.lists.arrivals_are ∙ sym (ap length c.deref.ensures.value ∙ ap length shows.3.1.plan_is.headers ∙ length-map shows.0.packets header_of)

pub take_arrivals-requires-clause-arrivals : goal.take_arrivals-requires-clause-arrivals
take_arrivals-requires-clause-arrivals c =
    let shows = c.requires.shows in
    ap length c.as_mut_slice.ensures.value ∙ shows.2.1.lists.arrivals_are ∙ sym (ap length c.deref.ensures.value ∙ ap length shows.2.1.plan_is.headers ∙ length-map shows.0.packets header_of)

pub returns : goal.returns
returns c =
    let was = c.args.self.now in
    let there = c.args.there in
    let all = c.append-joined.new.self in
    let long : length c.take_arrivals.new.arrivals ≡ length was.arrivals.items = c.take_arrivals.auto.arrivals ∙ ap length c.as_mut_slice.ensures.value in
    let next : (with_items was.arrivals c.take_arrivals.new.arrivals).items ≡ c.take_arrivals.new.arrivals = with_items_is was.arrivals c.take_arrivals.new.arrivals (long ∙ sym was.arrivals.ok.0) in
    let now : Tile = record was { arrivals = with_items was.arrivals c.take_arrivals.new.arrivals; last = c.max-self.result } in
    let joins = λ (behind : HasBehind now there all).
    are-joined c.args.plan.now was there all (record {
      beside = c.requires.beside;
      first = ap (λ (t : Tile). t.first) behind.rest;
      blocks = behind.blocks;
      works = behind.works;
      counts = behind.counts;
      notes = behind.notes;
      left_are = ap (λ (t : Tile). length t.left.items) behind.rest;
      arrivals_are = ap (λ (t : Tile). length t.arrivals.items) behind.rest ∙ ap length next ∙ long;
      arrivals = λ p l.
          ap (λ (t : Tile). slice_index t.arrivals.items p) behind.rest ∙ ap (λ xs. slice_index xs p) next
          ∙ c.take_arrivals.ensures p (subst (λ (hs : List Header). p < length hs) (sym c.deref.ensures.value) l)
          ∙ ap₂ (λ (hs : List Header) (xs : List ℕ). if has_block there ((header_in hs p).destination / 64) then slice_index there.arrivals.items p else slice_index xs p) c.deref.ensures.value c.as_mut_slice.ensures.value;
      last = ap (λ (t : Tile). t.last) behind.rest ∙ c.max-self.ensures;
      cycle = ap (λ (t : Tile). t.cycle) behind.rest;
    }) in
    on-ok {P = HasBehind now there all} {Q = IsJoined c.args.plan.now was there all} c.append-joined.result joins c.append-joined.ensures
