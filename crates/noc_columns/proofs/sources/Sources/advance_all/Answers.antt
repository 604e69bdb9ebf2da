use Rattle.std.proofs.Common.{◌≡◌, ◌+◌, ◌<◌, ◌∙◌, ap, arith, sym, refl, set, slice_index, get_or-set_same}
use Rattle.std.proofs.lemmas.List.{length-set}
use Rattle.noc_sets.specs.Source.{Start, start_in}
use Rattle.noc_columns.specs.Sources.{starts_by}
use Rattle.noc_columns.specs.declared.starts.Start.{Start as Kept}
use Rattle.noc_columns.proofs.PassLemmas.{word-other}
use Rattle.noc_columns.proofs.SourceLemmas.{start-read}
use Rattle.noc_columns.proofs.WalkLemmas.{part-next, walk-all, walk-fresh, walk-start, walk-step}
use Rattle.noc_columns.proofs.sources.Sources.advance_all.Goals as goal

pub loop-rest-init : goal.loop-rest-init
loop-rest-init c =
    let starts = starts_by c.args.starts.now in
    let self = c.args.self.now in
    record {
      size = omega arith;
      part = λ k e. e;
      left = refl;
      queue = λ r few. walk-start c.args.routers r (λ k. slice_index self.queue k + 1) (slice_index self.queue);
      at = λ r few. walk-start c.args.routers r (λ k. (start_in starts (slice_index self.queue k + 1)).due) (slice_index self.due.at);
      due = λ past are. are;
    }

pub overflow_add-place : goal.overflow_add-place
overflow_add-place c =
    let self = c.args.self.now in
    let inv = c.loop-rest.invariant in
    let t = c.least-router.result in
    let least = c.least-router.ensures.least in
    let few : c.least-router.result < 64 = c.least-router.ensures.within in
    let queue = walk-fresh c.args.routers c.loop-rest.rest t least (λ k. slice_index self.queue k + 1) (slice_index self.queue) (slice_index c.loop-rest.self.queue) (inv.queue t few) in
    let l = c.requires.queue t few (inv.part t least.0) in
    omega (arith, queue, l, c.requires.few)

pub bounds-starts-place : goal.bounds-starts-place
bounds-starts-place c =
    let self = c.args.self.now in
    let inv = c.loop-rest.invariant in
    let t = c.least-router.result in
    let least = c.least-router.ensures.least in
    let few : c.least-router.result < 64 = c.least-router.ensures.within in
    let queue = walk-fresh c.args.routers c.loop-rest.rest t least (λ k. slice_index self.queue k + 1) (slice_index self.queue) (slice_index c.loop-rest.self.queue) (inv.queue t few) in
    let l = c.requires.queue t few (inv.part t least.0) in
    omega (arith, queue, l)

pub bounds-starts-place-in-loop-rest : goal.bounds-starts-place-in-loop-rest
bounds-starts-place-in-loop-rest c =
    let self = c.args.self.now in
    let inv = c.loop-rest.invariant in
    let t = c.least-router.result in
    let least = c.least-router.ensures.least in
    let few : c.least-router.result < 64 = c.least-router.ensures.within in
    let queue = walk-fresh c.args.routers c.loop-rest.rest t least (λ k. slice_index self.queue k + 1) (slice_index self.queue) (slice_index c.loop-rest.self.queue) (inv.queue t few) in
    let l = c.requires.queue t few (inv.part t least.0) in
    omega (arith, queue, l)

pub loop-rest-preserved : goal.loop-rest-preserved
loop-rest-preserved c =
    let starts = starts_by c.args.starts.now in
    let self = c.args.self.now in
    let now = c.loop-rest.self in
    let inv = c.loop-rest.invariant in
    let routers = c.args.routers in
    let rest = c.loop-rest.rest in
    let after = c.but_lowest-rest.result in
    let t = c.least-router.result in
    let least = c.least-router.ensures.least in
    let few : c.least-router.result < 64 = c.least-router.ensures.within in
    let after_is = c.but_lowest-rest.ensures.members in
    let place = slice_index now.queue t + 1 in
    let queue : slice_index c.loop-rest.self.queue t ≡ slice_index self.queue t = walk-fresh routers rest t least (λ k. slice_index self.queue k + 1) (slice_index self.queue) (slice_index now.queue) (inv.queue t few) in
    let was : slice_index c.loop-rest.self.due.at t ≡ slice_index self.due.at t
    = walk-fresh routers rest t least (λ k. (start_in starts (slice_index self.queue k + 1)).due) (slice_index self.due.at) (slice_index now.due.at) (inv.at t few) in
    let l = c.requires.queue t few (inv.part t least.0) in
    let start = start-read c.args.starts.now place c.index-starts-place.result (omega (arith, queue, l)) c.index-starts-place.is in
    record {
      size = length-set now.queue t place ∙ inv.size;
      part = part-next routers rest after t inv.part least after_is;
      left = inv.left;
      queue = walk-step routers rest after t inv.part least after_is (λ k. slice_index self.queue k + 1) (slice_index self.queue) (slice_index now.queue) (slice_index (set now.queue t place)) inv.queue
          (get_or-set_same now.queue t place 0 (omega (arith, inv.size, few)) ∙ ap (λ n. n + 1) queue)
          (λ r other. word-other now.queue t place r other);
      at = walk-step routers rest after t inv.part least after_is (λ k. (start_in starts (slice_index self.queue k + 1)).due) (slice_index self.due.at) (slice_index now.due.at) (slice_index c.put.new.self.at) inv.at
          (c.put.ensures.here ∙ ap (λ (k : Kept). k.due) (sym c.index-starts-place.is) ∙ ap (λ (s : Start). s.due) (sym start) ∙ ap (λ n. (start_in starts (n + 1)).due) queue)
          c.put.ensures.others;
      due = λ past are. c.put.ensures.due (let m = past t few (inv.part t least.0) in omega (arith, was, m)) (inv.due past are);
    }

pub returns : goal.returns
returns c =
    let starts = starts_by c.args.starts.now in
    let self = c.args.self.now in
    let inv = c.loop-rest.invariant in
    let none : c.loop-rest.rest ≡ 0 = omega arith in
    record {
      left = inv.left;
      queue = λ r few. walk-all c.args.routers c.loop-rest.rest r (λ k. slice_index self.queue k + 1) (slice_index self.queue) (slice_index c.loop-rest.self.queue) none (inv.queue r few);
      at = λ r few. walk-all c.args.routers c.loop-rest.rest r (λ k. (start_in starts (slice_index self.queue k + 1)).due) (slice_index self.due.at) (slice_index c.loop-rest.self.due.at) none (inv.at r few);
      due = inv.due;
    }

pub bounds-self-router : goal.bounds-self-router
bounds-self-router c = c.least-router.ensures.within

pub bounds-self-router-in-loop-rest : goal.bounds-self-router-in-loop-rest
bounds-self-router-in-loop-rest c = c.least-router.ensures.within

pub put-requires : goal.put-requires
put-requires c = c.least-router.ensures.within
