use Rattle.std.proofs.Common.{◌≡◌, ◌-◌, ◌^◌, ◌<◌, ◌∙◌, ap, arith, sym, refl, slice_index}
use Rattle.std.specs.Prelude.{nat_eq, if◌then◌else◌}
use Rattle.std.proofs.lemmas.Bool.{eq-eqb, ne_eqb}
use Rattle.noc_sets.specs.Source.{Start, start_in}
use Rattle.noc_columns.specs.Sources.{left_in, starts_by}
use Rattle.noc_columns.specs.declared.sources.Sources.{Sources}
use Rattle.noc_columns.proofs.SourceLemmas.{start-read}
use Rattle.noc_columns.proofs.WalkLemmas.{last-all, last-start, last-step, part-next, walk-all, walk-start, walk-step}
use Rattle.noc_columns.proofs.sources.Sources.put_all.Goals as goal

pub loop-rest-init : goal.loop-rest-init
loop-rest-init c =
    let starts = starts_by c.args.starts.now in
    let self = c.args.self.now in
    record {
      part = λ k e. e;
      left = λ r few. walk-start c.args.begins r (λ k. (start_in starts (slice_index self.queue k)).length - 1) (left_in self.left);
      last = λ r few. last-start c.args.begins r (λ k. nat_eq (start_in starts (slice_index self.queue k)).length 1);
      rest = refl;
    }

pub loop-rest-preserved : goal.loop-rest-preserved
loop-rest-preserved c =
    let starts = starts_by c.args.starts.now in
    let self = c.args.self.now in
    let inv = c.loop-rest.invariant in
    let begins = c.args.begins in
    let rest = c.loop-rest.rest in
    let after = c.but_lowest-rest.result in
    let t = c.least-router.result in
    let least = c.least-router.ensures.least in
    let few : c.least-router.result < 64 = c.least-router.ensures.within in
    let after_is = c.but_lowest-rest.ensures.members in
    let kept = c.index-starts-self.result in
    let queue : slice_index c.loop-rest.self.queue t ≡ slice_index self.queue t = ap (λ (s : Sources). slice_index s.queue t) inv.rest in
    let start = start-read c.args.starts.now (slice_index c.loop-rest.self.queue t) kept (let l = c.requires t few (inv.part t least.0) in omega (arith, queue, l)) c.index-starts-self.is in
    let here = ap (start_in starts) (sym queue) ∙ start in
    record {
      part = part-next begins rest after t inv.part least after_is;
      left = walk-step begins rest after t inv.part least after_is (λ k. (start_in starts (slice_index self.queue k)).length - 1) (left_in self.left) (left_in c.loop-rest.self.left) (left_in c.put.new.self) inv.left
          (c.put.ensures t ∙ ap (λ b. if b then kept.length - 1 else left_in c.loop-rest.self.left t) (eq-eqb t t refl) ∙ ap (λ (s : Start). s.length - 1) (sym here))
          (λ r other. c.put.ensures r ∙ ap (λ b. if b then kept.length - 1 else left_in c.loop-rest.self.left r) (ne_eqb r t other));
      last = last-step begins rest after t inv.part least after_is (λ k. nat_eq (start_in starts (slice_index self.queue k)).length 1) c.loop-rest.last c.alone_if-last.result inv.last
          (c.alone_if-last.ensures ∙ ap (λ (s : Start). if nat_eq s.length 1 then 2 ^ t else 0) (sym here));
      rest = ap (λ (s : Sources). record s { left = c.put.new.self }) inv.rest;
    }

pub returns : goal.returns
returns c =
    let starts = starts_by c.args.starts.now in
    let self = c.args.self.now in
    let inv = c.loop-rest.invariant in
    let none : c.loop-rest.rest ≡ 0 = omega arith in
    record {
      left = λ r few. walk-all c.args.begins c.loop-rest.rest r (λ k. (start_in starts (slice_index self.queue k)).length - 1) (left_in self.left) (left_in c.loop-rest.self.left) none (inv.left r few);
      last = λ r few. last-all c.args.begins c.loop-rest.rest r (λ k. nat_eq (start_in starts (slice_index self.queue k)).length 1) c.loop-rest.last none (inv.last r few);
      rest = inv.rest;
    }
