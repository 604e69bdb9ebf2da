use Rattle.std.proofs.Common.{◌+◌, ◌^◌, ◌∙◌, ap, arith, bit_or, slice_index}
use Rattle.std.specs.Prelude.{nat_eq, if◌then◌else◌}
use Rattle.noc_columns.specs.Supply.{number_in}
use Rattle.noc_columns.proofs.MarkLemmas.{idle-next, idle-start}
use Rattle.noc_columns.proofs.PlaceLemmas.{one-router}
use Rattle.noc_columns.proofs.WalkLemmas.{added-all, added-next, added-start}
use Rattle.noc_columns.proofs.ejection.give_back_by.Goals as goal

pub loop-rest-init : goal.loop-rest-init
loop-rest-init c = record {
  idle = added-start c.args.routers (λ r. 2 ^ (c.args.links + number_in c.args.vc.now r)) c.args.marks.now.idle;
  kept = idle-start c.args.marks.now;
}

pub loop-rest-preserved : goal.loop-rest-preserved
loop-rest-preserved c =
    let t = c.least-router.result in
    let was = c.loop-rest.marks.idle in
    let told = c.add_idle.ensures in
    record {
      idle =
          added-next c.args.routers c.loop-rest.rest c.but_lowest-rest.result t (λ r. 2 ^ (c.args.links + number_in c.args.vc.now r)) c.args.marks.now.idle was c.add_idle.new.self.idle c.loop-rest.invariant.idle
          c.least-router.ensures.least c.least-router.ensures.within c.but_lowest-rest.ensures.members
          (λ r.
          told.idle r
          ∙ ap (λ w. if nat_eq r t then bit_or (slice_index was r) w else slice_index was r)
          (one-router (c.args.links + c.number.result) (omega (arith, c.requires, c.number.ensures.few)) ∙ ap (λ n. 2 ^ (c.args.links + n)) c.number.ensures.is));
      kept = idle-next c.loop-rest.invariant.kept (record { waiting = told.waiting; wanted = told.wanted; sets = told.sets; turns = told.turns });
    }

pub returns-clause-idle : goal.returns-clause-idle
returns-clause-idle c = λ r few.
    added-all c.args.routers c.loop-rest.rest (λ r. 2 ^ (c.args.links + number_in c.args.vc.now r)) c.args.marks.now.idle c.loop-rest.marks.idle c.loop-rest.invariant.idle (omega arith) r few
