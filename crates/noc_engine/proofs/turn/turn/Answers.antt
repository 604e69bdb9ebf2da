use Rattle.std.proofs.Common.{◌*◌, ◌∙◌, ℕ, List, ap, arith, bit_or, refl, sym}
use Rattle.std.specs.Prelude.{◌||◌, nat_eq, not}
use Rattle.noc_sets.specs.Unions.{some_below}
use Rattle.noc_columns.specs.Picks.{channels_of}
use Rattle.noc_columns.specs.Words.{set_of}
use Rattle.noc_columns.specs.declared.channels.Links.{Links}
use Rattle.noc_cycles.specs.Taking.{comes_to}
use Rattle.noc_cycles.specs.declared.block.Work.{Work}
use Rattle.noc_cycles.proofs.ConcludingLemmas.{all-within, none-there}
use Rattle.noc_cycles.proofs.SomeLemmas.{injected-comes}
use Rattle.noc_engine.proofs.TurnLemmas.{block-first, block-headers, block-may-decide, block-may-send, block-ports, turned-block}
use Rattle.noc_engine.proofs.turn.turn.Goals as goal

pub take-injected-requires : goal.take-injected-requires
take-injected-requires c =
    let r = c.requires in
    block-may-send r.0 c.args.cycle.now.relation.now c.args.cycle.now.plan.now c.args.cycle.now.number c.args.number r.1 c.args.block.now c.args.work.now c.deref.result.now c.args.cycle.now.plan.now.headers.items r.2 c.deref.ensures.value refl

pub overflow_mul-number : goal.overflow_mul-number
overflow_mul-number c =
    let r = c.requires in
    let few = block-first r.0 c.args.cycle.now.relation.now c.args.cycle.now.plan.now c.args.cycle.now.number c.args.number r.1 c.args.block.now c.args.work.now c.args.cycle.now.plan.now.starts.items c.args.cycle.now.plan.now.headers.items r.2 refl refl in
    omega (arith, few)

pub overflow_cast-number : goal.overflow_cast-number
overflow_cast-number c =
    let r = c.requires in
    let few = block-first r.0 c.args.cycle.now.relation.now c.args.cycle.now.plan.now c.args.cycle.now.number c.args.number r.1 c.args.block.now c.args.work.now c.args.cycle.now.plan.now.starts.items c.args.cycle.now.plan.now.headers.items r.2 refl refl in
    omega (arith, few)

pub decide-requires-clause-ports : goal.decide-requires-clause-ports
decide-requires-clause-ports c =
    let r = c.requires in
    block-ports r.0 c.args.cycle.now.relation.now c.args.cycle.now.plan.now c.args.cycle.now.number c.args.number r.1 c.args.block.now c.args.work.now c.args.cycle.now.plan.now.starts.items c.args.cycle.now.plan.now.headers.items r.2 refl refl

pub decide-requires-clause-headers : goal.decide-requires-clause-headers
decide-requires-clause-headers c =
    let r = c.requires in
    block-headers r.0 c.args.cycle.now.relation.now c.args.cycle.now.plan.now c.args.cycle.now.number c.args.number r.1 c.args.block.now c.args.work.now c.args.cycle.now.plan.now.starts.items c.deref-2.result.now r.2 refl c.deref-2.ensures.value

pub decide-requires-clause-may : goal.decide-requires-clause-may
decide-requires-clause-may c = λ k l.
    let r = c.requires in
    block-may-decide r.0 c.args.cycle.now.relation.now c.args.cycle.now.plan.now c.args.cycle.now.number c.args.number r.1 c.args.block.now c.args.work.now c.deref.result.now c.deref-2.result.now r.2 c.deref.ensures.value c.deref-2.ensures.value
    c.take-injected.new.block c.take-injected.new.work (comes_to c.args.cycle.now.plan.now.pattern.table.ports c.take-injected.new.work.came) c.take-injected.ensures.taken k l

-- what has come stays
pub does_something-requires : goal.does_something-requires
does_something-requires c = λ r e.
    let same = ap (λ (w : Work). w.came) c.conclude-leaving.ensures.work ∙ ap (λ (w : Work). w.came) c.decide.ensures.work in
    let pattern = c.args.cycle.now.plan.now.pattern in
    let came = c.take-injected.new.work.came in
    ap (λ w. comes_to pattern.table.ports w r) same ∙ injected-comes pattern r came.flits came.credits (sym (c.take-injected.ensures.injected r) ∙ e)

pub returns : goal.returns
returns c = λ net words may.
    let ports = c.args.cycle.now.plan.now.pattern.table.ports in
    let set = set_of (channels_of ports) in
    let same = ap (λ (w : Work). w.came) c.conclude-leaving.ensures.work ∙ ap (λ (w : Work). w.came) c.decide.ensures.work in
    let leaving = c.conclude-leaving.result in
    let done = c.conclude-leaving.new.work in
    turned-block net c.args.cycle.now.relation.now c.args.cycle.now.plan.now c.args.cycle.now.number c.args.number words c.args.block.now c.args.work.now c.deref.result.now c.deref-2.result.now may c.deref.ensures.value c.deref-2.ensures.value
    c.take-injected.new.block c.take-injected.new.work (comes_to c.args.cycle.now.plan.now.pattern.table.ports c.take-injected.new.work.came) c.take-injected.ensures.taken
    c.decide.new.block c.conclude-leaving.new.block c.decide.new.work (record done { leaving = leaving }) c.decide.new.left c.conclude-leaving.new.left c.does_something.result c.decide.ensures.decided c.conclude-leaving.ensures.concluded c.decide.ensures.block c.decide.ensures.work
    c.conclude-leaving.ensures.block (ap (λ (w : Work). record w { leaving = leaving }) c.conclude-leaving.ensures.work) c.conclude-leaving.ensures.left c.take-injected.ensures.punctual
    (λ zero r. none-there (channels_of c.args.cycle.now.plan.now.pattern.table.ports) r (4 * c.args.cycle.now.plan.now.pattern.frame.groups) leaving done.arrived (all-within c.args.cycle.now.plan.now.pattern) (c.conclude-leaving.ensures.arrived r) zero)
    (c.does_something.ensures
    ∙ ap (λ (came : Links (List ℕ)). some_below 64 (λ r. comes_to ports came r || not (nat_eq (bit_or (bit_or (set r done.standing.heads) (set r c.conclude-leaving.new.block.grants.granted)) (set r done.verdicts.moved)) 0))) same)
