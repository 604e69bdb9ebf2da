use Rattle.std.proofs.Common.{◌*◌, ap, bit_or, refl, subst, sym, ◌∙◌}
use Rattle.std.specs.Prelude.{not, nat_eq}
use Rattle.noc_columns.specs.Channels.{standing_by}
use Rattle.noc_cycles.proofs.Common.{channels_of, links_of, starts_by, set_of, member-below, held_at, links_at, Block}
use Rattle.noc_cycles.specs.Taking.{HasInjected, MaySend}
use Rattle.noc_cycles.specs.declared.block.Work.{Work}
use Rattle.noc_cycles.proofs.ConcludingLemmas.{all-within, none-there}
use Rattle.noc_cycles.proofs.PartLemmas.{none-above}
use Rattle.noc_cycles.proofs.StillLemmas.{has-taken}
use Rattle.noc_cycles.proofs.taking.take.Goals as goal

pub returns-clause-taken : goal.returns-clause-taken
returns-clause-taken c = λ layout r b fits few shows may.
    let pattern = c.args.pattern.now in
    let ports = pattern.table.ports in
    let all = channels_of ports in
    let links = links_of ports.links in
    let starts = starts_by c.args.starts.now in
    let old = c.args.block.now in
    let came = c.args.work.now.came in
    let mid = c.count_credits.new in
    let sent = c.inject_flits-injected.new in
    let landed = c.land-heading.new in
    let same_came = ap (λ (w : Work). w.came) c.count_credits.ensures.work in
    let a = held_at ports mid.block r in
    let d = held_at ports sent.block r in
    let n = held_at ports (record sent.block { inputs = landed.inputs }) r in
    let flits = set_of all r sent.came.flits in
    let tails = set_of all r sent.came.tails in
    has-taken pattern layout fits starts c.args.cycle (held_at ports old r) b (links_at ports came r) shows may
    (λ i e. member-below all r old.inputs.active i e) (λ k m. none-above links r came.flits k m) (λ o e. member-below links r came.credits o e)
    a d n (set_of all r mid.work.standing.supplied) flits tails (set_of all r sent.came.credits) (set_of all r landed.no_credit) (standing_by (set_of all r) mid.work.standing)
    (standing_by (set_of all r) landed.standing) _
    (c.count_credits.ensures.credits layout r fits few)
    (subst (λ w. HasInjected pattern layout starts c.args.cycle (links_at ports w r) a d flits tails) same_came (c.inject_flits-injected.ensures.injected layout r fits few))
    (c.land-heading.ensures.flits all r (all-within pattern)) refl refl
    (ap (λ w. not (nat_eq (bit_or flits (set_of links r w)) 0)) (c.inject_flits-injected.ensures.credits ∙ ap (λ (w : Work). w.came.credits) c.count_credits.ensures.work))

pub returns-clause-injected : goal.returns-clause-injected
returns-clause-injected c = c.inject_flits-injected.ensures.some

pub returns-clause-heading : goal.returns-clause-heading
returns-clause-heading c = λ none r.
    let pattern = c.args.pattern.now in
    none-there (channels_of pattern.table.ports) r (4 * pattern.frame.groups) c.land-heading.result c.land-heading.new.standing.heads (all-within pattern) (c.land-heading.ensures.heads r) none

-- credits change nothing that sources read
pub inject_flits-injected-requires : goal.inject_flits-injected-requires
inject_flits-injected-requires c =
    let may = c.requires in
    subst (MaySend c.args.pattern.now.table.ports (starts_by c.args.starts.now) c.args.cycle) (sym c.count_credits.ensures.block) (record {
      few = may.few;
      before = may.before;
      earlier = may.earlier;
      punctual = record { due = may.punctual.due; injected = may.punctual.injected };
      each = λ r l. record { one = (may.each r l).one; left = (may.each r l).left; queue = (may.each r l).queue };
    })

pub returns-clause-punctual : goal.returns-clause-punctual
returns-clause-punctual c = record { due = c.inject_flits-injected.ensures.punctual.due; injected = c.inject_flits-injected.ensures.punctual.injected }

pub returns-clause-block : goal.returns-clause-block
returns-clause-block c =
    let new = c.inject_flits-injected.new.block in
    let same = c.inject_flits-injected.ensures.block ∙ ap (λ (b : Block). record b { injection = new.injection; packets = new.packets; sources = new.sources }) c.count_credits.ensures.block in
    λ x. record (same x) { inputs = c.land-heading.new.inputs; outputs = new.outputs; injection = new.injection; marks = new.marks; packets = new.packets; sources = new.sources }

pub returns-clause-work : goal.returns-clause-work
returns-clause-work c =
    let same = c.count_credits.ensures.work in
    λ x. record (same x) {
      came = c.inject_flits-injected.new.came;
      returned = c.count_credits.new.work.returned;
      standing = c.land-heading.new.standing;
      heading = c.land-heading.result;
      verdicts = record ((same x).verdicts) { no_credit = c.land-heading.new.no_credit };
    }
