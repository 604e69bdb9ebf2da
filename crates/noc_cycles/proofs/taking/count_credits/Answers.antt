use Rattle.std.proofs.Common.{[], refl, slice_index_or}
use Rattle.noc_columns.specs.Channels.{outputs_by, returned_by}
use Rattle.noc_cycles.proofs.Common.{channels_of, links_of, set_of, word, held_at}
use Rattle.noc_cycles.proofs.CreditLemmas.{has-credits, none-home}
use Rattle.noc_cycles.proofs.ConcludingLemmas.{all-within, links-within}
use Rattle.noc_cycles.proofs.PartLemmas.{none-above}
use Rattle.noc_cycles.proofs.taking.count_credits.Goals as goal

pub free_links-requires : goal.free_links-requires
free_links-requires c = λ none r few. none-home c.args.pattern.now r c.take_credits-home.result c.take_credits-home.new.returned.home none (c.take_credits-home.ensures.home r)

pub returns-clause-credits : goal.returns-clause-credits
returns-clause-credits c = λ layout r fits few.
    let pattern = c.args.pattern.now in
    let ports = pattern.table.ports in
    let links = links_of ports.links in
    let old = c.args.block.now in
    let h = held_at ports old r in
    let kept = c.free_links.ensures.kept in
    let outputs = outputs_by (set_of links r) c.take_credits-home.new.outputs in
    let marks = c.free_links.new.marks in
    let k = record h {
      outputs = outputs;
      idle = word r marks.idle;
      waiting = word r marks.waiting;
      wanted = word r marks.wanted;
      set = λ j. word j (slice_index_or marks.sets r []);
      turn = λ o. word o (slice_index_or marks.turns r []);
    } in
    has-credits pattern r layout (set_of links r c.args.work.now.came.credits) h k (returned_by (set_of links r) c.take_credits-home.new.returned)
    c.take_credits-home.new.returned.some c.take_credits-home.new.outputs.draining (set_of (channels_of ports) r c.look_up.new.supplied) fits few
    (c.take_credits-home.ensures.credits links r (links-within pattern)) refl refl
    (λ j m. none-above links r old.outputs.draining j m) (c.free_links.ensures.idle r few)
    (λ i. record h {
      outputs = outputs;
      idle = word r marks.idle;
      waiting = word r (kept.waiting i);
      wanted = word r (kept.wanted i);
      set = λ j. word j (slice_index_or (kept.sets i) r []);
      turn = λ o. word o (slice_index_or (kept.turns i) r []);
    })
    (λ i l below in_vc kept. c.look_up.ensures (channels_of ports) r i (all-within pattern) l few below in_vc kept)
