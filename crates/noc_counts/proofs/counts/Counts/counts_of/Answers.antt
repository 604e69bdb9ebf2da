use Rattle.std.proofs.Common.{◌≡◌, ◌∙◌, ap, subst, sym}
use Rattle.noc_packet.specs.Set.{has_bit}
use Rattle.noc_sets.specs.Counts.{ByVerdict, ten_counts}
use Rattle.noc_topo.specs.Lists.{one_if}
use Rattle.noc_columns.specs.Picks.{channels_of}
use Rattle.noc_columns.specs.Words.{set_of, word}
use Rattle.noc_columns.proofs.SupplyLemmas.{member-is}
use Rattle.noc_counts.specs.Counts.{HasHadIn}
use Rattle.noc_counts.proofs.counts.Counts.counts_of.Goals as goal

pub returns : goal.returns
returns c = λ had is.
    let self = c.args.self.now in
    let r = c.args.router in
    let i = c.args.channel in
    let n = channels_of c.args.table.now.ports in
    let waiting = c.args.block.now.inputs.waiting in
    let index : c.index-index.result ≡ n.index i = c.index-index.ensures.is in
    let waits : one_if (has_bit (set_of n r waiting) i) ≡ c.bit-waits.result =
    ap one_if (member-is n r i waiting c.requires.channel) ∙ ap (λ j. one_if (has_bit (word j waiting) r)) (sym index) ∙ sym c.bit-waits.ensures.count in
    c.with_empty.ensures
    ∙ ap (λ (v : ByVerdict). ten_counts c.args.cycles v)
    (c.totals-nine.ensures.counts had (subst (λ j. HasHadIn self j r c.bit-waits.result had) (sym index) (subst (λ w. HasHadIn self (n.index i) r w had) waits is)))
