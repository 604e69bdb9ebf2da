use Rattle.std.proofs.Common.{◌≡◌, ◌-◌, List, [], get_or, length-set, ap, refl, ◌∙◌, arith}
use Rattle.noc_packet.specs.declared.packet.Beat.{Beat}
use Rattle.noc_tiles.specs.Partition.{own_beat}
use Rattle.noc_tiles.proofs.OwnLemmas.{own-more}
use Rattle.noc_tiles.proofs.partition.own_beats.Goals as goal

pub returns-clause-beats : goal.returns-clause-beats
returns-clause-beats c = λ r q.
    let v = c.loop-r.invariant in
    let low = v.low in
    let all : c.loop-r.r - c.args.first ≡ c.args.count = omega (arith, c.loop-r-test.false, c.loop-r.auto.r-end) in
    v.rows r q ∙ ap (λ n. own_beat c.args.first n c.args.beats.now r q) all

pub loop-r-preserved : goal.loop-r-preserved
loop-r-preserved c =
    let l = c.loop-r in
    let v = l.invariant in
    let row : List Beat = get_or c.args.beats.now l.r [] in
    record {
      low = omega (arith, v.low);
      size = length-set l.all.items l.r row ∙ v.size;
      rows = own-more c.args.first l.r c.args.beats.now l.all.items row v.low (omega (arith, c.loop-r-test.true, c.requires, v.size)) refl v.rows;
    }
