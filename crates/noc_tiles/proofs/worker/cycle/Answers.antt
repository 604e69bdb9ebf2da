use Rattle.std.proofs.Common.{refl}
use Rattle.noc_tiles.proofs.PhaseLemmas.{edge-can, rest-can, within3, inner-can, ready-again, has-cycled}
use Rattle.noc_tiles.proofs.worker.cycle.Goals as goal

pub finish_some-requires : goal.finish_some-requires
finish_some-requires g c =
    let t = c.if-not-take.ensures.taken refl in
    edge-can c.args.relation.now c.args.cycle c.args.inner t.0 c.args.tile.now c.take.new.tile c.requires.ready c.requires.inner t.1

pub finish_some-requires-2 : goal.finish_some-requires-2
finish_some-requires-2 g c =
    let t = c.if-not-take.ensures.taken refl in
    rest-can c.args.relation.now c.args.cycle c.args.inner t.0 c.args.tile.now c.take.new.tile c.requires.ready c.requires.inner t.1 c.len-count.result c.len-count.ensures
    c.finish_some.new.tile c.finish_some.ensures

pub send-requires : goal.send-requires
send-requires g c =
    let t = c.if-not-take.ensures.taken refl in
    within3 c.args.relation.now c.args.cycle c.args.inner t.0 c.args.tile.now c.take.new.tile c.requires.ready c.requires.inner t.1 c.len-count.result c.len-count.ensures
    c.finish_some.new.tile c.finish_some.ensures c.finish_some-2.new.tile c.finish_some-2.ensures

pub finish_some-requires-3 : goal.finish_some-requires-3
finish_some-requires-3 g c =
    let t = c.if-not-take.ensures.taken refl in
    inner-can c.args.relation.now c.args.cycle c.args.inner t.0 c.args.tile.now c.take.new.tile c.requires.ready c.requires.inner t.1 c.len-count.result c.len-count.ensures
    c.finish_some.new.tile c.finish_some.ensures c.finish_some-2.new.tile c.finish_some-2.ensures c.send.new.tile (c.if-not-send.ensures.sent refl)

pub returns-clause-ran : goal.returns-clause-ran
returns-clause-ran g c h =
    let t = c.if-not-take.ensures.taken refl in (
      ready-again c.args.relation.now c.args.cycle c.args.inner t.0 c.args.tile.now c.take.new.tile c.requires.ready c.requires.inner t.1 c.len-count.result c.len-count.ensures
          c.finish_some.new.tile c.finish_some.ensures c.finish_some-2.new.tile c.finish_some-2.ensures c.send.new.tile (c.if-not-send.ensures.sent refl) c.finish_some-3.new.tile c.finish_some-3.ensures,
      (
        t.0,
        has-cycled c.args.relation.now c.args.cycle c.args.inner t.0 c.args.tile.now c.take.new.tile c.requires.ready c.requires.inner t.1 c.len-count.result c.len-count.ensures
            c.finish_some.new.tile c.finish_some.ensures c.finish_some-2.new.tile c.finish_some-2.ensures c.send.new.tile (c.if-not-send.ensures.sent refl) c.finish_some-3.new.tile c.finish_some-3.ensures,
      ),
    )
