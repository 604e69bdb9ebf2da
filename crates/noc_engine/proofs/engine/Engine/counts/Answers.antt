use Rattle.std.proofs.Common.{arith}
use Rattle.noc_engine.proofs.EngineLemmas.{engine-shows}
use Rattle.noc_engine.proofs.ReaderLemmas.{counts-are, counts-fit}
use Rattle.noc_engine.proofs.engine.Engine.counts.Goals as goal

pub overflow_mul-channel : goal.overflow_mul-channel
overflow_mul-channel c =
    let u = c.args.self.now in
    let shows = engine-shows c.self.inside c.self.invariant u c.self.view_is in
    let fits = counts-fit u.net u.count shows.0 c.self.inside.columns shows.1 c.args.router c.args.port c.args.vc c.requires.router c.requires.port c.requires.vc in
    omega (arith, fits.0, fits.1)

pub overflow_add-channel : goal.overflow_add-channel
overflow_add-channel c =
    let u = c.args.self.now in
    let shows = engine-shows c.self.inside c.self.invariant u c.self.view_is in
    let fits = counts-fit u.net u.count shows.0 c.self.inside.columns shows.1 c.args.router c.args.port c.args.vc c.requires.router c.requires.port c.requires.vc in
    omega (arith, fits.0, fits.1)

pub index-counts-requires : goal.index-counts-requires
index-counts-requires c =
    let u = c.args.self.now in
    let shows = engine-shows c.self.inside c.self.invariant u c.self.view_is in
    let fits = counts-fit u.net u.count shows.0 c.self.inside.columns shows.1 c.args.router c.args.port c.args.vc c.requires.router c.requires.port c.requires.vc in
    omega (arith, fits.2, c.self.inside.columns.tile.counts.ok.0)

pub counts_of-requires-clause-router : goal.counts_of-requires-clause-router
counts_of-requires-clause-router c = omega arith

pub counts_of-requires-clause-channel : goal.counts_of-requires-clause-channel
counts_of-requires-clause-channel c =
    let u = c.args.self.now in
    let shows = engine-shows c.self.inside c.self.invariant u c.self.view_is in
    (counts-fit u.net u.count shows.0 c.self.inside.columns shows.1 c.args.router c.args.port c.args.vc c.requires.router c.requires.port c.requires.vc).0

pub index-block-requires : goal.index-block-requires
index-block-requires c =
    let u = c.args.self.now in
    let shows = engine-shows c.self.inside c.self.invariant u c.self.view_is in
    let fits = counts-fit u.net u.count shows.0 c.self.inside.columns shows.1 c.args.router c.args.port c.args.vc c.requires.router c.requires.port c.requires.vc in
    omega (arith, fits.3, c.self.inside.columns.tile.blocks.ok.0)

pub returns : goal.returns
returns c =
    let u = c.args.self.now in
    let shows = engine-shows c.self.inside c.self.invariant u c.self.view_is in
    counts-are u.net u.count shows.0 c.self.inside.columns shows.1 c.args.router c.args.port c.args.vc c.index-counts.result.now c.index-block.result.now c.counts_of.result c.requires.router c.requires.port c.requires.vc c.index-counts.ensures c.index-block.ensures c.counts_of.ensures
