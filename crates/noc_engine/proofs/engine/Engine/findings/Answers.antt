use Rattle.std.proofs.Common.{◌≡◌, ap, arith, length}
use Rattle.noc_engine.proofs.EngineLemmas.{engine-found, engine-shows}
use Rattle.noc_engine.proofs.ReaderLemmas.{found-fits, found-none, found-read}
use Rattle.noc_engine.proofs.engine.Engine.findings.Goals as goal

pub overflow_mul-channels : goal.overflow_mul-channels
overflow_mul-channels c =
    let u = c.args.self.now in
    let shows = engine-shows c.self.inside c.self.invariant u c.self.view_is in
    let fits = found-fits u.net u.count shows.0 c.self.inside.columns shows.1 c.args.router c.requires in
    omega (arith, fits.0)

pub overflow_add-result : goal.overflow_add-result
overflow_add-result c =
    let u = c.args.self.now in
    let shows = engine-shows c.self.inside c.self.invariant u c.self.view_is in
    let fits = found-fits u.net u.count shows.0 c.self.inside.columns shows.1 c.args.router c.requires in
    omega (arith, fits.0)

pub slice_bounds-result-end-2 : goal.slice_bounds-result-end-2
slice_bounds-result-end-2 c =
    let u = c.args.self.now in
    let shows = engine-shows c.self.inside c.self.invariant u c.self.view_is in
    let fits = found-fits u.net u.count shows.0 c.self.inside.columns shows.1 c.args.router c.requires in
    let long : length c.deref.result.now ≡ length c.self.inside.columns.found.items = ap length c.deref.ensures.value in
    omega (arith, fits.1, long)

pub returns-then-self-eq0 : goal.returns-then-self-eq0
returns-then-self-eq0 c =
    let u = c.args.self.now in
    let shows = engine-shows c.self.inside c.self.invariant u c.self.view_is in
    found-none u.net u.count shows.0 c.self.inside.columns shows.1 c.args.router c.if-self-eq0.true

pub returns : goal.returns
returns c =
    let u = c.args.self.now in
    let shows = engine-shows c.self.inside c.self.invariant u c.self.view_is in
    found-read u.net u.count shows.0 c.self.inside.columns shows.1 c.args.router c.deref.result.now (engine-found c.self.inside c.self.invariant u c.self.view_is) c.requires c.if-self-eq0.false c.deref.ensures.value
