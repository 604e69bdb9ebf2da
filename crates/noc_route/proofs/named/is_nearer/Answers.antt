use Rattle.std.proofs.Common.{sym, ◌∙◌}
use Rattle.noc_route.proofs.AdaptiveLemmas.{nearer-found}
use Rattle.noc_route.proofs.named.is_nearer.Goals as goal

pub returns-then-goes_up : goal.returns-then-goes_up
returns-then-goes_up c = λ r t way.
    nearer-found c.args.map.now.sizes.shape c.args.way.now.here c.args.way.now.there c.args.map.now.last r t c.args.port _ c.args.map.now.sizes.grid way.here way.there c.args.map.now.corner c.requires.port
    c.if-way-i.false (sym c.goes_up.ensures ∙ c.if-goes_up.true)

pub returns-else-goes_up : goal.returns-else-goes_up
returns-else-goes_up c = λ r t way.
    nearer-found c.args.map.now.sizes.shape c.args.way.now.here c.args.way.now.there c.args.map.now.last r t c.args.port _ c.args.map.now.sizes.grid way.here way.there c.args.map.now.corner c.requires.port
    c.if-way-i.false (sym c.goes_up.ensures ∙ c.if-goes_up.false)
