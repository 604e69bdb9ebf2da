use Rattle.std.proofs.Common.{◌∙◌, ap, map}
use Rattle.noc_columns.specs.Routing.{header_of}
use Rattle.noc_engine.specs.Origins.{setup_by}
use Rattle.noc_engine.proofs.OpenedLemmas.{plan-is}
use Rattle.noc_engine.proofs.open.plan_of.Goals as goal

pub returns : goal.returns
returns c =
    plan-is (setup_by c.args.setup.now) _ c.shape-shape.result.now c.vcs-vcs.result c.div_ceil-count.result c.nodes.result c.shape-shape.ensures.value
    c.vcs-vcs.ensures.value c.nodes.ensures.value c.nodes.ensures.some c.nodes.ensures.few c.div_ceil-count.ensures c.of.ensures c.in-Ok.ensures c.requires.starts c.requires.short
    (c.in-Ok-all_headers.ensures ∙ ap (map header_of) c.deref.ensures.value)
