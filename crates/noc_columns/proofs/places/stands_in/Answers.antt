use Rattle.std.proofs.Common.{◌∙◌, arith, sym}
use Rattle.noc_columns.proofs.PlaceLemmas.{stands-beyond, stands-none, stands-not, stands-some}
use Rattle.noc_columns.proofs.places.stands_in.Goals as goal

pub returns-then-node-nodes : goal.returns-then-node-nodes
returns-then-node-nodes c =
    stands-beyond c.args.shape.now c.args.node c.args.port c.args.to c.args.round (omega (arith, c.nodes.ensures.value, c.if-node-nodes.true))

pub returns-then-not-leads : goal.returns-then-not-leads
returns-then-not-leads c =
    stands-not c.args.shape.now c.args.node c.args.port c.args.to c.args.round (omega (arith, c.nodes.ensures.value, c.if-node-nodes.false)) (sym c.leads.ensures ∙ c.if-not-leads.true)

pub returns-in-Some : goal.returns-in-Some
returns-in-Some c =
    stands-some c.args.shape.now c.args.node c.args.port c.args.to c.args.round c.nodes.ensures.grid (omega (arith, c.nodes.ensures.value, c.if-node-nodes.false)) c.requires
    (sym c.leads.ensures ∙ c.if-not-leads.false) c.in-Some.there _ (sym c.neighbour.ensures.value ∙ c.in-Some.is)

pub returns-in-None : goal.returns-in-None
returns-in-None c =
    absurd (stands-none c.args.shape.now c.args.node c.args.port c.args.to c.args.round c.nodes.ensures.grid (omega (arith, c.nodes.ensures.value, c.if-node-nodes.false)) c.requires
    (sym c.leads.ensures ∙ c.if-not-leads.false) (sym c.neighbour.ensures.value ∙ c.in-None.is))
