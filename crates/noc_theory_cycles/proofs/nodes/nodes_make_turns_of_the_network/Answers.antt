use Rattle.noc_theory_cycles.proofs.NodeLemmas.{node-nothing, node-sends, node-turn}
use Rattle.noc_theory_cycles.proofs.nodes.nodes_make_turns_of_the_network.Goals as goal

pub returns-clause-turn : goal.returns-clause-turn
returns-clause-turn c = λ count net layout pattern n node b t fits turn. node-turn count net layout pattern n node b t fits turn

pub returns-clause-sends : goal.returns-clause-sends
returns-clause-sends c = λ count net layout pattern n node port links h b t setup few fits is turn.
    node-sends count net layout pattern n node links h b setup few fits is t turn port

pub returns-clause-nothing : goal.returns-clause-nothing
returns-clause-nothing c = λ count net layout pattern n node links h b t setup few fits is turn.
    node-nothing count net layout pattern n node links h b setup few fits is t turn
