use Rattle.noc_theory_cycles.proofs.OpeningLemmas.{all-open, node-opens}
use Rattle.noc_theory_cycles.proofs.opened.opened_blocks_show_the_network.Goals as goal

pub returns-clause-one : goal.returns-clause-one
returns-clause-one c = λ net pattern firsts b r block setup of are opened l. node-opens net setup pattern of firsts are b r block opened l

pub returns-clause-all : goal.returns-clause-all
returns-clause-all c = λ net pattern firsts blocks block setup of are enough opened. all-open net setup pattern of firsts are blocks block enough opened
