use Rattle.noc_cycles.proofs.UsedLemmas.{some-all}
use Rattle.noc_engine.proofs.turn.some_of.Goals as goal

pub returns : goal.returns
returns c = λ r. some-all c.args.pattern.now r c.some_in.result c.args.words.now (c.some_in.ensures r)
