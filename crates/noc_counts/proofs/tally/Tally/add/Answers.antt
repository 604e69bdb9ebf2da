use Rattle.noc_columns.specs.Words.{word}
use Rattle.noc_counts.proofs.TallyLemmas.{joined}
use Rattle.noc_counts.proofs.tally.Tally.add.Goals as goal

pub returns : goal.returns
returns c = λ few j k l.
    let self = c.args.self.now in
    let sets = c.args.sets.now in
    joined (word j self.ones) (word j self.twos) (word j sets.first.now) (word j sets.second.now) (word j sets.third.now) (word j sets.fourth.now) k _ _ _ _ _
    (c.add_four.ensures.ones j l) (c.add_four.ensures.twos j l) (c.add_four.ensures.carry j l) (c.add_carry.ensures few j k l)
