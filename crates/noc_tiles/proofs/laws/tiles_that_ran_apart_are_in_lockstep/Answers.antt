use Rattle.noc_tiles.proofs.ClosingLemmas.{closing, closing-puts}
use Rattle.noc_tiles.proofs.laws.tiles_that_ran_apart_are_in_lockstep.Goals as goal

pub returns-clause-lockstep : goal.returns-clause-lockstep
returns-clause-lockstep c = λ net n k m tiles t ran l. closing net n k m tiles ran t l

pub returns-clause-in_flight : goal.returns-clause-in_flight
returns-clause-in_flight c = λ net n k m tiles t i ran l h. closing-puts net n k m tiles ran t i l h
