use Rattle.noc_answers.proofs.ArrivalLemmas.{out-numbers}
use Rattle.noc_answers.proofs.laws.a_packet_that_is_out_has_its_numbers.Goals as goal

pub returns : goal.returns
returns c = λ run p out l. out-numbers run p out l
