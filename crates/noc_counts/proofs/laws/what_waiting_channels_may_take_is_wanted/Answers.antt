use Rattle.noc_counts.proofs.WantedLemmas.{all-wanted}
use Rattle.noc_counts.proofs.laws.what_waiting_channels_may_take_is_wanted.Goals as goal

pub returns : goal.returns
returns c = λ count cycle up no_credit v b pattern layout starts a standing is shows. all-wanted pattern layout starts cycle up b a standing no_credit shows count v is
