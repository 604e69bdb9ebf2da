use Rattle.noc_route.proofs.RisingLemmas.{rising-ranked, ranked-rising}
use Rattle.noc_route.proofs.laws.ranks_of_all_channels_need_only_rise.Goals as goal

pub returns : goal.returns
returns c = λ routes ranks built all. (λ ranked. ranked-rising routes ranks ranked, λ rising. rising-ranked routes ranks built all rising)
