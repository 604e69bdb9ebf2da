use Rattle.noc_theory_bits.proofs.bits.OpeningLemmas.{network-opens}
use Rattle.noc_theory_bits.proofs.cycles.opened_words_show_the_network.Goals as goal

pub returns : goal.returns
returns c = λ count net layout w made is_layout opened. network-opens count net made layout is_layout w opened
