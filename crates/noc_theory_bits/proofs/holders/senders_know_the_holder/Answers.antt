use Rattle.noc_theory_bits.proofs.bits.HolderLemmas.{sender-knows}
use Rattle.noc_theory_bits.proofs.holders.senders_know_the_holder.Goals as goal

pub returns : goal.returns
returns c = λ net n s o k p r port made l u named e. sender-knows net made n s o k p r port l u named e
