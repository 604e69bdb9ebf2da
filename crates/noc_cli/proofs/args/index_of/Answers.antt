use Rattle.std.specs.Str.Parse.{ExplainsUnsignedError, HasUnsignedDigitsIfOk}
use Rattle.noc_cli.proofs.SaidLemmas.{said_if_any}
use Rattle.noc_cli.proofs.args.index_of.Goals as goal

pub returns : goal.returns
returns c = said_if_any (λ bs r. ExplainsUnsignedError 10 bs r) (λ bs r. HasUnsignedDigitsIfOk bs r) _ c.get_one.result c.get_one.ensures.none c.get_one.ensures.value
