use Rattle.std.proofs.Common.{IsUtf8, length}
use Rattle.noc_commands.proofs.NameLemmas.{IsRead}
use Rattle.noc_commands.proofs.verdicts.VerdictSet.named.Given as goal

abbrev pub invariant-names : goal.invariant-names
invariant-names l = record {
  read : IsRead l.fn.text l.rest l.set;
  utf8 : IsUtf8 l.rest;
}

abbrev pub decreases-names : goal.decreases-names
decreases-names l = length l.rest
