-- An end of a ring that is looked at several times.
use Rattle.std.proofs.Common.{◌∙◌}
use Rattle.rtrb.specs.Ring.{SameConsumer}
use Rattle.rtrb.specs.declared.consumer.Consumer.{Consumer}

module _ {T A P : Type 0} (a b c : Consumer T A P) where
  -- it stays the same end
  pub same-after : SameConsumer a b → SameConsumer b c → SameConsumer a c
  same-after first second = ((second.0.0 ∙ first.0.0, second.0.1 ∙ first.0.1, second.0.2 ∙ first.0.2, second.0.3 ∙ first.0.3), second.1 ∙ first.1)
