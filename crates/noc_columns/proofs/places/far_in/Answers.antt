use Rattle.std.proofs.Common.{◌∙◌, ap, sym, refl, inl, inr}
use Rattle.noc_packet.specs.Set.{has_bit}
use Rattle.noc_packet.proofs.SetLemmas.{has_bit-zero}
use Rattle.noc_columns.proofs.places.far_in.Goals as goal

pub returns-then-to-block : goal.returns-then-to-block
returns-then-to-block c = inl c.if-to-block.true

pub returns-then-mask-eq0 : goal.returns-then-mask-eq0
returns-then-mask-eq0 c = inr (λ r few. sym (c.mask_of-mask.ensures r few) ∙ ap (λ m. has_bit m r) c.if-mask-eq0.true ∙ has_bit-zero r)

pub returns : goal.returns
returns c = (c.if-to-block.false, record { port = refl; block = refl; distance = c.distance_by.ensures.is; mask = c.mask_of-mask.ensures })
