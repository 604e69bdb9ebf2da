use Rattle.std.proofs.Common.{◌∙◌, ap, arith, sym, inl, inr, slice_index}
use Rattle.std.proofs.lemmas.Bool.{cases_lt, true≢false}
use Rattle.noc_packet.specs.Set.{has_bit}
use Rattle.noc_packet.proofs.SetLemmas.{has_bit-zero}
use Rattle.noc_sets.proofs.MemberLemmas.{above_64}
use Rattle.noc_columns.specs.Picks.{port_of}
use Rattle.noc_columns.specs.Words.{word}
use Rattle.noc_columns.proofs.PlaceLemmas.{zeros}
use Rattle.noc_columns.proofs.PortLemmas.{none-both}
use Rattle.noc_columns.proofs.switch.fours_of.Goals as goal

pub returns-then-below-le4 : goal.returns-then-below-le4
returns-then-below-le4 c = λ q r l.
    let n = port_of c.args.outputs.now q in
    let taken = c.args.taken.now in
    let fours = c.args.fours.now in
    ap (λ w. has_bit w r) (zeros 8 q)
    ∙ has_bit-zero r
    ∙ sym (none-both n.size (λ p. has_bit (word (n.index p) taken) r) (λ p. has_bit (slice_index fours p) r) (λ p m is.
    elim (cases_lt r 64) [
      | inl few ↦ c.requires (omega arith) q p r l m few is
      | inr u ↦ absurd (true≢false (sym is ∙ above_64 (word (n.index p) taken) r (c.fits-taken (n.index p)) u))
    ]))
