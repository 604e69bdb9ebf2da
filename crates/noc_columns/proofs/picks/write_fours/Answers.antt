use Rattle.std.proofs.Common.{◌∙◌, ap, arith, sym, inl, inr}
use Rattle.std.proofs.lemmas.Bool.{cases_lt, true≢false}
use Rattle.noc_packet.specs.Set.{has_bit}
use Rattle.noc_packet.proofs.SetLemmas.{has_bit-zero}
use Rattle.noc_sets.proofs.MemberLemmas.{above_64}
use Rattle.noc_columns.specs.Picks.{port_of}
use Rattle.noc_columns.specs.Words.{word}
use Rattle.noc_columns.proofs.PlaceLemmas.{zeros}
use Rattle.noc_columns.proofs.PortLemmas.{none-both}
use Rattle.noc_columns.proofs.picks.write_fours.Goals as goal

pub returns-then-below-le4 : goal.returns-then-below-le4
returns-then-below-le4 c = λ p r l.
    let n = port_of c.args.ports.now p in
    let set = c.args.set.now in
    let of = c.args.of.now in
    ap (λ w. has_bit w r) (c.write_ports.ensures p l ∙ zeros 8 p)
    ∙ has_bit-zero r
    ∙ sym (none-both n.size (λ k. has_bit (word (n.index k) set) r) (λ k. has_bit (word (n.index k) of) r) (λ k m is.
    elim (cases_lt r 64) [
      | inl few ↦ c.requires (omega arith) p k r l m few is
      | inr u ↦ absurd (true≢false (sym is ∙ above_64 (word (n.index k) set) r (c.fits-set (n.index k)) u))
    ]))
