use Rattle.std.proofs.Common.{◌≡◌, ◌+◌, ◌∙◌, ap, arith, sym, inl, inr, set, slice_index, get_or-set_other, get_or-set_same}
use Rattle.std.proofs.lemmas.Bool.{cases_lt}
use Rattle.noc_columns.specs.Words.{word}
use Rattle.noc_columns.proofs.PortLemmas.{link-index, local-place}
use Rattle.noc_columns.proofs.ports.RouterPorts.at.Goals as goal

pub returns : goal.returns
returns c = λ p l.
    let ports = c.args.self.now in
    let v = c.args.v in
    let words = c.args.words.now in
    let read = c.read_side.new.by_port in
    let last = word (ports.local.first + v) words in
    elim (cases_lt p ports.links.width) [
      | inl m ↦ get_or-set_other read ports.links.width p last 0 (omega (arith, m)) ∙ c.read_side.ensures p m ∙ sym (ap (λ i. word i words) (link-index ports p v m))
      | inr m ↦
          let same : p ≡ ports.links.width = omega (arith, l, m) in
          ap (slice_index (set read ports.links.width last)) same
          ∙ get_or-set_same read ports.links.width last 0 (omega arith)
          ∙ sym (ap (λ i. word i words) (local-place ports p v m (omega arith)))
    ]
