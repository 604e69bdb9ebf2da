use Rattle.std.proofs.Common.{◌≡◌, ◌+◌, ◌*◌, ◌∙◌, ap, arith, sym, inl, inr, set, slice_index}
use Rattle.std.proofs.lemmas.Bool.{cases_lt}
use Rattle.noc_columns.specs.Words.{word}
use Rattle.noc_columns.proofs.PassLemmas.{word-here, word-other}
use Rattle.noc_columns.proofs.PickLemmas.{apart, within}
use Rattle.noc_columns.proofs.PortLemmas.{link-before, link-index, local-place}
use Rattle.noc_columns.proofs.ports.RouterPorts.put.Goals as goal

pub returns-clause-here : goal.returns-clause-here
returns-clause-here c = λ p l.
    let ports = c.args.self.now in
    let v = c.args.v in
    let written = c.write_side.new.words in
    let last = slice_index c.args.by_port.now ports.links.width in
    elim (cases_lt p ports.links.width) [
      | inl m ↦
          let before = link-before ports p v m c.requires (omega arith) in
          ap (λ i. word i (set written (ports.local.first + v) last)) (link-index ports p v m)
          ∙ word-other written (ports.local.first + v) last _ (omega (arith, before))
          ∙ c.write_side.ensures.here p m
      | inr m ↦
          let same : p ≡ ports.links.width = omega (arith, l, m) in
          ap (λ i. word i (set written (ports.local.first + v) last)) (local-place ports p v m (omega arith))
          ∙ word-here written (ports.local.first + v) last (omega arith)
          (let one : ports.local.width ≡ 1 = omega arith in let whole : ports.local.vcs * ports.local.width ≡ ports.local.vcs * 1 = ap (λ w. ports.local.vcs * w) one in omega (arith, whole))
          ∙ ap (slice_index c.args.by_port.now) (sym same)
    ]

pub returns-clause-others : goal.returns-clause-others
returns-clause-others c = λ p k l few other.
    let ports = c.args.self.now in
    let v = c.args.v in
    let old = c.args.words.now in
    let written = c.write_side.new.words in
    let last = slice_index c.args.by_port.now ports.links.width in
    let now = set written (ports.local.first + v) last in
    elim (cases_lt p ports.links.width) [
      | inl m ↦
          let before = link-before ports p k m few (omega arith) in
          ap (λ i. word i now) (link-index ports p k m)
          ∙ word-other written (ports.local.first + v) last _ (omega (arith, before))
          ∙ c.write_side.ensures.others _ (elim (cases_lt k v) [
            | inl b ↦ let far = apart k v ports.links.width p b m in inl (omega (arith, far))
            | inr a ↦ let far = within v k ports.links.width (omega (arith, a, other)) in inr (omega (arith, far))
          ])
          ∙ ap (λ i. word i old) (sym (link-index ports p k m))
      | inr m ↦
          let place = local-place ports p k m (omega arith) in
          let end = within v ports.links.vcs ports.links.width c.requires in
          ap (λ i. word i now) place
          ∙ word-other written (ports.local.first + v) last _ (omega (arith, other))
          ∙ c.write_side.ensures.others _ (inr (omega (arith, end)))
          ∙ ap (λ i. word i old) (sym place)
    ]
