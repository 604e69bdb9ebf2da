use Rattle.std.proofs.Common.{◌≡◌, ◌∙◌, ℕ, ◌+◌, ◌*◌, ◌<◌, List, [], ◌∷◌, ◌++◌, arith, decimal, rules, append_assoc, append-nil}
use Rattle.noc_view.specs.Names.{verdict_name}
use Rattle.noc_files.specs.Ports.{name_of_port}
use Rattle.noc_files.specs.Labels.{channel_text}
use Rattle.noc_files.specs.Writing.{comma, dash_or, text_of_pieces}
use Rattle.noc_files.proofs.LabelLemmas.{name_known, text_placed, label_read}
use Rattle.noc_files.proofs.labels.Labels.add_verdict.Goals as goal

pieces : (page name vc verdict packet c : List ℕ)
    → (((page ++ text_of_pieces (name ∷ c ∷ vc ∷ [])) ++ (c ++ verdict ++ c)) ++ packet) ++ c ≡ page ++ text_of_pieces (name ∷ c ∷ vc ∷ c ∷ verdict ∷ c ∷ packet ∷ c ∷ [])
pieces page name vc verdict packet c = simp (append_assoc, append-nil)

pub returns-clause-added : goal.returns-clause-added
returns-clause-added c =
    let labels = c.args.self.now in
    let said = c.requires.labels in
    let g = c.args.relation.now.grid in
    let port = c.args.port in
    let vc = c.args.vc in
    let place : ℕ = port * 8 + vc in
    let inside : place < 56 = omega (arith, c.ports.ensures.few, c.ports.ensures.value, c.if-prove.false, c.requires.vc) in
    let first = label_read labels.inputs place c.index-self-port.result (channel_text g 8 comma place) (said.inputs.said place inside)
    ∙ text_placed g comma port vc c.requires.vc ∙ name_known g comma port vc c.requires.port in
    let packet : c.map.result ≡ c.args.finding.now.packet = search rules in
    rw (c.add_byte.ensures.added, c.add_or.ensures.added, packet, c.add_label-2.ensures.added, c.verdict.ensures, c.add_label.ensures.added, first)
    (pieces c.args.page.now (name_of_port g port) (decimal vc) (verdict_name c.args.finding.now.verdict) (dash_or c.args.finding.now.packet) comma)
