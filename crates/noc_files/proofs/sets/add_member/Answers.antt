use Rattle.std.proofs.Common.{◌∙◌, ℕ, zero, suc, ◌*◌, ◌/◌, ◌%◌, ◌<◌, ◌≤◌, List, [], ◌∷◌, arith, codes, decimal, refl, append_assoc}
use Rattle.std.specs.Prelude.{if◌then◌else◌}
use Rattle.noc_topo.specs.Shape.{ports}
use Rattle.noc_route.proofs.EntryLemmas.{index-port}
use Rattle.noc_files.specs.Ports.{name_of_port}
use Rattle.noc_files.specs.Labels.{channel_text}
use Rattle.noc_files.specs.Writing.{text_of_pieces}
use Rattle.noc_files.proofs.LabelLemmas.{name_known, label_read}
use Rattle.noc_files.proofs.sets.add_member.Goals as goal

-- where there are channels, each port has some
some_each : (ports vcs index : ℕ) → index < ports * vcs → 1 ≤ vcs
some_each ports zero index l = absurd (omega (arith, l))
some_each ports (suc vcs) index l = omega arith

pub returns-clause-added : goal.returns-clause-added
returns-clause-added c =
    let g = c.args.relation.now.grid in
    let vcs = c.args.relation.now.vcs in
    let i = c.args.index in
    let page = c.args.page.now in
    let gap : List ℕ = if c.args.has_some then codes " " else [] in
    let inside = index-port i (ports g * vcs) (ports g) vcs (some_each (ports g) vcs i c.requires.index) refl c.requires.index in
    let is = label_read c.args.labels.now.channels i c.index-labels-index.result (channel_text g vcs (codes ".") i) (c.requires.labels.channels.said i c.requires.few) ∙ name_known g (codes ".") (i / vcs) (i % vcs) inside in
    rw (c.add_label.ensures.added, is, c.add_gap.ensures.added) (append_assoc page gap (text_of_pieces (name_of_port g (i / vcs) ∷ codes "." ∷ decimal (i % vcs) ∷ [])))
