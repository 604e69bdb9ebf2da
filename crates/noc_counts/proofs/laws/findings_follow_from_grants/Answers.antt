use Rattle.std.proofs.Common.{◌+◌, ◌*◌, ◌∙◌, refl, sym}
use Rattle.noc_sets.specs.Grants.{asked_of}
use Rattle.noc_counts.specs.Findings.{outs_of}
use Rattle.noc_counts.proofs.DecidedLemmas.{asks-for-granted, is-told, shows-found}
use Rattle.noc_counts.proofs.FoundLemmas.{found-is}
use Rattle.noc_counts.proofs.laws.findings_follow_from_grants.Goals as goal

pub returns : goal.returns
returns c = λ pattern layout sets s a h n standing decided granted lost arrived left gone v w shows did done wants i.
    let vcs = pattern.table.ports.links.vcs in
    let size = (pattern.table.ports.links.width + 1) * vcs in
    found-is vcs s.filled (outs_of size vcs granted n) s.column s.marks standing decided w n.inputs.waiting granted lost n
    (is-told pattern layout sets s a h standing decided granted lost v.no_credit left shows did v w n arrived gone refl done)
    (shows-found pattern layout sets s a h standing decided granted lost v.no_credit left shows did v w n arrived gone refl done wants.apart (outs_of size vcs granted n)
    (λ i waits. asks-for-granted pattern layout sets s a h standing decided granted lost v.no_credit left shows did v w n arrived gone refl done wants.waiting_below wants.idle_below wants.wanted i waits
    ∙ (λ x. asked_of (outs_of size vcs granted (sym done.rest x)) (s.marks.set i)))) i
