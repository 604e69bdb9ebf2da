use Rattle.std.proofs.Common.{◌≡◌, ◌∙◌, ℕ, ◌+◌, ◌*◌, List, ◌++◌, Option, Some, ap, sym, append_assoc}
use Rattle.std.specs.Prelude.{slice_get}
use Rattle.std.proofs.lemmas.Option.{slice_get-get_or}
use Rattle.noc_topo.specs.Shape.{Grid}
use Rattle.noc_view.specs.declared.finding.Finding.{Finding}
use Rattle.noc_files.specs.Findings.{finding_line, line_if_found, out_name, verdict_text}
use Rattle.noc_files.specs.Writing.{line_end}
use Rattle.noc_files.proofs.findings.FoundLines.add_line.Goals as goal

-- a line that is added piece by piece
line_is : (page : List ℕ) (g : Grid) (port vc : ℕ) (f : Finding) → ((page ++ verdict_text g port vc f) ++ out_name g f.out) ++ line_end ≡ page ++ finding_line g port vc f
line_is page g port vc f = ap (λ (t : List ℕ). t ++ line_end) (append_assoc page (verdict_text g port vc f) (out_name g f.out)) ∙ append_assoc page (verdict_text g port vc f ++ out_name g f.out) line_end

pub returns-clause-said : goal.returns-clause-said
returns-clause-said c =
    let relation = c.args.self.now.relation.now in
    let findings = c.args.self.now.findings.now in
    let page = c.args.page.now in
    let port = c.args.port in
    let vc = c.args.vc in
    let f = c.in-Some.finding.now in
    let there = c.in-Some.ensures.lookup in
    let found = slice_get-get_or findings (port * c.vcs.result + vc) f there.3.0 ∙ ap (λ (h : Finding). Some h) (sym there.1) in
    let at = ap (λ v. slice_get findings (port * v + vc)) c.vcs.ensures.value in
    c.add_byte.ensures.added ∙ ap (λ (t : List ℕ). t ++ line_end) (c.add_out.ensures.added ∙ ap (λ (t : List ℕ). t ++ out_name relation.grid f.out) c.add_verdict.ensures.added)
    ∙ line_is page relation.grid port vc f ∙ ap (λ (o : Option Finding). page ++ line_if_found relation.grid port vc o) (sym found ∙ at)
