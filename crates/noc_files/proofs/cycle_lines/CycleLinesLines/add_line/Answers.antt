use Rattle.std.proofs.Common.{◌≡◌, ◌∙◌, ℕ, ◌+◌, ◌*◌, Bool, Bor, List, [], ◌∷◌, ◌++◌, Option, Some, None, ap, ap₂, decimal, option_map, refl, sym, append_assoc, append-nil}
use Rattle.std.specs.Prelude.{option_and_then, slice_get, unwrap_or, if◌then◌else◌}
use Rattle.noc_route.specs.Routes.{Routes}
use Rattle.noc_view.specs.declared.finding.Finding.{Finding}
use Rattle.noc_files.specs.Trace.{is_wanted, kept_line, told_text, trace_line, traced_finding}
use Rattle.noc_files.specs.Writing.{comma, text_of_pieces}
use Rattle.noc_files.specs.declared.trace.Traced.{Traced}
use Rattle.noc_files.proofs.TraceCycleLemmas.{line_is}
use Rattle.noc_files.proofs.cycle_lines.CycleLinesLines.add_line.Goals as goal
use Rattle.noc_files.proofs.cycle_lines.CycleLinesLines.add_line.Goals.{After-is_wanted}

shown : (o : Option (Bor Finding)) (d : Bor Finding) → (unwrap_or o d).now ≡ unwrap_or (option_map (λ b. b.now) o) d.now
shown None d = refl
shown (Some b) d = refl

pieces : (page n r c told : List ℕ) → (((page ++ (n ++ c)) ++ r) ++ c) ++ told ≡ page ++ (text_of_pieces (n ∷ c ∷ r ∷ c ∷ []) ++ told)
pieces page n r c told = simp (append_assoc, append-nil)

-- the line, if lines with its verdict are written, is that of the trace
kept : (c : After-is_wanted) → let u = c.args.self.now.network.now in
    (if c.is_wanted.result then trace_line u.net c.args.self.now.cycle c.args.router c.args.port c.args.vc c.unwrap_or-finding.result.now else [])
    ≡ kept_line u c.args.self.now.trace.now.0 c.args.self.now.trace.now.1 c.args.self.now.cycle c.args.router c.args.port c.args.vc
kept c =
    let s = c.args.self.now in
    let u = s.network.now in
    let r = c.args.router in
    let port = c.args.port in
    let vc = c.args.vc in
    let i : ℕ = port * c.vcs.result + vc in
    let f = c.unwrap_or-finding.result.now in
    let packet = ap (λ (t : Traced × List (List Finding)). t.0.packet) c.trace.view_is in
    let before = c.told_at-before_it.ensures ∙ ap₂ (λ (p : Option ℕ) (o : Option Finding). option_and_then (traced_finding p) o) packet (c.before-kept.ensures i) in
    let now = c.told_at-now.ensures ∙ ap₂ (λ (p : Option ℕ) (o : Option Finding). option_and_then (traced_finding p) o) packet (ap (λ (xs : List Finding). slice_get xs i) c.findings.ensures) in
    let place = ap (λ v. port * v + vc) (c.vcs.ensures.value ∙ ap (λ (relation : Routes). relation.vcs) c.relation.ensures) in
    let is = ap (λ (b : Bor Finding). b.now) c.unwrap_or-finding.ensures ∙ shown c.told_at-now.result _ in
    let wanted = c.is_wanted.ensures ∙ ap (λ (t : Traced × List (List Finding)). is_wanted t.0.verdicts f.verdict) c.trace.view_is in
    ap (λ (b : Bool). if b then trace_line u.net s.cycle r port vc f else []) wanted
    ∙ line_is u s.trace.now.0 s.trace.now.1 s.cycle r port vc i _ _ f place before now (sym c.is_same.ensures ∙ c.if-is_same.false) is

pub returns-then-not-is_wanted-clause-said : goal.returns-then-not-is_wanted-clause-said
returns-then-not-is_wanted-clause-said c =
    let s = c.args.self.now in
    let page = c.args.page.now in
    let line = trace_line s.network.now.net s.cycle c.args.router c.args.port c.args.vc c.unwrap_or-finding.result.now in
    let none = ap (λ (b : Bool). if b then line else []) (sym c.if-not-is_wanted.true) ∙ kept (goal.at.returns-then-not-is_wanted-clause-said c).After-is_wanted in
    sym (append-nil page) ∙ ap (λ (t : List ℕ). page ++ t) none

pub returns-clause-said : goal.returns-clause-said
returns-clause-said c =
    let s = c.args.self.now in
    let u = s.network.now in
    let page = c.args.page.now in
    let r = c.args.router in
    let told = told_text u.net r c.args.port c.args.vc c.unwrap_or-finding.result.now in
    let some = trace_line u.net s.cycle r c.args.port c.args.vc c.unwrap_or-finding.result.now in
    let line = ap (λ (b : Bool). if b then some else []) (sym c.if-not-is_wanted.false) ∙ kept (goal.at.returns-clause-said c).After-is_wanted in
    c.add_told.ensures.added ∙ ap (λ (t : List ℕ). t ++ told) (c.add_column.ensures.added ∙ ap (λ (t : List ℕ). t ++ decimal r ++ comma) (c.add_label.ensures.added ∙ ap (λ (t : List ℕ). page ++ t) s.numbered))
    ∙ pieces page (decimal s.cycle) (decimal r) comma told ∙ ap (λ (t : List ℕ). page ++ t) line
