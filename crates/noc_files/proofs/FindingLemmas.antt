-- Before its first cycle a router has found nothing.
use Rattle.std.proofs.Common.{◌≡◌, ℕ, Bool, true, false, List, [], ◌∷◌, ◌++◌, flat_map, refl, ap, ◌∙◌, append-nil}
use Rattle.noc_topo.specs.Shape.{ports}
use Rattle.noc_topo.specs.Lists.{below}
use Rattle.noc_route.specs.Routes.{Routes}
use Rattle.noc_theory.specs.Network.{Run}
use Rattle.noc_theory.specs.Lockstep.{findings_before}
use Rattle.noc_files.specs.Channels.{is_input, over_port, over_router}
use Rattle.noc_files.specs.Findings.{finding_header, finding_report, findings_text, found_line}

found_nothing : (u : Run) (router : ℕ) → u.count ≡ 0 → findings_before u.net u.count router ≡ []
found_nothing u router first = ap (λ n. findings_before u.net n router) first

said_nothing : {X : Type 0} (f : ℕ → List X) → ((k : ℕ) → f k ≡ []) → (ks : List ℕ) → flat_map f ks ≡ []
said_nothing f none [] = refl
said_nothing f none (k ∷ ks) = rw (none k, said_nothing f none ks) refl

port_silent : (relation : Routes) (router port : ℕ) → over_port relation router (found_line relation []) port ≡ []
port_silent relation router port = by (is_input relation.grid router port) refl
  where
    by : (b : Bool) → is_input relation.grid router port ≡ b → over_port relation router (found_line relation []) port ≡ []
    by true open_port = rw open_port (said_nothing (found_line relation [] port) (λ vc. refl) (below relation.vcs))
    by false shut = rw shut refl

pub header_alone : (u : Run) (router : ℕ) → u.count ≡ 0 → findings_text u router ≡ finding_header
header_alone u router first =
    let relation = u.net.relation in
    let none : over_router relation router (found_line relation []) ≡ [] = said_nothing (over_port relation router (found_line relation [])) (port_silent relation router) (below (ports relation.grid)) in
    ap (finding_report relation router) (found_nothing u router first) ∙ ap (λ (t : List ℕ). finding_header ++ t) none ∙ append-nil finding_header
