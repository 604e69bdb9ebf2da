use Rattle.std.proofs.Common.{ℕ, List, refl, subst, sym}
use Rattle.noc_columns.specs.Switch.{PickVcs, Traverses}
use Rattle.noc_columns.specs.declared.channels.Links.{Links}
use Rattle.noc_columns.specs.declared.picks.Picks.{Picks}
use Rattle.noc_columns.specs.declared.ports.RouterPorts.{RouterPorts}
use Rattle.noc_columns.proofs.switch.traverse.Goals as goal

-- what the clause says, of these ports
abbrev Traversed : Picks → List ℕ → List ℕ → List ℕ → Links (List ℕ) → RouterPorts → Type 0
Traversed picks ahead after sends left ports = (r : ℕ) → Traverses ports picks ahead after sends left r

pub traverse_all-requires : goal.traverse_all-requires
traverse_all-requires g c = subst (λ ports. PickVcs ports c.args.picks.now) (sym c.known.ensures) c.requires.vcs

pub traverse_all-requires-then-vcs-eq4 : goal.traverse_all-requires-then-vcs-eq4
traverse_all-requires-then-vcs-eq4 g c = subst (λ ports. PickVcs ports c.args.picks.now) (sym c.known-then-vcs-eq4.ensures) c.requires.vcs

pub traverse_all-requires-then-vcs-eq8 : goal.traverse_all-requires-then-vcs-eq8
traverse_all-requires-then-vcs-eq8 g c = subst (λ ports. PickVcs ports c.args.picks.now) (sym c.known-then-vcs-eq8.ensures) c.requires.vcs

pub traverse_all-requires-else-vcs-eq8 : goal.traverse_all-requires-else-vcs-eq8
traverse_all-requires-else-vcs-eq8 g c = subst (λ ports. PickVcs ports c.args.picks.now) (sym c.known-else-vcs-eq8.ensures) c.requires.vcs

pub returns-then-vcs-eq2 : goal.returns-then-vcs-eq2
returns-then-vcs-eq2 g c =
    let new = c.traverse_all.new in
    record { traversed = subst (Traversed c.args.picks.now c.args.switch.now.ahead new.ahead new.sends new.left) c.known.ensures c.traverse_all.ensures.traversed; decided = refl; left = c.traverse_all.ensures.left }

pub returns-then-vcs-eq4 : goal.returns-then-vcs-eq4
returns-then-vcs-eq4 g c =
    let new = c.traverse_all-then-vcs-eq4.new in
    record { traversed = subst (Traversed c.args.picks.now c.args.switch.now.ahead new.ahead new.sends new.left) c.known-then-vcs-eq4.ensures c.traverse_all-then-vcs-eq4.ensures.traversed; decided = refl; left = c.traverse_all-then-vcs-eq4.ensures.left }

pub returns-then-vcs-eq8 : goal.returns-then-vcs-eq8
returns-then-vcs-eq8 g c =
    let new = c.traverse_all-then-vcs-eq8.new in
    record { traversed = subst (Traversed c.args.picks.now c.args.switch.now.ahead new.ahead new.sends new.left) c.known-then-vcs-eq8.ensures c.traverse_all-then-vcs-eq8.ensures.traversed; decided = refl; left = c.traverse_all-then-vcs-eq8.ensures.left }

pub returns-else-vcs-eq8 : goal.returns-else-vcs-eq8
returns-else-vcs-eq8 g c =
    let new = c.traverse_all-else-vcs-eq8.new in
    record { traversed = subst (Traversed c.args.picks.now c.args.switch.now.ahead new.ahead new.sends new.left) c.known-else-vcs-eq8.ensures c.traverse_all-else-vcs-eq8.ensures.traversed; decided = refl; left = c.traverse_all-else-vcs-eq8.ensures.left }
