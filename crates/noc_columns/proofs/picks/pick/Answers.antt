use Rattle.std.proofs.Common.{ℕ, List, refl, subst, sym}
use Rattle.noc_columns.specs.Picks.{HavePicked, SendByVcs}
use Rattle.noc_columns.specs.declared.channels.Standing.{Standing}
use Rattle.noc_columns.specs.declared.picks.Picks.{Picks}
use Rattle.noc_columns.specs.declared.ports.RouterPorts.{RouterPorts}
use Rattle.noc_columns.specs.declared.supply.Sends.{Sends}
use Rattle.noc_columns.proofs.picks.pick.Goals as goal

-- what the clauses say, of these ports
abbrev Sent : Standing (List ℕ) → Sends (List ℕ) → RouterPorts → Type 0
Sent standing sends ports = SendByVcs ports standing.ready sends.vc

abbrev Picked : Standing (List ℕ) → List ℕ → Sends (List ℕ) → List ℕ → List ℕ → Picks → RouterPorts → Type 0
Picked standing ahead sends picked past picks ports = (r : ℕ) → HavePicked ports r standing.ready ahead picked past standing.last sends picks

pub pick_all-requires : goal.pick_all-requires
pick_all-requires g c = subst (Sent c.args.candidates.now.standing.now c.args.candidates.now.sends.now) (sym c.known.ensures) c.requires.sends

pub pick_all-requires-then-vcs-eq4 : goal.pick_all-requires-then-vcs-eq4
pick_all-requires-then-vcs-eq4 g c = subst (Sent c.args.candidates.now.standing.now c.args.candidates.now.sends.now) (sym c.known-then-vcs-eq4.ensures) c.requires.sends

pub pick_all-requires-then-vcs-eq8 : goal.pick_all-requires-then-vcs-eq8
pick_all-requires-then-vcs-eq8 g c = subst (Sent c.args.candidates.now.standing.now c.args.candidates.now.sends.now) (sym c.known-then-vcs-eq8.ensures) c.requires.sends

pub pick_all-requires-else-vcs-eq8 : goal.pick_all-requires-else-vcs-eq8
pick_all-requires-else-vcs-eq8 g c = subst (Sent c.args.candidates.now.standing.now c.args.candidates.now.sends.now) (sym c.known-else-vcs-eq8.ensures) c.requires.sends

pub returns-then-vcs-eq2 : goal.returns-then-vcs-eq2
returns-then-vcs-eq2 g c =
    let new = c.pick_all.new in
    let from = c.args.candidates.now in
    record { picked = subst (Picked from.standing.now from.ahead.now from.sends.now new.picked new.past new.picks) c.known.ensures c.pick_all.ensures; rest = refl }

pub returns-then-vcs-eq4 : goal.returns-then-vcs-eq4
returns-then-vcs-eq4 g c =
    let new = c.pick_all-then-vcs-eq4.new in
    let from = c.args.candidates.now in
    record { picked = subst (Picked from.standing.now from.ahead.now from.sends.now new.picked new.past new.picks) c.known-then-vcs-eq4.ensures c.pick_all-then-vcs-eq4.ensures; rest = refl }

pub returns-then-vcs-eq8 : goal.returns-then-vcs-eq8
returns-then-vcs-eq8 g c =
    let new = c.pick_all-then-vcs-eq8.new in
    let from = c.args.candidates.now in
    record { picked = subst (Picked from.standing.now from.ahead.now from.sends.now new.picked new.past new.picks) c.known-then-vcs-eq8.ensures c.pick_all-then-vcs-eq8.ensures; rest = refl }

pub returns-else-vcs-eq8 : goal.returns-else-vcs-eq8
returns-else-vcs-eq8 g c =
    let new = c.pick_all-else-vcs-eq8.new in
    let from = c.args.candidates.now in
    record { picked = subst (Picked from.standing.now from.ahead.now from.sends.now new.picked new.past new.picks) c.known-else-vcs-eq8.ensures c.pick_all-else-vcs-eq8.ensures; rest = refl }
