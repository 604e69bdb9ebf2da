use Rattle.std.proofs.Common.{◌≡◌, ◌*◌, subst, arith}
use Rattle.noc_columns.specs.Supply.{TellFed}
use Rattle.noc_columns.proofs.SupplyLemmas.{told-of}
use Rattle.noc_columns.proofs.supply.look_up.Goals as goal

pub returns-then-links-eq2 : goal.returns-then-links-eq2
returns-then-links-eq2 c =
    let links = c.args.ports.now.links in
    let two : 2 ≡ links.width = omega arith in
    told-of links (4 * c.args.frame.now.groups) c.args.sends.now c.args.some.now c.args.draining.now c.look_up_in.new.supplied c.requires
    (subst (λ w. TellFed (4 * c.args.frame.now.groups) w links.vcs c.args.sends.now c.args.some.now c.args.draining.now c.look_up_in.new.supplied) two c.look_up_in.ensures)

pub returns-then-links-eq4 : goal.returns-then-links-eq4
returns-then-links-eq4 c =
    let links = c.args.ports.now.links in
    let four : 4 ≡ links.width = omega arith in
    told-of links (4 * c.args.frame.now.groups) c.args.sends.now c.args.some.now c.args.draining.now c.look_up_in-then-links-eq4.new.supplied c.requires
    (subst (λ w. TellFed (4 * c.args.frame.now.groups) w links.vcs c.args.sends.now c.args.some.now c.args.draining.now c.look_up_in-then-links-eq4.new.supplied) four c.look_up_in-then-links-eq4.ensures)

pub returns-else-links-eq4 : goal.returns-else-links-eq4
returns-else-links-eq4 c =
    let links = c.args.ports.now.links in
    let six : 6 ≡ links.width = omega arith in
    told-of links (4 * c.args.frame.now.groups) c.args.sends.now c.args.some.now c.args.draining.now c.look_up_in-else-links-eq4.new.supplied c.requires
    (subst (λ w. TellFed (4 * c.args.frame.now.groups) w links.vcs c.args.sends.now c.args.some.now c.args.draining.now c.look_up_in-else-links-eq4.new.supplied) six c.look_up_in-else-links-eq4.ensures)
