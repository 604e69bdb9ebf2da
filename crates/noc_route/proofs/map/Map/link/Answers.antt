use Rattle.std.proofs.Common.{◌≡◌, ◌+◌, ◌*◌, ◌<◌, ◌∙◌, ap, arith, get_or, None, sym}
use Rattle.std.proofs.lemmas.List.{get_or_default}
use Rattle.noc_topo.specs.Shape.{nodes, ports, neighbour}
use Rattle.noc_topo.proofs.LinkLemmas.{neighbour-range}
use Rattle.noc_route.proofs.EntryLemmas.{flat-div, flat-mod, flat-below}
use Rattle.noc_route.proofs.map.Map.link.Goals as goal

pub index-requires : goal.index-requires
index-requires c =
    let within : c.args.router * ports c.args.self.now.sizes.shape + c.args.port < nodes c.args.self.now.sizes.shape * ports c.args.self.now.sizes.shape
    = flat-below c.args.router _ c.args.port _ c.requires.router c.requires.port in
    rw c.args.self.now.sizes.all_ports (omega (arith, within, c.args.self.now.all_links))

found : (c : goal.After-result-1) → c.index.result.now ≡ neighbour c.args.self.now.sizes.shape c.args.router c.args.port
found c =
    let count = ports c.args.self.now.sizes.shape in
    let place = c.args.router * count + c.args.port in
    let within : place < nodes c.args.self.now.sizes.shape * count = flat-below c.args.router _ c.args.port count c.requires.router c.requires.port in
    c.index.ensures
    ∙ ap (λ n. get_or c.args.self.now.links.items (c.args.router * n + c.args.port) c.index.result.now) c.args.self.now.sizes.all_ports
    ∙ get_or_default c.args.self.now.links.items place c.index.result.now None (omega (arith, within, c.args.self.now.all_links))
    ∙ c.args.self.now.linked place within
    ∙ rw (flat-div c.args.router count c.args.port c.requires.port, flat-mod c.args.router count c.args.port c.requires.port)

pub returns-clause-value : goal.returns-clause-value
returns-clause-value c = found c

pub returns-clause-range : goal.returns-clause-range
returns-clause-range c = neighbour-range c.args.self.now.sizes.shape c.args.router c.args.port c.index.result.now c.args.self.now.sizes.grid c.requires.router (sym (found c))
