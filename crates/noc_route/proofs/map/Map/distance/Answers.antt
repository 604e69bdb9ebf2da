use Rattle.std.proofs.Common.{◌<◌, ◌+◌, ◌*◌, ◌%◌, ◌∙◌, ap, arith, get_or}
use Rattle.std.proofs.lemmas.List.{get_or_default}
use Rattle.noc_topo.specs.Shape.{nodes, distance}
use Rattle.noc_route.proofs.EntryLemmas.{flat-below, flat-div, flat-mod}
use Rattle.noc_route.proofs.map.Map.distance.Goals as goal

pub index-requires : goal.index-requires
index-requires c =
    let n = nodes c.args.self.now.sizes.shape in
    let within : c.args.from * n + c.args.to < n * n = flat-below c.args.from n c.args.to n c.requires.from c.requires.to in
    rw c.args.self.now.sizes.all_nodes (omega (arith, within, c.args.self.now.all_apart))

pub returns : goal.returns
returns c =
    let map = c.args.self.now in
    let shape = map.sizes.shape in
    let n = nodes shape in
    let pair = c.args.from * n + c.args.to in
    let within : pair < n * n = flat-below c.args.from n c.args.to n c.requires.from c.requires.to in
    c.index.ensures
    ∙ ap (λ m. get_or map.apart.items (c.args.from * m + c.args.to) c.index.result.now) map.sizes.all_nodes
    ∙ get_or_default map.apart.items pair c.index.result.now 0 (omega (arith, within, map.all_apart))
    ∙ map.spaced pair within
    ∙ ap (λ a. distance shape a (pair % n)) (flat-div c.args.from n c.args.to c.requires.to)
    ∙ ap (distance shape c.args.from) (flat-mod c.args.from n c.args.to c.requires.to)
