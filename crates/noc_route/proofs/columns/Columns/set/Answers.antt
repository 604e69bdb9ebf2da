use Rattle.std.proofs.Common.{◌≡◌, ◌+◌, ◌<◌, length, get_or, arith, ap, ◌∙◌}
use Rattle.std.proofs.lemmas.List.{get_or_default}
use Rattle.noc_route.proofs.ColumnLemmas.{start-within}
use Rattle.noc_route.proofs.columns.Columns.set.Goals as goal

pub index-requires : goal.index-requires
index-requires c =
    let columns = c.args.self.now in
    omega (arith, c.requires.column, columns.all.long, columns.starts.ok.0)

pub overflow_add-index : goal.overflow_add-index
overflow_add-index c =
    let f = c.args.self.now.sizes in
    omega (arith, c.requires.dst, f.all_nodes, f.few_nodes)

pub at-requires : goal.at-requires
at-requires c =
    let columns = c.args.self.now in
    start-within columns.sizes columns.starts.items (length columns.sets) c.args.column c.index.result.now c.args.dst columns.all c.requires.column c.requires.dst c.index.ensures

pub returns : goal.returns
returns c =
    let columns = c.args.self.now in
    let sets = columns.sets in
    let starts = columns.starts.items in
    let there : c.args.column < length starts = omega (arith, c.requires.column, columns.all.long) in
    let start : c.index.result.now ≡ get_or starts c.args.column 0 = c.index.ensures ∙ get_or_default starts c.args.column c.index.result.now 0 there in
    let room = columns.all.within c.args.column c.requires.column in
    let within : c.index.result.now + c.args.dst < length sets = omega (arith, start, room, c.requires.dst) in
    c.at.ensures
    ∙ ap (λ s. get_or sets (s + c.args.dst) 0) start
