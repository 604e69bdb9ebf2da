use Rattle.std.proofs.Common.{◌≡◌, ℕ, ◌+◌, ◌*◌, ◌^◌, ◌<◌, ◌∙◌, true, false, [], ap, sym, subst, arith, refl, bit_or, slice_index, slice_index_or, get_or-set_same, get_or-set_other}
use Rattle.std.specs.Prelude.{nat_eq, if◌then◌else◌}
use Rattle.std.proofs.lemmas.Bool.{eq-eqb, ne_eqb}
use Rattle.noc_columns.specs.Routing.{header_in, sets_by}
use Rattle.noc_columns.specs.Words.{word}
use Rattle.noc_columns.proofs.AllotmentLemmas.{entries-same, functions-same}
use Rattle.noc_columns.proofs.HeadLemmas.{same-heading}
use Rattle.noc_columns.proofs.routes.route_head.Goals as goal

pub set_for-set-requires-clause-header : goal.set_for-set-requires-clause-header
set_for-set-requires-clause-header c = c.requires.headers.each c.args.packet c.requires.head.1

pub set_for-set-requires-clause-channel : goal.set_for-set-requires-clause-channel
set_for-set-requires-clause-channel c =
    let is = c.requires.ports in
    subst (λ n. c.args.channel < n * c.args.guide.now.relation.now.vcs) (sym is.count) (subst (λ n. c.args.channel < (c.args.guide.now.table.now.ports.links.width + 1) * n) (sym is.vcs) c.requires.channel)

pub returns-clause-here : goal.returns-clause-here
returns-clause-here c =
    let guide = c.args.guide.now in
    let relation = guide.relation.now in
    let links = guide.table.now.ports.links in
    let channel = c.args.channel in
    let router = c.args.router in
    let old = c.args.marks.now in
    let new = c.add_waiting.new.self in
    let header = header_in guide.headers.now c.args.packet in
    let node = guide.first + router in
    let set = sets_by relation guide.headers.now node channel c.args.packet in
    let set_is : c.set_for-set.result ≡ set =
    c.set_for-set.ensures in
    let same : nat_eq router router ≡ true = eq-eqb router router refl in
    let row : slice_index_or new.sets router [] ≡ c.note.new.sets = ap (λ xs. slice_index_or xs router []) c.add_waiting.ensures.sets ∙ get_or-set_same old.sets router c.note.new.sets [] (omega arith) in
    let each = λ (k : ℕ). ap (word k) row ∙ c.note.ensures k ∙ ap (λ s. if nat_eq k channel then s else word k (slice_index_or old.sets router [])) set_is in
    same-heading
    (c.add_waiting.ensures.waiting router ∙ ap (λ b. if b then bit_or (slice_index old.waiting router) (2 ^ channel) else slice_index old.waiting router) same)
    (c.add_waiting.ensures.wanted router ∙ ap (λ b. if b then bit_or (slice_index old.wanted router) c.set_for-set.result else slice_index old.wanted router) same ∙ ap (bit_or (slice_index old.wanted router)) set_is)
    (functions-same (λ k. word k (slice_index_or new.sets router [])) (λ k. if nat_eq k channel then set else word k (slice_index_or old.sets router [])) each)

pub returns-clause-others : goal.returns-clause-others
returns-clause-others c = λ r other.
    let router = c.args.router in
    let old = c.args.marks.now in
    let new = c.add_waiting.new.self in
    let apart : nat_eq r router ≡ false = ne_eqb r router other in
    let row : slice_index_or new.sets r [] ≡ slice_index_or old.sets r [] = ap (λ xs. slice_index_or xs r []) c.add_waiting.ensures.sets ∙ get_or-set_other old.sets router r c.note.new.sets [] other in
    same-heading
    (c.add_waiting.ensures.waiting r ∙ ap (λ b. if b then bit_or (slice_index old.waiting r) (2 ^ c.args.channel) else slice_index old.waiting r) apart)
    (c.add_waiting.ensures.wanted r ∙ ap (λ b. if b then bit_or (slice_index old.wanted r) c.set_for-set.result else slice_index old.wanted r) apart)
    (entries-same row)

pub returns-clause-kept : goal.returns-clause-kept
returns-clause-kept c = record { idle = λ r. ap (λ xs. slice_index xs r) c.add_waiting.ensures.idle; turns = c.add_waiting.ensures.turns }
