use Rattle.std.proofs.Common.{◌≡◌, ℕ, ◌∷◌, [], ◌++◌, List, map, take, ap, sym, ◌∙◌, get_or, append_assoc}
use Rattle.std.proofs.lemmas.List.{map_push, take_all}
use Rattle.noc_packet.specs.declared.packet.Packet.{Packet}
use Rattle.noc_sets.specs.Source.{END, Start}
use Rattle.noc_columns.specs.Sources.{start_by, starts_by}
use Rattle.noc_theory_bits.specs.Starts.{start_of}
use Rattle.noc_queues.proofs.StartLemmas.{more-starts}
use Rattle.noc_queues.proofs.starts.add_starts.Goals as goal

pub loop-number-preserved : goal.loop-number-preserved
loop-number-preserved c =
    let i = c.loop-number.number-index in
    let none : ℕ × Packet = (0, record { source = 0; destination = 0; class = 0; length = 0; due = 0 }) in
    let queue = c.args.queue.now in
    let one : Start = start_of (get_or queue i none) in
    let before = starts_by c.args.starts.now.items in
    ap starts_by c.in_ok-push.ensures.items ∙ map_push start_by c.loop-number.starts.items _
    ∙ ap (λ (xs : List Start). xs ++ one ∷ []) c.loop-number.invariant
    ∙ append_assoc before (map start_of (take i queue)) (one ∷ [])
    ∙ ap (λ (xs : List Start). before ++ xs) (sym (more-starts queue i none c.loop-number-test.true))

pub returns : goal.returns
returns c =
    let queue = c.args.queue.now in
    let before = starts_by c.args.starts.now.items in
    let listed : take c.loop-number.number-index c.args.queue.now ≡ c.args.queue.now = take_all c.loop-number.number-index c.args.queue.now c.loop-number-test.false in
    ap starts_by c.in_ok-push-2.ensures.items ∙ map_push start_by c.loop-number.starts.items _
    ∙ ap (λ (xs : List Start). xs ++ END ∷ []) (c.loop-number.invariant ∙ ap (λ (q : List (ℕ × Packet)). before ++ map start_of q) listed)
    ∙ append_assoc before (map start_of queue) (END ∷ [])
