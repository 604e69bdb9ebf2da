use Rattle.std.proofs.Common.{◌≡◌, ℕ, ◌+◌, ◌++◌, List, length, ap, ap₂, sym, subst, ◌∙◌, arith}
use Rattle.std.specs.List.{All}
use Rattle.noc_packet.specs.declared.packet.Packet.{Packet}
use Rattle.noc_packet.specs.ByNode.{starts_of}
use Rattle.noc_sets.specs.Source.{Start, due_of}
use Rattle.noc_columns.specs.Sources.{starts_by}
use Rattle.noc_theory.proofs.injection.StartLemmas.{all-starts-hold}
use Rattle.noc_theory_bits.specs.Starts.{starts_list, with_end}
use Rattle.noc_theory_bits.proofs.opening.ListedLemmas.{list-more}
use Rattle.noc_theory_cycles.specs.Firsts.{AreFirsts}
use Rattle.noc_cycles.specs.declared.first.First.{First}
use Rattle.noc_queues.specs.Queues.{IsKept}
use Rattle.noc_queues.proofs.QueueLemmas.{by_node-read}
use Rattle.noc_queues.proofs.StartLemmas.{firsts-next, firsts-none, list-place, list-short}
use Rattle.noc_queues.proofs.starts.all_starts.Goals as goal

pub loop-queue-init : goal.loop-queue-init
unfolding starts_list
loop-queue-init c = record {
  list = ap starts_by c.in_ok-list.ensures.items;
  firsts = subst (AreFirsts c.args.packets.now 0) (sym c.in_ok-firsts.ensures.items) (firsts-none c.args.packets.now);
}

pub overflow_cast-len : goal.overflow_cast-len
overflow_cast-len c =
    let few = list-short c.args.packets.now c.loop-queue.queue-index c.loop-queue.list.items c.requires.few (omega arith) c.loop-queue.invariant.list in
    let many : c.len.result ≡ length c.loop-queue.list.items = c.len.ensures ∙ c.loop-queue.list.ok.0 in
    omega (arith, few, many)

pub add_starts-requires : goal.add_starts-requires
add_starts-requires c =
    let packets = c.args.packets.now in
    let n = c.loop-queue.queue-index in
    let queue = by_node-read (starts_of packets) (length c.args.queues.now) c.args.queues.now n c.queue-item.result c.requires.queues c.loop-queue-test.true c.queue-item.is in
    subst (All (λ (one : ℕ × Packet). IsKept one.1)) (sym (c.deref-in-loop-queue.ensures.value ∙ queue)) (all-starts-hold IsKept packets n c.requires.kept)

pub loop-queue-preserved : goal.loop-queue-preserved
loop-queue-preserved c =
    let packets = c.args.packets.now in
    let n = c.loop-queue.queue-index in
    let queue = by_node-read (starts_of packets) (length c.args.queues.now) c.args.queues.now n c.queue-item.result c.requires.queues c.loop-queue-test.true c.queue-item.is in
    let due : c.first_due.result ≡ due_of (starts_of packets n) = c.first_due.ensures ∙ ap due_of (c.deref.ensures.value ∙ queue) in
    record {
      list = c.in_ok-add_starts.ensures
          ∙ ap₂ (λ (xs : List Start) (q : List (ℕ × Packet)). xs ++ with_end q) c.loop-queue.invariant.list (c.deref-in-loop-queue.ensures.value ∙ queue)
          ∙ sym (list-more packets n);
      firsts = subst (AreFirsts packets (n + 1)) (sym c.in_ok-push.ensures.items)
          (firsts-next packets n c.loop-queue.firsts.items _ c.loop-queue.invariant.firsts (ap₂ the-first (c.len.ensures ∙ c.loop-queue.list.ok.0 ∙ list-place packets n c.loop-queue.list.items c.loop-queue.invariant.list) due));
    }
  where
    the-first : ℕ → ℕ → First
    the-first place due = record { place = place; due = due }

pub returns-clause-list : goal.returns-clause-list
returns-clause-list c =
    subst (λ (n : ℕ). starts_by c.loop-queue.list.items ≡ starts_list c.args.packets.now n) (let all : c.loop-queue.queue-index ≡ length c.args.queues.now = omega arith in all)
    c.loop-queue.invariant.list

pub returns-clause-short : goal.returns-clause-short
returns-clause-short c =
    list-short c.args.packets.now c.loop-queue.queue-index c.loop-queue.list.items c.requires.few (omega arith) c.loop-queue.invariant.list

pub returns-clause-firsts : goal.returns-clause-firsts
returns-clause-firsts c =
    subst (λ (n : ℕ). AreFirsts c.args.packets.now n c.loop-queue.firsts.items) (let all : c.loop-queue.queue-index ≡ length c.args.queues.now = omega arith in all)
    c.loop-queue.invariant.firsts
