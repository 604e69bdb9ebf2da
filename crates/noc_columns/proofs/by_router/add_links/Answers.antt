use Rattle.std.proofs.Common.{◌*◌, ◌^◌, ◌<◌, ◌∙◌, ap, arith, sym, bit_or, slice_index}
use Rattle.std.specs.Prelude.{nat_eq, if◌then◌else◌}
use Rattle.noc_packet.specs.Set.{has_bit}
use Rattle.noc_columns.specs.Picks.{links_of}
use Rattle.noc_columns.specs.Words.{word}
use Rattle.noc_columns.proofs.ComeLemmas.{come, come-all, come-next, come-none, left-none, left-some, left-start, left-step, or-if}
use Rattle.noc_columns.proofs.MarkLemmas.{idle-next, idle-start}
use Rattle.noc_columns.proofs.PlaceLemmas.{one-router}
use Rattle.noc_columns.proofs.SupplyLemmas.{member-is}
use Rattle.noc_columns.proofs.UsedLemmas.{channels-few, link-below, links-apart, links-index, links-within, sum_of, union-none, union-walked}
use Rattle.noc_columns.proofs.WalkLemmas.{union-alike, union-set}
use Rattle.noc_columns.proofs.by_router.add_links.Goals as goal

pub used_words-rest-requires : goal.used_words-rest-requires
used_words-rest-requires c = omega (arith, channels-few c.args.table.now.ports)

pub loop-rest-init : goal.loop-rest-init
loop-rest-init c =
    let n = links_of c.args.table.now.ports.links in
    let words = c.args.words.now in
    record {
      left = left-start n.size words c.used_words-rest.result c.used_words-rest.ensures;
      idle = λ r l. union-none (slice_index c.args.marks.now.idle r) n.size (λ k. 2 ^ k) (come n r words words) (come-none n r words);
      kept = idle-start c.args.marks.now;
    }

pub step-next-requires-clause-words : goal.step-next-requires-clause-words
step-next-requires-clause-words c = left-some (c.args.table.now.ports.links.width * c.args.table.now.ports.links.vcs) c.args.words.now c.loop-rest.words c.loop-rest.rest c.loop-rest.invariant.left

pub channel_at-channel-requires : goal.channel_at-channel-requires
channel_at-channel-requires c =
    let few = c.loop-rest.invariant.left.few c.step-next.result.index c.step-next.ensures.index in
    omega (arith, few)

pub add_idle-requires : goal.add_idle-requires
add_idle-requires c = c.step-next.ensures.router

pub loop-rest-preserved : goal.loop-rest-preserved
loop-rest-preserved c =
    let inv = c.loop-rest.invariant in
    let ports = c.args.table.now.ports in
    let n = links_of ports.links in
    let words = c.args.words.now in
    let left = c.loop-rest.words in
    let rest = c.loop-rest.rest in
    let t = c.step-next.result.index in
    let s = c.step-next.result.router in
    let after = c.step-next.new.left in
    let told = c.step-next.ensures in
    let channel = c.channel_at-channel.result in
    let at = c.channel_at-channel.ensures in
    let low = inv.left.few t told.index in
    let link : channel < n.size = link-below ports channel t at.within at.is (omega (arith, low)) in
    let few : channel < 64 = (let all = channels-few ports in omega (arith, all, at.within)) in
    record {
      left = left-step n.size words left rest after c.step-next.result.rest t s inv.left told.left told.rest;
      idle = λ r l.
          let was = slice_index c.loop-rest.marks.idle r in
          c.add_idle.ensures.idle r
          ∙ ap (λ w. if nat_eq r s then bit_or was w else was) (one-router channel few)
          ∙ or-if was (2 ^ channel) (nat_eq r s)
          ∙ ap (λ u. bit_or u (if nat_eq r s then 2 ^ channel else 0)) (inv.idle r l)
          ∙ union-walked (slice_index c.args.marks.now.idle r) n.size (λ k. 2 ^ k) (come n r words left) (come n r words after) channel (nat_eq r s) link
          (come-next n (links-apart ports) r words left after t s channel link (sym (links-index ports channel link) ∙ at.is) told.member inv.left.part told.left);
      kept = (let told = c.add_idle.ensures in idle-next inv.kept (record { waiting = told.waiting; wanted = told.wanted; sets = told.sets; turns = told.turns }));
    }

pub loop-rest-smaller : goal.loop-rest-smaller
loop-rest-smaller c = c.step-next.ensures.fewer

pub returns-clause-idle : goal.returns-clause-idle
returns-clause-idle c = λ r l.
    let ports = c.args.table.now.ports in
    let n = links_of ports.links in
    let words = c.args.words.now in
    let left = c.loop-rest.words in
    let base = slice_index c.args.marks.now.idle r in
    c.loop-rest.invariant.idle r l
    ∙ union-alike base n.size (sum_of (come n r words left) (λ k. 2 ^ k)) (λ k. if has_bit (word (n.index k) words) r then 2 ^ k else 0)
    (λ k m. ap (λ b. if b then 2 ^ k else 0) (come-all n (links-apart ports) r words left n.size c.loop-rest.rest c.loop-rest.invariant.left (omega arith) (links-within ports) k ∙ member-is n r k words m))
    ∙ union-set base n.size (λ k. has_bit (word (n.index k) words) r)

pub returns-clause-left : goal.returns-clause-left
returns-clause-left c = left-none (c.args.table.now.ports.links.width * c.args.table.now.ports.links.vcs) c.args.words.now c.loop-rest.words c.loop-rest.rest c.loop-rest.invariant.left (omega arith)
