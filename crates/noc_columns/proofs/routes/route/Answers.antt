use Rattle.std.proofs.Common.{◌≡◌, ℕ, ◌+◌, ◌<◌, ◌∙◌, ap, sym, subst, arith, refl, inl, inr}
use Rattle.std.specs.Prelude.{nat_eq, if◌then◌else◌}
use Rattle.std.proofs.lemmas.Bool.{cases_eq, eq-eqb, ne_eqb}
use Rattle.noc_packet.specs.Set.{has_bit}
use Rattle.noc_columns.specs.Heads.{Heading, headed, heading_at, packet_in}
use Rattle.noc_columns.specs.Picks.{channels_of}
use Rattle.noc_columns.specs.Routing.{sets_by}
use Rattle.noc_columns.specs.Words.{set_of, word}
use Rattle.noc_columns.proofs.ChannelLemmas.{channels-apart}
use Rattle.noc_columns.proofs.ComeLemmas.{come, come-all, come-next, come-none, left-some, left-start, left-step}
use Rattle.noc_columns.proofs.HeadLemmas.{IsHeaded, headed-like, headed-next, headed-none, heads-routed, heads-wait}
use Rattle.noc_columns.proofs.SupplyLemmas.{member-is}
use Rattle.noc_columns.proofs.UsedLemmas.{channels-few, index-below}
use Rattle.noc_columns.proofs.routes.route.Goals as goal

pub used_words-rest-requires : goal.used_words-rest-requires
used_words-rest-requires c = channels-few c.args.guide.now.table.now.ports

pub loop-rest-init : goal.loop-rest-init
loop-rest-init c =
    let n = channels_of c.args.guide.now.table.now.ports in
    let heads = c.args.heads.now in
    record {
      left = left-start n.size heads c.used_words-rest.result c.used_words-rest.ensures;
      are = λ r l. headed-none (come n r heads heads) _ _ (come-none n r heads);
      idle = λ r. refl;
      turns = refl;
    }

pub step-next-requires-clause-words : goal.step-next-requires-clause-words
step-next-requires-clause-words c =
    let n = channels_of c.args.guide.now.table.now.ports in
    left-some n.size c.args.heads.now c.loop-rest.left c.loop-rest.rest c.loop-rest.invariant.left

pub channel_at-channel-requires : goal.channel_at-channel-requires
channel_at-channel-requires c = c.loop-rest.invariant.left.few c.step-next.result.index c.step-next.ensures.index

pub route_head-requires-clause-head : goal.route_head-requires-clause-head
route_head-requires-clause-head c =
    let n = channels_of c.args.guide.now.table.now.ports in
    let heads = c.args.heads.now in
    let s = c.step-next.result.router in
    let told = c.step-next.ensures in
    let channel = c.channel_at-channel.result in
    let at = c.channel_at-channel.ensures in
    c.requires.there s channel told.router
    (member-is n s channel heads at.within ∙ ap (λ i. has_bit (word i heads) s) at.is ∙ c.loop-rest.invariant.left.part c.step-next.result.index s told.member)

pub loop-rest-preserved : goal.loop-rest-preserved
loop-rest-preserved c =
    let inv = c.loop-rest.invariant in
    let guide = c.args.guide.now in
    let ports = guide.table.now.ports in
    let n = channels_of ports in
    let heads = c.args.heads.now in
    let left = c.loop-rest.left in
    let t = c.step-next.result.index in
    let s = c.step-next.result.router in
    let after = c.step-next.new.left in
    let told = c.step-next.ensures in
    let channel = c.channel_at-channel.result in
    let at = c.channel_at-channel.ensures in
    let got = c.route_head.ensures in
    let now = heading_at c.loop-rest.marks in
    let new = heading_at c.route_head.new.marks in
    let set = λ (r k : ℕ). sets_by guide.relation.now guide.headers.now (guide.first + r) k (packet_in c.args.packets.now r k) in
    record {
      left = left-step n.size heads left c.loop-rest.rest after c.step-next.result.rest t s inv.left told.left told.rest;
      are = λ r l.
          subst (λ (x : Heading). IsHeaded (come n r heads after) (set r) (heading_at c.args.marks.now r) x)
          (elim (cases_eq r s) [
            | inl same ↦ subst (λ (q : ℕ). (if nat_eq q s then headed channel (set q channel) (now q) else now q) ≡ new q) (sym same)
                (ap (λ b. if b then headed channel (set s channel) (now s) else now s) (eq-eqb s s refl) ∙ sym got.here)
            | inr other ↦ ap (λ b. if b then headed channel (set r channel) (now r) else now r) (ne_eqb r s other) ∙ sym (got.others r other)
          ])
          (headed-next (come n r heads left) (set r) (heading_at c.args.marks.now r) (come n r heads after) channel (nat_eq r s) (now r)
          (come-next n (channels-apart ports) r heads left after t s channel at.within at.is told.member inv.left.part told.left) (inv.are r l));
      idle = λ r. got.kept.idle r ∙ inv.idle r;
      turns = got.kept.turns ∙ inv.turns;
    }

pub loop-rest-smaller : goal.loop-rest-smaller
loop-rest-smaller c = c.step-next.ensures.fewer

pub returns : goal.returns
returns c =
    let inv = c.loop-rest.invariant in
    let guide = c.args.guide.now in
    let ports = guide.table.now.ports in
    let n = channels_of ports in
    let heads = c.args.heads.now in
    let old = c.args.marks.now in
    let new = c.loop-rest.marks in
    let sets = λ (r : ℕ). sets_by guide.relation.now guide.headers.now (guide.first + r) in
    let packet = λ (r : ℕ). packet_in c.args.packets.now r in
    let are = λ (r : ℕ) (l : r < 64).
    headed-like (come n r heads c.loop-rest.left) (λ k. sets r k (packet r k)) (heading_at old r) (has_bit (set_of n r heads)) (heading_at new r)
    (λ k. sym (come-all n (channels-apart ports) r heads c.loop-rest.left n.size c.loop-rest.rest inv.left (omega arith) (index-below ports) k)) (inv.are r l) in
    record {
      routed = λ r m l. heads-routed (set_of n r heads) (sets r) (packet r) (heading_at old r) (heading_at new r) (are r l) m;
      waiting = λ r l. heads-wait (set_of n r heads) (sets r) (packet r) (heading_at old r) (heading_at new r) (are r l);
      idle = inv.idle;
      turns = inv.turns;
    }
