use Rattle.std.proofs.Common.{◌≡◌, ◌∙◌, ap, arith, sym, slice_index}
use Rattle.noc_columns.proofs.ChannelLemmas.{channels-apart}
use Rattle.noc_columns.proofs.LoopLemmas.{left-part}
use Rattle.noc_columns.proofs.UsedLemmas.{channels-few, index-below, used-below, used-is, walked, walked-all, walked-next, walked-none}
use Rattle.noc_cycles.proofs.Common.{has_bit, packet_in, channels_of, word, member-is}
use Rattle.noc_cycles.proofs.ArrivalLemmas.{arrived-all, arrived-next, arrived-none}
use Rattle.noc_cycles.proofs.deliveries.arrive_all.Goals as goal

pub used_words-rest-requires : goal.used_words-rest-requires
used_words-rest-requires c = channels-few c.args.table.now.ports

pub loop-rest-init : goal.loop-rest-init
loop-rest-init c =
    let ports = c.args.table.now.ports in
    let n = channels_of ports in
    let arrived = c.args.arrived.now in
    let used = c.used_words-rest.result in
    record {
      few = used-below n.size used arrived c.used_words-rest.ensures;
      are = arrived-none c.args.cycle (λ r. walked n r arrived used) (packet_in c.args.packets.now) (slice_index c.args.arrivals.now)
          (λ r. walked-none n (channels-apart ports) r arrived used (λ k m. used-is n.size used arrived c.used_words-rest.ensures (n.index k) (index-below ports k m)));
    }

pub channel_at-channel-requires : goal.channel_at-channel-requires
channel_at-channel-requires c = c.loop-rest.invariant.few c.least-index.result c.least-index.ensures.least.0

pub bounds-arrived-index : goal.bounds-arrived-index
bounds-arrived-index c =
    let few = c.loop-rest.invariant.few c.least-index.result c.least-index.ensures.least.0 in
    omega (arith, few, channels-few c.args.table.now.ports)

pub arrive_from-requires-clause-channel : goal.arrive_from-requires-clause-channel
arrive_from-requires-clause-channel c = let few = c.channel_at-channel.ensures.within in omega (arith, few, channels-few c.args.table.now.ports)

pub arrive_from-requires-clause-held : goal.arrive_from-requires-clause-held
arrive_from-requires-clause-held c = λ r few e.
    let n = channels_of c.args.table.now.ports in
    let k = c.channel_at-channel.result in
    let told = c.channel_at-channel.ensures in
    let held = c.requires r k few (member-is n r k c.args.arrived.now told.within ∙ ap (λ i. has_bit (word i c.args.arrived.now) r) told.is ∙ e) in
    let long = c.loop-rest.auto.arrivals in
    omega (arith, held, long)

pub loop-rest-preserved : goal.loop-rest-preserved
loop-rest-preserved c =
    let inv = c.loop-rest.invariant in
    let ports = c.args.table.now.ports in
    let n = channels_of ports in
    let arrived = c.args.arrived.now in
    let rest = c.loop-rest.rest in
    let after = c.but_lowest-rest.result in
    let t = c.least-index.result in
    let least = c.least-index.ensures.least in
    let told = c.channel_at-channel.ensures in
    record {
      few = λ i e. inv.few i (left-part rest rest t least (λ j f. f) i (ap (λ w. has_bit w i) (sym c.but_lowest-rest.ensures.members) ∙ e));
      are =
          arrived-next c.args.cycle c.channel_at-channel.result (word t arrived) (λ r. walked n r arrived rest) (λ r. walked n r arrived after) (packet_in c.args.packets.now) (slice_index c.args.arrivals.now)
          (slice_index c.loop-rest.arrivals) (slice_index c.arrive_from.new.arrivals)
          (λ r. walked-next n (channels-apart ports) r arrived rest after t c.channel_at-channel.result least c.but_lowest-rest.ensures.members told.within told.is) inv.are c.arrive_from.ensures.some c.arrive_from.ensures.others;
    }

pub returns : goal.returns
returns c =
    let ports = c.args.table.now.ports in
    let n = channels_of ports in
    let arrived = c.args.arrived.now in
    let none : c.loop-rest.rest ≡ 0 = omega arith in
    arrived-all c.args.cycle (λ r. walked n r arrived c.loop-rest.rest) n arrived (packet_in c.args.packets.now) (slice_index c.args.arrivals.now) (slice_index c.loop-rest.arrivals)
    (λ r. walked-all n (channels-apart ports) r arrived c.loop-rest.rest none) c.loop-rest.invariant.are
