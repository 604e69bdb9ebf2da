use Rattle.std.proofs.Common.{◌≡◌, ◌∷◌, [], ◌++◌, List, ap, ap₂, arith, length, map, sym, ◌∙◌}
use Rattle.std.proofs.lemmas.List.{map_more, take_all}
use Rattle.std.proofs.lemmas.List.Elements.{All-get_or}
use Rattle.noc_packet.specs.Packet.{IsWithinLimits}
use Rattle.noc_columns.specs.Routing.{header_of}
use Rattle.noc_columns.specs.declared.header.Header.{Header}
use Rattle.noc_engine.proofs.ListLemmas.{mapped-long}
use Rattle.noc_engine.proofs.open.all_headers.Goals as goal

pub of-requires : goal.of-requires
of-requires c = All-get_or IsWithinLimits c.args.packets.now c.loop-packet.packet-index _ c.loop-packet-test.true c.requires

pub push_reserved-requires : goal.push_reserved-requires
push_reserved-requires c =
    let n = c.loop-packet.packet-index in
    let long : length c.loop-packet.all.items ≡ n = mapped-long header_of c.args.packets.now n c.loop-packet.all.items (omega (arith, c.loop-packet-test.true)) c.loop-packet.invariant.are in
    omega (arith, long, c.loop-packet.invariant.room, c.loop-packet-test.true, c.loop-packet.all.ok.0)

pub loop-packet-preserved : goal.loop-packet-preserved
loop-packet-preserved c = record {
  are = c.push_reserved.ensures.items
      ∙ ap₂ (λ (xs : List Header) (x : Header). xs ++ x ∷ []) c.loop-packet.invariant.are c.of.ensures
      ∙ sym (map_more header_of c.args.packets.now c.loop-packet.packet-index _ c.loop-packet-test.true);
  room = omega (arith, c.loop-packet.invariant.room, c.push_reserved.ensures.capacity);
}

pub returns : goal.returns
returns c = c.loop-packet.invariant.are ∙ ap (map header_of) (take_all c.loop-packet.packet-index c.args.packets.now c.loop-packet-test.false)
