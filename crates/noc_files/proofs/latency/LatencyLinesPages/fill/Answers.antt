use Rattle.std.proofs.Common.{◌≡◌, ◌∙◌, List, ℕ, [], ◌∷◌, ◌++◌, Option, ap₂, decimal, sym, append_assoc, append-nil}
use Rattle.std.proofs.lemmas.Option.{get_or_from_slice_get}
use Rattle.noc_packet.specs.declared.packet.Packet.{Packet}
use Rattle.noc_theory.specs.Network.{packet_at}
use Rattle.noc_net.specs.Latency.{latency_at, packet_latency}
use Rattle.noc_files.specs.Latency.{latency_line, packet_line}
use Rattle.noc_files.specs.Writing.{comma, dash_or, line_end, text_of_pieces}
use Rattle.noc_files.proofs.latency.LatencyLinesPages.fill.Goals as goal

columns : (a b c d e f g h : List ℕ)
    → [] ++ a ++ comma ++ b ++ comma ++ c ++ comma ++ d ++ comma ++ e ++ comma ++ f ++ comma ++ g ++ comma ++ h ++ line_end
    ≡ text_of_pieces (a ∷ comma ∷ b ∷ comma ∷ c ∷ comma ∷ d ∷ comma ∷ e ∷ comma ∷ f ∷ comma ∷ []) ++ text_of_pieces (g ∷ comma ∷ h ∷ line_end ∷ [])
columns a b c d e f g h = simp (append_assoc, append-nil)

pub returns : goal.returns
unfolding latency_line latency_at
returns c =
    let u = c.args.self.now.network.now in
    let n = c.args.number in
    let p = c.packet-packet.result in
    let out = c.arrival.result in
    let packet : p ≡ packet_at u.net n = sym (get_or_from_slice_get u.net.packets n p (record { source = 0; destination = 0; class = 0; length = 0; due = 0 }) c.packet-packet.ensures) in
    let same = ap₂ (λ (q : Packet) (o : Option ℕ). packet_latency q o) packet c.arrival.ensures.value in
    let line = ap₂ (λ (q : Packet) (o : Option ℕ). packet_line n q o) packet c.arrival.ensures.value in
    rw (
      c.add_byte-2.ensures.added,
      c.add_or-2.ensures.added,
      c.latency.ensures ∙ sym same,
      c.add_byte.ensures.added,
      c.add_or.ensures.added,
      c.add_column-6.ensures.added,
      c.from-5.ensures,
      c.add_column-5.ensures.added,
      c.from-4.ensures,
      c.add_column-4.ensures.added,
      c.from-3.ensures,
      c.add_column-3.ensures.added,
      c.from-2.ensures,
      c.add_column-2.ensures.added,
      c.from.ensures,
      c.add_column.ensures.added,
      c.clear.ensures,
    )
    (columns (decimal n) (decimal p.source) (decimal p.destination) (decimal p.class) (decimal p.length) (decimal p.due) (dash_or out) (dash_or (packet_latency p out)) ∙ line)
