use Rattle.std.proofs.Common.{◌≡◌, flat_map, length, take}
use Rattle.std.specs.Io.KnownBytes.{Appends}
use Rattle.noc_bytes.proofs.writing.write_pieces.Given as goal

abbrev pub invariant-loop-piece : goal.invariant-loop-piece
invariant-loop-piece g l = record {
  took : Appends (g.W.Sink.contents l.fn.sink) (g.W.Sink.contents l.sink) (flat_map (λ p. p.now) (take l.piece-index l.pieces));
  counted : l.written ≡ length (flat_map (λ p. p.now) (take l.piece-index l.pieces));
}
