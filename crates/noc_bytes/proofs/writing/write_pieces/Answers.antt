use Rattle.std.proofs.Common.{◌≡◌, ◌+◌, ◌^◌, ◌<◌, Bor, List, ℕ, [], take, drop, flat_map, get_or, length, arith}
use Rattle.noc_bytes.proofs.SinkLemmas.{fault_within, pieces_split, piece_fits}
use Rattle.noc_bytes.proofs.writing.write_pieces.Goals as goal

abbrev none : Bor (List ℕ)
none = record { ref_ptr = (0, 0); now = [] }

abbrev show : Bor (List ℕ) → List ℕ
show p = p.now

-- a piece fits behind those before it
fits : (pieces : List (Bor (List ℕ))) (i written : ℕ) → i < length pieces → written ≡ length (flat_map show (take i pieces)) → length (flat_map show pieces) < 2 ^ 64 → written + length (show (get_or pieces i none)) < 2 ^ 64
fits pieces i written inside so_far all = piece_fits show pieces i written (2 ^ 64) none inside so_far all

pub after-requires : goal.after-requires
after-requires g c =
    let more = fits c.args.pieces.now c.loop-piece.piece-index c.loop-piece.written c.loop-piece-test.true c.loop-piece.invariant.counted c.requires in
    let short : c.in-Err.fault.written < length (show (get_or c.args.pieces.now c.loop-piece.piece-index none)) = (rw c.as_bytes.ensures.value at c.in-Err.ensures).0 in
    omega (arith, more, short)

pub overflow_add-written : goal.overflow_add-written
overflow_add-written g c = omega (arith, fits c.args.pieces.now c.loop-piece.piece-index c.loop-piece.written c.loop-piece-test.true c.loop-piece.invariant.counted c.requires)

pub returns-in-Err : goal.returns-in-Err
returns-in-Err g c =
    let w = g.W.Sink in
    let ps = c.args.pieces.now in
    let i = c.loop-piece.piece-index in
    fault_within w.contents w.has_failed c.args.sink.now c.loop-piece.sink c.put_all.new.sink (flat_map show (take i ps)) (show (get_or ps i none)) (flat_map show (drop (i + 1) ps)) (flat_map show ps) c.in-Err.fault c.after.result
    (pieces_split show ps i none c.loop-piece-test.true) c.loop-piece.invariant.took (rw c.as_bytes.ensures.value at c.in-Err.ensures) (omega (arith, c.after.ensures, c.loop-piece.invariant.counted))
