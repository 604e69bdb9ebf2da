use Rattle.std.proofs.Common.{◌≡◌, [], length, get_or, arith, rules}
use Rattle.noc_tiles.proofs.TileStepLemmas.{beat_at-set}
use Rattle.noc_tiles.proofs.ends.set_beat.Goals as goal

pub returns : goal.returns
returns c =
    let bs = c.args.beats.now in
    let row : length (get_or bs c.args.router []) ≡ 6 = search rules in
    λ r q. beat_at-set bs c.args.router c.args.port c.args.beat c.requires.0 (omega (arith, row, c.requires.1)) r q
