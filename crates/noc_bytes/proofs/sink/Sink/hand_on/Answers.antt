use Rattle.std.proofs.KnownBytes.{Keeps-refl}
use Rattle.noc_bytes.proofs.sink.Sink.hand_on.Goals as goal

pub returns-clause-bytes : goal.returns-clause-bytes
returns-clause-bytes g c = Keeps-refl (g.Self.Sink.contents c.args.self.now)
