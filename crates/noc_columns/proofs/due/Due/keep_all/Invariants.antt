use Rattle.std.proofs.Common.{◌≡◌, ◌≤◌, ◌+◌}
use Rattle.noc_columns.specs.Sources.{known_until}
use Rattle.noc_columns.proofs.DueLemmas.{AreKept}
use Rattle.noc_columns.proofs.due.Due.keep_all.Given as goal

abbrev pub invariant-loop-r : goal.invariant-loop-r
invariant-loop-r l = (l.self ≡ record l.fn.self { soon = l.self.soon; until = l.self.until }) × (l.self.until ≡ known_until l.cycle) × (l.self.until ≤ l.cycle + 256) × AreKept l.cycle l.r l.self.until l.fn.self.at l.self.soon
