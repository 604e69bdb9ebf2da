-- The words of the routers of blocks: before the first cycle, and after a turn.
use Rattle.std.specs.Prelude.{ℕ, ◌/◌, ◌%◌, None}
use Rattle.noc_sets.specs.Cycle.{Links as Left, Router, Turn}
use Rattle.noc_theory_bits.specs.Network.{Words}
use Rattle.noc_columns.specs.declared.channels.Links.{Links}
use Rattle.noc_columns.specs.declared.ports.RouterPorts.{RouterPorts}
use Rattle.noc_columns.specs.declared.words.TheConstants.{ROUTERS}
use Rattle.noc_cycles.specs.Held.{Held, held_at}
use Rattle.noc_cycles.specs.Opened.{router_of}
use Rattle.noc_cycles.specs.declared.block.Block.{Block}
use Rattle.noc_cycles.specs.declared.pattern.Pattern.{Pattern}

-- what router s holds, router s % ROUTERS of block s / ROUTERS
abbrev pub held_in : RouterPorts → (ℕ → Block) → ℕ → Held
held_in ports block s = held_at ports (block (s / ROUTERS)) (s % ROUTERS)

-- the words of routers before the first cycle that hold this, when nothing has happened
abbrev pub opened_words : Pattern → (ℕ → Held) → Words
opened_words pattern held = record {
  routers = λ s. router_of pattern (held s);
  last = 0;
  arrivals = λ p. None;
}

-- the words of a router after this turn, where these packets hold its input channels, and its links
-- bring this
abbrev pub router_after : Turn → (ℕ → ℕ) → Links ℕ → Router
router_after t packet links = record {
  column = t.column;
  marks = record t.marks { packet = packet };
  ended = t.ended;
  links = record { flits = links.flits; tails = links.tails; credits = links.credits };
  source = t.source;
  counts = t.counts;
}

-- what leaves routers, by these words
abbrev pub left_as : (ℕ → Links ℕ) → ℕ → Left
left_as words s = record {
  flits = (words s).flits;
  tails = (words s).tails;
  credits = (words s).credits;
}
