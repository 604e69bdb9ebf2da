-- The small networks on which the definitions are evaluated.
use Rattle.std.proofs.Common.{ℕ, ◌*◌, ◌^◌, List, [], ◌∷◌, Option, Some, None, true, false, map, cond}
use Rattle.std.specs.Prelude.{sum_by}
use Rattle.noc_route.specs.Relation.{RelationParts, rule_has}
use Rattle.noc_route.specs.declared.rule.Rule.{Rule}
use Rattle.noc_route.specs.declared.rule.Rule.TheVariants.{Dor, Dateline, WestFirst}
use Rattle.noc_theory.proofs.Common.{flat_map, below, nodes, ports, Packet, Channel, input_at, output_at, Routes, Setup}

-- the set of a rule at an entry; entries that are never reached have theirs
-- too, which no packet sees
abbrev pub rule_set : RelationParts → ℕ → ℕ → ℕ → ℕ → ℕ
rule_set g m r i t = set_with (input_at g.grid g.vcs r i)
  where
    set_with : Option Channel → ℕ
    set_with None = 0
    set_with (Some c) = sum_by (λ o. cond (rule_has g m c t (output_at g.grid g.vcs r o)) (2 ^ o) 0) (below (ports g.grid * g.vcs))

-- the table of a rule, by router, class, destination and input channel
unfoldable pub table_of : RelationParts → Routes
unfolding below
table_of g = record {
  grid = g.grid;
  vcs = g.vcs;
  classes = g.classes;
  sets = flat_map (λ r. flat_map (λ m. flat_map (λ t. map (λ i. rule_set g m r i t) (below (ports g.grid * g.vcs))) (below (nodes g.grid))) (below g.classes)) (below (nodes g.grid));
}

abbrev pub packet_of : ℕ → ℕ → ℕ → ℕ → ℕ → Packet
packet_of source destination class length due = record { source = source; destination = destination; class = class; length = length; due = due }

-- a mesh of one dimension, by dimension order, one class
unfoldable pub line : ℕ → ℕ → ℕ → List Packet → Setup
unfolding table_of
line nodes vcs depth packets = record {
  relation = table_of (record { grid = record { wraps = false; radix = nodes ∷ [] }; vcs = vcs; classes = 1; rule = Dor });
  depth = depth;
  packets = packets;
}

-- a torus of one dimension, one class
unfoldable pub ring : Rule → ℕ → ℕ → ℕ → List Packet → Setup
unfolding table_of
ring rule nodes vcs depth packets = record {
  relation = table_of (record { grid = record { wraps = true; radix = nodes ∷ [] }; vcs = vcs; classes = 1; rule = rule });
  depth = depth;
  packets = packets;
}

-- one packet of one flit between two nodes
unfoldable pub one_flit : Setup
unfolding line
one_flit = line 2 1 2 (packet_of 0 1 0 1 0 ∷ [])

-- one packet of three flits, two places in each buffer, or one
unfoldable pub three_flits : Setup
unfolding line
three_flits = line 2 1 2 (packet_of 0 1 0 3 0 ∷ [])

unfoldable pub one_slot : Setup
unfolding line
one_slot = line 2 1 1 (packet_of 0 1 0 3 0 ∷ [])

-- the second packet is alone: the first is out when it is due, and the third is due when it is out
unfoldable pub one_by_one : Setup
unfolding line
one_by_one = line 3 1 2 (packet_of 1 2 0 2 0 ∷ packet_of 0 2 0 4 7 ∷ packet_of 0 1 0 1 19 ∷ [])

-- a packet that waits for a channel to drain
unfoldable pub draining : Setup
unfolding line
draining = line 3 1 2 (packet_of 0 2 0 1 0 ∷ packet_of 1 2 0 1 0 ∷ [])

-- two packets of one node, two virtual channels
unfoldable pub one_source : Setup
unfolding line
one_source = line 2 2 2 (packet_of 0 1 0 1 0 ∷ packet_of 0 1 0 1 0 ∷ [])

-- the second packet of a node is due first
unfoldable pub due_first : Setup
unfolding line
due_first = line 2 1 2 (packet_of 0 1 0 1 5 ∷ packet_of 0 1 0 1 0 ∷ [])

-- two pairs of heads that ask for the same channel
unfoldable pub contended : Setup
unfolding line
contended = line 3 2 2 (packet_of 0 2 0 1 0 ∷ packet_of 1 2 0 1 3 ∷ packet_of 0 2 0 1 20 ∷ packet_of 1 2 0 1 23 ∷ [])

-- four long packets around a ring: with one channel they wait for each other for ever, with a
-- dateline they all arrive
abbrev pub around : List Packet
around = packet_of 0 2 0 4 0 ∷ packet_of 1 3 0 4 0 ∷ packet_of 2 0 0 4 0 ∷ packet_of 3 1 0 4 0 ∷ []

unfoldable pub deadlocked : Setup
unfolding ring
deadlocked = ring Dor 4 1 1 around

-- four short packets around it, which wait for each other too, and one that is due later
unfoldable pub woken : Setup
unfolding ring
woken = ring Dor 4 1 1 (packet_of 0 2 0 1 0 ∷ packet_of 1 3 0 1 0 ∷ packet_of 2 0 0 1 0 ∷ packet_of 3 1 0 1 0 ∷ packet_of 0 1 0 1 9 ∷ [])

unfoldable pub dateline : Setup
unfolding ring
dateline = ring Dateline 4 2 1 around

-- two nodes that are joined twice
unfoldable pub joined_twice : Setup
unfolding ring
joined_twice = ring Dor 2 1 2 (packet_of 0 1 0 1 0 ∷ packet_of 1 0 0 1 0 ∷ [])

-- a crowd on a mesh of two dimensions, two classes, the turn model west-first
unfoldable pub crowd : Setup
unfolding table_of
crowd = record {
  relation = table_of (record { grid = record { wraps = false; radix = 3 ∷ 2 ∷ [] }; vcs = 2; classes = 2; rule = WestFirst });
  depth = 1;
  packets = packet_of 0 5 0 3 0 ∷ packet_of 3 2 1 2 0 ∷ packet_of 0 4 1 2 0 ∷ packet_of 1 5 0 3 1 ∷ packet_of 5 0 0 2 0 ∷ packet_of 4 2 0 1 2 ∷ packet_of 0 2 0 2 0 ∷ [];
}
