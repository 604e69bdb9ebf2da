-- A bank of flit buffers, as lists.
use Rattle.std.specs.Prelude.{ℕ, List, [], ◌∷◌, ◌++◌, drop, slice_index_or, slice_set}
use Rattle.std.proofs.Math.ListN.{replicate}
use Rattle.noc_packet.specs.declared.packet.Flit.{Flit}

-- the flits of each ring, the oldest first, and how many each ring has room for
pub record Buffers : Type 0 where
  pub rings : List (List Flit)
  pub capacity : ℕ

-- the flits of one ring
abbrev pub buffer_at : Buffers → ℕ → List Flit
buffer_at b r = slice_index_or b.rings r []

-- so many rings with no flit
abbrev pub empty_buffers : ℕ → ℕ → Buffers
empty_buffers rings capacity = record { rings = replicate rings []; capacity = capacity }

-- one flit more at the end of ring r
abbrev pub buffers_after_push : Buffers → ℕ → Flit → Buffers
buffers_after_push b r flit = record {
  rings = slice_set b.rings r (buffer_at b r ++ flit ∷ []);
  capacity = b.capacity;
}

-- ring r less its first flit
abbrev pub buffers_after_pop : Buffers → ℕ → Buffers
buffers_after_pop b r = record {
  rings = slice_set b.rings r (drop 1 (buffer_at b r));
  capacity = b.capacity;
}
