-- A bank of two rings of two slots, step by step.
use Rattle.std.proofs.Common.{◌≡◌, [], ◌∷◌, Some, length, refl, false, ℕ}
use Rattle.std.specs.List.{slice_get}
use Rattle.noc_packet.specs.declared.packet.Flit.{Flit}
use Rattle.noc_ring.specs.Buffers.{Buffers, empty_buffers, buffer_at, buffers_after_push, buffers_after_pop}

abbrev flit : ℕ → Flit
flit packet = record { packet = packet; index = 0; last = false; dst = 0; class = 0 }

-- a and b are pushed, a is popped, c is pushed
abbrev bank : Buffers
bank = buffers_after_push (buffers_after_pop (buffers_after_push (buffers_after_push (empty_buffers 2 2) 0 (flit 1)) 0 (flit 2)) 0) 0 (flit 3)

pub full : length (buffer_at bank 0) ≡ bank.capacity
full = refl

pub b-is_first : slice_get (buffer_at bank 0) 0 ≡ Some (flit 2)
b-is_first = refl

pub c-is_next : buffer_at (buffers_after_pop bank 0) 0 ≡ flit 3 ∷ []
c-is_next = refl

pub then-empty : buffers_after_pop (buffers_after_pop bank 0) 0 ≡ empty_buffers 2 2
then-empty = refl

pub other-is_empty : buffer_at bank 1 ≡ []
other-is_empty = refl
