-- What a writer that counts shows of the device below it, and a buffer above it.
use Rattle.std.specs.Prelude.{◌≡◌, ℕ, ◌-◌, List, [], ◌∷◌, Option, Result, IsErr, length, option_map}
use Rattle.std.specs.Io.Buffered.{writer_contents, writer_inner}
use Rattle.std.specs.Io.KnownBytes.{Keeps, append_known}
use Rattle.std.specs.declared.io.buffered.BufWriter.{BufWriter}
use Rattle.noc_faults.specs.declared.fault.Fault.{Fault}
use Rattle.noc_faults.specs.declared.status.Status.{Status}
use Rattle.noc_program.specs.Ending.{EndsAs}
use Rattle.noc_program.specs.declared.counted.Counted.{Counted}

-- Known bytes, of which so many were counted, with two numbers before them that stay as more are
-- written and counted: by how many the bytes are more than the count, and by how many fewer.
abbrev pub with_start : ℕ → Option (List ℕ) → Option (List ℕ)
with_start taken known = option_map (λ xs. (length xs - taken) ∷ (taken - length xs) ∷ xs) known

-- the bytes of the device, with where the count began
abbrev pub counted_contents : {W : Type 0} → (W → Option (List ℕ)) → Counted W → Option (List ℕ)
counted_contents contents counted = with_start counted.taken (contents counted.writer)

-- a buffer that has just been put before a device: nothing is in it, and nothing was counted
pub record IsOpened {W A : Type 0} (contents : W → Option (List ℕ)) (device : W)
    (writer : BufWriter (Counted W) A) : Type 0 where
  pub shows : writer_contents (counted_contents contents) writer
      ≡ append_known (with_start 0 (contents device)) []
  pub holds : (writer_inner writer).writer ≡ device

-- a device is taken back from behind its buffer, as an answer ends: of the bytes that were put so
-- many were counted, and these are left
pub record IsTakenBack {W A : Type 0} (contents : W → Option (List ℕ))
    (writer : BufWriter (Counted W) A) (answered : Result Status Fault) (device : W)
    (ended : Result Status Fault) : Type 0 where
  pub taken : ℕ
  pub left : List ℕ
  pub ends : EndsAs (left ≡ []) taken answered ended
  pub bytes : Keeps (writer_contents (counted_contents contents) writer)
      (append_known (with_start taken (contents device)) left)
  pub still : IsErr answered → device ≡ (writer_inner writer).writer
