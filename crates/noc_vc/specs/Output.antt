-- Output virtual channels and their credits (Dally and Towles, chapters 13 and 16).
use Rattle.std.specs.Prelude.{◌≡◌, ℕ, ◌+◌, ◌-◌, ◌≤◌, Bool, true, false, Option, Some, None, IfSome, nat_eq, nat_lt, if◌then◌else◌}
use Rattle.noc_packet.specs.declared.limits.TheConstants.{MAX_BUFFER}
use Rattle.noc_vc.specs.declared.output.OutputState.{OutputState as Holder}
use Rattle.noc_vc.specs.declared.output.OutputState.TheVariants.{Idle as Free, Owned, Draining}

-- an output channel
pub record Output : Type 0 where
  pub holder : Holder
  pub credit : Option ℕ  -- None for an ejection channel
  pub depth : ℕ  -- of the buffer at the other end of its link, in flits; 0 for an ejection channel

abbrev pub link_output : ℕ → Output
link_output depth = record { holder = Free; credit = Some depth; depth = depth }

abbrev pub ejection_output : Output
ejection_output = record { holder = Free; credit = None; depth = 0 }

abbrev pub is_free : Holder → Bool
is_free Free = true
is_free (Owned i p) = false
is_free Draining = false

abbrev pub is_owned : Holder → Bool
is_owned Free = false
is_owned (Owned i p) = true
is_owned Draining = false

abbrev pub credit_fits_at : ℕ → Option ℕ → Bool
credit_fits_at depth None = false
credit_fits_at depth (Some n) = nat_lt n depth

-- whether a credit fits an output channel
abbrev pub credit_fits : Output → Bool
credit_fits output = credit_fits_at output.depth output.credit

-- what is true of each output channel: no more credits than the depth, and one that
-- drains still misses a credit
pub record IsOutput (output : Output) : Type 0 where
  pub small : output.depth ≤ MAX_BUFFER
  pub count : IfSome output.credit (λ n. n ≤ output.depth)
  pub drains : output.holder ≡ Draining → credit_fits output ≡ true

-- a draining channel whose count is full again is free
abbrev pub holder_at : ℕ → ℕ → Holder → Holder
holder_at depth count Free = Free
holder_at depth count (Owned i p) = Owned i p
holder_at depth count Draining = if nat_eq count depth then Free else Draining

abbrev pub output_with_credit : Output → Option ℕ → Output
output_with_credit output None = output
output_with_credit output (Some n) = record output {
  holder = holder_at output.depth (n + 1) output.holder;
  credit = Some (n + 1);
}

-- an output channel after a credit has come
abbrev pub output_after_credit : Output → Output
output_after_credit output = output_with_credit output output.credit

abbrev pub has_credit_at : Option ℕ → Bool
has_credit_at None = true
has_credit_at (Some n) = nat_lt 0 n

-- an ejection channel, or a link channel whose count is not 0
abbrev pub has_credit : Output → Bool
has_credit output = has_credit_at output.credit

-- an output channel after it was granted to a packet that waits on an input channel
abbrev pub output_after_hold : Output → ℕ → ℕ → Output
output_after_hold output input packet = record output { holder = Owned input packet }

-- an output channel after its packet has left
abbrev pub output_after_release : Output → Output
output_after_release output = record output { holder = Free }

abbrev pub output_without_credit : Bool → Output → Option ℕ → Output
output_without_credit last output None = if last then output_after_release output else output
output_without_credit last output (Some n) = record output {
  holder = if last then Draining else output.holder;
  credit = Some (n - 1);
}

-- an output channel after a flit has left by it, the tail or another
abbrev pub output_after_spend : Bool → Output → Output
output_after_spend last output = output_without_credit last output output.credit
