-- What is true of the channels of one router: what their buffers hold, and which input channel owns
-- which output channel.
use Rattle.std.specs.Prelude.{◌≡◌, ℕ, ◌<◌, ◌≤◌, ◌/◌, ◌%◌, ◌⊎◌, Bool, true, ◌&&◌, not, length, List, [], ◌∷◌, Option, Some, None, is_some, option_map, slice_index_or, if◌then◌else◌}
use Rattle.noc_packet.specs.declared.packet.Flit.{Flit}
use Rattle.noc_packet.specs.declared.limits.TheConstants.{INDICES, MAX_BUFFER}
use Rattle.noc_vc.specs.Input.{Input, idle_input, is_empty, is_waiting}
use Rattle.noc_vc.specs.Output.{Output, ejection_output, has_credit, is_free}
use Rattle.noc_vc.specs.declared.input.InputState.{InputState}
use Rattle.noc_vc.specs.declared.input.InputState.TheVariants.{Idle, Waiting, Active}
use Rattle.noc_router.specs.Members.{is_within}
use Rattle.noc_view.specs.declared.verdict.Verdict.{Verdict}
use Rattle.noc_view.specs.declared.finding.Finding.{Finding}
use Rattle.noc_view.specs.States.{owns, is_owned_from}

-- the sizes of one router's channels: how many there are, how many of their output channels go on
-- links, and the depth of each buffer
pub record AreSizes (size links depth : ℕ) : Type 0 where
  pub some : 0 < size
  pub few : size ≤ INDICES
  pub few_links : links ≤ size
  pub some_depth : 0 < depth
  pub depth_within : depth ≤ MAX_BUFFER

-- the input channel with this index, an idle one where it does not exist
abbrev pub nth_input : List Input → ℕ → Input
nth_input inputs i = slice_index_or inputs i idle_input

-- the output channel with this index
abbrev pub nth_output : List Output → ℕ → Output
nth_output outputs o = slice_index_or outputs o ejection_output

-- whether these are flits of one packet in their order, as far as their tail: none but the last is
-- a tail, and that is one where the channel awaits nothing more of its packet
abbrev pub is_worm : Bool → Bool → List Flit → Bool
is_worm packet awaits [] = true
is_worm packet awaits (f ∷ []) = packet && (if awaits then not f.last else f.last)
is_worm packet awaits (f ∷ g ∷ rest) = not f.last && is_worm packet awaits (g ∷ rest)

-- whether these flits can be in the buffer of an input channel
abbrev pub is_worm_of : Input → List Flit → Bool
is_worm_of input flits = is_worm (is_some input.packet) (is_some input.awaited) flits

-- whether input channel i awaits a flit of its packet
abbrev pub is_awaiting : List Input → ℕ → Bool
is_awaiting inputs i = is_some (slice_index_or inputs i idle_input).awaited

-- each input channel that awaits a flit still does
abbrev pub KeepsAwaiting : List Input → List Input → Type 0
KeepsAwaiting before after = (i : ℕ) → is_awaiting before i ≡ true → is_awaiting after i ≡ true

-- the output channel that an input channel in this state asks for or owns
abbrev pub out_in : InputState → Option ℕ → Option ℕ
out_in Idle ask = None
out_in (Waiting set) ask = ask
out_in (Active output) ask = Some output

-- what is found of an input channel with this verdict, that asks for this output channel
abbrev pub finding_with : ℕ → Input → Verdict → Option ℕ → Finding
finding_with vcs input verdict ask = record {
  verdict = verdict;
  packet = input.packet;
  out = option_map (λ o. (o / vcs, o % vcs)) (out_in input.phase ask);
}

-- ---- what input channel i can do, in a router with so many channels
-- it is idle and holds a head, which can be routed
pub record CanRoute (size : ℕ) (buffers : List (List Flit)) (inputs : List Input) (i : ℕ)
    : Type 0 where
  pub exists : i < size
  pub idle : (nth_input inputs i).phase ≡ Idle
  pub head : 0 < length (slice_index_or buffers i [])

-- it waits, and output channel o is idle, so that it can be granted
pub record CanHold (size : ℕ) (inputs : List Input) (outputs : List Output) (i o : ℕ) : Type 0 where
  pub input : i < size
  pub output : o < size
  pub waits : is_waiting (nth_input inputs i).phase ≡ true
  pub free : is_free (nth_output outputs o).holder ≡ true

-- its packet owns output channel o, which has a credit, and its next flit is there
pub record CanSend (size : ℕ) (buffers : List (List Flit)) (inputs : List Input)
    (outputs : List Output) (i o : ℕ) : Type 0 where
  pub input : i < size
  pub output : o < size
  pub owned : (nth_input inputs i).phase ≡ Active o
  pub some : 0 < length (slice_index_or buffers i [])
  pub credit : has_credit (nth_output outputs o) ≡ true

-- the source can put its next flit into it: its buffer has room, and it is
-- empty or awaits that flit
pub record CanInject (size depth : ℕ) (buffers : List (List Flit)) (inputs : List Input) (i : ℕ)
    : Type 0 where
  pub exists : i < size
  pub room : length (slice_index_or buffers i []) < depth
  pub next : is_empty (slice_index_or buffers i []) ≡ true ⊎ is_awaiting inputs i ≡ true

-- ---- all channels
-- the channels of a router, by index
pub record AreSound (size : ℕ) (buffers : List (List Flit)) (inputs : List Input)
    (outputs : List Output) : Type 0 where
  pub owned_below : (i : ℕ) → i < size
      → is_within size (slice_index_or inputs i idle_input).phase ≡ true
  pub owners : (i o : ℕ) → i < size → o < size
      → owns (slice_index_or inputs i idle_input).phase o
      ≡ is_owned_from (slice_index_or outputs o ejection_output).holder i
  pub worms : (i : ℕ) → i < size
      → is_worm_of (slice_index_or inputs i idle_input) (slice_index_or buffers i []) ≡ true
