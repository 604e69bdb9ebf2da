-- A router that has taken beats, all of which fit, channel by channel.
use Rattle.std.specs.Prelude.{◌≡◌, ℕ, ◌+◌, ◌/◌, ◌%◌, ◌<◌, Bool, true, false, List, [], ◌∷◌, ◌++◌, length, Option, Some, None, IfSome, nat_eq, if◌then◌else◌}
use Rattle.noc_topo.specs.Lists.{is_some_of}
use Rattle.noc_packet.specs.declared.packet.Flit.{Flit}
use Rattle.noc_packet.specs.declared.packet.Beat.{Beat}
use Rattle.noc_route.specs.Routes.{Routes}
use Rattle.noc_vc.specs.Input.{Input, fits, input_after_land}
use Rattle.noc_vc.specs.Output.{Output, credit_fits, output_after_credit}
use Rattle.noc_view.specs.View.{View, size_of, view_buffer, view_input, view_output}

-- a flit on this virtual channel
abbrev pub flit_on_vc : ℕ → Option (ℕ × Flit) → Option Flit
flit_on_vc vc None = None
flit_on_vc vc (Some (w, f)) = if nat_eq w vc then Some f else None

-- the flit that comes to input channel i by a beat of this port
abbrev pub flit_by : ℕ → ℕ → Option (ℕ × Flit) → ℕ → Option Flit
flit_by vcs port flit i = if nat_eq (i / vcs) port then flit_on_vc (i % vcs) flit else None

-- whether a credit comes to output channel o by it
abbrev pub credit_by : ℕ → ℕ → Option ℕ → ℕ → Bool
credit_by vcs port credit o = if nat_eq (o / vcs) port then is_some_of credit (o % vcs) else false

-- by the beats of this port and those behind it
abbrev pub flit_from : ℕ → ℕ → List Beat → ℕ → Option Flit
flit_from vcs port [] i = None
flit_from vcs port (beat ∷ beats) i =
    if nat_eq (i / vcs) port then flit_on_vc (i % vcs) beat.flit
    else flit_from vcs (port + 1) beats i

abbrev pub credit_from : ℕ → ℕ → List Beat → ℕ → Bool
credit_from vcs port [] o = false
credit_from vcs port (beat ∷ beats) o =
    if nat_eq (o / vcs) port then is_some_of beat.credit (o % vcs)
    else credit_from vcs (port + 1) beats o

-- with the flit that comes, if one does
abbrev pub with_one : List Flit → Option Flit → List Flit
with_one flits None = flits
with_one flits (Some f) = flits ++ f ∷ []

abbrev pub landed_by : Input → Option Flit → Input
landed_by input None = input
landed_by input (Some f) = input_after_land input f

abbrev pub credited_by : Output → Bool → Output
credited_by output false = output
credited_by output true = output_after_credit output

-- w is v after these flits have landed and these credits have come, all of which fit
pub record HasTaken (relation : Routes) (v w : View) (flit : ℕ → Option Flit) (credit : ℕ → Bool)
    : Type 0 where
  pub buffer : (i : ℕ) → i < size_of v.site → view_buffer w i ≡ with_one (view_buffer v i) (flit i)
  pub input : (i : ℕ) → i < size_of v.site → view_input w i ≡ landed_by (view_input v i) (flit i)
  pub output : (o : ℕ) → o < size_of v.site
      → view_output w o ≡ credited_by (view_output v o) (credit o)
  pub fits : (i : ℕ) → i < size_of v.site
      → IfSome (flit i) (λ f. fits relation v.site.node (i / v.site.vcs)
      (i % v.site.vcs) v.site.depth (view_buffer v i) (view_input v i) f ≡ true)
  pub credits : (o : ℕ) → o < size_of v.site → credit o ≡ true
      → credit_fits (view_output v o) ≡ true
  pub n_buffers : length w.buffers ≡ length v.buffers
  pub n_inputs : length w.inputs ≡ length v.inputs
  pub n_outputs : length w.outputs ≡ length v.outputs
  pub rest : w ≡ record v {
    buffers = w.buffers;
    inputs = w.inputs;
    outputs = w.outputs;
    had_event = w.had_event;
  }

-- an entry for each channel
pub record HasSize (v : View) : Type 0 where
  pub some : 0 < v.site.vcs
  pub buffers : length v.buffers ≡ size_of v.site
  pub inputs : length v.inputs ≡ size_of v.site
  pub outputs : length v.outputs ≡ size_of v.site
