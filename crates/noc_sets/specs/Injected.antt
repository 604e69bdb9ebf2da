-- A router that has injected, channel by channel.
use Rattle.std.specs.Prelude.{◌≡◌, ℕ, ◌<◌, List, [], ◌∷◌, length, Option, Some, None, option_map, find, nat_eq, nat_lt, nat_le, if◌then◌else◌}
use Rattle.noc_topo.specs.Lists.{below}
use Rattle.noc_packet.specs.Packet.{flit_at}
use Rattle.noc_packet.specs.declared.packet.Packet.{Packet}
use Rattle.noc_packet.specs.declared.packet.Flit.{Flit}
use Rattle.noc_view.specs.View.{View, size_of, local_channel, view_buffer, view_input, is_vacant}
use Rattle.noc_sets.specs.Taken.{with_one, landed_by}

-- the local virtual channel to which a flit is injected in cycle n, and the flit
abbrev pub injection_from : ℕ → List (ℕ × Packet) → Option (ℕ × ℕ) → View → Option (ℕ × Flit)
injection_from n [] sending v = None
injection_from n ((number, p) ∷ rest) (Some (vc, index)) v =
    if nat_lt (length (view_buffer v (local_channel v.site vc))) v.site.depth
    then Some (vc, flit_at p number index) else None
injection_from n ((number, p) ∷ rest) None v =
    if nat_le p.due n
    then option_map (λ vc. (vc, flit_at p number 0)) (find (is_vacant v) (below v.site.vcs))
    else None

abbrev pub injection_in : ℕ → View → Option (ℕ × Flit)
injection_in n v = injection_from n v.queue v.sending v

-- the flit that is injected to input channel i
abbrev pub injected_to : View → Option (ℕ × Flit) → ℕ → Option Flit
injected_to v None i = None
injected_to v (Some (vc, f)) i = if nat_eq i (local_channel v.site vc) then Some f else None

-- w is v after this flit was injected, if one was
pub record HasInjected (v w : View) (flit : Option (ℕ × Flit)) : Type 0 where
  pub site : w.site ≡ v.site
  pub buffer : (i : ℕ) → i < size_of v.site
      → view_buffer w i ≡ with_one (view_buffer v i) (injected_to v flit i)
  pub input : (i : ℕ) → i < size_of v.site
      → view_input w i ≡ landed_by (view_input v i) (injected_to v flit i)
  pub n_buffers : length w.buffers ≡ length v.buffers
  pub n_inputs : length w.inputs ≡ length v.inputs
  pub outputs : w.outputs ≡ v.outputs
  pub arbiters : w.arbiters ≡ v.arbiters
  pub misfits : w.misfits ≡ v.misfits
