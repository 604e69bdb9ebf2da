-- The channels and the arbiters of a router are whole.
use Rattle.std.proofs.Common.{◌≡◌, ℕ, ◌*◌, ◌<◌, ◌≤◌, arith, true, length, ap, sym, ◌∙◌, subst}
use Rattle.std.specs.List.{All}
use Rattle.std.proofs.lemmas.Bool.{ltb-true}
use Rattle.noc_topo.specs.Shape.{ports}
use Rattle.noc_alloc.specs.Arbiter.{RoundRobin}
use Rattle.noc_vc.specs.declared.input.InputState.{InputState}
use Rattle.noc_vc.specs.declared.input.InputState.TheVariants.{Active}
use Rattle.noc_router.specs.declared.router.Router.TheInside.{Inside}
use Rattle.noc_router.specs.Inside.{IsRouter, view_of}
use Rattle.noc_router.specs.Members.{is_within}
use Rattle.noc_view.specs.View.{View, size_of, view_input}
use Rattle.noc_router.proofs.SettleLemmas.{IsWhole}

-- ---- a router is whole
within_bound : (n : ℕ) (p : InputState) (o : ℕ) → is_within n p ≡ true → p ≡ Active o → o < n
within_bound n p o e is = ltb-true o n (sym (ap (is_within n) is) ∙ e)

pub whole_of : (r : Inside) → IsRouter r → IsWhole (view_of r)
whole_of r h =
    let c = r.channels in
    let n : c.size ≡ size_of (view_of r).site = h.channels ∙ ap (λ p. p * r.vcs) h.ports in
    record {
      some_vc = h.some_vc;
      buffers = c.a_ring_each ∙ n;
      inputs = sym c.inputs.ok.0 ∙ c.an_input_each ∙ n;
      outputs = sym c.outputs.ok.0 ∙ c.an_output_each ∙ n;
      within = λ i o l p. subst (λ k. o < k) n (within_bound c.size (view_input (view_of r) i).phase o (c.sound.owned_below i (subst (λ k. i < k) (sym n) l)) p);
      owners = λ i o li lo. c.sound.owners i o (subst (λ k. i < k) (sym n) li) (subst (λ k. o < k) (sym n) lo);
    }

pub whole_view : (r : Inside) (v : View) → view_of r ≡ v → IsRouter r → IsWhole v
whole_view r v e h = let P : View → Type 0 = λ x. IsWhole x in subst P e (whole_of r h)

pub size_view : (r : Inside) (v : View) → view_of r ≡ v → IsRouter r → size_of v.site ≡ r.ports * r.vcs
size_view r v e h = sym (ap (λ (x : View). size_of x.site) e) ∙ ap (λ p. p * r.vcs) (sym h.ports)

-- ---- its arbiters are over its channels and ports
pub record AreArbiters (v : View) : Type 0 where
  pub channels : length v.arbiters.channels ≡ size_of v.site
  pub inputs : length v.arbiters.inputs ≡ ports v.site.grid
  pub outputs : length v.arbiters.outputs ≡ ports v.site.grid
  pub over_channels : All (λ (t : RoundRobin). t.size ≡ size_of v.site) v.arbiters.channels
  pub over_vcs : All (λ (t : RoundRobin). t.size ≡ v.site.vcs) v.arbiters.inputs
  pub over_ports : All (λ (t : RoundRobin). t.size ≡ ports v.site.grid) v.arbiters.outputs

arbiters_of : (r : Inside) → IsRouter r → AreArbiters (view_of r)
arbiters_of r h =
    let a = r.arbiters in
    let p : a.ports ≡ ports r.shape = h.arbiter_ports ∙ h.ports in
    let n : a.ports * a.vcs ≡ ports r.shape * r.vcs = ap (λ k. k * a.vcs) p ∙ ap (λ k. ports r.shape * k) h.arbiter_vcs in
    record {
      channels = sym a.channels.ok.0 ∙ a.one_each_channel ∙ n;
      inputs = sym a.inputs.ok.0 ∙ a.one_each_input ∙ p;
      outputs = sym a.outputs.ok.0 ∙ a.one_each_output ∙ p;
      over_channels = λ k d l. a.over_channels k d l ∙ n;
      over_vcs = λ k d l. a.over_vcs k d l ∙ h.arbiter_vcs;
      over_ports = λ k d l. a.over_ports k d l ∙ p;
    }

pub arbiters_view : (r : Inside) (v : View) → view_of r ≡ v → IsRouter r → AreArbiters v
arbiters_view r v e h = let P : View → Type 0 = λ x. AreArbiters x in subst P e (arbiters_of r h)

-- as many channels and ports as its view has
pub ports_view : (r : Inside) (v : View) → view_of r ≡ v → IsRouter r → r.ports ≡ ports v.site.grid
ports_view r v e h = h.ports ∙ ap (λ (x : View). ports x.site.grid) e

-- there is room for them
pub few-channels : (r : Inside) → IsRouter r → r.ports * r.vcs ≤ 56
few-channels r h = omega (arith, r.channels.few, h.channels)

pub few-ports : (r : Inside) → IsRouter r → r.ports ≤ 7
few-ports r h = omega (arith, h.ports, h.grid.few_dimensions)
