-- A beat is taken.
use Rattle.std.proofs.Common.{◌≡◌, ℕ, ◌+◌, ◌*◌, true, false, Some, suc, ◌<◌, List, [], ◌∷◌, ◌++◌, length, take, ap, sym, ◌∙◌, arith, slice_set}
use Rattle.std.specs.Prelude.{nat_lt, slice_index_or, if◌then◌else◌}
use Rattle.std.proofs.lemmas.List.{take_more, length-take}
use Rattle.noc_packet.specs.declared.packet.Flit.{Flit}
use Rattle.noc_packet.specs.declared.packet.Beat.{Beat}
use Rattle.noc_route.specs.Routes.{Routes}
use Rattle.noc_vc.specs.Input.{fits}
use Rattle.noc_vc.specs.Output.{credit_fits, output_after_credit}
use Rattle.noc_router.specs.declared.channels.Channels.{Channels}
use Rattle.noc_router.specs.declared.router.Router.TheInside.{Inside}
use Rattle.noc_router.specs.Inside.{view_of}
use Rattle.noc_router.specs.Parts.{ChannelStates, states_after_credit, states_after_land, states_in}
use Rattle.noc_router.specs.Sound.{nth_output}
use Rattle.noc_view.specs.View.{View, has_link, view_buffer, view_input, view_output, saturating_next, with_flit, with_landed, with_misfit, with_credit, view_after_take, view_after_takes_from}
use Rattle.noc_view.proofs.LandLemmas.{lands, three, not_first, not_second, not_third}

pub with_flit-lands : (relation : Routes) (port vc : ℕ) (f : Flit) (v : View) → has_link v.site port ≡ true → nat_lt vc v.site.vcs ≡ true
    → fits relation v.site.node port vc v.site.depth (view_buffer v (port * v.site.vcs + vc)) (view_input v (port * v.site.vcs + vc)) f ≡ true
    → with_flit relation port (Some (vc, f)) v ≡ with_landed (port * v.site.vcs + vc) f v
with_flit-lands relation port vc f v link small fit =
    ap (λ b. if b then with_landed (port * v.site.vcs + vc) f v else with_misfit v)
    (three (has_link v.site port) (nat_lt vc v.site.vcs) (fits relation v.site.node port vc v.site.depth (view_buffer v (port * v.site.vcs + vc)) (view_input v (port * v.site.vcs + vc)) f) link small fit)

pub with_flit-turned : (relation : Routes) (port vc : ℕ) (f : Flit) (v : View) → lands relation port vc f v ≡ false → with_flit relation port (Some (vc, f)) v ≡ with_misfit v
with_flit-turned relation port vc f v off = ap (λ b. if b then with_landed (port * v.site.vcs + vc) f v else with_misfit v) off

pub no_link : (relation : Routes) (port vc : ℕ) (f : Flit) (v : View) → has_link v.site port ≡ false → lands relation port vc f v ≡ false
no_link relation port vc f v e =
    not_first (has_link v.site port) (nat_lt vc v.site.vcs) (fits relation v.site.node port vc v.site.depth (view_buffer v (port * v.site.vcs + vc)) (view_input v (port * v.site.vcs + vc)) f) e

pub no_channel : (relation : Routes) (port vc : ℕ) (f : Flit) (v : View) → nat_lt vc v.site.vcs ≡ false → lands relation port vc f v ≡ false
no_channel relation port vc f v e =
    not_second (has_link v.site port) (nat_lt vc v.site.vcs) (fits relation v.site.node port vc v.site.depth (view_buffer v (port * v.site.vcs + vc)) (view_input v (port * v.site.vcs + vc)) f) e

pub no_fit : (relation : Routes) (port vc : ℕ) (f : Flit) (v : View)
    → fits relation v.site.node port vc v.site.depth (view_buffer v (port * v.site.vcs + vc)) (view_input v (port * v.site.vcs + vc)) f ≡ false → lands relation port vc f v ≡ false
no_fit relation port vc f v e =
    not_third (has_link v.site port) (nat_lt vc v.site.vcs) (fits relation v.site.node port vc v.site.depth (view_buffer v (port * v.site.vcs + vc)) (view_input v (port * v.site.vcs + vc)) f) e

-- the view once a flit has landed
pub landed-view : (r : Inside) (channels : Channels) (i : ℕ) (f : Flit) → states_in channels ≡ states_after_land i f (states_in r.channels) → view_of (record r { channels = channels; had_event = true }) ≡ with_landed i f (view_of r)
landed-view r channels i f states = ap (λ (s : ChannelStates). record (view_of r) { buffers = s.bank.rings; inputs = s.inputs; outputs = s.outputs; had_event = true }) states

-- the view once a flit was turned away
pub misfit-view : (r : Inside) (channels : Channels) (n : ℕ) → states_in channels ≡ states_in r.channels → n ≡ saturating_next r.misfits → view_of (record r { channels = channels; misfits = n }) ≡ with_misfit (view_of r)
misfit-view r channels n states more =
    ap (λ (s : ChannelStates). record (view_of r) { buffers = s.bank.rings; inputs = s.inputs; outputs = s.outputs; misfits = n }) states ∙ ap (λ k. record (view_of r) { misfits = k }) more

-- a credit arrives where it fits
pub with_credit-fits : (port vc : ℕ) (v : View) → has_link v.site port ≡ true → nat_lt vc v.site.vcs ≡ true → credit_fits (view_output v (port * v.site.vcs + vc)) ≡ true
    → with_credit port (Some vc) v ≡ record v { outputs = slice_set v.outputs (port * v.site.vcs + vc) (output_after_credit (view_output v (port * v.site.vcs + vc))); had_event = true }
with_credit-fits port vc v link small fit =
    let o = port * v.site.vcs + vc in
    let arrived : View = record v { outputs = slice_set v.outputs o (output_after_credit (view_output v o)); had_event = true } in
    ap (λ b. if b then arrived else with_misfit v) (three (has_link v.site port) (nat_lt vc v.site.vcs) (credit_fits (view_output v o)) link small fit)

-- the view once a credit has arrived
pub credited-view : (r : Inside) (channels : Channels) (o : ℕ) → states_in channels ≡ states_after_credit o (states_in r.channels)
    → view_of (record r { channels = channels; had_event = true })
    ≡ record (view_of r) { outputs = slice_set r.channels.outputs.items o (output_after_credit (nth_output r.channels.outputs.items o)); had_event = true }
credited-view r channels o states = ap (λ (s : ChannelStates). record (view_of r) { buffers = s.bank.rings; inputs = s.inputs; outputs = s.outputs; had_event = true }) states

-- ---- one beat more

taken_from-more : (relation : Routes) (port : ℕ) (beats : List Beat) (beat : Beat) (v : View)
    → view_after_takes_from relation port (beats ++ beat ∷ []) v ≡ view_after_take relation (port + length beats) beat (view_after_takes_from relation port beats v)
taken_from-more relation port [] beat v = let e : port ≡ port + 0 = omega arith in ap (λ p. view_after_take relation p beat v) e
taken_from-more relation port (first ∷ beats) beat v =
    let e : port + 1 + length beats ≡ port + suc (length beats) = omega arith in
    taken_from-more relation (port + 1) beats beat (view_after_take relation port first v)
    ∙ ap (λ p. view_after_take relation p beat (view_after_takes_from relation (port + 1) beats (view_after_take relation port first v))) e

pub taken_from-next : (relation : Routes) (beats : List Beat) (port : ℕ) (d : Beat) (v w : View) → port < length beats → w ≡ view_after_takes_from relation 0 (take port beats) v
    → view_after_take relation port (slice_index_or beats port d) w ≡ view_after_takes_from relation 0 (take (port + 1) beats) v
taken_from-next relation beats port d v w l so_far =
    let beat : Beat = slice_index_or beats port d in
    let count : 0 + length (take port beats) ≡ port = omega (arith, length-take port beats) in
    ap (view_after_take relation port beat) so_far
    ∙ sym (ap (λ xs. view_after_takes_from relation 0 xs v) (take_more beats port d l)
    ∙ taken_from-more relation 0 (take port beats) beat v
    ∙ ap (λ p. view_after_take relation p beat (view_after_takes_from relation 0 (take port beats) v)) count)
