-- The beats of a cycle are put, and what is left of the verdicts.
use Rattle.std.proofs.Common.{◌≡◌, ℕ, ◌+◌, ◌<◌, ◌≤◌, false, List, length, get_or, set, Some, refl, ap, sym, ◌∙◌, arith, inl, inr, subst}
use Rattle.std.specs.Prelude.{◌⊎◌, if◌then◌else◌}
use Rattle.std.proofs.lemmas.Bool.{cases_eq}
use Rattle.std.proofs.lemmas.List.{length-set, get_or-set_same, get_or-set_other, ext_get_or, get_or-replicate, length-replicate, length-take}
use Rattle.noc_topo.specs.Shape.{local_port}
use Rattle.noc_packet.specs.declared.packet.Flit.{Flit}
use Rattle.noc_packet.specs.declared.packet.Beat.{Beat}
use Rattle.noc_router.specs.declared.router.Router.TheInside.{Inside}
use Rattle.noc_router.specs.Inside.{IsRouter, view_of}
use Rattle.noc_router.specs.Settled.{ejected_packet, flit_put, view_after_verdicts, view_after_tally, with_flit_at}
use Rattle.noc_view.specs.Verdict.{ArbiterStates, arbiters_after}
use Rattle.noc_view.specs.View.{View, Decisions, view_after_commit, tail_packet, flit_out, idle_beat, idle_beats, view_after_put}
use Rattle.noc_view.proofs.SinkLemmas.{arrival-is}
use Rattle.noc_view.proofs.SiteLemmas.{unsunk, sunk, committed-parts}

pub put-site : (port vc : ℕ) (f : Flit) (v : View) → (flit_put port vc f v).site ≡ v.site
put-site port vc f v = ap (λ (w : View). w.site) (arrival-is (ejected_packet v port f) (record v { to_put = with_flit_at port vc f v.to_put }))

pub settled-parts : (d : Decisions) (v : View) → view_after_verdicts d v ≡ sunk d v (unsunk d v)
unfolding view_after_verdicts
settled-parts d v = arrival-is (tail_packet (flit_out v d.round (local_port v.site.grid))) (unsunk d v)

pub settled-site : (d : Decisions) (v : View) → (view_after_verdicts d v).site ≡ v.site
settled-site d v = ap (λ (x : View). x.site) (settled-parts d v)

pub settled-arbiters : (d : Decisions) (v : View) → (view_after_verdicts d v).arbiters ≡ v.arbiters
settled-arbiters d v = ap (λ (x : View). x.arbiters) (settled-parts d v)

-- the pointers are these, and the cycle ends
abbrev pub closed_with : ArbiterStates → View → View
closed_with arbiters v = record v { arbiters = arbiters; last_event = (if v.had_event then Some v.given else v.last_event); had_event = false }

-- what is counted, settled, turned and closed is committed
pub committed-is : (d : Decisions) (v : View) → closed_with (arbiters_after d.round v.arbiters) (view_after_verdicts d (view_after_tally d v)) ≡ view_after_commit d v
committed-is d v = ap (closed_with (arbiters_after d.round v.arbiters)) (settled-parts d (view_after_tally d v)) ∙ sym (committed-parts d v)

-- ---- a put at each port
-- the beats before this port are put, the others are not
pub record ArePut (v w : View) (n port : ℕ) (beats : List Beat) : Type 0 where
  pub others : w ≡ record v { to_put = w.to_put }
  pub count : length v.to_put ≡ n
  pub same_count : length w.to_put ≡ n
  pub length_out : length beats ≡ n
  pub done : (k : ℕ) → k < port → get_or w.to_put k idle_beat ≡ idle_beat
  pub left : (k : ℕ) → port ≤ k → get_or w.to_put k idle_beat ≡ get_or v.to_put k idle_beat
  pub out : (k : ℕ) → k < port → get_or beats k idle_beat ≡ get_or v.to_put k idle_beat

pub put-first : (v : View) (n : ℕ) (beats : List Beat) → length v.to_put ≡ n → length beats ≡ n → ArePut v v n 0 beats
put-first v n beats c b = record {
  others = refl;
  count = c;
  same_count = c;
  length_out = b;
  done = λ k l. absurd (omega arith);
  left = λ k l. refl;
  out = λ k l. absurd (omega arith);
}

pub put-more : (v w new : View) (n port : ℕ) (beats beats' : List Beat) (beat : Beat) → ArePut v w n port beats → port < n → new ≡ view_after_put port w → beat ≡ get_or w.to_put port idle_beat → beats' ≡ set beats port beat → ArePut v new n (port + 1) beats'
put-more v w new n port beats beats' beat so_far l is one written = let P : View → Type 0 = λ x. ArePut v x n (port + 1) beats' in subst P (sym is) (record {
  others = ap (λ (x : View). record x { to_put = set w.to_put port idle_beat }) so_far.others;
  count = so_far.count;
  same_count = length-set w.to_put port idle_beat ∙ so_far.same_count;
  length_out = ap length written ∙ length-set beats port beat ∙ so_far.length_out;
  done = λ k u. done_at k u (cases_eq k port);
  left = λ k u. get_or-set_other w.to_put port k idle_beat idle_beat (λ e. omega arith) ∙ so_far.left k (omega arith);
  out = λ k u. ap (λ bs. get_or bs k idle_beat) written ∙ out_at k u (cases_eq k port);
})
  where
    done_at : (k : ℕ) → k < port + 1 → (k ≡ port) ⊎ (k ≡ port → ⊥) → get_or (set w.to_put port idle_beat) k idle_beat ≡ idle_beat
    done_at k u (inl same) = ap (λ j. get_or (set w.to_put port idle_beat) j idle_beat) same ∙ get_or-set_same w.to_put port idle_beat idle_beat (let c : length w.to_put ≡ n = so_far.same_count in omega arith)
    done_at k u (inr other) = get_or-set_other w.to_put port k idle_beat idle_beat other ∙ so_far.done k (omega arith)

    out_at : (k : ℕ) → k < port + 1 → (k ≡ port) ⊎ (k ≡ port → ⊥) → get_or (set beats port beat) k idle_beat ≡ get_or v.to_put k idle_beat
    out_at k u (inl same) =
        ap (λ j. get_or (set beats port beat) j idle_beat) same ∙ get_or-set_same beats port beat idle_beat (let c : length beats ≡ n = so_far.length_out in omega arith) ∙ one
        ∙ so_far.left port (omega arith) ∙ ap (λ j. get_or v.to_put j idle_beat) (sym same)
    out_at k u (inr other) = get_or-set_other beats port k beat idle_beat other ∙ so_far.out k (omega arith)

pub put-view : (v w : View) (n port : ℕ) (beats : List Beat) → ArePut v w n port beats → n ≤ port → n ≡ local_port v.site.grid → w ≡ record v { to_put = idle_beats v.site }
put-view v w n port beats so_far l e =
    so_far.others
    ∙ ap (λ bs. record v { to_put = bs })
    (ext_get_or idle_beat w.to_put (idle_beats v.site) (so_far.same_count ∙ e ∙ sym (length-replicate (local_port v.site.grid) idle_beat))
    (λ k u. let c : length w.to_put ≡ n = so_far.same_count in so_far.done k (omega arith) ∙ sym (get_or-replicate (local_port v.site.grid) k idle_beat idle_beat (omega arith))))

pub put-beats : (v w : View) (n port : ℕ) (beats : List Beat) → ArePut v w n port beats → n ≤ port → beats ≡ v.to_put
put-beats v w n port beats so_far l =
    ext_get_or idle_beat beats v.to_put (so_far.length_out ∙ sym so_far.count) (λ k u. let c : length beats ≡ n = so_far.length_out in so_far.out k (omega arith))

pub beats_count : (r : Inside) (v : View) → view_of r ≡ v → IsRouter r → length v.to_put ≡ local_port v.site.grid
beats_count r v e h =
    let P : View → Type 0 = λ x. length x.to_put ≡ local_port x.site.grid in
    subst P e (omega (arith, h.beats, length-take (local_port r.shape) r.to_put, h.grid.few_dimensions))

pub links_view : (r : Inside) (v : View) → view_of r ≡ v → IsRouter r → r.ports ≡ local_port v.site.grid + 1
links_view r v e h = h.ports ∙ ap (λ (x : View). local_port x.site.grid + 1) e
