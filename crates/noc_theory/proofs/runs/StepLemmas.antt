-- What taking, injecting and committing leave of a router, and the two halves of its step.
use Rattle.std.proofs.Common.{◌≡◌, ℕ, suc, ◌+◌, ◌<◌, ◌≤◌, Bool, true, false, List, [], ◌∷◌, length, get_or, Option, Some, None, refl, ap, sym, ◌∙◌, ⊎_elim, arith}
use Rattle.std.specs.Prelude.{if◌then◌else◌}
use Rattle.noc_view.specs.View.{IsRelationOf}
use Rattle.noc_view.proofs.SiteLemmas.{all_taken-site, committed-site, injected-site}
use Rattle.noc_theory.proofs.Common.{cases_lt, get_or_past, Grid, local_port, length-tabulate, get_or-tabulate, Beat, Routes, Site, View, Decisions, view_after_take, view_after_takes_from, view_after_takes, view_after_inject, decisions_of, view_after_commit, local_step, with_flit, with_credit, with_arrival, tail_packet, flit_out, idle_beat, IsSilent, view_after_decide, view_after_puts, incoming}

either_count : (b : Bool) (x y : View) (n : ℕ) → length x.to_put ≡ n → length y.to_put ≡ n → length (if b then x else y).to_put ≡ n
either_count true x y n p q = p
either_count false x y n p q = q

count-with_arrival : (p : Option ℕ) (v : View) → length (with_arrival p v).to_put ≡ length v.to_put
count-with_arrival None v = refl
count-with_arrival (Some p) v = either_count _ _ _ (length v.to_put) refl refl

pub count-committed : (d : Decisions) (v : View) → length (view_after_commit d v).to_put ≡ local_port v.site.grid
unfolding view_after_commit
count-committed d v = count-with_arrival (tail_packet (flit_out v d.round (local_port v.site.grid))) _ ∙ length-tabulate (local_port v.site.grid) _

pub site-decided : (relation : Routes) (n : ℕ) (beats : List Beat) (v : View) → (view_after_decide relation n beats v).site ≡ v.site
unfolding view_after_decide
site-decided relation n beats v =
    let taken_site : (view_after_takes relation beats v).site ≡ v.site = all_taken-site relation beats v in
    let injected_site : (view_after_inject n (view_after_takes relation beats v)).site ≡ v.site = injected-site n (view_after_takes relation beats v) ∙ taken_site in
    committed-site (decisions_of relation (view_after_inject n (view_after_takes relation beats v))) (view_after_inject n (view_after_takes relation beats v)) ∙ injected_site

pub count-decided : (relation : Routes) (n : ℕ) (beats : List Beat) (v : View) → length (view_after_decide relation n beats v).to_put ≡ local_port v.site.grid
unfolding view_after_decide
count-decided relation n beats v =
    let frozen = view_after_inject n (view_after_takes relation beats v) in
    let injected_site : (view_after_inject n (view_after_takes relation beats v)).site ≡ v.site = injected-site n (view_after_takes relation beats v) ∙ all_taken-site relation beats v in
    count-committed (decisions_of relation frozen) frozen ∙ ap (λ (s : Site). local_port s.grid) injected_site

-- the whole step is the first half, and then all beats are put
pub local_step-view : (relation : Routes) (v : View) (beats : List Beat) (n : ℕ) → (local_step relation v beats n).0 ≡ view_after_puts (view_after_decide relation n beats v)
unfolding view_after_decide local_step
local_step-view relation v beats n = refl

pub local_step-beats : (relation : Routes) (v : View) (beats : List Beat) (n : ℕ) → (local_step relation v beats n).1 ≡ (view_after_decide relation n beats v).to_put
unfolding view_after_decide local_step
local_step-beats relation v beats n = refl

pub site-local_step : (relation : Routes) (v : View) (beats : List Beat) (n : ℕ) → (local_step relation v beats n).0.site ≡ v.site
site-local_step relation v beats n = ap (λ (w : View). w.site) (local_step-view relation v beats n) ∙ site-decided relation n beats v

pub IsRelationOf-same_site : (relation : Routes) (v w : View) → w.site ≡ v.site → IsRelationOf relation v → IsRelationOf relation w
IsRelationOf-same_site relation v w same fits = record {
  grid = fits.grid ∙ ap (λ (s : Site). s.grid) (sym same);
  vcs = fits.vcs ∙ ap (λ (s : Site). s.vcs) (sym same);
}

-- ---- taking port by port

-- an idle beat changes nothing
pub taken-idle : (relation : Routes) (port : ℕ) (beat : Beat) (v : View) → beat ≡ idle_beat → view_after_take relation port beat v ≡ v
unfolding view_after_take
taken-idle relation port beat v idle = ap (λ b. with_credit port b.credit (with_flit relation port b.flit v)) idle

-- idle beats at all ports change nothing
taken-silent : (relation : Routes) (port : ℕ) (beats : List Beat) (v : View) → IsSilent beats → view_after_takes_from relation port beats v ≡ v
taken-silent relation port [] v silent = refl
taken-silent relation port (beat ∷ beats) v silent =
    ap (view_after_takes_from relation (port + 1) beats) (taken-idle relation port beat v (silent 0)) ∙ taken-silent relation (port + 1) beats v (λ k. silent (suc k))

-- where nothing came, nothing is taken
pub taken_end : (relation : Routes) (grid : Grid) (beats : List Beat) (v : View) → IsSilent beats → view_after_takes relation (incoming grid beats) v ≡ v
unfolding view_after_takes incoming
taken_end relation grid beats v silent = taken-silent relation 0 (incoming grid beats) v (λ port.
    ⊎_elim (λ (l : port < local_port grid). get_or-tabulate (local_port grid) port (λ k. get_or beats k idle_beat) idle_beat l ∙ silent port)
    (λ (past : local_port grid ≤ port). get_or_past (incoming grid beats) port idle_beat (let n = length-tabulate (local_port grid) (λ k. get_or beats k idle_beat) in omega arith))
    (cases_lt port (local_port grid)))
