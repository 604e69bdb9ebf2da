-- The input channel that moves a flit to an output channel.
use Rattle.std.proofs.Common.{◌≡◌, ℕ, ◌/◌, ◌<◌, Bool, true, false, List, [], Option, Some, None, refl, ap, sym, ◌∙◌, ◌∷◌}
use Rattle.std.specs.Prelude.{not, option_and_then, if◌then◌else◌, slice_get}
use Rattle.std.proofs.lemmas.Bool.{false≢true}
use Rattle.std.proofs.Math.Nat.{div-lt_iff_lt-mul}
use Rattle.noc_topo.specs.Lists.{is_some_of}
use Rattle.noc_topo.specs.Shape.{ports}
use Rattle.noc_packet.specs.declared.packet.Flit.{Flit}
use Rattle.noc_vc.specs.Input.{is_empty}
use Rattle.noc_alloc.proofs.WordLemmas.{is_some_of-true, is_some_of-some}
use Rattle.noc_view.specs.Verdict.{out_of, is_moved, is_event}
use Rattle.noc_view.specs.View.{View, Decisions, size_of, view_claim, view_buffer, first_flit, mover, mover_to}
use Rattle.noc_view.specs.declared.verdict.Verdict.{Verdict}
use Rattle.noc_view.specs.declared.verdict.Verdict.TheVariants.{Empty, Routed, Granted, Moved, NoFlit, NoIdleChannel, LostChannel, NoCredit, LostInput, LostSwitch}
use Rattle.noc_view.proofs.PlanLemmas.{holds_flit}

-- ---- who is granted, and who moves
pub port_below : (v : View) (o : ℕ) → 0 < v.site.vcs → o < size_of v.site → o / v.site.vcs < ports v.site.grid
port_below v o some l = (div-lt_iff_lt-mul some).1 l

pub mover_to-is : (d : Decisions) (v : View) (o i : ℕ) → mover_to v d.round o ≡ Some i → (mover v.site d.round (o / v.site.vcs) ≡ Some i) × (out_of (view_claim v i) ≡ Some o)
mover_to-is d v o i e = at (mover v.site d.round (o / v.site.vcs)) refl e
  where
    test : (k : ℕ) (b : Bool) → is_some_of (out_of (view_claim v k)) o ≡ b → mover v.site d.round (o / v.site.vcs) ≡ Some k → (if b then Some k else None) ≡ Some i
        → (mover v.site d.round (o / v.site.vcs) ≡ Some i) × (out_of (view_claim v i) ≡ Some o)
    test k true t m h =
        let same : k ≡ i = cc in
        (m ∙ h, ap (λ j. out_of (view_claim v j)) (sym same) ∙ is_some_of-true (out_of (view_claim v k)) o t)
    test k false t m h = absurd (cc h)

    at : (m : Option ℕ) → mover v.site d.round (o / v.site.vcs) ≡ m → option_and_then (λ k. if is_some_of (out_of (view_claim v k)) o then Some k else None) m ≡ Some i
        → (mover v.site d.round (o / v.site.vcs) ≡ Some i) × (out_of (view_claim v i) ≡ Some o)
    at None m h = absurd (cc h)
    at (Some k) m h = test k (is_some_of (out_of (view_claim v k)) o) refl m h

pub mover_to-from : (d : Decisions) (v : View) (o i : ℕ) → mover v.site d.round (o / v.site.vcs) ≡ Some i → out_of (view_claim v i) ≡ Some o → mover_to v d.round o ≡ Some i
mover_to-from d v o i m t =
    ap (λ (x : Option ℕ). option_and_then (λ k. if is_some_of (out_of (view_claim v k)) o then Some k else None) x) m
    ∙ ap (λ b. if b then Some i else None) (is_some_of-some (out_of (view_claim v i)) o t)

-- ---- flits and verdicts
-- the first of some flits
some_first : (flits : List Flit) → not (is_empty flits) ≡ true → (f : Flit) × (slice_get flits 0 ≡ Some f)
some_first [] e = absurd (false≢true e)
some_first (f ∷ rest) e = (f, refl)

pub flit-first : (v : View) (i : ℕ) → holds_flit v i ≡ true → (f : Flit) × (first_flit v i ≡ Some f)
flit-first v i e = some_first (view_buffer v i) e

pub is_moved-true : (x : Verdict) → is_moved x ≡ true → x ≡ Moved
is_moved-true Empty e = absurd (false≢true e)
is_moved-true Routed e = absurd (false≢true e)
is_moved-true Granted e = absurd (false≢true e)
is_moved-true Moved e = refl
is_moved-true NoFlit e = absurd (false≢true e)
is_moved-true NoIdleChannel e = absurd (false≢true e)
is_moved-true LostChannel e = absurd (false≢true e)
is_moved-true NoCredit e = absurd (false≢true e)
is_moved-true LostInput e = absurd (false≢true e)
is_moved-true LostSwitch e = absurd (false≢true e)

-- a verdict that does not take effect moves no flit
pub quiet-moved : (x : Verdict) → is_event x ≡ false → is_moved x ≡ false
quiet-moved Empty e = refl
quiet-moved Routed e = absurd (false≢true (sym e))
quiet-moved Granted e = absurd (false≢true (sym e))
quiet-moved Moved e = absurd (false≢true (sym e))
quiet-moved NoFlit e = refl
quiet-moved NoIdleChannel e = refl
quiet-moved LostChannel e = refl
quiet-moved NoCredit e = refl
quiet-moved LostInput e = refl
quiet-moved LostSwitch e = refl
