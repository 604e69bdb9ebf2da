-- The beats that are still to be put.
use Rattle.std.proofs.Common.{◌≡◌, ℕ, zero, suc, ◌<◌, ◌≤◌, List, [], ◌∷◌, length, get_or, set, take, Some, refl, ap, sym, ◌∙◌, arith}
use Rattle.std.proofs.lemmas.List.{get_or-take}
use Rattle.noc_packet.specs.declared.packet.Beat.{Beat}
use Rattle.noc_packet.specs.declared.packet.Flit.{Flit}
use Rattle.noc_router.specs.declared.router.Router.TheInside.{Inside}
use Rattle.noc_router.specs.Inside.{IsRouter}
use Rattle.noc_view.specs.View.{idle_beat}
use Rattle.noc_router.specs.Settled.{with_credit_at, with_flit_at}
use Rattle.noc_router.proofs.RouterLemmas.{IsRouter-kept}

pub take-set_at : {X : Type 0} (n : ℕ) (xs : List X) (i : ℕ) (y : X) → take n (set xs i y) ≡ set (take n xs) i y
take-set_at zero xs i y = refl
take-set_at (suc n) [] i y = refl
take-set_at (suc n) (x ∷ xs) zero y = refl
take-set_at (suc n) (x ∷ xs) (suc i) y = ap (λ rest. x ∷ rest) (take-set_at n xs i y)

pub take-credit : (n port vc : ℕ) (beats new : List Beat) → new ≡ set beats port (record (get_or beats port idle_beat) { credit = Some vc }) → port < n → take n new ≡ with_credit_at port vc (take n beats)
take-credit n port vc beats new e l =
    ap (take n) e ∙ take-set_at n beats port (record (get_or beats port idle_beat) { credit = Some vc })
    ∙ ap (λ (beat : Beat). set (take n beats) port (record beat { credit = Some vc })) (sym (get_or-take n beats port idle_beat l))

pub take-flit : (n port vc : ℕ) (f : Flit) (beats new : List Beat) → new ≡ set beats port (record (get_or beats port idle_beat) { flit = Some (vc, f) }) → port < n → take n new ≡ with_flit_at port vc f (take n beats)
take-flit n port vc f beats new e l =
    ap (take n) e ∙ take-set_at n beats port (record (get_or beats port idle_beat) { flit = Some (vc, f) })
    ∙ ap (λ (beat : Beat). set (take n beats) port (record beat { flit = Some (vc, f) })) (sym (get_or-take n beats port idle_beat l))

-- nothing is written at a port that is no link
pub put-none : {X : Type 0} (n port : ℕ) (beats : List X) (y : X) → n ≤ port → take n beats ≡ set (take n beats) port y
put-none zero port beats y l = refl
put-none (suc n) port [] y l = refl
put-none (suc n) zero (x ∷ xs) y l = absurd (omega (arith, l))
put-none (suc n) (suc port) (x ∷ xs) y l = ap (λ rest. x ∷ rest) (put-none n port xs y (omega (arith, l)))

-- a router with other beats on its links
pub relinked : (r : Inside) (beats : List Beat) → IsRouter r → length beats ≡ length r.to_put → IsRouter (record r { to_put = beats })
relinked r beats h same = IsRouter-kept r (record r { to_put = beats }) h refl refl refl refl refl refl refl refl (λ i e. e) refl same refl refl refl
