-- What comes to a router at different ports is taken in any order.
use Rattle.std.proofs.Common.{◌≡◌, ◌≢◌, ◌⊎◌, ℕ, ◌+◌, ◌*◌, ◌/◌, ◌<◌, ◌≤◌, Bool, true, false, [], ◌∷◌, ◌++◌, Option, Some, None, refl, ap, sym, ◌∙◌, inl, inr}
use Rattle.std.specs.Prelude.{if◌then◌else◌, ◌&&◌, nat_lt, slice_set}
use Rattle.std.proofs.lemmas.List.{set_comm}
use Rattle.noc_view.proofs.LandLemmas.{lands, not_second}
use Rattle.noc_theory.proofs.Common.{cases_lt, le-ltb, ltb-true, get_or-set_other, div-mul-add, Flit, Beat, Routes, Input, idle_input, fits, input_after_land, Output, ejection_output, credit_fits, output_after_credit, View, has_link, view_buffer, view_input, view_output, with_flit, with_landed, with_misfit, with_credit, view_after_take}

-- ---- what fits changes a view, and what does not is a misfit

abbrev acted : (View → Bool) → (View → View) → View → View
acted fit change v = if fit v then change v else with_misfit v

acted-fits : (fit : View → Bool) (change : View → View) (v : View) → fit v ≡ true → acted fit change v ≡ change v
acted-fits fit change v e = ap (λ b. if b then change v else with_misfit v) e

acted-turned : (fit : View → Bool) (change : View → View) (v : View) → fit v ≡ false → acted fit change v ≡ with_misfit v
acted-turned fit change v e = ap (λ b. if b then change v else with_misfit v) e

-- two that do not change whether the other fits are done in any order
acted-swapped : (fit fit' : View → Bool) (change change' : View → View) (v : View) → fit (with_misfit v) ≡ fit v → fit' (with_misfit v) ≡ fit' v
    → (fit v ≡ true → fit' (change v) ≡ fit' v) → (fit' v ≡ true → fit (change' v) ≡ fit v)
    → (fit v ≡ true → fit' v ≡ true → change' (change v) ≡ change (change' v))
    → change (with_misfit v) ≡ with_misfit (change v) → change' (with_misfit v) ≡ with_misfit (change' v)
    → acted fit' change' (acted fit change v) ≡ acted fit change (acted fit' change' v)
acted-swapped fit fit' change change' v misfit misfit' kept' kept same apart apart' = at (fit v) refl (fit' v) refl
  where
    at : (a : Bool) → fit v ≡ a → (b : Bool) → fit' v ≡ b → acted fit' change' (acted fit change v) ≡ acted fit change (acted fit' change' v)
    at true e true f =
        ap (acted fit' change') (acted-fits fit change v e) ∙ acted-fits fit' change' (change v) (kept' e ∙ f) ∙ same e f
        ∙ sym (acted-fits fit change (change' v) (kept f ∙ e)) ∙ sym (ap (acted fit change) (acted-fits fit' change' v f))
    at true e false f =
        ap (acted fit' change') (acted-fits fit change v e) ∙ acted-turned fit' change' (change v) (kept' e ∙ f) ∙ sym apart
        ∙ sym (acted-fits fit change (with_misfit v) (misfit ∙ e)) ∙ sym (ap (acted fit change) (acted-turned fit' change' v f))
    at false e true f =
        ap (acted fit' change') (acted-turned fit change v e) ∙ acted-fits fit' change' (with_misfit v) (misfit' ∙ f) ∙ apart'
        ∙ sym (acted-turned fit change (change' v) (kept f ∙ e)) ∙ sym (ap (acted fit change) (acted-fits fit' change' v f))
    at false e false f =
        ap (acted fit' change') (acted-turned fit change v e) ∙ acted-turned fit' change' (with_misfit v) (misfit' ∙ f)
        ∙ sym (acted-turned fit change (with_misfit v) (misfit ∙ e)) ∙ sym (ap (acted fit change) (acted-turned fit' change' v f))

-- ---- a flit and a credit

-- the view after it
abbrev land : ℕ → ℕ → Flit → View → View
land port vc f v = with_landed (port * v.site.vcs + vc) f v

-- whether a credit arrives
abbrev arrives : ℕ → ℕ → View → Bool
arrives port vc v = has_link v.site port && nat_lt vc v.site.vcs && credit_fits (view_output v (port * v.site.vcs + vc))

-- the view after the credit
abbrev arrive : ℕ → ℕ → View → View
arrive port vc v = record v { outputs = slice_set v.outputs (port * v.site.vcs + vc) (output_after_credit (view_output v (port * v.site.vcs + vc))); had_event = true }

second_of : (a b d : Bool) → (a && b && d) ≡ true → b ≡ true
second_of true true d e = refl
second_of true false d e = absurd (cc)
second_of false b d e = absurd (cc)

-- channels of different ports have different indices
channels_apart : (p q a b n : ℕ) → p ≢ q → a < n → b < n → p * n + a ≢ q * n + b
channels_apart p q a b n other la lb e = other (sym (div-mul-add p n a la) ∙ ap (λ k. k / n) e ∙ div-mul-add q n b lb)

lands-small : (relation : Routes) (port vc : ℕ) (f : Flit) (v : View) → lands relation port vc f v ≡ true → vc < v.site.vcs
lands-small relation port vc f v e =
    ltb-true vc v.site.vcs (second_of (has_link v.site port) (nat_lt vc v.site.vcs) (fits relation v.site.node port vc v.site.depth (view_buffer v (port * v.site.vcs + vc)) (view_input v (port * v.site.vcs + vc)) f) e)

arrives-small : (port vc : ℕ) (v : View) → arrives port vc v ≡ true → vc < v.site.vcs
arrives-small port vc v e =
    ltb-true vc v.site.vcs (second_of (has_link v.site port) (nat_lt vc v.site.vcs) (credit_fits (view_output v (port * v.site.vcs + vc))) e)

-- a flit that has landed at one port does not change whether one lands at another port
lands-kept : (relation : Routes) (p q a b : ℕ) (f g : Flit) (v : View) → p ≢ q → lands relation q b g v ≡ true → lands relation p a f (land q b g v) ≡ lands relation p a f v
lands-kept relation p q a b f g v other e = at (cases_lt a v.site.vcs)
  where
    at : (a < v.site.vcs) ⊎ (v.site.vcs ≤ a) → lands relation p a f (land q b g v) ≡ lands relation p a f v
    at (inl small) =
        let n = v.site.vcs in
        let i = p * v.site.vcs + a in
        let j = q * v.site.vcs + b in
        let apart : p * v.site.vcs + a ≢ q * v.site.vcs + b = channels_apart p q a b v.site.vcs other small (lands-small relation q b g v e) in
        ap (λ flits. has_link v.site p && nat_lt a n && fits relation v.site.node p a v.site.depth flits (view_input (land q b g v) i) f)
        (get_or-set_other v.buffers j i (view_buffer v j ++ g ∷ []) [] apart)
        ∙ ap (λ input. has_link v.site p && nat_lt a n && fits relation v.site.node p a v.site.depth (view_buffer v i) input f)
        (get_or-set_other v.inputs j i (input_after_land (view_input v j) g) idle_input apart)
    at (inr past) =
        let w = land q b g v in
        not_second (has_link v.site p) (nat_lt a v.site.vcs) (fits relation v.site.node p a v.site.depth (view_buffer w (p * v.site.vcs + a)) (view_input w (p * v.site.vcs + a)) f) (le-ltb a v.site.vcs past)
        ∙ sym (not_second (has_link v.site p) (nat_lt a v.site.vcs) (fits relation v.site.node p a v.site.depth (view_buffer v (p * v.site.vcs + a)) (view_input v (p * v.site.vcs + a)) f) (le-ltb a v.site.vcs past))

arrives-kept : (p q a b : ℕ) (v : View) → p ≢ q → arrives q b v ≡ true → arrives p a (arrive q b v) ≡ arrives p a v
arrives-kept p q a b v other e = at (cases_lt a v.site.vcs)
  where
    at : (a < v.site.vcs) ⊎ (v.site.vcs ≤ a) → arrives p a (arrive q b v) ≡ arrives p a v
    at (inl small) =
        let n = v.site.vcs in
        let i = p * v.site.vcs + a in
        let j = q * v.site.vcs + b in
        let apart : p * v.site.vcs + a ≢ q * v.site.vcs + b = channels_apart p q a b v.site.vcs other small (arrives-small q b v e) in
        ap (λ output. has_link v.site p && nat_lt a n && credit_fits output)
        (get_or-set_other v.outputs j i (output_after_credit (view_output v j)) ejection_output apart)
    at (inr past) =
        not_second (has_link v.site p) (nat_lt a v.site.vcs) (credit_fits (view_output (arrive q b v) (p * v.site.vcs + a))) (le-ltb a v.site.vcs past)
        ∙ sym (not_second (has_link v.site p) (nat_lt a v.site.vcs) (credit_fits (view_output v (p * v.site.vcs + a))) (le-ltb a v.site.vcs past))

-- two flits land in any order
land-swapped : (p q a b : ℕ) (f g : Flit) (v : View) → p * v.site.vcs + a ≢ q * v.site.vcs + b → land p a f (land q b g v) ≡ land q b g (land p a f v)
land-swapped p q a b f g v apart =
    let i = p * v.site.vcs + a in
    let j = q * v.site.vcs + b in
    let new = view_buffer v j ++ g ∷ [] in
    let input = input_after_land (view_input v j) g in
    let new' = view_buffer v i ++ f ∷ [] in
    let input' = input_after_land (view_input v i) f in
    ap (λ flits. record (land q b g v) { buffers = slice_set (slice_set v.buffers j new) i (flits ++ f ∷ []); inputs = slice_set (slice_set v.inputs j input) i (input_after_land (view_input (land q b g v) i) f) })
    (get_or-set_other v.buffers j i new [] apart)
    ∙ ap (λ (one : Input). record (land q b g v) { buffers = slice_set (slice_set v.buffers j new) i new'; inputs = slice_set (slice_set v.inputs j input) i (input_after_land one f) })
    (get_or-set_other v.inputs j i input idle_input apart)
    ∙ ap (λ buffers. record (land q b g v) { buffers = buffers; inputs = slice_set (slice_set v.inputs j input) i input' }) (set_comm v.buffers j i new new' (λ e. apart (sym e)))
    ∙ ap (λ inputs. record (land q b g v) { buffers = slice_set (slice_set v.buffers i new') j new; inputs = inputs }) (set_comm v.inputs j i input input' (λ e. apart (sym e)))
    ∙ sym (ap (λ (one : Input). record (land p a f v) { buffers = slice_set (slice_set v.buffers i new') j new; inputs = slice_set (slice_set v.inputs i input') j (input_after_land one g) })
    (get_or-set_other v.inputs i j input' idle_input (λ e. apart (sym e))))
    ∙ sym (ap (λ flits. record (land p a f v) { buffers = slice_set (slice_set v.buffers i new') j (flits ++ g ∷ []); inputs = slice_set (slice_set v.inputs i input') j (input_after_land (view_input (land p a f v) j) g) })
    (get_or-set_other v.buffers i j new' [] (λ e. apart (sym e))))

-- two credits come in any order
arrive-swapped : (p q a b : ℕ) (v : View) → p * v.site.vcs + a ≢ q * v.site.vcs + b → arrive p a (arrive q b v) ≡ arrive q b (arrive p a v)
arrive-swapped p q a b v apart =
    let i = p * v.site.vcs + a in
    let j = q * v.site.vcs + b in
    let new = output_after_credit (view_output v j) in
    let new' = output_after_credit (view_output v i) in
    ap (λ (one : Output). record (arrive q b v) { outputs = slice_set (slice_set v.outputs j new) i (output_after_credit one) }) (get_or-set_other v.outputs j i new ejection_output apart)
    ∙ ap (λ outputs. record (arrive q b v) { outputs = outputs }) (set_comm v.outputs j i new new' (λ e. apart (sym e)))
    ∙ sym (ap (λ (one : Output). record (arrive p a v) { outputs = slice_set (slice_set v.outputs i new') j (output_after_credit one) }) (get_or-set_other v.outputs i j new' ejection_output (λ e. apart (sym e))))

-- ---- the takes of two ports change places

flit-past_flit : (relation : Routes) (p q : ℕ) (x y : Option (ℕ × Flit)) (v : View) → p ≢ q → with_flit relation p x (with_flit relation q y v) ≡ with_flit relation q y (with_flit relation p x v)
flit-past_flit relation p q None y v other = refl
flit-past_flit relation p q (Some (a, f)) None v other = refl
flit-past_flit relation p q (Some (a, f)) (Some (b, g)) v other =
    acted-swapped (lands relation q b g) (lands relation p a f) (land q b g) (land p a f) v refl refl
    (λ e. lands-kept relation p q a b f g v other e) (λ e. lands-kept relation q p b a g f v (λ same. other (sym same)) e)
    (λ e h. land-swapped p q a b f g v (channels_apart p q a b v.site.vcs other (lands-small relation p a f v h) (lands-small relation q b g v e)))
    refl refl

flit-past_credit : (relation : Routes) (p q : ℕ) (x : Option (ℕ × Flit)) (c : Option ℕ) (v : View) → with_flit relation p x (with_credit q c v) ≡ with_credit q c (with_flit relation p x v)
flit-past_credit relation p q None c v = refl
flit-past_credit relation p q (Some (a, f)) None v = refl
flit-past_credit relation p q (Some (a, f)) (Some b) v =
    acted-swapped (arrives q b) (lands relation p a f) (arrive q b) (land p a f) v refl refl (λ e. refl) (λ e. refl) (λ e h. refl) refl refl

credit-past_credit : (p q : ℕ) (x y : Option ℕ) (v : View) → p ≢ q → with_credit p x (with_credit q y v) ≡ with_credit q y (with_credit p x v)
credit-past_credit p q None y v other = refl
credit-past_credit p q (Some a) None v other = refl
credit-past_credit p q (Some a) (Some b) v other =
    acted-swapped (arrives q b) (arrives p a) (arrive q b) (arrive p a) v refl refl
    (λ e. arrives-kept p q a b v other e) (λ e. arrives-kept q p b a v (λ same. other (sym same)) e)
    (λ e h. arrive-swapped p q a b v (channels_apart p q a b v.site.vcs other (arrives-small p a v h) (arrives-small q b v e)))
    refl refl

flit-past_beat : (relation : Routes) (p q : ℕ) (x : Option (ℕ × Flit)) (beat : Beat) (v : View) → p ≢ q → view_after_take relation q beat (with_flit relation p x v) ≡ with_flit relation p x (view_after_take relation q beat v)
unfolding view_after_take
flit-past_beat relation p q x beat v other =
    sym (ap (with_credit q beat.credit) (flit-past_flit relation p q x beat.flit v other)) ∙ sym (flit-past_credit relation p q x beat.credit (with_flit relation q beat.flit v))

credit-past_beat : (relation : Routes) (p q : ℕ) (x : Option ℕ) (beat : Beat) (v : View) → p ≢ q → view_after_take relation q beat (with_credit p x v) ≡ with_credit p x (view_after_take relation q beat v)
unfolding view_after_take
credit-past_beat relation p q x beat v other =
    ap (with_credit q beat.credit) (flit-past_credit relation q p beat.flit x v) ∙ sym (credit-past_credit p q x beat.credit (with_flit relation q beat.flit v) other)

pub taken-swapped : (relation : Routes) (p q : ℕ) (one other : Beat) (v : View) → p ≢ q → view_after_take relation q other (view_after_take relation p one v) ≡ view_after_take relation p one (view_after_take relation q other v)
unfolding view_after_take
taken-swapped relation p q one other v apart =
    credit-past_beat relation p q one.credit other (with_flit relation p one.flit v) apart
    ∙ ap (with_credit p one.credit) (flit-past_beat relation p q one.flit other v apart)
