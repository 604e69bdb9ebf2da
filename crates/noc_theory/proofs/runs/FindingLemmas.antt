-- What a router does in a cycle does not depend on what it found before.
use Rattle.std.proofs.Common.{◌≡◌, ℕ, ◌+◌, Bool, true, false, List, [], ◌∷◌, length, set, Option, Some, None, refl, ap, ◌∙◌}
use Rattle.std.specs.Prelude.{◌*◌, ◌&&◌, if◌then◌else◌, find, nat_le, nat_lt}
use Rattle.noc_theory.proofs.Common.{below, Packet, Flit, Beat, Routes, fits, credit_fits, output_after_credit, View, has_link, view_buffer, view_input, view_output, local_channel, with_landed, with_misfit, with_injected, view_after_take, view_after_takes_from, view_after_takes, view_after_inject, view_after_inject_from, begun_on, is_vacant, view_round, decisions_of, view_after_commit, local_step, with_flit, with_credit, Finding, view_after_decide, view_after_puts}

-- a view with other findings
abbrev pub with_findings : List Finding → View → View
with_findings findings v = record v { findings = findings }

either_findings : (findings : List Finding) (b : Bool) (x y : View) → (if b then with_findings findings x else with_findings findings y) ≡ with_findings findings (if b then x else y)
either_findings findings true x y = refl
either_findings findings false x y = refl

findings-with_flit : (findings : List Finding) (relation : Routes) (port : ℕ) (flit : Option (ℕ × Flit)) (v : View) → with_flit relation port flit (with_findings findings v) ≡ with_findings findings (with_flit relation port flit v)
findings-with_flit findings relation port None v = refl
findings-with_flit findings relation port (Some (vc, f)) v =
    let i = port * v.site.vcs + vc in
    either_findings findings (has_link v.site port && nat_lt vc v.site.vcs && fits relation v.site.node port vc v.site.depth (view_buffer v i) (view_input v i) f) (with_landed i f v) (with_misfit v)

findings-with_credit : (findings : List Finding) (port : ℕ) (credit : Option ℕ) (v : View) → with_credit port credit (with_findings findings v) ≡ with_findings findings (with_credit port credit v)
findings-with_credit findings port None v = refl
findings-with_credit findings port (Some vc) v =
    let o = port * v.site.vcs + vc in
    either_findings findings (has_link v.site port && nat_lt vc v.site.vcs && credit_fits (view_output v o))
    (record v { outputs = set v.outputs o (output_after_credit (view_output v o)); had_event = true }) (with_misfit v)

findings-taken : (findings : List Finding) (relation : Routes) (port : ℕ) (beat : Beat) (v : View) → view_after_take relation port beat (with_findings findings v) ≡ with_findings findings (view_after_take relation port beat v)
unfolding view_after_take
findings-taken findings relation port beat v =
    ap (with_credit port beat.credit) (findings-with_flit findings relation port beat.flit v)
    ∙ findings-with_credit findings port beat.credit (with_flit relation port beat.flit v)

findings-taken_from : (findings : List Finding) (relation : Routes) (port : ℕ) (beats : List Beat) (v : View) → view_after_takes_from relation port beats (with_findings findings v) ≡ with_findings findings (view_after_takes_from relation port beats v)
findings-taken_from findings relation port [] v = refl
findings-taken_from findings relation port (beat ∷ beats) v =
    ap (view_after_takes_from relation (port + 1) beats) (findings-taken findings relation port beat v)
    ∙ findings-taken_from findings relation (port + 1) beats (view_after_take relation port beat v)

findings-begun_on : (findings : List Finding) (vc : Option ℕ) (number : ℕ) (p : Packet) (rest : List (ℕ × Packet)) (v : View) → begun_on vc number p rest (with_findings findings v) ≡ with_findings findings (begun_on vc number p rest v)
findings-begun_on findings None number p rest v = refl
findings-begun_on findings (Some vc) number p rest v = refl

findings-injected_from : (findings : List Finding) (n : ℕ) (queue : List (ℕ × Packet)) (sending : Option (ℕ × ℕ)) (v : View)
    → view_after_inject_from n queue sending (with_findings findings v) ≡ with_findings findings (view_after_inject_from n queue sending v)
findings-injected_from findings n [] sending v = refl
findings-injected_from findings n ((number, p) ∷ rest) (Some (vc, index)) v =
    either_findings findings (nat_lt (length (view_buffer v (local_channel v.site vc))) v.site.depth) (with_injected vc index number p rest v) v
findings-injected_from findings n ((number, p) ∷ rest) None v =
    ap (λ x. if nat_le p.due n then x else with_findings findings v) (findings-begun_on findings (find (is_vacant v) (below v.site.vcs)) number p rest v)
    ∙ either_findings findings (nat_le p.due n) (begun_on (find (is_vacant v) (below v.site.vcs)) number p rest v) v

-- the view from which all is decided
findings-frozen : (findings : List Finding) (relation : Routes) (n : ℕ) (beats : List Beat) (v : View)
    → view_after_inject n (view_after_takes relation beats (with_findings findings v)) ≡ with_findings findings (view_after_inject n (view_after_takes relation beats v))
unfolding view_after_takes view_after_inject
findings-frozen findings relation n beats v =
    ap (view_after_inject n) (findings-taken_from findings relation 0 beats v)
    ∙ (let w = view_after_takes_from relation 0 beats v in findings-injected_from findings n w.queue w.sending (record w { given = n }))

findings-committed : (findings : List Finding) (relation : Routes) (v : View) → view_after_commit (decisions_of relation (with_findings findings v)) (with_findings findings v) ≡ view_after_commit (decisions_of relation v) v
unfolding view_after_commit decisions_of view_round
findings-committed findings relation v = refl

-- what a router decides is the same whatever it found before
pub findings-decided : (findings : List Finding) (relation : Routes) (n : ℕ) (beats : List Beat) (v : View) → view_after_decide relation n beats (with_findings findings v) ≡ view_after_decide relation n beats v
unfolding view_after_decide
findings-decided findings relation n beats v =
    ap (λ w. view_after_commit (decisions_of relation w) w) (findings-frozen findings relation n beats v)
    ∙ findings-committed findings relation (view_after_inject n (view_after_takes relation beats v))

pub findings-local_step : (findings : List Finding) (relation : Routes) (v : View) (beats : List Beat) (n : ℕ) → local_step relation (with_findings findings v) beats n ≡ local_step relation v beats n
unfolding view_after_decide local_step
findings-local_step findings relation v beats n = ap (λ (w : View). (view_after_puts w, w.to_put)) (findings-decided findings relation n beats v)
