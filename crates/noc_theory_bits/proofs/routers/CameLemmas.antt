-- Whether something came to a router, or was injected, before its verdicts.
use Rattle.std.proofs.Common.{◌≡◌, ℕ, ◌+◌, ◌*◌, ◌<◌, Bool, true, false, List, [], ◌∷◌, length, Option, Some, None, refl, ap, sym, ◌∙◌, arith, inl, inr}
use Rattle.std.specs.Prelude.{◌&&◌, ◌||◌, not, find, is_some, nat_eq, nat_le, nat_lt, option_map, if◌then◌else◌, slice_set}
use Rattle.noc_view.specs.View.{has_link, view_after_take, view_after_takes_from, with_credit, with_flit, with_landed}
use Rattle.noc_theory_bits.proofs.Common.{cases_eq, eq-eqb, false≢true, ne_eqb, true≢false, mul-add-lt, same_Some, local_port, ports, below, has_bit, flit_at, Beat, Flit, Packet, has_bit-zero, zero_from_none, Routes, fits, credit_fits, output_after_credit, View, begun_on, view_after_inject, view_after_inject_from, is_vacant, local_channel, size_of, view_buffer, view_input, view_output, with_injected, with_misfit, Has-below, find-has, injected_to, injection_from, injection_in}

-- ---- beats that change nothing

flit-quiet : (relation : Routes) (port : ℕ) (flit : Option (ℕ × Flit)) (v : View) → (with_flit relation port flit v).had_event ≡ false → (with_flit relation port flit v).misfits ≡ 0 → with_flit relation port flit v ≡ v
flit-quiet relation port None v e m = refl
flit-quiet relation port (Some (vc, f)) v e m =
    at (has_link v.site port && nat_lt vc v.site.vcs && fits relation v.site.node port vc v.site.depth (view_buffer v (port * v.site.vcs + vc)) (view_input v (port * v.site.vcs + vc)) f) e m
  where
    at : (b : Bool) → (if b then with_landed (port * v.site.vcs + vc) f v else with_misfit v).had_event ≡ false → (if b then with_landed (port * v.site.vcs + vc) f v else with_misfit v).misfits ≡ 0
        → (if b then with_landed (port * v.site.vcs + vc) f v else with_misfit v) ≡ v
    at true e m = absurd (true≢false e)
    at false e m = absurd (omega (arith, m))

abbrev with_return : ℕ → View → View
with_return o v = record v { outputs = slice_set v.outputs o (output_after_credit (view_output v o)); had_event = true }

credit-quiet : (port : ℕ) (credit : Option ℕ) (v : View) → (with_credit port credit v).had_event ≡ false → (with_credit port credit v).misfits ≡ 0 → with_credit port credit v ≡ v
credit-quiet port None v e m = refl
credit-quiet port (Some vc) v e m =
    at (has_link v.site port && nat_lt vc v.site.vcs && credit_fits (view_output v (port * v.site.vcs + vc))) e m
  where
    at : (b : Bool) → (if b then with_return (port * v.site.vcs + vc) v else with_misfit v).had_event ≡ false → (if b then with_return (port * v.site.vcs + vc) v else with_misfit v).misfits ≡ 0
        → (if b then with_return (port * v.site.vcs + vc) v else with_misfit v) ≡ v
    at true e m = absurd (true≢false e)
    at false e m = absurd (omega (arith, m))

-- where no beat misses its place and none is noted as an event, the beats change nothing
pub taken-quiet : (relation : Routes) (port : ℕ) (row : List Beat) (v : View) → (view_after_takes_from relation port row v).had_event ≡ false → (view_after_takes_from relation port row v).misfits ≡ 0 → view_after_takes_from relation port row v ≡ v
unfolding view_after_take
taken-quiet relation port [] v e m = refl
taken-quiet relation port (beat ∷ row) v e m =
    let rest : view_after_takes_from relation (port + 1) row (view_after_take relation port beat v) ≡ view_after_take relation port beat v = taken-quiet relation (port + 1) row (view_after_take relation port beat v) e m in
    let e1 : (view_after_take relation port beat v).had_event ≡ false = sym (ap (λ (x : View). x.had_event) rest) ∙ e in
    let m1 : (view_after_take relation port beat v).misfits ≡ 0 = sym (ap (λ (x : View). x.misfits) rest) ∙ m in
    let c : view_after_take relation port beat v ≡ with_flit relation port beat.flit v = credit-quiet port beat.credit (with_flit relation port beat.flit v) e1 m1 in
    let f : with_flit relation port beat.flit v ≡ v = flit-quiet relation port beat.flit v (sym (ap (λ (x : View). x.had_event) c) ∙ e1) (sym (ap (λ (x : View). x.misfits) c) ∙ m1) in
    rest ∙ c ∙ f

-- ---- a flit is injected

or-off : (b : Bool) → b ≡ (b || false)
or-off true = refl
or-off false = refl

or-on : (b : Bool) → true ≡ (b || true)
or-on true = refl
or-on false = refl

-- a flit that is injected is an event
pub injected-event : (n : ℕ) (v : View) → (view_after_inject n v).had_event ≡ (v.had_event || is_some (injection_in n v))
unfolding view_after_inject
injected-event n v = by v.queue v.sending
  where
    by : (queue : List (ℕ × Packet)) (sending : Option (ℕ × ℕ)) → (view_after_inject_from n queue sending (record v { given = n })).had_event ≡ (v.had_event || is_some (injection_from n queue sending v))
    by [] sending = or-off v.had_event
    by ((number, p) ∷ rest) (Some (vc, index)) = room (nat_lt (length (view_buffer v (local_channel v.site vc))) v.site.depth)
      where
        room : (b : Bool) → (if b then with_injected vc index number p rest (record v { given = n }) else (record v { given = n })).had_event ≡ (v.had_event || is_some {T = ℕ × Flit} (if b then Some (vc, flit_at p number index) else None))
        room true = or-on v.had_event
        room false = or-off v.had_event
    by ((number, p) ∷ rest) None = due (nat_le p.due n)
      where
        begun : (vc : Option ℕ) → (begun_on vc number p rest (record v { given = n })).had_event ≡ (v.had_event || is_some (option_map {U = ℕ × Flit} (λ vc. (vc, flit_at p number 0)) vc))
        begun None = or-off v.had_event
        begun (Some vc) = or-on v.had_event

        due : (b : Bool) → (if b then begun_on (find (is_vacant (record v { given = n })) (below v.site.vcs)) number p rest (record v { given = n }) else (record v { given = n })).had_event
            ≡ (v.had_event || is_some (if b then option_map {U = ℕ × Flit} (λ vc. (vc, flit_at p number 0)) (find (is_vacant v) (below v.site.vcs)) else None))
        due true = begun (find (is_vacant (record v { given = n })) (below v.site.vcs))
        due false = or-off v.had_event

-- a packet that is being injected has a local virtual channel
abbrev pub SendsLow : ℕ → Option (ℕ × ℕ) → Type 0
SendsLow vcs None = Unit {0}
SendsLow vcs (Some (vc, index)) = vc < vcs

abbrev one_where : Bool → ℕ × Flit → Option (ℕ × Flit)
one_where b one = if b then Some one else None

-- a flit is injected into one
pub injection-low : (n : ℕ) (queue : List (ℕ × Packet)) (sending : Option (ℕ × ℕ)) (v : View) (vc : ℕ) (f : Flit) → SendsLow v.site.vcs sending → injection_from n queue sending v ≡ Some (vc, f) → vc < v.site.vcs
injection-low n [] sending v vc f low e = absurd (cc e)
injection-low n ((number, p) ∷ rest) (Some (u, index)) v vc f low e = at (nat_lt (length (view_buffer v (local_channel v.site u))) v.site.depth) e
  where
    at : (b : Bool) → one_where b (u, flit_at p number index) ≡ Some (vc, f) → vc < v.site.vcs
    at true g = let same : u ≡ vc = ap (λ (one : ℕ × Flit). one.0) (same_Some (u, flit_at p number index) (vc, f) g) in omega (arith, low, same)
    at false g = absurd (cc g)
injection-low n ((number, p) ∷ rest) None v vc f low e = due (nat_le p.due n) e
  where
    begun : (o : Option ℕ) → find (is_vacant v) (below v.site.vcs) ≡ o → option_map {U = ℕ × Flit} (λ vc. (vc, flit_at p number 0)) o ≡ Some (vc, f) → vc < v.site.vcs
    begun None k g = absurd (cc g)
    begun (Some u) k g =
        let within : u < v.site.vcs = Has-below u v.site.vcs (find-has (is_vacant v) (below v.site.vcs) u k) in
        let same : u ≡ vc = ap (λ (one : ℕ × Flit). one.0) (same_Some (u, flit_at p number 0) (vc, f) g) in
        omega (arith, within, same)

    due : (b : Bool) → (if b then option_map {U = ℕ × Flit} (λ vc. (vc, flit_at p number 0)) (find (is_vacant v) (below v.site.vcs)) else None) ≡ Some (vc, f) → vc < v.site.vcs
    due true g = begun (find (is_vacant v) (below v.site.vcs)) refl g
    due false g = absurd (cc g)

pub some-member : (w k : ℕ) → has_bit w k ≡ true → nat_eq w 0 ≡ false
some-member w k e = elim (cases_eq w 0) [
  | inl z ↦ absurd (false≢true (sym (has_bit-zero k) ∙ ap (λ x. has_bit x k) (sym z) ∙ e))
  | inr n ↦ ne_eqb w 0 n
]

-- the word of the channel into which a flit is injected has a member where one is
pub went-some : (v : View) (went : ℕ) (new : Option (ℕ × Flit)) → ((i : ℕ) → i < size_of v.site → has_bit went i ≡ is_some (injected_to v new i)) → ((i : ℕ) → has_bit went i ≡ true → i < size_of v.site)
    → ((vc : ℕ) (f : Flit) → new ≡ Some (vc, f) → vc < v.site.vcs) → is_some new ≡ not (nat_eq went 0)
went-some v went None goes within low = sym (ap not (eq-eqb went 0 (zero_from_none went (λ k. at k (has_bit went k) refl))))
  where
    at : (k : ℕ) (b : Bool) → has_bit went k ≡ b → has_bit went k ≡ false
    at k true e = goes k (within k e)
    at k false e = e
went-some v went (Some (vc, f)) goes within low =
    let below_vcs : vc < v.site.vcs = low vc f refl in
    let inside : local_port v.site.grid * v.site.vcs + vc < v.site.vcs * ports v.site.grid = mul-add-lt (local_port v.site.grid) v.site.vcs vc (ports v.site.grid) (omega arith) below_vcs in
    let here : local_channel v.site vc < size_of v.site = omega (arith, inside) in
    sym (ap not (some-member went (local_channel v.site vc)
    (goes (local_channel v.site vc) here ∙ ap (λ b. is_some (if b then Some f else None)) (eq-eqb (local_channel v.site vc) (local_channel v.site vc) refl))))
