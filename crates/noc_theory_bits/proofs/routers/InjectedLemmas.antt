-- A router injects; and a router with no misfit after a cycle had none before its verdicts.
use Rattle.std.proofs.Common.{◌≡◌, ℕ, ◌<◌, Bool, true, false, List, [], ◌∷◌, ◌++◌, length, Option, Some, None, refl, ap, sym, ◌∙◌, arith, inl, inr}
use Rattle.std.specs.Prelude.{◌⊎◌, find, option_map, nat_lt, nat_le, if◌then◌else◌}
use Rattle.std.proofs.lemmas.List.{length-set, get_or-set_same, get_or-set_other}
use Rattle.noc_vc.specs.Input.{input_after_land}
use Rattle.noc_sets.specs.Taken.{landed_by}
use Rattle.noc_theory_bits.proofs.Common.{eq-eqb, ne_eqb, cases_eq, below, local_port, flit_at, Packet, Beat, Routes, idle_input, is_expected_in, arrivals_after, View, size_of, local_channel, view_buffer, view_input, is_vacant, with_injected, begun_on, view_after_inject_from, view_after_inject, with_misfit, with_arrival, tail_packet, flit_out, view_after_commit, decisions_of, view_after_takes, local_step, with_one, HasSize, injection_from, injection_in, injected_to, HasInjected}

not-injected : (n : ℕ) (v : View) → HasInjected v (record v { given = n }) None
not-injected n v = record {
  site = refl;
  buffer = λ i l. refl;
  input = λ i l. refl;
  n_buffers = refl;
  n_inputs = refl;
  outputs = refl;
  arbiters = refl;
  misfits = refl;
}

with-injected : (n vc index number : ℕ) (p : Packet) (rest : List (ℕ × Packet)) (v : View) → HasSize v
    → HasInjected v (with_injected vc index number p rest (record v { given = n })) (Some (vc, flit_at p number index))
with-injected n vc index number p rest v size = record {
  site = refl;
  buffer = λ i l. buffer i l (cases_eq i (local_channel v.site vc));
  input = λ i l. input i l (cases_eq i (local_channel v.site vc));
  n_buffers = length-set v.buffers (local_channel v.site vc) _;
  n_inputs = length-set v.inputs (local_channel v.site vc) _;
  outputs = refl;
  arbiters = refl;
  misfits = refl;
}
  where
    buffer : (i : ℕ) → i < size_of v.site → (i ≡ local_channel v.site vc) ⊎ (i ≡ local_channel v.site vc → ⊥)
        → view_buffer (with_injected vc index number p rest (record v { given = n })) i ≡ with_one (view_buffer v i) (injected_to v (Some (vc, flit_at p number index)) i)
    buffer i l (inl same) =
        ap (view_buffer (with_injected vc index number p rest (record v { given = n }))) same
        ∙ get_or-set_same v.buffers (local_channel v.site vc) (view_buffer v (local_channel v.site vc) ++ flit_at p number index ∷ []) [] (omega (arith, size.buffers, same))
        ∙ ap (λ k. view_buffer v k ++ flit_at p number index ∷ []) (sym same)
        ∙ ap (λ b. with_one (view_buffer v i) (if b then Some (flit_at p number index) else None)) (sym (eq-eqb i (local_channel v.site vc) same))
    buffer i l (inr other) =
        get_or-set_other v.buffers (local_channel v.site vc) i (view_buffer v (local_channel v.site vc) ++ flit_at p number index ∷ []) [] other
        ∙ ap (λ b. with_one (view_buffer v i) (if b then Some (flit_at p number index) else None)) (sym (ne_eqb i (local_channel v.site vc) other))

    input : (i : ℕ) → i < size_of v.site → (i ≡ local_channel v.site vc) ⊎ (i ≡ local_channel v.site vc → ⊥)
        → view_input (with_injected vc index number p rest (record v { given = n })) i ≡ landed_by (view_input v i) (injected_to v (Some (vc, flit_at p number index)) i)
    input i l (inl same) =
        ap (view_input (with_injected vc index number p rest (record v { given = n }))) same
        ∙ get_or-set_same v.inputs (local_channel v.site vc) (input_after_land (view_input v (local_channel v.site vc)) (flit_at p number index)) idle_input (omega (arith, size.inputs, same))
        ∙ ap (λ k. input_after_land (view_input v k) (flit_at p number index)) (sym same)
        ∙ ap (λ b. landed_by (view_input v i) (if b then Some (flit_at p number index) else None)) (sym (eq-eqb i (local_channel v.site vc) same))
    input i l (inr other) =
        get_or-set_other v.inputs (local_channel v.site vc) i (input_after_land (view_input v (local_channel v.site vc)) (flit_at p number index)) idle_input other
        ∙ ap (λ b. landed_by (view_input v i) (if b then Some (flit_at p number index) else None)) (sym (ne_eqb i (local_channel v.site vc) other))

-- by the packet in front and what is being sent
injected-by : (n : ℕ) (queue : List (ℕ × Packet)) (sending : Option (ℕ × ℕ)) (v : View) → HasSize v → HasInjected v (view_after_inject_from n queue sending (record v { given = n })) (injection_from n queue sending v)
injected-by n [] sending v size = not-injected n v
injected-by n ((number, p) ∷ rest) (Some (vc, index)) v size = at (nat_lt (length (view_buffer v (local_channel v.site vc))) v.site.depth)
  where
    at : (b : Bool) → HasInjected v (if b then with_injected vc index number p rest (record v { given = n }) else record v { given = n }) (if b then Some (vc, flit_at p number index) else None)
    at true = with-injected n vc index number p rest v size
    at false = not-injected n v
injected-by n ((number, p) ∷ rest) None v size = at (nat_le p.due n)
  where
    found : (o : Option ℕ) → HasInjected v (begun_on o number p rest (record v { given = n })) (option_map (λ vc. (vc, flit_at p number 0)) o)
    found None = not-injected n v
    found (Some vc) = with-injected n vc 0 number p rest v size

    at : (b : Bool) → HasInjected v (if b then begun_on (find (is_vacant v) (below v.site.vcs)) number p rest (record v { given = n }) else record v { given = n })
        (if b then option_map (λ vc. (vc, flit_at p number 0)) (find (is_vacant v) (below v.site.vcs)) else None)
    at true = found (find (is_vacant v) (below v.site.vcs))
    at false = not-injected n v

-- a router after `inject`
pub has-injected : (n : ℕ) (v : View) → HasSize v → HasInjected v (view_after_inject n v) (injection_in n v)
unfolding view_after_inject
has-injected n v size = injected-by n v.queue v.sending v size

-- ---- no misfit in a cycle
arrival-none : (p : Option ℕ) (v : View) → (with_arrival p v).misfits ≡ 0 → v.misfits ≡ 0
arrival-none None v e = e
arrival-none (Some p) v e = at (is_expected_in p v.ends) e
  where
    at : (b : Bool) → (if b then record v { ends = arrivals_after p v.given v.ends } else with_misfit v).misfits ≡ 0 → v.misfits ≡ 0
    at true z = z
    at false z = absurd (omega (arith, z))

-- where nothing misfits after the verdicts, nothing did before them
pub committed-none : (relation : Routes) (v : View) → (view_after_commit (decisions_of relation v) v).misfits ≡ 0 → v.misfits ≡ 0
unfolding view_after_commit
committed-none relation v e = arrival-none (tail_packet (flit_out v (decisions_of relation v).round (local_port v.site.grid))) _ e

-- where nothing misfits after a step, nothing did after the beats
pub step-none : (relation : Routes) (v : View) (beats : List Beat) (n : ℕ) → HasSize (view_after_takes relation beats v) → (local_step relation v beats n).0.misfits ≡ 0 → (view_after_takes relation beats v).misfits ≡ 0
unfolding local_step
step-none relation v beats n size e =
    sym (has-injected n (view_after_takes relation beats v) size).misfits ∙ committed-none relation (view_after_inject n (view_after_takes relation beats v)) e
