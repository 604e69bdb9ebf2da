-- A router takes its beats: a view that showed the state shows it after the landings and the
-- credits, and there is no misfit.
use Rattle.std.proofs.Common.{◌≡◌, ℕ, ◌+◌, ◌*◌, ◌/◌, ◌%◌, ◌<◌, ◌≤◌, Bool, true, false, cond, List, [], ◌∷◌, ◌++◌, length, Option, Some, None, refl, ap, sym, ◌∙◌, inl, inr, subst, arith}
use Rattle.std.specs.Prelude.{option_map, is_some, ◌⊎◌, ◌&&◌, ◌||◌, nat_eq, nat_lt, if◌then◌else◌}
use Rattle.noc_vc.specs.Input.{input_after_land as landed_on}
use Rattle.noc_theory.proofs.Common.{list_any, false≢true, true≢false, cases_eq, cases_lt, lt-ltb, le-ltb, and_from, same_Some, length-set, get_or-set_same, get_or-set_other, div-add-mod', div-mul-add, mod-mul-add, below, nodes, local_port, neighbour, Flit, Beat, Channel, Link, Inject, Input, idle_input, fits, Site, View, has_link, view_buffer, view_input, view_output, with_landed, with_flit, with_misfit, beat_by, flit_on, seen_flits, seen_input, seen_output, starts_at, ends_at, has_flit_at_source, seen_sending, Setup, State, size, arriving, leaving, IsSeen}
use Rattle.noc_theory.proofs.landing.LandFlitLemmas.{flits-some, input-some, fits-some}
use Rattle.noc_theory.proofs.landing.LandInputLemmas.{flits-none, input-none}
use Rattle.noc_theory.proofs.join.OrderedLemmas.{IsGood, AreShort, IsOrdered}
use Rattle.noc_theory.proofs.join.PhaseLemmas.{mid}
use Rattle.noc_theory.proofs.join.PlaceViewLemmas.{IsAt, arriving-at, not-eject, in-size, mod-below}
use Rattle.noc_theory.specs.Seen.{IsAsNoted}

module _ (net : Setup) (good : IsGood net) (S : State) (x : IsOrdered net S) (r : ℕ) (l : r < nodes net.relation.grid) (v0 : View) where
  -- the state of which channel i is shown once the ports below k have been taken
  abbrev pub at_port : ℕ → ℕ → State
  at_port k i = if nat_lt (i / net.relation.vcs) k then mid net S else S

  -- whether something comes at a port
  abbrev pub came : ℕ → Bool
  came port = is_some (beat_by net S r port (neighbour net.relation.grid r port)).flit || is_some (beat_by net S r port (neighbour net.relation.grid r port)).credit

  -- the beats of the ports below k have been taken
  pub record IsUpTo (k : ℕ) (v : View) : Type 0 where
    pub site : v.site ≡ v0.site
    pub n_buffers : length v.buffers ≡ length v0.buffers
    pub n_inputs : length v.inputs ≡ length v0.inputs
    pub n_outputs : length v.outputs ≡ length v0.outputs
    pub buffer : (i : ℕ) → i < size net → view_buffer v i ≡ seen_flits net (at_port k i) (arriving net r i)
    pub input : (i : ℕ) → i < size net → view_input v i ≡ seen_input net (at_port k i) r i (arriving net r i)
    pub output : (o : ℕ) → o < size net → view_output v o ≡ seen_output net (at_port k o) r (leaving net r o)
    pub arbiters : v.arbiters ≡ v0.arbiters
    pub queue : v.queue ≡ v0.queue
    pub sending : v.sending ≡ v0.sending
    pub ends : v.ends ≡ v0.ends
    pub misfits : v.misfits ≡ v0.misfits
    pub noted : IsAsNoted net v0 v
    pub given : v.given ≡ v0.given
    pub event : v.had_event ≡ (v0.had_event || list_any (λ port. came port) (below k))

  module _ (seen : IsSeen net S r v0) (k : ℕ) (low : k < local_port net.relation.grid) (v : View) (so_far : IsUpTo k v) where
    beat : Beat
    beat = beat_by net S r k (neighbour net.relation.grid r k)

    pub site-is : v.site ≡ Rattle.noc_theory.specs.Lockstep.site_at net r
    site-is = so_far.site ∙ seen.site

    pub vcs-is : v.site.vcs ≡ net.relation.vcs
    vcs-is = ap (λ (s : Site). s.vcs) site-is

    -- what channel i shows before and after this port
    pub here-before : (i : ℕ) → i / net.relation.vcs ≡ k → at_port k i ≡ S
    here-before i e = ap (λ b. if b then mid net S else S) (le-ltb (i / net.relation.vcs) k (omega (arith, e)))

    pub here-after : (i : ℕ) → i / net.relation.vcs ≡ k → at_port (k + 1) i ≡ mid net S
    here-after i e = ap (λ b. if b then mid net S else S) (lt-ltb (i / net.relation.vcs) (k + 1) (omega (arith, e)))

    pub elsewhere : (i : ℕ) → (i / net.relation.vcs ≡ k → ⊥) → at_port k i ≡ at_port (k + 1) i
    elsewhere i other = by (cases_lt (i / net.relation.vcs) k)
      where
        by : (i / net.relation.vcs < k) ⊎ (k ≤ i / net.relation.vcs) → at_port k i ≡ at_port (k + 1) i
        by (inl u) = ap (λ b. if b then mid net S else S) (lt-ltb _ _ u) ∙ sym (ap (λ b. if b then mid net S else S) (lt-ltb (i / net.relation.vcs) (k + 1) (omega (arith, u))))
        by (inr u) = ap (λ b. if b then mid net S else S) (le-ltb _ _ u) ∙ sym (ap (λ b. if b then mid net S else S) (le-ltb (i / net.relation.vcs) (k + 1) (omega (arith, u, other))))

    -- ---- the flit

    -- after the flit of this port: input channels as after it, all else as before
    pub record IsLanded (some_flit : Bool) (w : View) : Type 0 where
      pub event : w.had_event ≡ (v.had_event || some_flit)
      pub buffer : (i : ℕ) → i < size net → view_buffer w i ≡ seen_flits net (at_port (k + 1) i) (arriving net r i)
      pub input : (i : ℕ) → i < size net → view_input w i ≡ seen_input net (at_port (k + 1) i) r i (arriving net r i)
      pub n_buffers : length w.buffers ≡ length v0.buffers
      pub n_inputs : length w.inputs ≡ length v0.inputs
      pub same : record w { buffers = v.buffers; inputs = v.inputs; had_event = v.had_event } ≡ v

    -- where no flit is on a channel of this port, it shows the same after it
    same-at : (i : ℕ) → i < size net → ((c : Channel) → arriving net r i ≡ Some c → i / net.relation.vcs ≡ k → flit_on net S c ≡ None)
        → (seen_flits net (at_port k i) (arriving net r i) ≡ seen_flits net (at_port (k + 1) i) (arriving net r i)) × (seen_input net (at_port k i) r i (arriving net r i) ≡ seen_input net (at_port (k + 1) i) r i (arriving net r i))
    same-at i u none = by (cases_eq (i / net.relation.vcs) k)
      where
        at : (e : i / net.relation.vcs ≡ k) (o : Option Channel) → arriving net r i ≡ o → (seen_flits net S (arriving net r i) ≡ seen_flits net (mid net S) (arriving net r i)) × (seen_input net S r i (arriving net r i) ≡ seen_input net (mid net S) r i (arriving net r i))
        at e None a = (ap (seen_flits net S) a ∙ sym (ap (seen_flits net (mid net S)) a), ap (seen_input net S r i) a ∙ sym (ap (seen_input net (mid net S) r i) a))
        at e (Some c) a =
            let z = none c a e in
            let eject = not-eject net good (arriving-at net good r i c l u a) in
            (ap (seen_flits net S) a ∙ sym (ap (seen_flits net (mid net S)) a ∙ flits-none net good S x c z), ap (seen_input net S r i) a ∙ sym (ap (seen_input net (mid net S) r i) a ∙ input-none net good S x c z r i eject))

        by : (i / net.relation.vcs ≡ k) ⊎ (i / net.relation.vcs ≡ k → ⊥)
            → (seen_flits net (at_port k i) (arriving net r i) ≡ seen_flits net (at_port (k + 1) i) (arriving net r i)) × (seen_input net (at_port k i) r i (arriving net r i) ≡ seen_input net (at_port (k + 1) i) r i (arriving net r i))
        by (inl e) =
            let z = at e (arriving net r i) refl in (
              ap (λ (T : State). seen_flits net T (arriving net r i)) (here-before i e) ∙ z.0 ∙ sym (ap (λ (T : State). seen_flits net T (arriving net r i)) (here-after i e)),
              ap (λ (T : State). seen_input net T r i (arriving net r i)) (here-before i e) ∙ z.1 ∙ sym (ap (λ (T : State). seen_input net T r i (arriving net r i)) (here-after i e)),
            )
        by (inr e) = (ap (λ (T : State). seen_flits net T (arriving net r i)) (elsewhere i e), ap (λ (T : State). seen_input net T r i (arriving net r i)) (elsewhere i e))

    -- the input channels of this port
    pub channel-at : (s q i : ℕ) → neighbour net.relation.grid r k ≡ Some (s, q) → i / net.relation.vcs ≡ k → arriving net r i ≡ Some (Link s q (i % net.relation.vcs))
    channel-at s q i link e =
        let not_local : nat_eq (i / net.relation.vcs) (local_port net.relation.grid) ≡ false = Rattle.std.proofs.lemmas.Bool.ne_eqb (i / net.relation.vcs) (local_port net.relation.grid) (λ z. omega (arith, low, e, z)) in
        ap (λ b. if b then Some (Inject r (i % net.relation.vcs)) else option_map (λ (from : ℕ × ℕ). Link from.0 from.1 (i % net.relation.vcs)) (neighbour net.relation.grid r (i / net.relation.vcs))) not_local
        ∙ ap (λ j. option_map (λ (from : ℕ × ℕ). Link from.0 from.1 (i % net.relation.vcs)) (neighbour net.relation.grid r j)) e
        ∙ ap (option_map (λ (from : ℕ × ℕ). Link from.0 from.1 (i % net.relation.vcs))) link

    pub no-flit : ((i : ℕ) → i < size net → (c : Channel) → arriving net r i ≡ Some c → i / net.relation.vcs ≡ k → flit_on net S c ≡ None) → IsLanded false v
    no-flit none = record {
      event = or-false v.had_event;
      buffer = λ i u. so_far.buffer i u ∙ (same-at i u (λ c a e. none i u c a e)).0;
      input = λ i u. so_far.input i u ∙ (same-at i u (λ c a e. none i u c a e)).1;
      n_buffers = so_far.n_buffers;
      n_inputs = so_far.n_inputs;
      same = refl;
    }
      where
        or-false : (b : Bool) → b ≡ (b || false)
        or-false true = refl
        or-false false = refl

    pub with-flit : AreShort net → (s q vc : ℕ) (f : Flit) → neighbour net.relation.grid r k ≡ Some (s, q) → vc < net.relation.vcs → flit_on net S (Link s q vc) ≡ Some f
        → ((w : ℕ) → w < net.relation.vcs → (w ≡ vc → ⊥) → flit_on net S (Link s q w) ≡ None) → IsLanded true (with_flit net.relation k (Some (vc, f)) v)
    with-flit short s q vc f link u on alone = subst (λ (y : View). IsLanded true y) (sym is_landed) done
      where
        i : ℕ
        i = k * net.relation.vcs + vc

        i-is : k * v.site.vcs + vc ≡ k * net.relation.vcs + vc
        i-is = ap (λ j. k * j + vc) vcs-is

        row : (k * net.relation.vcs + vc) / net.relation.vcs ≡ k
        row = div-mul-add k net.relation.vcs vc u

        col : (k * net.relation.vcs + vc) % net.relation.vcs ≡ vc
        col = mod-mul-add k net.relation.vcs vc u

        inside : k * net.relation.vcs + vc < size net
        inside = in-size net good k vc (omega (arith, low)) u

        found : arriving net r (k * net.relation.vcs + vc) ≡ Some (Link s q vc)
        found = channel-at s q (k * net.relation.vcs + vc) link row ∙ ap (λ j. Some (Link s q j)) col

        at : IsAt net good r (k * net.relation.vcs + vc) (Link s q vc)
        at = arriving-at net good r (k * net.relation.vcs + vc) (Link s q vc) l inside found

        buffer-was : view_buffer v (k * net.relation.vcs + vc) ≡ seen_flits net S (Some (Link s q vc))
        buffer-was = so_far.buffer (k * net.relation.vcs + vc) inside ∙ ap (λ (T : State). seen_flits net T (arriving net r (k * net.relation.vcs + vc))) (here-before (k * net.relation.vcs + vc) row) ∙ ap (seen_flits net S) found

        input-was : view_input v (k * net.relation.vcs + vc) ≡ seen_input net S r (k * net.relation.vcs + vc) (Some (Link s q vc))
        input-was =
            so_far.input (k * net.relation.vcs + vc) inside ∙ ap (λ (T : State). seen_input net T r (k * net.relation.vcs + vc) (arriving net r (k * net.relation.vcs + vc))) (here-before (k * net.relation.vcs + vc) row)
            ∙ ap (seen_input net S r (k * net.relation.vcs + vc)) found

        linked : has_link v.site k ≡ true
        linked = ap (λ (t : Site). is_some (neighbour t.grid t.node k)) site-is ∙ ap is_some link

        fitting : fits net.relation v.site.node k vc v.site.depth (view_buffer v (k * v.site.vcs + vc)) (view_input v (k * v.site.vcs + vc)) f ≡ true
        fitting =
            ap (λ (t : Site). fits net.relation t.node k vc t.depth (view_buffer v (k * v.site.vcs + vc)) (view_input v (k * v.site.vcs + vc)) f) site-is
            ∙ ap (λ j. fits net.relation r k vc net.depth (view_buffer v j) (view_input v j) f) i-is
            ∙ ap (λ (fs : List Flit). fits net.relation r k vc net.depth fs (view_input v (k * net.relation.vcs + vc)) f) buffer-was
            ∙ ap (λ (y : Input). fits net.relation r k vc net.depth (seen_flits net S (Some (Link s q vc))) y f) input-was
            ∙ ap (λ j. fits net.relation r j vc net.depth (seen_flits net S (Some (Link s q vc))) (seen_input net S r (k * net.relation.vcs + vc) (Some (Link s q vc))) f) (sym row)
            ∙ fits-some net good S x s q vc f on short r (k * net.relation.vcs + vc) at

        all-fit : (has_link v.site k && nat_lt vc v.site.vcs && fits net.relation v.site.node k vc v.site.depth (view_buffer v (k * v.site.vcs + vc)) (view_input v (k * v.site.vcs + vc)) f) ≡ true
        all-fit = and_from _ _ (and_from _ _ linked (lt-ltb _ _ (subst (λ j. vc < j) (sym vcs-is) u))) fitting

        is_landed : with_flit net.relation k (Some (vc, f)) v ≡ with_landed (k * net.relation.vcs + vc) f v
        is_landed = ap (λ b. cond b (with_landed (k * v.site.vcs + vc) f v) (with_misfit v)) all-fit ∙ ap (λ j. with_landed j f v) i-is

        nb : k * net.relation.vcs + vc < length v.buffers
        nb = let a = so_far.n_buffers in let b = seen.n_buffers in omega (arith, a, b, inside)

        ni : k * net.relation.vcs + vc < length v.inputs
        ni = let a = so_far.n_inputs in let b = seen.n_inputs in omega (arith, a, b, inside)

        other-none : (j : ℕ) → j < size net → (j ≡ k * net.relation.vcs + vc → ⊥) → (c : Channel) → arriving net r j ≡ Some c → j / net.relation.vcs ≡ k → flit_on net S c ≡ None
        other-none j uj apart c a e =
            let is : Link s q (j % net.relation.vcs) ≡ c = same_Some _ _ (sym (channel-at s q j link e) ∙ a) in
            ap (flit_on net S) (sym is) ∙ alone (j % net.relation.vcs) (mod-below net good j) (λ z. apart (sym (div-add-mod' j net.relation.vcs) ∙ ap (λ y. y * net.relation.vcs + j % net.relation.vcs) e ∙ ap (λ y. k * net.relation.vcs + y) z))

        buffer-now : (j : ℕ) → j < size net → view_buffer (with_landed (k * net.relation.vcs + vc) f v) j ≡ seen_flits net (at_port (k + 1) j) (arriving net r j)
        buffer-now j uj = by (cases_eq j (k * net.relation.vcs + vc))
          where
            by : (j ≡ k * net.relation.vcs + vc) ⊎ (j ≡ k * net.relation.vcs + vc → ⊥) → view_buffer (with_landed (k * net.relation.vcs + vc) f v) j ≡ seen_flits net (at_port (k + 1) j) (arriving net r j)
            by (inl e) =
                ap (view_buffer (with_landed (k * net.relation.vcs + vc) f v)) e ∙ get_or-set_same v.buffers (k * net.relation.vcs + vc) _ [] nb ∙ ap (λ (fs : List Flit). fs ++ f ∷ []) buffer-was
                ∙ sym (flits-some net good S x s q vc f on)
                ∙ sym (ap (λ y. seen_flits net (at_port (k + 1) y) (arriving net r y)) e ∙ ap (λ (T : State). seen_flits net T (arriving net r (k * net.relation.vcs + vc))) (here-after (k * net.relation.vcs + vc) row) ∙ ap (seen_flits net (mid net S)) found)
            by (inr e) = get_or-set_other v.buffers (k * net.relation.vcs + vc) j _ [] e ∙ so_far.buffer j uj ∙ (same-at j uj (λ c a z. other-none j uj e c a z)).0

        input-now : (j : ℕ) → j < size net → view_input (with_landed (k * net.relation.vcs + vc) f v) j ≡ seen_input net (at_port (k + 1) j) r j (arriving net r j)
        input-now j uj = by (cases_eq j (k * net.relation.vcs + vc))
          where
            by : (j ≡ k * net.relation.vcs + vc) ⊎ (j ≡ k * net.relation.vcs + vc → ⊥) → view_input (with_landed (k * net.relation.vcs + vc) f v) j ≡ seen_input net (at_port (k + 1) j) r j (arriving net r j)
            by (inl e) =
                ap (view_input (with_landed (k * net.relation.vcs + vc) f v)) e ∙ get_or-set_same v.inputs (k * net.relation.vcs + vc) _ idle_input ni ∙ ap (λ (y : Input). landed_on y f) input-was
                ∙ sym (input-some net good S x s q vc f on r (k * net.relation.vcs + vc))
                ∙ sym (ap (λ y. seen_input net (at_port (k + 1) y) r y (arriving net r y)) e ∙ ap (λ (T : State). seen_input net T r (k * net.relation.vcs + vc) (arriving net r (k * net.relation.vcs + vc))) (here-after (k * net.relation.vcs + vc) row)
                ∙ ap (seen_input net (mid net S) r (k * net.relation.vcs + vc)) found)
            by (inr e) = get_or-set_other v.inputs (k * net.relation.vcs + vc) j _ idle_input e ∙ so_far.input j uj ∙ (same-at j uj (λ c a z. other-none j uj e c a z)).1

        or-true : (b : Bool) → true ≡ (b || true)
        or-true true = refl
        or-true false = refl

        done : IsLanded true (with_landed (k * net.relation.vcs + vc) f v)
        done = record { event = or-true v.had_event; buffer = buffer-now; input = input-now; n_buffers = length-set v.buffers _ _ ∙ so_far.n_buffers; n_inputs = length-set v.inputs _ _ ∙ so_far.n_inputs; same = refl }
