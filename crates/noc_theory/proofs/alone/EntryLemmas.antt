-- While a packet is alone its source sends: the head when it is due, and each later flit in time.
use Rattle.std.proofs.Common.{◌≡◌, ◌≢◌, ℕ, suc, ◌+◌, ◌<◌, ◌≤◌, Bool, true, false, cond, length, Option, Some, None, refl, ap, sym, ◌∙◌, arith, inl, inr, subst}
use Rattle.std.specs.Prelude.{filter, find, is_none, nat_eq, option_map, option_and_then, ◌&&◌, ◌⊎◌}
use Rattle.noc_theory.proofs.Common.{list_any, and_from, eq-eqb, le-leb, lt-ltb, cases_eq, cases_lt, Has, below, distance, nodes, Channel, Inject, Setup, State, Located, Source, In, Out, Injection, packet_at, place_of_flit, tail_place, owner_of, owned_by, is_idle, is_at_source, flits_of, first_waiting, is_injection_of, injection_with, injection_at, injections, count_in, state_at, hops, head_place, IsWellFormedSetup, IsValid}
use Rattle.noc_theory.proofs.worms.BuiltRecordLemmas.{IsBuilt}
use Rattle.noc_theory.proofs.worms.BuiltLemmas.{good-built}
use Rattle.noc_theory.proofs.worms.BufferLemmas.{find-passes}
use Rattle.noc_theory.proofs.worms.InjectionPhaseLemmas.{source-behind}
use Rattle.noc_theory.proofs.worms.InjectionStateLemmas.{injection_of-is, waiting-is, entries-are}
use Rattle.noc_theory.proofs.worms.MemberLemmas.{Has-kept, Has-filter_mapped, find-has, find-some, list_any-from}
use Rattle.noc_theory.proofs.worms.NetworkLemmas.{mid_at, whole-mid_at, queued-mid_at}
use Rattle.noc_theory.proofs.worms.OpeningLemmas.{below-has}
use Rattle.noc_theory.proofs.worms.OwnedLemmas.{of-has, has-of}
use Rattle.noc_theory.proofs.worms.PlaceLemmas.{flit-there, place-of-flit}
use Rattle.noc_theory.proofs.worms.RoutedStateLemmas.{IsWholeFrozen}
use Rattle.noc_theory.proofs.worms.StateWordLemmas.{goal, far_of, last_of}
use Rattle.noc_theory.proofs.worms.WormRecordLemmas.{IsWorm, valid-last, valid-first}
use Rattle.noc_theory.proofs.budget.BuiltProgressLemmas.{built-good}
use Rattle.noc_theory.proofs.budget.ChainLemmas.{in-owned, one-owner, first-is}
use Rattle.noc_theory.proofs.budget.HasLemmas.{least-some}
use Rattle.noc_theory.proofs.budget.WormLemmas.{owner-has}
use Rattle.noc_theory.proofs.alone.UndueLemmas.{out-mid}
use Rattle.noc_theory.proofs.alone.OwnerLemmas.{OwnsAlone}
use Rattle.noc_theory.proofs.alone.MoverLemmas.{few-in}
use Rattle.noc_theory.proofs.alone.FollowLemmas.{out_time, InTime}

-- an injection of p is among those of cycle n
abbrev pub IsEntering : (net : Setup) → IsWellFormedSetup net → ℕ → ℕ → Type 0
IsEntering net good n p = (one : Injection net) × Has one (injections net (mid_at net good n) n) × (one.packet ≡ p)

-- such an injection is to a channel that ends at the source of p
pub entry-far : (net : Setup) (good : IsWellFormedSetup net) (n p : ℕ) (one : Injection net) → Has one (injections net (mid_at net good n) n) → one.packet ≡ p → far_of net p one.channel ≡ hops net p
entry-far net good n p one h is_p =
    let whole = whole-mid_at net good n in
    let e = (entries-are net (good-built net good) (mid_at net good n) whole.sound.keyed whole.sound.worm n one h).1 in
    ap (far_of net p) e.channel ∙ ap (λ (x : ℕ). distance net.relation.grid x (goal net p)) (e.from ∙ ap (λ q. (packet_at net q).source) is_p)

module _ (net : Setup) (good : IsWellFormedSetup net) (two : 2 ≤ net.depth) (n p : ℕ) (low : p < length net.packets) where
  abbrev T : State
  T = mid_at net good n

  abbrev whole : IsWholeFrozen net T
  whole = whole-mid_at net good n

  abbrev built : IsBuilt net
  built = good-built net good

  abbrev worm : IsWorm net T.own (place_of_flit net T)
  worm = whole.sound.worm

  abbrev node : ℕ
  node = (packet_at net p).source

  enters : (one : Injection net) → injection_at net T n node ≡ Some one → one.packet ≡ p → IsEntering net good n p
  enters one e is_p =
      (one, Has-filter_mapped (injection_at net T n) node one (below (nodes net.relation.grid)) (below-has node (nodes net.relation.grid) ((built-good net good).sources p low)) e, is_p)

  -- where a flit is at its source, its tail is
  tail-there : (i : ℕ) → IsValid net p i → place_of_flit net T p i ≡ Source → tail_place net T p ≡ Source
  tail-there i v e = source-behind net built T.own (place_of_flit net T) worm p i (last_of net p) (valid-last net built p low) (let l = v.1 in omega arith) e

  -- ---- a flit behind the head, which has no cycle to lose

  module _ (times : (i : ℕ) → IsValid net p i → InTime net p n i (place_of_flit net T p i)) (i : ℕ) (v : IsValid net p i) (begun : head_place net T p ≢ Source)
      (here : place_of_flit net T p i ≡ Source) (tight : n + hops net p + 1 ≡ out_time net p i) where
    holds : (u : ℕ) × Has (Inject node u, p) T.own
    holds = worm.holds p low begun (tail-there i v here)

    waits : first_waiting net T node ≡ Some p
    waits = first-is net built T whole (queued-mid_at net good n) node holds.0 p holds.1 (tail-there i v here)

    channel : (j : Channel) × (find (is_injection_of net node) (owned_by net T p) ≡ Some j)
    channel = find-some (is_injection_of net node) (owned_by net T p) (Inject node holds.0) (has-of (Inject node holds.0) p T.own holds.1) (eq-eqb node node refl)

    room : count_in net T channel.0 < net.depth
    room = let few = few-in net T whole.sound.keyed.sorted p i channel.0 before in omega arith
      where
        is : (u : ℕ) × (channel.0 ≡ Inject node u)
        is = injection_of-is net built T whole.sound.keyed worm n node channel.0 (find-passes (is_injection_of net node) (owned_by net T p) channel.0 channel.1)

        own : Has (channel.0, p) T.own
        own = of-has channel.0 p T.own (find-has (is_injection_of net node) (owned_by net T p) channel.0 channel.1)

        just : (j : ℕ) → IsValid net p j → place_of_flit net T p j ≡ In (Inject node is.0) → (j < i) ⊎ (i ≤ j) → suc j ≡ i
        just j w e (inl l) = let t : n + hops net p ≤ out_time net p j = subst (InTime net p n j) e (times j w) in omega arith
        just j w e (inr l) = let z : Source ≡ In (Inject node is.0) = sym (source-behind net built T.own (place_of_flit net T) worm p i j w l here) ∙ e in absurd (cc z)

        before : (f : Located) → Has f T.at → f.place ≡ In channel.0 → (f.packet ≡ p) × (suc f.index ≡ i)
        before f h there =
            let is_p : f.packet ≡ p = one-owner net built T whole channel.0 f.packet p (in-owned net built T whole f channel.0 h there).0 own in
            let place : place_of_flit net T p f.index ≡ In (Inject node is.0) = ap (λ (x : ℕ). place_of_flit net T x f.index) (sym is_p) ∙ place-of-flit net T whole.sound.keyed f h ∙ there ∙ ap In is.1 in
            (is_p, just f.index (subst (λ (x : ℕ). IsValid net x f.index) is_p (whole.sound.keyed.valid f h)) place (cases_lt f.index i))

    -- it leaves its source
    pub goes-on : IsEntering net good n p
    goes-on =
        enters (record { packet = p; channel = channel.0; begins = false })
        (ap (option_and_then (λ w. injection_with net T n node w (find (is_injection_of net node) (owned_by net T w)))) waits
        ∙ ap (injection_with net T n node p) channel.1
        ∙ ap (λ b. cond b (Some (record { packet = p; channel = channel.0; begins = false })) None) (lt-ltb (count_in net T channel.0) net.depth room)) refl

  -- ---- the head

  module _ (alone : OwnsAlone net p T) (others : (q : ℕ) → q < length net.packets → q ≢ p → (n < (packet_at net q).due) ⊎ ((m : ℕ) × (tail_place net (state_at net n) q ≡ Out m)))
      (due : (packet_at net p).due ≤ n) (here : head_place net T p ≡ Source) where
    abbrev waits_at : ℕ → Bool
    waits_at q = nat_eq (packet_at net q).source node && list_any (λ (f : Located). is_at_source f.place) (flits_of net T q)

    first : (q : ℕ) × (first_waiting net T node ≡ Some q) × ((packet_at net q).due ≤ (packet_at net p).due)
    first =
        let f : Located = record { packet = p; index = last_of net p; place = tail_place net T p } in
        let mine : Has f (flits_of net T p) = Has-kept (λ (x : Located). nat_eq p x.packet) f T.at (flit-there net T whole.sound.keyed p (last_of net p) (valid-last net built p low)) (eq-eqb p p refl) in
        let any : list_any (λ (x : Located). is_at_source x.place) (flits_of net T p) ≡ true
        = list_any-from (λ (x : Located). is_at_source x.place) (flits_of net T p) f mine (ap is_at_source (tail-there 0 (valid-first net built p low) here)) in
        least-some (λ q. (packet_at net q).due) (filter waits_at (below (length net.packets))) p
        (Has-kept waits_at p (below (length net.packets)) (below-has p (length net.packets) low) (and_from _ _ (eq-eqb node node refl) any))

    first-mine : first_waiting net T node ≡ Some p
    first-mine = first.1 ∙ ap Some (at (cases_eq first.0 p) (waiting-is net built T whole.sound.keyed worm n node first.0 first.1))
      where
        out : (q : ℕ) → q < length net.packets → tail_place net T q ≡ Source → (m : ℕ) → tail_place net (state_at net n) q ≡ Out m → ⊥
        out q l e m k = let z : Source ≡ Out m = sym e ∙ out-mid net good n q (last_of net q) m (valid-last net built q l) k in cc z

        away : (q : ℕ) → q < length net.packets → tail_place net T q ≡ Source → (packet_at net q).due ≤ (packet_at net p).due → (n < (packet_at net q).due) ⊎ ((m : ℕ) × (tail_place net (state_at net n) q ≡ Out m)) → ⊥
        away q l e early (inl late) = omega arith
        away q l e early (inr m) = out q l e m.0 m.1

        at : (first.0 ≡ p) ⊎ (first.0 ≡ p → ⊥) → (first.0 < length net.packets) × (node ≡ (packet_at net first.0).source) × (tail_place net T first.0 ≡ Source) → first.0 ≡ p
        at (inl e) w = e
        at (inr other) w = absurd (away first.0 w.0 w.2 first.2 (others first.0 w.0 other))

    -- p owns nothing yet, and no injection channel of its node has an owner
    none-owned : find (is_injection_of net node) (owned_by net T p) ≡ None
    none-owned = at (find (is_injection_of net node) (owned_by net T p)) refl
      where
        at : (o : Option Channel) → find (is_injection_of net node) (owned_by net T p) ≡ o → o ≡ None
        at None e = refl
        at (Some j) e = absurd (worm.begun j p (of-has j p T.own (find-has (is_injection_of net node) (owned_by net T p) j e)) here)

    idle : (u : ℕ) → is_idle net T (Inject node u) ≡ true
    idle u = at (owner_of net T (Inject node u)) refl
      where
        at : (o : Option ℕ) → owner_of net T (Inject node u) ≡ o → is_idle net T (Inject node u) ≡ true
        at None e = ap (λ (x : Option ℕ). is_none x) e
        at (Some q) e =
            let h = owner-has net T (Inject node u) q e in
            absurd (worm.begun (Inject node u) p (subst (λ (x : ℕ). Has (Inject node u, x) T.own) (alone.mine (Inject node u) q h) h) here)

    -- it leaves its source
    pub begins : IsEntering net good n p
    begins =
        let free = find-some (λ u. is_idle net T (Inject node u)) (below net.relation.vcs) 0 (below-has 0 net.relation.vcs (built-good net good).vcs) (idle 0) in
        enters (record { packet = p; channel = Inject node free.0; begins = true })
        (ap (option_and_then (λ w. injection_with net T n node w (find (is_injection_of net node) (owned_by net T w)))) first-mine
        ∙ ap (injection_with net T n node p) none-owned
        ∙ ap (λ b. cond b (option_map (λ u. (record { packet = p; channel = Inject node u; begins = true })) (find (λ u. is_idle net T (Inject node u)) (below net.relation.vcs))) None) (le-leb (packet_at net p).due n due)
        ∙ ap (option_map (λ u. (record { packet = p; channel = Inject node u; begins = true }))) free.1) refl
