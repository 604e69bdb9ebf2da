-- A packet that has begun and has flits at its source is the first of its node that waits.
use Rattle.std.proofs.Common.{◌≡◌, ◌≢◌, ℕ, zero, suc, ◌<◌, ◌≤◌, Bool, true, false, cond, List, [], ◌∷◌, length, Option, Some, None, refl, ap, sym, ◌∙◌, inl, inr, subst, arith}
use Rattle.std.specs.Prelude.{filter, find, ◌⊎◌, nat_eq, nat_le, nat_lt, ◌&&◌, option_map}
use Rattle.noc_theory.proofs.Common.{list_any, cases_eq, cases_order, leb-true, leb-false, and_from, eq-eqb, none-some, same_Some, below, least_by, lesser_by, Has, Pairs, nodes, Channel, Inject, Setup, network_cycle, Injection, State, Located, Source, packet_at, place_of_flit, landed_place, flits_of, is_at_source, is_idle, first_waiting, injection_at, injection_with, is_injection_of, owned_by, count_in, after_landing, after_credits, after_injection, after_verdicts, frozen_state, state_at, IsValid}
use Rattle.noc_theory.proofs.worms.BuiltRecordLemmas.{IsBuilt}
use Rattle.noc_theory.proofs.worms.OptionLemmas.{and_then-some, cond-some}
use Rattle.noc_theory.proofs.worms.MemberLemmas.{Has-kept, Has-filter_map, Pairs-filter, list_any-from, each-at}
use Rattle.noc_theory.proofs.worms.GrantLemmas.{IsWired}
use Rattle.noc_theory.proofs.worms.StateWordLemmas.{IsKeyed, last_of, Precedes, IsFirstOf}
use Rattle.noc_theory.proofs.worms.PlaceLemmas.{place-stepped, flit-there}
use Rattle.noc_theory.proofs.worms.WormRecordLemmas.{valid-last, valid-first, source-landed}
use Rattle.noc_theory.proofs.worms.InjectionPhaseLemmas.{IsInjected}
use Rattle.noc_theory.proofs.worms.InjectionStateLemmas.{entries-move, entries-are, entries-apart, all_entries, waiting-is}
use Rattle.noc_theory.proofs.worms.VerdictPhaseLemmas.{source-before, source-after}
use Rattle.noc_theory.proofs.worms.SoundLemmas.{IsSoundState, IsSoundFrozen, sound-landed, sound-credits, sound-frozen}
use Rattle.noc_theory.proofs.worms.OpeningLemmas.{sound-state, at-source, below-has, below-rises}

-- the least by key precedes each
pub least_by-first : (key : ℕ → ℕ) (xs : List ℕ) (x y : ℕ) → Pairs (λ (a b : ℕ). a < b) xs → least_by key xs ≡ Some x → Has y xs → Precedes key x y
unfolding least_by
least_by-first key [] x y s e h = elim h [ ]
least_by-first key (z ∷ zs) x y s e h = at (least_by key zs) refl (same_Some (lesser_by key z (least_by key zs)) x e) h (λ u f k. least_by-first key zs u y s.1 f k)
  where
    same : (a b : ℕ) → a ≡ b → Precedes key a b
    same a b f = inr (ap key f, omega arith)

    some_least : (ys : List ℕ) → least_by key ys ≡ None → Has y ys → ⊥
    some_least [] f k = k
    some_least (a ∷ later) f k = none-some (lesser_by key a (least_by key later)) (sym f)

    behind : (u : ℕ) → key z ≤ key u → z < y → Precedes key u y → Precedes key z y
    behind u l m (inl k) = inl (omega arith)
    behind u l m (inr k) = by (cases_order (key z) (key y))
      where
        by : (key z ≡ key y) ⊎ ((key z < key y) ⊎ (key y < key z)) → Precedes key z y
        by (inl f) = inr (f, omega arith)
        by (inr (inl f)) = inl f
        by (inr (inr f)) = let q = k.0 in absurd (omega arith)

    pick : (u : ℕ) → least_by key zs ≡ Some u → (b : Bool) → nat_le (key z) (key u) ≡ b → cond b z u ≡ x → Has y (z ∷ zs) → (Has y zs → Precedes key u y) → Precedes key x y
    pick u f true m q (inl k) rest = same x y (sym q ∙ sym k)
    pick u f true m q (inr k) rest = subst (λ (v : ℕ). Precedes key v y) q (behind u (leb-true _ _ m) (each-at (λ b. z < b) zs y s.0 k) (rest k))
    pick u f false m q (inl k) rest =
        let l : key u < key z = leb-false _ _ m in
        let a : key u ≡ key x = ap key q in
        let b : key z ≡ key y = ap key (sym k) in
        inl (omega arith)
    pick u f false m q (inr k) rest = subst (λ (v : ℕ). Precedes key v y) q (rest k)

    at : (o : Option ℕ) → least_by key zs ≡ o → lesser_by key z o ≡ x → Has y (z ∷ zs) → ((u : ℕ) → least_by key zs ≡ Some u → Has y zs → Precedes key u y) → Precedes key x y
    at None f q (inl k) rest = same x y (sym q ∙ sym k)
    at None f q (inr k) rest = absurd (some_least zs f k)
    at (Some u) f q k rest = pick u f (nat_le (key z) (key u)) refl q k (rest u f)

module _ (net : Setup) where
  pub record IsQueued (S : State) : Type 0 where
    pub first : (p : ℕ) → p < length net.packets → place_of_flit net S p 0 ≢ Source → place_of_flit net S p (last_of net p) ≡ Source → IsFirstOf net S p

  module _ (built : IsBuilt net) (wired : IsWired net) where
    -- a step in which no head leaves its source
    unbegun : (S T : State) → ((p i : ℕ) → IsValid net p i → place_of_flit net T p i ≡ Source → place_of_flit net S p i ≡ Source)
        → ((p i : ℕ) → IsValid net p i → place_of_flit net S p i ≡ Source → place_of_flit net T p i ≡ Source) → IsQueued S → IsQueued T
    unbegun S T back there q = record {
      first = λ p low b t k lk same tk.
          q.first p low (λ z. b (there p 0 (valid-first net built p low) z)) (back p (last_of net p) (valid-last net built p low) t) k lk same (back k (last_of net k) (valid-last net built k lk) tk);
    }

    -- what waits at a node is preceded by what waits first
    pub waiting-first : (S : State) → IsKeyed net S.at → (node p : ℕ) → first_waiting net S node ≡ Some p → (q : ℕ) → q < length net.packets → (packet_at net q).source ≡ node → place_of_flit net S q (last_of net q) ≡ Source
        → Precedes (λ x. (packet_at net x).due) p q
    waiting-first S keyed node p e q low same t =
        let test : ℕ → Bool = λ x. nat_eq (packet_at net x).source node && list_any (λ (f : Located). is_at_source f.place) (flits_of net S x) in
        let f : Located = record { packet = q; index = last_of net q; place = place_of_flit net S q (last_of net q) } in
        let member : Has f S.at = flit-there net S keyed q (last_of net q) (valid-last net built q low) in
        let mine : Has f (flits_of net S q) = Has-kept (λ (g : Located). nat_eq q g.packet) f S.at member (eq-eqb q q refl) in
        let any : list_any (λ (g : Located). is_at_source g.place) (flits_of net S q) ≡ true = list_any-from (λ (g : Located). is_at_source g.place) (flits_of net S q) f mine (ap is_at_source t) in
        let ranged : Has q (below (length net.packets)) = below-has q (length net.packets) low in
        least_by-first (λ x. (packet_at net x).due) (filter test (below (length net.packets))) p q
        (Pairs-filter (λ (a b : ℕ). a < b) test (below (length net.packets)) (below-rises (length net.packets))) e
        (Has-kept test q (below (length net.packets)) ranged (and_from _ _ (eq-eqb _ _ same) any))

    -- an entry is of the packet that waits first
    entry-first : (S : State) (n node : ℕ) (one : Injection net) → injection_at net S n node ≡ Some one → first_waiting net S node ≡ Some one.packet
    entry-first S n node one e =
        let r = and_then-some (λ q. injection_with net S n node q (find (is_injection_of net node) (owned_by net S q))) (first_waiting net S node) one e in
        r.1 ∙ ap Some (at r.0 (find (is_injection_of net node) (owned_by net S r.0)) r.2)
      where
        found : (q : ℕ) (o : Option ℕ) → option_map (λ v. (record { packet = q; channel = Inject node v; begins = true })) o ≡ Some one → q ≡ one.packet
        found q None g = absurd (none-some one g)
        found q (Some v) g = let s : record { packet = q; channel = Inject node v; begins = true } ≡ one = same_Some (record { packet = q; channel = Inject node v; begins = true }) one g in ap (λ (x : Injection net). x.packet) s

        at : (q : ℕ) (o : Option Channel) → injection_with net S n node q o ≡ Some one → q ≡ one.packet
        at q None g =
            let b = cond-some (nat_le (packet_at net q).due n) (option_map (λ v. (record { packet = q; channel = Inject node v; begins = true })) (find (λ v. is_idle net S (Inject node v)) (below net.relation.vcs))) one g in
            found q (find (λ v. is_idle net S (Inject node v)) (below net.relation.vcs)) b.1
        at q (Some j) g =
            let b = cond-some (nat_lt (count_in net S j) net.depth) (Some (record { packet = q; channel = j; begins = false })) one g in
            let s : record { packet = q; channel = j; begins = false } ≡ one = same_Some (record { packet = q; channel = j; begins = false }) one b.1 in ap (λ (x : Injection net). x.packet) s

    pub queued-injection : (n : ℕ) (S : State) → IsSoundFrozen net S → IsQueued S → IsQueued (after_injection net n S)
    queued-injection n S s q = record { first = λ p low b t k lk same tk. at p low b t k lk same (back k (last_of net k) (valid-last net built k lk) tk) (entries-move net built S s.keyed s.worm n p low) }
      where
        T : State
        T = after_injection net n S

        back : (p i : ℕ) → IsValid net p i → place_of_flit net (after_injection net n S) p i ≡ Source → place_of_flit net S p i ≡ Source
        back p i v e = by (entries-move net built S s.keyed s.worm n p v.0)
          where
            by : IsInjected net built S.own (place_of_flit net S) s.worm (all_entries net built S s.keyed s.worm n) (entries-are net built S s.keyed s.worm n) (entries-apart net built S s.keyed s.worm n) (place_of_flit net (after_injection net n S)) p → place_of_flit net S p i ≡ Source
            by (inl x) = sym (x.0 i v) ∙ e
            by (inr x) = here (cases_eq i x.3.flit)
              where
                here : (i ≡ x.3.flit) ⊎ (i ≡ x.3.flit → ⊥) → place_of_flit net S p i ≡ Source
                here (inl f) = ap (place_of_flit net S p) f ∙ x.3.was
                here (inr f) = sym (x.3.others i v f) ∙ e

        at : (p : ℕ) (low : p < length net.packets) → place_of_flit net (after_injection net n S) p 0 ≢ Source → place_of_flit net (after_injection net n S) p (last_of net p) ≡ Source
            → (k : ℕ) → k < length net.packets → (packet_at net k).source ≡ (packet_at net p).source → place_of_flit net S k (last_of net k) ≡ Source
            → IsInjected net built S.own (place_of_flit net S) s.worm (all_entries net built S s.keyed s.worm n) (entries-are net built S s.keyed s.worm n) (entries-apart net built S s.keyed s.worm n) (place_of_flit net (after_injection net n S)) p
            → Precedes (λ x. (packet_at net x).due) p k
        at p low b t k lk same tk (inl x) = q.first p low (λ z. b (x.0 0 (valid-first net built p low) ∙ z)) (back p (last_of net p) (valid-last net built p low) t) k lk same tk
        at p low b t k lk same tk (inr x) =
            let node = Has-filter_map (injection_at net S n) x.0 (below (nodes net.relation.grid)) x.1 in
            let first : first_waiting net S node.0 ≡ Some p = entry-first S n node.0 x.0 node.2 ∙ ap Some x.2 in
            let is = waiting-is net built S s.keyed s.worm n node.0 p first in
            waiting-first S s.keyed node.0 p first k lk (same ∙ sym is.1) tk

    -- after the landings and the credits
    pub queued-mid : (S : State) → IsSoundState net S → IsQueued S → IsQueued (after_credits net (after_landing net S))
    unfolding after_landing after_credits
    queued-mid S s q =
        let goes : (p i : ℕ) → IsValid net p i → place_of_flit net (after_landing net S) p i ≡ landed_place net (place_of_flit net S p i)
        = λ p i v. place-stepped net (λ (f : Located). landed_place net f.place) S (after_landing net S) s.keyed refl p i v in
        let qa : IsQueued (after_landing net S) = unbegun S (after_landing net S)
        (λ p i v e. source-landed net (place_of_flit net S p i) (sym (goes p i v) ∙ e)) (λ p i v e. goes p i v ∙ ap (landed_place net) e) q in
        unbegun (after_landing net S) (after_credits net (after_landing net S)) (λ p i v e. e) (λ p i v e. e) qa

    pub queued-frozen : (n : ℕ) (S : State) → IsSoundState net S → IsQueued S → IsQueued (frozen_state net n S)
    unfolding frozen_state
    queued-frozen n S s q =
        queued-injection n (after_credits net (after_landing net S))
        (sound-credits net built wired (after_landing net S) (sound-landed net built wired S s)) (queued-mid S s q)

    pub queued-verdicts : (n : ℕ) (F : State) → IsSoundFrozen net F → IsQueued F → IsQueued (after_verdicts net n F)
    queued-verdicts n F s q = unbegun F (after_verdicts net n F)
        (λ p i v e. source-before net built wired F s.keyed s.worm n s.still p i v e)
        (λ p i v e. source-after net built wired F s.keyed s.worm n s.still p i v e) q

    pub queued-state : (n : ℕ) → IsQueued (state_at net n)
    unfolding state_at network_cycle
    queued-state zero = record { first = λ p low b t. absurd (b (at-source net p 0 (valid-first net built p low))) }
    queued-state (suc n) =
        let s = sound-state net built wired n in
        queued-verdicts n (frozen_state net n (state_at net n)) (sound-frozen net built wired n (state_at net n) s) (queued-frozen n (state_at net n) s (queued-state n))

    -- and in each frozen state
    pub queued-frozen_state : (n : ℕ) → IsQueued (frozen_state net n (state_at net n))
    queued-frozen_state n = queued-frozen n (state_at net n) (sound-state net built wired n) (queued-state n)
