-- Where each pending cycle has an event and each cycle lowers the remainder by its events, all is
-- out by the last due time and the budget.
use Rattle.std.proofs.Common.{◌≡◌, ℕ, zero, suc, ◌+◌, ◌-◌, ◌<◌, ◌≤◌, Bool, true, false, cond, List, map, length, Option, Some, None, refl, ap, sym, ◌∙◌, arith, subst}
use Rattle.std.specs.Prelude.{find, nat_eq, nat_le, ◌&&◌, option_map, unwrap_or, is_none}
use Rattle.noc_theory.proofs.Common.{enumerate_from, true≢false, and_from, and_parts, le-leb, false_from_ne_true, opening_state, after_verdicts, after_injection, In, Injection, Located, On, Out, Place, Setup, Source, State, after_credits, after_landing, arrival_in, first_at_source, front_in, frozen_state, gone_to, injected_place, injections, is_at_source, is_the_flit, landed_place, moved_place, network_cycle, next_channel, out_cycle, packet_at, state_at, tail_place, verdict_in, budget, events, is_pending, remainder, Packet, Channel, Eject, Inject, Link, is_moved, Has, below}
use Rattle.noc_theory.proofs.worms.MemberLemmas.{list_any-from, list_any-has, Has-flat_map}
use Rattle.noc_theory.proofs.worms.OpeningLemmas.{below-has}
use Rattle.noc_theory.proofs.worms.GrantLemmas.{Has-below}
use Rattle.noc_theory.proofs.budget.HasLemmas.{map-has, find-has}
use Rattle.noc_theory.proofs.budget.RemainderPhaseLemmas.{find-map}

module _ (net : Setup) where
  -- what a flit does in a cycle, phase by phase
  abbrev pub lands : Located → Located
  lands f = record f { place = landed_place net f.place }

  abbrev pub injects : ℕ → State → Located → Located
  injects n T f = record f { place = injected_place net T f (find (λ (one : Injection net). nat_eq one.packet f.packet) (injections net T n)) }

  abbrev pub goes : ℕ → State → Located → Located
  goes n F f = record f { place = moved_place net F n f f.place }

  abbrev pub credited : State → State
  credited S = after_credits net (after_landing net S)

  -- what is out stays out
  injected-out : (n : ℕ) (T : State) (f : Located) (m : ℕ) → f.place ≡ Out m → (injects n T f).place ≡ Out m
  injected-out n T f m e = at (find (λ (one : Injection net). nat_eq one.packet f.packet) (injections net T n))
    where
      at : (o : Option (Injection net)) → injected_place net T f o ≡ Out m
      at None = e
      at (Some one) = ap (λ q. cond (is_at_source q && is_the_flit net f (first_at_source net T f.packet)) (In one.channel) q) e

  place-out : (step : Located → Located) → ((f : Located) → (step f).packet ≡ f.packet) → ((f : Located) → (step f).index ≡ f.index)
      → ((f : Located) (m : ℕ) → f.place ≡ Out m → (step f).place ≡ Out m) → (fs : List Located) (p i m : ℕ)
      → unwrap_or (option_map (λ (f : Located). f.place) (find (λ (f : Located). nat_eq p f.packet && nat_eq i f.index) fs)) Source ≡ Out m
      → unwrap_or (option_map (λ (f : Located). f.place) (find (λ (f : Located). nat_eq p f.packet && nat_eq i f.index) (map step fs))) Source ≡ Out m
  place-out step packets indices outs fs p i m e =
      ap (λ (o : Option Located). unwrap_or (option_map (λ (f : Located). f.place) o) Source)
      (find-map (λ (f : Located). nat_eq p f.packet && nat_eq i f.index) step (λ f. ap (λ x. nat_eq p x && nat_eq i (step f).index) (packets f) ∙ ap (λ x. nat_eq p f.packet && nat_eq i x) (indices f)) fs)
      ∙ at (find (λ (f : Located). nat_eq p f.packet && nat_eq i f.index) fs) e
    where
      at : (o : Option Located) → unwrap_or (option_map (λ (f : Located). f.place) o) Source ≡ Out m
          → unwrap_or (option_map (λ (f : Located). f.place) (option_map step o)) Source ≡ Out m
      at None g = absurd (cc g)
      at (Some f) g = outs f m g

  -- a tail that is out stays out
  pub tail-out : (n : ℕ) (S : State) (p m : ℕ) → tail_place net S p ≡ Out m → tail_place net (network_cycle net n S) p ≡ Out m
  unfolding after_credits after_landing frozen_state after_injection network_cycle after_verdicts
  tail-out n S p m e =
      place-out (goes n (frozen_state net n S)) (λ f. refl) (λ f. refl) (λ f m e. ap (moved_place net (frozen_state net n S) n f) e) (frozen_state net n S).at p ((packet_at net p).length - 1) m
      (place-out (injects n (credited S)) (λ f. refl) (λ f. refl) (injected-out n (credited S)) (credited S).at p ((packet_at net p).length - 1) m
      (place-out lands (λ f. refl) (λ f. refl) (λ f m e. ap (landed_place net) e) S.at p ((packet_at net p).length - 1) m e))

  pub tail-stays-out : (k n p m : ℕ) → tail_place net (state_at net n) p ≡ Out m → (w : ℕ) → w ≡ n + k → tail_place net (state_at net w) p ≡ Out m
  unfolding state_at network_cycle opening_state
  tail-stays-out zero n p m e w s = subst (λ (x : ℕ). tail_place net (state_at net x) p ≡ Out m) (let r : n ≡ w = omega arith in r) e
  tail-stays-out (suc k) n p m e w s =
      tail-stays-out k (suc n) p m (tail-out n (state_at net n) p m e) w (omega arith)

  -- and it went out in a cycle that was
  IsPast : ℕ → State → Type 0
  IsPast n S = (f : Located) (m : ℕ) → Has f S.at → f.place ≡ Out m → m < n

  past-cycle : (n : ℕ) (S : State) → IsPast n S → IsPast (suc n) (network_cycle net n S)
  unfolding IsPast frozen_state network_cycle after_injection after_verdicts after_credits after_landing
  past-cycle n S past f m h e =
      let a = map-has (goes n (frozen_state net n S)) f (frozen_state net n S).at h in
      let b = map-has (injects n (credited S)) a.0 (credited S).at a.1 in
      let c = map-has lands b.0 S.at b.1 in
      moved a.0 a.0.place refl (sym (ap (λ (x : Located). x.place) a.2) ∙ e)
      (λ g. let i = injected b.0 (sym (ap (λ (x : Located). x.place) b.2) ∙ g) in past c.0 m c.1 (fell c.0.place (sym (ap (λ (x : Located). x.place) c.2) ∙ i)))
    where
      fell : (q : Place) → landed_place net q ≡ Out m → q ≡ Out m
      fell Source g = absurd (cc g)
      fell (On d) g = absurd (cc g)
      fell (In d) g = absurd (cc g)
      fell (Out k) g = g

      injected : (x : Located) → (injects n (credited S) x).place ≡ Out m → x.place ≡ Out m
      injected x g = at (find (λ (one : Injection net). nat_eq one.packet x.packet) (injections net (credited S) n)) g
        where
          kept : (b : Bool) (d : Channel) → cond b (In d) x.place ≡ Out m → x.place ≡ Out m
          kept true d k = absurd (cc k)
          kept false d k = k

          at : (o : Option (Injection net)) → injected_place net (credited S) x o ≡ Out m → x.place ≡ Out m
          at None k = k
          at (Some one) k = kept (is_at_source x.place && is_the_flit net x (first_at_source net (credited S) x.packet)) one.channel k

      moved : (x : Located) (q : Place) → x.place ≡ q → moved_place net (frozen_state net n S) n x x.place ≡ Out m → (x.place ≡ Out m → m < n) → m < suc n
      moved x Source k g rest = let z : Source ≡ Out m = sym (ap (moved_place net (frozen_state net n S) n x) k) ∙ g in absurd (cc z)
      moved x (On d) k g rest = let z : On d ≡ Out m = sym (ap (moved_place net (frozen_state net n S) n x) k) ∙ g in absurd (cc z)
      moved x (Out i) k g rest = let z : Out i ≡ Out m = sym (ap (moved_place net (frozen_state net n S) n x) k) ∙ g in let l = rest (k ∙ z) in omega arith
      moved x (In d) k g rest = gone-out (is_moved (verdict_in net (frozen_state net n S) d) && is_the_flit net x (front_in net (frozen_state net n S) d)) (next_channel net (frozen_state net n S) d) (sym (ap (moved_place net (frozen_state net n S) n x) k) ∙ g)
        where
          gone-out : (b : Bool) (next : Option Channel) → cond b (gone_to net n d next) (In d) ≡ Out m → m < suc n
          gone-out false next z = absurd (cc z)
          gone-out true None z = absurd (cc z)
          gone-out true (Some (Link r q' v)) z = absurd (cc z)
          gone-out true (Some (Inject r v)) z = absurd (cc z)
          gone-out true (Some (Eject r v)) z = let s : n ≡ m = cc in omega arith

  past-state : (n : ℕ) → IsPast n (state_at net n)
  unfolding state_at network_cycle opening_state IsPast
  past-state zero f m h e =
      let a = Has-flat_map (λ (one : ℕ × Packet). map (λ i. record { packet = one.0; index = i; place = Source }) (below one.1.length)) f (enumerate_from 0 net.packets) h in
      let b = map-has (λ i. record { packet = a.0.0; index = i; place = Source }) f (below a.0.1.length) a.2 in
      let z : Source ≡ Out m = sym (ap (λ (x : Located). x.place) b.2) ∙ e in
      absurd (cc z)
  past-state (suc n) f m h e = past-cycle n (state_at net n) (past-state n) f m h e

  module _ (last : ℕ) (due : (p : ℕ) → p < length net.packets → (packet_at net p).due ≤ last)
      (law : (n : ℕ) → remainder net (state_at net n) ≡ remainder net (state_at net (suc n)) + events net n (state_at net n))
      (start : remainder net (state_at net 0) ≡ budget net)
      (progress : (n : ℕ) → is_pending net n (state_at net n) ≡ true → 0 < events net n (state_at net n)) where
    within-budget : (n : ℕ) → remainder net (state_at net n) ≤ budget net
    within-budget zero = omega (arith, start)
    within-budget (suc n) = let l = law n in let r = within-budget n in omega arith

    -- a cycle that is not pending comes before the remainder is spent
    done-by : (m n : ℕ) → remainder net (state_at net n) ≤ m → (k : ℕ) × (n ≤ k) × (k ≤ n + m) × (is_pending net k (state_at net k) ≡ false)
    done-by zero n l = at (is_pending net n (state_at net n)) refl
      where
        at : (b : Bool) → is_pending net n (state_at net n) ≡ b → (k : ℕ) × (n ≤ k) × (k ≤ n + 0) × (is_pending net k (state_at net k) ≡ false)
        at false e = (n, omega arith, omega arith, e)
        at true e = let w = law n in let v = progress n e in absurd (omega arith)
    done-by (suc m) n l = at (is_pending net n (state_at net n)) refl (done-by m (suc n))
      where
        at : (b : Bool) → is_pending net n (state_at net n) ≡ b → (remainder net (state_at net (suc n)) ≤ m → (k : ℕ) × (suc n ≤ k) × (k ≤ suc n + m) × (is_pending net k (state_at net k) ≡ false))
            → (k : ℕ) × (n ≤ k) × (k ≤ n + suc m) × (is_pending net k (state_at net k) ≡ false)
        at false e rest = (n, omega arith, omega arith, e)
        at true e rest = let w = law n in let v = progress n e in let r = rest (omega arith) in (r.0, omega (arith, r.1), omega (arith, r.2), r.3)

    -- where the last due cycle is not pending, each tail is out
    all-out : (n : ℕ) → last ≤ n → is_pending net n (state_at net n) ≡ false → (p : ℕ) → p < length net.packets → (m : ℕ) × (tail_place net (state_at net n) p ≡ Out m)
    all-out n l idle p lp = at (tail_place net (state_at net n) p) refl
      where
        waits : is_none (out_cycle (tail_place net (state_at net n) p)) ≡ true → ⊥
        waits e =
            let d = due p lp in
            true≢false (sym (list_any-from (λ p. nat_le (packet_at net p).due n && is_none (out_cycle (tail_place net (state_at net n) p))) (below (length net.packets)) p (below-has p (length net.packets) lp)
            (and_from _ _ (le-leb (packet_at net p).due n (omega arith)) e)) ∙ idle)

        at : (q : Place) → tail_place net (state_at net n) p ≡ q → (m : ℕ) × (tail_place net (state_at net n) p ≡ Out m)
        at Source e = absurd (waits (ap (λ q. is_none (out_cycle q)) e))
        at (On c) e = absurd (waits (ap (λ q. is_none (out_cycle q)) e))
        at (In c) e = absurd (waits (ap (λ q. is_none (out_cycle q)) e))
        at (Out m) e = (m, e)

    tail-past : (n p m : ℕ) → tail_place net (state_at net n) p ≡ Out m → m < n
    unfolding IsPast
    tail-past n p m e = at (find (λ (f : Located). nat_eq p f.packet && nat_eq ((packet_at net p).length - 1) f.index) (state_at net n).at) refl
      where
        at : (o : Option Located) → find (λ (f : Located). nat_eq p f.packet && nat_eq ((packet_at net p).length - 1) f.index) (state_at net n).at ≡ o → m < n
        at None k = let z : Source ≡ Out m = sym (ap (λ (o : Option Located). unwrap_or (option_map (λ (f : Located). f.place) o) Source) k) ∙ e in absurd (cc z)
        at (Some f) k =
            let h = find-has (λ (f : Located). nat_eq p f.packet && nat_eq ((packet_at net p).length - 1) f.index) (state_at net n).at f k in
            past-state n f m h.0 (sym (ap (λ (o : Option Located). unwrap_or (option_map (λ (f : Located). f.place) o) Source) k) ∙ e)

    -- from the last due time and the budget on every arrival is there, and came before
    pub arrives-by : (n : ℕ) → last + budget net ≤ n → (p : ℕ) → p < length net.packets → (m : ℕ) × (arrival_in net (state_at net n) p ≡ Some m) × (m < last + budget net)
    arrives-by n l p lp =
        let d = done-by (budget net) last (within-budget last) in
        let o = all-out d.0 d.1 d.3 p lp in
        let past = tail-past d.0 p o.0 o.1 in
        let less : d.0 ≤ last + budget net = d.2 in
        let stays = tail-stays-out (n - d.0) d.0 p o.0 o.1 n (omega arith) in
        (o.0, ap (out_cycle) stays, omega arith)

    pub idle-by : (n : ℕ) → last + budget net ≤ n → is_pending net n (state_at net n) ≡ false
    idle-by n l = false_from_ne_true (is_pending net n (state_at net n)) (λ e.
        let a = list_any-has (λ p. nat_le (packet_at net p).due n && is_none (out_cycle (tail_place net (state_at net n) p))) (below (length net.packets)) e in
        let r = arrives-by n l a.0 (Has-below a.0 (length net.packets) a.1) in
        let w = and_parts (nat_le (packet_at net a.0).due n) (is_none (out_cycle (tail_place net (state_at net n) a.0))) a.2 in
        true≢false (sym w.1 ∙ ap (λ (o : Option ℕ). is_none o) r.1))
