-- Phase three of a state.
use Rattle.std.proofs.Common.{◌≡◌, ◌≢◌, ℕ, zero, suc, ◌+◌, ◌<◌, Bool, true, false, cond, List, [], ◌∷◌, length, Option, Some, None, refl, ap, sym, ◌∙◌, inl, inr, subst, arith}
use Rattle.std.specs.Prelude.{filter, find, option_map, nat_eq, nat_lt, nat_le, ◌&&◌}
use Rattle.noc_theory.proofs.Common.{range_with_len, list_any, false≢true, eqb-true, eq-eqb, ne_eqb, and_parts, and_from, and_right, none-some, same_Some, below, least_by, lesser_by, Has, Pairs, nodes, Channel, Link, Inject, Eject, Setup, Injection, State, Located, Place, Source, In, packet_at, place_of_flit, owner_of, owned_by, is_idle, flits_of, is_at_source, first_waiting, is_injection_of, beginning, injection_with, injection_at, injections, first_at_source, is_the_flit, injected_place, after_injection, count_in, is_none-none, IsValid}
use Rattle.noc_theory.proofs.worms.BuiltRecordLemmas.{IsBuilt}
use Rattle.noc_theory.proofs.worms.OptionLemmas.{and_then-some, cond-some}
use Rattle.noc_theory.proofs.worms.BufferLemmas.{find-passes}
use Rattle.noc_theory.proofs.worms.MemberLemmas.{Has-filter, Has-filter_map, find-has, find-fails, find-some, list_any-has, Pairs-filter_map, each-from}
use Rattle.noc_theory.proofs.worms.OwnedLemmas.{of, of-has, has-of, idle-none}
use Rattle.noc_theory.proofs.worms.GrantLemmas.{Has-range, Has-below}
use Rattle.noc_theory.proofs.worms.StateWordLemmas.{IsKeyed, last_of}
use Rattle.noc_theory.proofs.worms.PlaceLemmas.{place-of-flit, flit-there, place-stepped, find-first, keyed-stepped, at_source-is}
use Rattle.noc_theory.proofs.worms.WormRecordLemmas.{IsWorm, valid-last}
use Rattle.noc_theory.proofs.worms.InjectionPhaseLemmas.{IsApart, IsEntry, IsEnteredBy, IsInjected, source-behind, worm-injected}

pub range-apart : (a n : ℕ) → Pairs (λ (x y : ℕ). x ≢ y) (range_with_len a n)
range-apart a zero = tt
range-apart a (suc n) = (each-from (λ y. a ≢ y) (range_with_len (a + 1) n) (λ y h e. let r = Has-range y (a + 1) n h in absurd (omega arith)), range-apart (a + 1) n)

pub below-apart : (n : ℕ) → Pairs (λ (x y : ℕ). x ≢ y) (below n)
unfolding below
below-apart n = range-apart 0 n

pub least_by-has : {X : Type 0} (key : X → ℕ) (xs : List X) (x : X) → least_by key xs ≡ Some x → Has x xs
unfolding least_by
least_by-has key [] x e = absurd (none-some x e)
least_by-has {X = X} key (y ∷ ys) x e = at (least_by key ys) (same_Some _ _ e) (least_by-has key ys)
  where
    at : (o : Option X) → lesser_by key y o ≡ x → ((z : X) → o ≡ Some z → Has z ys) → Has x (y ∷ ys)
    at None s rest = inl (sym s)
    at (Some z) s rest = pick (nat_le (key y) (key z)) s
      where
        pick : (b : Bool) → cond b y z ≡ x → Has x (y ∷ ys)
        pick true t = inl (sym t)
        pick false t = inr (rest x (ap Some t))

module _ (net : Setup) (built : IsBuilt net) (S : State) (keyed : IsKeyed net S.at) (w : IsWorm net S.own (place_of_flit net S)) (n : ℕ) where
  pub injection_of-is : (node : ℕ) (c : Channel) → is_injection_of net node c ≡ true → (v : ℕ) × (c ≡ Inject node v)
  injection_of-is node (Link r a v) e = absurd (false≢true e)
  injection_of-is node (Inject m v) e = (v, ap (λ x. Inject x v) (eqb-true m node e))
  injection_of-is node (Eject m v) e = absurd (false≢true e)

  -- what waits first at a node is a packet of it with its tail at its source
  pub waiting-is : (node q : ℕ) → first_waiting net S node ≡ Some q
      → (q < length net.packets) × (node ≡ (packet_at net q).source) × (place_of_flit net S q (last_of net q) ≡ Source)
  waiting-is node q e =
      let test : ℕ → Bool = λ p. nat_eq (packet_at net p).source node && list_any (λ (f : Located). is_at_source f.place) (flits_of net S p) in
      let h = least_by-has (λ p. (packet_at net p).due) (filter test (below (length net.packets))) q e in
      let f = Has-filter test q (below (length net.packets)) h in
      let r = Has-below q (length net.packets) f.0 in
      let parts = and_parts (nat_eq (packet_at net q).source node) (list_any (λ (g : Located). is_at_source g.place) (flits_of net S q)) f.1 in
      let some = list_any-has (λ (g : Located). is_at_source g.place) (flits_of net S q) parts.1 in
      let g : Located = some.0 in
      let member = Has-filter (λ (x : Located). nat_eq q x.packet) g S.at some.1 in
      let of_q : q ≡ g.packet = eqb-true q g.packet member.1 in
      let low : q < length net.packets = omega arith in
      let gv : IsValid net q g.index = subst (λ (x : ℕ). IsValid net x g.index) (sym of_q) (keyed.valid g member.0) in
      let at_g : place_of_flit net S q g.index ≡ Source = ap (λ x. place_of_flit net S x g.index) of_q ∙ place-of-flit net S keyed g member.0 ∙ at_source-is g.place some.2 in
      let gl = gv.1 in
      (low, sym (eqb-true _ _ parts.0), source-behind net built S.own (place_of_flit net S) w q g.index (last_of net q) (valid-last net built q low) (omega arith) at_g)

  entry-begins : (node q : ℕ) (one : Injection net) → (q < length net.packets) × (node ≡ (packet_at net q).source) × (place_of_flit net S q (last_of net q) ≡ Source)
      → find (is_injection_of net node) (owned_by net S q) ≡ None → beginning net S n node q ≡ Some one → IsEntry net built S.own (place_of_flit net S) w node one
  entry-begins node q one wt none e =
      let b = cond-some (nat_le (packet_at net q).due n) (option_map (λ v. (record { packet = q; channel = Inject node v; begins = true })) (find (λ v. is_idle net S (Inject node v)) (below net.relation.vcs))) one e in
      found (find (λ v. is_idle net S (Inject node v)) (below net.relation.vcs)) refl b.1
    where
      owns-none : (c : Channel) → Has (c, q) S.own → ⊥
      owns-none c h =
          let r = w.holds q wt.0 (w.begun c q h) wt.2 in
          let m : Has (Inject node r.0) (of q S.own) = has-of (Inject node r.0) q S.own (subst (λ (x : ℕ). Has (Inject x r.0, q) S.own) (sym wt.1) r.1) in
          false≢true (sym (find-fails (is_injection_of net node) (owned_by net S q) (Inject node r.0) none m) ∙ eq-eqb node node refl)

      found : (o : Option ℕ) → find (λ v. is_idle net S (Inject node v)) (below net.relation.vcs) ≡ o → option_map (λ v. (record { packet = q; channel = Inject node v; begins = true })) o ≡ Some one → IsEntry net built S.own (place_of_flit net S) w node one
      found None f g = absurd (none-some one g)
      found (Some v) f g =
          let s : record { packet = q; channel = Inject node v; begins = true } ≡ one = same_Some (record { packet = q; channel = Inject node v; begins = true }) one g in
          let idle = is_none-none (owner_of net S (Inject node v)) (find-passes (λ x. is_idle net S (Inject node x)) (below net.relation.vcs) v f) in
          subst (λ (x : Injection net). IsEntry net built S.own (place_of_flit net S) w node x) s
          (record {
            low = wt.0;
            from = wt.1;
            vc = v;
            channel = refl;
            waits = wt.2;
            goes = inr (refl, (λ p h. idle-none net S (Inject node v) p idle h), owns-none);
          })

  pub entry-of : (node : ℕ) (one : Injection net) → injection_at net S n node ≡ Some one → IsEntry net built S.own (place_of_flit net S) w node one
  entry-of node one e =
      let r = and_then-some (λ q. injection_with net S n node q (find (is_injection_of net node) (owned_by net S q))) (first_waiting net S node) one e in
      at r.0 (waiting-is node r.0 r.1) (find (is_injection_of net node) (owned_by net S r.0)) refl r.2
    where
      at : (q : ℕ) → (q < length net.packets) × (node ≡ (packet_at net q).source) × (place_of_flit net S q (last_of net q) ≡ Source) → (o : Option Channel)
          → find (is_injection_of net node) (owned_by net S q) ≡ o → injection_with net S n node q o ≡ Some one → IsEntry net built S.own (place_of_flit net S) w node one
      at q wt None f g = entry-begins node q one wt f g
      at q wt (Some j) f g =
          let b = cond-some (nat_lt (count_in net S j) net.depth) (Some (record { packet = q; channel = j; begins = false })) one g in
          let s : record { packet = q; channel = j; begins = false } ≡ one = same_Some (record { packet = q; channel = j; begins = false }) one b.1 in
          let is = injection_of-is node j (find-passes (is_injection_of net node) (owned_by net S q) j f) in
          let own : Has (j, q) S.own = of-has j q S.own (find-has (is_injection_of net node) (owned_by net S q) j f) in
          subst (λ (x : Injection net). IsEntry net built S.own (place_of_flit net S) w node x) s
          (record {
            low = wt.0;
            from = wt.1;
            vc = is.0;
            channel = is.1;
            waits = wt.2;
            goes = inl (refl, own);
          })

  abbrev pub all_entries : List (Injection net)
  all_entries = injections net S n

  pub entries-are : (one : Injection net) → Has one all_entries → (node : ℕ) × IsEntry net built S.own (place_of_flit net S) w node one
  entries-are one h = let r = Has-filter_map (injection_at net S n) one (below (nodes net.relation.grid)) h in (r.0, entry-of r.0 one r.2)

  pub entries-apart : Pairs (IsApart net) all_entries
  entries-apart =
      Pairs-filter_map (IsApart net) (λ (x y : ℕ). x ≢ y) (injection_at net S n)
      (λ a b x y e f s.
      let ex = entry-of a x e in
      let ey = entry-of b y f in (
        (λ g. s (ex.from ∙ ap (λ z. (packet_at net z).source) g ∙ sym ey.from)),
        (λ g. let h : Inject a ex.vc ≡ Inject b ey.vc = sym ex.channel ∙ g ∙ ey.channel in let k : a ≡ b = cc in s k),
      ))
      (below (nodes net.relation.grid)) (below-apart (nodes net.relation.grid))

  abbrev step_to : Located → Place
  step_to f = injected_place net S f (find (λ (one : Injection net). nat_eq one.packet f.packet) all_entries)

  abbrev pub T : State
  T = after_injection net n S

  pub entries-move : (p : ℕ) → p < length net.packets → IsInjected net built S.own (place_of_flit net S) w all_entries entries-are entries-apart (place_of_flit net T) p
  unfolding after_injection
  entries-move p low = at (find (λ (one : Injection net). nat_eq one.packet p) all_entries) refl
    where
      goes : (i : ℕ) → IsValid net p i → place_of_flit net T p i ≡ injected_place net S (record { packet = p; index = i; place = place_of_flit net S p i }) (find (λ (one : Injection net). nat_eq one.packet p) all_entries)
      goes i v = place-stepped net step_to S T keyed refl p i v

      test : Located → Bool
      test f = nat_eq p f.packet && is_at_source f.place

      with_flit : (one : Injection net) → find (λ (x : Injection net). nat_eq x.packet p) all_entries ≡ Some one → (g : Located) → first_at_source net S p ≡ Some g
          → IsEnteredBy net built S.own (place_of_flit net S) w all_entries entries-are entries-apart (place_of_flit net T) p one
      with_flit one e g f =
          let member : Has g S.at = find-has test S.at g f in
          let parts = and_parts (nat_eq p g.packet) (is_at_source g.place) (find-passes test S.at g f) in
          let of_p : p ≡ g.packet = eqb-true p g.packet parts.0 in
          let gv : IsValid net p g.index = subst (λ (x : ℕ). IsValid net x g.index) (sym of_p) (keyed.valid g member) in
          let at_g : place_of_flit net S p g.index ≡ Source = ap (λ x. place_of_flit net S x g.index) of_p ∙ place-of-flit net S keyed g member ∙ at_source-is g.place parts.1 in
          record {
            flit = g.index;
            valid = gv;
            was = at_g;
            first = λ i l z.
                let gi = gv.1 in
                let vi : IsValid net p i = (low, omega arith) in
                let m = flit-there net S keyed p i vi in
                let t : test (record { packet = p; index = i; place = place_of_flit net S p i }) ≡ true = and_from _ _ (eq-eqb p p refl) (ap is_at_source z) in
                let u = find-first test S.at (record { packet = p; index = i; place = place_of_flit net S p i }) g keyed.sorted f m t (sym of_p) in
                omega arith;
            now =
                goes g.index gv
                ∙ ap (injected_place net S (record { packet = p; index = g.index; place = place_of_flit net S p g.index })) e
                ∙ (let hit : (is_at_source (place_of_flit net S p g.index) && is_the_flit net (record { packet = p; index = g.index; place = place_of_flit net S p g.index }) (first_at_source net S p)) ≡ true
                = and_from _ _ (ap is_at_source at_g) (ap (is_the_flit net (record { packet = p; index = g.index; place = place_of_flit net S p g.index })) f ∙ and_from _ _ parts.0 (eq-eqb g.index g.index refl)) in
                ap (λ (b : Bool). cond b (In one.channel) (place_of_flit net S p g.index)) hit);
            others = λ i v s.
                goes i v
                ∙ ap (injected_place net S (record { packet = p; index = i; place = place_of_flit net S p i })) e
                ∙ (let miss : (is_at_source (place_of_flit net S p i) && is_the_flit net (record { packet = p; index = i; place = place_of_flit net S p i }) (first_at_source net S p)) ≡ false
                = and_right _ _ (ap (is_the_flit net (record { packet = p; index = i; place = place_of_flit net S p i })) f ∙ and_right _ _ (ne_eqb i g.index s)) in
                ap (λ (b : Bool). cond b (In one.channel) (place_of_flit net S p i)) miss);
          }

      at : (o : Option (Injection net)) → find (λ (one : Injection net). nat_eq one.packet p) all_entries ≡ o
          → IsInjected net built S.own (place_of_flit net S) w all_entries entries-are entries-apart (place_of_flit net T) p
      at None e = inl (
        (λ i v. goes i v ∙ ap (injected_place net S (record { packet = p; index = i; place = place_of_flit net S p i })) e),
        (λ one h s. false≢true (sym (find-fails (λ (x : Injection net). nat_eq x.packet p) all_entries one e h) ∙ eq-eqb one.packet p s)),
      )
      at (Some one) e =
          let h : Has one all_entries = find-has (λ (x : Injection net). nat_eq x.packet p) all_entries one e in
          let is_p : one.packet ≡ p = eqb-true one.packet p (find-passes (λ (x : Injection net). nat_eq x.packet p) all_entries one e) in
          let waits : place_of_flit net S p (last_of net p) ≡ Source = ap (λ x. place_of_flit net S x (last_of net x)) (sym is_p) ∙ (entries-are one h).1.waits in
          let m = flit-there net S keyed p (last_of net p) (valid-last net built p low) in
          let some = find-some test S.at (record { packet = p; index = last_of net p; place = place_of_flit net S p (last_of net p) }) m (and_from _ _ (eq-eqb p p refl) (ap is_at_source waits)) in
          inr (one, h, is_p, with_flit one e some.0 some.1)

  pub worm-after_injection : IsWorm net T.own (place_of_flit net T)
  unfolding after_injection
  worm-after_injection = worm-injected net built S.own (place_of_flit net S) w all_entries entries-are entries-apart (place_of_flit net T) entries-move

  pub keyed-after_injection : IsKeyed net T.at
  unfolding after_injection
  keyed-after_injection = keyed-stepped net step_to S.at keyed
