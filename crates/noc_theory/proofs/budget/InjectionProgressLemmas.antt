-- The remainder falls by one for each flit that leaves its source.
use Rattle.std.proofs.Common.{◌≡◌, ◌≢◌, ℕ, zero, suc, ◌+◌, ◌*◌, ◌<◌, ◌≤◌, Bool, true, false, cond, List, [], ◌∷◌, ◌++◌, map, length, Option, Some, None, refl, ap, sym, ◌∙◌, arith, inl, inr, subst}
use Rattle.std.specs.Prelude.{filter, find, nat_eq, nat_lt, nat_le, ◌&&◌, sum_by, count_by, is_some, option_map, option_and_then, unwrap_or, filter_map}
use Rattle.noc_theory.proofs.Common.{AllByRecursion, list_any, range_with_len, false≢true, eqb-true, eq-eqb, and_parts, and_right, and_from, sum_by-cons, In, Injection, Located, On, Out, Place, Setup, Source, State, after_injection, count_in, end_distance, first_at_source, first_waiting, flits_of, has_channel, injected_place, injection_at, injection_with, injections, is_at_source, is_idle, is_injection_of, is_the_flit, leads_from, next_channel, owned_by, owner_of, packet_at, head_place, hops, remainder, allocations_left, Channel, Eject, Inject, Link, same_channel, distance, nodes, Has, below, one_if}
use Rattle.noc_theory.proofs.runs.PostLemmas.{some_of_map}
use Rattle.noc_theory.proofs.worms.BufferLemmas.{same_flit, IsDistinct}
use Rattle.noc_theory.proofs.worms.OptionLemmas.{and_then-some}
use Rattle.noc_theory.proofs.worms.MemberLemmas.{Has-filter, Has-filter_map, find-some, list_any-has}
use Rattle.noc_theory.proofs.worms.GrantLemmas.{Has-below}
use Rattle.noc_theory.proofs.worms.InjectionStateLemmas.{least_by-has}
use Rattle.noc_theory.proofs.budget.HasLemmas.{find-has, map-has}
use Rattle.noc_theory.proofs.budget.SumLemmas.{sum_by-sum_by}
use Rattle.noc_theory.proofs.budget.RemainderLemmas.{IsToInject, injection_of, leaves, injection-falls}
use Rattle.noc_theory.proofs.budget.RemainderPhaseLemmas.{sum_by-each, find-map}

-- numbers that are all different
abbrev pub AllApart : {X : Type 0} → (X → ℕ) → List X → Type 0
AllApart key [] = Unit {0}
AllApart {X = X} key (x ∷ xs) = ((y : X) → Has y xs → key y ≢ key x) × AllApart key xs

-- where the keys are all different, a key is counted as often as it is found
count-found : {X : Type 0} (key : X → ℕ) (b : Bool) (k : ℕ) (xs : List X) → AllApart key xs
    → sum_by (λ x. cond (nat_eq (key x) k && b) 1 0) xs ≡ cond (is_some (find (λ x. nat_eq (key x) k) xs) && b) 1 0
count-found key b k [] apart = refl
count-found {X = X} key b k (x ∷ xs) apart = at (nat_eq (key x) k) refl (count-found key b k xs apart.1)
  where
    none : nat_eq (key x) k ≡ true → find (λ y. nat_eq (key y) k) xs ≡ None
    none e = two (find (λ y. nat_eq (key y) k) xs) refl
      where
        two : (o : Option X) → find (λ y. nat_eq (key y) k) xs ≡ o → o ≡ None
        two None g = refl
        two (Some y) g =
            let h = find-has (λ z. nat_eq (key z) k) xs y g in
            absurd (apart.0 y h.0 (eqb-true (key y) k h.1 ∙ sym (eqb-true (key x) k e)))

    at : (d : Bool) → nat_eq (key x) k ≡ d → sum_by (λ y. cond (nat_eq (key y) k && b) 1 0) xs ≡ cond (is_some (find (λ y. nat_eq (key y) k) xs) && b) 1 0
        → sum_by (λ y. cond (nat_eq (key y) k && b) 1 0) (x ∷ xs) ≡ cond (is_some (find (λ y. nat_eq (key y) k) (x ∷ xs)) && b) 1 0
    at true e rest =
        let c = sum_by-cons (λ y. cond (nat_eq (key y) k && b) 1 0) x xs in
        let z : cond (is_some (find (λ y. nat_eq (key y) k) xs) && b) 1 0 ≡ 0 = ap (λ (o : Option X). cond (is_some o && b) 1 0) (none e) in
        let here : cond (nat_eq (key x) k && b) 1 0 ≡ cond b 1 0 = ap (λ d. cond (d && b) 1 0) e in
        let there : cond (is_some (find (λ y. nat_eq (key y) k) (x ∷ xs)) && b) 1 0 ≡ cond b 1 0 = ap (λ d. cond (is_some (cond d (Some x) (find (λ y. nat_eq (key y) k) xs)) && b) 1 0) e in
        c ∙ ap (λ m. m + sum_by (λ y. cond (nat_eq (key y) k && b) 1 0) xs) here ∙ ap (λ m. cond b 1 0 + m) (rest ∙ z) ∙ plus-zero (cond b 1 0) ∙ sym there
      where
        plus-zero : (m : ℕ) → m + 0 ≡ m
        plus-zero m = omega arith
    at false e rest =
        let c = sum_by-cons (λ y. cond (nat_eq (key y) k && b) 1 0) x xs in
        let here : cond (nat_eq (key x) k && b) 1 0 ≡ 0 = ap (λ d. cond (d && b) 1 0) e in
        let there : cond (is_some (find (λ y. nat_eq (key y) k) (x ∷ xs)) && b) 1 0 ≡ cond (is_some (find (λ y. nat_eq (key y) k) xs) && b) 1 0 = ap (λ d. cond (is_some (cond d (Some x) (find (λ y. nat_eq (key y) k) xs)) && b) 1 0) e in
        c ∙ ap (λ m. m + sum_by (λ y. cond (nat_eq (key y) k && b) 1 0) xs) here ∙ zero-plus (sum_by (λ y. cond (nat_eq (key y) k && b) 1 0) xs) ∙ rest ∙ sym there
      where
        zero-plus : (m : ℕ) → 0 + m ≡ m
        zero-plus m = omega arith

module _ (net : Setup) (n : ℕ) (S : State) where
  -- what is injected is the first packet of its node, and goes to an injection channel there
  pub injection-is : (node : ℕ) (one : Injection net) → injection_at net S n node ≡ Some one
      → (first_waiting net S node ≡ Some one.packet) × (v : ℕ) × (one.channel ≡ Inject node v)
  injection-is node one e =
      let a = and_then-some (λ q. injection_with net S n node q (find (is_injection_of net node) (owned_by net S q))) (first_waiting net S node) one e in
      at a.0 a.1 (find (is_injection_of net node) (owned_by net S a.0)) refl a.2
    where
      begins : (q : ℕ) → first_waiting net S node ≡ Some q → (o : Option ℕ) → option_map (λ v. (record { packet = q; channel = Inject node v; begins = true })) o ≡ Some one
          → (first_waiting net S node ≡ Some one.packet) × (v : ℕ) × (one.channel ≡ Inject node v)
      begins q first None g = absurd (cc g)
      begins q first (Some v) g =
          let same : ◌≡◌ {A = Injection net} (record { packet = q; channel = Inject node v; begins = true }) one = cc in
          (first ∙ ap (λ (x : Injection net). Some x.packet) same, v, sym (ap (λ (x : Injection net). x.channel) same))

      early : (q : ℕ) → first_waiting net S node ≡ Some q → (b : Bool) → cond b (option_map (λ v. (record { packet = q; channel = Inject node v; begins = true })) (find (λ v. is_idle net S (Inject node v)) (below net.relation.vcs))) None ≡ Some one
          → (first_waiting net S node ≡ Some one.packet) × (v : ℕ) × (one.channel ≡ Inject node v)
      early q first true g = begins q first (find (λ v. is_idle net S (Inject node v)) (below net.relation.vcs)) g
      early q first false g = absurd (cc g)

      goes : (q : ℕ) → first_waiting net S node ≡ Some q → (j : Channel) → is_injection_of net node j ≡ true → (b : Bool) → ◌≡◌ {A = Option (Injection net)} (cond b (Some (record { packet = q; channel = j; begins = false })) None) (Some one)
          → (first_waiting net S node ≡ Some one.packet) × (v : ℕ) × (one.channel ≡ Inject node v)
      goes q first j there false g = absurd (cc g)
      goes q first (Link r p v) there true g = absurd (false≢true there)
      goes q first (Eject r v) there true g = absurd (false≢true there)
      goes q first (Inject m v) there true g =
          let same : ◌≡◌ {A = Injection net} (record { packet = q; channel = Inject m v; begins = false }) one = cc in
          (first ∙ ap (λ (x : Injection net). Some x.packet) same, v, sym (ap (λ (x : Injection net). x.channel) same) ∙ ap (λ x. Inject x v) (eqb-true m node there))

      at : (q : ℕ) → first_waiting net S node ≡ Some q → (j : Option Channel) → find (is_injection_of net node) (owned_by net S q) ≡ j → injection_with net S n node q (find (is_injection_of net node) (owned_by net S q)) ≡ Some one
          → (first_waiting net S node ≡ Some one.packet) × (v : ℕ) × (one.channel ≡ Inject node v)
      at q first None k g = early q first (nat_le (packet_at net q).due n) (sym (ap (injection_with net S n node q) k) ∙ g)
      at q first (Some j) k g =
          goes q first j (find-has (is_injection_of net node) (owned_by net S q) j k).1 (nat_lt (count_in net S j) net.depth) (sym (ap (injection_with net S n node q) k) ∙ g)

  -- a first packet is one of its node, with a flit at its source
  pub first-is : (node q : ℕ) → first_waiting net S node ≡ Some q
      → (q < length net.packets) × ((packet_at net q).source ≡ node) × (f : Located) × Has f S.at × (f.packet ≡ q) × (is_at_source f.place ≡ true)
  first-is node q e =
      let h = least_by-has (λ p. (packet_at net p).due) (filter (λ p. nat_eq (packet_at net p).source node && list_any (λ (f : Located). is_at_source f.place) (flits_of net S p)) (below (length net.packets))) q e in
      let k = Has-filter (λ p. nat_eq (packet_at net p).source node && list_any (λ (f : Located). is_at_source f.place) (flits_of net S p)) q (below (length net.packets)) h in
      let parts = and_parts (nat_eq (packet_at net q).source node) (list_any (λ (f : Located). is_at_source f.place) (flits_of net S q)) k.1 in
      let a = list_any-has (λ (f : Located). is_at_source f.place) (flits_of net S q) parts.1 in
      let m = Has-filter (λ (f : Located). nat_eq q f.packet) a.0 S.at a.1 in
      (Has-below q (length net.packets) k.0, eqb-true (packet_at net q).source node parts.0, a.0, m.0, sym (eqb-true q a.0.packet m.1), a.2)

  -- each injection is of a node
  pub injections-is : (one : Injection net) → Has one (injections net S n) → (node : ℕ) × (first_waiting net S node ≡ Some one.packet) × (v : ℕ) × (one.channel ≡ Inject node v)
  injections-is one h =
      let m = Has-filter_map (injection_at net S n) one (below (nodes net.relation.grid)) h in
      let i = injection-is m.0 one m.2 in
      (m.0, i.0, i.1, i.2)

  pub to-inject : (f : Located) → IsToInject net n S (injection_of net n S f)
  to-inject f = at (injection_of net n S f) refl
    where
      at : (o : Option (Injection net)) → injection_of net n S f ≡ o → IsToInject net n S o
      at None e = tt
      at (Some one) e =
          let h = find-has (λ (one : Injection net). nat_eq one.packet f.packet) (injections net S n) one e in
          let i = injections-is one h.0 in
          (i.0, i.2, i.3)

  -- no two injections are of one packet
  injected-apart : (a k : ℕ) → AllApart (λ (one : Injection net). one.packet) (filter_map (injection_at net S n) (range_with_len a k))
  injected-apart a zero = tt
  injected-apart a (suc k) = at (injection_at net S n a) refl (injected-apart (a + 1) k)
    where
      at : (o : Option (Injection net)) → injection_at net S n a ≡ o → AllApart (λ (one : Injection net). one.packet) (filter_map (injection_at net S n) (range_with_len (a + 1) k))
          → AllApart (λ (one : Injection net). one.packet) (filter_map (injection_at net S n) (range_with_len a (suc k)))
      at None e rest = rw e rest
      at (Some one) e rest = rw e (other, rest)
        where
          other : (y : Injection net) → Has y (filter_map (injection_at net S n) (range_with_len (a + 1) k)) → y.packet ≢ one.packet
          other y h same =
              let m = Has-filter_map (injection_at net S n) y (range_with_len (a + 1) k) h in
              let i = injection-is m.0 y m.2 in
              let j = injection-is a one e in
              let s1 = (first-is m.0 y.packet i.0).1 in
              let s2 = (first-is a one.packet j.0).1 in
              let s3 : (packet_at net y.packet).source ≡ (packet_at net one.packet).source = ap (λ q. (packet_at net q).source) same in
              let l = from (range_with_len (a + 1) k) (a + 1) (λ z w. low z (a + 1) k w) m.0 m.1 in omega arith
            where
              low : (z b c : ℕ) → Has z (range_with_len b c) → b ≤ z
              low z b zero w = absurd w
              low z b (suc c) (inl s) = omega arith
              low z b (suc c) (inr w) = let r = low z (b + 1) c w in omega arith

              from : (zs : List ℕ) (b : ℕ) → ((z : ℕ) → Has z zs → b ≤ z) → (z : ℕ) → Has z zs → b ≤ z
              from zs b g z w = g z w

-- ---- how many leave

pub all-has : {X : Type 0} (P : X → Type 0) (xs : List X) (x : X) → AllByRecursion P xs → Has x xs → P x
all-has P [] x all h = absurd h
all-has P (y ∷ ys) x all (inl s) = subst P (sym s) all.0
all-has P (y ∷ ys) x all (inr h) = all-has P ys x all.1 h

pub sum-none : {X : Type 0} (w : X → ℕ) (xs : List X) → ((x : X) → Has x xs → w x ≡ 0) → sum_by w xs ≡ 0
sum-none w [] h = refl
sum-none w (x ∷ xs) h = let c = sum_by-cons w x xs in let here = h x (inl refl) in let rest = sum-none w xs (λ y k. h y (inr k)) in omega arith

sum-ones : {X : Type 0} (w : X → ℕ) (xs : List X) → ((x : X) → Has x xs → w x ≡ 1) → sum_by w xs ≡ length xs
sum-ones w [] h = refl
sum-ones w (x ∷ xs) h = let c = sum_by-cons w x xs in let here = h x (inl refl) in let rest = sum-ones w xs (λ y k. h y (inr k)) in omega arith

abbrev pub IsApart : {X : Type 0} → (X → X → Bool) → List X → Type 0
IsApart same [] = Unit {0}
IsApart same (x ∷ xs) = AllByRecursion (λ y. same y x ≡ false) xs × IsApart same xs

pub distinct-apart : (same : Located → Located → Bool) (fs : List Located) → IsDistinct same fs → IsApart same fs
distinct-apart same [] d = d
distinct-apart same (f ∷ fs) d = (d.0, distinct-apart same fs d.1)

-- the first hit is counted once, where no two are the same
count-first : {X : Type 0} (u : X → Bool) (same : X → X → Bool) (g : X) → same g g ≡ true → (xs : List X) → find u xs ≡ Some g
    → IsApart same xs
    → sum_by (λ x. cond (u x && same x g) 1 0) xs ≡ 1
count-first u same g self [] e apart = absurd (cc e)
count-first u same g self (x ∷ xs) e apart = at (u x) refl (λ k. count-first u same g self xs k apart.1)
  where
    at : (b : Bool) → u x ≡ b → (find u xs ≡ Some g → sum_by (λ y. cond (u y && same y g) 1 0) xs ≡ 1) → sum_by (λ y. cond (u y && same y g) 1 0) (x ∷ xs) ≡ 1
    at true k rest =
        let s : Some x ≡ Some g = sym (rw k) ∙ e in
        let xg : x ≡ g = cc in
        let here : cond (u x && same x g) 1 0 ≡ 1 = ap (λ b. cond (b && same x g) 1 0) k ∙ ap (λ y. cond (same y g) 1 0) xg ∙ ap (λ b. cond b 1 0) self in
        let others : sum_by (λ y. cond (u y && same y g) 1 0) xs ≡ 0
        = sum-none (λ y. cond (u y && same y g) 1 0) xs (λ y h. let no : same y g ≡ false = subst (λ z. same y z ≡ false) xg (all-has (λ z. same z x ≡ false) xs y apart.0 h) in ap (λ b. cond b 1 0) (and_right (u y) (same y g) no)) in
        let c = sum_by-cons (λ y. cond (u y && same y g) 1 0) x xs in
        c ∙ ap (λ m. m + sum_by (λ y. cond (u y && same y g) 1 0) xs) here ∙ ap (λ m. 1 + m) others
    at false k rest =
        let here : cond (u x && same x g) 1 0 ≡ 0 = ap (λ b. cond (b && same x g) 1 0) k in
        let c = sum_by-cons (λ y. cond (u y && same y g) 1 0) x xs in
        c ∙ ap (λ m. m + sum_by (λ y. cond (u y && same y g) 1 0) xs) here ∙ zero-plus (sum_by (λ y. cond (u y && same y g) 1 0) xs) ∙ rest (sym (rw k) ∙ e)
      where
        zero-plus : (m : ℕ) → 0 + m ≡ m
        zero-plus m = omega arith

module _ (net : Setup) (n : ℕ) (S : State) (distinct : IsDistinct (same_flit) S.at) where
  matches : Located → Injection net → Bool
  matches f one = nat_eq one.packet f.packet && (is_at_source f.place && is_the_flit net f (first_at_source net S f.packet))

  -- each injection takes one flit
  one-leaves : (one : Injection net) → Has one (injections net S n) → sum_by (λ f. cond (matches f one) 1 0) S.at ≡ 1
  unfolding matches
  one-leaves one h =
      let i = injections-is net n S one h in
      let f = first-is net n S i.0 one.packet i.1 in
      let g = find-some (λ (f : Located). nat_eq one.packet f.packet && is_at_source f.place) S.at f.2 f.3 (and_from _ _ (eq-eqb one.packet f.2.packet (sym f.4)) f.5) in
      sum_by-each (λ f. cond (matches f one) 1 0) (λ f. cond ((nat_eq one.packet f.packet && is_at_source f.place) && same_flit f g.0) 1 0) S.at (λ f h. same-test g.0 g.1 f (nat_eq one.packet f.packet) refl)
      ∙ count-first (λ (f : Located). nat_eq one.packet f.packet && is_at_source f.place) (same_flit) g.0 (and_from _ _ (eq-eqb g.0.packet g.0.packet refl) (eq-eqb g.0.index g.0.index refl)) S.at g.1 (distinct-apart (same_flit) S.at distinct)
    where
      same-test : (g : Located) → find (λ (f : Located). nat_eq one.packet f.packet && is_at_source f.place) S.at ≡ Some g → (f : Located) → (b : Bool) → nat_eq one.packet f.packet ≡ b
          → one_if (matches f one) ≡ one_if ((nat_eq one.packet f.packet && is_at_source f.place) && same_flit f g)
      same-test g k f false e = ap (λ b. one_if (b && (is_at_source f.place && is_the_flit net f (first_at_source net S f.packet)))) e ∙ sym (ap (λ b. one_if ((b && is_at_source f.place) && same_flit f g)) e)
      same-test g k f true e =
          let q : one.packet ≡ f.packet = eqb-true one.packet f.packet e in
          let first : is_the_flit net f (first_at_source net S f.packet) ≡ same_flit f g = ap (λ x. is_the_flit net f (first_at_source net S x)) (sym q) ∙ ap (is_the_flit net f) k in
          ap (λ b. one_if (b && (is_at_source f.place && is_the_flit net f (first_at_source net S f.packet)))) e
          ∙ ap (λ b. one_if (is_at_source f.place && b)) first
          ∙ sym (ap (λ b. one_if ((b && is_at_source f.place) && same_flit f g)) e)

  -- as many flits leave as there are injections
  pub leaves-counted : count_by (leaves net n S) S.at ≡ length (injections net S n)
  unfolding matches below
  leaves-counted =
      sum_by-each (λ f. cond (leaves net n S f) 1 0) (λ f. sum_by (λ one. cond (matches f one) 1 0) (injections net S n)) S.at
      (λ f h. sym (count-found (λ (one : Injection net). one.packet) (is_at_source f.place && is_the_flit net f (first_at_source net S f.packet)) f.packet (injections net S n) (injected-apart net n S 0 (nodes net.relation.grid))))
      ∙ sum_by-sum_by (λ f one. cond (matches f one) 1 0) S.at (injections net S n)
      ∙ sum-ones (λ one. sum_by (λ f. cond (matches f one) 1 0) S.at) (injections net S n) one-leaves

-- ---- what is left of the heads' allocations

pub find-stays : {X : Type 0} (t : X → Bool) (xs ys : List X) (x : X) → find t xs ≡ Some x → find t (xs ++ ys) ≡ Some x
find-stays t [] ys x e = absurd (cc e)
find-stays t (z ∷ zs) ys x e = at (t z) refl (find-stays t zs ys x)
  where
    at : (b : Bool) → t z ≡ b → (find t zs ≡ Some x → find t (zs ++ ys) ≡ Some x) → cond (t z) (Some z) (find t (zs ++ ys)) ≡ Some x
    at true k rest = rw k (sym (rw k) ∙ e)
    at false k rest = rw k (rest (sym (rw k) ∙ e))

find-unadded : {X Y : Type 0} (t : Y → Bool) (f : X → Y) (a : X → Bool) (xs ys : List X) → ((y : X) → Has y ys → t (f y) ≡ false)
    → find t (map f (filter a (xs ++ ys))) ≡ find t (map f (filter a xs))
find-unadded t f a [] [] h = refl
find-unadded t f a [] (y ∷ ys) h = at (a y) (find-unadded t f a [] ys (λ z k. h z (inr k)))
  where
    at : (b : Bool) → find t (map f (filter a ys)) ≡ None → find t (map f (cond b (y ∷ filter a ys) (filter a ys))) ≡ None
    at true rest = rw (h y (inl refl)) rest
    at false rest = rest
find-unadded t f a (x ∷ xs) ys h = at (a x) (t (f x)) refl (find-unadded t f a xs ys h)
  where
    at : (b : Bool) (d : Bool) → t (f x) ≡ d → find t (map f (filter a (xs ++ ys))) ≡ find t (map f (filter a xs))
        → find t (map f (cond b (x ∷ filter a (xs ++ ys)) (filter a (xs ++ ys)))) ≡ find t (map f (cond b (x ∷ filter a xs) (filter a xs)))
    at true true k rest = rw k refl
    at true false k rest = rw k rest
    at false d k rest = rest

module _ (net : Setup) (n : ℕ) (S : State) where
  -- what is assumed of injections: a head in a buffer has an owner there, and a channel on which
  -- one starts is not routed
  pub record StartsFresh : Type 0 where
    pub held : (p : ℕ) (c : Channel) → p < length net.packets → head_place net S p ≡ In c → (q : ℕ) × (owner_of net S c ≡ Some q)
    pub unrouted : (node : ℕ) (one : Injection net) → injection_at net S n node ≡ Some one → head_place net S one.packet ≡ Source → has_channel S.routed one.channel ≡ false

  abbrev added : List (Channel × ℕ)
  added = map (λ (one : Injection net). (one.channel, one.packet)) (filter (λ (one : Injection net). one.begins) (injections net S n))

  added-inject : (pair : Channel × ℕ) → Has pair added → (node : ℕ) × (v : ℕ) × (pair.0 ≡ Inject node v)
  added-inject pair h =
      let m = map-has (λ (one : Injection net). (one.channel, one.packet)) pair (filter (λ (one : Injection net). one.begins) (injections net S n)) h in
      let k = Has-filter (λ (one : Injection net). one.begins) m.0 (injections net S n) m.1 in
      let i = injections-is net n S m.0 k.0 in
      (i.0, i.2, ap (λ (x : Channel × ℕ). x.0) m.2 ∙ i.3)

  -- the next channel of an owned channel stays
  pub next-injected : (c : Channel) (q : ℕ) → owner_of net S c ≡ Some q → next_channel net (after_injection net n S) c ≡ next_channel net S c
  unfolding after_injection
  next-injected c q own =
      let m = some_of_map (λ (pair : Channel × ℕ). pair.1) (find (λ (pair : Channel × ℕ). same_channel c pair.0) S.own) q own in
      let stays : owner_of net (after_injection net n S) c ≡ Some q
      = ap (option_map (λ (pair : Channel × ℕ). pair.1)) (find-stays (λ (pair : Channel × ℕ). same_channel c pair.0) S.own added m.0 m.1) ∙ ap Some m.2 in
      ap (option_and_then (λ p. find (leads_from net c) (owned_by net (after_injection net n S) p))) stays
      ∙ find-unadded (leads_from net c) (λ (pair : Channel × ℕ). pair.0) (λ (pair : Channel × ℕ). nat_eq q pair.1) S.own added (λ pair h. unled pair.0 (added-inject pair h))
      ∙ sym (ap (option_and_then (λ p. find (leads_from net c) (owned_by net S p))) own)
    where
      unled : (o : Channel) → (node : ℕ) × (v : ℕ) × (o ≡ Inject node v) → leads_from net c o ≡ false
      unled o i = ap (leads_from net c) i.2

  module _ (fresh : StartsFresh) where
    stays : (p : ℕ) → p < length net.packets → (place : Place) → head_place net S p ≡ place → allocations_left net (after_injection net n S) p place ≡ allocations_left net S p place
    unfolding after_injection
    stays p l Source e = refl
    stays p l (On c) e = refl
    stays p l (Out m) e = refl
    stays p l (In c) e =
        let q = fresh.held p c l e in
        ap (λ (next : Option Channel). 2 * end_distance net.relation c (packet_at net p).destination + cond (has_channel S.routed c) (cond (is_some next) 0 1) 2) (next-injected c q.0 q.1)

    starts : (p : ℕ) (one : Injection net) → one.packet ≡ p → Has one (injections net S n) → head_place net S p ≡ Source
        → allocations_left net (after_injection net n S) p (In one.channel) ≡ allocations_left net S p Source
    unfolding after_injection
    starts p one same h e =
        let m = Has-filter_map (injection_at net S n) one (below (nodes net.relation.grid)) h in
        let i = injection-is net n S m.0 one m.2 in
        let f = first-is net n S m.0 one.packet i.0 in
        let free : has_channel S.routed one.channel ≡ false = fresh.unrouted m.0 one m.2 (ap (head_place net S) same ∙ e) in
        let node : (packet_at net p).source ≡ m.0 = ap (λ q. (packet_at net q).source) (sym same) ∙ f.1 in
        let far : end_distance net.relation one.channel (packet_at net p).destination ≡ hops net p
        = ap (λ c. end_distance net.relation c (packet_at net p).destination) i.2 ∙ ap (λ (x : ℕ). distance net.relation.grid x (packet_at net p).destination) (sym node) in
        ap (λ b. 2 * end_distance net.relation one.channel (packet_at net p).destination + cond b (cond (is_some (next_channel net (after_injection net n S) one.channel)) 0 1) 2) free
        ∙ ap (λ d. 2 * d + 2) far ∙ double (hops net p)
      where
        double : (d : ℕ) → 2 * d + 2 ≡ 2 * (d + 1)
        double d = omega arith

    -- what a head has left to do stays
    pub allocations-injected : (p : ℕ) → p < length net.packets → allocations_left net (after_injection net n S) p (head_place net (after_injection net n S) p) ≡ allocations_left net S p (head_place net S p)
    unfolding after_injection
    allocations-injected p l =
        ap (λ (o : Option Located). allocations_left net (after_injection net n S) p (unwrap_or (option_map (λ (f : Located). f.place) o) Source))
        (find-map (λ (f : Located). nat_eq p f.packet && nat_eq 0 f.index) step (λ f. refl) S.at)
        ∙ at (find (λ (f : Located). nat_eq p f.packet && nat_eq 0 f.index) S.at) refl
      where
        step : Located → Located
        step f = record f { place = injected_place net S f (find (λ (one : Injection net). nat_eq one.packet f.packet) (injections net S n)) }

        moved : (f : Located) (place : Place) → f.place ≡ place → head_place net S p ≡ place → (o : Option (Injection net)) → ((one : Injection net) → o ≡ Some one → Has one (injections net S n) × (one.packet ≡ p))
            → (b : Bool) → allocations_left net (after_injection net n S) p (unwrap_or (option_map (λ (one : Injection net). cond (is_at_source place && b) (In one.channel) place) o) place) ≡ allocations_left net S p place
        moved f place k e None is b = stays p l place e
        moved f Source k e (Some one) is true = starts p one (is one refl).1 (is one refl).0 e
        moved f Source k e (Some one) is false = refl
        moved f (On c) k e (Some one) is b = refl
        moved f (Out m) k e (Some one) is b = refl
        moved f (In c) k e (Some one) is b = stays p l (In c) e

        same-place : (f : Located) (o : Option (Injection net)) → injected_place net S f o ≡ unwrap_or (option_map (λ (one : Injection net). cond (is_at_source f.place && is_the_flit net f (first_at_source net S f.packet)) (In one.channel) f.place) o) f.place
        same-place f None = refl
        same-place f (Some one) = refl

        at : (o : Option Located) → find (λ (f : Located). nat_eq p f.packet && nat_eq 0 f.index) S.at ≡ o
            → allocations_left net (after_injection net n S) p (unwrap_or (option_map (λ (f : Located). f.place) (option_map step o)) Source) ≡ allocations_left net S p (head_place net S p)
        at None e = sym (ap (λ (o : Option Located). allocations_left net S p (unwrap_or (option_map (λ (f : Located). f.place) o) Source)) e)
        at (Some f) e =
            let here : head_place net S p ≡ f.place = ap (λ (o : Option Located). unwrap_or (option_map (λ (f : Located). f.place) o) Source) e in
            let k = find-has (λ (f : Located). nat_eq p f.packet && nat_eq 0 f.index) S.at f e in
            let own : p ≡ f.packet = eqb-true p f.packet (and_parts (nat_eq p f.packet) (nat_eq 0 f.index) k.1).0 in
            ap (allocations_left net (after_injection net n S) p) (same-place f (find (λ (one : Injection net). nat_eq one.packet f.packet) (injections net S n)))
            ∙ moved f f.place refl here (find (λ (one : Injection net). nat_eq one.packet f.packet) (injections net S n))
            (λ one g. let h = find-has (λ (one : Injection net). nat_eq one.packet f.packet) (injections net S n) one g in (h.0, eqb-true one.packet f.packet h.1 ∙ sym own))
            (is_the_flit net f (first_at_source net S f.packet))
            ∙ ap (allocations_left net S p) (sym here)

    -- each flit that leaves its source takes one from the remainder
    pub injections-fall : IsDistinct (same_flit) S.at → remainder net (after_injection net n S) + length (injections net S n) ≡ remainder net S
    unfolding after_injection
    injections-fall distinct =
        let w = injection-falls net n S (to-inject net n S) in
        let c = leaves-counted net n S distinct in
        let t : sum_by (λ p. allocations_left net (after_injection net n S) p (head_place net (after_injection net n S) p)) (below (length net.packets)) ≡ sum_by (λ p. allocations_left net S p (head_place net S p)) (below (length net.packets))
        = sum_by-each (λ p. allocations_left net (after_injection net n S) p (head_place net (after_injection net n S) p)) (λ p. allocations_left net S p (head_place net S p)) (below (length net.packets))
        (λ p h. allocations-injected p (Has-below p (length net.packets) h)) in
        omega arith
