-- In the opening state the remainder is the budget.
use Rattle.std.proofs.Common.{◌≡◌, ℕ, zero, suc, ◌+◌, ◌*◌, ◌<◌, List, [], ◌∷◌, ◌++◌, map, length, get_or, Option, Some, None, refl, ap, sym, ◌∙◌, arith, zero-add, zero-mul, suc-mul}
use Rattle.std.specs.Prelude.{find, nat_eq, ◌&&◌, option_map, unwrap_or, flat_map, sum_by}
use Rattle.noc_theory.proofs.Common.{enumerate_from, range_with_len, sum_by-cons, Located, Setup, Source, opening_state, packet_at, budget, head_place, hops, remainder, allocations_left, weight, Packet, below}
use Rattle.noc_theory.proofs.worms.MemberLemmas.{Has-flat_map}
use Rattle.noc_theory.proofs.budget.HasLemmas.{find-has, map-has}
use Rattle.noc_theory.proofs.budget.SumLemmas.{sum_by-+}
use Rattle.noc_theory.proofs.budget.RemainderPhaseLemmas.{sum_by-each}

sum-append : {X : Type 0} (w : X → ℕ) (xs ys : List X) → sum_by w (xs ++ ys) ≡ sum_by w xs + sum_by w ys
sum-append w [] ys = sym (zero-add _)
sum-append w (x ∷ xs) ys = let a = sum_by-cons w x (xs ++ ys) in let b = sum_by-cons w x xs in let r = sum-append w xs ys in omega arith

sum-flat : {X Y : Type 0} (w : Y → ℕ) (f : X → List Y) (xs : List X) → sum_by w (flat_map f xs) ≡ sum_by (λ x. sum_by w (f x)) xs
sum-flat w f [] = refl
sum-flat w f (x ∷ xs) = let a = sum-append w (f x) (flat_map f xs) in let b = sum_by-cons (λ y. sum_by w (f y)) x xs in let r = sum-flat w f xs in omega arith

-- as many times the same
sum-same : {X : Type 0} (w : X → ℕ) (f : ℕ → X) (k a n : ℕ) → ((i : ℕ) → w (f i) ≡ k) → sum_by w (map f (range_with_len a n)) ≡ n * k
sum-same w f k a zero h = sym (zero-mul k)
sum-same w f k a (suc n) h =
    let c = sum_by-cons w (f a) (map f (range_with_len (a + 1) n)) in
    let r = sum-same w f k (a + 1) n h in
    let here = h a in
    let m : suc n * k ≡ n * k + k = suc-mul n k in omega arith

sum-enumerated : {X : Type 0} (h : ℕ → X → ℕ) (look : ℕ → X) (d : X) (a : ℕ) (xs : List X) → ((i : ℕ) → i < length xs → look (a + i) ≡ get_or xs i d)
    → sum_by (λ (one : ℕ × X). h one.0 one.1) (enumerate_from a xs) ≡ sum_by (λ p. h p (look p)) (range_with_len a (length xs))
sum-enumerated h look d a [] same = refl
sum-enumerated {X = X} h look d a (x ∷ xs) same =
    let c1 = sum_by-cons (λ (one : ℕ × X). h one.0 one.1) (a, x) (enumerate_from (a + 1) xs) in
    let c2 = sum_by-cons (λ p. h p (look p)) a (range_with_len (a + 1) (length xs)) in
    let first : look a ≡ x = ap look (let z : a ≡ a + 0 = omega arith in z) ∙ same 0 (omega arith) in
    let here : h a x ≡ h a (look a) = ap (h a) (sym first) in
    let r = sum-enumerated h look d (a + 1) xs (λ i l. ap look (let z : (a + 1) + i ≡ a + suc i = omega arith in z) ∙ same (suc i) (omega arith)) in
    omega arith

module _ (net : Setup) where
  source-head : (p : ℕ) → head_place net (opening_state net) p ≡ Source
  unfolding opening_state
  source-head p = at (find (λ (f : Located). nat_eq p f.packet && nat_eq 0 f.index) (opening_state net).at) refl
    where
      at : (o : Option Located) → find (λ (f : Located). nat_eq p f.packet && nat_eq 0 f.index) (opening_state net).at ≡ o → head_place net (opening_state net) p ≡ Source
      at None e = ap (λ (o : Option Located). unwrap_or (option_map (λ (f : Located). f.place) o) Source) e
      at (Some f) e =
          let h = find-has (λ (f : Located). nat_eq p f.packet && nat_eq 0 f.index) (opening_state net).at f e in
          let a = Has-flat_map (λ (one : ℕ × Packet). map (λ i. record { packet = one.0; index = i; place = Source }) (below one.1.length)) f (enumerate_from 0 net.packets) h.0 in
          let b = map-has (λ i. record { packet = a.0.0; index = i; place = Source }) f (below a.0.1.length) a.2 in
          ap (λ (o : Option Located). unwrap_or (option_map (λ (f : Located). f.place) o) Source) e ∙ ap (λ (x : Located). x.place) b.2

  pub opening-budget : remainder net (opening_state net) ≡ budget net
  unfolding opening_state below
  opening-budget =
      let w : sum_by (λ (f : Located). weight net f.packet f.place) (opening_state net).at ≡ sum_by (λ p. (packet_at net p).length * (3 * hops net p + 2)) (below (length net.packets))
      = sum-flat (λ (f : Located). weight net f.packet f.place) (λ (one : ℕ × Packet). map (λ i. record { packet = one.0; index = i; place = Source }) (below one.1.length)) (enumerate_from 0 net.packets)
      ∙ sum_by-each (λ (one : ℕ × Packet). sum_by (λ (f : Located). weight net f.packet f.place) (map (λ i. record { packet = one.0; index = i; place = Source }) (below one.1.length))) (λ (one : ℕ × Packet). one.1.length * (3 * hops net one.0 + 2)) (enumerate_from 0 net.packets)
      (λ one h. sum-same (λ (f : Located). weight net f.packet f.place) (λ i. record { packet = one.0; index = i; place = Source }) (3 * hops net one.0 + 2) 0 one.1.length (λ i. refl))
      ∙ sum-enumerated (λ p (k : Packet). k.length * (3 * hops net p + 2)) (packet_at net) (record { source = 0; destination = 0; class = 0; length = 0; due = 0 }) 0 net.packets (λ i l. ap (packet_at net) (zero-add i)) in
      let t : sum_by (λ p. allocations_left net (opening_state net) p (head_place net (opening_state net) p)) (below (length net.packets)) ≡ sum_by (λ p. 2 * (hops net p + 1)) (below (length net.packets))
      = sum_by-each (λ p. allocations_left net (opening_state net) p (head_place net (opening_state net) p)) (λ p. 2 * (hops net p + 1)) (below (length net.packets)) (λ p h. ap (allocations_left net (opening_state net) p) (source-head p)) in
      let b = sum_by-+ (λ p. (packet_at net p).length * (3 * hops net p + 2)) (λ p. 2 * (hops net p + 1)) (below (length net.packets)) in
      omega arith
