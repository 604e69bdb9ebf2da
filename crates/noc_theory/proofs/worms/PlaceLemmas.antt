-- Where a flit is, by its packet and index, and how a step on the list of flits changes it.
use Rattle.std.proofs.Common.{◌≡◌, ℕ, ◌<◌, ◌≤◌, Bool, true, false, cond, List, [], ◌∷◌, map, Option, Some, refl, ap, sym, ◌∙◌, inl, inr, subst, arith}
use Rattle.std.specs.Prelude.{find, option_map, unwrap_or, nat_eq, ◌&&◌}
use Rattle.noc_theory.proofs.Common.{false≢true, and_parts, and_from, eqb-true, eq-eqb, same_Some, Setup, State, Located, Place, Source, place_of_flit, On, In, Out, is_in, is_on, is_at_source, landed_place, Has, Pairs, Channel, IsValid}
use Rattle.noc_theory.proofs.worms.BufferLemmas.{find-passes, same_channel-true}
use Rattle.noc_theory.proofs.worms.MemberLemmas.{Has-map, Has-mapped, find-has, find-some, Pairs-map, each-at}
use Rattle.noc_theory.proofs.worms.StateWordLemmas.{IsSortedPair, IsKeyed}

-- ---- a place by its test
pub is_in-is : (c : Channel) (x : Place) → is_in c x ≡ true → x ≡ In c
is_in-is c Source e = absurd (false≢true e)
is_in-is c (On d) e = absurd (false≢true e)
is_in-is c (In d) e = ap In (sym (same_channel-true c d e))
is_in-is c (Out n) e = absurd (false≢true e)

pub is_on-is : (c : Channel) (x : Place) → is_on c x ≡ true → x ≡ On c
is_on-is c Source e = absurd (false≢true e)
is_on-is c (On d) e = ap On (sym (same_channel-true c d e))
is_on-is c (In d) e = absurd (false≢true e)
is_on-is c (Out n) e = absurd (false≢true e)

pub at_source-is : (x : Place) → is_at_source x ≡ true → x ≡ Source
at_source-is Source e = refl
at_source-is (On c) e = absurd (false≢true e)
at_source-is (In c) e = absurd (false≢true e)
at_source-is (Out n) e = absurd (false≢true e)

-- what is out after the flits have landed was out
pub out-landed : (net : Setup) (x : Place) (k : ℕ) → landed_place net x ≡ Out k → x ≡ Out k
out-landed net Source k e = absurd (cc e)
out-landed net (On d) k e = absurd (cc e)
out-landed net (In d) k e = absurd (cc e)
out-landed net (Out n) k e = e

-- ---- the flits of a state
-- two members of one key are one flit
pub sorted-same : (f g : Located) (xs : List Located) → Pairs IsSortedPair xs → Has f xs → Has g xs → f.packet ≡ g.packet → f.index ≡ g.index → f ≡ g
sorted-same f g [] s h k e i = elim h [ ]
sorted-same f g (x ∷ xs) s (inl a) (inl b) e i = a ∙ sym b
sorted-same f g (x ∷ xs) s (inl a) (inr b) e i =
    let l : x.index < g.index = each-at (IsSortedPair x) xs g s.0 b (ap (λ (y : Located). y.packet) (sym a) ∙ e) in
    let xi : f.index ≡ x.index = ap (λ (y : Located). y.index) a in
    absurd (omega arith)
sorted-same f g (x ∷ xs) s (inr a) (inl b) e i =
    let l : x.index < f.index = each-at (IsSortedPair x) xs f s.0 a (ap (λ (y : Located). y.packet) (sym b) ∙ sym e) in
    let xi : g.index ≡ x.index = ap (λ (y : Located). y.index) b in
    absurd (omega arith)
sorted-same f g (x ∷ xs) s (inr a) (inr b) e i = sorted-same f g xs s.1 a b e i

-- the first that passes has the least index of those of its packet that pass
pub find-first : (t : Located → Bool) (xs : List Located) (f g : Located) → Pairs IsSortedPair xs → find t xs ≡ Some g → Has f xs → t f ≡ true → g.packet ≡ f.packet → g.index ≤ f.index
find-first t [] f g s e h k p = elim h [ ]
find-first t (x ∷ xs) f g s e h k p = at (t x) refl e h (find-first t xs f g s.1)
  where
    at : (b : Bool) → t x ≡ b → cond b (Some x) (find t xs) ≡ Some g → Has f (x ∷ xs)
        → (find t xs ≡ Some g → Has f xs → t f ≡ true → g.packet ≡ f.packet → g.index ≤ f.index) → g.index ≤ f.index
    at true m r (inl a) rest =
        let xg : x ≡ g = same_Some x g r in
        let same : g.index ≡ f.index = ap (λ (y : Located). y.index) (sym xg ∙ sym a) in
        omega arith
    at true m r (inr a) rest =
        let xg : x ≡ g = same_Some x g r in
        let l : x.index < f.index = each-at (IsSortedPair x) xs f s.0 a (ap (λ (y : Located). y.packet) xg ∙ p) in
        let xi : x.index ≡ g.index = ap (λ (y : Located). y.index) xg in
        omega arith
    at false m r (inl a) rest = absurd (false≢true (sym m ∙ ap t (sym a) ∙ k))
    at false m r (inr a) rest = rest r a k p

module _ (net : Setup) where
  abbrev pub stepped : (Located → Place) → List Located → List Located
  stepped h at = map (λ (f : Located). record f { place = h f }) at

  pub keyed-stepped : (h : Located → Place) (at : List Located) → IsKeyed net at → IsKeyed net (stepped h at)
  keyed-stepped h at k = record {
    sorted = Pairs-map IsSortedPair IsSortedPair (λ (f : Located). record f { place = h f }) (λ a b s. s) at k.sorted;
    valid = λ f m.
        let r = Has-map (λ (g : Located). record g { place = h g }) f at m in
        subst (λ (g : Located). IsValid net g.packet g.index) r.2 (k.valid r.0 r.1);
    whole = λ p i v. let r = k.whole p i v in
        let g : Located = r.0 in
        (record g { place = h g }, Has-mapped (λ (f : Located). record f { place = h f }) g at r.1, r.2, r.3);
  }

  -- where a member is
  pub place-of-flit : (S : State) → IsKeyed net S.at → (f : Located) → Has f S.at → place_of_flit net S f.packet f.index ≡ f.place
  place-of-flit S k f h =
      let test : Located → Bool = λ (g : Located). nat_eq f.packet g.packet && nat_eq f.index g.index in
      let found = find-some test S.at f h (and_from _ _ (eq-eqb f.packet f.packet refl) (eq-eqb f.index f.index refl)) in
      let g : Located = found.0 in
      let parts = and_parts (nat_eq f.packet g.packet) (nat_eq f.index g.index) (find-passes test S.at g found.1) in
      let same : g ≡ f = sorted-same g f S.at k.sorted (find-has test S.at g found.1) h (sym (eqb-true _ _ parts.0)) (sym (eqb-true _ _ parts.1)) in
      ap (λ (o : Option Located). unwrap_or (option_map (λ (x : Located). x.place) o) Source) found.1 ∙ ap (λ (x : Located). x.place) same

  -- the flit of a key is there
  pub flit-there : (S : State) → IsKeyed net S.at → (p i : ℕ) → IsValid net p i → Has (record { packet = p; index = i; place = place_of_flit net S p i }) S.at
  flit-there S k p i v =
      let r = k.whole p i v in
      let f : Located = r.0 in
      let at_f : place_of_flit net S p i ≡ f.place = ap (λ x. place_of_flit net S x i) (sym r.2) ∙ ap (λ x. place_of_flit net S f.packet x) (sym r.3) ∙ place-of-flit S k f r.1 in
      let same : f ≡ record { packet = p; index = i; place = place_of_flit net S p i }
      = ap (λ x. record { packet = x; index = f.index; place = f.place }) r.2 ∙ ap (λ x. record { packet = p; index = x; place = f.place }) r.3 ∙ ap (λ x. record { packet = p; index = i; place = x }) (sym at_f) in
      subst (λ (x : Located). Has x S.at) same r.1

  -- and a step moves it
  pub place-stepped : (h : Located → Place) (S T : State) → IsKeyed net S.at → T.at ≡ stepped h S.at → (p i : ℕ) → IsValid net p i
      → place_of_flit net T p i ≡ h (record { packet = p; index = i; place = place_of_flit net S p i })
  place-stepped h S T k e p i v =
      let kT : IsKeyed net T.at = subst (λ (xs : List Located). IsKeyed net xs) (sym e) (keyed-stepped h S.at k) in
      let f : Located = record { packet = p; index = i; place = place_of_flit net S p i } in
      let m : Has (record f { place = h f }) (stepped h S.at) = Has-mapped (λ (g : Located). record g { place = h g }) f S.at (flit-there S k p i v) in
      place-of-flit T kT (record f { place = h f }) (subst (λ (xs : List Located). Has (record f { place = h f }) xs) (sym e) m)
