-- The flits of packets to one node go out one by one, each in a cycle of its own.
use Rattle.std.proofs.Common.{◌≡◌, ◌≢◌, ℕ, zero, suc, ◌+◌, ◌-◌, ◌*◌, ◌<◌, ◌≤◌, eqb, true, false, List, [], ◌∷◌, length, map, refl, ap, sym, ◌∙◌, inl, inr, subst, arith}
use Rattle.std.specs.Prelude.{◌⊎◌, is_some, sum_by, unwrap_or}
use Rattle.std.specs.List.{IsDistinct}
use Rattle.std.proofs.Math.Nat.{mul-le-mul_right, suc-mul}
use Rattle.std.proofs.lemmas.Map.Steps.{length-le_from_distinct_below}
use Rattle.noc_theory.proofs.Common.{AllByRecursion, length-map, sum_by-cons, eqb-true, false≢true, ne_eqb, none-some, Each, Has, Pairs, Channel, Eject, Setup, Place, Source, On, In, Out, arrival_in, out_cycle, packet_at, place_of_flit, tail_place, state_at, head_place, IsWellFormedSetup, IsValid}
use Rattle.noc_theory.specs.Waiting.{AreWaiting, IsWaiting}
use Rattle.noc_theory.proofs.worms.BuiltLemmas.{good-built}
use Rattle.noc_theory.proofs.worms.MemberLemmas.{Has-map, each-at, each-from, list_any-has}
use Rattle.noc_theory.proofs.worms.NetworkLemmas.{out-at}
use Rattle.noc_theory.proofs.worms.OneOutLemmas.{Ejects, ejects, one-out, out-ahead, out-since}
use Rattle.noc_theory.proofs.worms.OwnedLemmas.{once-same}
use Rattle.noc_theory.proofs.worms.StateWordLemmas.{goal, last_of}
use Rattle.noc_theory.proofs.worms.WormOrderLemmas.{whole-at}
use Rattle.noc_theory.proofs.worms.WormRecordLemmas.{valid-first, valid-last}

-- ---- different numbers below one number are at most as many

distinct : (xs : List ℕ) → Pairs (λ (x y : ℕ). x ≢ y) xs → IsDistinct eqb xs
unfolding IsDistinct
distinct [] apart = tt
distinct (x ∷ xs) apart = (others xs apart.0, distinct xs apart.1)
  where
    others : (ys : List ℕ) → Each (λ (y : ℕ). x ≢ y) ys → AllByRecursion (λ y. eqb x y ≡ false) ys
    others [] e = tt
    others (y ∷ ys) e = (ne_eqb x y e.0, others ys e.1)

few : (xs : List ℕ) (n : ℕ) → Pairs (λ (x y : ℕ). x ≢ y) xs → ((x : ℕ) → Has x xs → x < n) → length xs ≤ n
few xs n apart below =
    length-le_from_distinct_below xs n (distinct xs apart)
    (λ q e. let h = list_any-has (eqb q) xs e in subst (λ x. x < n) (sym (eqb-true q h.0 h.2)) (below h.0 h.1))

-- whether it is out
is-out : (x : Place) → ((a : ℕ) × (x ≡ Out a)) ⊎ ((a : ℕ) → x ≡ Out a → ⊥)
is-out Source = inr (λ a e. cc e)
is-out (On c) = inr (λ a e. cc e)
is-out (In c) = inr (λ a e. cc e)
is-out (Out a) = inl (a, refl)

-- the first flits of a packet, before others
flits_before : ℕ → ℕ → List (ℕ × ℕ) → List (ℕ × ℕ)
flits_before p zero fs = fs
flits_before p (suc i) fs = (p, i) ∷ flits_before p i fs

module _ (net : Setup) (good : IsWellFormedSetup net) (n k node longest : ℕ) where
  -- ---- flits to the node that go out in the k cycles from count n on

  record IsGoing (f : ℕ × ℕ) : Type 0 where
    valid : IsValid net f.0 f.1
    home : goal net f.0 ≡ node
    inside : (m : ℕ) → place_of_flit net (state_at net n) f.0 f.1 ≡ Out m → ⊥
    out : (m : ℕ) × (place_of_flit net (state_at net (n + k)) f.0 f.1 ≡ Out m)

  -- in which of these cycles a flit goes out
  turn : ℕ × ℕ → ℕ
  turn f = unwrap_or (out_cycle (place_of_flit net (state_at net (n + k)) f.0 f.1)) 0 - n

  turn-is : (f : ℕ × ℕ) (x : IsGoing f) → (x.out.0 ≡ n + turn f) × (turn f < k)
  unfolding turn
  turn-is f x = at (out-since net good k n f.0 f.1 x.out.0 x.valid x.out.1)
    where
      at : (place_of_flit net (state_at net n) f.0 f.1 ≡ Out x.out.0) ⊎ (n ≤ x.out.0) → (x.out.0 ≡ n + turn f) × (turn f < k)
      at (inl e) = absurd (x.inside x.out.0 e)
      at (inr l) =
          let is : unwrap_or (out_cycle (place_of_flit net (state_at net (n + k)) f.0 f.1)) 0 ≡ x.out.0 = ap (λ (y : Place). unwrap_or (out_cycle y) 0) x.out.1 in
          let before = (out-at net good (n + k)).before f.0 f.1 x.out.0 x.valid x.out.1 in
          (omega arith, omega arith)

  turns-apart : (f g : ℕ × ℕ) → IsGoing f → IsGoing g → f ≢ g → turn f ≢ turn g
  turns-apart f g x y apart e =
      let cycles : y.out.0 ≡ x.out.0 = (turn-is g y).0 ∙ ap (λ t. n + t) (sym e) ∙ sym (turn-is f x).0 in
      let same = one-out net good (n + k) f.0 f.1 g.0 g.1 x.out.0 x.valid y.valid (x.home ∙ sym y.home) x.out.1 (y.out.1 ∙ ap Out cycles) in
      apart (ap (λ a. (a, f.1)) same.0 ∙ ap (λ b. (g.0, b)) same.1)

  turns : (fs : List (ℕ × ℕ)) → Pairs (λ (f g : ℕ × ℕ). f ≢ g) fs → Each IsGoing fs → Pairs (λ (x y : ℕ). x ≢ y) (map turn fs)
  turns [] apart each = tt
  turns (f ∷ fs) apart each = (others fs apart.0 each.1, turns fs apart.1 each.1)
    where
      others : (gs : List (ℕ × ℕ)) → Each (λ (g : ℕ × ℕ). f ≢ g) gs → Each IsGoing gs → Each (λ (y : ℕ). turn f ≢ y) (map turn gs)
      others [] a e = tt
      others (g ∷ gs) a e = (turns-apart f g each.0 e.0 a.0, others gs a.1 e.1)

  flits-few : (fs : List (ℕ × ℕ)) → Pairs (λ (f g : ℕ × ℕ). f ≢ g) fs → Each IsGoing fs → length fs ≤ k
  flits-few fs apart each =
      subst (λ m. m ≤ k) (length-map fs turn)
      (few (map turn fs) k (turns fs apart each) (λ x h. let f = Has-map turn x fs h in subst (λ t. t < k) f.2 (turn-is f.0 (each-at IsGoing fs f.0 each f.1)).1))

  -- ---- the packets, each with its flits that go out, or with its tail and the ejection channel that it holds

  abbrev size : ℕ → ℕ
  size p = (packet_at net p).length

  record Split (ps : List ℕ) : Type 0 where
    flits : List (ℕ × ℕ)
    held : List ℕ
    apart : Pairs (λ (f g : ℕ × ℕ). f ≢ g) flits
    going : Each IsGoing flits
    among : (f : ℕ × ℕ) → Has f flits → Has f.0 ps
    each_held : (v : ℕ) → Has v held → (p : ℕ) × Has p ps × (v < net.relation.vcs) × Has (Eject node v, p) (state_at net n).own
    held_once : Pairs (λ (v w : ℕ). v ≢ w) held
    enough : sum_by size ps ≤ length flits + length held * (longest - 1)

  module _ (p : ℕ) (ps : List ℕ) (new : Each (λ (q : ℕ). p ≢ q) ps) (x : IsWaiting net n node longest p) (out : is_some (arrival_in net (state_at net (n + k)) p) ≡ true) (s : Split ps) where
    all-out : (i : ℕ) → IsValid net p i → (a : ℕ) × (place_of_flit net (state_at net (n + k)) p i ≡ Out a)
    all-out i v = at (is-out (tail_place net (state_at net (n + k)) p))
      where
        at : ((a : ℕ) × (tail_place net (state_at net (n + k)) p ≡ Out a)) ⊎ ((a : ℕ) → tail_place net (state_at net (n + k)) p ≡ Out a → ⊥) → (a : ℕ) × (place_of_flit net (state_at net (n + k)) p i ≡ Out a)
        at (inl t) = out-ahead net good (n + k) p x.known i (last_of net p) t.0 (let l = v.1 in omega arith) (valid-last net (good-built net good) p x.known) t.1
        at (inr t) = absurd (none (tail_place net (state_at net (n + k)) p) t out)
          where
            none : (y : Place) → ((a : ℕ) → y ≡ Out a → ⊥) → is_some (out_cycle y) ≡ true → ⊥
            none Source h e = false≢true e
            none (On c) h e = false≢true e
            none (In c) h e = false≢true e
            none (Out a) h e = h a refl

    inside : (a : ℕ) → tail_place net (state_at net n) p ≡ Out a → ⊥
    inside a e = none-some a (sym x.waits ∙ ap out_cycle e)

    not-there : (i : ℕ) (f : ℕ × ℕ) → Has f s.flits → (p, i) ≢ f
    not-there i f h e = each-at (λ (q : ℕ). p ≢ q) ps f.0 new (s.among f h) (ap (λ (g : ℕ × ℕ). g.0) e)

    -- where none of its flits is out
    module _ (none : (i a : ℕ) → IsValid net p i → place_of_flit net (state_at net n) p i ≡ Out a → ⊥) where
      of-these : (m : ℕ) (f : ℕ × ℕ) → Has f (flits_before p m s.flits) → ((f.0 ≡ p) × (f.1 < m)) ⊎ Has f s.flits
      unfolding flits_before
      of-these zero f h = inr h
      of-these (suc m) f (inl e) = inl (ap (λ (g : ℕ × ℕ). g.0) e, let i : f.1 ≡ m = ap (λ (g : ℕ × ℕ). g.1) e in omega arith)
      of-these (suc m) f (inr h) = at (of-these m f h)
        where
          at : ((f.0 ≡ p) × (f.1 < m)) ⊎ Has f s.flits → ((f.0 ≡ p) × (f.1 < suc m)) ⊎ Has f s.flits
          at (inl y) = let l = y.1 in inl (y.0, omega arith)
          at (inr h) = inr h

      pairs : (m : ℕ) → Pairs (λ (f g : ℕ × ℕ). f ≢ g) (flits_before p m s.flits)
      unfolding flits_before
      pairs zero = s.apart
      pairs (suc m) = (each-from (λ (g : ℕ × ℕ). (p, m) ≢ g) (flits_before p m s.flits) (λ g h e. at g e (of-these m g h)), pairs m)
        where
          at : (g : ℕ × ℕ) → (p, m) ≡ g → ((g.0 ≡ p) × (g.1 < m)) ⊎ Has g s.flits → ⊥
          at g e (inl y) = let l = y.1 in let i : m ≡ g.1 = ap (λ (h : ℕ × ℕ). h.1) e in omega arith
          at g e (inr h) = not-there m g h e

      go : (m : ℕ) → m ≤ size p → Each IsGoing (flits_before p m s.flits)
      unfolding flits_before
      go zero l = s.going
      go (suc m) l =
          let v : IsValid net p m = (x.known, omega arith) in
          (record { valid = v; home = x.home; inside = λ a e. none m a v e; out = all-out m v }, go m (omega arith))

      many : (m : ℕ) → length (flits_before p m s.flits) ≡ m + length s.flits
      unfolding flits_before
      many zero = omega arith
      many (suc m) = let e = many m in omega arith

      whole : Split (p ∷ ps)
      whole = record {
        flits = flits_before p (size p) s.flits;
        held = s.held;
        apart = pairs (size p);
        going = go (size p) (omega arith);
        among = λ f h. at f (of-these (size p) f h);
        each_held = λ v h. let y = s.each_held v h in (y.0, inr y.1, y.2, y.3);
        held_once = s.held_once;
        enough = let e = s.enough in let m = many (size p) in let c = sum_by-cons size p ps in omega (arith, e, m, c);
      }
        where
          at : (f : ℕ × ℕ) → ((f.0 ≡ p) × (f.1 < size p)) ⊎ Has f s.flits → Has f.0 (p ∷ ps)
          at f (inl y) = inl y.0
          at f (inr h) = inr (s.among f h)

    -- where its head is out
    begun : Ejects net good n p x.known → Split (p ∷ ps)
    begun y =
        let last = valid-last net (good-built net good) p x.known in
        let own : Has (Eject node y.0, p) (state_at net n).own = subst (λ (r : ℕ). Has (Eject r y.0, p) (state_at net n).own) x.home y.2 in
        record {
          flits = (p, last_of net p) ∷ s.flits;
          held = y.0 ∷ s.held;
          apart = (each-from (λ (g : ℕ × ℕ). (p, last_of net p) ≢ g) s.flits (λ g h. not-there (last_of net p) g h), s.apart);
          going = (record { valid = last; home = x.home; inside = inside; out = all-out (last_of net p) last }, s.going);
          among = λ f h. at f h;
          each_held = λ v h. other own v h;
          held_once = (each-from (λ (w : ℕ). y.0 ≢ w) s.held (λ w h e. apart own w h e), s.held_once);
          enough = let e = s.enough in let l = x.short in let c = sum_by-cons size p ps in subst (λ m. m ≤ suc (length s.flits) + suc (length s.held) * (longest - 1)) (sym c) (sums (size p) (sum_by size ps) (length s.flits) (length s.held) l e);
        }
      where
        at : (f : ℕ × ℕ) → Has f ((p, last_of net p) ∷ s.flits) → Has f.0 (p ∷ ps)
        at f (inl e) = inl (ap (λ (g : ℕ × ℕ). g.0) e)
        at f (inr h) = inr (s.among f h)

        other : Has (Eject node y.0, p) (state_at net n).own → (v : ℕ) → Has v (y.0 ∷ s.held) → (q : ℕ) × Has q (p ∷ ps) × (v < net.relation.vcs) × Has (Eject node v, q) (state_at net n).own
        other own v (inl e) = (p, inl refl, subst (λ (w : ℕ). w < net.relation.vcs) (sym e) y.1, subst (λ (w : ℕ). Has (Eject node w, p) (state_at net n).own) (sym e) own)
        other own v (inr h) = let z = s.each_held v h in (z.0, inr z.1, z.2, z.3)

        apart : Has (Eject node y.0, p) (state_at net n).own → (w : ℕ) → Has w s.held → y.0 ≡ w → ⊥
        apart own w h e =
            let z = s.each_held w h in
            let same : ◌≡◌ {A = Channel × ℕ} (Eject node y.0, p) (Eject node w, z.0) = once-same (Eject node y.0, p) (Eject node w, z.0) (state_at net n).own (whole-at net good n).sound.worm.once own z.3 (ap (Eject node) e) in
            each-at (λ (q : ℕ). p ≢ q) ps z.0 new z.1 (ap (λ (c : Channel × ℕ). c.1) same)

        sums : (a b c d : ℕ) → a ≤ longest → b ≤ c + d * (longest - 1) → a + b ≤ suc c + suc d * (longest - 1)
        sums a b c d l e = let m : suc d * (longest - 1) ≡ d * (longest - 1) + (longest - 1) = suc-mul d (longest - 1) in omega arith

    step : Split (p ∷ ps)
    step = at (is-out (head_place net (state_at net n) p))
      where
        at : ((a : ℕ) × (head_place net (state_at net n) p ≡ Out a)) ⊎ ((a : ℕ) → head_place net (state_at net n) p ≡ Out a → ⊥) → Split (p ∷ ps)
        at (inl h) = begun (ejects net good n p x.known 0 h.0 (valid-first net (good-built net good) p x.known) h.1 inside)
        at (inr h) = whole (λ i a v e. let first = out-ahead net good n p x.known 0 i a (omega arith) v e in h first.0 first.1)

  split : (ps : List ℕ) → Pairs (λ (p q : ℕ). p ≢ q) ps → Each (IsWaiting net n node longest) ps → Each (λ p. is_some (arrival_in net (state_at net (n + k)) p) ≡ true) ps → Split ps
  split [] apart each out = record { flits = []; held = []; apart = tt; going = tt; among = λ f h. h; each_held = λ v h. absurd h; held_once = tt; enough = omega arith }
  split (p ∷ ps) apart each out = step p ps apart.0 each.0 out.0 (split ps apart.1 each.1 out.1)

  -- so they take as many cycles as they have flits, but for those before the tails of as many packets
  -- as a node has ejection channels
  pub take-turns : (ps : List ℕ) → AreWaiting net n node longest ps → Each (λ p. is_some (arrival_in net (state_at net (n + k)) p) ≡ true) ps → sum_by size ps ≤ k + net.relation.vcs * (longest - 1)
  take-turns ps these out =
      let s = split ps these.apart these.each out in
      let flits = flits-few s.flits s.apart s.going in
      let channels = few s.held net.relation.vcs s.held_once (λ v h. (s.each_held v h).2) in
      let most = mul-le-mul_right (longest - 1) channels in
      let enough = s.enough in
      omega arith
