-- The packets that wait at a node: in the order of the queue the first is the one that the state
-- names, and no number stands twice.
use Rattle.std.proofs.Common.{◌≡◌, ◌≢◌, ℕ, ◌+◌, ◌<◌, ◌≤◌, Bool, true, false, cond, List, [], ◌∷◌, length, Option, Some, None, refl, ap, sym, ◌∙◌, inl, inr, subst, arith}
use Rattle.std.specs.Prelude.{filter, ◌⊎◌, ◌&&◌, not, nat_eq, nat_le}
use Rattle.noc_packet.specs.ByNode.{inserted_by_due, by_due}
use Rattle.noc_theory.proofs.Common.{list_any, enumerate_from, eq-eqb, eqb-true, ne_eqb, and_from, and_parts, leb-true, leb-false, cases_order, none-some, below, Has, Pairs, least_by, Packet, starts_at, has_flit_at_source, Setup, State, Located, packet_at, flits_of, is_at_source, first_waiting}
use Rattle.noc_theory.proofs.worms.StateWordLemmas.{Precedes}
use Rattle.noc_theory.proofs.worms.FirstOfNodeLemmas.{least_by-first}
use Rattle.noc_theory.proofs.worms.GrantLemmas.{Has-below}
use Rattle.noc_theory.proofs.worms.InjectionStateLemmas.{least_by-has}
use Rattle.noc_theory.proofs.worms.MemberLemmas.{each-at, each-from, Has-filter, Has-kept, Pairs-filter}
use Rattle.noc_theory.proofs.worms.OpeningLemmas.{below-has, below-rises}
use Rattle.noc_theory.proofs.verdicts.CommitEndLemmas.{enumerate-has, enumerate-member}

-- a comes before b: it is due before it, or as early with a smaller number
abbrev pub IsAhead : ℕ × Packet → ℕ × Packet → Type 0
IsAhead a b = (a.1.due < b.1.due) ⊎ ((a.1.due ≡ b.1.due) × (a.0 < b.0))

abbrev pub IsLess : ℕ × Packet → ℕ × Packet → Type 0
IsLess a b = a.0 < b.0

inserted-has : (x z : ℕ × Packet) (ys : List (ℕ × Packet)) → Has z (inserted_by_due x ys) → (z ≡ x) ⊎ Has z ys
inserted-has x z [] (inl e) = inl e
inserted-has x z [] (inr h) = elim h [ ]
inserted-has x z (y ∷ ys) h = at (nat_le x.1.due y.1.due) h (inserted-has x z ys)
  where
    at : (b : Bool) → Has z (cond b (x ∷ y ∷ ys) (y ∷ inserted_by_due x ys)) → (Has z (inserted_by_due x ys) → (z ≡ x) ⊎ Has z ys) → (z ≡ x) ⊎ Has z (y ∷ ys)
    at true (inl e) rest = inl e
    at true (inr k) rest = inr k
    at false (inl e) rest = inr (inl e)
    at false (inr k) rest = by (rest k)
      where
        by : (z ≡ x) ⊎ Has z ys → (z ≡ x) ⊎ Has z (y ∷ ys)
        by (inl e) = inl e
        by (inr m) = inr (inr m)

has-inserted : (x z : ℕ × Packet) (ys : List (ℕ × Packet)) → (z ≡ x) ⊎ Has z ys → Has z (inserted_by_due x ys)
has-inserted x z [] (inl e) = inl e
has-inserted x z [] (inr h) = elim h [ ]
has-inserted x z (y ∷ ys) w = at (nat_le x.1.due y.1.due) w (has-inserted x z ys)
  where
    at : (b : Bool) → (z ≡ x) ⊎ Has z (y ∷ ys) → ((z ≡ x) ⊎ Has z ys → Has z (inserted_by_due x ys)) → Has z (cond b (x ∷ y ∷ ys) (y ∷ inserted_by_due x ys))
    at true (inl e) rest = inl e
    at true (inr k) rest = inr k
    at false (inl e) rest = inr (rest (inl e))
    at false (inr (inl e)) rest = inl e
    at false (inr (inr k)) rest = inr (rest (inr k))

by_due-has : (z : ℕ × Packet) (xs : List (ℕ × Packet)) → Has z (by_due xs) → Has z xs
by_due-has z [] h = h
by_due-has z (x ∷ xs) h = by (inserted-has x z (by_due xs) h) (by_due-has z xs)
  where
    by : (z ≡ x) ⊎ Has z (by_due xs) → (Has z (by_due xs) → Has z xs) → Has z (x ∷ xs)
    by (inl e) rest = inl e
    by (inr k) rest = inr (rest k)

has-by_due : (z : ℕ × Packet) (xs : List (ℕ × Packet)) → Has z xs → Has z (by_due xs)
has-by_due z [] h = h
has-by_due z (x ∷ xs) (inl e) = has-inserted x z (by_due xs) (inl e)
has-by_due z (x ∷ xs) (inr h) = has-inserted x z (by_due xs) (inr (has-by_due z xs h))

inserted-ahead : (x : ℕ × Packet) (ys : List (ℕ × Packet)) → Pairs IsAhead ys → ((y : ℕ × Packet) → Has y ys → x.0 < y.0) → Pairs IsAhead (inserted_by_due x ys)
inserted-ahead x [] p less = (tt, tt)
inserted-ahead x (y ∷ ys) p less = at (nat_le x.1.due y.1.due) refl (inserted-ahead x ys p.1 (λ z h. less z (inr h)))
  where
    earlier : (z : ℕ × Packet) → x.1.due ≤ z.1.due → x.0 < z.0 → IsAhead x z
    earlier z l u = by (cases_order x.1.due z.1.due)
      where
        by : (x.1.due ≡ z.1.due) ⊎ ((x.1.due < z.1.due) ⊎ (z.1.due < x.1.due)) → IsAhead x z
        by (inl e) = inr (e, u)
        by (inr (inl k)) = inl k
        by (inr (inr k)) = absurd (omega (arith, l, k))

    after : (z : ℕ × Packet) → IsAhead y z → y.1.due ≤ z.1.due
    after z (inl l) = omega (arith, l)
    after z (inr e) = let k = e.0 in omega (arith, k)

    at : (b : Bool) → nat_le x.1.due y.1.due ≡ b → Pairs IsAhead (inserted_by_due x ys) → Pairs IsAhead (cond b (x ∷ y ∷ ys) (y ∷ inserted_by_due x ys))
    at true e rest =
        let l = leb-true _ _ e in
        ((earlier y l (less y (inl refl)), each-from (IsAhead x) ys (λ z h. let a = after z (each-at (IsAhead y) ys z p.0 h) in earlier z (omega (arith, l, a)) (less z (inr h)))), p)
    at false e rest = (each-from (IsAhead y) (inserted_by_due x ys) (λ z h. by z (inserted-has x z ys h)), rest)
      where
        by : (z : ℕ × Packet) → (z ≡ x) ⊎ Has z ys → IsAhead y z
        by z (inl k) = let l = leb-false _ _ e in subst (λ (q : ℕ × Packet). IsAhead y q) (sym k) (inl l)
        by z (inr h) = each-at (IsAhead y) ys z p.0 h

by_due-ahead : (xs : List (ℕ × Packet)) → Pairs IsLess xs → Pairs IsAhead (by_due xs)
by_due-ahead [] p = tt
by_due-ahead (x ∷ xs) p = inserted-ahead x (by_due xs) (by_due-ahead xs p.1) (λ y h. each-at (IsLess x) xs y p.0 (by_due-has y xs h))

enumerate-less : (a : ℕ) (xs : List Packet) → Pairs IsLess (enumerate_from a xs)
enumerate-less a [] = tt
enumerate-less a (x ∷ xs) = (each-from (IsLess (a, x)) (enumerate_from (a + 1) xs) (λ y h. let r = enumerate-has (a + 1) xs y h in let e = r.2 in omega (arith, e)), enumerate-less (a + 1) xs)

some_least : (key : ℕ → ℕ) (xs : List ℕ) (y : ℕ) → Has y xs → least_by key xs ≡ None → ⊥
unfolding least_by
some_least key [] y h e = h
some_least key (x ∷ xs) y h e = none-some _ (sym e)

module _ (net : Setup) (S : State) (r : ℕ) where
  abbrev pub waits : ℕ → Bool
  waits p = list_any (λ (f : Located). is_at_source f.place) (flits_of net S p)

  abbrev pub queue : List (ℕ × Packet)
  queue = filter (has_flit_at_source net S) (starts_at net r)

  pub in-starts : (one : ℕ × Packet) → Has one (starts_at net r) → (one.0 < length net.packets) × (one.1 ≡ packet_at net one.0) × ((packet_at net one.0).source ≡ r)
  in-starts one h =
      let f = Has-filter (λ (y : ℕ × Packet). nat_eq y.1.source r) one (enumerate_from 0 net.packets) (by_due-has one _ h) in
      let e = enumerate-has 0 net.packets one f.0 in
      let same : e.0 ≡ one.0 = let k = e.2 in omega (arith, k) in
      let is : one.1 ≡ packet_at net one.0 = e.3 ∙ ap (packet_at net) same in
      (subst (λ k. k < length net.packets) same e.1, is, ap (λ (p : Packet). p.source) (sym is) ∙ eqb-true _ _ f.1)

  pub starts-in : (p : ℕ) → p < length net.packets → (packet_at net p).source ≡ r → Has (p, packet_at net p) (starts_at net r)
  starts-in p l e =
      let z : 0 + p ≡ p = omega arith in
      let m : Has (p, packet_at net p) (enumerate_from 0 net.packets) = subst (λ j. Has (j, packet_at net p) (enumerate_from 0 net.packets)) z (enumerate-member 0 p net.packets l) in
      has-by_due (p, packet_at net p) _ (Has-kept (λ (y : ℕ × Packet). nat_eq y.1.source r) (p, packet_at net p) (enumerate_from 0 net.packets) m (eq-eqb _ _ e))

  queue-ahead : Pairs IsAhead (filter (has_flit_at_source net S) (starts_at net r))
  queue-ahead =
      Pairs-filter IsAhead (has_flit_at_source net S) (starts_at net r)
      (by_due-ahead (filter (λ (y : ℕ × Packet). nat_eq y.1.source r) (enumerate_from 0 net.packets)) (Pairs-filter IsLess (λ (y : ℕ × Packet). nat_eq y.1.source r) (enumerate_from 0 net.packets) (enumerate-less 0 net.packets)))

  abbrev test : ℕ → Bool
  test p = nat_eq (packet_at net p).source r && list_any (λ (f : Located). is_at_source f.place) (flits_of net S p)

  waiting-in : (p : ℕ) → first_waiting net S r ≡ Some p → Has (p, packet_at net p) (filter (has_flit_at_source net S) (starts_at net r))
  waiting-in p e =
      let f = Has-filter test p (below (length net.packets)) (least_by-has (λ q. (packet_at net q).due) (filter test (below (length net.packets))) p e) in
      let l = Has-below p (length net.packets) f.0 in
      let parts = and_parts (nat_eq (packet_at net p).source r) (list_any (λ (g : Located). is_at_source g.place) (flits_of net S p)) f.1 in
      Has-kept (has_flit_at_source net S) (p, packet_at net p) (starts_at net r) (starts-in p l (eqb-true _ _ parts.0)) parts.1

  pub data Queue : Type 0 where
    empty : queue ≡ [] → first_waiting net S r ≡ None → Queue
    front : (p : ℕ) (rest : List (ℕ × Packet)) → queue ≡ (p, packet_at net p) ∷ rest → first_waiting net S r ≡ Some p → ((z : ℕ × Packet) → Has z rest → z.0 ≢ p) → ((z : ℕ × Packet) → Has z rest → IsAhead (p, packet_at net p) z) → Queue

  pub queue-case : Queue
  queue-case = by (filter (has_flit_at_source net S) (starts_at net r)) refl (first_waiting net S r) refl
    where
      none : (ys : List (ℕ × Packet)) → filter (has_flit_at_source net S) (starts_at net r) ≡ ys → ys ≡ [] → (o : Option ℕ) → first_waiting net S r ≡ o → Queue
      none ys q z None e = empty (q ∙ z) e
      none ys q z (Some p) e = absurd (subst (λ (xs : List (ℕ × Packet)). Has (p, packet_at net p) xs) (q ∙ z) (waiting-in p e))

      by : (ys : List (ℕ × Packet)) → filter (has_flit_at_source net S) (starts_at net r) ≡ ys → (o : Option ℕ) → first_waiting net S r ≡ o → Queue
      by [] q o e = none [] q refl o e
      by (one ∷ rest) q o e = first o e
        where
          ahead : Pairs IsAhead (one ∷ rest)
          ahead = subst (λ (xs : List (ℕ × Packet)). Pairs IsAhead xs) q queue-ahead

          mine : Has one (starts_at net r) × (has_flit_at_source net S one ≡ true)
          mine = Has-filter (has_flit_at_source net S) one (starts_at net r) (subst (λ (xs : List (ℕ × Packet)). Has one xs) (sym q) (inl refl))

          known : (one.0 < length net.packets) × (one.1 ≡ packet_at net one.0) × ((packet_at net one.0).source ≡ r)
          known = in-starts one mine.0

          listed : Has one.0 (filter test (below (length net.packets)))
          listed = Has-kept test one.0 (below (length net.packets)) (below-has one.0 (length net.packets) known.0) (and_from _ _ (eq-eqb _ _ known.2) mine.1)

          is_one : one ≡ (one.0, packet_at net one.0)
          is_one = ap (λ (p : Packet). (one.0, p)) known.1

          others : (z : ℕ × Packet) → Has z rest → z.0 ≢ one.0
          others z h e = differ (each-at (IsAhead one) rest z ahead.0 h)
            where
              zk : Has z (starts_at net r)
              zk = (Has-filter (has_flit_at_source net S) z (starts_at net r) (subst (λ (xs : List (ℕ × Packet)). Has z xs) (sym q) (inr h))).0

              due : z.1.due ≡ one.1.due
              due = ap (λ (p : Packet). p.due) ((in-starts z zk).1 ∙ ap (packet_at net) e ∙ sym known.1)

              differ : IsAhead one z → ⊥
              differ (inl l) = let d = due in omega (arith, l, d)
              differ (inr k) = let l = k.1 in omega (arith, l, e)

          first : (o : Option ℕ) → first_waiting net S r ≡ o → Queue
          first None e = absurd (some_least (λ q. (packet_at net q).due) (filter test (below (length net.packets))) one.0 listed e)
          first (Some p) e = front one.0 rest (q ∙ ap (λ (y : ℕ × Packet). y ∷ rest) is_one) (e ∙ ap Some same) others (λ z h. subst (λ (y : ℕ × Packet). IsAhead y z) is_one (each-at (IsAhead one) rest z ahead.0 h))
            where
              precedes : Precedes (λ q. (packet_at net q).due) p one.0
              precedes = least_by-first (λ q. (packet_at net q).due) (filter test (below (length net.packets))) p one.0 (Pairs-filter (λ (a b : ℕ). a < b) test (below (length net.packets)) (below-rises (length net.packets))) e listed

              place : Has (p, packet_at net p) (one ∷ rest)
              place = subst (λ (xs : List (ℕ × Packet)). Has (p, packet_at net p) xs) q (waiting-in p e)

              due : one.1.due ≡ (packet_at net one.0).due
              due = ap (λ (y : Packet). y.due) known.1

              which : Has (p, packet_at net p) (one ∷ rest) → p ≡ one.0
              which (inl k) = ap (λ (y : ℕ × Packet). y.0) k
              which (inr h) = clash (each-at (IsAhead one) rest (p, packet_at net p) ahead.0 h) precedes
                where
                  clash : IsAhead one (p, packet_at net p) → Precedes (λ q. (packet_at net q).due) p one.0 → p ≡ one.0
                  clash (inl a) (inl b) = let d = due in absurd (omega (arith, a, b, d))
                  clash (inl a) (inr b) = let d = due in let k = b.0 in absurd (omega (arith, a, k, d))
                  clash (inr a) (inl b) = let d = due in let k = a.0 in absurd (omega (arith, k, b, d))
                  clash (inr a) (inr b) = let k = a.1 in let m = b.1 in absurd (omega (arith, k, m))

              same : p ≡ one.0
              same = which place

-- a filter after a filter
pub filter-both : {X : Type 0} (t u : X → Bool) (xs : List X) → filter (λ y. t y && u y) xs ≡ filter u (filter t xs)
filter-both t u [] = refl
filter-both t u (x ∷ xs) = at (t x) refl (u x) refl (filter-both t u xs)
  where
    at : (a : Bool) → t x ≡ a → (b : Bool) → u x ≡ b → filter (λ y. t y && u y) xs ≡ filter u (filter t xs) → filter (λ y. t y && u y) (x ∷ xs) ≡ filter u (filter t (x ∷ xs))
    at true e true k rest = rw (e, k) (ap (λ ys. x ∷ ys) rest)
    at true e false k rest = rw (e, k) rest
    at false e b k rest = rw e rest

-- the first is taken out
pub filter-others : (p : ℕ) (P : Packet) (rest : List (ℕ × Packet)) → ((z : ℕ × Packet) → Has z rest → z.0 ≢ p) → filter (λ (z : ℕ × Packet). not (nat_eq z.0 p)) ((p, P) ∷ rest) ≡ rest
filter-others p P rest other = rw (eq-eqb p p refl) (all rest other)
  where
    all : (xs : List (ℕ × Packet)) → ((z : ℕ × Packet) → Has z xs → z.0 ≢ p) → filter (λ (z : ℕ × Packet). not (nat_eq z.0 p)) xs ≡ xs
    all [] o = refl
    all (y ∷ ys) o = rw (ne_eqb y.0 p (o y (inl refl))) (ap (λ zs. y ∷ zs) (all ys (λ z h. o z (inr h))))
