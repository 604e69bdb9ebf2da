-- The next channel of a channel, and which flit moves.
use Rattle.std.proofs.Common.{◌≡◌, ◌≢◌, ℕ, ◌+◌, ◌*◌, ◌≤◌, Bool, true, false, cond, List, [], ◌∷◌, Option, Some, None, refl, ap, sym, ◌∙◌, inl, inr, subst, arith}
use Rattle.std.specs.Prelude.{find, option_map, option_and_then, unwrap_or, ◌⊎◌, nat_eq, ◌&&◌}
use Rattle.noc_theory.proofs.Common.{false≢true, true≢false, eqb-true, eq-eqb, and_parts, and_from, none-some, same_Some, distance, Channel, Link, Inject, Eject, sending_router, Setup, State, Located, Place, Source, On, In, Out, place_of_flit, owner_of, owned_by, end_distance, end_of, leads_from, next_channel, front_in, is_in, is_the_flit, verdict_in, moved_place, gone_to, after_verdicts, is_moved, weight, hops, IsPath, Moved, is_some_of-true, is_moved-true, Has, IsValid}
use Rattle.noc_theory.proofs.worms.BuiltRecordLemmas.{IsBuilt}
use Rattle.noc_theory.proofs.worms.BufferLemmas.{find-passes, same_channel-refl, next-some}
use Rattle.noc_theory.proofs.worms.MemberLemmas.{find-has}
use Rattle.noc_theory.proofs.worms.OwnedLemmas.{of, of-has, has-of, owner-is}
use Rattle.noc_theory.proofs.worms.StateWordLemmas.{IsEject, IsKeyed, IsPlaced, class_of, goal, far_of}
use Rattle.noc_theory.proofs.worms.PathLemmas.{IsBehind, path-behind, path-tail}
use Rattle.noc_theory.proofs.worms.PlaceLemmas.{place-of-flit, flit-there, place-stepped, find-first, is_in-is}
use Rattle.noc_theory.proofs.worms.WormRecordLemmas.{IsWorm}

module _ (net : Setup) where
  -- a channel from which another leads ends where that begins, as far away
  pub leads-end : (c o : Channel) → leads_from net c o ≡ true → (r : ℕ) × (sending_router o ≡ Some r) × (end_of net.relation c ≡ Some r)
  leads-end c (Link r a v) e = (r, refl, is_some_of-true (end_of net.relation c) r e)
  leads-end c (Inject n v) e = absurd (false≢true e)
  leads-end c (Eject n v) e = (n, refl, is_some_of-true (end_of net.relation c) n e)

  pub end-far : (c : Channel) (r t : ℕ) → end_of net.relation c ≡ Some r → end_distance net.relation c t ≡ distance net.relation.grid r t
  end-far c r t e = ap (λ (o : Option ℕ). unwrap_or (option_map (λ x. distance net.relation.grid x t) o) 0) e

  pub no-end-eject : (c : Channel) (r : ℕ) → end_of net.relation c ≡ Some r → IsEject c → ⊥
  no-end-eject (Link a q v) r e k = k
  no-end-eject (Inject n v) r e k = k
  no-end-eject (Eject n v) r e k = none-some r e

  -- on a path the distance tells a channel
  same-far-in : (built : IsBuilt net) (m t : ℕ) (c d : Channel) (xs : List Channel) → IsPath net m t xs → Has c xs → Has d xs
      → (IsEject c → ⊥) → (IsEject d → ⊥) → end_distance net.relation c t ≡ end_distance net.relation d t → c ≡ d
  same-far-in built m t c d [] path h k a b e = elim h [ ]
  same-far-in built m t c d (x ∷ xs) path (inl s) (inl u) a b e = s ∙ sym u
  same-far-in built m t c d (x ∷ xs) path (inl s) (inr u) a b e =
      absurd (nearer d b (subst (λ (z : Channel). IsBehind net built m t z d) (sym s) (path-behind net built m t x xs path d u)) e)
    where
      nearer : (d : Channel) → (IsEject d → ⊥) → IsBehind net built m t c d → end_distance net.relation c t ≡ end_distance net.relation d t → ⊥
      nearer (Link r q v) b h e = omega arith
      nearer (Inject n v) b h e = h
      nearer (Eject n v) b h e = b tt
  same-far-in built m t c d (x ∷ xs) path (inr s) (inl u) a b e =
      absurd (nearer c a (subst (λ (z : Channel). IsBehind net built m t z c) (sym u) (path-behind net built m t x xs path c s)) (sym e))
    where
      nearer : (c : Channel) → (IsEject c → ⊥) → IsBehind net built m t d c → end_distance net.relation d t ≡ end_distance net.relation c t → ⊥
      nearer (Link r q v) b h e = omega arith
      nearer (Inject n v) b h e = h
      nearer (Eject n v) b h e = b tt
  same-far-in built m t c d (x ∷ xs) path (inr s) (inr u) a b e = same-far-in built m t c d xs (path-tail net built m t x xs path) s u a b e

module _ (net : Setup) (built : IsBuilt net) (F : State) (keyed : IsKeyed net F.at) (w : IsWorm net F.own (place_of_flit net F)) where
  pub same-far : (p : ℕ) (c d : Channel) → Has (c, p) F.own → Has (d, p) F.own → (IsEject c → ⊥) → (IsEject d → ⊥) → far_of net p c ≡ far_of net p d → c ≡ d
  same-far p c d h k = same-far-in net built (class_of net p) (goal net p) c d (of p F.own) (w.path p) (has-of c p F.own h) (has-of d p F.own k)

  -- the next channel of a channel that p owns
  pub record IsNext (p : ℕ) (c o : Channel) : Type 0 where
    pub owns : Has (o, p) F.own
    pub leads : leads_from net c o ≡ true

  pub next-is : (p : ℕ) (c o : Channel) → Has (c, p) F.own → next_channel net F c ≡ Some o → IsNext p c o
  next-is p c o h e =
      let own : owner_of net F c ≡ Some p = owner-is net F c p w.once h in
      let f : find (leads_from net c) (owned_by net F p) ≡ Some o = sym (ap (option_and_then (λ q. find (leads_from net c) (owned_by net F q))) own) ∙ e in
      record {
        owns = of-has o p F.own (find-has (leads_from net c) (owned_by net F p) o f);
        leads = find-passes (leads_from net c) (owned_by net F p) o f;
      }

  pub next-no-eject : (p : ℕ) (c o : Channel) → IsNext p c o → IsEject c → ⊥
  next-no-eject p c o x = let r = leads-end net c o x.leads in no-end-eject net c r.0 r.2

  pub far-link : (p : ℕ) (c : Channel) (r a v : ℕ) → IsNext p c (Link r a v) → far_of net p c ≡ far_of net p (Link r a v) + 1
  far-link p c r a v x =
      let l = leads-end net c (Link r a v) x.leads in
      let same : l.0 ≡ r = same_Some l.0 r (sym l.1) in
      end-far net c l.0 (goal net p) l.2 ∙ ap (λ y. distance net.relation.grid y (goal net p)) same ∙ (w.near (Link r a v) p x.owns).1

  pub far-eject : (p : ℕ) (c : Channel) (n v : ℕ) → IsNext p c (Eject n v) → far_of net p c ≡ 0
  far-eject p c n v x =
      let l = leads-end net c (Eject n v) x.leads in
      let same : l.0 ≡ n = same_Some l.0 n (sym l.1) in
      end-far net c l.0 (goal net p) l.2 ∙ ap (λ y. distance net.relation.grid y (goal net p)) same ∙ w.near (Eject n v) p x.owns

  -- no two channels of a packet have one next channel
  pub next-once : (p : ℕ) (c d o : Channel) → Has (c, p) F.own → Has (d, p) F.own → IsNext p c o → IsNext p d o → c ≡ d
  next-once p c d o h k x y =
      let l = leads-end net c o x.leads in
      let m = leads-end net d o y.leads in
      let same : l.0 ≡ m.0 = same_Some l.0 m.0 (sym l.1 ∙ m.1) in
      same-far p c d h k (next-no-eject p c o x) (next-no-eject p d o y)
      (end-far net c l.0 (goal net p) l.2 ∙ ap (λ z. distance net.relation.grid z (goal net p)) same ∙ sym (end-far net d m.0 (goal net p) m.2))

  pub weight-gone : (n p : ℕ) (c o : Channel) → IsNext p c o → weight net p (gone_to net n c (Some o)) ≡ 3 * far_of net p c
  weight-gone n p c (Link r a v) x = let f = far-link p c r a v x in omega arith
  weight-gone n p c (Inject m v) x = absurd (false≢true x.leads)
  weight-gone n p c (Eject m v) x = let f = far-eject p c m v x in omega arith

  -- what a place in a buffer weighs
  pub weight-in : (p : ℕ) (c : Channel) → IsPlaced net F.own p (In c) → (3 * far_of net p c + 1 ≤ weight net p (In c)) × (weight net p (In c) ≤ 3 * far_of net p c + 2)
  weight-in p (Link r a v) h = (omega arith, omega arith)
  weight-in p (Inject n v) h =
      let at_source : far_of net p (Inject n v) ≡ hops net p = ap (λ x. distance net.relation.grid x (goal net p)) (w.near (Inject n v) p h) in
      (omega arith, omega arith)
  weight-in p (Eject n v) h = elim h [ ]

  pub placed-in : (p : ℕ) (c : Channel) → IsPlaced net F.own p (In c) → Has (c, p) F.own × (IsEject c → ⊥)
  placed-in p (Link r a v) h = (h, (λ z. z))
  placed-in p (Inject n v) h = (h, (λ z. z))
  placed-in p (Eject n v) h = elim h [ ]

  -- the first flit in a buffer is of the owner of the channel, and has the least index there
  pub record IsFirst (c : Channel) (p i : ℕ) : Type 0 where
    pub flit : Located
    pub found : front_in net F c ≡ Some flit
    pub packet_is : flit.packet ≡ p
    pub index_is : flit.index ≡ i
    pub valid : IsValid net p i
    pub there : place_of_flit net F p i ≡ In c
    pub least : (j : ℕ) → IsValid net p j → place_of_flit net F p j ≡ In c → i ≤ j

  pub first-is : (c : Channel) (g : Located) → front_in net F c ≡ Some g → IsFirst c g.packet g.index
  first-is c g e =
      let test : Located → Bool = λ (f : Located). is_in c f.place in
      let member : Has g F.at = find-has test F.at g e in
      let in_c : g.place ≡ In c = is_in-is c g.place (find-passes test F.at g e) in
      record {
        flit = g;
        found = e;
        packet_is = refl;
        index_is = refl;
        valid = keyed.valid g member;
        there = place-of-flit net F keyed g member ∙ in_c;
        least = λ j v h.
            let m = flit-there net F keyed g.packet j v in
            let t : is_in c (place_of_flit net F g.packet j) ≡ true = ap (is_in c) h ∙ same_channel-refl c in
            find-first test F.at (record { packet = g.packet; index = j; place = place_of_flit net F g.packet j }) g keyed.sorted e m t refl;
      }

  module _ (n : ℕ) (still : (p i : ℕ) → IsValid net p i → (c : Channel) → place_of_flit net F p i ≢ On c) where
    abbrev pub T : State
    T = after_verdicts net n F

    abbrev pub at : ℕ → ℕ → Place
    at p i = place_of_flit net F p i

    abbrev pub to : ℕ → ℕ → Place
    to p i = place_of_flit net T p i

    -- flit i of p goes from the buffer of c to o
    pub record IsMoving (p i : ℕ) (c o : Channel) : Type 0 where
      pub was : at p i ≡ In c
      pub moves : verdict_in net F c ≡ Moved
      pub first : IsFirst c p i
      pub owns : Has (c, p) F.own
      pub goes : next_channel net F c ≡ Some o
      pub next : IsNext p c o
      pub now : to p i ≡ gone_to net n c (Some o)

    pub record IsStaying (p i : ℕ) : Type 0 where
      pub now : to p i ≡ at p i
      pub not_first : (c : Channel) → verdict_in net F c ≡ Moved → IsFirst c p i → ⊥

    abbrev pub IsMoved : ℕ → ℕ → Type 0
    IsMoved p i = IsStaying p i ⊎ ((c : Channel) × (o : Channel) × IsMoving p i c o)

    abbrev it : ℕ → ℕ → Located
    it p i = record { packet = p; index = i; place = at p i }

    goes-to : (p i : ℕ) → IsValid net p i → to p i ≡ moved_place net F n (it p i) (at p i)
    unfolding after_verdicts
    goes-to p i v = place-stepped net (λ (f : Located). moved_place net F n f f.place) F T keyed refl p i v

    -- a flit that is the first of its buffer is the one named
    the-flit : (p i : ℕ) (c : Channel) → IsFirst c p i → is_the_flit net (it p i) (front_in net F c) ≡ true
    the-flit p i c x = ap (is_the_flit net (it p i)) x.found ∙ and_from _ _ (eq-eqb p x.flit.packet (sym x.packet_is)) (eq-eqb i x.flit.index (sym x.index_is))

    flit-first : (p i : ℕ) (c : Channel) → is_the_flit net (it p i) (front_in net F c) ≡ true → IsFirst c p i
    flit-first p i c e = named (front_in net F c) refl
      where
        named : (o : Option Located) → front_in net F c ≡ o → IsFirst c p i
        named None f = absurd (false≢true (sym (ap (is_the_flit net (it p i)) f) ∙ e))
        named (Some g) f =
            let t : is_the_flit net (it p i) (Some g) ≡ true = sym (ap (is_the_flit net (it p i)) f) ∙ e in
            let parts = and_parts (nat_eq p g.packet) (nat_eq i g.index) t in
            subst (λ (x : ℕ). IsFirst c p x) (sym (eqb-true i g.index parts.1)) (subst (λ (x : ℕ). IsFirst c x g.index) (sym (eqb-true p g.packet parts.0)) (first-is c g f))

    pub moved-or-not : (p i : ℕ) → IsValid net p i → IsMoved p i
    moved-or-not p i v = cases (at p i) refl
      where
        out_of : (x : Place) → at p i ≡ x → ((c : Channel) → x ≡ In c → ⊥) → to p i ≡ at p i → IsMoved p i
        out_of x e none t = inl (record { now = t; not_first = λ c m f. none c (sym e ∙ f.there) })

        in_buffer : (c : Channel) → at p i ≡ In c → (b : Bool) → (is_moved (verdict_in net F c) && is_the_flit net (it p i) (front_in net F c)) ≡ b → IsMoved p i
        in_buffer c e false h =
            inl (record {
              now = goes-to p i v ∙ ap (moved_place net F n (it p i)) e ∙ ap (λ (b : Bool). cond b (gone_to net n c (next_channel net F c)) (In c)) h ∙ sym e;
              not_first = λ d m f.
                  let same : In d ≡ In c = sym f.there ∙ e in
                  let dc : d ≡ c = cc in
                  let t : (is_moved (verdict_in net F d) && is_the_flit net (it p i) (front_in net F d)) ≡ true = and_from _ _ (ap (is_moved) m) (the-flit p i d f) in
                  true≢false (sym t ∙ ap (λ (x : Channel). is_moved (verdict_in net F x) && is_the_flit net (it p i) (front_in net F x)) dc ∙ h);
            })
        in_buffer c e true h =
            let parts = and_parts (is_moved (verdict_in net F c)) (is_the_flit net (it p i) (front_in net F c)) h in
            let m : verdict_in net F c ≡ Moved = is_moved-true _ parts.0 in
            let x = next-some net F n c m in
            let here = placed-in p c (subst (λ (y : Place). IsPlaced net F.own p y) e (w.placed p i v)) in
            inr (
              c,
              x.0,
              record {
                was = e;
                moves = m;
                first = flit-first p i c parts.1;
                owns = here.0;
                goes = x.1;
                next = next-is p c x.0 here.0 x.1;
                now = goes-to p i v ∙ ap (moved_place net F n (it p i)) e ∙ ap (λ (b : Bool). cond b (gone_to net n c (next_channel net F c)) (In c)) h ∙ ap (gone_to net n c) x.1;
              },
            )

        cases : (x : Place) → at p i ≡ x → IsMoved p i
        cases Source e = out_of Source e (λ c s. cc s) (goes-to p i v ∙ ap (moved_place net F n (it p i)) e ∙ sym e)
        cases (On d) e = absurd (still p i v d e)
        cases (Out k) e = out_of (Out k) e (λ c s. cc s) (goes-to p i v ∙ ap (moved_place net F n (it p i)) e ∙ sym e)
        cases (In c) e = in_buffer c e (is_moved (verdict_in net F c) && is_the_flit net (it p i) (front_in net F c)) refl
