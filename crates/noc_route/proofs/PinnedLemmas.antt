-- A rule has one relation.
use Rattle.std.proofs.Common.{◌≡◌, ℕ, ◌+◌, ◌*◌, ◌/◌, ◌%◌, ◌<◌, ◌≤◌, Bool, true, false, List, length, get_or, Some, refl, sym, subst, ap, ◌∙◌, arith, inl, inr}
use Rattle.std.specs.Prelude.{◌⊎◌, ◌&&◌, nat_eq, nat_lt, slice_index}
use Rattle.std.proofs.Math.Nat.{mod-lt, div-lt_iff_lt-mul, mul-le-mul_right}
use Rattle.std.proofs.lemmas.Bool.{cases_lt, eq-eqb, false≢true, lt-ltb}
use Rattle.std.proofs.lemmas.List.{ext_get_or}
use Rattle.noc_topo.specs.Shape.{nodes, local_port}
use Rattle.noc_topo.proofs.LinkLemmas.{nodes-some}
use Rattle.noc_packet.specs.Set.{has_bit}
use Rattle.noc_packet.proofs.SetLemmas.{same_set}
use Rattle.noc_route.specs.Built.{IsRelationOfRule}
use Rattle.noc_route.specs.Channel.{Channel, Link, Inject, Eject, arrival_of, channel_vc}
use Rattle.noc_route.specs.Relation.{RelationParts}
use Rattle.noc_route.specs.Routes.{Routes, width, pages, page_class, page_router, page_dst, set_at, permits, permits_at, is_sent, HasTableSize, IsRelation}
use Rattle.noc_route.proofs.EntryLemmas.{page-router}
use Rattle.noc_route.proofs.TrimLemmas.{index-parts, port-below}
use Rattle.noc_route.proofs.EnterLemmas.{page-whole}
use Rattle.noc_route.proofs.BuiltLemmas.{table, Exists, set_at-member, set_at-exists}

module _ (g : RelationParts) where
  -- a channel on which packets come to a router's input
  record IsFrom (r p v : ℕ) (c : Channel) : Type 0 where
    pub arrives : arrival_of g.grid c ≡ Some (r, p)
    pub vc : channel_vc c ≡ v
    pub sent : (sets : List ℕ) → is_sent (table g sets) c ≡ true

  -- an output channel, by its number k
  record IsOnto (r k : ℕ) (o : Channel) : Type 0 where
    pub asks : (sets : List ℕ) (m p v t : ℕ) → permits_at (table g sets) m (Some (r, p)) v t o ≡ has_bit (set_at (table g sets) m r p v t) k

  -- an entry with a member has such a channel
  some_from : (sets : List ℕ) → IsRelation (table g sets) → (m r p v t k : ℕ) → has_bit (set_at (table g sets) m r p v t) k ≡ true → (c : Channel) × IsFrom r p v c
  some_from sets built m r p v t k e =
      elim (built.reached m r p v t k e) [
        | inl home ↦ (Inject r v, record { arrives = ap (λ x. Some (r, x)) (sym home.0); vc = refl; sent = λ _. refl })
        | inr lead ↦ (
          Link lead.router (lead.channel / g.vcs) v,
          record {
            arrives = lead.link;
            vc = refl;
            sent = λ _. lt-ltb lead.router (nodes g.grid) (set_at-member (table g sets) m lead.router lead.in_port lead.in_vc t lead.channel lead.permitted).0.place.router;
          },
        )
      ]

  some_onto : (r k : ℕ) → 1 ≤ g.vcs → k < width g.grid g.vcs → (o : Channel) × IsOnto r k o
  some_onto r k some l = at (cases_lt (k / g.vcs) (local_port g.grid))
    where
      vc : k % g.vcs < g.vcs
      vc = mod-lt k {m = g.vcs} (omega (arith, some))

      at : (k / g.vcs < local_port g.grid) ⊎ (local_port g.grid ≤ k / g.vcs) → (o : Channel) × IsOnto r k o
      at (inl link) = (
        Link r (k / g.vcs) (k % g.vcs),
        record {
          asks = λ sets m p v t.
              let here : nat_eq r r ≡ true = eq-eqb r r refl in
              let port : nat_lt (k / g.vcs) (local_port g.grid) ≡ true = lt-ltb _ _ link in
              let number : nat_lt (k % g.vcs) g.vcs ≡ true = lt-ltb _ _ vc in
              rw (here, port, number) (ap (has_bit (set_at (table g sets) m r p v t)) (index-parts g.vcs k));
        },
      )
      at (inr past) = (
        Eject r (k % g.vcs),
        record {
          asks = λ sets m p v t.
              let here : nat_eq r r ≡ true = eq-eqb r r refl in
              let number : nat_lt (k % g.vcs) g.vcs ≡ true = lt-ltb _ _ vc in
              let local : local_port g.grid ≡ k / g.vcs = omega (arith, past, port-below g.grid g.vcs k some l) in
              rw (here, number) (ap (λ x. has_bit (set_at (table g sets) m r p v t) (x * g.vcs + k % g.vcs)) local ∙ ap (has_bit (set_at (table g sets) m r p v t)) (index-parts g.vcs k));
        },
      )

  -- what is permitted from the one to the other is a member
  permits-member : (sets : List ℕ) (m r p v t k : ℕ) (c o : Channel) → IsFrom r p v c → IsOnto r k o → permits (table g sets) m c t o ≡ has_bit (set_at (table g sets) m r p v t) k
  permits-member sets m r p v t k c o from onto =
      ap (λ b. b && permits_at (table g sets) m (arrival_of g.grid c) (channel_vc c) t o) (from.sent sets)
      ∙ ap (λ x. permits_at (table g sets) m x (channel_vc c) t o) from.arrives
      ∙ ap (λ x. permits_at (table g sets) m (Some (r, p)) x t o) from.vc
      ∙ onto.asks sets m p v t

  -- a member of one table is a member of the other
  member-other : (xs ys : List ℕ) → IsRelationOfRule g (table g xs) → IsRelationOfRule g (table g ys) → (m r p v t k : ℕ)
      → has_bit (set_at (table g xs) m r p v t) k ≡ true → has_bit (set_at (table g ys) m r p v t) k ≡ true
  member-other xs ys one other m r p v t k e =
      let from = some_from xs one.built m r p v t k e in
      let onto = some_onto r k one.built.table.some_vcs (one.built.real m r p v t k e) in
      let permitted = (one.exact m from.0 t onto.0).0 (permits-member xs m r p v t k from.0 onto.0 from.1 onto.1 ∙ e) in
      sym (permits-member ys m r p v t k from.0 onto.0 from.1 onto.1) ∙ (other.exact m from.0 t onto.0).1 permitted

  same-at : (xs ys : List ℕ) → IsRelationOfRule g (table g xs) → IsRelationOfRule g (table g ys) → (m r p v t : ℕ) → set_at (table g xs) m r p v t ≡ set_at (table g ys) m r p v t
  same-at xs ys one other m r p v t = same_set _ _ (λ k. at k (has_bit (set_at (table g xs) m r p v t) k) (has_bit (set_at (table g ys) m r p v t) k) refl refl)
    where
      at : (k : ℕ) (x y : Bool) → has_bit (set_at (table g xs) m r p v t) k ≡ x → has_bit (set_at (table g ys) m r p v t) k ≡ y
          → has_bit (set_at (table g xs) m r p v t) k ≡ has_bit (set_at (table g ys) m r p v t) k
      at k true y e f = e ∙ sym (member-other xs ys one other m r p v t k e)
      at k false false e f = e ∙ sym f
      at k false true e f = absurd (false≢true (sym e ∙ member-other ys xs other one m r p v t k f))

  -- each place of a table is that of an entry
  place-entry : (sets : List ℕ) (j : ℕ) → HasTableSize (table g sets) → j < length sets
      → (let b = j / width g.grid g.vcs in let i = j % width g.grid g.vcs in get_or sets j 0 ≡ set_at (table g sets) (page_class g.grid g.classes b) (page_router g.grid g.classes b) (i / g.vcs) (i % g.vcs) (page_dst g.grid b))
  place-entry sets j size l =
      let w = width g.grid g.vcs in
      let b = j / w in
      let i = j % w in
      let wide : 0 < w = (let one : 1 * g.vcs ≤ w = mul-le-mul_right g.vcs (omega arith) in omega (arith, one, size.some_vcs)) in
      let page : b < pages g.grid g.classes = (div-lt_iff_lt-mul {k = w} {x = j} {y = pages g.grid g.classes} wide).1 (omega (arith, l, size.long)) in
      let some : 1 ≤ nodes g.grid = omega (arith, nodes-some g.grid size.grid) in
      let there : Exists (table g sets) (page_class g.grid g.classes b) (page_router g.grid g.classes b) (i / g.vcs) (i % g.vcs) (page_dst g.grid b)
      = record {
        place = record {
          class = mod-lt (b / nodes g.grid) {m = g.classes} (omega (arith, size.some_classes));
          router = page-router b (nodes g.grid) g.classes some size.some_classes page;
          dst = mod-lt b {m = nodes g.grid} (omega (arith, some));
        };
        port = port-below g.grid g.vcs i size.some_vcs (mod-lt j {m = w} wide);
        vc = mod-lt i {m = g.vcs} (omega (arith, size.some_vcs));
      } in
      let index : b * w + i ≡ j = index-parts w j in
      sym (set_at-exists (table g sets) _ _ _ _ _ there ∙ ap (λ x. slice_index sets (x * w + (i / g.vcs * g.vcs + i % g.vcs))) (page-whole g.grid g.classes b)
      ∙ ap (λ x. slice_index sets (b * w + x)) (index-parts g.vcs i) ∙ ap (slice_index sets) index)

  same-sets : (xs ys : List ℕ) → IsRelationOfRule g (table g xs) → IsRelationOfRule g (table g ys) → xs ≡ ys
  same-sets xs ys one other =
      let long : length xs ≡ length ys = one.built.table.long ∙ sym other.built.table.long in
      ext_get_or 0 xs ys long (λ j l. place-entry xs j one.built.table l ∙ same-at xs ys one other _ _ _ _ _ ∙ sym (place-entry ys j other.built.table (omega (arith, long, l))))

  -- a table of the rule has the rule's numbers
  over-rule : (a : Routes) → IsRelationOfRule g a → a ≡ table g a.sets
  over-rule a h = λ i. record { grid = h.grid i; vcs = h.vcs i; classes = h.classes i; sets = a.sets }

  pub one-relation : (a b : Routes) → IsRelationOfRule g a → IsRelationOfRule g b → a ≡ b
  one-relation a b one other =
      let P : Routes → Type 0 = λ x. IsRelationOfRule g x in
      let sets = same-sets a.sets b.sets (subst P (over-rule a one) one) (subst P (over-rule b other) other) in
      over-rule a one ∙ ap (table g) sets ∙ sym (over-rule b other)
