-- Where channels are: the input channel with an index, and the index of an output channel.
use Rattle.std.proofs.Common.{◌≡◌, ℕ, ◌+◌, ◌*◌, ◌/◌, ◌%◌, ◌<◌, ◌≤◌, Bool, true, false, cond, Option, Some, None, refl, ap, sym, ◌∙◌, subst, arith}
use Rattle.std.specs.Prelude.{nat_eq, nat_lt, option_map, ◌&&◌}
use Rattle.std.proofs.lemmas.Bool.{eqb-false}
use Rattle.std.proofs.Math.Nat.{div-lt_iff_lt-mul, mod-lt}
use Rattle.noc_route.specs.Routes.{is_sent, permits_at}
use Rattle.noc_theory.proofs.Common.{filter_map, eqb-true, eq-eqb, ne_eqb, lt-ltb, none-some, same_Some, div-add-mod', div-mul-add, mod-mul-add, below, Has, IsGrid, nodes, ports, local_port, neighbour, IsLinkBack, link_back, has_bit, Channel, Link, Inject, Eject, arrival_of, sending_router, channel_vc, input_at, inputs, output_index, permits, set_at, Setup, size, arriving, leaving, all_inputs}
use Rattle.noc_theory.proofs.worms.GrantLemmas.{Has-below}
use Rattle.noc_theory.proofs.worms.MemberLemmas.{Has-filter_map, Has-flat_map, Has-flat_mapped, Has-filter_mapped}
use Rattle.noc_theory.proofs.worms.StateWordLemmas.{IsEject}
use Rattle.noc_theory.proofs.worms.OpeningLemmas.{below-has}
use Rattle.noc_theory.proofs.join.OrderedLemmas.{IsGood}

module _ (net : Setup) (good : IsGood net) where
  abbrev vcs : ℕ
  vcs = net.relation.vcs

  some_vcs : 0 < vcs
  some_vcs = good.relation.table.some_vcs

  grid : IsGrid net.relation.grid
  grid = good.relation.table.grid

  -- c arrives at router r, as input channel i
  pub record IsAt (r i : ℕ) (c : Channel) : Type 0 where
    pub router : r < nodes net.relation.grid
    pub index : i < size net
    pub found : arriving net r i ≡ Some c
    pub arrives : arrival_of net.relation.grid c ≡ Some (r, i / net.relation.vcs)
    pub vc : channel_vc c ≡ i % net.relation.vcs
    pub sent : is_sent net.relation c ≡ true

  pub arriving-at : (r i : ℕ) (c : Channel) → r < nodes net.relation.grid → i < size net → arriving net r i ≡ Some c → IsAt r i c
  arriving-at r i c l u e = by (nat_eq (i / vcs) (local_port net.relation.grid)) refl
    where
      by : (b : Bool) → nat_eq (i / vcs) (local_port net.relation.grid) ≡ b → IsAt r i c
      by true k =
          let g : Some (Inject r (i % vcs)) ≡ Some c = sym (let h : arriving net r i ≡ Some (Inject r (i % vcs)) = rw k refl in h) ∙ e in
          let same : Inject r (i % vcs) ≡ c = same_Some _ _ g in
          let port : i / vcs ≡ local_port net.relation.grid = eqb-true _ _ k in
          subst (λ (x : Channel). IsAt r i x) same
          (record { router = l; index = u; found = e ∙ ap Some (sym same); arrives = ap (λ p. Some (r, p)) (sym port); vc = refl; sent = refl })
      by false k = linked (neighbour net.relation.grid r (i / vcs)) refl
        where
          linked : (o : Option (ℕ × ℕ)) → neighbour net.relation.grid r (i / vcs) ≡ o → IsAt r i c
          linked None h =
              let g : None ≡ Some c = sym (let q : arriving net r i ≡ None = rw k (ap (option_map (λ (from : ℕ × ℕ). Link from.0 from.1 (i % vcs))) h) in q) ∙ e in absurd (none-some c g)
          linked (Some from) h =
              let was : arriving net r i ≡ Some (Link from.0 from.1 (i % vcs)) = rw k (ap (option_map (λ (x : ℕ × ℕ). Link x.0 x.1 (i % vcs))) h) in
              let same : Link from.0 from.1 (i % vcs) ≡ c = same_Some _ _ (sym was ∙ e) in
              let back : IsLinkBack net.relation.grid r (i / vcs) from.0 from.1 = link_back net.relation.grid r (i / vcs) from.0 from.1 grid l h in
              subst (λ (x : Channel). IsAt r i x) same
              (record { router = l; index = u; found = was; arrives = back.back; vc = refl; sent = lt-ltb _ _ back.node })

  -- each input channel of the network is one of a router
  pub input-at : (c : Channel) → Has c (all_inputs net) → (r : ℕ) × (i : ℕ) × IsAt r i c
  unfolding inputs
  input-at c h =
      let a = Has-flat_map (λ r. filter_map (input_at net.relation.grid vcs r) (below (ports net.relation.grid * vcs))) c (below (nodes net.relation.grid)) h in
      let b = Has-filter_map (input_at net.relation.grid vcs a.0) c (below (ports net.relation.grid * vcs)) a.2 in
      let r = Has-below a.0 (nodes net.relation.grid) a.1 in
      let i = Has-below b.0 (ports net.relation.grid * vcs) b.1 in
      (a.0, b.0, arriving-at a.0 b.0 c r i b.2)

  -- the place of a channel tells its router and index
  pub same-place : (r i s j : ℕ) (c : Channel) → IsAt r i c → IsAt s j c → (r ≡ s) × (i ≡ j)
  same-place r i s j c a b =
      let e : (r, i / vcs) ≡ (s, j / vcs) = same_Some _ _ (sym a.arrives ∙ b.arrives) in
      let port : i / vcs ≡ j / vcs = ap (λ (x : ℕ × ℕ). x.1) e in
      let vc : i % vcs ≡ j % vcs = sym a.vc ∙ b.vc in
      (ap (λ (x : ℕ × ℕ). x.0) e, sym (div-add-mod' i vcs) ∙ ap (λ q. q * vcs + i % vcs) port ∙ ap (λ m. j / vcs * vcs + m) vc ∙ div-add-mod' j vcs)

  -- a channel that arrives is an input channel of the network
  pub arrives-in : {r i : ℕ} {c : Channel} → IsAt r i c → Has c (all_inputs net)
  unfolding inputs
  arrives-in {r = r} {i = i} {c = c} at =
      Has-flat_mapped (λ r. filter_map (input_at net.relation.grid vcs r) (below (ports net.relation.grid * vcs))) r c (below (nodes net.relation.grid)) (below-has r (nodes net.relation.grid) at.router)
      (Has-filter_mapped (input_at net.relation.grid vcs r) i c (below (ports net.relation.grid * vcs)) (below-has i (ports net.relation.grid * vcs) at.index) at.found)

  -- a channel that arrives is no ejection channel
  pub not-eject : {r i : ℕ} {c : Channel} → IsAt r i c → IsEject c → ⊥
  not-eject {r = r} {i = i} {c = Link a b u} at e = e
  not-eject {r = r} {i = i} {c = Inject a u} at e = e
  not-eject {r = r} {i = i} {c = Eject a u} at e = none-some (r, i / vcs) at.arrives

  -- ---- output channels

  -- o is output channel j of router r
  pub record IsFrom (r j : ℕ) (o : Channel) : Type 0 where
    pub index : j < size net
    pub found : leaving net r j ≡ o
    pub is_index : output_index net.relation.grid net.relation.vcs o ≡ j

  pub in-size : (port vc : ℕ) → port ≤ local_port net.relation.grid → vc < vcs → port * vcs + vc < size net
  in-size port vc l u =
      let q : (port * vcs + vc) / vcs ≡ port = div-mul-add port vcs vc u in
      (div-lt_iff_lt-mul {k = vcs} {x = port * vcs + vc} {y = ports net.relation.grid} some_vcs).0 (omega (arith, q))

  pub eject-from : (n v : ℕ) → v < net.relation.vcs → IsFrom n (local_port net.relation.grid * net.relation.vcs + v) (Eject n v)
  eject-from n v u =
      let q : (local_port net.relation.grid * vcs + v) / vcs ≡ local_port net.relation.grid = div-mul-add _ vcs v u in
      let m : (local_port net.relation.grid * vcs + v) % vcs ≡ v = mod-mul-add _ vcs v u in
      let t : nat_eq ((local_port net.relation.grid * vcs + v) / vcs) (local_port net.relation.grid) ≡ true = eq-eqb _ _ q in
      record { index = in-size (local_port net.relation.grid) v (omega arith) u; found = rw t (ap (Eject n) m); is_index = refl }

  pub link-from : (r a v : ℕ) → a < local_port net.relation.grid → v < net.relation.vcs → IsFrom r (a * net.relation.vcs + v) (Link r a v)
  link-from r a v l u =
      let q : (a * vcs + v) / vcs ≡ a = div-mul-add a vcs v u in
      let m : (a * vcs + v) % vcs ≡ v = mod-mul-add a vcs v u in
      let t : nat_eq ((a * vcs + v) / vcs) (local_port net.relation.grid) ≡ false = ne_eqb _ _ (λ e. omega arith) in
      record { index = in-size a v (omega arith) u; found = rw t (ap (λ p. Link r p ((a * vcs + v) % vcs)) q ∙ ap (Link r a) m); is_index = refl }

  -- an output index by its port and virtual channel
  pub data OutputCase (r j : ℕ) : Type 0 where
    ejects : j / net.relation.vcs ≡ local_port net.relation.grid → leaving net r j ≡ Eject r (j % net.relation.vcs) → OutputCase r j
    links : j / net.relation.vcs < local_port net.relation.grid → leaving net r j ≡ Link r (j / net.relation.vcs) (j % net.relation.vcs) → OutputCase r j

  pub port-below : (j : ℕ) → j < size net → j / vcs < ports net.relation.grid
  port-below j l = (div-lt_iff_lt-mul {k = vcs} {x = j} {y = ports net.relation.grid} some_vcs).1 l

  pub mod-below : (j : ℕ) → j % net.relation.vcs < net.relation.vcs
  mod-below j = mod-lt j some_vcs

  pub output-case : (r j : ℕ) → j < size net → OutputCase r j
  output-case r j l = by (nat_eq (j / vcs) (local_port net.relation.grid)) refl
    where
      by : (b : Bool) → nat_eq (j / vcs) (local_port net.relation.grid) ≡ b → OutputCase r j
      by true k = ejects (eqb-true _ _ k) (rw k refl)
      by false k = let n = eqb-false _ _ k in let p = port-below j l in links (below-last (j / vcs) (local_port net.relation.grid) n p) (rw k refl)
        where
          below-last : (a b : ℕ) → (a ≡ b → ⊥) → a < b + 1 → a < b
          below-last a b n p = omega arith

  -- a channel that a router sends on is an output channel of it
  pub leaving-from : (r j : ℕ) → j < size net → IsFrom r j (leaving net r j)
  leaving-from r j l = by (output-case r j l)
    where
      by : OutputCase r j → IsFrom r j (leaving net r j)
      by (ejects p e) = record {
        index = l;
        found = refl;
        is_index = ap (output_index net.relation.grid vcs) e ∙ ap (λ q. q * vcs + j % vcs) (sym p) ∙ div-add-mod' j vcs;
      }
      by (links p e) = record { index = l; found = refl; is_index = ap (output_index net.relation.grid vcs) e ∙ div-add-mod' j vcs }

  pub begins-at : (r j : ℕ) → sending_router (leaving net r j) ≡ Some r
  begins-at r j = by (nat_eq (j / vcs) (local_port net.relation.grid))
    where
      by : (b : Bool) → sending_router (cond b (Eject r (j % vcs)) (Link r (j / vcs) (j % vcs))) ≡ Some r
      by true = refl
      by false = refl

  -- what the relation permits to a packet on input channel i of router r
  pub permits-at : (m t r i j : ℕ) (c : Channel) → IsAt r i c → j < size net
      → permits net.relation m c t (leaving net r j) ≡ has_bit (set_at net.relation m r (i / net.relation.vcs) (i % net.relation.vcs) t) j
  permits-at m t r i j c at l =
      ap (λ b. b && permits_at net.relation m (arrival_of net.relation.grid c) (channel_vc c) t (leaving net r j)) at.sent
      ∙ ap (λ (o : Option (ℕ × ℕ)). permits_at net.relation m o (channel_vc c) t (leaving net r j)) at.arrives
      ∙ ap (λ v. permits_at net.relation m (Some (r, i / vcs)) v t (leaving net r j)) at.vc
      ∙ by (output-case r j l)
    where
      same : nat_eq r r ≡ true
      same = eq-eqb r r refl

      low : nat_lt (j % vcs) vcs ≡ true
      low = lt-ltb _ _ (mod-below j)

      by : OutputCase r j → permits_at net.relation m (Some (r, i / vcs)) (i % vcs) t (leaving net r j) ≡ has_bit (set_at net.relation m r (i / vcs) (i % vcs) t) j
      by (ejects p e) =
          ap (permits_at net.relation m (Some (r, i / vcs)) (i % vcs) t) e
          ∙ rw same (rw low (ap (λ q. has_bit (set_at net.relation m r (i / vcs) (i % vcs) t) (q * vcs + j % vcs)) (sym p) ∙ ap (has_bit (set_at net.relation m r (i / vcs) (i % vcs) t)) (div-add-mod' j vcs)))
      by (links p e) =
          let port : nat_lt (j / vcs) (local_port net.relation.grid) ≡ true = lt-ltb _ _ p in
          ap (permits_at net.relation m (Some (r, i / vcs)) (i % vcs) t) e ∙ rw same (rw port (rw low (ap (has_bit (set_at net.relation m r (i / vcs) (i % vcs) t)) (div-add-mod' j vcs))))
