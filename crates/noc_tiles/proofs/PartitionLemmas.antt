-- A tile that is cut from a network.
use Rattle.std.proofs.Common.{◌≡◌, ◌⊎◌, inl, inr, ℕ, ◌+◌, ◌*◌, ◌/◌, ◌%◌, ◌<◌, ◌≤◌, true, false, List, length, get_or, take, drop, Option, Some, None, refl, ap, ap₂, sym, ◌∙◌, arith, subst, ⊎_elim}
use Rattle.std.proofs.lemmas.Bool.{cases_lt, false≢true}
use Rattle.std.proofs.lemmas.List.{get_or-take, get_or-drop, length-take-le, length-drop, length-map}
use Rattle.noc_topo.specs.Shape.{IsGrid, neighbour, nodes, local_port}
use Rattle.noc_topo.proofs.LinkLemmas.{link_back}
use Rattle.noc_packet.specs.declared.packet.Beat.{Beat}
use Rattle.noc_view.specs.View.{View, idle_beat}
use Rattle.noc_theory.specs.Halves.{HasItsBeats, beat_at}
use Rattle.noc_theory.specs.Lockstep.{lockstep_at}
use Rattle.noc_theory.specs.Network.{Setup}
use Rattle.noc_theory.proofs.runs.RunLemmas.{count_views, linked_wires}
use Rattle.noc_tiles.specs.Ends.{End}
use Rattle.noc_tiles.specs.TileStep.{is_own, is_from, is_inside, arrival_ports}
use Rattle.noc_tiles.specs.Tiles.{PartsFit}
use Rattle.noc_tiles.specs.Rings.{AreLeftOut, AreSlots, AreTakenIn, AreTakenOut}
use Rattle.noc_tiles.proofs.ClearLemmas.{place_at}
use Rattle.noc_tiles.proofs.CycleLemmas.{no_link}
use Rattle.noc_tiles.proofs.EdgeLemmas.{cases_bool}
use Rattle.noc_tiles.proofs.SentLemmas.{own-true, own-within}
use Rattle.noc_tiles.proofs.BoundaryLemmas.{place-get}
use Rattle.noc_tiles.proofs.EndsLemmas.{some_item}
use Rattle.noc_tiles.proofs.StartLemmas.{placed_views}

module _ (net : Setup) (sound : IsGrid net.relation.grid) (n first count : ℕ) (wide : first + count ≤ nodes net.relation.grid) (B b : List (List Beat))
    (flight : (r q : ℕ) → beat_at B r q ≡ beat_at (lockstep_at net n).wires r q)
    (own-beats : (r q : ℕ) → is_own first count r ≡ true → beat_at b r q ≡ beat_at B r q)
    (idle-beats : (r q : ℕ) → is_own first count r ≡ false → beat_at b r q ≡ idle_beat)
    (b-count : length b ≡ nodes net.relation.grid)
    (I O I0 O0 : List (Option End)) (workers : ℕ) (slots : AreSlots net.relation.grid workers B (nodes net.relation.grid * 6) I0 O0)
    (left-in : (m : ℕ) → first * 6 ≤ m → get_or I m None ≡ get_or I0 m None) (left-out : AreLeftOut net.relation.grid (first * 6) O0 O)
    (V U : List End) (ins : AreTakenIn net.relation.grid first count ((first + count) * 6) I V) (outs : AreTakenOut net.relation.grid first count ((first + count) * 6) O U) where
  abbrev pub own_views : List View
  own_views = take count (drop first (lockstep_at net n).views)

  pub views-count : length own_views ≡ count
  views-count = length-take-le count (drop first (lockstep_at net n).views) (let z = length-drop first (lockstep_at net n).views in let y = count_views net n in omega arith)

  pub view-at : (c : ℕ) (d : View) → c < count → get_or own_views c d ≡ get_or (lockstep_at net n).views (first + c) d
  view-at c d l = get_or-take count (drop first (lockstep_at net n).views) c d l ∙ get_or-drop first (lockstep_at net n).views c d

  -- what is known of the j-th inlet
  pub record InAt (j : ℕ) (e : End) : Type 0 where
    pub m : ℕ
    pub low : first * 6 ≤ m
    pub high : m < (first + count) * 6
    pub outside : is_inside first count (neighbour net.relation.grid (m / 6) (m % 6)) ≡ false
    pub slot : get_or I0 m None ≡ Some (get_or V j e)
    pub at : (get_or V j e).at ≡ (m / 6, m % 6)

  pub in-at : (j : ℕ) (e : End) → j < length V → InAt j e
  in-at j e l =
      let z = ins.each j e l in
      let s : get_or I0 z.0 None ≡ Some (get_or V j e) = sym (left-in z.0 z.1) ∙ z.4 in
      let z2 = z.2 in
      record { m = z.0; low = z.1; high = z.2; outside = z.3; slot = s; at = ((slots.each z.0 (omega arith)).ins (get_or V j e) s).0 }

  pub record OutAt (o : ℕ) (e : End) : Type 0 where
    pub r : ℕ
    pub q : ℕ
    pub node : r < nodes net.relation.grid
    pub port : q < 6
    pub other : is_own first count r ≡ false
    pub from : is_from first count (neighbour net.relation.grid r q) ≡ true
    pub slot : get_or O0 (r * 6 + q) None ≡ Some (get_or U o e)
    pub at : (get_or U o e).at ≡ (r, q)

  -- the sender of a wire
  sender : (r q : ℕ) → r < nodes net.relation.grid → (x : Option (ℕ × ℕ)) → neighbour net.relation.grid r q ≡ x → is_from first count x ≡ true
      → (s : ℕ) × (p : ℕ) × (s < nodes net.relation.grid) × (p < 6) × (neighbour net.relation.grid s p ≡ Some (r, q)) × (first ≤ s) × (s < first + count)
  sender r q l None e f = absurd (false≢true f)
  sender r q l (Some (s, p)) e f =
      let back = link_back net.relation.grid r q s p sound l e in
      let few = sound.few_dimensions in
      let w = own-within first count s f in
      (s, p, back.node, (let z = back.port in omega arith), back.back, w.0, w.1)

  out-slot : (r q : ℕ) → r < nodes net.relation.grid → is_from first count (neighbour net.relation.grid r q) ≡ true → get_or O (r * 6 + q) None ≡ get_or O0 (r * 6 + q) None
  out-slot r q l f =
      let s = sender r q l (neighbour net.relation.grid r q) refl f in
      let s5 = s.5 in
      left-out s.0 s.1 r q s.2 s.3 s.4 (omega arith)

  slot-place : (r q : ℕ) (e : End) → r < nodes net.relation.grid → q < 6 → get_or O0 (r * 6 + q) None ≡ Some e → e.at ≡ (r, q)
  slot-place r q e l h f =
      let a : (r * 6 + q) / 6 ≡ r = omega arith in
      let c : (r * 6 + q) % 6 ≡ q = omega arith in
      ((slots.each (r * 6 + q) (omega arith)).outs e f).0 ∙ ap₂ place_at a c

  pub out-at : (o : ℕ) (e : End) → o < length U → OutAt o e
  out-at o e l =
      let z = outs.each o e l in
      let s : get_or O0 (z.0 * 6 + z.1) None ≡ Some (get_or U o e) = sym (out-slot z.0 z.1 z.2 z.5) ∙ z.6 in
      record { r = z.0; q = z.1; node = z.2; port = z.3; other = z.4; from = z.5; slot = s; at = slot-place z.0 z.1 (get_or U o e) z.2 z.3 s }

  linked-at : (r q : ℕ) (x : Option (ℕ × ℕ)) → neighbour net.relation.grid r q ≡ x → (is_inside first count x ≡ false) ⊎ (is_from first count x ≡ true) → q < local_port net.relation.grid
  linked-at r q x e h =
      ⊎_elim (λ (l : q < local_port net.relation.grid). l)
      (λ (past : local_port net.relation.grid ≤ q).
      let none : x ≡ None = sym e ∙ no_link net.relation r q past in
      ⊎_elim (λ z. absurd (false≢true (sym z ∙ ap (is_inside first count) none))) (λ z. absurd (false≢true (sym (ap (is_from first count) none) ∙ z))) h)
      (cases_lt q (local_port net.relation.grid))

  pub place-in : (j : ℕ) (l : j < length (arrival_ports V)) → (e : End) × (j < length V) × (get_or (arrival_ports V) j (0, 0) ≡ (get_or V j e).at)
  place-in j l = let h : j < length V = rw length-map at l in let e = some_item V j h in (e, h, place-get V j (0, 0) e h)

  pub place-out : (o : ℕ) (l : o < length (arrival_ports U)) → (e : End) × (o < length U) × (get_or (arrival_ports U) o (0, 0) ≡ (get_or U o e).at)
  place-out o l = let h : o < length U = rw length-map at l in let e = some_item U o h in (e, h, place-get U o (0, 0) e h)

  abbrev IsLinkOf : ℕ × ℕ → Type 0
  IsLinkOf p = (p.0 < nodes net.relation.grid) × (p.1 < local_port net.relation.grid)

  own-row : (m : ℕ) → first * 6 ≤ m → m < (first + count) * 6 → is_own first count (m / 6) ≡ true
  own-row m l h = own-true first count (m / 6) (omega arith) (omega arith)

  pub parts-fit : PartsFit net.relation first (arrival_ports V) (arrival_ports U) own_views b
  parts-fit =
      let vc = views-count in
      let own-is : (r : ℕ) → is_own first (length own_views) r ≡ is_own first count r = λ r. ap (λ z. is_own first z r) vc in
      record {
        wide = omega arith;
        count = b-count;
        placed = λ i d l.
            let l' : i < count = omega arith in
            subst (HasItsBeats net.relation (first + i)) (sym (view-at i d l')) (placed_views net n (first + i) d (omega arith));
        linked = λ r q l. ⊎_elim (λ own. own-beats r q own ∙ (flight r q ∙ linked_wires net n r q l)) (λ other. idle-beats r q other) (cases_bool (is_own first count r));
        idle = λ r q h. idle-beats r q (sym (own-is r) ∙ h);
        within = λ j l.
            let P = place-in j l in
            let a = in-at j P.0 P.1 in
            let high = a.high in
            subst IsLinkOf (sym (P.2 ∙ a.at)) (omega arith, linked-at (a.m / 6) (a.m % 6) (neighbour net.relation.grid (a.m / 6) (a.m % 6)) refl (inl a.outside));
        own = λ j l.
            let P = place-in j l in
            let a = in-at j P.0 P.1 in
            own-is (get_or (arrival_ports V) j (0, 0)).0 ∙ (ap (λ (p : ℕ × ℕ). is_own first count p.0) (P.2 ∙ a.at) ∙ own-row a.m a.low a.high);
        outs_within = λ o l.
            let P = place-out o l in
            let a = out-at o P.0 P.1 in
            subst IsLinkOf (sym (P.2 ∙ a.at)) (a.node, linked-at a.r a.q (neighbour net.relation.grid a.r a.q) refl (inr a.from));
        others = λ o l.
            let P = place-out o l in
            let a = out-at o P.0 P.1 in
            own-is (get_or (arrival_ports U) o (0, 0)).0 ∙ (ap (λ (p : ℕ × ℕ). is_own first count p.0) (P.2 ∙ a.at) ∙ a.other);
        leaves = λ r q l other from.
            let f : is_from first count (neighbour net.relation.grid r q) ≡ true = ap (λ z. is_from first z (neighbour net.relation.grid r q)) (sym vc) ∙ from in
            let s = sender r q l (neighbour net.relation.grid r q) refl f in
            let s3 = s.3 in
            let s5 = s.5 in
            let s6 = s.6 in
            let m = s.0 * 6 + s.1 in
            let a : (s.0 * 6 + s.1) / 6 ≡ s.0 = omega arith in
            let c : (s.0 * 6 + s.1) % 6 ≡ s.1 = omega arith in
            let o = outs.covers m r q (omega arith) (omega arith) (ap₂ (neighbour net.relation.grid) a c ∙ s.4) (sym (own-is r) ∙ other) in
            let e = some_item U o.0 o.1 in
            let q_in : q < 6 = let z = linked-at r q (neighbour net.relation.grid r q) refl (inr f) in let few = sound.few_dimensions in omega arith in
            let slot : get_or O0 (r * 6 + q) None ≡ Some (get_or U o.0 e) = sym (out-slot r q l f) ∙ o.2 e in
            (o.0, rw length-map o.1, place-get U o.0 (0, 0) e o.1 ∙ slot-place r q (get_or U o.0 e) l q_in slot);
      }

  pub tile-covers : (c q : ℕ) → c < count → is_inside first count (neighbour net.relation.grid (first + c) q) ≡ true ⊎ ((j : ℕ) × (j < length (arrival_ports V)) × (get_or (arrival_ports V) j (0, 0) ≡ place_at (first + c) q))
  tile-covers c q l =
      ⊎_elim (λ (small : q < 6).
      let m = (first + c) * 6 + q in
      let a : ((first + c) * 6 + q) / 6 ≡ first + c = omega arith in
      let d : ((first + c) * 6 + q) % 6 ≡ q = omega arith in
      ⊎_elim (λ z. inl (ap (is_inside first count) (ap₂ (neighbour net.relation.grid) (sym a) (sym d)) ∙ z))
      (λ z.
      let e = some_item V z.0 z.1 in
      let slot : get_or I0 m None ≡ Some (get_or V z.0 e) = sym (left-in m (omega arith)) ∙ z.2 e in
      inr (z.0, rw length-map z.1, place-get V z.0 (0, 0) e z.1 ∙ (((slots.each m (omega arith)).ins (get_or V z.0 e) slot).0 ∙ ap₂ place_at a d)))
      (ins.covers m (omega arith) (omega arith)))
      (λ (large : 6 ≤ q). inl (ap (is_inside first count) (no_link net.relation (first + c) q (let few = sound.few_dimensions in omega arith))))
      (cases_lt q 6)
