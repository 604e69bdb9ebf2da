-- From the tiles that came back to the network.
use Rattle.std.proofs.Common.{◌≡◌, ◌≢◌, inl, inr, ℕ, zero, suc, ◌+◌, ◌<◌, ◌≤◌, Bool, true, false, List, [], ◌∷◌, ◌++◌, length, get_or, take, Vec, Global, vec_len, Option, Some, None, refl, ap, sym, ◌∙◌, arith, subst, ⊎_elim}
use Rattle.std.specs.List.{flat_map}
use Rattle.std.proofs.lemmas.Bool.{cases_lt, false≢true}
use Rattle.std.proofs.lemmas.List.{get_or-map, length-map, length-append, get_or_push, get_or_append_left, take_all}
use Rattle.noc_topo.specs.Shape.{neighbour, nodes}
use Rattle.noc_topo.proofs.LinkLemmas.{neighbour-range}
use Rattle.noc_packet.specs.declared.packet.Beat.{Beat}
use Rattle.noc_route.specs.Routes.{Routes}
use Rattle.noc_view.specs.View.{View, idle_beat}
use Rattle.noc_theory.specs.Halves.{beat_at}
use Rattle.noc_theory.specs.Network.{Setup}
use Rattle.noc_theory.proofs.runs.RunLemmas.{count_views}
use Rattle.noc_tiles.specs.Ends.{End}
use Rattle.noc_tiles.specs.TileStep.{Layout, TileState, is_own, is_from, is_inside, arrival_ports, ends_after_rows, tile_after_cycle, after, beats_put}
use Rattle.noc_tiles.specs.Tiles.{IsReady, IsSameTile, AllEnded, Gating, Runs, inlets, outlets, layout_of, state_of}
use Rattle.noc_tiles.specs.Partition.{AllWhole, IsPartition, IsWire, index_of, routers_of}
use Rattle.noc_tiles.specs.declared.tile.Tile.{Tile}
use Rattle.noc_tiles.proofs.FlatLemmas.{offset, flat-at, offset-lt, apart, Found, flat-find, column, fed_all-at, length-puts, length-put_by, puts-at}
use Rattle.noc_tiles.proofs.RunLemmas.{length-fed_all}
use Rattle.noc_tiles.proofs.SentLemmas.{own-true, own-false, own-within}
use Rattle.noc_tiles.specs.Together.{Trace, beat_carried, in_flight}
use Rattle.noc_tiles.proofs.ClosingLemmas.{steps-count, views-after}

-- ---- the runs of the tiles, one by one

pub record Ran (g : Routes) (k : ℕ) (a b : Tile) : Type 0 where
  pub same : IsSameTile a b
  pub runs : Runs g k a b

abbrev pub AllRuns : Routes → ℕ → List Tile → List Tile → Type 0
AllRuns g k [] [] = Unit {0}
AllRuns g k [] (b ∷ bs) = ⊥
AllRuns g k (a ∷ as') [] = ⊥
AllRuns g k (a ∷ as') (b ∷ bs) = Ran g k a b × AllRuns g k as' bs

pub all_runs : (g : Routes) (s : Bool) (o : Gating) (k : ℕ) (xs ys : List Tile) → AllEnded g s o xs ys → ((t : ℕ) (d : Tile) → t < length xs → (get_or xs t d).cycles ≡ k) → AllWhole ys → AllRuns g k xs ys
all_runs g s o k [] [] h c w = tt
all_runs g s o k [] (b ∷ bs) h c w = absurd h
all_runs g s o k (a ∷ as') [] h c w = absurd h
all_runs g s o k (a ∷ as') (b ∷ bs) h c w =
    let P : ℕ → Type 0 = λ n. Runs g n a b in
    (record { same = h.0.same; runs = subst P (c 0 a (omega arith)) (h.0.ran (w 0 b (omega arith))) }, all_runs g s o k as' bs h.1 (λ t d l. c (suc t) d (omega arith)) (λ t d l. w (suc t) d (omega arith)))

-- where all tiles are whole, the gate was shut to none of their workers
pub all_asked : (g : Routes) (s : Bool) (o : Gating) (xs ys : List Tile) → AllEnded g s o xs ys → AllWhole ys → (t : ℕ) (d : Tile) → t < length xs
    → (k : ℕ) → k < (get_or xs t d).cycles → o.shuts (get_or xs t d).worker ((get_or xs t d).start + k) ≡ false
all_asked g s o [] ys h w t d l k u = absurd (omega arith)
all_asked g s o (a ∷ as') [] h w t d l k u = absurd h
all_asked g s o (a ∷ as') (b ∷ bs) h w zero d l k u = h.0.asked (w 0 b (omega arith)) k u
all_asked g s o (a ∷ as') (b ∷ bs) h w (suc t) d l k u = all_asked g s o as' bs h.1 (λ t d l. w (suc t) d (omega arith)) t d (omega arith) k u

pub same_count : (g : Routes) (k : ℕ) (xs ys : List Tile) → AllRuns g k xs ys → length ys ≡ length xs
same_count g k [] [] r = refl
same_count g k [] (b ∷ bs) r = absurd r
same_count g k (a ∷ as') [] r = absurd r
same_count g k (a ∷ as') (b ∷ bs) r = ap suc (same_count g k as' bs r.1)

-- the rows that each tile received
abbrev pub received_of : (g : Routes) (k : ℕ) (xs ys : List Tile) → AllRuns g k xs ys → List (List (List Beat))
received_of g k [] ys r = []
received_of g k (a ∷ as') [] r = []
received_of g k (a ∷ as') (b ∷ bs) r = r.0.runs.rows ∷ received_of g k as' bs r.1

-- a run by the rows
pub record RunsBy (g : Routes) (k : ℕ) (a b : Tile) (rows : List (List Beat)) : Type 0 where
  pub same : IsSameTile a b
  pub count : length rows ≡ k
  pub width : (i : ℕ) → i < k → length (get_or rows i []) ≡ length (inlets a)
  pub views : b.routers.items ≡ (after g (layout_of a) a.start (state_of a) rows).views
  pub wires : (r q : ℕ) → r < nodes g.grid → beat_at b.beats.items r q ≡ (after g (layout_of a) a.start (state_of a) rows).wires r q
  pub ins : inlets b ≡ ends_after_rows (inlets a) rows
  pub outs : outlets b ≡ ends_after_rows (outlets a) (beats_put g (layout_of a) a.start (state_of a) rows)

pub runs_at : (g : Routes) (k : ℕ) (xs ys : List Tile) (r : AllRuns g k xs ys) (t : ℕ) (d : Tile) → t < length xs → RunsBy g k (get_or xs t d) (get_or ys t d) (get_or (received_of g k xs ys r) t [])
runs_at g k [] ys r t d l = absurd (omega arith)
runs_at g k (a ∷ as') [] r t d l = absurd r
runs_at g k (a ∷ as') (b ∷ bs) r zero d l = let q = r.0.runs in record { same = r.0.same; count = q.count; width = q.width; views = q.views; wires = q.wires; ins = q.ins; outs = q.outs }
runs_at g k (a ∷ as') (b ∷ bs) r (suc t) d l = runs_at g k as' bs r.1 t d (omega arith)

-- parts with the same lengths stand at the same places
pub offset-same : {Y : Type 0} (f : Tile → List Y) (g : Routes) (k : ℕ) (xs ys : List Tile) → AllRuns g k xs ys → ((t : ℕ) (d : Tile) → t < length xs → length (f (get_or ys t d)) ≡ length (f (get_or xs t d)))
    → (t : ℕ) → offset f ys t ≡ offset f xs t
offset-same f g k xs ys r s zero = refl
offset-same f g k [] [] r s (suc t) = refl
offset-same f g k [] (b ∷ bs) r s (suc t) = absurd r
offset-same f g k (a ∷ as') [] r s (suc t) = absurd r
offset-same f g k (a ∷ as') (b ∷ bs) r s (suc t) =
    let n = offset-same f g k as' bs r.1 (λ t d l. s (suc t) d (omega arith)) t in
    let e = s 0 a (omega arith) in
    let p = length-append (f a) (flat_map f (take t as')) in
    let q = length-append (f b) (flat_map f (take t bs)) in
    omega arith

pub flat-same : {Y : Type 0} (f : Tile → List Y) (g : Routes) (k : ℕ) (xs ys : List Tile) → AllRuns g k xs ys → ((t : ℕ) (d : Tile) → t < length xs → length (f (get_or ys t d)) ≡ length (f (get_or xs t d)))
    → length (flat_map f ys) ≡ length (flat_map f xs)
flat-same f g k xs ys r s =
    let c = same_count g k xs ys r in
    let n = offset-same f g k xs ys r s (length xs) in
    ap (λ q. length (flat_map f q)) (sym (take_all (length xs) ys (omega arith))) ∙ (n ∙ ap (λ q. length (flat_map f q)) (take_all (length xs) xs (omega arith)))

-- two lists per tile, of the same lengths
pub offset-two : {Y Z : Type 0} (f : Tile → List Y) (h : Tile → List Z) (xs : List Tile) → ((t : ℕ) (d : Tile) → t < length xs → length (f (get_or xs t d)) ≡ length (h (get_or xs t d))) → (t : ℕ) → offset f xs t ≡ offset h xs t
offset-two f h xs s zero = refl
offset-two f h [] s (suc t) = refl
offset-two f h (a ∷ as') s (suc t) =
    let n = offset-two f h as' (λ t d l. s (suc t) d (omega arith)) t in
    let e = s 0 a (omega arith) in
    let p = length-append (f a) (flat_map f (take t as')) in
    let q = length-append (h a) (flat_map h (take t as')) in
    omega arith

pub flat-two : {Y Z : Type 0} (f : Tile → List Y) (h : Tile → List Z) (xs : List Tile) → ((t : ℕ) (d : Tile) → t < length xs → length (f (get_or xs t d)) ≡ length (h (get_or xs t d))) → length (flat_map f xs) ≡ length (flat_map h xs)
flat-two f h xs s =
    let n = offset-two f h xs s (length xs) in
    ap (λ q. length (flat_map f q)) (sym (take_all (length xs) xs (omega arith))) ∙ (n ∙ ap (λ q. length (flat_map h q)) (take_all (length xs) xs (omega arith)))

-- an end after k beats
pub record Moved (k : ℕ) (v w : End) : Type 0 where
  pub at : w.at ≡ v.at
  pub ring : w.ring ≡ v.ring
  pub more : List Beat
  pub count : length more ≡ k
  pub past : w.past ≡ v.past ++ more

module _ (g : Routes) (k : ℕ) (a b : Tile) (rows : List (List Beat)) (r : RunsBy g k a b rows) where
  abbrev pub given : List (List Beat)
  given = beats_put g (layout_of a) a.start (state_of a) rows

  pub inlet-at : (j : ℕ) (e : End) → j < length (inlets a) → get_or (inlets b) j e ≡ record { at = (get_or (inlets a) j e).at; ring = (get_or (inlets a) j e).ring; past = (get_or (inlets a) j e).past ++ column j rows }
  inlet-at j e l = ap (λ q. get_or q j e) r.ins ∙ fed_all-at (inlets a) rows j e l (λ i h. r.width i (let q = r.count in omega arith))

  pub outlet-at : (j : ℕ) (e : End) → j < length (outlets a)
      → get_or (outlets b) j e ≡ record { at = (get_or (outlets a) j e).at; ring = (get_or (outlets a) j e).ring; past = (get_or (outlets a) j e).past ++ column j given }
  outlet-at j e l =
      let P = layout_of a in
      let n = length-puts g P a.start (state_of a) rows in
      let o : length P.outs ≡ length (outlets a) = length-map (outlets a) (λ (w : End). w.at) in
      ap (λ q. get_or q j e) r.outs
      ∙ fed_all-at (outlets a) given j e l
      (λ i h. ap length (puts-at g P a.start (state_of a) rows i (omega arith)) ∙ (length-put_by g P _ ∙ o))

  pub length-inlets : length (inlets b) ≡ length (inlets a)
  length-inlets = ap length r.ins ∙ length-fed_all (inlets a) rows

  pub length-outlets : length (outlets b) ≡ length (outlets a)
  length-outlets = ap length r.outs ∙ length-fed_all (outlets a) given

pub vec-length : {X : Type 0} (v : Vec X Global) → vec_len v ≡ length v.items
vec-length v = v.ok.0

pub found-get : {Y : Type 0} (f : Tile → List Y) (zs : List Tile) (i : ℕ) (d : Tile) (F : Found f zs i d) (e : Y) → get_or (flat_map f zs) i e ≡ get_or (f (get_or zs F.t d)) F.j e
found-get f zs i d F e = ap (λ q. get_or (flat_map f zs) q e) F.is ∙ flat-at f zs F.t F.j d e F.in_list F.in_part

pub place-get : (ws : List End) (j : ℕ) (p : ℕ × ℕ) (e : End) → j < length ws → get_or (arrival_ports ws) j p ≡ (get_or ws j e).at
place-get ws j p e l = get_or-map (λ (w : End). w.at) ws j e p l

pub stream : (w x : Beat) (cs ds : List Beat) → (w ∷ []) ++ cs ≡ ds ++ x ∷ [] → (i : ℕ) → i < length ds → get_or ds i idle_beat ≡ get_or (w ∷ cs) i idle_beat
stream w x cs ds e i l = sym (get_or_append_left ds (x ∷ []) idle_beat i l) ∙ sym (ap (λ q. get_or q i idle_beat) e)

pub stream-last : (w x : Beat) (cs ds : List Beat) → (w ∷ []) ++ cs ≡ ds ++ x ∷ [] → (i : ℕ) → length ds ≡ i → x ≡ get_or (w ∷ cs) i idle_beat
stream-last w x cs ds e i l = sym (get_or_push ds x idle_beat i l) ∙ sym (ap (λ q. get_or q i idle_beat) e)

pub length-after : (net : Setup) (P : Layout) (n : ℕ) (T : TileState) (rows : List (List Beat)) → length (after net.relation P n T rows).views ≡ length T.views
length-after net P n T [] = refl
length-after net P n T (row ∷ rows) =
    length-after net P (suc n) (tile_after_cycle net.relation P n T row) rows
    ∙ (ap length (views-after net P _) ∙ (length-map _ (λ (s : View × List Beat). s.0) ∙ steps-count net P n T row))

-- ---- all tiles

module _ (net : Setup) (n k : ℕ) (I O : List (Option End)) (xs : List Tile) (W : IsPartition net n k I O xs) (d : Tile) where
  abbrev pub set_at : (t : ℕ) → t < length xs → IsReady net.relation (get_or xs t d)
  set_at t l = (W.tiles t d l).can.ready

  routers-count : length (flat_map routers_of xs) ≡ nodes net.relation.grid
  routers-count = ap length W.views ∙ count_views net n

  -- the tile of a router
  pub owner : (s : ℕ) → s < nodes net.relation.grid → Found routers_of xs s d
  owner s l = flat-find routers_of xs s d (let q = routers-count in omega arith)

  own-found : (s : ℕ) (F : Found routers_of xs s d) → is_own (get_or xs F.t d).first (length (routers_of (get_or xs F.t d))) s ≡ true
  own-found s F =
      let f = W.firsts F.t d F.in_list in
      let i = F.is in
      let p = F.in_part in
      own-true (get_or xs F.t d).first (length (routers_of (get_or xs F.t d))) s (omega arith) (omega arith)

  -- a router of one tile is none of another
  other-tile : (t u r : ℕ) → t < length xs → u < length xs → t ≢ u → is_own (get_or xs t d).first (length (routers_of (get_or xs t d))) r ≡ true
      → is_own (get_or xs u d).first (length (routers_of (get_or xs u d))) r ≡ false
  other-tile t u r tl ul ne own =
      let w = own-within (get_or xs t d).first (length (routers_of (get_or xs t d))) r own in
      let w0 = w.0 in
      let w1 = w.1 in
      let f = W.firsts t d tl in
      let h = W.firsts u d ul in
      own-false (get_or xs u d).first (length (routers_of (get_or xs u d))) r
      (⊎_elim (λ (l : t < u). let z = apart routers_of xs t u d l ul in inl (omega arith)) (λ (l : u ≤ t). let z = apart routers_of xs u t d (grind arith) tl in inr (omega arith)) (cases_lt t u))

  -- the other end of a wire that comes from another tile
  pub record FarEnd (p : ℕ × ℕ) : Type 0 where
    pub u : ℕ
    pub o : ℕ
    pub um : u < length xs
    pub ol : o < length (arrival_ports (outlets (get_or xs u d)))
    pub at : get_or (arrival_ports (outlets (get_or xs u d))) o (0, 0) ≡ p

  far_end-from : (t : ℕ) → t < length xs → (p : ℕ × ℕ) → p.0 < nodes net.relation.grid → is_own (get_or xs t d).first (length (routers_of (get_or xs t d))) p.0 ≡ true
      → (from : Option (ℕ × ℕ)) → neighbour net.relation.grid p.0 p.1 ≡ from → is_inside (get_or xs t d).first (length (routers_of (get_or xs t d))) from ≡ false → FarEnd p
  far_end-from t l p r own None e h = absurd (false≢true (sym h))
  far_end-from t l p r own (Some from) e h =
      let s = from.0 in
      let range = neighbour-range net.relation.grid p.0 p.1 (Some from) W.grid r e in
      let F = owner s range.0 in
      let u = F.t in
      let b = get_or xs u d in
      let ne : t ≢ u = λ z. false≢true (sym h ∙ ap (λ (q : ℕ). is_own (get_or xs q d).first (length (routers_of (get_or xs q d))) s) z ∙ own-found s F) in
      let not = other-tile t u p.0 l F.in_list ne own in
      let f : is_from b.first (length (routers_of b)) (neighbour net.relation.grid p.0 p.1) ≡ true = ap (is_from b.first (length (routers_of b))) e ∙ own-found s F in
      let o = (set_at u F.in_list).parts.leaves p.0 p.1 r not f in
      record { u = u; o = o.0; um = F.in_list; ol = o.1; at = o.2 }

  pub far_end : (t j : ℕ) (l : t < length xs) → j < length (arrival_ports (inlets (get_or xs t d))) → FarEnd (get_or (arrival_ports (inlets (get_or xs t d))) j (0, 0))
  far_end t j l h =
      let p = get_or (arrival_ports (inlets (get_or xs t d))) j (0, 0) in
      let s = (set_at t l).parts in
      far_end-from t l p (s.within j h).0 (s.own j h) (neighbour net.relation.grid p.0 p.1) refl ((W.tiles t d l).crossing j h)

  pub in-slot : (i : ℕ) (e : End) → i < length (flat_map inlets xs) → get_or I (index_of (get_or (flat_map inlets xs) i e).at) None ≡ Some (get_or (flat_map inlets xs) i e)
  in-slot i e l =
      let F = flat-find inlets xs i d l in
      let x = found-get inlets xs i d F e in
      ap (λ (w : End). get_or I (index_of w.at) None) x ∙ ((W.tiles F.t d F.in_list).ins F.j e F.in_part ∙ ap (λ (w : End). Some w) (sym x))

  pub out-slot : (i : ℕ) (e : End) → i < length (flat_map outlets xs) → get_or O (index_of (get_or (flat_map outlets xs) i e).at) None ≡ Some (get_or (flat_map outlets xs) i e)
  out-slot i e l =
      let F = flat-find outlets xs i d l in
      let x = found-get outlets xs i d F e in
      ap (λ (w : End). get_or O (index_of w.at) None) x ∙ ((W.tiles F.t d F.in_list).outs F.j e F.in_part ∙ ap (λ (w : End). Some w) (sym x))

  pub wire-of : (i o : ℕ) (e : End) → i < length (flat_map inlets xs) → o < length (flat_map outlets xs) → (get_or (flat_map outlets xs) o e).at ≡ (get_or (flat_map inlets xs) i e).at
      → IsWire net n (get_or (flat_map inlets xs) i e) (get_or (flat_map outlets xs) o e)
  wire-of i o e l ol a =
      W.rings (index_of (get_or (flat_map inlets xs) i e).at) (get_or (flat_map inlets xs) i e) (get_or (flat_map outlets xs) o e) (in-slot i e l)
      (ap (λ (p : ℕ × ℕ). get_or O (index_of p) None) (sym a) ∙ out-slot o e ol)

  pub far_end-flat : (i : ℕ) → i < length (flat_map inlets xs) → (o : ℕ) × (o < length (flat_map outlets xs)) × ((e : End) → (get_or (flat_map outlets xs) o e).at ≡ (get_or (flat_map inlets xs) i e).at)
  far_end-flat i l =
      let F = flat-find inlets xs i d l in
      let a = get_or xs F.t d in
      let jl : F.j < length (arrival_ports (inlets a)) = rw length-map F.in_part in
      let M = far_end F.t F.j F.in_list jl in
      let b = get_or xs M.u d in
      let ol : M.o < length (outlets b) = rw length-map at M.ol in (
        offset outlets xs M.u + M.o,
        offset-lt outlets xs M.u M.o d M.um ol,
        λ e.
            ap (λ (w : End). w.at) (flat-at outlets xs M.u M.o d e M.um ol)
            ∙ (sym (place-get (outlets b) M.o (0, 0) e ol) ∙ (M.at ∙ (place-get (inlets a) F.j (0, 0) e F.in_part ∙ ap (λ (w : End). w.at) (sym (found-get inlets xs i d F e))))),
      )

-- what the ring of an inlet carried
pub record Carries (net : Setup) (n k m : ℕ) (T : ℕ → Trace) (t j : ℕ) (p : ℕ × ℕ) (x : Beat) : Type 0 where
  pub u : ℕ
  pub o : ℕ
  pub um : u < m
  pub ol : o < length (T u).layout.outs
  pub far_end : get_or (T u).layout.outs o (0, 0) ≡ p
  pub rows : (i : ℕ) → i < k → get_or (get_or (T t).rows i []) j idle_beat ≡ beat_carried net n (in_flight net n n p.0 p.1) (T u) o i
  pub last : x ≡ beat_carried net n (in_flight net n n p.0 p.1) (T u) o k
