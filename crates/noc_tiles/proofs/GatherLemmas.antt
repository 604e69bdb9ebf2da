-- The tiles that came back, put together: all is as in the lockstep run.
use Rattle.std.proofs.Common.{◌≡◌, ◌≢◌, ◌⊎◌, inl, inr, ℕ, zero, suc, ◌+◌, ◌<◌, ◌≤◌, List, [], ◌∷◌, ◌++◌, length, get_or, take, drop, Option, refl, ap, sym, ◌∙◌, arith, subst, ⊎_elim}
use Rattle.std.specs.List.{flat_map}
use Rattle.std.proofs.lemmas.Bool.{cases_lt}
use Rattle.std.proofs.lemmas.List.{get_or-map, length-map, get_or-take, get_or-drop, length-take-le, length-drop, take_all, same_lists}
use Rattle.noc_topo.specs.Shape.{nodes}
use Rattle.noc_topo.proofs.LinkLemmas.{nodes-some}
use Rattle.noc_route.specs.Routes.{Routes}
use Rattle.noc_packet.specs.declared.packet.Beat.{Beat}
use Rattle.noc_view.specs.View.{idle_beat}
use Rattle.noc_theory.specs.Halves.{beat_at}
use Rattle.noc_theory.specs.Lockstep.{lockstep_at}
use Rattle.noc_theory.specs.Network.{Setup}
use Rattle.noc_theory.proofs.runs.RunLemmas.{count_views, past_wires}
use Rattle.noc_tiles.specs.Ends.{End}
use Rattle.noc_tiles.specs.TileStep.{TileState, arrival_ports, after, beats_put, put_in}
use Rattle.noc_tiles.specs.Tiles.{CanRun, AllCanRun, inlets, outlets, layout_of, state_of}
use Rattle.noc_tiles.specs.Rings.{CanEmpty, Empties, Left}
use Rattle.noc_tiles.specs.Partition.{IsPartition, routers_of, wire_rows_of}
use Rattle.noc_tiles.specs.declared.tile.Tile.{Tile}
use Rattle.noc_tiles.proofs.FlatLemmas.{offset, flat-at, offset-lt, Found, flat-find, column, length-puts, puts-at}
use Rattle.noc_tiles.proofs.SentLemmas.{past-rows}
use Rattle.noc_tiles.proofs.EndsLemmas.{some_item}
use Rattle.noc_tiles.proofs.BoundaryLemmas.{AllRuns, RunsBy, received_of, runs_at, same_count, offset-same, flat-same, offset-two, flat-two, Moved, inlet-at, outlet-at, length-inlets, length-outlets, vec-length, found-get, place-get, stream, stream-last, length-after, set_at, owner, far_end-flat, wire-of, Carries}
use Rattle.noc_tiles.specs.Together.{Trace, TilesRan, Agrees, beat_carried, tile_at, in_flight}
use Rattle.noc_tiles.proofs.ClosingLemmas.{closing, together, carried-right}

module _ (net : Setup) (n k : ℕ) (I O : List (Option End)) (xs ys : List Tile) (W : IsPartition net n k I O xs) (r : AllRuns net.relation k xs ys) (d : Tile) where
  abbrev rows_at : ℕ → List (List Beat)
  rows_at t = get_or (received_of net.relation k xs ys r) t []

  abbrev run_at : (t : ℕ) (d' : Tile) → t < length xs → RunsBy net.relation k (get_or xs t d') (get_or ys t d') (rows_at t)
  run_at t d' l = runs_at net.relation k xs ys r t d' l

  abbrev in-lengths : (t : ℕ) (d' : Tile) → t < length xs → length (inlets (get_or ys t d')) ≡ length (inlets (get_or xs t d'))
  in-lengths t d' l = length-inlets net.relation k (get_or xs t d') (get_or ys t d') (rows_at t) (run_at t d' l)

  abbrev out-lengths : (t : ℕ) (d' : Tile) → t < length xs → length (outlets (get_or ys t d')) ≡ length (outlets (get_or xs t d'))
  out-lengths t d' l = length-outlets net.relation k (get_or xs t d') (get_or ys t d') (rows_at t) (run_at t d' l)

  abbrev router-lengths : (t : ℕ) (d' : Tile) → t < length xs → length (routers_of (get_or ys t d')) ≡ length (routers_of (get_or xs t d'))
  router-lengths t d' l = let a = get_or xs t d' in ap length (run_at t d' l).views ∙ length-after net (layout_of a) a.start (state_of a) (rows_at t)

  tile-count : length ys ≡ length xs
  tile-count = same_count net.relation k xs ys r

  -- a place among the tiles before is one among those after
  abbrev moved-found : {Y : Type 0} (f : Tile → List Y) (same : (t : ℕ) (d' : Tile) → t < length xs → length (f (get_or ys t d')) ≡ length (f (get_or xs t d'))) (i : ℕ) → Found f xs i d → Found f ys i d
  moved-found f same i F =
      let s = same F.t d F.in_list in
      let o = offset-same f net.relation k xs ys r same F.t in
      record { t = F.t; j = F.j; in_list = (let q = F.in_list in let c = tile-count in omega arith); in_part = (let q = F.in_part in omega arith); is = F.is ∙ ap (λ q. q + F.j) (sym o) }

  in-ys : (i : ℕ) (F : Found inlets xs i d) (e : End) → get_or (flat_map inlets ys) i e ≡ get_or (inlets (get_or ys F.t d)) F.j e
  in-ys i F e = found-get inlets ys i d (moved-found inlets in-lengths i F) e

  out-ys : (i : ℕ) (F : Found outlets xs i d) (e : End) → get_or (flat_map outlets ys) i e ≡ get_or (outlets (get_or ys F.t d)) F.j e
  out-ys i F e = found-get outlets ys i d (moved-found outlets out-lengths i F) e

  in-moved : (i : ℕ) (e : End) → i < length (flat_map inlets xs) → Moved k (get_or (flat_map inlets xs) i e) (get_or (flat_map inlets ys) i e)
  in-moved i e l =
      let F = flat-find inlets xs i d l in
      let rows = rows_at F.t in
      let run = run_at F.t d F.in_list in
      let x = found-get inlets xs i d F e in
      let y = in-ys i F e ∙ inlet-at net.relation k (get_or xs F.t d) (get_or ys F.t d) rows run F.j e F.in_part in
      record {
        at = ap (λ (w : End). w.at) y ∙ sym (ap (λ (w : End). w.at) x);
        ring = ap (λ (w : End). w.ring) y ∙ sym (ap (λ (w : End). w.ring) x);
        more = column F.j rows;
        count = length-map rows (λ row. get_or row F.j idle_beat) ∙ run.count;
        past = ap (λ (w : End). w.past) y ∙ ap (λ (w : End). w.past ++ column F.j rows) (sym x);
      }

  out-moved : (i : ℕ) (e : End) → i < length (flat_map outlets xs) → Moved k (get_or (flat_map outlets xs) i e) (get_or (flat_map outlets ys) i e)
  out-moved i e l =
      let F = flat-find outlets xs i d l in
      let a = get_or xs F.t d in
      let rows = rows_at F.t in
      let run = run_at F.t d F.in_list in
      let ps = beats_put net.relation (layout_of a) a.start (state_of a) rows in
      let x = found-get outlets xs i d F e in
      let y = out-ys i F e ∙ outlet-at net.relation k a (get_or ys F.t d) rows run F.j e F.in_part in
      record {
        at = ap (λ (w : End). w.at) y ∙ sym (ap (λ (w : End). w.at) x);
        ring = ap (λ (w : End). w.ring) y ∙ sym (ap (λ (w : End). w.ring) x);
        more = column F.j ps;
        count = length-map ps (λ row. get_or row F.j idle_beat) ∙ (length-puts net.relation (layout_of a) a.start (state_of a) rows ∙ run.count);
        past = ap (λ (w : End). w.past) y ∙ ap (λ (w : End). w.past ++ column F.j ps) (sym x);
      }

  in-placed : (i : ℕ) (e : End) → i < length (flat_map inlets xs) → ((get_or (flat_map inlets xs) i e).at.0 < nodes net.relation.grid) × ((get_or (flat_map inlets xs) i e).at.1 < 6)
  in-placed i e l =
      let F = flat-find inlets xs i d l in
      let a = get_or xs F.t d in
      let ready = set_at net n k I O xs W d F.t F.in_list in
      let jl : F.j < length (arrival_ports (inlets a)) = rw length-map F.in_part in
      let p = ready.parts.within F.j jl in
      let x : get_or (arrival_ports (inlets a)) F.j (0, 0) ≡ (get_or (flat_map inlets xs) i e).at = place-get (inlets a) F.j (0, 0) e F.in_part ∙ sym (ap (λ (w : End). w.at) (found-get inlets xs i d F e)) in
      let P : ℕ × ℕ → Type 0 = λ q. (q.0 < nodes net.relation.grid) × (q.1 < 6) in
      let p1 = p.1 in
      let few = ready.few_links in
      subst P x (p.0, omega arith)

  pub in-count : length (flat_map inlets ys) ≡ length (flat_map inlets xs)
  in-count = flat-same inlets net.relation k xs ys r in-lengths

  out-count : length (flat_map outlets ys) ≡ length (flat_map outlets xs)
  out-count = flat-same outlets net.relation k xs ys r out-lengths

  pub can_empty : CanEmpty (nodes net.relation.grid) (flat_map inlets ys) (flat_map outlets ys)
  can_empty =
      let ic = in-count in
      let oc = out-count in
      record {
        placed = λ i e l.
            let P : ℕ × ℕ → Type 0 = λ q. (q.0 < nodes net.relation.grid) × (q.1 < 6) in
            subst P (sym (in-moved i e (omega arith)).at) (in-placed i e (omega arith));
        found = λ i l.
            let g = far_end-flat net n k I O xs W d i (omega arith) in
            let ol = g.1 in
            (g.0, omega arith, λ e. (out-moved g.0 e ol).at ∙ (g.2 e ∙ sym (in-moved i e (omega arith)).at));
        rings = λ i o e l ol a.
            let v = in-moved i e (omega arith) in
            let w = out-moved o e (omega arith) in
            let q = wire-of net n k I O xs W d i o e (omega arith) (omega arith) (sym w.at ∙ (a ∙ v.at)) in
            let vl : length (get_or (flat_map inlets ys) i e).past ≡ k = ap length (v.past ∙ ap (λ p. p ++ v.more) q.fresh) ∙ v.count in
            let wl : length (get_or (flat_map outlets ys) o e).past ≡ k + 1 = ap length (w.past ∙ ap (λ p. p ++ w.more) q.beat) ∙ (ap suc w.count ∙ (omega arith)) in
            record { ring = w.ring ∙ (q.ring ∙ sym v.ring); one = wl ∙ ap (λ m. m + 1) (sym vl) };
      }

  abbrev pub traces : ℕ → Trace
  traces t = record { layout = layout_of (get_or xs t d); state = state_of (get_or xs t d); rows = rows_at t }

  carried-is : (u o : ℕ) (w : Beat) → u < length xs → (i : ℕ) → i ≤ k
      → get_or (w ∷ column o (beats_put net.relation (layout_of (get_or xs u d)) (get_or xs u d).start (state_of (get_or xs u d)) (rows_at u))) i idle_beat ≡ beat_carried net n w (traces u) o i
  carried-is u o w l zero h = refl
  carried-is u o w l (suc i) h =
      let a = get_or xs u d in
      let P = layout_of a in
      let rows = rows_at u in
      let ps = beats_put net.relation P a.start (state_of a) rows in
      let c = (run_at u d l).count in
      let q = length-puts net.relation P a.start (state_of a) rows in
      get_or-map (λ row. get_or row o idle_beat) ps i [] idle_beat (omega arith)
      ∙ (ap (λ row. get_or row o idle_beat) (puts-at net.relation P a.start (state_of a) rows i (omega arith))
      ∙ ap (λ s. get_or (put_in net.relation P (s + i) (after net.relation P s (state_of a) (take i rows)) (get_or rows i [])) o idle_beat) (W.tiles u d l).start)

  carries : (i : ℕ) (F : Found inlets xs i d) (x : Beat) (e : End) → Left (flat_map inlets ys) (flat_map outlets ys) i x
      → Carries net n k (length xs) traces F.t F.j (get_or (flat_map inlets xs) i e).at x
  carries i F x e L =
      let a = get_or xs F.t d in
      let rows = rows_at F.t in
      let il : i < length (flat_map inlets xs) = (let z = offset-lt inlets xs F.t F.j d F.in_list F.in_part in let y = F.is in omega arith) in
      let o = L.0 in
      let ol : o < length (flat_map outlets xs) = (let z = L.1 in let y = out-count in omega arith) in
      let G = flat-find outlets xs o d ol in
      let b = get_or xs G.t d in
      let rows' = rows_at G.t in
      let ps = beats_put net.relation (layout_of b) b.start (state_of b) rows' in
      let p = (get_or (flat_map inlets xs) i e).at in
      let w = in_flight net n n p.0 p.1 in
      let im = in-moved i e il in
      let om = out-moved o e ol in
      let f = L.2 e in
      let run = run_at F.t d F.in_list in
      let meet : (get_or (flat_map outlets xs) o e).at ≡ p = sym om.at ∙ (f.0 ∙ im.at) in
      let ring = wire-of net n k I O xs W d i o e il ol meet in
      let ip : (get_or (flat_map inlets ys) i e).past ≡ column F.j rows =
      ap (λ (w : End). w.past) (in-ys i F e ∙ inlet-at net.relation k a (get_or ys F.t d) rows run F.j e F.in_part)
      ∙ ap (λ q. q ++ column F.j rows) (sym (ap (λ (w : End). w.past) (found-get inlets xs i d F e)) ∙ ring.fresh) in
      let op : (get_or (flat_map outlets ys) o e).past ≡ (w ∷ []) ++ column G.j ps =
      ap (λ (w : End). w.past) (out-ys o G e ∙ outlet-at net.relation k b (get_or ys G.t d) rows' (run_at G.t d G.in_list) G.j e G.in_part)
      ∙ ap (λ q. q ++ column G.j ps) (sym (ap (λ (w : End). w.past) (found-get outlets xs o d G e)) ∙ ring.beat) in
      let eq : (w ∷ []) ++ column G.j ps ≡ column F.j rows ++ x ∷ [] = sym op ∙ (f.1 ∙ ap (λ q. q ++ x ∷ []) ip) in
      let len : length (column F.j rows) ≡ k = length-map rows (λ row. get_or row F.j idle_beat) ∙ run.count in
      record {
        u = G.t;
        o = G.j;
        um = G.in_list;
        ol = rw length-map G.in_part;
        far_end = place-get (outlets b) G.j (0, 0) e G.in_part ∙ (sym (ap (λ (w : End). w.at) (found-get outlets xs o d G e)) ∙ meet);
        rows = λ i' h.
            sym (get_or-map (λ row. get_or row F.j idle_beat) rows i' [] idle_beat (let q = run.count in omega arith))
            ∙ (stream w x (column G.j ps) (column F.j rows) eq i' (omega arith)
            ∙ carried-is G.t G.j w G.in_list i' (omega arith));
        last = stream-last w x (column G.j ps) (column F.j rows) eq k len ∙ carried-is G.t G.j w G.in_list k (omega arith);
      }

  -- the rows of a tile's own routers
  pub fits : (t : ℕ) (d' : Tile) → t < length xs → (get_or ys t d').first + length (routers_of (get_or ys t d')) ≤ length (get_or ys t d').beats.items
  fits t d' l =
      let a = get_or xs t d' in
      let b = get_or ys t d' in
      let s = (run_at t d' l).same in
      let p = (W.tiles t d' l).can.ready.parts in
      let w = p.wide in
      let c = p.count in
      let f = s.first in
      let z = s.size in
      let q = router-lengths t d' l in
      let u = vec-length a.beats in
      let v = vec-length b.beats in
      omega arith

  rows-count : (t : ℕ) (d' : Tile) → t < length ys → length (wire_rows_of (get_or ys t d')) ≡ length (routers_of (get_or ys t d'))
  rows-count t d' l =
      let b = get_or ys t d' in
      let f = fits t d' (let c = tile-count in omega arith) in
      length-take-le (length b.routers.items) (drop b.first b.beats.items) (let q = length-drop b.first b.beats.items in omega arith)

  pub rows-length : length (flat_map wire_rows_of ys) ≡ nodes net.relation.grid
  rows-length =
      flat-two wire_rows_of routers_of ys rows-count
      ∙ (flat-same routers_of net.relation k xs ys r router-lengths ∙ (ap length W.views ∙ count_views net n))

  module _ (empties-left : (i : ℕ) → i < length (flat_map inlets ys) → (x : Beat) × Left (flat_map inlets ys) (flat_map outlets ys) i x) where
    -- inlet j of tile t, among all
    abbrev place-in : (t j : ℕ) → t < length xs → j < length (inlets (get_or xs t d)) → Found inlets xs (offset inlets xs t + j) d
    place-in t j l h = record { t = t; j = j; in_list = l; in_part = h; is = refl }

    tiled : TilesRan net n k (length xs) traces
    tiled = record {
      within = λ t l. (set_at net n k I O xs W d t l).parts.wide;
      views = λ t c e l h.
          sym (flat-at routers_of xs t c d e l h)
          ∙ (ap (λ q. get_or (flat_map routers_of xs) (q + c) e) (sym (W.firsts t d l)) ∙ ap (λ q. get_or q ((get_or xs t d).first + c) e) W.views);
      wires = λ t c q l h z. (W.tiles t d l).wires c q h z;
      outs = λ t o l h. (((set_at net n k I O xs W d t l).parts.outs_within o h).0, (W.tiles t d l).from o h);
      covers = λ t c q l h. (W.tiles t d l).covers c q h;
      count = λ t l. (run_at t d l).count;
      width = λ t i l h. (run_at t d l).width i h ∙ sym (length-map (inlets (get_or xs t d)) (λ (w : End). w.at));
      wired = λ t j l h.
          let a = get_or xs t d in
          let h' : j < length (inlets a) = rw length-map at h in
          let F = place-in t j l h' in
          let i = offset inlets xs t + j in
          let e = some_item (inlets a) j h' in
          let il : i < length (flat_map inlets ys) = let z = offset-lt inlets xs t j d l h' in let y = in-count in omega arith in
          let x = empties-left i il in
          let C = carries i F x.0 e x.1 in
          let pe : (get_or (flat_map inlets xs) i e).at ≡ get_or (arrival_ports (inlets a)) j (0, 0) = ap (λ (w : End). w.at) (found-get inlets xs i d F e) ∙ sym (place-get (inlets a) j (0, 0) e h') in
          (C.u, C.o, C.um, C.ol, C.far_end ∙ pe, λ i' h''. C.rows i' h'' ∙ ap (λ (p : ℕ × ℕ). beat_carried net n (in_flight net n n p.0 p.1) (traces C.u) C.o i') pe);
    }

    -- what is left in a ring is the beat of the lockstep run
    left-right : (i : ℕ) (x : Beat) (e : End) → i < length (flat_map inlets ys) → Left (flat_map inlets ys) (flat_map outlets ys) i x
        → x ≡ in_flight net n (n + k) (get_or (flat_map inlets ys) i e).at.0 (get_or (flat_map inlets ys) i e).at.1
    left-right i x e l L =
        let y = in-count in
        let l' : i < length (flat_map inlets xs) = omega arith in
        let F = flat-find inlets xs i d l' in
        let C = carries i F x e L in
        let p = (get_or (flat_map inlets xs) i e).at in
        let g = together net n k (length xs) traces tiled k (omega arith) in
        C.last
        ∙ (carried-right net n k (length xs) traces tiled C.u C.o p C.um C.ol C.far_end k g
        ∙ ap (λ (q : ℕ × ℕ). in_flight net n (n + k) q.0 q.1) (sym (in-moved i e l').at))

    agrees : (t : ℕ) → t < length xs → Agrees net n (traces t) k
    agrees t l = closing net n k (length xs) traces tiled t l

    -- the part of a tile that came back
    part-is : (t : ℕ) → t < length xs → after net.relation (layout_of (get_or xs t d)) (get_or xs t d).start (state_of (get_or xs t d)) (rows_at t) ≡ tile_at net n (traces t) k
    part-is t l =
        let a = get_or xs t d in
        let rows = rows_at t in
        ap (λ s. after net.relation (layout_of a) s (state_of a) rows) (W.tiles t d l).start
        ∙ ap (after net.relation (layout_of a) n (state_of a)) (sym (take_all k rows (let q = (run_at t d l).count in omega arith)))

    pub views-done : flat_map routers_of ys ≡ (lockstep_at net (n + k)).views
    views-done =
        let n1 : length (flat_map routers_of ys) ≡ length (flat_map routers_of xs) = flat-same routers_of net.relation k xs ys r router-lengths in
        let n2 = ap length W.views in
        let n3 = count_views net n in
        let n4 = count_views net (n + k) in
        same_lists (flat_map routers_of ys) (lockstep_at net (n + k)).views (omega arith)
        (λ c e h.
        let F = flat-find routers_of xs c d (omega arith) in
        let here : (get_or xs F.t d).first + F.j ≡ c = let f = W.firsts F.t d F.in_list in let q = F.is in omega arith in
        found-get routers_of ys c d (moved-found routers_of router-lengths c F) e
        ∙ (ap (λ vs. get_or vs F.j e) ((run_at F.t d F.in_list).views ∙ ap (λ (q : TileState). q.views) (part-is F.t F.in_list))
        ∙ ((agrees F.t F.in_list).views F.j e F.in_part ∙ ap (λ q. get_or (lockstep_at net (n + k)).views q e) here)))

    -- a wire that no ring ends at
    inside : (s q : ℕ) → s < nodes net.relation.grid → ((i : ℕ) (e : End) → i < length (flat_map inlets ys) → (get_or (flat_map inlets ys) i e).at ≢ (s, q))
        → beat_at (flat_map wire_rows_of ys) s q ≡ in_flight net n (n + k) s q
    inside s q h none =
        let F = owner net n k I O xs W d s h in
        let t = F.t in
        let l = F.in_list in
        let c = F.j in
        let a = get_or xs t d in
        let b = get_or ys t d in
        let run = run_at t d l in
        let G = moved-found routers_of router-lengths s F in
        let o : offset wire_rows_of ys t ≡ offset routers_of ys t = offset-two wire_rows_of routers_of ys rows-count t in
        let rc = rows-count t d G.in_list in
        let K : Found wire_rows_of ys s d = record { t = t; j = c; in_list = G.in_list; in_part = (let z = G.in_part in omega arith); is = G.is ∙ ap (λ z. z + c) (sym o) } in
        let first : b.first ≡ a.first = run.same.first in
        let here : a.first + c ≡ s = let f = W.firsts t d l in let z = F.is in omega arith in
        let row : get_or (flat_map wire_rows_of ys) s [] ≡ get_or b.beats.items (a.first + c) [] =
        found-get wire_rows_of ys s d K []
        ∙ (get_or-take (length b.routers.items) (drop b.first b.beats.items) c [] G.in_part
        ∙ (get_or-drop b.first b.beats.items c [] ∙ ap (λ z. get_or b.beats.items (z + c) []) first)) in
        let r_in : a.first + c < nodes net.relation.grid = omega arith in
        let done : beat_at (flat_map wire_rows_of ys) s q ≡ (tile_at net n (traces t) k).wires (a.first + c) q =
        ap (λ (z : List Beat). get_or z q idle_beat) row ∙ (run.wires (a.first + c) q r_in ∙ ap (λ (z : TileState). z.wires (a.first + c) q) (part-is t l)) in
        done
        ∙ (⊎_elim (λ z. (agrees t l).wires c q F.in_part z)
        (λ z.
        let h' : z.0 < length (inlets a) = let y = z.1 in rw length-map at y in
        let e = some_item (inlets a) z.0 h' in
        let H = place-in t z.0 l h' in
        let i = offset inlets xs t + z.0 in
        let il : i < length (flat_map inlets xs) = offset-lt inlets xs t z.0 d l h' in
        let il' : i < length (flat_map inlets ys) = let y = in-count in omega arith in
        absurd (none i e il' ((in-moved i e il).at ∙ (ap (λ (w : End). w.at) (found-get inlets xs i d H e) ∙ (sym (place-get (inlets a) z.0 (0, 0) e h') ∙ (z.2 ∙ ap (λ (y : ℕ). pair y q) here))))))
        ((W.tiles t d l).covers c q F.in_part)
        ∙ ap (λ z. in_flight net n (n + k) z q) here)
      where
        pair : ℕ → ℕ → ℕ × ℕ
        pair u v = (u, v)

    by-case : (new : List (List Beat)) (s q : ℕ) → s < nodes net.relation.grid
        → ((i : ℕ) × (i < length (flat_map inlets ys)) × ((e : End) → (get_or (flat_map inlets ys) i e).at ≡ (s, q)) × Left (flat_map inlets ys) (flat_map outlets ys) i (beat_at new s q))
        ⊎ (((i : ℕ) (e : End) → i < length (flat_map inlets ys) → (get_or (flat_map inlets ys) i e).at ≢ (s, q)) × (beat_at new s q ≡ beat_at (flat_map wire_rows_of ys) s q))
        → beat_at new s q ≡ in_flight net n (n + k) s q
    by-case new s q h (inl z) =
        let e = some_item (flat_map inlets ys) z.0 z.1 in
        left-right z.0 (beat_at new s q) e z.1 z.3 ∙ ap (λ (p : ℕ × ℕ). in_flight net n (n + k) p.0 p.1) (z.2 e)
    by-case new s q h (inr z) = z.1 ∙ inside s q h z.0

    pub wires-done : (new : List (List Beat)) → Empties (flat_map inlets ys) (flat_map outlets ys) (length (flat_map inlets ys)) (flat_map wire_rows_of ys) new → (s q : ℕ) → beat_at new s q ≡ in_flight net n (n + k) s q
    wires-done new c s q =
        ⊎_elim (λ (h : s < nodes net.relation.grid). by-case new s q h (c.wires s q))
        (λ (h : nodes net.relation.grid ≤ s). past-rows new s q (let z = c.same in let y = rows-length in omega arith) ∙ sym (past_wires net (n + k) s q h))
        (cases_lt s (nodes net.relation.grid))

-- ---- for the caller, who knows no tile

pub tile_in : (net : Setup) (n k : ℕ) (I O : List (Option End)) (xs : List Tile) → IsPartition net n k I O xs → Tile
tile_in net n k I O [] W = let a = ap length W.views in let b = count_views net n in let c = nodes-some net.relation.grid W.grid in absurd (omega arith)
tile_in net n k I O (x ∷ xs) W = x

pub all_can : (g : Routes) (xs : List Tile) → ((t : ℕ) (d : Tile) → t < length xs → CanRun g (get_or xs t d)) → AllCanRun g xs
all_can g [] h = tt
all_can g (x ∷ xs) h = (h 0 x (omega arith), all_can g xs (λ t d l. h (suc t) d (omega arith)))

pub empties-as : (I I' O O' : List End) (m m' : ℕ) (old old' new : List (List Beat)) → I ≡ I' → O ≡ O' → m ≡ m' → old ≡ old' → Empties I O m old new → Empties I' O' m' old' new
empties-as I I' O O' m m' old old' new b c d e h =
    let B : List End → Type 0 = λ q. Empties q O m old new in
    let C : List End → Type 0 = λ q. Empties I' q m old new in
    let D : ℕ → Type 0 = λ q. Empties I' O' q old new in
    let E : List (List Beat) → Type 0 = λ q. Empties I' O' m' q new in
    subst E e (subst D d (subst C c (subst B b h)))

pub can-empty-as : (N N' : ℕ) (I I' O O' : List End) → N ≡ N' → I ≡ I' → O ≡ O' → CanEmpty N I O → CanEmpty N' I' O'
can-empty-as N N' I I' O O' a b c h =
    let A : ℕ → Type 0 = λ q. CanEmpty q I O in
    let B : List End → Type 0 = λ q. CanEmpty N' q O in
    let C : List End → Type 0 = λ q. CanEmpty N' I' q in
    subst C c (subst B b (subst A a h))
