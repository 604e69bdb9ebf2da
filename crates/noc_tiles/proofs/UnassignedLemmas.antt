-- Tile after tile is cut from a network.
use Rattle.std.proofs.Common.{◌≡◌, ◌⊎◌, inl, inr, ℕ, ◌+◌, ◌*◌, ◌/◌, ◌%◌, ◌<◌, ◌≤◌, ◌^◌, true, false, List, [], ◌∷◌, length, get_or, take, drop, Option, Some, None, refl, ap, ap₂, sym, ◌∙◌, arith, subst, ⊎_elim}
use Rattle.std.specs.Prelude.{is_some}
use Rattle.std.proofs.lemmas.Bool.{cases_lt, false≢true}
use Rattle.std.proofs.lemmas.List.{get_or_past}
use Rattle.noc_topo.specs.Shape.{IsGrid, neighbour, nodes}
use Rattle.noc_topo.proofs.LinkLemmas.{link_back}
use Rattle.noc_packet.specs.declared.packet.Beat.{Beat}
use Rattle.noc_view.specs.View.{View, idle_beat}
use Rattle.noc_theory.specs.Halves.{beat_at}
use Rattle.noc_theory.specs.Lockstep.{lockstep_at}
use Rattle.noc_theory.specs.Network.{Setup}
use Rattle.noc_tiles.specs.Ends.{End}
use Rattle.noc_tiles.specs.TileStep.{is_own, is_from, is_inside, arrival_ports}
use Rattle.noc_tiles.specs.Tiles.{PartsFit, inlets, outlets}
use Rattle.noc_tiles.specs.Rings.{AreLeftOut, AreSlots, AreTakenIn, AreTakenOut, GoesOutTo, tile_start}
use Rattle.noc_tiles.specs.Partition.{InFlight, IsTile, AreUnassigned, AreWires, index_of}
use Rattle.noc_tiles.specs.declared.tile.Tile.{Tile}
use Rattle.noc_tiles.proofs.ClearLemmas.{place_at}
use Rattle.noc_tiles.proofs.SentLemmas.{own-true}
use Rattle.noc_tiles.proofs.StartsLemmas.{apart-out, apart-in}
use Rattle.noc_tiles.proofs.PartitionLemmas.{views-count, parts-fit, tile-covers, in-at, out-at, place-in, place-out}

outside-some : (first count : ℕ) (x : Option (ℕ × ℕ)) → is_inside first count x ≡ false → (from : ℕ × ℕ) × (x ≡ Some from) × (is_own first count from.0 ≡ false)
outside-some first count None h = absurd (false≢true (sym h))
outside-some first count (Some p) h = (p, refl, h)

module _ (net : Setup) (sound : IsGrid net.relation.grid) (workers first count : ℕ) (wide : first + count ≤ nodes net.relation.grid) (B : List (List Beat)) (I0 O0 I O : List (Option End)) (U : AreUnassigned net workers first B I0 O0 I O) (w : ℕ) (one-of : w < workers)
    (first-is : first ≡ tile_start (nodes net.relation.grid) workers w) (end-is : first + count ≡ tile_start (nodes net.relation.grid) workers (w + 1)) where
  pub all-in : (m : ℕ) → first * 6 ≤ m → m < (first + count) * 6 → is_inside first count (neighbour net.relation.grid (m / 6) (m % 6)) ≡ false → is_some (get_or I m None) ≡ true
  all-in m l h out =
      let f = outside-some first count (neighbour net.relation.grid (m / 6) (m % 6)) out in
      let own : is_own first count (m / 6) ≡ true = own-true first count (m / 6) (omega arith) (omega arith) in
      ap (λ (s : Option End). is_some s) (U.left_in m l)
      ∙ ((U.slots.each m (omega arith)).apart f.0 f.1 (apart-out (nodes net.relation.grid) workers w first count one-of first-is end-is (m / 6) f.0.0 own f.2)).0

  pub all-out : (k at : ℕ) → first * 6 ≤ k → k < (first + count) * 6 → GoesOutTo net.relation.grid first count k at → is_some (get_or O at None) ≡ true
  all-out k at l h g =
      let s_in : k / 6 < nodes net.relation.grid = omega arith in
      let back = link_back net.relation.grid (k / 6) (k % 6) g.r g.q sound s_in g.to in
      let node = g.node in
      let port = g.port in
      let a : (g.r * 6 + g.q) / 6 ≡ g.r = omega arith in
      let c : (g.r * 6 + g.q) % 6 ≡ g.q = omega arith in
      let linked : neighbour net.relation.grid ((g.r * 6 + g.q) / 6) ((g.r * 6 + g.q) % 6) ≡ Some (place_at (k / 6) (k % 6)) = ap₂ (neighbour net.relation.grid) a c ∙ back.back in
      let own : is_own first count (k / 6) ≡ true = own-true first count (k / 6) (omega arith) (omega arith) in
      let apart = apart-in (nodes net.relation.grid) workers w first count one-of first-is end-is (k / 6) ((g.r * 6 + g.q) / 6) own (ap (is_own first count) a ∙ g.other) in
      ap (λ z. is_some (get_or O z None)) g.is
      ∙ (ap (λ (s : Option End). is_some s) (U.left_out (k / 6) (k % 6) g.r g.q s_in (omega arith) g.to (omega arith))
      ∙ ((U.slots.each (g.r * 6 + g.q) (omega arith)).apart (place_at (k / 6) (k % 6)) linked apart).1)

  pub unassigned-more : (I' O' : List (Option End)) → ((m : ℕ) → (first + count) * 6 ≤ m → get_or I' m None ≡ get_or I m None) → AreLeftOut net.relation.grid ((first + count) * 6) O O' → AreUnassigned net workers (first + count) B I0 O0 I' O'
  unassigned-more I' O' li lo = record {
    slots = U.slots;
    left_in = λ m l. li m l ∙ U.left_in m (omega arith);
    left_out = λ s p r q sl pl to l. lo s p r q sl pl to l ∙ U.left_out s p r q sl pl to (omega arith);
  }

  module _ (n k : ℕ) (flight : InFlight net n B) (t : Tile) (is-first : t.first ≡ first) (is-start : t.start ≡ n) (is-cycles : t.cycles ≡ k) (is-done : t.done ≡ 0) (end : n + k < 2 ^ 64)
      (views : t.routers.items ≡ take count (drop first (lockstep_at net n).views))
      (size : length t.beats.items ≡ nodes net.relation.grid)
      (own : (r q : ℕ) → is_own first count r ≡ true → beat_at t.beats.items r q ≡ beat_at B r q)
      (idle : (r q : ℕ) → is_own first count r ≡ false → beat_at t.beats.items r q ≡ idle_beat)
      (ins : AreTakenIn net.relation.grid first count ((first + count) * 6) I (inlets t)) (outs : AreTakenOut net.relation.grid first count ((first + count) * 6) O (outlets t)) where
    pub new-tile : IsTile net n k I0 O0 t
    new-tile =
        let V = inlets t in
        let W = outlets t in
        let S = parts-fit net sound n first count wide B t.beats.items flight own idle size I O I0 O0 workers U.slots U.left_in U.left_out V W ins outs in
        let vc : length t.routers.items ≡ count = ap length views ∙ views-count net sound n first count wide B t.beats.items flight own idle size I O I0 O0 workers U.slots U.left_in U.left_out V W ins outs in
        let few = sound.few_dimensions in
        let P : ℕ → Type 0 = λ z. PartsFit net.relation z (arrival_ports V) (arrival_ports W) (take count (drop first (lockstep_at net n).views)) t.beats.items in
        let Q : List View → Type 0 = λ z. PartsFit net.relation t.first (arrival_ports V) (arrival_ports W) z t.beats.items in
        let fv : (x : Option (ℕ × ℕ)) → is_inside t.first (length t.routers.items) x ≡ is_inside first count x = λ x. ap₂ (λ u v. is_inside u v x) is-first vc in
        let ff : (x : Option (ℕ × ℕ)) → is_from t.first (length t.routers.items) x ≡ is_from first count x = λ x. ap₂ (λ u v. is_from u v x) is-first vc in
        record {
          can = record {
            ready = record { few_links = omega arith; parts = subst Q (sym views) (subst P (sym is-first) S) };
            done = is-done;
            end = omega arith;
          };
          start = is-start;
          cycles = is-cycles;
          wires = λ c q l h. own (t.first + c) q (own-true first count (t.first + c) (omega arith) (omega arith)) ∙ flight (t.first + c) q;
          covers = λ c q l.
              let Z : ℕ → Type 0 = λ z. is_inside t.first (length t.routers.items) (neighbour net.relation.grid (z + c) q) ≡ true ⊎ ((j : ℕ) × (j < length (arrival_ports V)) × (get_or (arrival_ports V) j (0, 0) ≡ place_at (z + c) q)) in
              subst Z (sym is-first)
              (⊎_elim (λ z. inl (fv (neighbour net.relation.grid (first + c) q) ∙ z)) (λ z. inr z)
              (tile-covers net sound n first count wide B t.beats.items flight own idle size I O I0 O0 workers U.slots U.left_in U.left_out V W ins outs c q (omega arith)));
          crossing = λ j l.
              let p = place-in net sound n first count wide B t.beats.items flight own idle size I O I0 O0 workers U.slots U.left_in U.left_out V W ins outs j l in
              let a = in-at net sound n first count wide B t.beats.items flight own idle size I O I0 O0 workers U.slots U.left_in U.left_out V W ins outs j p.0 p.1 in
              fv _ ∙ (ap (λ (z : ℕ × ℕ). is_inside first count (neighbour net.relation.grid z.0 z.1)) (p.2 ∙ a.at) ∙ a.outside);
          from = λ o l.
              let p = place-out net sound n first count wide B t.beats.items flight own idle size I O I0 O0 workers U.slots U.left_in U.left_out V W ins outs o l in
              let a = out-at net sound n first count wide B t.beats.items flight own idle size I O I0 O0 workers U.slots U.left_in U.left_out V W ins outs o p.0 p.1 in
              ff _ ∙ (ap (λ (z : ℕ × ℕ). is_from first count (neighbour net.relation.grid z.0 z.1)) (p.2 ∙ a.at) ∙ a.from);
          ins = λ j e l.
              let a = in-at net sound n first count wide B t.beats.items flight own idle size I O I0 O0 workers U.slots U.left_in U.left_out V W ins outs j e l in
              let m : (a.m / 6) * 6 + a.m % 6 ≡ a.m = omega arith in
              ap (λ (z : ℕ × ℕ). get_or I0 (index_of z) None) a.at ∙ (ap (λ z. get_or I0 z None) m ∙ a.slot);
          outs = λ o e l.
              let a = out-at net sound n first count wide B t.beats.items flight own idle size I O I0 O0 workers U.slots U.left_in U.left_out V W ins outs o e l in
              ap (λ (z : ℕ × ℕ). get_or O0 (index_of z) None) a.at ∙ a.slot;
        }

-- the slots are those of wires
pub slots-wires : (net : Setup) (n workers : ℕ) (B : List (List Beat)) (I O : List (Option End)) → InFlight net n B → AreSlots net.relation.grid workers B (nodes net.relation.grid * 6) I O → AreWires net n I O
slots-wires net n workers B I O flight S k i o hi ho =
    ⊎_elim (λ (l : k < nodes net.relation.grid * 6).
    let s = S.each k l in
    let x = s.ins i hi in
    let y = s.outs o ho in
    record {
      ring = s.both i o hi ho;
      fresh = x.1;
      beat = y.1 ∙ ap (λ z. z ∷ []) (flight (k / 6) (k % 6) ∙ ap (λ (z : ℕ × ℕ). beat_at (lockstep_at net n).wires z.0 z.1) (sym x.0));
    })
    (λ (past : nodes net.relation.grid * 6 ≤ k).
    let z = get_or_past I k None (let w = S.ins in omega arith) in absurd (cc (z, hi)))
    (cases_lt k (nodes net.relation.grid * 6))
