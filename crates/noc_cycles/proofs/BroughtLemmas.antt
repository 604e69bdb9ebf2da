-- What comes over the links of all ports is what the links bring.
use Rattle.std.proofs.Common.{◌≡◌, ◌⊎◌, ℕ, zero, suc, ◌+◌, ◌-◌, ◌*◌, ◌/◌, ◌%◌, ◌<◌, ◌≤◌, Bool, true, false, List, Option, Some, None, length, map, slice_index, ap, ap₂, sym, subst, ◌∙◌, refl, arith, inl, inr}
use Rattle.std.specs.Prelude.{◌&&◌, ◌||◌, if◌then◌else◌}
use Rattle.std.proofs.lemmas.Nat.{div-add-mod', div_below, le-div, mod_below}
use Rattle.noc_topo.specs.Shape.{IsGrid}
use Rattle.noc_topo.proofs.LinkLemmas.{link_back}
use Rattle.noc_sets.specs.Gather.{gathered, is_over}
use Rattle.noc_sets.proofs.GatherLemmas.{gathered-is, gathered-links}
use Rattle.noc_sets.proofs.UnionLemmas.{some-none}
use Rattle.noc_columns.specs.Near.{comes_by, comes_from, comes_near}
use Rattle.noc_columns.specs.Places.{AreFar, IsNear, far_places, places_by, stands_in}
use Rattle.noc_columns.specs.declared.neighbours.Near.{Near}
use Rattle.noc_columns.specs.declared.ports.Ports.{Ports}
use Rattle.noc_sets.proofs.MemberLemmas.{and-false}
use Rattle.noc_columns.proofs.NearLemmas.{are-places, brought-is}
use Rattle.noc_columns.proofs.PlaceLemmas.{near-and-far, near-or-far, stands-beyond}
use Rattle.noc_cycles.specs.Around.{AreFarBy}
use Rattle.noc_cycles.proofs.Common.{cases_eq, cases_lt, eq-eqb, le-ltb, lt-ltb, ne_eqb, div-mul-add, mod-mul-add, has_bit, has_bit-zero, Grid, local_port, neighbour, nodes, opposite, same-word, links_of, port_at, set_of, word, Far, apart, below-members, far_by, AreLed}

-- ---- opposite ports
pub opposite-below : (q w : ℕ) → w % 2 ≡ 0 → q < w → opposite q < w
opposite-below q w pairs l = elim (cases_eq (q % 2) 0) [
  | inl even ↦ subst (λ n. n < w) (sym (ap (λ b. if b then q + 1 else q - 1) (eq-eqb (q % 2) 0 even))) (omega (arith, pairs, l, even))
  | inr odd ↦ subst (λ n. n < w) (sym (ap (λ b. if b then q + 1 else q - 1) (ne_eqb (q % 2) 0 odd))) (omega (arith, l))
]

even-rows : (v w : ℕ) → w % 2 ≡ 0 → v * w % 2 ≡ 0
even-rows zero w pairs = let z : 0 * w ≡ 0 = omega arith in ap (λ n. n % 2) z
even-rows (suc v) w pairs = let r = even-rows v w pairs in omega (arith, r, pairs)

opposite-up : (m q : ℕ) → m % 2 ≡ 0 → opposite (m + q) ≡ m + opposite q
opposite-up m q even = elim (cases_eq (q % 2) 0) [
  | inl low ↦
      ap (λ b. if b then m + q + 1 else m + q - 1) (eq-eqb ((m + q) % 2) 0 (omega (arith, even, low)))
      ∙ (let e : m + q + 1 ≡ m + (q + 1) = omega arith in e)
      ∙ sym (ap (λ b. m + (if b then q + 1 else q - 1)) (eq-eqb (q % 2) 0 low))
  | inr high ↦
      let some : 0 < q = omega (arith, high) in
      ap (λ b. if b then m + q + 1 else m + q - 1) (ne_eqb ((m + q) % 2) 0 (λ z. high (let f : q % 2 ≡ 0 = omega (arith, even, z) in f)))
      ∙ (let e : m + q - 1 ≡ m + (q - 1) = omega (arith, some) in e)
      ∙ sym (ap (λ b. m + (if b then q + 1 else q - 1)) (ne_eqb (q % 2) 0 high))
]

-- ---- of all ports
-- words of one kind have what comes from block b, and from all others
abbrev pub ArePorts : Ports → Near → (ℕ → List Far) → (ℕ → List ℕ) → ℕ → List ℕ → Type 0
ArePorts links near far sent b now =
    (q v r : ℕ) → q < links.width → v < links.vcs → r < 64
    → has_bit (word ((port_at links q).index v) now) r ≡ (comes_near near (sent b) ((port_at links q).index v) r || comes_by (far_places (far q)) (λ c. word ((port_at links (opposite q)).index v) (sent c)) r)

-- .. what comes from all others besides what they had
abbrev pub AreJoined : Ports → List Far → (ℕ → List ℕ) → List ℕ → List ℕ → Type 0
AreJoined links far sent old now =
    (q v r : ℕ) → q < links.width → v < links.vcs → r < 64
    → has_bit (word ((port_at links q).index v) now) r ≡ (has_bit (word ((port_at links q).index v) old) r || comes_by (far_places (far_by far q)) (λ c. word ((port_at links (opposite q)).index v) (sent c)) r)

pub ports-are : (links : Ports) (near : Near) (far items : List Far) (sent : ℕ → List ℕ) (b groups : ℕ) (old now from : List ℕ) → far ≡ items → from ≡ sent b → links.first ≡ 0 → links.vcs * links.width ≤ 4 * groups
    → ((k r : ℕ) → k < 4 * groups → r < 64 → has_bit (word k old) r ≡ comes_near near from k r)
    → AreJoined links far sent old now
    → ArePorts links near (far_by items) sent b now
ports-are links near far items sent b groups old now from is same first fit here joined = λ q v r l few low.
    let inside = apart v links.vcs links.width q few l in
    let all : AreJoined links items sent old now = subst (λ (xs : List Far). AreJoined links xs sent old now) is joined in
    all q v r l few low
    ∙ ap (λ x. x || comes_by (far_places (far_by items q)) (λ c. word ((port_at links (opposite q)).index v) (sent c)) r)
    (here ((port_at links q).index v) r (omega (arith, inside, fit, first)) low ∙ ap (λ w. comes_near near w ((port_at links q).index v) r) same)

-- ---- of one router
module _ (g : Grid) (sound : IsGrid g) (links : Ports) (near : Near) (far : ℕ → List Far) (sent : ℕ → List ℕ) (b s : ℕ) (now : List ℕ) (leaves : ℕ → ℕ)
    (some : 0 < links.vcs) (pairs : links.width % 2 ≡ 0) (first : links.first ≡ 0) (width : links.width ≡ local_port g) (home : s / 64 ≡ b) (known : s < nodes g)
    (own : IsNear g links.vcs b near) (others : (p : ℕ) → p < local_port g → AreFar g b p (far p)) (are : ArePorts links near far sent b now)
    (shows : (t : ℕ) → t < nodes g → (o : ℕ) → o < links.width * links.vcs → has_bit (set_of (links_of links) (t % 64) (sent (t / 64))) o ≡ has_bit (leaves t) o) where
  -- what leaves a router, by the words
  abbrev words : ℕ → ℕ
  words t = set_of (links_of links) (t % 64) (sent (t / 64))

  -- what leaves the other ends of the links by port q, by block
  abbrev to : ℕ → ℕ → ℕ → ℕ
  to q v c = word ((port_at links (opposite q)).index v) (sent c)

  channel : (p v : ℕ) → p < links.width → v < links.vcs → p * links.vcs + v < links.width * links.vcs
  channel p v l few = apart p links.width links.vcs v l few

  member : (w : List ℕ) (r p v : ℕ) → p < links.width → v < links.vcs → has_bit (set_of (links_of links) r w) (p * links.vcs + v) ≡ has_bit (word ((port_at links p).index v) w) r
  member w r p v l few =
      below-members (links.width * links.vcs) (λ c. has_bit (word ((links_of links).index c) w) r) (p * links.vcs + v)
      ∙ ap (λ x. x && has_bit (word ((links_of links).index (p * links.vcs + v)) w) r) (lt-ltb (p * links.vcs + v) (links.width * links.vcs) (channel p v l few))
      ∙ ap₂ (λ q u. has_bit (word ((port_at links q).index u) w) r) (div-mul-add p links.vcs v few) (mod-mul-add p links.vcs v few)

  -- at the other end of a link the words are right
  over : (v : ℕ) → v < links.vcs → (o : Option (ℕ × ℕ)) (q : ℕ) → neighbour g s q ≡ o → is_over links.vcs words v o ≡ is_over links.vcs leaves v o
  over v few None q e = refl
  over v few (Some (t, port)) q e =
      let back = link_back g s q t port sound known e in
      shows t back.node (port * links.vcs + v) (channel port v (subst (λ n. port < n) (sym width) back.port) few)

  comes : (q v : ℕ) → q < links.width → v < links.vcs → has_bit (word ((port_at links q).index v) now) (s % 64) ≡ is_over links.vcs leaves v (neighbour g s q)
  comes q v l few =
      are q v (s % 64) l few low
      ∙ ap (λ x. x || comes_by (far_places (far q)) (λ c. word ((port_at links (opposite q)).index v) (sent c)) (s % 64)) near-is
      ∙ sym (near-or-far g links.vcs b (v * local_port g + q) (s % 64) near (far q) (to q v) (apart v links.vcs (local_port g) q few link) low own)
      ∙ brought-is g s q v links.vcs (places_by near (far q) b (v * local_port g + q)) (to q v) words
      (are-places g b q s _ (places_by near (far q) b (v * local_port g + q)) sound link (near-and-far g links.vcs b v q near (far q) (others q link) few link own) home known)
      stands
      ∙ over v few (neighbour g s q) q refl
    where
      low : s % 64 < 64
      low = omega arith

      link : q < local_port g
      link = subst (λ n. q < n) width l

      index : (port_at links q).index v ≡ v * local_port g + q
      index = ap₂ (λ a w. a + v * w + q) first width ∙ (let e : 0 + v * local_port g + q ≡ v * local_port g + q = omega arith in e)

      -- the word at the other end stands beside that of the channel
      beside : opposite ((port_at links q).index v) ≡ (port_at links (opposite q)).index v
      beside = opposite-up (links.first + v * links.width) q (let even = even-rows v links.width pairs in omega (arith, first, even))

      near-is : comes_near near (sent b) ((port_at links q).index v) (s % 64)
          ≡ (comes_from (word (v * local_port g + q) near.straight.distance) (word (v * local_port g + q) near.straight.mask) (to q v b) (s % 64)
          || (near.rings && comes_from (word (v * local_port g + q) near.round.distance) (word (v * local_port g + q) near.round.mask) (to q v b) (s % 64)))
      near-is =
          ap (λ i. comes_from (word ((port_at links q).index v) near.straight.distance) (word ((port_at links q).index v) near.straight.mask) (word i (sent b)) (s % 64)
          || (near.rings && comes_from (word ((port_at links q).index v) near.round.distance) (word ((port_at links q).index v) near.round.mask) (word i (sent b)) (s % 64))) beside
          ∙ ap (λ j. comes_from (word j near.straight.distance) (word j near.straight.mask) (to q v b) (s % 64) || (near.rings && comes_from (word j near.round.distance) (word j near.round.mask) (to q v b) (s % 64))) index

      stands : (c r : ℕ) → r < 64 → has_bit (words (64 * c + r)) (opposite q * links.vcs + v) ≡ has_bit (to q v c) r
      stands c r small =
          ap₂ (λ t d. has_bit (set_of (links_of links) t (sent d)) (opposite q * links.vcs + v)) (let e : (64 * c + r) % 64 ≡ r = omega (arith, small) in e) (let e : (64 * c + r) / 64 ≡ c = omega (arith, small) in e)
          ∙ member (sent c) r (opposite q) v (opposite-below q links.width pairs l) few

  -- the set of the router is what the links bring
  pub brought-set : set_of (links_of links) (s % 64) now ≡ gathered g links.vcs leaves s
  brought-set = same-word _ _ (λ i. at i (cases_lt i (links.width * links.vcs)))
    where
      none : (b : Bool) (i : ℕ) → links.width * links.vcs ≤ i → has_bit (gathered g links.vcs leaves s) i ≡ b → has_bit (gathered g links.vcs leaves s) i ≡ false
      none false i u e = e
      none true i u e =
          let l : i / links.vcs < local_port g = gathered-links g sound links.vcs some leaves s known i e in
          let m : links.width ≤ i / links.vcs = le-div links.width i links.vcs some u in
          absurd (omega (arith, l, m, width))

      at : (i : ℕ) → (i < links.width * links.vcs) ⊎ (links.width * links.vcs ≤ i) → has_bit (set_of (links_of links) (s % 64) now) i ≡ has_bit (gathered g links.vcs leaves s) i
      at i (inl l) =
          let q : i / links.vcs < links.width = div_below i links.vcs links.width some l in
          let v : i % links.vcs < links.vcs = mod_below i links.vcs some in
          ap (has_bit (set_of (links_of links) (s % 64) now)) (sym (div-add-mod' i links.vcs))
          ∙ member now (s % 64) (i / links.vcs) (i % links.vcs) q v
          ∙ comes (i / links.vcs) (i % links.vcs) q v
          ∙ sym (gathered-is g sound links.vcs some leaves s known i)
      at i (inr u) =
          below-members (links.width * links.vcs) (λ c. has_bit (word ((links_of links).index c) now) (s % 64)) i
          ∙ ap (λ x. x && has_bit (word ((links_of links).index i) now) (s % 64)) (le-ltb i (links.width * links.vcs) u)
          ∙ sym (none (has_bit (gathered g links.vcs leaves s) i) i u refl)

-- ---- of a router that the network does not have
module _ (g : Grid) (links : Ports) (near : Near) (far : ℕ → List Far) (sent : ℕ → List ℕ) (b s : ℕ) (now : List ℕ) (first : links.first ≡ 0) (width : links.width ≡ local_port g) (home : s / 64 ≡ b)
    (beyond : nodes g ≤ s) (own : IsNear g links.vcs b near) (others : (p : ℕ) → p < local_port g → AreFar g b p (far p)) (are : ArePorts links near far sent b now) where
  low : s % 64 < 64
  low = omega arith

  whole : s ≡ 64 * b + s % 64
  whole = omega (arith, home)

  -- no table has it
  not-here : (p c : ℕ) (way : Bool) → stands_in g (64 * b + s % 64) p way c ≡ false
  not-here p c way = sym (stands-beyond g (64 * b + s % 64) p c way (omega (arith, beyond, whole)))

  comes-not : (distance mask word : ℕ) → has_bit mask (s % 64) ≡ false → comes_from distance mask word (s % 64) ≡ false
  comes-not distance mask word none = ap (λ x. x && has_bit word ((s % 64 + distance) % 64)) none

  near-not : (q v : ℕ) → q < links.width → v < links.vcs → (sent_there : List ℕ) → comes_near near sent_there ((port_at links q).index v) (s % 64) ≡ false
  near-not q v l few sent_there =
      ap₂ (λ x y. x || (near.rings && y))
      (comes-not _ (word ((port_at links q).index v) near.straight.mask) _ (own.straight.mask ((port_at links q).index v) (s % 64) inside low ∙ not-here _ b false))
      (comes-not _ (word ((port_at links q).index v) near.round.mask) _ (own.round.mask ((port_at links q).index v) (s % 64) inside low ∙ not-here _ b true))
      ∙ and-false near.rings
    where
      inside : (port_at links q).index v < links.vcs * local_port g
      inside = let m = apart v links.vcs links.width q few l in subst (λ w. links.first + v * links.width + q < links.vcs * w) width (omega (arith, m, first))

  far-not : (q : ℕ) → q < links.width → (to : ℕ → ℕ) → comes_by (far_places (far q)) to (s % 64) ≡ false
  far-not q l to =
      some-none (length (far q)) _ (λ j m. comes-not _ ((far_places (far q)).mask j) _ ((others q (subst (λ w. q < w) width l)).mask j (s % 64) m low ∙ not-here q ((far_places (far q)).block j) ((others q (subst (λ w. q < w) width l)).way j)))

  -- nothing comes to it
  pub nothing-set : set_of (links_of links) (s % 64) now ≡ 0
  nothing-set = same-word _ 0 (λ i. at i (cases_lt i (links.width * links.vcs)))
    where
      none : (i : ℕ) → i < links.width * links.vcs → has_bit (word ((links_of links).index i) now) (s % 64) ≡ false
      none i l = of (cases_lt 0 links.vcs)
        where
          of : (0 < links.vcs) ⊎ (links.vcs ≤ 0) → has_bit (word ((links_of links).index i) now) (s % 64) ≡ false
          of (inl some) =
              let q : i / links.vcs < links.width = div_below i links.vcs links.width some l in
              let v : i % links.vcs < links.vcs = mod_below i links.vcs some in
              are (i / links.vcs) (i % links.vcs) (s % 64) q v low
              ∙ ap₂ (λ x y. x || y) (near-not (i / links.vcs) (i % links.vcs) q v (sent b)) (far-not (i / links.vcs) q (λ c. word ((port_at links (opposite (i / links.vcs))).index (i % links.vcs)) (sent c)))
          of (inr zero_vcs) =
              let z : links.vcs ≡ 0 = omega (arith, zero_vcs) in
              let e : links.width * links.vcs ≡ links.width * 0 = ap (λ n. links.width * n) z in
              absurd (omega (arith, l, e))

      at : (i : ℕ) → (i < links.width * links.vcs) ⊎ (links.width * links.vcs ≤ i) → has_bit (set_of (links_of links) (s % 64) now) i ≡ has_bit 0 i
      at i (inl l) =
          below-members (links.width * links.vcs) (λ c. has_bit (word ((links_of links).index c) now) (s % 64)) i
          ∙ ap₂ (λ x y. x && y) (lt-ltb i (links.width * links.vcs) l) (none i l)
          ∙ sym (has_bit-zero i)
      at i (inr u) =
          below-members (links.width * links.vcs) (λ c. has_bit (word ((links_of links).index c) now) (s % 64)) i
          ∙ ap (λ x. x && has_bit (word ((links_of links).index i) now) (s % 64)) (le-ltb i (links.width * links.vcs) u)
          ∙ sym (has_bit-zero i)

-- ---- what is asked for
pub led-by : (g : Grid) (links : Ports) (b count : ℕ) (far : List Far) → links.width ≡ local_port g → links.width % 2 ≡ 0 → nodes g ≤ 64 * count → AreFarBy g b far → AreLed links count far
led-by g links b count far width pairs blocks are = record {
  port = port;
  opposite = λ j l. opposite-below _ links.width pairs (port j l);
  blocks = λ j l. let n = are.blocks j l in omega (arith, n, blocks);
}
  where
    port : (j : ℕ) → j < length far → slice_index (map (λ (f : Far). f.port) far) j < links.width
    port j l = subst (λ n. slice_index (map (λ (f : Far). f.port) far) j < n) (sym width) (are.ports j l)
