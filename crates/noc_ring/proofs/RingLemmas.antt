-- The rings of a bank, by its slots.
use Rattle.std.proofs.Common.{◌≡◌, ◌≢◌, ℕ, zero, suc, ◌+◌, ◌-◌, ◌*◌, ◌%◌, ◌<◌, ◌≤◌, List, [], ◌∷◌, ◌++◌, map, length, get_or, set, drop, refl, ap, sym, ◌∙◌, arith, inl, inr, subst, get_or-set_same, get_or-set_other, length-set}
use Rattle.std.specs.Prelude.{◌⊎◌}
use Rattle.std.specs.List.{range_with_len}
use Rattle.std.proofs.lemmas.Bool.{cases_eq}
use Rattle.std.proofs.lemmas.List.{ext_get_or, length-replicate, get_or-replicate, get_or_read, set-get_or}
use Rattle.std.proofs.lemmas.List.FromFn.{length-map-range_with_len, get_or-map-range_with_len, map-range_with_len_more}
use Rattle.std.proofs.lemmas.Nat.{mod_below, mul-le}
use Rattle.std.proofs.Math.ListN.{replicate}
use Rattle.std.proofs.Math.Nat.{mod-eq_of_lt}
use Rattle.noc_packet.specs.declared.limits.TheConstants.{INDICES, MAX_BUFFER}
use Rattle.noc_packet.specs.declared.packet.Flit.{Flit}
use Rattle.noc_ring.specs.declared.bank.Extent.{Extent}
use Rattle.noc_ring.specs.Buffers.{Buffers, buffer_at, buffers_after_push, buffers_after_pop, empty_buffers}
use Rattle.noc_ring.specs.Slots.{blank, no_extent, flit_in, flits_in_slots, flits_of_ring, rings_of, IsBank}
use Rattle.noc_ring.proofs.SlotLemmas.{apart, next_head, rings_apart, in_slots}

-- two functions that agree below n give one list
pub map-same : {X : Type 0} (d : X) (f g : ℕ → X) (a b n : ℕ) → ((i : ℕ) → i < n → f (a + i) ≡ g (b + i)) → map f (range_with_len a n) ≡ map g (range_with_len b n)
map-same d f g a b n same =
    ext_get_or d (map f (range_with_len a n)) (map g (range_with_len b n))
    (length-map-range_with_len f a n ∙ sym (length-map-range_with_len g b n))
    (λ i l. let u : i < n = omega (arith, length-map-range_with_len f a n) in
    get_or-map-range_with_len f a n i (a + i) d u refl
    ∙ same i u
    ∙ sym (get_or-map-range_with_len g b n i (b + i) d u refl))

-- ---- one ring
pub length-ring_in : (slots : List Flit) (base c h n : ℕ) → length (flits_in_slots slots base c h n) ≡ n
length-ring_in slots base c h n = length-map-range_with_len (flit_in slots base c h) 0 n

-- a flit that is written behind the last one
pub ring_in-push : (slots : List Flit) (base c h n : ℕ) (flit : Flit) → h < c → n < c → base + (h + n) % c < length slots
    → flits_in_slots (set slots (base + (h + n) % c) flit) base c h (n + 1) ≡ flits_in_slots slots base c h n ++ flit ∷ []
ring_in-push slots base c h n flit l u fits =
    let to : ℕ = base + (h + n) % c in
    map-range_with_len_more (flit_in (set slots (base + (h + n) % c) flit) base c h) 0 n n (omega arith)
    ∙ ap (λ x. map (flit_in (set slots (base + (h + n) % c) flit) base c h) (range_with_len 0 n) ++ x ∷ []) (get_or-set_same slots to flit blank fits)
    ∙ ap (λ xs. xs ++ flit ∷ [])
    (map-same blank (flit_in (set slots (base + (h + n) % c) flit) base c h) (flit_in slots base c h) 0 0 n
    (λ i v. get_or-set_other slots to (base + (h + (0 + i)) % c) flit blank
    (λ e. apart h c i n l v u (let s : (h + (0 + i)) % c ≡ (h + n) % c = omega arith in ap (λ k. (h + k) % c) (let z : i ≡ 0 + i = omega arith in z) ∙ s))))

-- the ring from its next flit on
pub ring_in-pop : (slots : List Flit) (base c h n : ℕ) → h < c → 0 < n → n ≤ c
    → flits_in_slots slots base c h n ≡ get_or slots (base + h) blank ∷ flits_in_slots slots base c ((h + 1) % c) (n - 1)
ring_in-pop slots base c h zero l some u = absurd (omega arith)
ring_in-pop slots base c h (suc n) l some u =
    let less : suc n - 1 ≡ n = omega arith in
    let at : (h + 0) % c ≡ h = ap (λ k. k % c) (let z : h + 0 ≡ h = omega arith in z) ∙ mod-eq_of_lt l in
    rw less
    (ap (λ k. get_or slots (base + k) blank ∷ map (flit_in slots base c h) (range_with_len (0 + 1) n)) at
    ∙ ap (λ xs. get_or slots (base + h) blank ∷ xs)
    (map-same blank (flit_in slots base c h) (flit_in slots base c ((h + 1) % c)) (0 + 1) 0 n
    (λ i v. ap (λ k. get_or slots (base + k) blank)
    (ap (λ k. (h + k) % c) (let z : 0 + 1 + i ≡ i + 1 = omega arith in z)
    ∙ sym (next_head h c i l (omega arith))
    ∙ ap (λ k. ((h + 1) % c + k) % c) (let z : i ≡ 0 + i = omega arith in z)))))

-- a ring none of whose slots is written
pub ring_in-other : (slots : List Flit) (q r c h n p : ℕ) (flit : Flit) → q ≢ r → p < c
    → flits_in_slots (set slots (r * c + p) flit) (q * c) c h n ≡ flits_in_slots slots (q * c) c h n
ring_in-other slots q r c h n p flit other l =
    map-same blank (flit_in (set slots (r * c + p) flit) (q * c) c h) (flit_in slots (q * c) c h) 0 0 n
    (λ i v. get_or-set_other slots (r * c + p) (q * c + (h + (0 + i)) % c) flit blank
    (rings_apart q r c ((h + (0 + i)) % c) p other (mod_below (h + (0 + i)) c (omega arith)) l))

-- ---- all rings
pub length-rings_of : (slots : List Flit) (c many : ℕ) (extents : List Extent) → length (rings_of slots c many extents) ≡ many
length-rings_of slots c many extents = length-map-range_with_len (flits_of_ring slots c extents) 0 many

pub get_or-rings_of : (slots : List Flit) (c many : ℕ) (extents : List Extent) (r : ℕ) → r < many → get_or (rings_of slots c many extents) r [] ≡ flits_of_ring slots c extents r
get_or-rings_of slots c many extents r l = get_or-map-range_with_len (flits_of_ring slots c extents) 0 many r r [] l (omega arith)

-- where ring r alone has changed
pub rings_of-set : (slots after : List Flit) (c many : ℕ) (extents : List Extent) (r : ℕ) (e : Extent) (ring : List Flit) → r < many → many ≤ length extents
    → flits_in_slots after (r * c) c e.head e.len ≡ ring
    → ((q : ℕ) → q < many → q ≢ r → flits_of_ring after c extents q ≡ flits_of_ring slots c extents q)
    → rings_of after c many (set extents r e) ≡ set (rings_of slots c many extents) r ring
rings_of-set slots after c many extents r e ring l all here others =
    let m : length (rings_of after c many (set extents r e)) ≡ many = length-rings_of after c many (set extents r e) in
    let k : length (set (rings_of slots c many extents) r ring) ≡ length (rings_of slots c many extents) = length-set (rings_of slots c many extents) r ring in
    let j : length (rings_of slots c many extents) ≡ many = length-rings_of slots c many extents in
    ext_get_or [] (rings_of after c many (set extents r e)) (set (rings_of slots c many extents) r ring) (m ∙ sym j ∙ sym k)
    (λ q u. get_or-rings_of after c many (set extents r e) q (omega arith) ∙ at q (omega arith) (cases_eq q r))
  where
    at : (q : ℕ) → q < many → (q ≡ r) ⊎ (q ≡ r → ⊥) → flits_of_ring after c (set extents r e) q ≡ get_or (set (rings_of slots c many extents) r ring) q []
    at q u (inl same) =
        let j : length (rings_of slots c many extents) ≡ many = length-rings_of slots c many extents in
        let ours : get_or (set extents r e) q no_extent ≡ e = ap (λ i. get_or (set extents r e) i no_extent) same ∙ get_or-set_same extents r e no_extent (omega arith) in
        ap (λ (x : Extent). flits_in_slots after (q * c) c x.head x.len) ours
        ∙ ap (λ i. flits_in_slots after (i * c) c e.head e.len) same
        ∙ here
        ∙ sym (ap (λ i. get_or (set (rings_of slots c many extents) r ring) i []) same ∙ get_or-set_same (rings_of slots c many extents) r ring [] (omega arith))
    at q u (inr other) =
        ap (λ (x : Extent). flits_in_slots after (q * c) c x.head x.len) (get_or-set_other extents r q e no_extent other)
        ∙ others q u other
        ∙ sym (get_or-set_other (rings_of slots c many extents) r q ring [] other ∙ get_or-rings_of slots c many extents q u)

pub rings_of-push : (slots : List Flit) (c many : ℕ) (extents : List Extent) (r : ℕ) (flit : Flit) → IsBank slots c many extents → r < many
    → (get_or extents r no_extent).len < c
    → rings_of (set slots (r * c + ((get_or extents r no_extent).head + (get_or extents r no_extent).len) % c) flit) c many (set extents r (record { head = (get_or extents r no_extent).head; len = (get_or extents r no_extent).len + 1 }))
    ≡ set (rings_of slots c many extents) r (flits_of_ring slots c extents r ++ flit ∷ [])
rings_of-push slots c many extents r flit bank l room =
    let h : ℕ = (get_or extents r no_extent).head in
    let n : ℕ = (get_or extents r no_extent).len in
    let p : ℕ = (h + n) % c in
    let head : h < c = bank.heads r l in
    let low : (h + n) % c < c = mod_below (h + n) c bank.some in
    let fits : r * c + p < length slots = omega (arith, bank.whole, in_slots r many c p l low) in
    rings_of-set slots (set slots (r * c + p) flit) c many extents r (record { head = h; len = n + 1 }) (flits_of_ring slots c extents r ++ flit ∷ []) l (omega (arith, bank.rings, bank.table))
    (ring_in-push slots (r * c) c h n flit head room fits)
    (λ q u other. ring_in-other slots q r c _ _ p flit other low)

pub rings_of-pop : (slots : List Flit) (c many : ℕ) (extents : List Extent) (r : ℕ) → IsBank slots c many extents → r < many
    → 0 < (get_or extents r no_extent).len
    → rings_of slots c many (set extents r (record { head = ((get_or extents r no_extent).head + 1) % c; len = (get_or extents r no_extent).len - 1 }))
    ≡ set (rings_of slots c many extents) r (drop 1 (flits_of_ring slots c extents r))
rings_of-pop slots c many extents r bank l some =
    let h : ℕ = (get_or extents r no_extent).head in
    let n : ℕ = (get_or extents r no_extent).len in
    rings_of-set slots slots c many extents r (record { head = (h + 1) % c; len = n - 1 }) (drop 1 (flits_of_ring slots c extents r)) l (omega (arith, bank.rings, bank.table))
    (sym (ap (drop 1) (ring_in-pop slots (r * c) c h n (bank.heads r l) some (bank.lens r l))))
    (λ q u other. refl)

-- ---- a bank, seen as its rings
abbrev pub bank_of : List Flit → ℕ → ℕ → List Extent → Buffers
bank_of slots c many extents = record { rings = rings_of slots c many extents; capacity = c }

-- what is known of ring r of a bank
pub record IsRing (slots : List Flit) (c many : ℕ) (extents : List Extent) (v : Buffers) (r : ℕ) : Type 0 where
  pub is_view : bank_of slots c many extents ≡ v
  pub is_bank : IsBank slots c many extents
  pub inside : r < many
  pub listed : r < INDICES
  pub head_below : (get_or extents r no_extent).head < c
  pub len_within : (get_or extents r no_extent).len ≤ c
  pub count : length (buffer_at v r) ≡ (get_or extents r no_extent).len
  pub capacity : v.capacity ≡ c
  pub few_slots : length slots ≤ INDICES * MAX_BUFFER

ring_at-is : (slots : List Flit) (c many : ℕ) (extents : List Extent) (v : Buffers) (r : ℕ) → bank_of slots c many extents ≡ v → r < many → buffer_at v r ≡ flits_of_ring slots c extents r
ring_at-is slots c many extents v r is l = ap (λ (w : Buffers). buffer_at w r) (sym is) ∙ get_or-rings_of slots c many extents r l

pub ring-known : {slots : List Flit} {c many : ℕ} {extents : List Extent} {v : Buffers} {r : ℕ} → IsBank slots c many extents → bank_of slots c many extents ≡ v → r < length v.rings → IsRing slots c many extents v r
ring-known {slots} {c} {many} {extents} {v} {r} bank is l =
    let n : length (rings_of slots c many extents) ≡ length v.rings = ap (λ (w : Buffers). length w.rings) is in
    let inside : r < many = omega (arith, length-rings_of slots c many extents) in
    let few : many * c ≤ INDICES * MAX_BUFFER = mul-le many c INDICES MAX_BUFFER bank.rings bank.small in
    record {
      is_view = is;
      is_bank = bank;
      inside = inside;
      listed = omega (arith, bank.rings);
      head_below = bank.heads r inside;
      len_within = bank.lens r inside;
      count = ap length (ring_at-is slots c many extents v r is inside) ∙ length-ring_in slots (r * c) c _ _;
      capacity = ap (λ (w : Buffers). w.capacity) (sym is);
      few_slots = omega (arith, bank.whole);
    }

-- an offset of the ring is one of the slots
pub slot : {slots : List Flit} {c many : ℕ} {extents : List Extent} {v : Buffers} {r : ℕ} → IsRing slots c many extents v r → (p : ℕ) → p < c → r * c + p < length slots
slot {c} {many} {r} ring p u = omega (arith, ring.is_bank.whole, in_slots r many c p ring.inside u)

-- what an offset becomes once it is wrapped
pub offset-below : {slots : List Flit} {c many : ℕ} {extents : List Extent} {v : Buffers} {r : ℕ} → IsRing slots c many extents v r → (p n : ℕ) → p ≡ n % c → p < c
offset-below {c} ring p n is = let low : n % c < c = mod_below n c ring.is_bank.some in omega arith

-- ---- after a push and a pop
pub pushed-is : {slots : List Flit} {c many : ℕ} {extents : List Extent} {v : Buffers} {r : ℕ} → IsRing slots c many extents v r → (p : ℕ) (flit : Flit) → (get_or extents r no_extent).len < c
    → p ≡ ((get_or extents r no_extent).head + (get_or extents r no_extent).len) % c
    → bank_of (set slots (r * c + p) flit) c many (set extents r (record { head = (get_or extents r no_extent).head; len = (get_or extents r no_extent).len + 1 })) ≡ buffers_after_push v r flit
pushed-is {slots} {c} {many} {extents} {v} {r} ring p flit room place =
    ap (λ k. bank_of (set slots (r * c + k) flit) c many (set extents r (record { head = (get_or extents r no_extent).head; len = (get_or extents r no_extent).len + 1 }))) place
    ∙ ap (λ (rs : List (List Flit)). let w : Buffers = record { rings = rs; capacity = c } in w)
    (rings_of-push slots c many extents r flit ring.is_bank ring.inside room
    ∙ ap (λ xs. set (rings_of slots c many extents) r (xs ++ flit ∷ [])) (sym (get_or-rings_of slots c many extents r ring.inside)))
    ∙ ap (λ (w : Buffers). buffers_after_push w r flit) ring.is_view

pub popped-is : {slots : List Flit} {c many : ℕ} {extents : List Extent} {v : Buffers} {r : ℕ} → IsRing slots c many extents v r → (h : ℕ) → 0 < (get_or extents r no_extent).len → h ≡ ((get_or extents r no_extent).head + 1) % c
    → bank_of slots c many (set extents r (record { head = h; len = (get_or extents r no_extent).len - 1 })) ≡ buffers_after_pop v r
popped-is {slots} {c} {many} {extents} {v} {r} ring h some place =
    ap (λ k. bank_of slots c many (set extents r (record { head = k; len = (get_or extents r no_extent).len - 1 }))) place
    ∙ ap (λ (rs : List (List Flit)). let w : Buffers = record { rings = rs; capacity = c } in w)
    (rings_of-pop slots c many extents r ring.is_bank ring.inside some
    ∙ ap (λ xs. set (rings_of slots c many extents) r (drop 1 xs)) (sym (get_or-rings_of slots c many extents r ring.inside)))
    ∙ ap (λ (w : Buffers). buffers_after_pop w r) ring.is_view

-- the first flit of a ring, as it was read
pub front-is : {slots : List Flit} {c many : ℕ} {extents : List Extent} {v : Buffers} {r : ℕ} → IsRing slots c many extents v r → (flit : Flit) → 0 < (get_or extents r no_extent).len
    → flit ≡ get_or slots (r * c + (get_or extents r no_extent).head) flit → buffer_at v r ≡ flit ∷ drop 1 (buffer_at v r)
front-is {slots} {c} {many} {extents} {v} {r} ring flit some was =
    let h : ℕ = (get_or extents r no_extent).head in
    let n : ℕ = (get_or extents r no_extent).len in
    let whole : buffer_at v r ≡ flits_of_ring slots c extents r = ring_at-is slots c many extents v r ring.is_view ring.inside in
    let parts = ring_in-pop slots (r * c) c h n ring.head_below some ring.len_within in
    whole ∙ parts
    ∙ ap (λ x. x ∷ flits_in_slots slots (r * c) c ((h + 1) % c) (n - 1)) (sym (get_or_read slots (r * c + h) flit (slot ring h ring.head_below) was blank))
    ∙ ap (λ xs. flit ∷ xs) (sym (ap (drop 1) (whole ∙ parts)))

-- the ring that is left after a pop
pub ring_at-popped : (v : Buffers) (r : ℕ) → r < length v.rings → buffer_at (buffers_after_pop v r) r ≡ drop 1 (buffer_at v r)
ring_at-popped v r l = get_or-set_same v.rings r (drop 1 (buffer_at v r)) [] l

-- ---- a new bank
pub new-is : (n c : ℕ) (extents : List Extent) (slots : List Flit) → n ≤ INDICES → extents ≡ replicate INDICES no_extent → bank_of slots c n extents ≡ empty_buffers n c
new-is n c extents slots few is =
    let k : length (rings_of slots c n extents) ≡ n = length-rings_of slots c n extents in
    let j : length (replicate n (let none : List Flit = [] in none)) ≡ n = length-replicate n (let none : List Flit = [] in none) in
    ap (λ (rs : List (List Flit)). let w : Buffers = record { rings = rs; capacity = c } in w)
    (ext_get_or [] (rings_of slots c n extents) (replicate n []) (k ∙ sym j)
    (λ r l. let u : r < n = omega arith in
    get_or-rings_of slots c n extents r u
    ∙ ap (λ (x : Extent). flits_in_slots slots (r * c) c x.head x.len) (ap (λ es. get_or es r no_extent) is ∙ get_or-replicate INDICES r no_extent no_extent (omega arith))
    ∙ sym (get_or-replicate n r [] [] u)))

pub new-fits : (n c : ℕ) (extents : List Extent) (slots : List Flit) → n ≤ INDICES → 0 < c → c ≤ MAX_BUFFER → extents ≡ replicate INDICES no_extent → length slots ≡ n * c → IsBank slots c n extents
new-fits n c extents slots l some small is all =
    let each : (r : ℕ) → r < n → get_or extents r no_extent ≡ no_extent = λ r u. ap (λ es. get_or es r no_extent) is ∙ get_or-replicate INDICES r no_extent no_extent (omega arith) in
    record {
      whole = all;
      rings = l;
      table = ap length is ∙ length-replicate INDICES no_extent;
      some = some;
      small = small;
      heads = λ r u. let h : (get_or extents r no_extent).head ≡ 0 = ap (λ (x : Extent). x.head) (each r u) in omega arith;
      lens = λ r u. let h : (get_or extents r no_extent).len ≡ 0 = ap (λ (x : Extent). x.len) (each r u) in omega arith;
    }

-- a write keeps a bank
pub set-fits : (slots : List Flit) (c many : ℕ) (extents : List Extent) (r p : ℕ) (flit : Flit) (e : Extent) → IsBank slots c many extents → r < many → e.head < c → e.len ≤ c
    → IsBank (set slots p flit) c many (set extents r e)
set-fits slots c many extents r p flit e bank l head len =
    let n : length (set extents r e) ≡ length extents = length-set extents r e in
    let m : length (set slots p flit) ≡ length slots = length-set slots p flit in
    record {
      whole = m ∙ bank.whole;
      rings = bank.rings;
      table = n ∙ bank.table;
      some = bank.some;
      small = bank.small;
      heads = λ q u. at (λ (x : Extent). x.head < c) q head (bank.heads q u) (cases_eq q r);
      lens = λ q u. at (λ (x : Extent). x.len ≤ c) q len (bank.lens q u) (cases_eq q r);
    }
  where
    at : (P : Extent → Type 0) (q : ℕ) → P e → P (get_or extents q no_extent) → (q ≡ r) ⊎ (q ≡ r → ⊥) → P (get_or (set extents r e) q no_extent)
    at P q new old (inl same) = subst P (sym (ap (λ i. get_or (set extents r e) i no_extent) same ∙ get_or-set_same extents r e no_extent (omega (arith, bank.rings, bank.table)))) new
    at P q new old (inr other) = subst P (sym (get_or-set_other extents r q e no_extent other)) old

pub set-extents_fits : (slots : List Flit) (c many : ℕ) (extents : List Extent) (r : ℕ) (e : Extent) → IsBank slots c many extents → r < many → e.head < c → e.len ≤ c
    → IsBank slots c many (set extents r e)
set-extents_fits slots c many extents r e bank l head len =
    subst (λ (s : List Flit). IsBank s c many (set extents r e)) (set-get_or slots 0 blank) (set-fits slots c many extents r 0 (get_or slots 0 blank) e bank l head len)
