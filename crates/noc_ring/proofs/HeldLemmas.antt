-- The slots that hold a flit, before and after a push and a pop.
use Rattle.std.proofs.Common.{◌≡◌, ◌≢◌, ℕ, ◌+◌, ◌-◌, ◌*◌, ◌%◌, ◌<◌, ◌≤◌, Bool, true, false, List, length, get_or, set, ap, sym, ◌∙◌, arith, inl, inr, get_or-set_same, get_or-set_other, length-set}
use Rattle.std.specs.Prelude.{◌⊎◌}
use Rattle.std.proofs.lemmas.Bool.{cases_eq}
use Rattle.std.proofs.lemmas.List.{get_or-replicate}
use Rattle.std.proofs.lemmas.Nat.{mod_below}
use Rattle.std.proofs.Math.ListN.{replicate}
use Rattle.std.proofs.Math.Nat.{mod-eq_of_lt}
use Rattle.noc_packet.specs.declared.limits.TheConstants.{INDICES}
use Rattle.noc_packet.specs.declared.packet.Flit.{Flit}
use Rattle.noc_ring.specs.declared.bank.Extent.{Extent}
use Rattle.noc_ring.specs.Buffers.{Buffers}
use Rattle.noc_ring.specs.Slots.{no_extent, slot_of, AreHeld}
use Rattle.noc_ring.proofs.SlotLemmas.{apart, next_head, rings_apart}
use Rattle.noc_ring.proofs.RingLemmas.{IsRing, slot, offset-below}

-- rings without flits
pub new-held : (filled : List Bool) (c n : ℕ) (extents : List Extent) → n ≤ INDICES → extents ≡ replicate INDICES no_extent → length filled ≡ n * c → AreHeld filled c n extents
new-held filled c n extents few is all = record {
  whole = all;
  held = λ r i u l.
      let e : (get_or extents r no_extent).len ≡ 0 = ap (λ (x : Extent). x.len) (ap (λ es. get_or es r no_extent) is ∙ get_or-replicate INDICES r no_extent no_extent (omega arith)) in
      absurd (omega arith);
}

-- the slot of the first flit of a ring
pub front-held : {slots : List Flit} {c many : ℕ} {extents : List Extent} {v : Buffers} {r : ℕ} (filled : List Bool) → IsRing slots c many extents v r → AreHeld filled c many extents → 0 < (get_or extents r no_extent).len
    → get_or filled (r * c + (get_or extents r no_extent).head) false ≡ true
front-held {c} {extents} {r} filled ring held some =
    let h : ℕ = (get_or extents r no_extent).head in
    let z : h ≡ (h + 0) % c = sym (ap (λ k. k % c) (let y : h + 0 ≡ h = omega arith in y) ∙ mod-eq_of_lt ring.head_below) in
    ap (λ k. get_or filled (r * c + k) false) z ∙ held.held r 0 ring.inside some

-- where ring r alone has changed
held-set : (filled after : List Bool) (c many : ℕ) (extents : List Extent) (r : ℕ) (e : Extent) → AreHeld filled c many extents → r < length extents → length after ≡ length filled
    → ((i : ℕ) → i < e.len → get_or after (slot_of (r * c) c e.head i) false ≡ true)
    → ((q p : ℕ) → q ≢ r → p < c → get_or after (q * c + p) false ≡ get_or filled (q * c + p) false)
    → 0 < c → AreHeld after c many (set extents r e)
held-set filled after c many extents r e held l same_length here others some = record { whole = same_length ∙ held.whole; held = λ q i u. at q i u (cases_eq q r) }
  where
    at : (q i : ℕ) → q < many → (q ≡ r) ⊎ (q ≡ r → ⊥) → i < (get_or (set extents r e) q no_extent).len → get_or after (slot_of (q * c) c (get_or (set extents r e) q no_extent).head i) false ≡ true
    at q i u (inl same) v =
        let ours : get_or (set extents r e) q no_extent ≡ e = ap (λ k. get_or (set extents r e) k no_extent) same ∙ get_or-set_same extents r e no_extent l in
        let n : (get_or (set extents r e) q no_extent).len ≡ e.len = ap (λ (x : Extent). x.len) ours in
        ap (λ (x : Extent). get_or after (slot_of (q * c) c x.head i) false) ours
        ∙ ap (λ k. get_or after (slot_of (k * c) c e.head i) false) same
        ∙ here i (omega arith)
    at q i u (inr other) v =
        let same : get_or (set extents r e) q no_extent ≡ get_or extents q no_extent = get_or-set_other extents r q e no_extent other in
        let n : (get_or (set extents r e) q no_extent).len ≡ (get_or extents q no_extent).len = ap (λ (x : Extent). x.len) same in
        ap (λ (x : Extent). get_or after (slot_of (q * c) c x.head i) false) same
        ∙ others q (((get_or extents q no_extent).head + i) % c) other (mod_below ((get_or extents q no_extent).head + i) c some)
        ∙ held.held q i u (omega arith)

pub push-held : {slots : List Flit} {c many : ℕ} {extents : List Extent} {v : Buffers} {r : ℕ} (filled : List Bool) → IsRing slots c many extents v r → AreHeld filled c many extents
    → (p : ℕ) → (get_or extents r no_extent).len < c → p ≡ ((get_or extents r no_extent).head + (get_or extents r no_extent).len) % c
    → AreHeld (set filled (r * c + p) true) c many (set extents r (record { head = (get_or extents r no_extent).head; len = (get_or extents r no_extent).len + 1 }))
push-held {slots} {c} {many} {extents} {v} {r} filled ring held p room place =
    held-set filled (set filled (r * c + p) true) c many extents r (record { head = h; len = n + 1 }) held (omega (arith, ring.listed, ring.is_bank.table)) (length-set filled (r * c + p) true)
    (λ i l. at i (cases_eq (r * c + (h + i) % c) (r * c + p)) l)
    (λ q s other low. get_or-set_other filled (r * c + p) (q * c + s) true false (rings_apart q r c s p other low below))
    ring.is_bank.some
  where
    h : ℕ
    h = (get_or extents r no_extent).head

    n : ℕ
    n = (get_or extents r no_extent).len

    below : p < c
    below = offset-below ring p (h + n) place

    earlier : (i : ℕ) → i < n + 1 → (i ≡ n) ⊎ (i ≡ n → ⊥) → (r * c + (h + i) % c ≡ r * c + p → ⊥) → i < n
    earlier i l (inl last) other = absurd (other (ap (λ k. r * c + (h + k) % c) last ∙ ap (λ k. r * c + k) (sym place)))
    earlier i l (inr less) other = omega arith

    at : (i : ℕ) → (r * c + (h + i) % c ≡ r * c + p) ⊎ (r * c + (h + i) % c ≡ r * c + p → ⊥) → i < n + 1 → get_or (set filled (r * c + p) true) (r * c + (h + i) % c) false ≡ true
    at i (inl same) l = ap (λ k. get_or (set filled (r * c + p) true) k false) same ∙ get_or-set_same filled (r * c + p) true false (omega (arith, slot ring p below, held.whole, ring.is_bank.whole))
    at i (inr other) l = get_or-set_other filled (r * c + p) (r * c + (h + i) % c) true false other ∙ held.held r i ring.inside (earlier i l (cases_eq i n) other)

pub pop-held : {slots : List Flit} {c many : ℕ} {extents : List Extent} {v : Buffers} {r : ℕ} (filled : List Bool) → IsRing slots c many extents v r → AreHeld filled c many extents
    → (p : ℕ) → 0 < (get_or extents r no_extent).len → p ≡ ((get_or extents r no_extent).head + 1) % c
    → AreHeld (set filled (r * c + (get_or extents r no_extent).head) false) c many (set extents r (record { head = p; len = (get_or extents r no_extent).len - 1 }))
pop-held {slots} {c} {many} {extents} {v} {r} filled ring held p some place =
    held-set filled (set filled (r * c + h) false) c many extents r (record { head = p; len = n - 1 }) held (omega (arith, ring.listed, ring.is_bank.table)) (length-set filled (r * c + h) false)
    (λ i l.
    let shift : (p + i) % c ≡ (h + (i + 1)) % c = ap (λ k. (k + i) % c) place ∙ next_head h c i ring.head_below (omega (arith, ring.len_within)) in
    ap (λ k. get_or (set filled (r * c + h) false) (r * c + k) false) shift
    ∙ get_or-set_other filled (r * c + h) (r * c + (h + (i + 1)) % c) false false (later i l)
    ∙ held.held r (i + 1) ring.inside (omega arith))
    (λ q s other low. get_or-set_other filled (r * c + h) (q * c + s) false false (rings_apart q r c s h other low ring.head_below))
    ring.is_bank.some
  where
    h : ℕ
    h = (get_or extents r no_extent).head

    n : ℕ
    n = (get_or extents r no_extent).len

    later : (i : ℕ) → i < n - 1 → r * c + (h + (i + 1)) % c ≢ r * c + h
    later i l same =
        let here : (h + 0) % c ≡ h = ap (λ k. k % c) (let y : h + 0 ≡ h = omega arith in y) ∙ mod-eq_of_lt ring.head_below in
        let there : (h + (i + 1)) % c ≡ h = omega arith in
        apart h c 0 (i + 1) ring.head_below (omega arith) (omega (arith, ring.len_within)) (here ∙ sym there)
