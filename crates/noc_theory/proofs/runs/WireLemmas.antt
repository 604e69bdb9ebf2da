-- The beats on the wires, while the routers put theirs one after another.
use Rattle.std.proofs.Common.{◌≡◌, ◌≢◌, ℕ, zero, suc, ◌+◌, ◌<◌, ◌≤◌, Bool, true, false, List, [], length, get_or, set, Option, Some, None, refl, ap, sym, ◌∙◌, ⊎_elim, arith, replicate}
use Rattle.std.specs.Prelude.{IfSome, if◌then◌else◌, ◌&&◌, nat_eq, nat_lt, unwrap_or}
use Rattle.noc_view.specs.View.{beat_to_put}
use Rattle.noc_theory.proofs.Common.{ext_get_or, length-replicate, get_or-set_same, get_or-set_other, length-set, cases_eq, cases_lt, eq-eqb, ne_eqb, le-ltb, lt-ltb, Grid, IsGrid, nodes, local_port, neighbour, link_back, Beat, View, idle_beat, beat_at, beat_from}
use Rattle.noc_theory.specs.Halves.{wire_after_puts, sent_on}

-- the wires that come from the routers before k have what those put
abbrev pub put_by : ℕ → List (List Beat) → Option (ℕ × ℕ) → Beat
put_by k sent None = idle_beat
put_by k sent (Some from) = if nat_lt from.0 k then beat_from sent (Some from) else idle_beat

-- a wire, after router v has put its beats at the ports before k
abbrev pub received_to : ℕ → View → Option (ℕ × ℕ) → Beat → Beat
received_to k v None beat = beat
received_to k v (Some from) beat = if nat_eq from.0 v.site.node && nat_lt from.1 k then beat_to_put v from.1 else beat

-- ---- one port more
abbrev pub at_port : ℕ → ℕ → Option (ℕ × ℕ)
at_port node port = Some (node, port)

same-some : (a b c d : ℕ) → a ≡ c → b ≡ d → at_port a b ≡ at_port c d
same-some a b c d p q = cc

pub same-ports : (a b c d : ℕ) → at_port a b ≡ at_port c d → (a ≡ c) × (b ≡ d)
same-ports a b c d e =
    let none : ℕ × ℕ = (0, 0) in
    (ap (λ (o : Option (ℕ × ℕ)). (unwrap_or o none).0) e, ap (λ (o : Option (ℕ × ℕ)). (unwrap_or o none).1) e)

-- a wire that does not come from this port is as it was
received_same : (k : ℕ) (v : View) (from : Option (ℕ × ℕ)) (beat : Beat) → from ≢ Some (v.site.node, k) → received_to (k + 1) v from beat ≡ received_to k v from beat
received_same k v None beat n = refl
received_same k v (Some (a, q)) beat n =
    ⊎_elim (λ (e : a ≡ v.site.node).
    let other : q ≢ k = λ f. n (same-some a q v.site.node k e f) in
    ap (λ b. if nat_eq a v.site.node && b then beat_to_put v q else beat) (below_more other))
    (λ (d : a ≢ v.site.node). rw (ne_eqb a v.site.node d) refl) (cases_eq a v.site.node)
  where
    below_more : q ≢ k → nat_lt q (k + 1) ≡ nat_lt q k
    below_more other =
        ⊎_elim (λ (l : q < k). lt-ltb q (k + 1) (omega arith) ∙ sym (lt-ltb q k l))
        (λ (u : k ≤ q). le-ltb q (k + 1) (omega arith) ∙ sym (le-ltb q k u))
        (cases_lt q k)

received_here : (k : ℕ) (v : View) (from : Option (ℕ × ℕ)) (beat : Beat) → from ≡ Some (v.site.node, k) → received_to (k + 1) v from beat ≡ beat_to_put v k
received_here k v from beat e = rw (e, eq-eqb v.site.node v.site.node refl, lt-ltb k (k + 1) (omega arith)) refl

-- what a wire has after a beat was sent
pub sent_here : (wires : List (List Beat)) (b q : ℕ) (beat : Beat) → b < length wires → q < length (get_or wires b []) → beat_at (sent_on wires (Some (b, q)) beat) b q ≡ beat
sent_here wires b q beat l m =
    rw (get_or-set_same wires b (set (get_or wires b []) q beat) [] l) (get_or-set_same (get_or wires b []) q beat idle_beat m)

pub sent_other : (wires : List (List Beat)) (b q r p : ℕ) (beat : Beat) → b < length wires → (r ≡ b → p ≢ q) → beat_at (sent_on wires (Some (b, q)) beat) r p ≡ beat_at wires r p
sent_other wires b q r p beat l n =
    ⊎_elim (λ (e : r ≡ b).
    rw (e, get_or-set_same wires b (set (get_or wires b []) q beat) [] l) (get_or-set_other (get_or wires b []) q p beat idle_beat (n e)))
    (λ (d : r ≢ b). ap (λ row. get_or row p idle_beat) (get_or-set_other wires b r (set (get_or wires b []) q beat) [] d)) (cases_eq r b)

-- the beat of port k is put: its wire has it, and the others stay
pub received_more : (g : Grid) (sound : IsGrid g) (v : View) (k : ℕ) (old wires : List (List Beat)) → v.site.node < nodes g → length wires ≡ nodes g
    → ((i : ℕ) → i < length wires → length (get_or wires i []) ≡ 6)
    → ((r p : ℕ) → r < nodes g → beat_at wires r p ≡ received_to k v (neighbour g r p) (beat_at old r p))
    → (to : Option (ℕ × ℕ)) → neighbour g v.site.node k ≡ to
    → (r p : ℕ) → r < nodes g → beat_at (sent_on wires to (beat_to_put v k)) r p ≡ received_to (k + 1) v (neighbour g r p) (beat_at old r p)
received_more g sound v k old wires node count long so_far None none r p l =
    let other : neighbour g r p ≢ Some (v.site.node, k) = λ e. let h = (link_back g r p v.site.node k sound l e).back in absurd (cc (h, none)) in
    so_far r p l ∙ sym (received_same k v (neighbour g r p) (beat_at old r p) other)
received_more g sound v k old wires node count long so_far (Some (b, q)) to r p l =
    let back = link_back g v.site.node k b q sound node to in
    ⊎_elim (λ (e : r ≡ b). ⊎_elim (λ (f : p ≡ q).
    let from : neighbour g r p ≡ Some (v.site.node, k) = rw (e, f) back.back in
    let here : beat_at (sent_on wires (Some (b, q)) (beat_to_put v k)) b q ≡ beat_to_put v k = sent_here wires b q (beat_to_put v k) (omega (arith, back.node)) (omega (arith, long b (omega (arith, back.node)), back.port, few_ports g sound)) in
    rw (e, f) here ∙ sym (received_here k v (neighbour g r p) (beat_at old r p) from))
    (λ (d : p ≢ q). apart (λ (h : at_port r p ≡ at_port b q). d (same-ports r p b q h).1))
    (cases_eq p q))
    (λ (d : r ≢ b). apart (λ (h : at_port r p ≡ at_port b q). d (same-ports r p b q h).0))
    (cases_eq r b)
  where
    few_ports : (g : Grid) → IsGrid g → local_port g ≤ 6
    few_ports g sound = omega (arith, sound.few_dimensions)

    apart : at_port r p ≢ at_port b q → beat_at (sent_on wires (Some (b, q)) (beat_to_put v k)) r p ≡ received_to (k + 1) v (neighbour g r p) (beat_at old r p)
    apart n =
        let other : neighbour g r p ≢ Some (v.site.node, k) = λ e. n (let h = (link_back g r p v.site.node k sound l e).back in cc (h, to)) in
        sent_other wires b q r p (beat_to_put v k) (let back = link_back g v.site.node k b q sound node to in omega (arith, back.node)) (λ e f. n (same-some r p b q e f))
        ∙ so_far r p l ∙ sym (received_same k v (neighbour g r p) (beat_at old r p) other)

-- ---- the beats that are put
pub get_or-idle : (n q : ℕ) → get_or (replicate n idle_beat) q idle_beat ≡ idle_beat
get_or-idle zero q = refl
get_or-idle (suc n) zero = refl
get_or-idle (suc n) (suc q) = get_or-idle n q

-- at first no port has put its beat
pub received-first : (v : View) (from : Option (ℕ × ℕ)) (beat : Beat) → beat ≡ received_to 0 v from beat
received-first v None beat = refl
received-first v (Some (a, q)) beat = rw (le-ltb q 0 (omega arith)) (at (nat_eq a v.site.node))
  where
    at : (b : Bool) → beat ≡ (if b && false then beat_to_put v q else beat)
    at true = refl
    at false = refl

-- in the end all have
pub received-last : (g : Grid) → IsGrid g → (v : View) (r p : ℕ) → r < nodes g → (from : Option (ℕ × ℕ)) → neighbour g r p ≡ from → (beat : Beat) → received_to (local_port g) v from beat ≡ wire_after_puts v from beat
received-last g sound v r p l None e beat = refl
received-last g sound v r p l (Some (a, q)) e beat = rw (lt-ltb q (local_port g) (link_back g r p a q sound l e).port) (at (nat_eq a v.site.node))
  where
    at : (b : Bool) → (if b && true then beat_to_put v q else beat) ≡ (if b then beat_to_put v q else beat)
    at true = refl
    at false = refl

-- each port has put its beat
pub all-put : (n : ℕ) (beats : List Beat) → length beats ≡ n → ((k : ℕ) → k < n → get_or beats k idle_beat ≡ idle_beat) → beats ≡ replicate n idle_beat
all-put n beats count put =
    ext_get_or idle_beat beats (replicate n idle_beat) (count ∙ sym (length-replicate n idle_beat)) (λ k l. put k (omega (arith, count)) ∙ sym (get_or-idle n k))

-- a wire that leaves a router arrives at another one
pub link_within : (g : Grid) → IsGrid g → (node port n : ℕ) → node < nodes g → n ≡ nodes g → (to : Option (ℕ × ℕ)) → neighbour g node port ≡ to → IfSome to (λ place. (place.0 < n) × (place.1 < 6))
link_within g sound node port n l count None e = tt
link_within g sound node port n l count (Some (b, q)) e =
    let back = link_back g node port b q sound l e in
    (omega (arith, back.node), omega (arith, back.port, sound.few_dimensions))

-- each row of the wires is as long as before
pub rows_kept : (wires : List (List Beat)) (to : Option (ℕ × ℕ)) (beat : Beat) → ((i : ℕ) → i < length wires → length (get_or wires i []) ≡ 6)
    → (i : ℕ) → i < length (sent_on wires to beat) → length (get_or (sent_on wires to beat) i []) ≡ 6
rows_kept wires None beat long i l = long i l
rows_kept wires (Some (b, q)) beat long i l =
    let count : length (set wires b (set (get_or wires b []) q beat)) ≡ length wires = length-set wires b (set (get_or wires b []) q beat) in
    ⊎_elim (λ (e : i ≡ b).
    let here : get_or (set wires b (set (get_or wires b []) q beat)) b [] ≡ set (get_or wires b []) q beat = get_or-set_same wires b (set (get_or wires b []) q beat) [] (omega arith) in
    rw (e, here, length-set (get_or wires b []) q beat) (long b (omega arith)))
    (λ (d : i ≢ b). ap length (get_or-set_other wires b i (set (get_or wires b []) q beat) [] d) ∙ long i (omega arith))
    (cases_eq i b)
