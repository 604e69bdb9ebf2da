-- The arrival that the view of a destination notes is that of the network's state.
use Rattle.std.proofs.Common.{◌≡◌, ℕ, zero, suc, ◌+◌, ◌<◌, Bool, true, false, cond, List, [], ◌∷◌, map, length, get_or, Option, Some, refl, ap, sym, ◌∙◌, inl, inr, subst, arith}
use Rattle.std.specs.Prelude.{find, filter, option_and_then, nat_eq, ◌⊎◌}
use Rattle.std.proofs.lemmas.List.FromFn.{get_or-enumerate_from, length-enumerate_from}
use Rattle.noc_packet.specs.ByNode.{ends_of}
use Rattle.noc_theory.proofs.Common.{enumerate_from, eq-eqb, cases_eq, ne_eqb, Has, Packet, ends_at, view_at, view_in, Setup, arrival_in, out_cycle, packet_at, state_at, tail_place}
use Rattle.noc_theory.proofs.worms.MemberLemmas.{Has-kept, Has-mapped}

-- what is looked up under a number that is listed
looked-up : (f : ℕ → Option ℕ) (ps : List ℕ) (p : ℕ) → Has p ps → option_and_then (λ (one : ℕ × Option ℕ). one.1) (find (λ (one : ℕ × Option ℕ). nat_eq one.0 p) (map (λ q. (q, f q)) ps)) ≡ f p
looked-up f [] p h = elim h [ ]
looked-up f (q ∷ qs) p h = by (cases_eq q p) h (looked-up f qs p)
  where
    found : (b : Bool) → nat_eq q p ≡ b → option_and_then (λ (one : ℕ × Option ℕ). one.1) (find (λ (one : ℕ × Option ℕ). nat_eq one.0 p) ((q, f q) ∷ map (λ q. (q, f q)) qs))
        ≡ option_and_then (λ (one : ℕ × Option ℕ). one.1) (cond b (Some (q, f q)) (find (λ (one : ℕ × Option ℕ). nat_eq one.0 p) (map (λ q. (q, f q)) qs)))
    found b e = ap (λ b. option_and_then (λ (one : ℕ × Option ℕ). one.1) (cond b (Some (q, f q)) (find (λ (one : ℕ × Option ℕ). nat_eq one.0 p) (map (λ q. (q, f q)) qs)))) e

    by : (q ≡ p) ⊎ (q ≡ p → ⊥) → Has p (q ∷ qs) → (Has p qs → option_and_then (λ (one : ℕ × Option ℕ). one.1) (find (λ (one : ℕ × Option ℕ). nat_eq one.0 p) (map (λ q. (q, f q)) qs)) ≡ f p)
        → option_and_then (λ (one : ℕ × Option ℕ). one.1) (find (λ (one : ℕ × Option ℕ). nat_eq one.0 p) (map (λ q. (q, f q)) (q ∷ qs))) ≡ f p
    by (inl e) h rest = found true (eq-eqb q p e) ∙ ap f e
    by (inr ne) (inl e) rest = absurd (ne (sym e))
    by (inr ne) (inr h) rest = found false (ne_eqb q p ne) ∙ rest h

has-at : {X : Type 0} (xs : List X) (i : ℕ) (d : X) → i < length xs → Has (get_or xs i d) xs
has-at [] i d l = absurd (omega arith)
has-at (x ∷ xs) zero d l = inl refl
has-at (x ∷ xs) (suc i) d l = inr (has-at xs i d (omega arith))

-- a packet is listed where it ends
ends-there : (packets : List Packet) (p : ℕ) (d : Packet) → p < length packets → Has p (ends_of packets (get_or packets p d).destination)
ends-there packets p d l =
    let all = enumerate_from 0 packets in
    let one : get_or (enumerate_from 0 packets) p (0, d) ≡ (p, get_or packets p d) = get_or-enumerate_from 0 packets p (0, d) l ∙ ap (λ (k : ℕ). (k, get_or packets p d)) (let z : 0 + p ≡ p = omega arith in z) in
    let there : Has (get_or (enumerate_from 0 packets) p (0, d)) (enumerate_from 0 packets) = has-at all p (0, d) (let c = length-enumerate_from 0 packets in omega arith) in
    let ends : nat_eq (get_or (enumerate_from 0 packets) p (0, d)).1.destination (get_or packets p d).destination ≡ true = ap (λ (x : ℕ × Packet). nat_eq x.1.destination (get_or packets p d).destination) one ∙ eq-eqb _ _ refl in
    let kept = Has-kept (λ (x : ℕ × Packet). nat_eq x.1.destination (get_or packets p d).destination) (get_or all p (0, d)) all there ends in
    let mapped = Has-mapped (λ (x : ℕ × Packet). x.0) (get_or all p (0, d)) (filter (λ (x : ℕ × Packet). nat_eq x.1.destination (get_or packets p d).destination) all) kept in
    subst (λ (q : ℕ). Has q (ends_of packets (get_or packets p d).destination)) (ap (λ (x : ℕ × Packet). x.0) one) mapped

pub arrival-noted : (net : Setup) (n p : ℕ) → p < length net.packets
    → option_and_then (λ (one : ℕ × Option ℕ). one.1) (find (λ (one : ℕ × Option ℕ). nat_eq one.0 p) (view_at net n (packet_at net p).destination).ends) ≡ arrival_in net (state_at net n) p
unfolding view_at view_in
arrival-noted net n p l =
    looked-up (λ q. out_cycle (tail_place net (state_at net n) q)) (ends_at net (packet_at net p).destination) p (ends-there net.packets p _ l)
