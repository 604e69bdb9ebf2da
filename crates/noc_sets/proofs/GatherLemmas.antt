-- What is gathered at fixed distances is what comes over the links.
use Rattle.std.proofs.Common.{◌≡◌, ℕ, ◌+◌, ◌-◌, ◌*◌, ◌/◌, ◌%◌, ◌^◌, ◌<◌, ◌≤◌, Bool, true, false, Some, None, refl, ap, ap₂, sym, ◌∙◌, arith, inl, inr, bit_and, mul-le-mul_right, Option}
use Rattle.std.specs.Prelude.{◌⊎◌, ◌&&◌, ◌||◌, nat_eq, nat_lt, not, if◌then◌else◌}
use Rattle.std.proofs.lemmas.Bool.{cases_eq, cases_lt, eq-eqb, false≢true, le-ltb, lt-ltb, ne_eqb}
use Rattle.std.proofs.lemmas.Nat.{div-add-mod', mod_below, div-mul-add}
use Rattle.noc_topo.specs.Shape.{Grid, IsGrid, is_plus, local_port, nodes, opposite, neighbour}
use Rattle.noc_topo.proofs.LinkLemmas.{link_back}
use Rattle.noc_packet.specs.Set.{has_bit}
use Rattle.noc_packet.proofs.SetLemmas.{both_members, either_members, has_bit-zero, same_set}
use Rattle.noc_sets.specs.Sets.{up_by, down_by}
use Rattle.noc_sets.proofs.MemberLemmas.{down_members, up_members, up_none, ones-members, and-false, and-true, or-false}
use Rattle.noc_sets.specs.Unions.{some_below}
use Rattle.noc_sets.proofs.UnionLemmas.{some-none, some-one, union-members}
use Rattle.noc_sets.specs.Gather.{by_port, comes_over, is_over, gathered, goes_round, goes_straight, mask_where, round, shifted, straight}
use Rattle.noc_sets.proofs.DistanceLemmas.{neighbour-by}

-- the mask of a port has its channels
mask-members : (vcs port i : ℕ) (b : Bool) → 0 < vcs → has_bit (mask_where vcs port b) i ≡ (b && nat_eq (i / vcs) port)
mask-members vcs port i false some = has_bit-zero i
mask-members vcs port i true some = at (cases_lt i (port * vcs))
  where
    rest : i % vcs < vcs
    rest = mod_below i vcs some

    whole : i / vcs * vcs + i % vcs ≡ i
    whole = div-add-mod' i vcs

    below : (a b : ℕ) → a < b → a * vcs + vcs ≤ b * vcs
    below a b m = let x : (a + 1) * vcs ≤ b * vcs = mul-le-mul_right vcs (omega (arith, m)) in omega (arith, x)

    same : (i / vcs ≡ port) ⊎ (i / vcs ≡ port → ⊥) → port * vcs ≤ i → has_bit (up_by (2 ^ vcs - 1) (port * vcs)) i ≡ nat_eq (i / vcs) port
    same c u = up_members (2 ^ vcs - 1) (port * vcs) i u ∙ ones-members vcs (i - port * vcs) ∙ by c
      where
        by : (i / vcs ≡ port) ⊎ (i / vcs ≡ port → ⊥) → nat_lt (i - port * vcs) vcs ≡ nat_eq (i / vcs) port
        by (inl e) =
            let start : i / vcs * vcs ≡ port * vcs = ap (λ q. q * vcs) e in
            lt-ltb (i - port * vcs) vcs (omega (arith, start, rest, whole)) ∙ sym (eq-eqb (i / vcs) port e)
        by (inr e) = le-ltb (i - port * vcs) vcs (past (cases_lt (i / vcs) port)) ∙ sym (ne_eqb (i / vcs) port e)
          where
            past : (i / vcs < port) ⊎ (port ≤ i / vcs) → vcs ≤ i - port * vcs
            past (inl m) = let k = below (i / vcs) port m in absurd (omega (arith, k, rest, whole, u))
            past (inr m) = let k = below port (i / vcs) (omega (arith, m, e)) in omega (arith, k, whole)

    at : (i < port * vcs) ⊎ (port * vcs ≤ i) → has_bit (up_by (2 ^ vcs - 1) (port * vcs)) i ≡ nat_eq (i / vcs) port
    at (inl m) =
        up_none (2 ^ vcs - 1) (port * vcs) i m
        ∙ sym (ne_eqb (i / vcs) port (λ e. let start : i / vcs * vcs ≡ port * vcs = ap (λ q. q * vcs) e in absurd (omega (arith, start, whole, m))))
    at (inr u) = same (cases_eq (i / vcs) port) u

-- a channel of a port at the other end is put where that of this port is
shifted-members : (vcs i word : ℕ) → 0 < vcs → has_bit (shifted vcs (i / vcs) word) i ≡ has_bit word (opposite (i / vcs) * vcs + i % vcs)
shifted-members vcs i word some = at (cases_eq (i / vcs % 2) 0)
  where
    whole : i / vcs * vcs + i % vcs ≡ i
    whole = div-add-mod' i vcs

    at : (i / vcs % 2 ≡ 0) ⊎ (i / vcs % 2 ≡ 0 → ⊥) → has_bit (shifted vcs (i / vcs) word) i ≡ has_bit word (opposite (i / vcs) * vcs + i % vcs)
    at (inl e) =
        let up : is_plus (i / vcs) ≡ true = eq-eqb (i / vcs % 2) 0 e in
        ap (λ b. has_bit (if b then down_by word vcs else up_by word vcs) i) up
        ∙ down_members word vcs i
        ∙ ap (has_bit word) (let z : vcs + i ≡ (i / vcs + 1) * vcs + i % vcs = omega (arith, whole) in z)
        ∙ sym (ap (λ b. has_bit word ((if b then i / vcs + 1 else i / vcs - 1) * vcs + i % vcs)) up)
    at (inr e) =
        let down : is_plus (i / vcs) ≡ false = ne_eqb (i / vcs % 2) 0 e in
        let more : i / vcs - 1 + 1 ≡ i / vcs = omega (arith, e) in
        let spread : (i / vcs - 1) * vcs + vcs ≡ i / vcs * vcs = omega arith ∙ ap (λ q. q * vcs) more in
        ap (λ b. has_bit (if b then down_by word vcs else up_by word vcs) i) down
        ∙ up_members word vcs i (omega (arith, whole, spread))
        ∙ ap (has_bit word) (let z : i - vcs ≡ (i / vcs - 1) * vcs + i % vcs = omega (arith, whole, spread) in z)
        ∙ sym (ap (λ b. has_bit word ((if b then i / vcs + 1 else i / vcs - 1) * vcs + i % vcs)) down)

module _ (g : Grid) (sound : IsGrid g) (vcs : ℕ) (some : 0 < vcs) (words : ℕ → ℕ) (r : ℕ) (known : r < nodes g) (i : ℕ) where
  -- by a port come the channels of that port alone
  of-port : (port : ℕ) → has_bit (by_port g vcs words r port) i
      ≡ ((has_bit (shifted vcs port (words (straight g r port))) i && (goes_straight g r port && nat_eq (i / vcs) port))
      || (has_bit (shifted vcs port (words (round g r port))) i && (goes_round g r port && nat_eq (i / vcs) port)))
  of-port port =
      either_members (bit_and (shifted vcs port (words (straight g r port))) (mask_where vcs port (goes_straight g r port))) (bit_and (shifted vcs port (words (round g r port))) (mask_where vcs port (goes_round g r port))) i
      ∙ ap₂ (λ a b. a || b)
      (both_members (shifted vcs port (words (straight g r port))) (mask_where vcs port (goes_straight g r port)) i ∙ ap (λ b. has_bit (shifted vcs port (words (straight g r port))) i && b) (mask-members vcs port i (goes_straight g r port) some))
      (both_members (shifted vcs port (words (round g r port))) (mask_where vcs port (goes_round g r port)) i ∙ ap (λ b. has_bit (shifted vcs port (words (round g r port))) i && b) (mask-members vcs port i (goes_round g r port) some))

  other-port : (port : ℕ) → (i / vcs ≡ port → ⊥) → has_bit (by_port g vcs words r port) i ≡ false
  other-port port other =
      of-port port
      ∙ ap (λ b. (has_bit (shifted vcs port (words (straight g r port))) i && (goes_straight g r port && b)) || (has_bit (shifted vcs port (words (round g r port))) i && (goes_round g r port && b))) (ne_eqb (i / vcs) port other)
      ∙ none (has_bit (shifted vcs port (words (straight g r port))) i) (goes_straight g r port) (has_bit (shifted vcs port (words (round g r port))) i) (goes_round g r port)
    where
      none : (a b c d : Bool) → ((a && (b && false)) || (c && (d && false))) ≡ false
      none a b c d = ap₂ (λ x y. (a && x) || (c && y)) (and-false b) (and-false d) ∙ ap₂ (λ x y. x || y) (and-false a) (and-false c)

  abbrev port : ℕ
  port = i / vcs

  abbrev at_end : ℕ → Bool
  at_end s = has_bit (words s) (opposite (i / vcs) * vcs + i % vcs)

  -- .. and they are those of the neighbour
  own-port : i / vcs < local_port g → has_bit (by_port g vcs words r (i / vcs)) i ≡ comes_over g vcs words r i
  own-port link =
      of-port (i / vcs)
      ∙ ap (λ b. (has_bit (shifted vcs port (words (straight g r port))) i && (goes_straight g r port && b)) || (has_bit (shifted vcs port (words (round g r port))) i && (goes_round g r port && b))) (eq-eqb (i / vcs) (i / vcs) refl)
      ∙ ap₂ (λ x y. (x && (goes_straight g r port && true)) || (y && (goes_round g r port && true))) (shifted-members vcs i (words (straight g r port)) some) (shifted-members vcs i (words (round g r port)) some)
      ∙ ways (goes_straight g r port) g.wraps
      ∙ sym (ap (is_over vcs words (i % vcs)) (neighbour-by g sound r (i / vcs) known ∙ ap (λ b. if b then (if goes_straight g r port then Some (straight g r port, opposite port) else if goes_round g r port then Some (round g r port, opposite port) else None) else None) (lt-ltb (i / vcs) (local_port g) link)))
    where
      ways : (s w : Bool) → ((at_end (straight g r port) && (s && true)) || (at_end (round g r port) && ((w && not s) && true)))
          ≡ is_over vcs words (i % vcs) (if s then Some (straight g r port, opposite port) else if w && not s then Some (round g r port, opposite port) else None)
      ways true true = ap (λ b. b || (at_end (round g r port) && false)) (and-true (at_end (straight g r port))) ∙ ap (λ b. at_end (straight g r port) || b) (and-false (at_end (round g r port))) ∙ or-false (at_end (straight g r port))
      ways true false = ap (λ b. b || (at_end (round g r port) && false)) (and-true (at_end (straight g r port))) ∙ ap (λ b. at_end (straight g r port) || b) (and-false (at_end (round g r port))) ∙ or-false (at_end (straight g r port))
      ways false true = ap (λ b. b || (at_end (round g r port) && true)) (and-false (at_end (straight g r port))) ∙ and-true (at_end (round g r port))
      ways false false = ap (λ b. b || (at_end (round g r port) && false)) (and-false (at_end (straight g r port))) ∙ and-false (at_end (round g r port))

  -- what is gathered is what comes over the links
  pub gathered-is : has_bit (gathered g vcs words r) i ≡ comes_over g vcs words r i
  gathered-is =
      union-members 0 (local_port g) (by_port g vcs words r) i
      ∙ ap (λ b. b || some_below (local_port g) (λ q. has_bit (by_port g vcs words r q) i)) (has_bit-zero i)
      ∙ at (cases_lt (i / vcs) (local_port g))
    where
      at : (i / vcs < local_port g) ⊎ (local_port g ≤ i / vcs) → some_below (local_port g) (λ q. has_bit (by_port g vcs words r q) i) ≡ comes_over g vcs words r i
      at (inl link) = some-one (local_port g) (i / vcs) (λ q. has_bit (by_port g vcs words r q) i) link (λ q u other. other-port q (λ e. other (sym e))) ∙ own-port link
      at (inr past) =
          some-none (local_port g) (λ q. has_bit (by_port g vcs words r q) i) (λ q u. other-port q (λ e. absurd (omega (arith, e, u, past))))
          ∙ sym (ap (is_over vcs words (i % vcs)) (neighbour-by g sound r (i / vcs) known ∙ ap (λ b. if b then (if goes_straight g r port then Some (straight g r port, opposite port) else if goes_round g r port then Some (round g r port, opposite port) else None) else None) (le-ltb (i / vcs) (local_port g) past)))

-- ---- nothing else is gathered
-- a channel that is gathered is one of a link
pub gathered-links : (g : Grid) → IsGrid g → (vcs : ℕ) → 0 < vcs → (words : ℕ → ℕ) (r : ℕ) → r < nodes g → (i : ℕ) → has_bit (gathered g vcs words r) i ≡ true → i / vcs < local_port g
gathered-links g sound vcs some words r known i e = link (cases_lt (i / vcs) (local_port g))
  where
    link : (i / vcs < local_port g) ⊎ (local_port g ≤ i / vcs) → i / vcs < local_port g
    link (inl m) = m
    link (inr past) =
        let over : comes_over g vcs words r i ≡ false
        = ap (is_over vcs words (i % vcs)) (neighbour-by g sound r (i / vcs) known ∙ ap (λ b. if b then (if goes_straight g r (i / vcs) then Some (straight g r (i / vcs), opposite (i / vcs)) else if goes_round g r (i / vcs) then Some (round g r (i / vcs), opposite (i / vcs)) else None) else None) (le-ltb (i / vcs) (local_port g) past)) in
        absurd (false≢true (sym (gathered-is g sound vcs some words r known i ∙ over) ∙ e))

-- so words that agree on the channels of links are gathered alike
pub gathered-same : (g : Grid) → IsGrid g → (vcs : ℕ) → 0 < vcs → (words others : ℕ → ℕ)
    → ((s k : ℕ) → s < nodes g → k / vcs < local_port g → has_bit (words s) k ≡ has_bit (others s) k) → (r : ℕ) → r < nodes g → gathered g vcs words r ≡ gathered g vcs others r
gathered-same g sound vcs some words others same r known =
    same_set (gathered g vcs words r) (gathered g vcs others r) (λ i. gathered-is g sound vcs some words r known i ∙ over i (neighbour g r (i / vcs)) refl ∙ sym (gathered-is g sound vcs some others r known i))
  where
    over : (i : ℕ) (o : Option (ℕ × ℕ)) → neighbour g r (i / vcs) ≡ o → is_over vcs words (i % vcs) o ≡ is_over vcs others (i % vcs) o
    over i None e = refl
    over i (Some (to, port)) e =
        let back = link_back g r (i / vcs) to port sound known e in
        let low = back.port in
        let here : (port * vcs + i % vcs) / vcs ≡ port = div-mul-add port vcs (i % vcs) (mod_below i vcs some) in
        same to (port * vcs + i % vcs) back.node (omega (arith, here, low))
