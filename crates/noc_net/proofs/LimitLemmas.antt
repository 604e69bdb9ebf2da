-- The limit of a network, packet by packet.
use Rattle.std.proofs.Common.{◌≡◌, ℕ, zero, suc, ◌+◌, ◌<◌, ◌≤◌, true, false, List, length, get_or, take, max, refl, ap, sym, ◌∙◌, arith, subst, Some, slice_get, inl, inr}
use Rattle.std.specs.Prelude.{is_some, ◌⊎◌}
use Rattle.std.proofs.lemmas.Bool.{cases_lt}
use Rattle.std.specs.List.{list_all, sum_by}
use Rattle.std.proofs.lemmas.List.{take_all}
use Rattle.std.proofs.lemmas.Option.{get_or_from_slice_get, slice_get_within, slice_get-get_or, same_Some}
use Rattle.std.proofs.lemmas.List.Sums.{sum_by_more}
use Rattle.noc_topo.specs.Lists.{below}
use Rattle.noc_topo.proofs.ListLemmas.{length-below, get_or-below}
use Rattle.noc_packet.specs.declared.packet.Packet.{Packet}
use Rattle.noc_route.specs.Ranks.{IsRankedBy, Ranking}
use Rattle.noc_theory.specs.Good.{IsGoodPacket, IsGoodSetup}
use Rattle.noc_theory.specs.Network.{Setup, arrival_in, packet_at, state_at}
use Rattle.noc_theory.specs.Progress.{budget, is_pending}
use Rattle.noc_theory.proofs.worms.BuiltLemmas.{well-formed}
use Rattle.noc_theory.proofs.budget.ProgressTheoremLemmas.{each-arrives, each-idle}
use Rattle.noc_wires.proofs.BelowLemmas.{all_all, all_more}
use Rattle.noc_net.specs.Limit.{are_all_out, IsLastDue, IsLimit}

-- ---- the last due time

-- the last due time of the first n packets
pub record IsLastBefore (packets : List Packet) (n last : ℕ) : Type 0 where
  pub none_later : (i : ℕ) (p : Packet) → i < n → slice_get packets i ≡ Some p → p.due ≤ last
  pub one_then : (last ≡ 0) ⊎ ((i : ℕ) × (p : Packet) × (slice_get packets i ≡ Some p) × (p.due ≡ last))

pub last-opening : (ps : List Packet) → IsLastBefore ps 0 0
last-opening ps = record { none_later = λ i p l here. absurd (omega arith); one_then = inl refl }

-- one packet more
pub last-more : (ps : List Packet) (n last : ℕ) (p : Packet) → slice_get ps n ≡ Some p → IsLastBefore ps n last → IsLastBefore ps (n + 1) (max last p.due)
last-more ps n last p here before = record { none_later = λ i q l there. later i q there (cases_lt i n) l; one_then = then (cases_lt last p.due) }
  where
    later : (i : ℕ) (q : Packet) → slice_get ps i ≡ Some q → (i < n) ⊎ (n ≤ i) → i < n + 1 → q.due ≤ max last p.due
    later i q there (inl less) l = let old = before.none_later i q less there in omega (arith, old)
    later i q there (inr more) l =
        let same : i ≡ n = omega arith in
        let one : q ≡ p = same_Some q p (sym there ∙ ap (slice_get ps) same ∙ here) in
        let due : q.due ≡ p.due = ap (λ (r : Packet). r.due) one in
        omega (arith, due)

    then : (last < p.due) ⊎ (p.due ≤ last) → (max last p.due ≡ 0) ⊎ ((i : ℕ) × (r : Packet) × (slice_get ps i ≡ Some r) × (r.due ≡ max last p.due))
    then (inl less) = let is : p.due ≡ max last p.due = omega arith in inr (n, p, here, is)
    then (inr more) = let is : last ≡ max last p.due = omega arith in subst (λ x. (x ≡ 0) ⊎ ((i : ℕ) × (r : Packet) × (slice_get ps i ≡ Some r) × (r.due ≡ x))) is before.one_then

pub last-all : (ps : List Packet) (n last : ℕ) → length ps ≤ n → IsLastBefore ps n last → IsLastDue ps last
last-all ps n last all before = record { none_later = λ i p here. before.none_later i p (let l = slice_get_within ps i p here in omega (arith, l)) here; one_then = before.one_then }

-- there is one last due time, and so one limit
last-below : (ps : List Packet) (a b : ℕ) → IsLastDue ps a → IsLastDue ps b → a ≤ b
last-below ps a b one other = at one.one_then
  where
    at : (a ≡ 0) ⊎ ((i : ℕ) × (p : Packet) × (slice_get ps i ≡ Some p) × (p.due ≡ a)) → a ≤ b
    at (inl none) = omega (arith, none)
    at (inr found) = let l = other.none_later found.0 found.1 found.2 in omega (arith, l, found.3)

pub limit-once : (net : Setup) (a b : ℕ) → IsLimit net a → IsLimit net b → a ≡ b
limit-once net a b one other =
    let low = last-below net.packets one.last other.last one.due other.due in
    let high = last-below net.packets other.last one.last other.due one.due in
    omega (arith, low, high, one.sum, other.sum)

-- there is a last due time
last-some : (ps : List Packet) (n : ℕ) → n ≤ length ps → (last : ℕ) × IsLastBefore ps n last
last-some ps zero l = (0, last-opening ps)
last-some ps (suc n) l =
    let before = last-some ps n (omega arith) in
    let p : Packet = get_or ps n (record { source = 0; destination = 0; class = 0; length = 0; due = 0 }) in
    let next : n + 1 ≡ suc n = omega arith in
    (max before.0 p.due, subst (λ k. IsLastBefore ps k (max before.0 p.due)) next (last-more ps n before.0 p (slice_get-get_or ps n _ (omega arith)) before.1))

pub limit-some : (net : Setup) → (limit : ℕ) × IsLimit net limit
limit-some net =
    let last = last-some net.packets (length net.packets) (omega arith) in
    (last.0 + budget net, record { last = last.0; due = last-all net.packets (length net.packets) last.0 (omega arith) last.1; sum = refl })

-- ---- a packet that was read

pub packet-here : (net : Setup) (i : ℕ) (p : Packet) → slice_get net.packets i ≡ Some p → p ≡ packet_at net i
packet-here net i p here = sym (get_or_from_slice_get net.packets i p _ here)

pub packet-good : (net : Setup) → IsGoodSetup net → (i : ℕ) (p : Packet) → i < length net.packets → slice_get net.packets i ≡ Some p → IsGoodPacket net.relation p
packet-good net good i p l here = subst (IsGoodPacket net.relation) (get_or_from_slice_get net.packets i p p here) (good.packets i p l)

-- ---- numbers below

-- a sum over one number more
pub sum_more : (f : ℕ → ℕ) (n k : ℕ) → k < n → sum_by f (take (k + 1) (below n)) ≡ sum_by f (take k (below n)) + f k
sum_more f n k l = sum_by_more f (below n) k 0 (let c = length-below n in omega arith) ∙ ap (λ i. sum_by f (take k (below n)) + f i) (get_or-below n k 0 l)

pub sum_all : (f : ℕ → ℕ) (n k : ℕ) → n ≤ k → sum_by f (take k (below n)) ≡ sum_by f (below n)
sum_all f n k l = ap (sum_by f) (take_all k (below n) (let c = length-below n in omega arith))

-- ---- a ranked network

module _ (net : Setup) (made : IsGoodSetup net) (ranks : Ranking) (ranked : IsRankedBy net.relation ranks) (limit : ℕ) (is : IsLimit net limit) (n : ℕ) (late : limit ≤ n) where
  -- no packet is due later
  due-last : (p : ℕ) → p < length net.packets → (packet_at net p).due ≤ is.last
  due-last p l = is.due.none_later p (packet_at net p) (slice_get-get_or net.packets p _ l)

  reached : is.last + budget net ≤ n
  reached = omega (arith, is.sum)

  pub arrives : (p : ℕ) → p < length net.packets → (m : ℕ) × (arrival_in net (state_at net n) p ≡ Some m) × (m < limit)
  arrives p l =
      let one = each-arrives net (well-formed net made) ranks ranked is.last due-last n reached p l in
      (one.0, one.1, omega (arith, one.2, is.sum))

  pub idle : is_pending net n (state_at net n) ≡ false
  idle = each-idle net (well-formed net made) ranks ranked is.last due-last n reached

  all-within : (k : ℕ) → k ≤ length net.packets → list_all (λ p. is_some (arrival_in net (state_at net n) p)) (take k (below (length net.packets))) ≡ true
  all-within zero l = refl
  all-within (suc k) l =
      let one = arrives k (omega arith) in
      let next : k + 1 ≡ suc k = omega arith in
      subst (λ j. list_all (λ p. is_some (arrival_in net (state_at net n) p)) (take j (below (length net.packets))) ≡ true) next
      (all_more (λ p. is_some (arrival_in net (state_at net n) p)) (length net.packets) k (omega arith) (all-within k (omega arith)) (ap is_some one.1))

  pub all-out : are_all_out net (state_at net n) ≡ true
  all-out = all_all (λ p. is_some (arrival_in net (state_at net n) p)) (length net.packets) (length net.packets) (omega arith) (all-within (length net.packets) (omega arith))
