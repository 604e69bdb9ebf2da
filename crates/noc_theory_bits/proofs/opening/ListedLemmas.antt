-- Before the first cycle the sources show the packets that start at their nodes.
use Rattle.std.proofs.Common.{◌≡◌, ◌≢◌, ℕ, zero, suc, ◌+◌, ◌*◌, ◌<◌, ◌≤◌, List, [], ◌∷◌, ◌++◌, length, map, refl, ap, ap₂, sym, subst, ◌∙◌, arith, inl, inr, add-one, length-append, append_assoc, None, mul-le-mul}
use Rattle.std.specs.Prelude.{◌⊎◌, Some, slice_get}
use Rattle.std.proofs.lemmas.List.{append-nil}
use Rattle.noc_packet.specs.ByNode.{starts_of}
use Rattle.noc_theory.proofs.injection.StartLemmas.{start-has}
use Rattle.noc_theory.specs.Good.{IsGoodPacket}
use Rattle.noc_sets.specs.Source.{END, HasFlits}
use Rattle.noc_theory_bits.proofs.Common.{cases_eq, length-map, Has, nodes, Packet, view_at, IsGoodSetup, Setup, opens, ShowsQueue, Start, ShowsNext, ShowsSource}
use Rattle.noc_theory_bits.specs.Starts.{start_of, with_end, starts_list, opened_source}
use Rattle.noc_theory_bits.proofs.network.NetworkLemmas.{good}
use Rattle.noc_theory_bits.proofs.opening.StartLemmas.{starts-few}

-- one node more
pub list-more : (packets : List Packet) (n : ℕ) → starts_list packets (n + 1) ≡ starts_list packets n ++ with_end (starts_of packets n)
unfolding starts_list
list-more packets n = ap (starts_list packets) (add-one n)

-- the list of a node stands in the whole list, behind those of the nodes before it
pub record StandsIn (packets : List Packet) (r n : ℕ) : Type 0 where
  pub rest : List Start
  pub is : starts_list packets n ≡ starts_list packets r ++ (with_end (starts_of packets r) ++ rest)

pub list-of : (packets : List Packet) (r n : ℕ) → r < n → StandsIn packets r n
list-of packets r zero l = absurd (omega (arith, l))
list-of packets r (suc n) l = at (cases_eq r n) (list-of packets r n)
  where
    last : starts_list packets (suc n) ≡ starts_list packets n ++ with_end (starts_of packets n)
    last = ap (starts_list packets) (sym (add-one n)) ∙ list-more packets n

    at : (r ≡ n) ⊎ (r ≢ n) → (r < n → StandsIn packets r n) → StandsIn packets r (suc n)
    at (inl e) earlier = record {
      rest = [];
      is = last ∙ ap (λ k. starts_list packets k ++ with_end (starts_of packets k)) (sym e)
          ∙ ap (λ ys. starts_list packets r ++ ys) (sym (append-nil (with_end (starts_of packets r))));
    }
    at (inr o) earlier =
        let before : StandsIn packets r n = earlier (omega (arith, l, o)) in
        record {
          rest = before.rest ++ with_end (starts_of packets n);
          is = last ∙ ap (λ ys. ys ++ with_end (starts_of packets n)) before.is
              ∙ append_assoc (starts_list packets r) (with_end (starts_of packets r) ++ before.rest) (with_end (starts_of packets n))
              ∙ ap (λ ys. starts_list packets r ++ ys) (append_assoc (with_end (starts_of packets r)) before.rest (with_end (starts_of packets n)));
        }

-- ---- how long it is
with-end-length : (queue : List (ℕ × Packet)) → length (with_end queue) ≡ length queue + 1
with-end-length queue = length-append (map start_of queue) (END ∷ []) ∙ ap (λ n. n + 1) (length-map queue start_of)

pub list-length : (packets : List Packet) (n : ℕ) → length (starts_list packets (n + 1)) ≡ length (starts_list packets n) + (length (starts_of packets n) + 1)
list-length packets n =
    ap length (list-more packets n) ∙ length-append (starts_list packets n) (with_end (starts_of packets n))
    ∙ ap (λ k. length (starts_list packets n) + k) (with-end-length (starts_of packets n))

pub list-few : (packets : List Packet) (n : ℕ) → length (starts_list packets n) ≤ n * (length packets + 1)
unfolding starts_list
list-few packets zero = omega arith
list-few packets (suc n) =
    let one = starts-few packets n in
    let before = list-few packets n in
    let here = list-length packets n in
    let next : length (starts_list packets (suc n)) ≡ length (starts_list packets (n + 1)) = ap (λ k. length (starts_list packets k)) (sym (add-one n)) in
    let more : suc n * (length packets + 1) ≡ n * (length packets + 1) + (length packets + 1) = omega arith in
    omega (arith, one, before, here, next, more)

-- ---- what stands behind a list
at-seam : {X : Type 0} (xs : List X) (x : X) (ys : List X) → slice_get (xs ++ x ∷ ys) (length xs) ≡ Some x
at-seam [] x ys = refl
at-seam (w ∷ xs) x ys = at-seam xs x ys

-- its queue, from there on
shows-queue : (starts front rest : List Start) (place : ℕ) (queue : List (ℕ × Packet)) → starts ≡ front ++ (with_end queue ++ rest) → place ≡ length front
    → ((one : ℕ × Packet) → Has one queue → HasFlits one.1) → ShowsQueue starts place queue
shows-queue starts front rest place [] is here sendable = ap₂ (λ xs k. slice_get xs k) is here ∙ at-seam front END rest
shows-queue starts front rest place ((number, p) ∷ queue) is here sendable = (
  ap₂ (λ xs k. slice_get xs k) is here ∙ at-seam front (start_of (number, p)) (with_end queue ++ rest),
  sendable (number, p) (inl refl),
  shows-queue starts (front ++ start_of (number, p) ∷ []) rest (place + 1) queue
      (is ∙ sym (append_assoc front (start_of (number, p) ∷ []) (with_end queue ++ rest)))
      (let n = length-append front (start_of (number, p) ∷ []) in omega (arith, here, n))
      (λ one h. sendable one (inr h)),
)

-- ---- of the network
module _ (net : Setup) (setup : IsGoodSetup net) (r : ℕ) (l : r < nodes net.relation.grid) where
  -- behind its place in the list are the packets of the router
  list-shows : ShowsQueue (starts_list net.packets (nodes net.relation.grid)) (length (starts_list net.packets r)) (starts_of net.packets r)
  list-shows =
      let stands = list-of net.packets r (nodes net.relation.grid) l in
      shows-queue (starts_list net.packets (nodes net.relation.grid)) (starts_list net.packets r) stands.rest (length (starts_list net.packets r)) (starts_of net.packets r) stands.is refl
      (λ one h.
      let good = (start-has (IsGoodPacket net.relation) net.packets r setup.packets one h).1 in
      let long = good.length in
      record { some = good.some_flit; few = omega (arith, long) })

  -- its source shows them before the first cycle
  pub source-opens : ShowsSource (starts_list net.packets (nodes net.relation.grid)) (opened_source net.packets r) (view_at net 0 r)
  source-opens = subst (ShowsSource (starts_list net.packets (nodes net.relation.grid)) (opened_source net.packets r)) (opens net (good net setup) r l) (record {
    few =
        let few = list-few net.packets (nodes net.relation.grid) in
        let routers = (good net setup).relation.table.grid.few_nodes in
        let many = setup.few_packets in
        let more : length net.packets + 1 ≤ 20001 = omega (arith, many) in
        let most : nodes net.relation.grid * (length net.packets + 1) ≤ 256 * 20001 = mul-le-mul routers more in
        omega (arith, few, most);
    due = refl;
    queue = list-shows;
    next = nothing (starts_of net.packets r);
  })
    where
      nothing : (queue : List (ℕ × Packet)) → ShowsNext (opened_source net.packets r) queue None
      nothing [] = tt
      nothing (one ∷ rest) = tt
