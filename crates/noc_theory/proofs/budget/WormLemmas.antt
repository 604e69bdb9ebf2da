-- What a quiet cycle cannot have: a flit that could move, a channel that could be granted, a
-- source that could go on.
use Rattle.std.proofs.Common.{◌≡◌, ℕ, ◌+◌, ◌-◌, ◌*◌, ◌/◌, ◌%◌, ◌<◌, Bool, true, false, cond, List, [], ◌∷◌, length, Option, Some, None, refl, ap, sym, ◌∙◌, arith, inl, inr, subst}
use Rattle.std.specs.Prelude.{option_map, unwrap_or, nat_eq, nat_lt, option_and_then, find, filter, ◌&&◌}
use Rattle.noc_theory.proofs.Common.{false≢true, true≢false, eqb-true, eq-eqb, lt-ltb, and_from, and_parts, arriving, In, Located, On, Out, Place, Setup, Source, State, all_inputs, ask, claim_of, claim_with, count_in, count_on, credit_of, has_channel, has_credit_in, injection_at, injection_with, injections, is_idle, is_injection_of, is_on, leads_from, leaving, next_channel, owned_by, owner_of, packet_at, round_at, size, tail_place, verdict_in, is_flying, Channel, Eject, Inject, Link, sending_router, channel_vc, output_at, output_index, same_channel, permits, linked-port, Claim, Holds, Unrouted, Waits, is_event, verdict_of, Granted, Moved, Routed, Grid, local_port, nodes, ports, Has, below, is_some_of}
use Rattle.noc_theory.proofs.runs.PostLemmas.{some_of_map}
use Rattle.noc_theory.proofs.budget.ProgressRecordLemmas.{IsBuilt, IsReal, LeadsOn}
use Rattle.noc_theory.proofs.worms.BufferLemmas.{same_channel-refl, same_channel-true}
use Rattle.noc_theory.proofs.worms.OptionLemmas.{and_then-some}
use Rattle.noc_theory.proofs.worms.MemberLemmas.{Has-filter, find-some, Has-filter_mapped}
use Rattle.noc_theory.proofs.worms.OpeningLemmas.{below-has}
use Rattle.noc_theory.proofs.budget.HasLemmas.{map-has, find-has}
use Rattle.noc_theory.proofs.budget.RouterLemmas.{IsInput, real-input, input-has, verdict-input, flit-moved, index_below, same_place}
use Rattle.noc_theory.proofs.budget.WormChainLemmas.{IsChain, IsQuiet}

-- whether flits come in by it
abbrev pub is_input : Channel → Bool
is_input (Link r q v) = true
is_input (Inject n v) = true
is_input (Eject n v) = false

pub filter-none : {X : Type 0} (t : X → Bool) (xs : List X) → ((x : X) → Has x xs → t x ≡ false) → filter t xs ≡ []
filter-none t [] h = refl
filter-none t (x ∷ xs) h = rw (h x (inl refl)) (filter-none t xs (λ y k. h y (inr k)))

pub output-begins : (s : Grid) (vcs r i m v : ℕ) → output_at s vcs r i ≡ Inject m v → ⊥
output-begins s vcs r i m v e = at (nat_eq (i / vcs) (local_port s)) e
  where
    at : (b : Bool) → cond b (Eject r (i % vcs)) (Link r (i / vcs) (i % vcs)) ≡ Inject m v → ⊥
    at true g = cc
    at false g = cc

module _ (net : Setup) (F : State) where
  -- whether output channel j of router r is idle and permitted to packet w on c
  abbrev pub allowed_at : Channel → ℕ → ℕ → ℕ → Bool
  allowed_at c w r j = is_idle net F (leaving net r j) && permits net.relation (packet_at net w).class c (packet_at net w).destination (leaving net r j)

  pub owner-has : (c : Channel) (p : ℕ) → owner_of net F c ≡ Some p → Has (c, p) F.own
  owner-has c p e =
      let m = some_of_map (λ (pair : Channel × ℕ). pair.1) (find (λ (pair : Channel × ℕ). same_channel c pair.0) F.own) p e in
      let h = find-has (λ (pair : Channel × ℕ). same_channel c pair.0) F.own m.0 m.1 in
      let same : c ≡ m.0.0 = same_channel-true c m.0.0 h.1 in
      subst (λ (x : Channel). Has (x, p) F.own) (sym same) (subst (λ (x : ℕ). Has (m.0.0, x) F.own) m.2 h.0)

  pub has-owner : (c : Channel) (p : ℕ) → Has (c, p) F.own → (q : ℕ) × (owner_of net F c ≡ Some q)
  has-owner c p h =
      let s = find-some (λ (pair : Channel × ℕ). same_channel c pair.0) F.own (c, p) h (same_channel-refl c) in
      (s.0.1, ap (option_map (λ (pair : Channel × ℕ). pair.1)) s.1)

  -- where the tail of a packet is, it is itself
  pub tail-flit : (p : ℕ) (g : Located) → Has g F.at → g.packet ≡ p → g.index ≡ (packet_at net p).length - 1 → (f : Located) × Has f F.at × (f.packet ≡ p) × (f.place ≡ tail_place net F p)
  tail-flit p g h own last =
      let s = find-some (λ (f : Located). nat_eq p f.packet && nat_eq ((packet_at net p).length - 1) f.index) F.at g h (and_from _ _ (eq-eqb p g.packet (sym own)) (eq-eqb _ g.index (sym last))) in
      let k = find-has (λ (f : Located). nat_eq p f.packet && nat_eq ((packet_at net p).length - 1) f.index) F.at s.0 s.1 in (
        s.0,
        k.0,
        sym (eqb-true p s.0.packet (and_parts _ _ k.1).0),
        sym (ap (λ (o : Option Located). unwrap_or (option_map (λ (f : Located). f.place) o) Source) s.1),
      )

  -- a next channel is owned by the same packet
  pub next-has : (c o : Channel) → next_channel net F c ≡ Some o → (p : ℕ) × (owner_of net F c ≡ Some p) × Has (o, p) F.own × (leads_from net c o ≡ true)
  next-has c o e =
      let a = and_then-some (λ p. find (leads_from net c) (owned_by net F p)) (owner_of net F c) o e in
      let h = find-has (leads_from net c) (owned_by net F a.0) o a.2 in
      let m = map-has (λ (pair : Channel × ℕ). pair.0) o (filter (λ (pair : Channel × ℕ). nat_eq a.0 pair.1) F.own) h.0 in
      let k = Has-filter (λ (pair : Channel × ℕ). nat_eq a.0 pair.1) m.0 F.own m.1 in
      let same : a.0 ≡ m.0.1 = eqb-true a.0 m.0.1 k.1 in
      (a.0, a.1, subst (λ (x : Channel). Has (x, a.0) F.own) (sym m.2) (subst (λ (x : ℕ). Has (m.0.0, x) F.own) (sym same) k.0), h.1)

  pub next-input : (c o : Channel) → next_channel net F c ≡ Some o → is_input c ≡ true
  next-input (Link r q v) o e = refl
  next-input (Inject n v) o e = refl
  next-input (Eject n v) o e = absurd (false≢true (at (sending_router o) refl))
    where
      at : (b : Option ℕ) → sending_router o ≡ b → false ≡ true
      at None k = sym (ap (λ b. unwrap_or (option_map (is_some_of None) b) false) k) ∙ (next-has (Eject n v) o e).3
      at (Some x) k = sym (ap (λ b. unwrap_or (option_map (is_some_of None) b) false) k) ∙ (next-has (Eject n v) o e).3

  module _ (built : IsBuilt net) (worm : IsChain net F) where
    pub owned-real : (c : Channel) (p : ℕ) → Has (c, p) F.own → IsReal net c
    owned-real (Link r q v) p h = let a = worm.owners (Link r q v) p h in built.real _ a.1.0 _ (Link r q v) a.1.1
    owned-real (Inject n v) p h = let a = worm.owners (Inject n v) p h in let s = built.sources p a.0 in (omega (arith, a.1.0), a.1.1)
    owned-real (Eject n v) p h = let a = worm.owners (Eject n v) p h in built.real _ a.1.0 _ (Eject n v) a.1.1

    -- an owned channel that is no ejection channel comes in somewhere
    pub comes-in : (c : Channel) → IsReal net c → is_input c ≡ true → (r : ℕ) × (port : ℕ) × IsInput net c r port
    comes-in (Link r q v) real e = (real.2.0, real.2.1, real-input net built (Link r q v) real.2.0 real.2.1 real real.3)
    comes-in (Inject n v) real e = (n, local_port net.relation.grid, real-input net built (Inject n v) n (local_port net.relation.grid) real refl)
    comes-in (Eject n v) real e = absurd (false≢true e)

    pub owner-comes : (c : Channel) (p : ℕ) → owner_of net F c ≡ Some p → is_input c ≡ true → (r : ℕ) × (port : ℕ) × IsInput net c r port
    owner-comes c p e i = comes-in c (owned-real c p (owner-has c p e)) i

    pub real-index : (o : Channel) → IsReal net o → output_index net.relation.grid net.relation.vcs o < size net
    real-index (Link r q v) real =
        let l : q < local_port net.relation.grid = linked-port net.relation.grid r q real.2 real.3 in
        index_below (ports net.relation.grid) net.relation.vcs q v (omega arith) real.1
    real-index (Inject n v) real = let l : 0 * net.relation.vcs + v < ports net.relation.grid * net.relation.vcs = index_below (ports net.relation.grid) net.relation.vcs 0 v (omega arith) real.1 in omega arith
    real-index (Eject n v) real = index_below (ports net.relation.grid) net.relation.vcs (local_port net.relation.grid) v (omega arith) real.1

    -- a channel with a next channel holds it
    pub claim-next : (r : ℕ) (c o : Channel) → next_channel net F c ≡ Some o → claim_of net F r c ≡ Holds (output_index net.relation.grid net.relation.vcs o) (has_credit_in net F o)
    claim-next r c o e = at (has_channel F.routed c) (worm.routed c o e) (next_channel net F c) e
      where
        at : (b : Bool) → b ≡ true → (next : Option Channel) → next ≡ Some o → cond b (claim_with net F r c next) Unrouted ≡ Holds (output_index net.relation.grid net.relation.vcs o) (has_credit_in net F o)
        at true k next g = ap (claim_with net F r c) g
        at false k next g = absurd (false≢true k)

    -- and what a channel holds is an output channel
    pub claim-index : (r x : ℕ) (c : Channel) → claim_of net F r c ≡ Holds x true → x < size net
    claim-index r x c h = at (next_channel net F c) refl
      where
        unheld : (b : Bool) → cond b (Waits (ask net F r c)) Unrouted ≡ Holds x true → ⊥
        unheld true g = cc
        unheld false g = cc

        at : (next : Option Channel) → next_channel net F c ≡ next → x < size net
        at None k = absurd (unheld (has_channel F.routed c) (sym (ap (λ next. cond (has_channel F.routed c) (claim_with net F r c next) Unrouted) k) ∙ h))
        at (Some o) k =
            let g : Holds (output_index net.relation.grid net.relation.vcs o) (has_credit_in net F o) ≡ Holds x true = sym (claim-next r c o k) ∙ h in
            let same : output_index net.relation.grid net.relation.vcs o ≡ x = cc in
            let has = next-has c o k in
            let l = real-index o (owned-real o has.0 has.2) in omega arith

    -- where a channel has a next channel with a credit, and a flit, some channel
    -- of its router moves a flit
    pub next-moved : (c o : Channel) (r port : ℕ) → IsInput net c r port → next_channel net F c ≡ Some o → has_credit_in net F o ≡ true → 0 < count_in net F c
        → (d : Channel) × Has d (all_inputs net) × (verdict_in net F d ≡ Moved) × (x : ℕ) × (arriving net r x ≡ Some d)
    next-moved c o r port i e cr flit =
        flit-moved net built F c r port (channel_vc c) (output_index net.relation.grid net.relation.vcs o) i.router i.below i.vc i.found (λ d x h. claim-index r x d h)
        (claim-next r c o e ∙ ap (Holds (output_index net.relation.grid net.relation.vcs o)) cr) (lt-ltb 0 (count_in net F c) flit)

    -- the verdict of an owned channel, by its claim
    pub verdict-owned : (c : Channel) (r port : ℕ) → IsInput net c r port → (claim : Claim) → claim_of net F r c ≡ claim
        → verdict_in net F c ≡ verdict_of net.relation.vcs (round_at net F r) ((port * net.relation.vcs + channel_vc c) / net.relation.vcs * net.relation.vcs + (port * net.relation.vcs + channel_vc c) % net.relation.vcs) claim (nat_lt 0 (count_in net F c))
    verdict-owned c r port i claim e =
        verdict-input net built F c r (port * net.relation.vcs + channel_vc c) i.router i.found
        ∙ ap (λ x. verdict_of net.relation.vcs (round_at net F r) ((port * net.relation.vcs + channel_vc c) / net.relation.vcs * net.relation.vcs + (port * net.relation.vcs + channel_vc c) % net.relation.vcs) x (nat_lt 0 (count_in net F c))) e

    pub listed : (c : Channel) (r port : ℕ) → IsInput net c r port → Has c (all_inputs net)
    listed c r port i = input-has net built c r (port * net.relation.vcs + channel_vc c) i.router (index_below (ports net.relation.grid) net.relation.vcs port (channel_vc c) i.below i.vc) i.found

    -- what an owned channel leads on to
    pub led-on : (c : Channel) (p r port : ℕ) → IsInput net c r port → owner_of net F c ≡ Some p → LeadsOn net (packet_at net p).class c (packet_at net p).destination r
    led-on (Link a q v) p r port i own =
        let o = worm.owners (Link a q v) p (owner-has (Link a q v) p own) in
        built.goes_on (packet_at net p).class o.1.0 (packet_at net p).destination a q v r port o.1.1 i.arrives
    led-on (Inject m v) p r port i own =
        let o = worm.owners (Inject m v) p (owner-has (Inject m v) p own) in
        let s = same_place m (local_port net.relation.grid) r port i.arrives in
        let from : (packet_at net p).source ≡ m = sym o.1.0 in
        subst (λ (x : ℕ). LeadsOn net (packet_at net p).class (Inject x v) (packet_at net p).destination r) from
        (subst (λ (x : ℕ). LeadsOn net (packet_at net p).class (Inject (packet_at net p).source v) (packet_at net p).destination x) (from ∙ s.0)
        (built.starts p v o.0 o.1.1))
    led-on (Eject m v) p r port i own = absurd (cc i.arrives)

    module _ (n : ℕ) (quiet : IsQuiet net n F) where
      pub unmoved : (d : Channel) → Has d (all_inputs net) → verdict_in net F d ≡ Moved → ⊥
      unmoved d h e = true≢false (sym (ap (is_event) e) ∙ quiet.silent d h)

      pub ungranted : (d : Channel) → Has d (all_inputs net) → verdict_in net F d ≡ Granted → ⊥
      ungranted d h e = true≢false (sym (ap (is_event) e) ∙ quiet.silent d h)

      pub unroutable : (d : Channel) → Has d (all_inputs net) → verdict_in net F d ≡ Routed → ⊥
      unroutable d h e = true≢false (sym (ap (is_event) e) ∙ quiet.silent d h)

      -- a flit with a next channel and a credit is an event
      pub next-moves : (c o : Channel) → next_channel net F c ≡ Some o → has_credit_in net F o ≡ true → 0 < count_in net F c → ⊥
      next-moves c o e cr flit =
          let has = next-has c o e in
          let i = owner-comes c has.0 has.1 (next-input c o e) in
          let m = next-moved c o i.0 i.1 i.2 e cr flit in
          unmoved m.0 m.1 m.2

      -- an empty buffer has credits
      pub credit-here : (r q v : ℕ) → count_in net F (Link r q v) ≡ 0 → has_credit_in net F (Link r q v) ≡ true
      credit-here r q v e =
          let on : count_on net F (Link r q v) ≡ 0 = ap (λ (xs : List Located). length xs) (filter-none (λ (f : Located). is_on (Link r q v) f.place) F.at (λ f h. not-on f f.place (quiet.still f h))) in
          lt-ltb 0 (credit_of net F (Link r q v)) (at (has_channel F.back (Link r q v)) (ap (λ back. has_channel back (Link r q v)) quiet.no_credit) on)
        where
          not-on : (f : Located) (place : Place) → is_flying place ≡ false → is_on (Link r q v) place ≡ false
          not-on f Source k = refl
          not-on f (On d) k = absurd (true≢false k)
          not-on f (In d) k = refl
          not-on f (Out m) k = refl

          at : (b : Bool) → b ≡ false → count_on net F (Link r q v) ≡ 0 → 0 < net.depth - count_on net F (Link r q v) - count_in net F (Link r q v) - cond b 1 0
          at true k on = absurd (true≢false k)
          at false k on = let l = built.depth in omega arith

      -- an injection channel with an owner is not empty
      pub source-absurd : (m v p : ℕ) → owner_of net F (Inject m v) ≡ Some p → count_in net F (Inject m v) ≡ 0 → ⊥
      source-absurd m v p e z =
          let s = worm.starts_fed m v p e z in
          let fits : nat_lt (count_in net F (Inject m v)) net.depth ≡ true = lt-ltb _ _ (let l = built.depth in omega arith) in
          let goes : injection_with net F n m p (Some (Inject m v)) ≡ Some (record { packet = p; channel = Inject m v; begins = false }) = rw fits in
          let is : injection_at net F n m ≡ Some (record { packet = p; channel = Inject m v; begins = false })
          = ap (option_and_then (λ q. injection_with net F n m q (find (is_injection_of net m) (owned_by net F q)))) s.0
          ∙ ap (injection_with net F n m p) s.1 ∙ goes in
          let l = owned-real (Inject m v) p (owner-has (Inject m v) p e) in
          let h : Has (record { packet = p; channel = Inject m v; begins = false }) (injections net F n) = Has-filter_mapped (injection_at net F n) m (record { packet = p; channel = Inject m v; begins = false }) (below (nodes net.relation.grid)) (below-has m (nodes net.relation.grid) l.0) is in
          subst (Has (record { packet = p; channel = Inject m v; begins = false })) quiet.none_injected h
