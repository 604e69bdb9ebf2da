-- A quiet cycle is not pending, where each packet that waits can go on by a channel
-- with a rank, and ranks rise.
use Rattle.std.proofs.Common.{◌≡◌, ◌≢◌, ℕ, zero, suc, ◌+◌, ◌*◌, ◌/◌, ◌%◌, ◌<◌, ◌≤◌, Bool, true, false, cond, List, [], ◌∷◌, length, Option, Some, None, refl, ap, sym, ◌∙◌, arith, inl, inr, subst, ⊎_elim}
use Rattle.std.specs.Prelude.{option_map, unwrap_or, is_none, nat_eq, nat_lt, nat_le, option_and_then, find, filter, ◌&&◌, ◌⊎◌, IsTrue}
use Rattle.noc_route.specs.Ranks.{LeadsTo, direct, through, IsRanked}
use Rattle.noc_theory.proofs.Common.{list_any, false≢true, true≢false, cases_lt, cases_eq, eq-eqb, ne_eqb, lt-ltb, le-leb, leb-true, and_from, and_parts, div-mul-add, mod-mul-add, Has, below, distance, local_port, nodes, ports, Channel, Link, Inject, Eject, channel_vc, permits, linked-port, Unrouted, Waits, verdict_of, Setup, State, Located, Place, Source, On, In, Out, size, packet_at, leaving, owner_of, owned_by, next_channel, end_of, end_distance, claim_of, claim_with, ask, is_idle, has_credit_in, count_in, has_channel, first_waiting, flits_of, is_at_source, is_injection_of, injection_at, injection_with, beginning, round_at, tail_place, out_cycle, is_flying, is_pending}
use Rattle.noc_theory.proofs.worms.BuiltLemmas.{distance-none}
use Rattle.noc_theory.proofs.worms.MemberLemmas.{Has-filter, Has-kept, find-some, list_any-from, list_any-has, Has-filter_mapped}
use Rattle.noc_theory.proofs.worms.OpeningLemmas.{below-has}
use Rattle.noc_theory.proofs.worms.GrantLemmas.{Has-below}
use Rattle.noc_theory.proofs.budget.ProgressRecordLemmas.{IsReal, IsBuilt, LeadsOn}
use Rattle.noc_theory.proofs.budget.HasLemmas.{map-has, find-has, least-some}
use Rattle.noc_theory.proofs.budget.RouterLemmas.{IsInput, grant-given, index_below}
use Rattle.noc_theory.proofs.budget.WormChainLemmas.{IsNearing, IsChain, IsQuiet}
use Rattle.noc_theory.proofs.budget.WormLemmas.{is_input, owner-has, has-owner, tail-flit, next-has, next-input, owner-comes, real-index, output-begins, allowed_at, ungranted, unroutable, next-moves, credit-here, source-absurd, verdict-owned, listed, led-on}

module _ (net : Setup) (F : State) (built : IsBuilt net) (worm : IsChain net F) (n : ℕ) (quiet : IsQuiet net n F)
    (nearer : IsNearing net) (bound : ℕ) (within : (c : Channel) (t : ℕ) → end_distance net.relation c t ≤ bound)
    (ranks : ℕ → ℕ → ℕ → Option ℕ) (ranked : IsRanked (λ m c t o. IsTrue (permits net.relation m c t o)) net.relation.grid ranks) where
  -- how far the end of a channel is from where packet p goes
  abbrev far : ℕ → Channel → ℕ
  far p c = end_distance net.relation c (packet_at net p).destination

  -- what is before a channel of p is a channel of p, farther away
  before : (c d : Channel) (p r q v : ℕ) → c ≡ Link r q v → owner_of net F (Link r q v) ≡ Some p → next_channel net F d ≡ Some (Link r q v) → (owner_of net F d ≡ Some p) × (far p c < far p d)
  before c d p r q v same own e =
      let has = next-has net F d (Link r q v) e in
      let one : has.0 ≡ p = worm.one_owner (Link r q v) has.0 p has.2 (owner-has net F (Link r q v) p own) in
      let up = nearer _ d _ r q v (worm.steps d has.0 r q v has.1 e) in
      let w : far has.0 (Link r q v) < far has.0 d = up in
      let l : far p (Link r q v) < far p d = subst (λ (x : ℕ). far x (Link r q v) < far x d) one w in
      let s : far p c ≡ far p (Link r q v) = ap (far p) same in
      (has.1 ∙ ap Some one, omega arith)

  -- along a worm, from a channel whose next channel has a credit, back to a flit or the source
  chain : (k : ℕ) (c o : Channel) (p : ℕ) → owner_of net F c ≡ Some p → bound < far p c + k → next_channel net F c ≡ Some o → has_credit_in net F o ≡ true → ⊥
  chain zero c o p own l e cr = let w = within c (packet_at net p).destination in omega arith
  chain (suc k) c o p own l e cr = at (count_in net F c) refl (λ d next held more credit. chain k d c p held (omega arith) next credit)
    where
      empty : (b : Channel) → c ≡ b → owner_of net F b ≡ Some p → is_input b ≡ true → count_in net F b ≡ 0
          → ((d : Channel) → next_channel net F d ≡ Some b → owner_of net F d ≡ Some p → far p c < far p d → has_credit_in net F b ≡ true → ⊥) → ⊥
      empty (Link r q v) same held i z rest =
          let f = worm.links_fed r q v p held z in
          let b = before c f.0 p r q v same held f.1 in
          rest f.0 f.1 b.0 b.1 (credit-here net F built worm n quiet r q v z)
      empty (Inject m v) same held i z rest = source-absurd net F built worm n quiet m v p held z
      empty (Eject m v) same held i z rest = false≢true i

      at : (x : ℕ) → count_in net F c ≡ x → ((d : Channel) → next_channel net F d ≡ Some c → owner_of net F d ≡ Some p → far p c < far p d → has_credit_in net F c ≡ true → ⊥) → ⊥
      at zero z rest = empty c refl own (next-input net F c o e) z rest
      at (suc x) z rest = next-moves net F built worm n quiet c o e cr (omega arith)

  -- no ejection channel is owned
  ends-absurd : (m v p : ℕ) → owner_of net F (Eject m v) ≡ Some p → ⊥
  ends-absurd m v p e =
      let f = worm.ends_fed m v p e in
      let has = next-has net F f.0 (Eject m v) f.1 in
      chain (suc bound) f.0 (Eject m v) has.0 has.1 (omega arith) f.1 refl

  -- an owned channel has a flit
  has-flit : (c : Channel) (p : ℕ) → owner_of net F c ≡ Some p → is_input c ≡ true → count_in net F c ≡ 0 → ⊥
  has-flit (Link r q v) p e i z =
      let f = worm.links_fed r q v p e z in
      let has = next-has net F f.0 (Link r q v) f.1 in
      chain (suc bound) f.0 (Link r q v) has.0 has.1 (omega arith) f.1 (credit-here net F built worm n quiet r q v z)
  has-flit (Inject m v) p e i z = source-absurd net F built worm n quiet m v p e z
  has-flit (Eject m v) p e i z = false≢true i

  -- the output channel of a link channel's index is the link channel
  leaving-index : (r q v : ℕ) → IsReal net (Link r q v) → leaving net r (q * net.relation.vcs + v) ≡ Link r q v
  leaving-index r q v real =
      let port : (q * net.relation.vcs + v) / net.relation.vcs ≡ q = div-mul-add q net.relation.vcs v real.1 in
      let vc : (q * net.relation.vcs + v) % net.relation.vcs ≡ v = mod-mul-add q net.relation.vcs v real.1 in
      let l : q < local_port net.relation.grid = linked-port net.relation.grid r q real.2 real.3 in
      let link : nat_eq q (local_port net.relation.grid) ≡ false = ne_eqb q (local_port net.relation.grid) (λ s. omega arith) in
      rw (port, vc, link)

  -- a head that waits is permitted no channel that is idle
  granted-absurd : (c : Channel) (p r port i : ℕ) → IsInput net c r port → owner_of net F c ≡ Some p → claim_of net F r c ≡ Waits (ask net F r c) → i < size net
      → IsTrue (permits net.relation (packet_at net p).class c (packet_at net p).destination (leaving net r i)) → is_idle net F (leaving net r i) ≡ true → ⊥
  granted-absurd c p r port i input own waits l allowed idle =
      let s = find-some (allowed_at net F c p r) (below (size net)) i (below-has i (size net) l) (and_from _ _ idle allowed) in
      let k = Has-below s.0 (size net) (find-has (allowed_at net F c p r) (below (size net)) s.0 s.1).0 in
      let asks : ask net F r c ≡ Some s.0 = ap (option_and_then (λ w. find (allowed_at net F c w r) (below (size net)))) own ∙ s.1 in
      let g = grant-given net built F c r (port * net.relation.vcs + channel_vc c) s.0 input.router (index_below (ports net.relation.grid) net.relation.vcs port (channel_vc c) input.below input.vc) input.found k (waits ∙ ap Waits asks) in
      ungranted net F built worm n quiet g.0 g.1 g.2

  -- whether an output channel is idle, or has an owner
  idle-or : (o : Channel) → (is_idle net F o ≡ true) ⊎ ((x : ℕ) × (owner_of net F o ≡ Some x))
  idle-or o = at (owner_of net F o) refl
    where
      at : (w : Option ℕ) → owner_of net F o ≡ w → (is_idle net F o ≡ true) ⊎ ((x : ℕ) × (owner_of net F o ≡ Some x))
      at None e = inl (ap (λ (z : Option ℕ). is_none z) e)
      at (Some x) e = inr (x, e)

  -- no owned channel with a rank is led to from c, with packet p
  IsFree : ℕ → Channel → Type 0
  IsFree p c = (a q w k x : ℕ) → LeadsTo (λ m c t o. IsTrue (permits net.relation m c t o)) ranks (packet_at net p).class (packet_at net p).destination c (Link a q w) → ranks a q w ≡ Some k → Has (Link a q w, x) F.own → ⊥

  -- no head waits at c
  waits-absurd : (c : Channel) (p r port : ℕ) → IsInput net c r port → owner_of net F c ≡ Some p → claim_of net F r c ≡ Waits (ask net F r c) → IsFree p c → ⊥
  unfolding IsFree
  waits-absurd c p r port input own waits free = at (cases_eq r (packet_at net p).destination)
    where
      lead : LeadsOn net (packet_at net p).class c (packet_at net p).destination r
      lead = led-on net F built worm c p r port input own

      ends : end_of net.relation c ≡ Some r
      ends = ap (option_map (λ (place : ℕ × ℕ). place.0)) input.arrives

      -- at the destination only ejection channels are permitted
      home : (o : Channel) (x : ℕ) → r ≡ (packet_at net p).destination → leaving net r lead.0 ≡ o → owner_of net F o ≡ Some x → IsTrue (permits net.relation (packet_at net p).class c (packet_at net p).destination o) → ⊥
      home (Eject m v) x here same e allowed = ends-absurd m v x e
      home (Inject m v) x here same e allowed = output-begins net.relation.grid net.relation.vcs r lead.0 m v same
      home (Link a q v) x here same e allowed =
          let l = nearer _ c _ a q v allowed in
          let z : far p c ≡ 0
          = ap (λ (o : Option ℕ). unwrap_or (option_map (λ y. distance net.relation.grid y (packet_at net p).destination) o) 0) ends
          ∙ ap (λ y. distance net.relation.grid y (packet_at net p).destination) here ∙ distance-none net.relation.grid (packet_at net p).destination in
          omega arith

      -- elsewhere a channel with a rank
      away : r ≢ (packet_at net p).destination → ⊥
      away other =
          let e = ranked.escape (packet_at net p).class (packet_at net p).destination c (leaving net r lead.0) r port lead.2 input.arrives other in
          let real = built.real (packet_at net p).class c (packet_at net p).destination (Link r e.0 e.1) e.3 in
          let same = leaving-index r e.0 e.1 real in
          let l = real-index net F built worm (Link r e.0 e.1) real in
          ⊎_elim
          (λ idle. granted-absurd c p r port (e.0 * net.relation.vcs + e.1) input own waits l
          (subst (λ (o : Channel). IsTrue (permits net.relation (packet_at net p).class c (packet_at net p).destination o)) (sym same) e.3) (ap (is_idle net F) same ∙ idle))
          (λ taken. free r e.0 e.1 e.2 taken.0 (direct e.3) e.4 (owner-has net F (Link r e.0 e.1) taken.0 taken.1))
          (idle-or (Link r e.0 e.1))

      at : (r ≡ (packet_at net p).destination) ⊎ (r ≡ (packet_at net p).destination → ⊥) → ⊥
      at (inl here) =
          ⊎_elim (λ idle. granted-absurd c p r port lead.0 input own waits lead.1 lead.2 idle)
          (λ taken. home (leaving net r lead.0) taken.0 here refl taken.1 lead.2) (idle-or (leaving net r lead.0))
      at (inr other) = away other

  -- from an owned channel forward to the head of its packet, by channels without a rank
  walk : (k : ℕ) (c : Channel) (p : ℕ) → owner_of net F c ≡ Some p → is_input c ≡ true → far p c < k → IsFree p c → ⊥
  unfolding IsFree
  walk zero c p own is l free = omega arith
  walk (suc k) c p own is l free = at (next_channel net F c) refl (λ r q v held lower clear. walk k (Link r q v) p held refl (omega arith) clear)
    where
      place : (r : ℕ) × (port : ℕ) × IsInput net c r port
      place = owner-comes net F built worm c p own is

      unrouted : nat_lt 0 (count_in net F c) ≡ true → has_channel F.routed c ≡ false → ⊥
      unrouted flit e =
          let claim : claim_of net F place.0 c ≡ Unrouted = ap (λ b. cond b (claim_with net F place.0 c (next_channel net F c)) Unrouted) e in
          unroutable net F built worm n quiet c (listed net F built worm c place.0 place.1 place.2)
          (verdict-owned net F built worm c place.0 place.1 place.2 Unrouted claim
          ∙ ap (verdict_of net.relation.vcs (round_at net F place.0) ((place.1 * net.relation.vcs + channel_vc c) / net.relation.vcs * net.relation.vcs + (place.1 * net.relation.vcs + channel_vc c) % net.relation.vcs) Unrouted) flit)

      -- the next channel is of the same packet
      held-next : (o : Channel) → next_channel net F c ≡ Some o → owner_of net F o ≡ Some p
      held-next o e =
          let has = next-has net F c o e in
          let s : Some has.0 ≡ Some p = sym has.1 ∙ own in
          let one : has.0 ≡ p = cc in
          let w = has-owner net F o has.0 has.2 in
          w.1 ∙ ap Some (worm.one_owner o w.0 has.0 (owner-has net F o w.0 w.1) has.2 ∙ one)

      on : (r q v : ℕ) → next_channel net F c ≡ Some (Link r q v) → (w : Option ℕ) → ranks r q v ≡ w
          → ((r q v : ℕ) → owner_of net F (Link r q v) ≡ Some p → far p (Link r q v) < far p c → IsFree p (Link r q v) → ⊥) → ⊥
      on r q v e (Some j) g rest = free r q v j p (direct (worm.steps c p r q v own e)) g (owner-has net F (Link r q v) p (held-next (Link r q v) e))
      on r q v e None g rest =
          let step = worm.steps c p r q v own e in
          rest r q v (held-next (Link r q v) e) (nearer _ c _ r q v step) (λ a b w j x leads. free a b w j x (through step g leads))

      stands : (x : ℕ) → count_in net F c ≡ x → (b : Bool) → has_channel F.routed c ≡ b → next_channel net F c ≡ None → ⊥
      stands zero z b k e = has-flit c p own is z
      stands (suc x) z false k e = unrouted (lt-ltb 0 (count_in net F c) (omega arith)) k
      stands (suc x) z true k e =
          waits-absurd c p place.0 place.1 place.2 own
          (ap (λ b. cond b (claim_with net F place.0 c (next_channel net F c)) Unrouted) k ∙ ap (claim_with net F place.0 c) e) free

      at : (next : Option Channel) → next_channel net F c ≡ next
          → ((r q v : ℕ) → owner_of net F (Link r q v) ≡ Some p → far p (Link r q v) < far p c → IsFree p (Link r q v) → ⊥) → ⊥
      at (Some (Link r q v)) e rest = on r q v e (ranks r q v) refl rest
      at (Some (Eject m v)) e rest = ends-absurd m v p (held-next (Eject m v) e)
      at (Some (Inject m v)) e rest = false≢true (next-has net F c (Inject m v) e).3
      at None e rest = stands (count_in net F c) refl (has_channel F.routed c) refl e

  -- an owned link channel with a rank, none higher
  record IsTop (own : List (Channel × ℕ)) : Type 0 where
    router : ℕ
    port : ℕ
    vc : ℕ
    rank : ℕ
    packet : ℕ
    has : Has (Link router port vc, packet) own
    ranked_is : ranks router port vc ≡ Some rank
    highest : (a q w k x : ℕ) → Has (Link a q w, x) own → ranks a q w ≡ Some k → k ≤ rank

  abbrev IsUnranked : List (Channel × ℕ) → Type 0
  IsUnranked own = (a q w k x : ℕ) → Has (Link a q w, x) own → ranks a q w ≡ Some k → ⊥

  -- there is one, or none has a rank
  top : (own : List (Channel × ℕ)) → IsUnranked own ⊎ IsTop own
  top [] = inl (λ a q w k x h e. absurd h)
  top ((c, p) ∷ rest) = first c refl (top rest)
    where
      ranked-first : (b : Channel) → c ≡ b → Option ℕ
      ranked-first (Link r q v) s = ranks r q v
      ranked-first (Inject m v) s = None
      ranked-first (Eject m v) s = None

      link-of : (d : Channel) (x : ℕ) → ◌≡◌ {A = Channel × ℕ} (d, x) (c, p) → d ≡ c
      link-of d x s = ap (λ (pair : Channel × ℕ). pair.0) s

      -- a first channel without a rank changes nothing
      none : ((a q w k x : ℕ) → Link a q w ≡ c → ranks a q w ≡ Some k → ⊥) → IsUnranked rest ⊎ IsTop rest → IsUnranked ((c, p) ∷ rest) ⊎ IsTop ((c, p) ∷ rest)
      none not (inl no_rank) = inl (λ a q w k x h e. ⊎_elim (λ s. not a q w k x (link-of (Link a q w) x s) e) (λ m. no_rank a q w k x m e) h)
      none not (inr t) = inr (record {
        router = t.router;
        port = t.port;
        vc = t.vc;
        rank = t.rank;
        packet = t.packet;
        has = inr t.has;
        ranked_is = t.ranked_is;
        highest = λ a q w k x h e. ⊎_elim (λ s. absurd (not a q w k x (link-of (Link a q w) x s) e)) (λ m. t.highest a q w k x m e) h;
      })

      -- the rank of a link channel is one
      same-rank : (r q v a b w j k : ℕ) → Link a b w ≡ Link r q v → ranks r q v ≡ Some j → ranks a b w ≡ Some k → k ≡ j
      same-rank r q v a b w j k s g e =
          let sa : a ≡ r = cc s in
          let sb : b ≡ q = cc s in
          let sw : w ≡ v = cc s in
          let t : ranks a b w ≡ ranks r q v = ap (λ x. ranks x b w) sa ∙ ap (λ x. ranks r x w) sb ∙ ap (ranks r q) sw in
          let u : Some k ≡ Some j = sym e ∙ t ∙ g in cc

      one : (r q v j : ℕ) → c ≡ Link r q v → ranks r q v ≡ Some j → IsUnranked rest ⊎ IsTop rest → IsUnranked ((c, p) ∷ rest) ⊎ IsTop ((c, p) ∷ rest)
      one r q v j s g (inl no_rank) = inr (record {
        router = r;
        port = q;
        vc = v;
        rank = j;
        packet = p;
        has = inl (ap (λ (x : Channel). (x, p)) (sym s));
        ranked_is = g;
        highest = λ a b w k x h e. ⊎_elim (λ z. let l = same-rank r q v a b w j k (link-of (Link a b w) x z ∙ s) g e in omega arith) (λ m. absurd (no_rank a b w k x m e)) h;
      })
      one r q v j s g (inr t) = larger (cases_lt j t.rank)
        where
          larger : (j < t.rank) ⊎ (t.rank ≤ j) → IsUnranked ((c, p) ∷ rest) ⊎ IsTop ((c, p) ∷ rest)
          larger (inl l) = inr (record {
            router = t.router;
            port = t.port;
            vc = t.vc;
            rank = t.rank;
            packet = t.packet;
            has = inr t.has;
            ranked_is = t.ranked_is;
            highest = λ a b w k x h e. ⊎_elim (λ z. let i = same-rank r q v a b w j k (link-of (Link a b w) x z ∙ s) g e in omega arith) (λ m. t.highest a b w k x m e) h;
          })
          larger (inr l) = inr (record {
            router = r;
            port = q;
            vc = v;
            rank = j;
            packet = p;
            has = inl (ap (λ (x : Channel). (x, p)) (sym s));
            ranked_is = g;
            highest = λ a b w k x h e. ⊎_elim (λ z. let i = same-rank r q v a b w j k (link-of (Link a b w) x z ∙ s) g e in omega arith) (λ m. let i = t.highest a b w k x m e in omega arith) h;
          })

      first : (b : Channel) → c ≡ b → IsUnranked rest ⊎ IsTop rest → IsUnranked ((c, p) ∷ rest) ⊎ IsTop ((c, p) ∷ rest)
      first (Inject m v) s r = none (λ a q w k x e g. apart a q w (e ∙ s)) r
        where
          apart : (a q w : ℕ) → Link a q w ≡ Inject m v → ⊥
          apart a q w e = cc
      first (Eject m v) s r = none (λ a q w k x e g. apart a q w (e ∙ s)) r
        where
          apart : (a q w : ℕ) → Link a q w ≡ Eject m v → ⊥
          apart a q w e = cc
      first (Link r q v) s rest_of = at (ranks r q v) refl
        where
          unranked : ranks r q v ≡ None → (a b w k x : ℕ) → Link a b w ≡ c → ranks a b w ≡ Some k → ⊥
          unranked g a b w k x e f =
              let z : Link a b w ≡ Link r q v = e ∙ s in
              let sa : a ≡ r = cc z in
              let sb : b ≡ q = cc z in
              let sw : w ≡ v = cc z in
              let t : ranks a b w ≡ ranks r q v = ap (λ y. ranks y b w) sa ∙ ap (λ y. ranks r y w) sb ∙ ap (ranks r q) sw in
              let u : Some k ≡ None = sym f ∙ t ∙ g in cc u

          at : (o : Option ℕ) → ranks r q v ≡ o → IsUnranked ((c, p) ∷ rest) ⊎ IsTop ((c, p) ∷ rest)
          at None g = none (unranked g) rest_of
          at (Some j) g = one r q v j s g rest_of

  -- nothing is owned
  unowned : (c : Channel) (p : ℕ) → Has (c, p) F.own → ⊥
  unfolding IsFree
  unowned c p h = at (top F.own)
    where
      any : (c : Channel) (q : ℕ) → owner_of net F c ≡ Some q → IsUnranked F.own → ⊥
      any (Eject m v) q e none = ends-absurd m v q e
      any (Link r a v) q e none = walk (suc (far q (Link r a v))) (Link r a v) q e refl (omega arith) (λ b d w k x leads g o. none b d w k x o g)
      any (Inject m v) q e none = walk (suc (far q (Inject m v))) (Inject m v) q e refl (omega arith) (λ b d w k x leads g o. none b d w k x o g)

      at : IsUnranked F.own ⊎ IsTop F.own → ⊥
      at (inl none) = let q = has-owner net F c p h in any c q.0 q.1 none
      at (inr t) =
          let q = has-owner net F (Link t.router t.port t.vc) t.packet t.has in
          walk (suc (far q.0 (Link t.router t.port t.vc))) (Link t.router t.port t.vc) q.0 q.1 refl (omega arith)
          (λ b d w k x leads g o.
          let up = ranked.rising _ _ t.router t.port t.vc b d w t.rank k leads t.ranked_is g in
          let low = t.highest b d w k x o g in
          omega arith)

  no-owner : (c : Channel) → owner_of net F c ≡ None
  no-owner c = at (owner_of net F c) refl
    where
      at : (o : Option ℕ) → owner_of net F c ≡ o → o ≡ None
      at None e = refl
      at (Some p) e = absurd (unowned c p (owner-has net F c p e))

  -- a packet with its tail at its source and due by now is no more waiting than it must
  waiting-absurd : (p : ℕ) → p < length net.packets → (packet_at net p).due ≤ n → (f : Located) → Has f F.at → f.packet ≡ p → f.place ≡ Source → ⊥
  waiting-absurd p l due f h own e =
      let node : ℕ = (packet_at net p).source in
      let flit : list_any (λ (g : Located). is_at_source g.place) (flits_of net F p) ≡ true
      = list_any-from (λ (g : Located). is_at_source g.place) (flits_of net F p) f (Has-kept (λ (g : Located). nat_eq p g.packet) f F.at h (eq-eqb p f.packet (sym own))) (ap is_at_source e) in
      let waits : Has p (filter (λ q. nat_eq (packet_at net q).source (packet_at net p).source && list_any (λ (g : Located). is_at_source g.place) (flits_of net F q)) (below (length net.packets)))
      = Has-kept (λ q. nat_eq (packet_at net q).source (packet_at net p).source && list_any (λ (g : Located). is_at_source g.place) (flits_of net F q)) p (below (length net.packets)) (below-has p (length net.packets) l)
      (and_from _ _ (eq-eqb (packet_at net p).source (packet_at net p).source refl) flit) in
      let first = least-some (λ q. (packet_at net q).due) _ p waits in
      begins first.0 first.1 (omega (arith, first.2)) (find (is_injection_of net (packet_at net p).source) (owned_by net F first.0)) refl
    where
      begins : (q : ℕ) → first_waiting net F (packet_at net p).source ≡ Some q → (packet_at net q).due ≤ n
          → (j : Option Channel) → find (is_injection_of net (packet_at net p).source) (owned_by net F q) ≡ j → ⊥
      begins q first early (Some j) found =
          let in_own = find-has (is_injection_of net (packet_at net p).source) (owned_by net F q) j found in
          let m = map-has (λ (pair : Channel × ℕ). pair.0) j (filter (λ (pair : Channel × ℕ). nat_eq q pair.1) F.own) in_own.0 in
          let k = Has-filter (λ (pair : Channel × ℕ). nat_eq q pair.1) m.0 F.own m.1 in
          unowned m.0.0 m.0.1 k.0
      begins q first early None found =
          let free = find-some (λ v. is_idle net F (Inject (packet_at net p).source v)) (below net.relation.vcs) 0 (below-has 0 net.relation.vcs built.vcs) (ap (λ (o : Option ℕ). is_none o) (no-owner (Inject (packet_at net p).source 0))) in
          let in_time : nat_le (packet_at net q).due n ≡ true = le-leb (packet_at net q).due n early in
          let starts : beginning net F n (packet_at net p).source q ≡ Some (record { packet = q; channel = Inject (packet_at net p).source free.0; begins = true })
          = rw (in_time) (ap (option_map (λ v. (record { packet = q; channel = Inject (packet_at net p).source v; begins = true }))) free.1) in
          let is : injection_at net F n (packet_at net p).source ≡ Some (record { packet = q; channel = Inject (packet_at net p).source free.0; begins = true })
          = ap (option_and_then (λ w. injection_with net F n (packet_at net p).source w (find (is_injection_of net (packet_at net p).source) (owned_by net F w)))) first
          ∙ ap (injection_with net F n (packet_at net p).source q) found ∙ starts in
          subst (Has (record { packet = q; channel = Inject (packet_at net p).source free.0; begins = true })) quiet.none_injected
          (Has-filter_mapped (injection_at net F n) (packet_at net p).source (record { packet = q; channel = Inject (packet_at net p).source free.0; begins = true }) (below (nodes net.relation.grid)) (below-has (packet_at net p).source (nodes net.relation.grid) (built.sources p l)) is)

  -- so the cycle is not pending
  pub quiet-absurd : is_pending net n F ≡ true → ⊥
  quiet-absurd pending =
      let a = list_any-has (λ p. nat_le (packet_at net p).due n && is_none (out_cycle (tail_place net F p))) (below (length net.packets)) pending in
      let l = Has-below a.0 (length net.packets) a.1 in
      let parts = and_parts _ _ a.2 in
      let w = worm.tails a.0 l in
      let t = tail-flit net F a.0 w.0 w.1 w.2 w.3 in
      at a.0 l (leb-true (packet_at net a.0).due n parts.0) t.0 t.1 t.2 t.0.place refl (ap (λ (q : Place). is_none (out_cycle q)) t.3 ∙ parts.1)
    where
      at : (p : ℕ) → p < length net.packets → (packet_at net p).due ≤ n → (f : Located) → Has f F.at → f.packet ≡ p → (q : Place) → f.place ≡ q → is_none (out_cycle f.place) ≡ true → ⊥
      at p l due f h own Source e out = waiting-absurd p l due f h own e
      at p l due f h own (On c) e out = true≢false (sym (ap (is_flying) e) ∙ quiet.still f h)
      at p l due f h own (In c) e out = let k = worm.kept f c h e in unowned c k.0 (owner-has net F c k.0 k.1)
      at p l due f h own (Out m) e out = false≢true (sym (ap (λ (q : Place). is_none (out_cycle q)) e) ∙ out)
