-- Grants: what a grant says, that no two go to one channel, and that own stays once and each
-- packet's channels a path.
use Rattle.std.proofs.Common.{◌≡◌, ◌≢◌, ℕ, zero, suc, ◌+◌, ◌*◌, ◌/◌, ◌%◌, ◌<◌, ◌≤◌, Bool, true, false, cond, List, [], ◌∷◌, ◌++◌, get_or, Option, Some, None, refl, ap, sym, ◌∙◌, inl, inr, subst, arith, append-nil}
use Rattle.std.specs.Prelude.{filter, find, option_map, option_and_then, ◌⊎◌, not, nat_eq, nat_lt, IsTrue, ◌&&◌}
use Rattle.noc_view.proofs.PlanLemmas.{verdict-granted}
use Rattle.noc_theory.proofs.Common.{filter_map, range_with_len, cons_option, false≢true, true≢false, and_parts, and_left, eqb-true, none-some, same_Some, div-add-mod', div-mul-add, mod-mul-add, below, Has, Pairs, local_port, Channel, Link, Inject, Eject, sending_router, arrival_of, channel_vc, output_at, output_index, inputs, Unrouted, Waits, Holds, verdict_of, is_granted, is_moved, Routes, permits, Setup, State, size, packet_at, owner_of, owned_by, is_idle, ask, next_channel, leads_from, has_credit_in, end_of, has_channel, claim_of, round_at, count_in, verdict_in, verdict_at, granted_pair, grant_to_owner, is_released, after_verdicts, Verdict, Granted, IsPath, is_none-none}
use Rattle.noc_theory.proofs.worms.BuiltRecordLemmas.{IsBuilt}
use Rattle.noc_theory.proofs.worms.OptionLemmas.{and_then-some, cond-some}
use Rattle.noc_theory.proofs.worms.BufferLemmas.{find-passes}
use Rattle.noc_theory.proofs.worms.MemberLemmas.{Has-filter_map, Has-filter, find-fails, Pairs-filter, Pairs-append, each-at, each-from}
use Rattle.noc_theory.proofs.worms.OwnedLemmas.{IsOnce, of, of-append, of-filter, has-of, owner-has, idle-none}
use Rattle.noc_theory.proofs.worms.StateWordLemmas.{IsOtherChannel, IsEject}
use Rattle.noc_theory.proofs.worms.PathLemmas.{IsLast, path-filter, path-last, path-append, last-kept, no-inject}

-- each input channel of the network once, with a virtual channel that exists, and
-- found by where it arrives
pub record IsWired (net : Setup) : Type 0 where
  pub apart : Pairs (λ (a b : Channel). a ≢ b) (inputs net.relation.grid net.relation.vcs)
  pub low : (c : Channel) → Has c (inputs net.relation.grid net.relation.vcs) → channel_vc c < net.relation.vcs
  pub found : (c d : Channel) → Has c (inputs net.relation.grid net.relation.vcs) → Has d (inputs net.relation.grid net.relation.vcs) → arrival_of net.relation.grid c ≡ arrival_of net.relation.grid d → channel_vc c ≡ channel_vc d → c ≡ d

pub Has-range : (i a n : ℕ) → Has i (range_with_len a n) → (a ≤ i) × (i < a + n)
Has-range i a zero h = elim h [ ]
Has-range i a (suc n) (inl e) = (omega arith, omega arith)
Has-range i a (suc n) (inr h) = let r = Has-range i (a + 1) n h in (omega arith, omega arith)

pub Has-below : (i n : ℕ) → Has i (below n) → i < n
unfolding below
Has-below i n h = let r = Has-range i 0 n h in omega arith

pub begin-output : (net : Setup) (r i : ℕ) → sending_router (output_at net.relation.grid net.relation.vcs r i) ≡ Some r
begin-output net r i = at (nat_eq (i / net.relation.vcs) (local_port net.relation.grid))
  where
    at : (b : Bool) → sending_router (cond b (Eject r (i % net.relation.vcs)) (Link r (i / net.relation.vcs) (i % net.relation.vcs))) ≡ Some r
    at true = refl
    at false = refl

pub index-output : (net : Setup) (r i : ℕ) → output_index net.relation.grid net.relation.vcs (output_at net.relation.grid net.relation.vcs r i) ≡ i
index-output net r i = at (nat_eq (i / net.relation.vcs) (local_port net.relation.grid)) refl
  where
    at : (b : Bool) → nat_eq (i / net.relation.vcs) (local_port net.relation.grid) ≡ b → output_index net.relation.grid net.relation.vcs (cond b (Eject r (i % net.relation.vcs)) (Link r (i / net.relation.vcs) (i % net.relation.vcs))) ≡ i
    at true e = let s : i / net.relation.vcs ≡ local_port net.relation.grid = eqb-true _ _ e in ap (λ q. q * net.relation.vcs + i % net.relation.vcs) (sym s) ∙ div-add-mod' i net.relation.vcs
    at false e = div-add-mod' i net.relation.vcs

-- a channel that ends at a router arrives there, at a port
pub end-some : (g : Routes) (c : Channel) (r : ℕ) → end_of g c ≡ Some r → (port : ℕ) × (arrival_of g.grid c ≡ Some (r, port))
end-some g c r e = at (arrival_of g.grid c) refl
  where
    at : (a : Option (ℕ × ℕ)) → arrival_of g.grid c ≡ a → (port : ℕ) × (arrival_of g.grid c ≡ Some (r, port))
    at None h = let z : None ≡ Some r = sym (ap (option_map (λ (place : ℕ × ℕ). place.0)) h) ∙ e in absurd (none-some r z)
    at (Some place) h =
        let z : Some place.0 ≡ Some r = sym (ap (option_map (λ (x : ℕ × ℕ). x.0)) h) ∙ e in
        (place.1, h ∙ ap (λ (x : ℕ). Some (x, place.1)) (same_Some place.0 r z))

pub is_granted-true : (v : Verdict) → is_granted v ≡ true → v ≡ Granted
is_granted-true Granted e = refl
is_granted-true _ e = absurd (false≢true e)

module _ (net : Setup) (F : State) where
  -- channel o goes from c to packet p
  pub record IsGrant (c o : Channel) (p : ℕ) : Type 0 where
    pub router : ℕ
    pub port : ℕ
    pub index : ℕ
    pub arrives : arrival_of net.relation.grid c ≡ Some (router, port)
    pub is_verdict : verdict_in net F c ≡ Granted
    pub won : get_or (round_at net F router).grants index None ≡ Some (port * net.relation.vcs + channel_vc c)
    pub is_output : output_at net.relation.grid net.relation.vcs router index ≡ o
    pub idle : owner_of net F o ≡ None
    pub holder : owner_of net F c ≡ Some p
    pub no_next : next_channel net F c ≡ None
    pub routed : has_channel F.routed c ≡ true
    pub allowed : IsTrue (permits net.relation (packet_at net p).class c (packet_at net p).destination o)

  claim-asks : (r : ℕ) (c : Channel) (i : ℕ) → claim_of net F r c ≡ Waits (Some i) → (next_channel net F c ≡ None) × (ask net F r c ≡ Some i) × (has_channel F.routed c ≡ true)
  claim-asks r c i e = at (has_channel F.routed c) refl (next_channel net F c) refl
    where
      at : (b : Bool) → has_channel F.routed c ≡ b → (next : Option Channel) → next_channel net F c ≡ next → (next_channel net F c ≡ None) × (ask net F r c ≡ Some i) × (has_channel F.routed c ≡ true)
      at false h next k = let g : Unrouted ≡ Waits (Some i) = sym (rw h) ∙ e in absurd (cc g)
      at true h None k = let g : Waits (ask net F r c) ≡ Waits (Some i) = sym (rw (h, k)) ∙ e in (k, cc, h)
      at true h (Some o) k = let g : Holds (output_index net.relation.grid net.relation.vcs o) (has_credit_in net F o) ≡ Waits (Some i) = sym (rw (h, k)) ∙ e in absurd (cc g)

  ask-some : (r : ℕ) (c : Channel) (p i : ℕ) → owner_of net F c ≡ Some p → ask net F r c ≡ Some i
      → (owner_of net F (output_at net.relation.grid net.relation.vcs r i) ≡ None) × IsTrue (permits net.relation (packet_at net p).class c (packet_at net p).destination (output_at net.relation.grid net.relation.vcs r i))
  ask-some r c p i own e =
      let test : ℕ → Bool = λ j. is_idle net F (output_at net.relation.grid net.relation.vcs r j) && permits net.relation (packet_at net p).class c (packet_at net p).destination (output_at net.relation.grid net.relation.vcs r j) in
      let found : find test (below (size net)) ≡ Some i = sym (ap (option_and_then (λ q. find (λ j. is_idle net F (output_at net.relation.grid net.relation.vcs r j) && permits net.relation (packet_at net q).class c (packet_at net q).destination (output_at net.relation.grid net.relation.vcs r j)) (below (size net)))) own) ∙ e in
      let parts = and_parts (is_idle net F (output_at net.relation.grid net.relation.vcs r i)) (permits net.relation (packet_at net p).class c (packet_at net p).destination (output_at net.relation.grid net.relation.vcs r i)) (find-passes test (below (size net)) i found) in
      (is_none-none _ parts.0, parts.1)

  pub granted-is : (c o : Channel) (p : ℕ) → granted_pair net F c ≡ Some (o, p) → IsGrant c o p
  granted-is c o p e =
      let one = cond-some (is_granted (verdict_in net F c)) (option_and_then (λ r. option_and_then (grant_to_owner net F c r) (owner_of net F c)) (end_of net.relation c)) (o, p) e in
      let two = and_then-some (λ r. option_and_then (grant_to_owner net F c r) (owner_of net F c)) (end_of net.relation c) (o, p) one.1 in
      let ends = end-some net.relation c two.0 two.1 in
      let place : ℕ × ℕ = (two.0, ends.0) in
      let three = and_then-some (grant_to_owner net F c two.0) (owner_of net F c) (o, p) two.2 in
      let v : verdict_in net F c ≡ Granted = is_granted-true _ one.0 in
      let at_place : verdict_of net.relation.vcs (round_at net F place.0) (place.1 * net.relation.vcs + channel_vc c) (claim_of net F place.0 c) (nat_lt 0 (count_in net F c)) ≡ Granted = sym (ap (verdict_at net F c) ends.1) ∙ v in
      let held = verdict-granted net.relation.vcs (round_at net F place.0) (place.1 * net.relation.vcs + channel_vc c) (claim_of net F place.0 c) (nat_lt 0 (count_in net F c)) at_place in
      let asks = claim-asks place.0 c held.0 held.1 in
      let pair : Some (output_at net.relation.grid net.relation.vcs place.0 held.0, three.0) ≡ Some (o, p) = sym (ap (option_map (λ i. (output_at net.relation.grid net.relation.vcs place.0 i, three.0))) asks.1) ∙ three.2 in
      let parts = same_Some (output_at net.relation.grid net.relation.vcs place.0 held.0, three.0) (o, p) pair in
      let is_o : output_at net.relation.grid net.relation.vcs place.0 held.0 ≡ o = ap (λ (x : Channel × ℕ). x.0) parts in
      let is_p : three.0 ≡ p = ap (λ (x : Channel × ℕ). x.1) parts in
      let own : owner_of net F c ≡ Some p = three.1 ∙ ap Some is_p in
      let more = ask-some place.0 c p held.0 own asks.1 in
      record {
        router = place.0;
        port = place.1;
        index = held.0;
        arrives = ends.1;
        is_verdict = v;
        won = held.2;
        is_output = is_o;
        idle = subst (λ (x : Channel). owner_of net F x ≡ None) is_o more.0;
        holder = own;
        no_next = asks.0;
        routed = asks.2;
        allowed = subst (λ (x : Channel). IsTrue (permits net.relation (packet_at net p).class c (packet_at net p).destination x)) is_o more.1;
      }

module _ (net : Setup) (wired : IsWired net) (F : State) where
  abbrev all : List Channel
  all = inputs net.relation.grid net.relation.vcs

  -- two grants of one channel are one
  pub one_target : (c d o : Channel) (p q : ℕ) → Has c all → Has d all → IsGrant net F c o p → IsGrant net F d o q → c ≡ d
  one_target c d o p q hc hd g h =
      let ro : Some g.router ≡ Some h.router = sym (begin-output net g.router g.index) ∙ ap sending_router (g.is_output ∙ sym h.is_output) ∙ begin-output net h.router h.index in
      let r : g.router ≡ h.router = same_Some _ _ ro in
      let i : g.index ≡ h.index = sym (index-output net g.router g.index) ∙ ap (output_index net.relation.grid net.relation.vcs) (g.is_output ∙ sym h.is_output) ∙ index-output net h.router h.index in
      let w : get_or (round_at net F g.router).grants g.index None ≡ Some (h.port * net.relation.vcs + channel_vc d)
      = ap (λ x. get_or (round_at net F x).grants g.index None) r ∙ ap (λ x. get_or (round_at net F h.router).grants x None) i ∙ h.won in
      let same : g.port * net.relation.vcs + channel_vc c ≡ h.port * net.relation.vcs + channel_vc d = same_Some _ _ (sym g.won ∙ w) in
      let ports : g.port ≡ h.port = sym (div-mul-add g.port net.relation.vcs (channel_vc c) (wired.low c hc)) ∙ ap (λ x. x / net.relation.vcs) same ∙ div-mul-add h.port net.relation.vcs (channel_vc d) (wired.low d hd) in
      let vc : channel_vc c ≡ channel_vc d = sym (mod-mul-add g.port net.relation.vcs (channel_vc c) (wired.low c hc)) ∙ ap (λ x. x % net.relation.vcs) same ∙ mod-mul-add h.port net.relation.vcs (channel_vc d) (wired.low d hd) in
      let arrives : arrival_of net.relation.grid c ≡ arrival_of net.relation.grid d = g.arrives ∙ ap (λ x. Some (x, g.port)) r ∙ ap (λ x. Some (h.router, x)) ports ∙ sym h.arrives in
      wired.found c d hc hd arrives vc

  once-granted : (cs : List Channel) → ((c : Channel) → Has c cs → Has c all) → Pairs (λ (a b : Channel). a ≢ b) cs → IsOnce (filter_map (granted_pair net F) cs)
  once-granted [] sub p = tt
  once-granted (c ∷ cs) sub p = at (granted_pair net F c) refl (once-granted cs (λ d h. sub d (inr h)) p.1)
    where
      at : (g : Option (Channel × ℕ)) → granted_pair net F c ≡ g → IsOnce (filter_map (granted_pair net F) cs) → IsOnce (cons_option g (filter_map (granted_pair net F) cs))
      at None e rest = rest
      at (Some pair) e rest = (
        each-from (IsOtherChannel pair) (filter_map (granted_pair net F) cs) (λ other h s.
            let r = Has-filter_map (granted_pair net F) other cs h in
            let g : IsGrant net F c pair.0 pair.1 = granted-is net F c pair.0 pair.1 e in
            let k : IsGrant net F r.0 other.0 other.1 = granted-is net F r.0 other.0 other.1 r.2 in
            let k' : IsGrant net F r.0 pair.0 other.1 = subst (λ (x : Channel). IsGrant net F r.0 x other.1) (sym s) k in
            each-at (λ (b : Channel). c ≢ b) cs r.0 p.0 r.1 (one_target c r.0 pair.0 pair.1 other.1 (sub c (inl refl)) (sub r.0 (inr r.1)) g k')),
        rest,
      )

  -- own stays once through the grants
  pub once-after_verdicts : (n : ℕ) → IsOnce F.own → IsOnce (after_verdicts net n F).own
  unfolding after_verdicts
  once-after_verdicts n once =
      Pairs-append IsOtherChannel (filter (λ pair. not (is_released net F pair)) F.own) (filter_map (granted_pair net F) all)
      (Pairs-filter IsOtherChannel (λ pair. not (is_released net F pair)) F.own once)
      (once-granted all (λ c h. h) wired.apart)
      (λ x y h k s.
      let f = Has-filter (λ pair. not (is_released net F pair)) x F.own h in
      let r = Has-filter_map (granted_pair net F) y all k in
      let g : IsGrant net F r.0 y.0 y.1 = granted-is net F r.0 y.0 y.1 r.2 in
      let own : Has (y.0, x.1) F.own = subst (λ (z : Channel). Has (z, x.1) F.own) s f.0 in
      idle-none net F y.0 x.1 g.idle own)

  module _ (built : IsBuilt net) (once : IsOnce F.own) (p : ℕ) (path : IsPath net (packet_at net p).class (packet_at net p).destination (of p F.own)) where
    abbrev m : ℕ
    m = (packet_at net p).class

    abbrev t : ℕ
    t = (packet_at net p).destination

    -- the channel that is granted a next one is the last of its packet
    pub grant-last : (c o : Channel) → IsGrant net F c o p → IsLast net built m t c (of p F.own)
    grant-last c o g =
        path-last net built m t c (of p F.own) path (has-of c p F.own (owner-has net F c p g.holder))
        (λ d h. find-fails (leads_from net c) (owned_by net F p) d
        (sym (ap (option_and_then (λ q. find (leads_from net c) (owned_by net F q))) g.holder) ∙ g.no_next) h)

    pub last-same : (c d : Channel) (xs : List Channel) → IsLast net built m t c xs → IsLast net built m t d xs → c ≡ d
    last-same c d [] h k = elim h [ ]
    last-same c d (x ∷ []) h k = sym h ∙ k
    last-same c d (x ∷ y ∷ xs) h k = last-same c d (y ∷ xs) h k

    -- so a packet is granted at most one channel
    pub granted-of : (cs : List Channel) → Pairs (λ (a b : Channel). a ≢ b) cs
        → (of p (filter_map (granted_pair net F) cs) ≡ []) ⊎ ((c : Channel) × (o : Channel) × Has c cs × IsGrant net F c o p × (of p (filter_map (granted_pair net F) cs) ≡ o ∷ []))
    granted-of [] d = inl refl
    granted-of (c ∷ cs) d = at (granted_pair net F c) refl (granted-of cs d.1)
      where
        abbrev_rest : List (Channel × ℕ)
        abbrev_rest = filter_map (granted_pair net F) cs

        lifted : (of p (filter_map (granted_pair net F) cs) ≡ []) ⊎ ((a : Channel) × (o : Channel) × Has a cs × IsGrant net F a o p × (of p (filter_map (granted_pair net F) cs) ≡ o ∷ []))
            → (of p (filter_map (granted_pair net F) cs) ≡ []) ⊎ ((a : Channel) × (o : Channel) × Has a (c ∷ cs) × IsGrant net F a o p × (of p (filter_map (granted_pair net F) cs) ≡ o ∷ []))
        lifted (inl e) = inl e
        lifted (inr r) = inr (r.0, r.1, inr r.2, r.3, r.4)

        with_this : (o : Channel) (q : ℕ) → granted_pair net F c ≡ Some (o, q) → (b : Bool) → nat_eq p q ≡ b
            → (of p (filter_map (granted_pair net F) cs) ≡ []) ⊎ ((a : Channel) × (x : Channel) × Has a cs × IsGrant net F a x p × (of p (filter_map (granted_pair net F) cs) ≡ x ∷ []))
            → (of p ((o, q) ∷ filter_map (granted_pair net F) cs) ≡ []) ⊎ ((a : Channel) × (x : Channel) × Has a (c ∷ cs) × IsGrant net F a x p × (of p ((o, q) ∷ filter_map (granted_pair net F) cs) ≡ x ∷ []))
        with_this o q e false k rest = rw k (lifted rest)
        with_this o q e true k (inl z) =
            let same : p ≡ q = eqb-true p q k in
            inr (c, o, inl refl, subst (λ (x : ℕ). IsGrant net F c o x) (sym same) (granted-is net F c o q e), rw k (ap (λ xs. o ∷ xs) z))
        with_this o q e true k (inr r) =
            let same : p ≡ q = eqb-true p q k in
            let g : IsGrant net F c o p = subst (λ (x : ℕ). IsGrant net F c o x) (sym same) (granted-is net F c o q e) in
            absurd (each-at (λ (b : Channel). c ≢ b) cs r.0 d.0 r.2 (last-same c r.0 (of p F.own) (grant-last c o g) (grant-last r.0 r.1 r.3)))

        at : (g : Option (Channel × ℕ)) → granted_pair net F c ≡ g
            → (of p (filter_map (granted_pair net F) cs) ≡ []) ⊎ ((a : Channel) × (o : Channel) × Has a cs × IsGrant net F a o p × (of p (filter_map (granted_pair net F) cs) ≡ o ∷ []))
            → (of p (cons_option g (filter_map (granted_pair net F) cs)) ≡ []) ⊎ ((a : Channel) × (o : Channel) × Has a (c ∷ cs) × IsGrant net F a o p × (of p (cons_option g (filter_map (granted_pair net F) cs)) ≡ o ∷ []))
        at None e rest = lifted rest
        at (Some pair) e rest = with_this pair.0 pair.1 e (nat_eq p pair.1) refl rest

    keeps : Channel → Bool
    keeps c = not (is_released net F (c, p))

    -- what is released next to what is kept is an ejection channel
    released-end : (c o : Channel) → IsTrue (permits net.relation m c t o) → not (is_released net F (o, p)) ≡ false → IsEject o
    released-end c (Link r a v) e k = true≢false k
    released-end c (Inject n v) e k = absurd (no-inject net built m t c n v e)
    released-end c (Eject n v) e k = tt

    kept-waiting : (c o : Channel) → IsGrant net F c o p → not (is_released net F (c, p)) ≡ true
    kept-waiting (Link r a v) o g = refl
    kept-waiting (Inject n v) o g = ap not (and_left _ _ (ap (is_moved) g.is_verdict))
    kept-waiting (Eject n v) o g = absurd (none-some (g.router, g.port) g.arrives)

    -- the channels of a packet stay one path through the releases and the grants
    pub path-after_verdicts : (n : ℕ) → IsPath net m t (of p (after_verdicts net n F).own)
    unfolding after_verdicts
    path-after_verdicts n =
        let kept : IsPath net m t (filter (λ c. not (is_released net F (c, p))) (of p F.own))
        = path-filter net built m t (λ c. not (is_released net F (c, p))) (of p F.own) path (λ c o h k e a b. released-end c o e b) in
        let whole : of p (after_verdicts net n F).own ≡ filter (λ c. not (is_released net F (c, p))) (of p F.own) ++ of p (filter_map (granted_pair net F) all)
        = of-append p (filter (λ pair. not (is_released net F pair)) F.own) (filter_map (granted_pair net F) all)
        ∙ ap (λ xs. xs ++ of p (filter_map (granted_pair net F) all)) (of-filter p (λ pair. not (is_released net F pair)) F.own) in
        subst (λ (xs : List Channel). IsPath net m t xs) (sym whole) (at kept (granted-of all wired.apart))
      where
        at : IsPath net m t (filter (λ c. not (is_released net F (c, p))) (of p F.own))
            → (of p (filter_map (granted_pair net F) all) ≡ []) ⊎ ((c : Channel) × (o : Channel) × Has c all × IsGrant net F c o p × (of p (filter_map (granted_pair net F) all) ≡ o ∷ []))
            → IsPath net m t (filter (λ c. not (is_released net F (c, p))) (of p F.own) ++ of p (filter_map (granted_pair net F) all))
        at kept (inl e) = rw e (rw append-nil kept)
        at kept (inr r) = rw r.4 (path-append net built m t r.0 r.1 _ kept (last-kept net built m t (λ c. not (is_released net F (c, p))) r.0 (of p F.own) (grant-last r.0 r.1 r.3) (kept-waiting r.0 r.1 r.3)) r.3.allowed)
