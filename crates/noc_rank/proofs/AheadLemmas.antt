-- The least mark ahead of each channel.
use Rattle.std.proofs.Common.{◌≡◌, ◌≢◌, ℕ, ◌+◌, ◌*◌, ◌/◌, ◌%◌, ◌<◌, ◌≤◌, Bool, true, false, List, Option, Some, None, get_or, set, length, refl, sym, subst, ap, ◌∙◌, arith, inl, inr}
use Rattle.std.specs.Prelude.{◌⊎◌, is_some, IsTrue, if◌then◌else◌}
use Rattle.std.proofs.Math.Nat.{mod-lt, mul_assoc}
use Rattle.std.proofs.lemmas.Bool.{cases_lt, cases_eq, false≢true, lt-ltb}
use Rattle.std.proofs.lemmas.List.{length-set, get_or-set_same, get_or-set_other}
use Rattle.std.proofs.lemmas.Option.{none-some, some_pair_parts}
use Rattle.noc_packet.specs.Set.{has_bit}
use Rattle.noc_topo.specs.Shape.{Grid, IsLinkBack, nodes, local_port, neighbour, distance}
use Rattle.noc_topo.proofs.DistanceLemmas.{distance-bound}
use Rattle.noc_topo.proofs.LinkLemmas.{link_back, neighbour-range}
use Rattle.noc_route.specs.Channel.{Channel, Link}
use Rattle.noc_route.specs.Ranks.{Ranking, LeadsTo, direct, through, is_port_channel, rank_count, rank_index, rank_at}
use Rattle.noc_route.specs.Routes.{Routes, set_at, permits, IsRelation}
use Rattle.noc_route.proofs.PermitsLemmas.{PermitsLink-from_test, permits-nearer}
use Rattle.noc_route.proofs.EntryLemmas.{flat-below, flat-div, flat-mod}
use Rattle.noc_rank.specs.declared.ahead.Search.{Search}
use Rattle.noc_rank.specs.LeastAhead.{IsLeastOf, lesser, over, mark_at, IsAhead, outputs, IsValueIn, IsBefore, AreLeast, AreAllLeast}
use Rattle.noc_steps.specs.Falls.{counts_for}
use Rattle.noc_rank.proofs.BareLemmas.{link-member, member-link}
use Rattle.noc_rank.proofs.LeastLemmas.{least-same, least-none, least-either}
use Rattle.noc_rank.proofs.IndexLemmas.{is_port_channel-parts, is_port_channel-true, is_port_channel-index, rank_index-below, rank_index-same, output-place}

-- ---- the members of a set

pub output-inside : (routes : Routes) (r i : ℕ) → r < nodes routes.grid → i < outputs routes → r * outputs routes + i < rank_count routes.grid routes.vcs
output-inside routes r i here l =
    let whole : nodes routes.grid * outputs routes ≡ rank_count routes.grid routes.vcs = sym (mul_assoc (nodes routes.grid) (local_port routes.grid) routes.vcs) in
    omega (arith, whole, flat-below r (nodes routes.grid) i (outputs routes) here l)

-- one more member
pub least-member : (routes : Routes) (ranks marks least : List (Option ℕ)) (r set i : ℕ) (best value : Option ℕ) → IsLeastOf (IsValueIn routes ranks marks least r set i) best
    → value ≡ (if has_bit set i then counts_for ranks marks least (r * outputs routes + i) else None) → IsLeastOf (IsValueIn routes ranks marks least r set (i + 1)) (lesser best value)
least-member routes ranks marks least r set i best value old e = least-same _ _ (lesser best value) to from (least-either _ _ best value old (here (has_bit set i) refl))
  where
    here : (b : Bool) → has_bit set i ≡ b → IsLeastOf (λ n. (has_bit set i ≡ true) × (counts_for ranks marks least (r * outputs routes + i) ≡ Some n)) value
    here true f =
        let same : value ≡ counts_for ranks marks least (r * outputs routes + i) = e ∙ rw f refl in
        record { met = λ n g. (f, sym same ∙ g); least = λ n g. (n, same ∙ g.1, omega arith) }
    here false f =
        let same : value ≡ None = e ∙ rw f refl in
        record { met = λ n g. absurd (none-some n (sym same ∙ g)); least = λ n g. absurd (false≢true (sym f ∙ g.0)) }

    to : (n : ℕ) → IsValueIn routes ranks marks least r set i n ⊎ ((has_bit set i ≡ true) × (counts_for ranks marks least (r * outputs routes + i) ≡ Some n)) → IsValueIn routes ranks marks least r set (i + 1) n
    to n (inl v) = record { index = v.index; below = omega (arith, v.below); member = v.member; value = v.value }
    to n (inr v) = record { index = i; below = omega arith; member = v.0; value = v.1 }

    from : (n : ℕ) → IsValueIn routes ranks marks least r set (i + 1) n → IsValueIn routes ranks marks least r set i n ⊎ ((has_bit set i ≡ true) × (counts_for ranks marks least (r * outputs routes + i) ≡ Some n))
    from n v = at (cases_lt v.index i)
      where
        at : (v.index < i) ⊎ (i ≤ v.index) → IsValueIn routes ranks marks least r set i n ⊎ ((has_bit set i ≡ true) × (counts_for ranks marks least (r * outputs routes + i) ≡ Some n))
        at (inl less) = inl (record { index = v.index; below = less; member = v.member; value = v.value })
        at (inr last) =
            let same : v.index ≡ i = omega (arith, last, v.below) in
            inr (ap (has_bit set) (sym same) ∙ v.member, ap (λ x. counts_for ranks marks least (r * outputs routes + x)) (sym same) ∙ v.value)

pub least-no_member : (routes : Routes) (ranks marks least : List (Option ℕ)) (r set : ℕ) → IsLeastOf (IsValueIn routes ranks marks least r set 0) None
least-no_member routes ranks marks least r set = least-none _ (λ n v. omega (arith, v.below))

module _ (s : Search) (built : IsRelation s.relation.now) where
  abbrev routes : Routes
  routes = s.relation.now

  abbrev ranks : List (Option ℕ)
  ranks = s.ranks.now

  abbrev marks : List (Option ℕ)
  marks = s.marks.now

  abbrev m : ℕ
  m = s.class

  abbrev t : ℕ
  t = s.dst

  abbrev g : Grid
  g = routes.grid

  abbrev k : Ranking
  k = over routes ranks

  abbrev Ahead : ℕ → ℕ → ℕ → ℕ → Type 0
  Ahead = IsAhead routes ranks marks m t

  abbrev Permits : ℕ → Channel → ℕ → Channel → Type 0
  Permits m c t o = IsTrue (permits routes m c t o)

  -- the rank of an output channel, by its index
  index-place : (r i : ℕ) → rank_index g routes.vcs r (i / routes.vcs) (i % routes.vcs) ≡ r * outputs routes + i
  index-place r i =
      let whole : r * local_port g * routes.vcs ≡ r * outputs routes = mul_assoc r (local_port g) routes.vcs in
      omega (arith, whole, output-place g routes.vcs r i built.table.some_vcs)

  index-known : (r i : ℕ) → r < nodes g → i < outputs routes → is_port_channel g routes.vcs r (i / routes.vcs) (i % routes.vcs) ≡ true
  index-known r i here l = is_port_channel-index g routes.vcs r i built.table.some_vcs here l

  index-rank : (r i : ℕ) → r < nodes g → i < outputs routes → rank_at k r (i / routes.vcs) (i % routes.vcs) ≡ get_or ranks (r * outputs routes + i) None
  index-rank r i here l = let there = index-known r i here l in rw there refl ∙ ap (λ n. get_or ranks n None) (index-place r i)

  index-mark : (r i : ℕ) (xs : List (Option ℕ)) → mark_at routes xs r (i / routes.vcs) (i % routes.vcs) ≡ get_or xs (r * outputs routes + i) None
  index-mark r i xs = ap (λ n. get_or xs n None) (index-place r i)

  link-parts : (x p v a q w : ℕ) → Link x p v ≡ Link a q w → (x ≡ a) × (p ≡ q) × (v ≡ w)
  link-parts x p v a q w e = (cc, cc, cc)

  -- ---- one step

  -- a channel a, o, w that arrives at router b, where the list has the least marks ahead of all
  -- channels that arrive nearer
  module _ (a o w b q : ℕ) (sent : a < nodes g) (vc : w < routes.vcs) (link : neighbour g a o ≡ Some (b, q)) (least : List (Option ℕ))
      (ahead : (x p v r s : ℕ) → is_port_channel g routes.vcs x p v ≡ true → neighbour g x p ≡ Some (r, s) → distance g r t < distance g b t → IsLeastOf (Ahead x p v) (mark_at routes least x p v)) where
    abbrev bits : ℕ
    bits = set_at routes m b q w t

    here : b < nodes g
    here = (link_back g a o b q built.table.grid sent link).node

    -- a member is permitted, and an adaptive one has the least mark ahead of it
    permitted : (i : ℕ) → i < outputs routes → has_bit bits i ≡ true → permits routes m (Link a o w) t (Link b (i / routes.vcs) (i % routes.vcs)) ≡ true
    permitted i l has = member-link routes built m (Link a o w) t b q w i (lt-ltb a (nodes g) sent) link refl l has

    next-least : (x p v : ℕ) → permits routes m (Link a o w) t (Link x p v) ≡ true → IsLeastOf (Ahead x p v) (mark_at routes least x p v)
    next-least x p v h =
        let e = PermitsLink-from_test routes m (Link a o w) t x p v h in
        let hop = permits-nearer routes built m (Link a o w) t x p v h in
        let same : b ≡ x = (some_pair_parts b x q e.in_port (sym link ∙ e.arrives)).0 in
        let known : is_port_channel g routes.vcs x p v ≡ true = is_port_channel-true g routes.vcs x p v (subst (λ n. n < nodes g) same here) e.port e.vc in
        let near : distance g x t ≡ distance g b t = ap (λ n. distance g n t) (sym same) in
        ahead x p v hop.to.0 hop.to.1 known hop.link (omega (arith, near, hop.nearer))

    value-ahead : (n : ℕ) → IsValueIn routes ranks marks least b bits (outputs routes) n → Ahead a o w n
    value-ahead n value = at (get_or ranks (b * outputs routes + value.index) None) refl
      where
        h : permits routes m (Link a o w) t (Link b (value.index / routes.vcs) (value.index % routes.vcs)) ≡ true
        h = permitted value.index value.below value.member

        at : (x : Option ℕ) → get_or ranks (b * outputs routes + value.index) None ≡ x → Ahead a o w n
        at (Some l) e =
            let mark : get_or marks (b * outputs routes + value.index) None ≡ Some n = sym (rw e refl) ∙ value.value in
            record {
              router = b;
              port = value.index / routes.vcs;
              vc = value.index % routes.vcs;
              rank = l;
              leads = direct h;
              ranked = index-rank b value.index here value.below ∙ e;
              mark = index-mark b value.index marks ∙ mark;
            }
        at None e =
            let mark : get_or least (b * outputs routes + value.index) None ≡ Some n = sym (rw e refl) ∙ value.value in
            let next = (next-least b (value.index / routes.vcs) (value.index % routes.vcs) h).met n (index-mark b value.index least ∙ mark) in
            record {
              router = next.router;
              port = next.port;
              vc = next.vc;
              rank = next.rank;
              leads = through h (index-rank b value.index here value.below ∙ e) next.leads;
              ranked = next.ranked;
              mark = next.mark;
            }

    -- what is ahead is not less than what some member counts for
    ahead-value : (n : ℕ) → Ahead a o w n → (l : ℕ) × IsValueIn routes ranks marks least b bits (outputs routes) l × (l ≤ n)
    ahead-value n h = at (Link h.router h.port h.vc) refl h.leads
      where
        index-of : (x p v : ℕ) → permits routes m (Link a o w) t (Link x p v) ≡ true
            → (b ≡ x) × (p * routes.vcs + v < outputs routes) × (has_bit bits (p * routes.vcs + v) ≡ true) × ((p * routes.vcs + v) / routes.vcs ≡ p) × ((p * routes.vcs + v) % routes.vcs ≡ v)
        index-of x p v e =
            let f = PermitsLink-from_test routes m (Link a o w) t x p v e in
            let same : b ≡ x = (some_pair_parts b x q f.in_port (sym link ∙ f.arrives)).0 in
            let arrives : neighbour g a o ≡ Some (x, q) = link ∙ ap (λ n. Some (n, q)) same in
            let has : has_bit (set_at routes m x q w t) (p * routes.vcs + v) ≡ true = link-member routes built m (Link a o w) t x p v q w e arrives refl in
            (same, flat-below p (local_port g) v routes.vcs f.port f.vc, ap (λ n. has_bit (set_at routes m n q w t) (p * routes.vcs + v)) same ∙ has, flat-div p routes.vcs v f.vc, flat-mod p routes.vcs v f.vc)

        -- the place of the channel of an index
        listed : (x p v : ℕ) (xs : List (Option ℕ)) → b ≡ x → (p * routes.vcs + v) / routes.vcs ≡ p → (p * routes.vcs + v) % routes.vcs ≡ v
            → get_or xs (b * outputs routes + (p * routes.vcs + v)) None ≡ mark_at routes xs x p v
        listed x p v xs same port number =
            sym (index-mark b (p * routes.vcs + v) xs) ∙ ap (λ n. mark_at routes xs b n ((p * routes.vcs + v) % routes.vcs)) port ∙ ap (λ n. mark_at routes xs b p n) number ∙ ap (λ n. mark_at routes xs n p v) same

        ranked-at : (x p v : ℕ) → b ≡ x → p * routes.vcs + v < outputs routes → (p * routes.vcs + v) / routes.vcs ≡ p → (p * routes.vcs + v) % routes.vcs ≡ v
            → get_or ranks (b * outputs routes + (p * routes.vcs + v)) None ≡ rank_at k x p v
        ranked-at x p v same l port number =
            sym (index-rank b (p * routes.vcs + v) here l) ∙ ap (λ n. rank_at k b n ((p * routes.vcs + v) % routes.vcs)) port ∙ ap (λ n. rank_at k b p n) number ∙ ap (λ n. rank_at k n p v) same

        at : (e : Channel) → e ≡ Link h.router h.port h.vc → LeadsTo Permits (rank_at k) m t (Link a o w) e → (l : ℕ) × IsValueIn routes ranks marks least b bits (outputs routes) l × (l ≤ n)
        at e same (direct {r = x} {p = p} {v = v} f) =
            let i = index-of x p v f in
            let parts : (x ≡ h.router) × (p ≡ h.port) × (v ≡ h.vc) = link-parts x p v h.router h.port h.vc same in
            let rank : get_or ranks (b * outputs routes + (p * routes.vcs + v)) None ≡ Some h.rank
            = ranked-at x p v i.0 i.1 i.3 i.4 ∙ ap (λ y. rank_at k y p v) parts.0 ∙ ap (λ y. rank_at k h.router y v) parts.1 ∙ ap (λ y. rank_at k h.router h.port y) parts.2 ∙ h.ranked in
            let mark : get_or marks (b * outputs routes + (p * routes.vcs + v)) None ≡ Some n
            = listed x p v marks i.0 i.3 i.4 ∙ ap (λ y. mark_at routes marks y p v) parts.0 ∙ ap (λ y. mark_at routes marks h.router y v) parts.1 ∙ ap (λ y. mark_at routes marks h.router h.port y) parts.2 ∙ h.mark in
            (n, record { index = p * routes.vcs + v; below = i.1; member = i.2; value = rw rank mark }, omega arith)
        at e same (through {r = x} {p = p} {v = v} f none rest) =
            let i = index-of x p v f in
            let to : LeadsTo Permits (rank_at k) m t (Link x p v) (Link h.router h.port h.vc) = subst (LeadsTo Permits (rank_at k) m t (Link x p v)) same rest in
            let next : Ahead x p v n = record { router = h.router; port = h.port; vc = h.vc; rank = h.rank; leads = to; ranked = h.ranked; mark = h.mark } in
            let low = (next-least x p v f).least n next in
            let rank : get_or ranks (b * outputs routes + (p * routes.vcs + v)) None ≡ None = ranked-at x p v i.0 i.1 i.3 i.4 ∙ none in
            let mark : get_or least (b * outputs routes + (p * routes.vcs + v)) None ≡ Some low.0 = listed x p v least i.0 i.3 i.4 ∙ low.1 in
            (low.0, record { index = p * routes.vcs + v; below = i.1; member = i.2; value = rw rank mark }, low.2)

    -- so the least of what the members count for is the least mark ahead
    pub step-least : (o' : Option ℕ) → IsLeastOf (IsValueIn routes ranks marks least b bits (outputs routes)) o' → IsLeastOf (Ahead a o w) o'
    step-least o' h = record {
      met = λ n e. value-ahead n (h.met n e);
      least = λ n there.
          let v = ahead-value n there in
          let l = h.least v.0 v.1 in
          (l.0, l.1, omega (arith, l.2, v.2));
    }

  -- ---- the list

  -- one more channel
  pub least-more : (b i a o : ℕ) (least : List (Option ℕ)) (value : Option ℕ) → b < nodes g → i < outputs routes → neighbour g b (i / routes.vcs) ≡ Some (a, o)
      → AreLeast routes ranks marks m t (distance g b t) b i least → IsLeastOf (IsValueIn routes ranks marks least b (set_at routes m b (i / routes.vcs) (i % routes.vcs) t) (outputs routes)) value
      → AreLeast routes ranks marks m t (distance g b t) b (i + 1) (set least (rank_index g routes.vcs a o (i % routes.vcs)) value)
  least-more b i a o least value here l link old new = record { long = length-set least _ value ∙ old.long; each = each }
    where
      back : IsLinkBack g b (i / routes.vcs) a o
      back = link_back g b (i / routes.vcs) a o built.table.grid here link

      vc : i % routes.vcs < routes.vcs
      vc = mod-lt i built.table.some_vcs

      mine : is_port_channel g routes.vcs a o (i % routes.vcs) ≡ true
      mine = is_port_channel-true g routes.vcs a o (i % routes.vcs) back.node (neighbour-range g b (i / routes.vcs) (Some (a, o)) built.table.grid here link).1 vc

      whole : IsLeastOf (Ahead a o (i % routes.vcs)) value
      whole = step-least a o (i % routes.vcs) b (i / routes.vcs) back.node vc back.back least (λ x p v r s known to near. old.each x p v r s known to (inl near)) value new

      -- the channel of this input channel
      same-channel : (x p v r s : ℕ) → is_port_channel g routes.vcs x p v ≡ true → neighbour g x p ≡ Some (r, s) → r ≡ b → s * routes.vcs + v ≡ i → (x ≡ a) × (p ≡ o) × (v ≡ i % routes.vcs)
      same-channel x p v r s known to router index =
          let parts = is_port_channel-parts g routes.vcs x p v known in
          let there = link_back g x p r s built.table.grid parts.0 to in
          let port : s ≡ i / routes.vcs = sym (flat-div s routes.vcs v parts.2) ∙ ap (λ n. n / routes.vcs) index in
          let number : v ≡ i % routes.vcs = sym (flat-mod s routes.vcs v parts.2) ∙ ap (λ n. n % routes.vcs) index in
          let from : neighbour g b (i / routes.vcs) ≡ Some (x, p) = ap (λ n. neighbour g n (i / routes.vcs)) (sym router) ∙ ap (neighbour g r) (sym port) ∙ there.back in
          let both = some_pair_parts x a p o (sym from ∙ link) in
          (both.0, both.1, number)

      each : (x p v r s : ℕ) → is_port_channel g routes.vcs x p v ≡ true → neighbour g x p ≡ Some (r, s) → IsBefore routes t (distance g b t) b (i + 1) r (s * routes.vcs + v)
          → IsLeastOf (Ahead x p v) (mark_at routes (set least (rank_index g routes.vcs a o (i % routes.vcs)) value) x p v)
      each x p v r s known to before = at (cases_eq (rank_index g routes.vcs x p v) (rank_index g routes.vcs a o (i % routes.vcs)))
        where
          kept : rank_index g routes.vcs x p v ≢ rank_index g routes.vcs a o (i % routes.vcs) → IsBefore routes t (distance g b t) b (i + 1) r (s * routes.vcs + v) → IsBefore routes t (distance g b t) b i r (s * routes.vcs + v)
          kept other (inl near) = inl near
          kept other (inr (inl low)) = inr (inl low)
          kept other (inr (inr mine')) = more (cases_lt (s * routes.vcs + v) i)
            where
              more : (s * routes.vcs + v < i) ⊎ (i ≤ s * routes.vcs + v) → IsBefore routes t (distance g b t) b i r (s * routes.vcs + v)
              more (inl less) = inr (inr (mine'.0, less))
              more (inr last) =
                  let is = same-channel x p v r s known to mine'.0 (omega (arith, last, mine'.1)) in
                  absurd (other (rw (is.0, is.1, is.2) refl))

          at : (rank_index g routes.vcs x p v ≡ rank_index g routes.vcs a o (i % routes.vcs)) ⊎ (rank_index g routes.vcs x p v ≢ rank_index g routes.vcs a o (i % routes.vcs))
              → IsLeastOf (Ahead x p v) (mark_at routes (set least (rank_index g routes.vcs a o (i % routes.vcs)) value) x p v)
          at (inl e) =
              let is = rank_index-same g routes.vcs x p v a o (i % routes.vcs) known mine e in
              let below : rank_index g routes.vcs a o (i % routes.vcs) < length least = omega (arith, old.long, rank_index-below g routes.vcs a o (i % routes.vcs) mine) in
              let mark : mark_at routes (set least (rank_index g routes.vcs a o (i % routes.vcs)) value) a o (i % routes.vcs) ≡ value = get_or-set_same least (rank_index g routes.vcs a o (i % routes.vcs)) value None below in
              let P : ℕ → ℕ → ℕ → Type 0 = λ x p v. IsLeastOf (Ahead x p v) (mark_at routes (set least (rank_index g routes.vcs a o (i % routes.vcs)) value) x p v) in
              let there : P a o (i % routes.vcs) = subst (IsLeastOf (Ahead a o (i % routes.vcs))) (sym mark) whole in
              subst (λ y. P y p v) (sym is.0) (subst (λ y. P a y v) (sym is.1) (subst (P a o) (sym is.2) there))
          at (inr other) =
              subst (IsLeastOf (Ahead x p v)) (sym (get_or-set_other least (rank_index g routes.vcs a o (i % routes.vcs)) (rank_index g routes.vcs x p v) value None other))
              (old.each x p v r s known to (kept other before))

  -- the order of channels in other words
  pub least-onward : (d b i e c j : ℕ) (least : List (Option ℕ)) → ((r q w : ℕ) → r < nodes g → q < local_port g → w < routes.vcs → is_some (neighbour g r q) ≡ true → IsBefore routes t e c j r (q * routes.vcs + w) → IsBefore routes t d b i r (q * routes.vcs + w))
      → AreLeast routes ranks marks m t d b i least → AreLeast routes ranks marks m t e c j least
  least-onward d b i e c j least back old = record {
    long = old.long;
    each = λ x p v r s known to before.
        let parts = is_port_channel-parts g routes.vcs x p v known in
        let range = neighbour-range g x p (Some (r, s)) built.table.grid parts.0 to in
        let there = link_back g x p r s built.table.grid parts.0 to in
        old.each x p v r s known to (back r s v range.0 range.1 parts.2 (ap is_some there.back) before);
  }

  -- an input channel without a link
  pub least-none_here : (d b i : ℕ) (least : List (Option ℕ)) → neighbour g b (i / routes.vcs) ≡ None → AreLeast routes ranks marks m t d b i least → AreLeast routes ranks marks m t d b (i + 1) least
  least-none_here d b i least none = least-onward d b i d b (i + 1) least back
    where
      back : (r q w : ℕ) → r < nodes g → q < local_port g → w < routes.vcs → is_some (neighbour g r q) ≡ true → IsBefore routes t d b (i + 1) r (q * routes.vcs + w) → IsBefore routes t d b i r (q * routes.vcs + w)
      back r q w a c e some (inl near) = inl near
      back r q w a c e some (inr (inl low)) = inr (inl low)
      back r q w a c e some (inr (inr mine)) = at (cases_lt (q * routes.vcs + w) i)
        where
          at : (q * routes.vcs + w < i) ⊎ (i ≤ q * routes.vcs + w) → IsBefore routes t d b i r (q * routes.vcs + w)
          at (inl less) = inr (inr (mine.0, less))
          at (inr last) =
              let index : q * routes.vcs + w ≡ i = omega (arith, last, mine.1) in
              let port : i / routes.vcs ≡ q = ap (λ n. n / routes.vcs) (sym index) ∙ flat-div q routes.vcs w e in
              absurd (false≢true (sym (ap is_some (ap (λ n. neighbour g n q) mine.0 ∙ ap (neighbour g b) (sym port) ∙ none)) ∙ some))

  -- after all input channels of a router at this distance
  pub least-next_router : (d b : ℕ) (least : List (Option ℕ)) → AreLeast routes ranks marks m t d b (outputs routes) least → AreLeast routes ranks marks m t d (b + 1) 0 least
  least-next_router d b least = least-onward d b (outputs routes) d (b + 1) 0 least back
    where
      back : (r q w : ℕ) → r < nodes g → q < local_port g → w < routes.vcs → is_some (neighbour g r q) ≡ true → IsBefore routes t d (b + 1) 0 r (q * routes.vcs + w) → IsBefore routes t d b (outputs routes) r (q * routes.vcs + w)
      back r q w a c e some (inl near) = inl near
      back r q w a c e some (inr (inr mine)) = absurd (omega (arith, mine.1))
      back r q w a c e some (inr (inl low)) = at (cases_lt r b)
        where
          at : (r < b) ⊎ (b ≤ r) → IsBefore routes t d b (outputs routes) r (q * routes.vcs + w)
          at (inl less) = inr (inl (low.0, less))
          at (inr last) = inr (inr (omega (arith, last, low.1), flat-below q (local_port g) w routes.vcs c e))

  -- after a router at another distance
  pub least-other_router : (d b : ℕ) (least : List (Option ℕ)) → distance g b t ≢ d → AreLeast routes ranks marks m t d b 0 least → AreLeast routes ranks marks m t d (b + 1) 0 least
  least-other_router d b least other = least-onward d b 0 d (b + 1) 0 least back
    where
      back : (r q w : ℕ) → r < nodes g → q < local_port g → w < routes.vcs → is_some (neighbour g r q) ≡ true → IsBefore routes t d (b + 1) 0 r (q * routes.vcs + w) → IsBefore routes t d b 0 r (q * routes.vcs + w)
      back r q w a c e some (inl near) = inl near
      back r q w a c e some (inr (inr mine)) = absurd (omega (arith, mine.1))
      back r q w a c e some (inr (inl low)) = at (cases_lt r b)
        where
          at : (r < b) ⊎ (b ≤ r) → IsBefore routes t d b 0 r (q * routes.vcs + w)
          at (inl less) = inr (inl (low.0, less))
          at (inr last) = let same : b ≡ r = omega (arith, last, low.1) in absurd (other (ap (λ n. distance g n t) same ∙ low.0))

  -- after all routers
  pub least-next_distance : (d : ℕ) (least : List (Option ℕ)) → AreLeast routes ranks marks m t d (nodes g) 0 least → AreLeast routes ranks marks m t (d + 1) 0 0 least
  least-next_distance d least = least-onward d (nodes g) 0 (d + 1) 0 0 least back
    where
      back : (r q w : ℕ) → r < nodes g → q < local_port g → w < routes.vcs → is_some (neighbour g r q) ≡ true → IsBefore routes t (d + 1) 0 0 r (q * routes.vcs + w) → IsBefore routes t d (nodes g) 0 r (q * routes.vcs + w)
      back r q w a c e some (inl near) = at (cases_lt (distance g r t) d)
        where
          at : (distance g r t < d) ⊎ (d ≤ distance g r t) → IsBefore routes t d (nodes g) 0 r (q * routes.vcs + w)
          at (inl less) = inl less
          at (inr last) = inr (inl (omega (arith, last, near), a))
      back r q w a c e some (inr (inl low)) = absurd (omega (arith, low.1))
      back r q w a c e some (inr (inr mine)) = absurd (omega (arith, mine.1))

  -- before all, and after all
  pub least-start : (least : List (Option ℕ)) → length least ≡ rank_count g routes.vcs → AreLeast routes ranks marks m t 0 0 0 least
  least-start least long = record { long = long; each = λ x p v r s known to before. absurd (never r (s * routes.vcs + v) before) }
    where
      never : (r j : ℕ) → IsBefore routes t 0 0 0 r j → ⊥
      never r j (inl near) = omega (arith, near)
      never r j (inr (inl low)) = omega (arith, low.1)
      never r j (inr (inr mine)) = omega (arith, mine.1)

  pub least-end : (least : List (Option ℕ)) → AreLeast routes ranks marks m t 31 0 0 least → AreAllLeast routes ranks marks m t least
  least-end least h = record { long = h.long; each = λ x p v r s known to. h.each x p v r s known to (inl (omega (arith, distance-bound g r t built.table.grid))) }
