-- The first descent.
use Rattle.std.proofs.Common.{◌≡◌, ℕ, ◌+◌, ◌*◌, ◌/◌, ◌%◌, ◌<◌, ◌≤◌, Bool, true, false, List, [], ◌∷◌, Option, Some, None, get_or, length, refl, sym, subst, ap, ◌∙◌, arith, inl, inr}
use Rattle.std.specs.Prelude.{◌⊎◌, is_some, IsTrue, IfNone, IfSome, MatchOption}
use Rattle.std.proofs.Math.Nat.{zero-mul}
use Rattle.std.proofs.lemmas.Bool.{cases_lt, and_parts, false≢true, leb-true, le-leb}
use Rattle.std.proofs.lemmas.Option.{none-some, same_Some}
use Rattle.noc_topo.specs.Shape.{nodes, local_port, neighbour}
use Rattle.noc_route.specs.Channel.{Channel, Link}
use Rattle.noc_route.specs.Order.{numbers_before}
use Rattle.noc_route.specs.Ranks.{Ranking, LeadsTo, direct, through, is_port_channel, rank_count, rank_index, rank_at}
use Rattle.noc_route.specs.Routes.{Routes, permits, IsRelation}
use Rattle.noc_route.proofs.BuiltLemmas.{set_at-member}
use Rattle.noc_route.proofs.PermitsLemmas.{PermitsLink-from_test}
use Rattle.noc_rank.specs.LeastAhead.{IsLeastOf, over, mark_at, IsAhead, AreAllLeast}
use Rattle.noc_rank.specs.NotRisingTo.{channel_at, IsLinkIndex, AreReal, mark_below, BeginsDescent, IsStartBy, IsAheadAt, IsOver}
use Rattle.noc_steps.specs.Falls.{falls}
use Rattle.noc_rank.specs.Faults.{IsDescent, IsFirstDescent, HasNoDescent, pair_numbers}
use Rattle.noc_rank.specs.declared.channel.LinkChannel.{LinkChannel}
use Rattle.noc_rank.specs.declared.ahead.RankList.{RankList}
use Rattle.noc_rank.specs.declared.descent.Descent.{Descent}
use Rattle.noc_rank.proofs.LeastLemmas.{least-same, least-none, least-one}
use Rattle.noc_rank.proofs.OverLemmas.{over-one}
use Rattle.noc_rank.proofs.IndexLemmas.{flat, flat-rises, flat-before, is_port_channel-parts, is_channel-index, is_port_channel-decoded, rank_index-again, rank_index-below, rank_index-same}

-- ---- one place of a list

later : (s n p v a b c x y z : ℕ) → ((s * n + a) * p + b) * v + c < ((s * n + x) * p + y) * v + z → (x * p + y) * v + z ≤ (a * p + b) * v + c → ⊥
later s n p v a b c x y z l m = omega (arith, l, m)

falls-parts : (a b : Option ℕ) → falls a b ≡ true → (x : ℕ) × (y : ℕ) × (a ≡ Some x) × (b ≡ Some y) × (y ≤ x)
falls-parts None b e = absurd (false≢true e)
falls-parts (Some x) None e = absurd (false≢true e)
falls-parts (Some x) (Some y) e = (x, y, refl, refl, leb-true y x e)

falls-true : (a b : Option ℕ) (x y : ℕ) → a ≡ Some x → b ≡ Some y → y ≤ x → falls a b ≡ true
falls-true a b x y e f l = rw (e, f) (le-leb y x l)

-- the first place of a list that falls
pub start-here : (ranks least : List (Option ℕ)) (n : ℕ) → n < length ranks → falls (get_or ranks n None) (get_or least n None) ≡ true
    → ((i : ℕ) → i < n → falls (get_or ranks i None) (get_or least i None) ≡ false) → IsLeastOf (BeginsDescent ranks least) (Some n)
start-here ranks least n l here none = least-one _ n (record { inside = l; falls = here }) (λ i h. at i h (cases_lt i n))
  where
    at : (i : ℕ) → BeginsDescent ranks least i → (i < n) ⊎ (n ≤ i) → n ≤ i
    at i h (inl less) = absurd (false≢true (sym (none i less) ∙ h.falls))
    at i h (inr more) = more

pub start-none : (ranks least : List (Option ℕ)) → ((i : ℕ) → i < length ranks → falls (get_or ranks i None) (get_or least i None) ≡ false) → IsLeastOf (BeginsDescent ranks least) None
start-none ranks least none = least-none _ (λ i h. false≢true (sym (none i h.inside) ∙ h.falls))

module _ (list : RankList) (built : IsRelation list.relation.now) where
  abbrev routes : Routes
  routes = list.relation.now

  abbrev ranks : List (Option ℕ)
  ranks = list.ranks.now

  abbrev long : length ranks ≡ rank_count routes.grid routes.vcs
  long = list.all

  abbrev real : AreReal routes ranks
  real = list.real

  abbrev k : Ranking
  k = over routes ranks

  abbrev Permits : ℕ → Channel → ℕ → Channel → Type 0
  Permits m c t o = IsTrue (permits routes m c t o)

  some_vcs : 0 < routes.vcs
  some_vcs = omega (arith, built.table.some_vcs)

  some_ports : 0 < local_port routes.grid
  some_ports = omega (arith, built.table.grid.some_dimensions)

  -- the rank at a place is that of the list
  listed : (r p v : ℕ) → is_port_channel routes.grid routes.vcs r p v ≡ true → rank_at k r p v ≡ get_or ranks (rank_index routes.grid routes.vcs r p v) None
  listed r p v known = rw known refl

  real-place : (r p v n : ℕ) → rank_at k r p v ≡ Some n → is_port_channel routes.grid routes.vcs r p v ≡ true
  real-place r p v n e = is_channel-index routes.grid routes.vcs r p v (real r p v n e)

  real-link : (r p v n : ℕ) → rank_at k r p v ≡ Some n → (to : ℕ × ℕ) × (neighbour routes.grid r p ≡ Some to)
  real-link r p v n e = at (neighbour routes.grid r p) refl
    where
      at : (o : Option (ℕ × ℕ)) → neighbour routes.grid r p ≡ o → (to : ℕ × ℕ) × (neighbour routes.grid r p ≡ Some to)
      at (Some to) f = (to, f)
      at None f = absurd (false≢true (sym (ap is_some f) ∙ (and_parts (is_port_channel routes.grid routes.vcs r p v) _ (real r p v n e)).1))

  -- the channel at a place
  decoded : (n : ℕ) → n < rank_count routes.grid routes.vcs → let c = channel_at routes n in (is_port_channel routes.grid routes.vcs c.router c.port c.vc ≡ true) × (rank_index routes.grid routes.vcs c.router c.port c.vc ≡ n)
  decoded n l = (is_port_channel-decoded routes.grid routes.vcs n some_vcs some_ports l, rank_index-again routes.grid routes.vcs n some_vcs some_ports)

  -- ---- starts, for one class and one destination

  pub start-by : (m t : ℕ) (least : List (Option ℕ)) (o : Option ℕ) → AreAllLeast routes ranks ranks m t least → IsLeastOf (BeginsDescent ranks least) o → IsLeastOf (IsStartBy routes ranks m t) o
  start-by m t least o all = least-same (BeginsDescent ranks least) (IsStartBy routes ranks m t) o to from
    where
      to : (n : ℕ) → BeginsDescent ranks least n → IsStartBy routes ranks m t n
      to n h =
          let f = falls-parts (get_or ranks n None) (get_or least n None) h.falls in
          let d = decoded n (omega (arith, h.inside, long)) in
          let c = channel_at routes n in
          let ranked : rank_at k c.router c.port c.vc ≡ Some f.0 = listed c.router c.port c.vc d.0 ∙ ap (λ x. get_or ranks x None) d.1 ∙ f.2 in
          let link = real-link c.router c.port c.vc f.0 ranked in
          let low = all.each c.router c.port c.vc link.0.0 link.0.1 d.0 link.1 in
          record {
            router = c.router;
            port = c.port;
            vc = c.vc;
            known = d.0;
            index = d.1;
            before = f.0;
            ranked = ranked;
            after = f.1;
            ahead = low.met f.1 (ap (λ x. get_or least x None) d.1 ∙ f.3);
            falls = f.4;
          }

      from : (n : ℕ) → IsStartBy routes ranks m t n → BeginsDescent ranks least n
      from n h =
          let link = real-link h.router h.port h.vc h.before h.ranked in
          let low = (all.each h.router h.port h.vc link.0.0 link.0.1 h.known link.1).least h.after h.ahead in
          record {
            inside = omega (arith, long, rank_index-below routes.grid routes.vcs h.router h.port h.vc h.known, h.index);
            falls = falls-true (get_or ranks n None) (get_or least n None) h.before low.0 (ap (λ x. get_or ranks x None) (sym h.index) ∙ sym (listed h.router h.port h.vc h.known) ∙ h.ranked)
                (ap (λ x. get_or least x None) (sym h.index) ∙ low.1) (omega (arith, low.2, h.falls));
          }

  -- ---- the first descent

  -- what is ahead of a channel with a mark that is a rank
  rank-mark : (m t r p v n : ℕ) → (h : IsAhead routes ranks ranks m t r p v n) → n ≡ h.rank
  rank-mark m t r p v n h = same_Some n h.rank (sym h.mark ∙ sym (listed h.router h.port h.vc (real-place h.router h.port h.vc h.rank h.ranked)) ∙ h.ranked)

  -- a class and a destination that lead anywhere exist
  leads-known : (m t : ℕ) (c e : Channel) → LeadsTo Permits (rank_at k) m t c e → (m < routes.classes) × (t < nodes routes.grid)
  leads-known m t c (Link r p v) (direct h) =
      let e = PermitsLink-from_test routes m c t r p v h in
      let there = (set_at-member routes m r e.in_port _ t (p * routes.vcs + v) e.member).0 in
      (there.place.class, there.place.dst)
  leads-known m t c e (through {r = r} {p = p} {v = v} h none rest) =
      let f = PermitsLink-from_test routes m c t r p v h in
      let there = (set_at-member routes m r f.in_port _ t (p * routes.vcs + v) f.member).0 in
      (there.place.class, there.place.dst)

  abbrev place : LinkChannel → ℕ
  place c = rank_index routes.grid routes.vcs c.router c.port c.vc

  -- the first channel of a descent is a start
  descent-start : (e o : LinkChannel) (x y : ℕ) → IsDescent routes k e o x y → IsOver routes (IsStartBy routes ranks) (place e)
  descent-start e o x y h =
      let known = leads-known h.class h.dst _ _ h.leads in
      let mine = real-place e.router e.port e.vc x h.before_is in
      let other = real-place o.router o.port o.vc y h.after_is in
      over-one routes (IsStartBy routes ranks) h.class h.dst (place e) known.0 known.1 (record {
        router = e.router;
        port = e.port;
        vc = e.vc;
        known = mine;
        index = refl;
        before = x;
        ranked = h.before_is;
        after = y;
        ahead = record { router = o.router; port = o.port; vc = o.vc; rank = y; leads = h.leads; ranked = h.after_is; mark = sym (listed o.router o.port o.vc other) ∙ h.after_is };
        falls = h.falls;
      })

  pub no-start : IsLeastOf (IsOver routes (IsStartBy routes ranks)) None → HasNoDescent routes k
  no-start none e o x y h = let l = none.least (place e) (descent-start e o x y h) in none-some l.0 l.1

  -- ---- from a start

  module _ (start : ℕ) (first : IsLeastOf (IsOver routes (IsStartBy routes ranks)) (Some start)) (marks : List (Option ℕ))
      (marked : (i : ℕ) → i < length ranks → get_or marks i None ≡ mark_below ranks start i) where
    abbrev from : LinkChannel
    from = channel_at routes start

    by : IsOver routes (IsStartBy routes ranks) start
    by = first.met start refl

    -- it is the place of its channel, which has a rank
    inside : start < rank_count routes.grid routes.vcs
    inside = let h = by.holds in omega (arith, h.index, rank_index-below routes.grid routes.vcs h.router h.port h.vc h.known)

    from-place : (r p v : ℕ) → is_port_channel routes.grid routes.vcs r p v ≡ true → rank_index routes.grid routes.vcs r p v ≡ start → (r ≡ from.router) × (p ≡ from.port) × (v ≡ from.vc)
    from-place r p v known e = let d = decoded start inside in rank_index-same routes.grid routes.vcs r p v from.router from.port from.vc known d.0 (e ∙ sym d.1)

    pub start-rank : (x : ℕ) × (rank_at k from.router from.port from.vc ≡ Some x) × (get_or ranks start None ≡ Some x)
    start-rank =
        let h = by.holds in
        let is = from-place h.router h.port h.vc h.known h.index in
        let d = decoded start inside in
        let ranked : rank_at k from.router from.port from.vc ≡ Some h.before = ap (λ y. rank_at k y from.port from.vc) (sym is.0) ∙ ap (λ y. rank_at k h.router y from.vc) (sym is.1) ∙ ap (λ y. rank_at k h.router h.port y) (sym is.2) ∙ h.ranked in
        (h.before, ranked, ap (λ n. get_or ranks n None) (sym d.1) ∙ sym (listed from.router from.port from.vc d.0) ∙ ranked)

    pub start-link : IsLinkIndex routes start
    start-link = real from.router from.port from.vc start-rank.0 start-rank.1

    -- the mark of a channel whose rank is no greater is its place, and others have none
    mark-of : (r p v l : ℕ) → rank_at k r p v ≡ Some l → l ≤ start-rank.0 → mark_at routes marks r p v ≡ Some (rank_index routes.grid routes.vcs r p v)
    mark-of r p v l e low =
        let known = real-place r p v l e in
        let below : rank_index routes.grid routes.vcs r p v < length ranks = omega (arith, long, rank_index-below routes.grid routes.vcs r p v known) in
        let there : get_or ranks (rank_index routes.grid routes.vcs r p v) None ≡ Some l = sym (listed r p v known) ∙ e in
        let down : falls (get_or ranks start None) (get_or ranks (rank_index routes.grid routes.vcs r p v) None) ≡ true = falls-true _ _ start-rank.0 l start-rank.2 there low in
        marked (rank_index routes.grid routes.vcs r p v) below ∙ rw down refl

    of-mark : (r p v l n : ℕ) → rank_at k r p v ≡ Some l → mark_at routes marks r p v ≡ Some n → (rank_index routes.grid routes.vcs r p v ≡ n) × (l ≤ start-rank.0)
    of-mark r p v l n e mark = at (falls (get_or ranks start None) (get_or ranks (rank_index routes.grid routes.vcs r p v) None)) refl
      where
        known : is_port_channel routes.grid routes.vcs r p v ≡ true
        known = real-place r p v l e

        below : rank_index routes.grid routes.vcs r p v < length ranks
        below = omega (arith, long, rank_index-below routes.grid routes.vcs r p v known)

        there : get_or ranks (rank_index routes.grid routes.vcs r p v) None ≡ Some l
        there = sym (listed r p v known) ∙ e

        at : (b : Bool) → falls (get_or ranks start None) (get_or ranks (rank_index routes.grid routes.vcs r p v) None) ≡ b → (rank_index routes.grid routes.vcs r p v ≡ n) × (l ≤ start-rank.0)
        at true f =
            let parts = falls-parts _ _ f in
            let a : start-rank.0 ≡ parts.0 = same_Some _ _ (sym start-rank.2 ∙ parts.2) in
            let b : l ≡ parts.1 = same_Some _ _ (sym there ∙ parts.3) in
            let same : Some (rank_index routes.grid routes.vcs r p v) ≡ Some n = sym (rw f refl) ∙ sym (marked (rank_index routes.grid routes.vcs r p v) below) ∙ mark in
            (same_Some _ n same, omega (arith, a, b, parts.4))
        at false f = absurd (none-some n (sym (rw f refl) ∙ sym (marked (rank_index routes.grid routes.vcs r p v) below) ∙ mark))

    abbrev Ends : ℕ → Type 0
    Ends = IsOver routes (λ m t n. IsAheadAt routes ranks marks m t start n)

    -- the second channel of a descent from the start is an end
    descent-end : (o : LinkChannel) (x y : ℕ) → IsDescent routes k from o x y → Ends (place o)
    descent-end o x y h =
        let known = leads-known h.class h.dst _ _ h.leads in
        let same : x ≡ start-rank.0 = same_Some x start-rank.0 (sym h.before_is ∙ start-rank.1) in
        over-one routes (λ m t n. IsAheadAt routes ranks marks m t start n) h.class h.dst (place o) known.0 known.1
        (record { router = o.router; port = o.port; vc = o.vc; rank = y; leads = h.leads; ranked = h.after_is; mark = mark-of o.router o.port o.vc y h.after_is (omega (arith, h.falls, same)) })

    -- there is a descent from the start
    pub some-end : IsLeastOf Ends None → ⊥
    some-end none =
        let h = by.holds in
        let is = from-place h.router h.port h.vc h.known h.index in
        let a = h.ahead in
        let low : a.rank ≤ start-rank.0 = omega (arith, h.falls, rank-mark _ _ h.router h.port h.vc h.after a, same_Some h.before start-rank.0 (sym h.ranked ∙ ap (λ y. rank_at k y h.port h.vc) is.0 ∙ ap (λ y. rank_at k from.router y h.vc) is.1 ∙ ap (λ y. rank_at k from.router from.port y) is.2 ∙ start-rank.1)) in
        let L : ℕ → ℕ → ℕ → Type 0 = λ r p v. LeadsTo Permits (rank_at k) (by.number / nodes routes.grid) (by.number % nodes routes.grid) (Link r p v) (Link a.router a.port a.vc) in
        let leads : L from.router from.port from.vc = subst (λ y. L y from.port from.vc) is.0 (subst (λ y. L h.router y from.vc) is.1 (subst (L h.router h.port) is.2 a.leads)) in
        let end = none.least (rank_index routes.grid routes.vcs a.router a.port a.vc) (record {
          number = by.number;
          below = by.below;
          holds = record { router = a.router; port = a.port; vc = a.vc; rank = a.rank; leads = leads; ranked = a.ranked; mark = mark-of a.router a.port a.vc a.rank a.ranked low };
        }) in
        none-some end.0 end.1

    module _ (end : ℕ) (last : IsLeastOf Ends (Some end)) where
      abbrev to : LinkChannel
      to = channel_at routes end

      at-end : Ends end
      at-end = last.met end refl

      end-is : (rank_index routes.grid routes.vcs at-end.holds.router at-end.holds.port at-end.holds.vc ≡ end) × (at-end.holds.rank ≤ start-rank.0)
      end-is = let h = at-end.holds in of-mark h.router h.port h.vc h.rank end h.ranked h.mark

      end-known : is_port_channel routes.grid routes.vcs at-end.holds.router at-end.holds.port at-end.holds.vc ≡ true
      end-known = let h = at-end.holds in real-place h.router h.port h.vc h.rank h.ranked

      pub end-inside : end < rank_count routes.grid routes.vcs
      end-inside = let h = at-end.holds in omega (arith, end-is.0, rank_index-below routes.grid routes.vcs h.router h.port h.vc end-known)

      to-place : (at-end.holds.router ≡ to.router) × (at-end.holds.port ≡ to.port) × (at-end.holds.vc ≡ to.vc)
      to-place = let d = decoded end end-inside in let h = at-end.holds in rank_index-same routes.grid routes.vcs h.router h.port h.vc to.router to.port to.vc end-known d.0 (end-is.0 ∙ sym d.1)

      pub end-rank : (y : ℕ) × (rank_at k to.router to.port to.vc ≡ Some y) × (get_or ranks end None ≡ Some y) × (y ≤ start-rank.0)
      end-rank =
          let h = at-end.holds in
          let d = decoded end end-inside in
          let ranked : rank_at k to.router to.port to.vc ≡ Some h.rank
          = ap (λ y. rank_at k y to.port to.vc) (sym to-place.0) ∙ ap (λ y. rank_at k h.router y to.vc) (sym to-place.1) ∙ ap (λ y. rank_at k h.router h.port y) (sym to-place.2) ∙ h.ranked in
          (h.rank, ranked, ap (λ n. get_or ranks n None) (sym d.1) ∙ sym (listed to.router to.port to.vc d.0) ∙ ranked, end-is.1)

      descends : IsDescent routes k from to start-rank.0 end-rank.0
      descends =
          let h = at-end.holds in
          let L : ℕ → ℕ → ℕ → Type 0 = λ r p v. LeadsTo Permits (rank_at k) (at-end.number / nodes routes.grid) (at-end.number % nodes routes.grid) (Link from.router from.port from.vc) (Link r p v) in
          record {
            class = at-end.number / nodes routes.grid;
            dst = at-end.number % nodes routes.grid;
            leads = subst (λ y. L y to.port to.vc) to-place.0 (subst (λ y. L h.router y to.vc) to-place.1 (subst (L h.router h.port) to-place.2 h.leads));
            before_is = start-rank.1;
            after_is = end-rank.1;
            falls = end-rank.3;
          }

      -- no other comes before
      not-before : (a b : LinkChannel) (x y : ℕ) → IsDescent routes k a b x y → numbers_before (pair_numbers a b) (pair_numbers from to) ≡ true → ⊥
      not-before a b x y h before = at (cases_lt start (place a))
        where
          mine : is_port_channel routes.grid routes.vcs a.router a.port a.vc ≡ true
          mine = real-place a.router a.port a.vc x h.before_is

          other : is_port_channel routes.grid routes.vcs b.router b.port b.vc ≡ true
          other = real-place b.router b.port b.vc y h.after_is

          early : start ≤ place a
          early =
              let l = first.least (place a) (descent-start a b x y h) in
              let same : start ≡ l.0 = same_Some start l.0 l.1 in
              omega (arith, same, l.2)

          mine-parts : (a.router < nodes routes.grid) × (a.port < local_port routes.grid) × (a.vc < routes.vcs)
          mine-parts = is_port_channel-parts routes.grid routes.vcs a.router a.port a.vc mine

          other-parts : (b.router < nodes routes.grid) × (b.port < local_port routes.grid) × (b.vc < routes.vcs)
          other-parts = is_port_channel-parts routes.grid routes.vcs b.router b.port b.vc other

          from-parts : (from.router < nodes routes.grid) × (from.port < local_port routes.grid) × (from.vc < routes.vcs)
          from-parts = is_port_channel-parts routes.grid routes.vcs from.router from.port from.vc (decoded start inside).0

          to-parts : (to.router < nodes routes.grid) × (to.port < local_port routes.grid) × (to.vc < routes.vcs)
          to-parts = is_port_channel-parts routes.grid routes.vcs to.router to.port to.vc (decoded end end-inside).0

          less : flat (place a) (nodes routes.grid ∷ local_port routes.grid ∷ routes.vcs ∷ []) (b.router ∷ b.port ∷ b.vc ∷ []) < flat start (nodes routes.grid ∷ local_port routes.grid ∷ routes.vcs ∷ []) (to.router ∷ to.port ∷ to.vc ∷ [])
          less =
              let ks = nodes routes.grid ∷ local_port routes.grid ∷ routes.vcs ∷ nodes routes.grid ∷ local_port routes.grid ∷ routes.vcs ∷ [] in
              let l : flat 0 ks (pair_numbers a b) < flat 0 ks (pair_numbers from to)
              = flat-before 0 ks (pair_numbers a b) (pair_numbers from to)
              (mine-parts.0, (mine-parts.1, (mine-parts.2, (other-parts.0, (other-parts.1, (other-parts.2, tt))))))
              (from-parts.0, (from-parts.1, (from-parts.2, (to-parts.0, (to-parts.1, (to-parts.2, tt)))))) before in
              let first : (x : ℕ) → 0 * nodes routes.grid + x ≡ x = λ x. omega (arith, zero-mul (nodes routes.grid)) in
              let one : flat (place a) (nodes routes.grid ∷ local_port routes.grid ∷ routes.vcs ∷ []) (b.router ∷ b.port ∷ b.vc ∷ []) < flat (place from) (nodes routes.grid ∷ local_port routes.grid ∷ routes.vcs ∷ []) (to.router ∷ to.port ∷ to.vc ∷ [])
              = rw (first a.router, first from.router) at l in
              subst (λ n. flat (place a) (nodes routes.grid ∷ local_port routes.grid ∷ routes.vcs ∷ []) (b.router ∷ b.port ∷ b.vc ∷ []) < flat n (nodes routes.grid ∷ local_port routes.grid ∷ routes.vcs ∷ []) (to.router ∷ to.port ∷ to.vc ∷ [])) (decoded start inside).1 one

          at : (start < place a) ⊎ (place a ≤ start) → ⊥
          at (inl more) =
              let back = flat-rises start (place a) (nodes routes.grid ∷ local_port routes.grid ∷ routes.vcs ∷ []) (to.router ∷ to.port ∷ to.vc ∷ []) (b.router ∷ b.port ∷ b.vc ∷ [])
              (to-parts.0, (to-parts.1, (to-parts.2, tt))) (other-parts.0, (other-parts.1, (other-parts.2, tt))) more in
              omega (arith, less, back)
          at (inr most) =
              let same : place a ≡ start = omega (arith, most, early) in
              let is = from-place a.router a.port a.vc mine same in
              let moved : a ≡ from = λ i. record { router = is.0 i; port = is.1 i; vc = is.2 i } in
              let here = descent-end b x y (subst (λ c. IsDescent routes k c b x y) moved h) in
              let l = last.least (place b) here in
              let low : end ≡ l.0 = same_Some end l.0 l.1 in
              let there : flat start (nodes routes.grid ∷ local_port routes.grid ∷ routes.vcs ∷ []) (b.router ∷ b.port ∷ b.vc ∷ []) < flat start (nodes routes.grid ∷ local_port routes.grid ∷ routes.vcs ∷ []) (to.router ∷ to.port ∷ to.vc ∷ [])
              = subst (λ n. flat n (nodes routes.grid ∷ local_port routes.grid ∷ routes.vcs ∷ []) (b.router ∷ b.port ∷ b.vc ∷ []) < flat start (nodes routes.grid ∷ local_port routes.grid ∷ routes.vcs ∷ []) (to.router ∷ to.port ∷ to.vc ∷ [])) same less in
              later start (nodes routes.grid) (local_port routes.grid) routes.vcs b.router b.port b.vc to.router to.port to.vc there (omega (arith, low, l.2, (decoded end end-inside).1))

      first-is : (a b : LinkChannel) (x y : ℕ) → IsDescent routes k a b x y → (t : Bool) → numbers_before (pair_numbers a b) (pair_numbers from to) ≡ t → t ≡ false
      first-is a b x y h true e = absurd (not-before a b x y h e)
      first-is a b x y h false e = refl

      pub first-descent : IsFirstDescent routes k from to start-rank.0 end-rank.0
      first-descent = record { descent = descends; first = λ a b x y h. first-is a b x y h (numbers_before (pair_numbers a b) (pair_numbers from to)) refl }

      -- what names the two places is the first descent
      pub descent-found : (o : Option Descent) → IfNone o ((get_or ranks start None ≡ None) ⊎ (get_or ranks end None ≡ None))
          → IfSome o (λ d. (d.from ≡ from) × (d.to ≡ to) × (get_or ranks start None ≡ Some d.rank) × (get_or ranks end None ≡ Some d.next))
          → MatchOption o (HasNoDescent routes k) (λ d. IsFirstDescent routes k d.from d.to d.rank d.next)
      descent-found None (inl none) some = absurd (none-some start-rank.0 (sym none ∙ start-rank.2))
      descent-found None (inr none) some = absurd (none-some end-rank.0 (sym none ∙ end-rank.2))
      descent-found (Some d) none some =
          let rank : start-rank.0 ≡ d.rank = same_Some _ _ (sym start-rank.2 ∙ some.2) in
          let next : end-rank.0 ≡ d.next = same_Some _ _ (sym end-rank.2 ∙ some.3) in
          let F : LinkChannel → LinkChannel → ℕ → ℕ → Type 0 = IsFirstDescent routes k in
          subst (λ e. F e d.to d.rank d.next) (sym some.0) (subst (λ e. F from e d.rank d.next) (sym some.1) (subst (λ n. F from to n d.next) rank (subst (F from to start-rank.0) next first-descent)))

  pub start-inside : (start : ℕ) → IsLeastOf (IsOver routes (IsStartBy routes ranks)) (Some start) → start < length ranks
  start-inside start first = let h = (first.met start refl).holds in omega (arith, long, h.index, rank_index-below routes.grid routes.vcs h.router h.port h.vc h.known)

-- a place of a link channel is in the list
pub link-inside : (routes : Routes) → IsRelation routes → (n : ℕ) → IsLinkIndex routes n → let c = channel_at routes n in
    (is_port_channel routes.grid routes.vcs c.router c.port c.vc ≡ true) × (rank_index routes.grid routes.vcs c.router c.port c.vc ≡ n) × ((to : ℕ × ℕ) × (neighbour routes.grid c.router c.port ≡ Some to))
link-inside routes built n link =
    let c = channel_at routes n in
    (is_channel-index routes.grid routes.vcs c.router c.port c.vc link, rank_index-again routes.grid routes.vcs n (omega (arith, built.table.some_vcs)) (omega (arith, built.table.grid.some_dimensions)), at (neighbour routes.grid c.router c.port) refl)
  where
    at : (o : Option (ℕ × ℕ)) → neighbour routes.grid (channel_at routes n).router (channel_at routes n).port ≡ o → (to : ℕ × ℕ) × (neighbour routes.grid (channel_at routes n).router (channel_at routes n).port ≡ Some to)
    at (Some to) f = (to, f)
    at None f = absurd (false≢true (sym (ap is_some f) ∙ (and_parts (is_port_channel routes.grid routes.vcs (channel_at routes n).router (channel_at routes n).port (channel_at routes n).vc) _ link).1))

pub end-least : (routes : Routes) → IsRelation routes → (ranks marks : List (Option ℕ)) (m t start : ℕ) (least : List (Option ℕ)) → IsLinkIndex routes start → AreAllLeast routes ranks marks m t least
    → IsLeastOf (IsAheadAt routes ranks marks m t start) (get_or least start None)
end-least routes built ranks marks m t start least link all =
    let there = link-inside routes built start link in
    let c = channel_at routes start in
    subst (λ n. IsLeastOf (IsAheadAt routes ranks marks m t start) (get_or least n None)) there.1 (all.each c.router c.port c.vc there.2.0.0 there.2.0.1 there.0 there.2.1)

pub end-inside_list : (routes : Routes) → IsRelation routes → (start n : ℕ) → IsLinkIndex routes start → n ≡ rank_count routes.grid routes.vcs → start < n
end-inside_list routes built start n link long =
    let there = link-inside routes built start link in
    let c = channel_at routes start in
    omega (arith, long, there.1, rank_index-below routes.grid routes.vcs c.router c.port c.vc there.0)
