-- Steps that do not rise.
use Rattle.std.proofs.Common.{◌≡◌, ℕ, ◌+◌, ◌*◌, ◌/◌, ◌%◌, ◌<◌, ◌≤◌, Bool, true, false, List, [], ◌∷◌, Option, Some, None, refl, ap, sym, subst, ◌∙◌, arith, inl, inr}
use Rattle.std.specs.Prelude.{nat_lt, nat_eq, ◌&&◌, ◌⊎◌, MatchOption}
use Rattle.std.proofs.Math.Nat.{div-lt_iff_lt-mul, mul_assoc, mod-lt, zero-mul}
use Rattle.std.proofs.lemmas.Option.{none-some, some_pair_parts}
use Rattle.std.proofs.lemmas.Bool.{lt-ltb, ltb-true, leb-true, leb-false, le-leb, eq-eqb, and_parts, false≢true, cases_lt}
use Rattle.noc_packet.specs.Set.{has_bit}
use Rattle.noc_packet.proofs.SetLemmas.{has_bit-zero}
use Rattle.noc_topo.specs.Shape.{IsGrid, nodes, ports, local_port, neighbour}
use Rattle.noc_topo.proofs.LinkLemmas.{link_back}
use Rattle.noc_route.specs.Channel.{Channel, Link, arrival_of, channel_vc}
use Rattle.noc_route.specs.Order.{numbers_before, row_numbers}
use Rattle.noc_route.specs.Ranks.{Ranking, IsRising, rank_at}
use Rattle.noc_route.specs.Routes.{Routes, is_entry, set_at, is_sent, permits, permits_at}
use Rattle.noc_route.specs.declared.rule.RouteRow.{RouteRow}
use Rattle.noc_route.proofs.PermitsLemmas.{PermitsLink-from_test}
use Rattle.noc_route.proofs.EntryLemmas.{flat-below, flat-div, flat-mod}
use Rattle.noc_rank.specs.declared.rising.Fall.{Fall}
use Rattle.noc_rank.specs.Rising.{IsFall, IsFirstFall}
use Rattle.noc_rank.specs.NotRising.{rank_from, arrival_rank, is_not_above, falls_to, falls_from, falls_at, link_output_count, input_count, class_of, router_of, input_port_of, IsLeastBelow, HasNone, IsFirstFrom, HasNoFall, IsFirstAt}
use Rattle.noc_rank.proofs.IndexLemmas.{flat, flat-rises, flat-before, div-mod}

-- ---- numbers of entries

-- the class of an entry's number exists
pub class-below : (e c n p v : ℕ) → 0 < n → 0 < p → 0 < v → e < c * (n * p * v) → e / v / p / n < c
class-below e c n p v n_some p_some v_some l =
    let whole : c * (n * p * v) ≡ c * n * p * v = sym (mul_assoc c (n * p) v) ∙ ap (λ x. x * v) (sym (mul_assoc c n p)) in
    let a : e / v < c * n * p = (div-lt_iff_lt-mul {k = v} {x = e} {y = c * n * p} v_some).1 (omega (arith, whole)) in
    let b : e / v / p < c * n = (div-lt_iff_lt-mul {k = p} {x = e / v} {y = c * n} p_some).1 a in
    (div-lt_iff_lt-mul {k = n} {x = e / v / p} {y = c} n_some).1 b

-- ---- one entry

first_at-core : (routes : Routes) (k : Ranking) (e before : ℕ) (o : Option Fall) → arrival_rank k (router_of k e) (input_port_of k e) (e % k.vcs) ≡ Some before
    → MatchOption o ((t : ℕ) → t < nodes k.grid → HasNone (falls_to k (router_of k e) (set_at routes (class_of k e) (router_of k e) (input_port_of k e) (e % k.vcs) t) before) (link_output_count k))
    (IsFirstFrom routes k (class_of k e) (router_of k e) (input_port_of k e) (e % k.vcs) before)
    → MatchOption o (HasNoFall routes k e) (IsFirstAt routes k e)
first_at-core routes k e before None arrival none = λ t l j m. rw arrival (none t l j m)
first_at-core routes k e before (Some fall) arrival some = record { before = before; arrival = arrival; first = some }

pub first_at-match : (routes : Routes) (k : Ranking) (e before v p n : ℕ) (o : Option Fall) → v ≡ k.vcs → p ≡ ports k.grid → n ≡ nodes k.grid
    → arrival_rank k (e / v / p % n) (e / v % p) (e % v) ≡ Some before
    → MatchOption o ((t : ℕ) → t < nodes k.grid → HasNone (falls_to k (e / v / p % n) (set_at routes (e / v / p / n) (e / v / p % n) (e / v % p) (e % v) t) before) (link_output_count k))
    (IsFirstFrom routes k (e / v / p / n) (e / v / p % n) (e / v % p) (e % v) before)
    → MatchOption o (HasNoFall routes k e) (IsFirstAt routes k e)
first_at-match routes k e before v p n o a b c =
    let P : ℕ → ℕ → ℕ → Type 0 = λ v p n.
    arrival_rank k (e / v / p % n) (e / v % p) (e % v) ≡ Some before
    → MatchOption o ((t : ℕ) → t < nodes k.grid → HasNone (falls_to k (e / v / p % n) (set_at routes (e / v / p / n) (e / v / p % n) (e / v % p) (e % v) t) before) (link_output_count k))
    (IsFirstFrom routes k (e / v / p / n) (e / v / p % n) (e / v % p) (e % v) before)
    → MatchOption o (HasNoFall routes k e) (IsFirstAt routes k e) in
    subst (λ x. P x p n) (sym a) (subst (λ x. P k.vcs x n) (sym b) (subst (λ x. P k.vcs (ports k.grid) x) (sym c) (first_at-core routes k e before o)))

-- ---- the relation over ranks of the same shape

-- what is known of a step that the relation permits from one link channel onto another
record IsStep (routes : Routes) (k : Ranking) (m a o w t r p v : ℕ) : Type 0 where
  port : ℕ
  arrives : neighbour routes.grid a o ≡ Some (r, port)
  class_known : m < routes.classes
  router_known : r < nodes routes.grid
  port_known : port < ports routes.grid
  vc_known : w < routes.vcs
  dst_known : t < nodes routes.grid
  out_port_known : p < local_port routes.grid
  out_vc_known : v < routes.vcs
  member : has_bit (set_at routes m r port w t) (p * routes.vcs + v) ≡ true
  rank : arrival_rank k r port w ≡ rank_at k a o w

entry-known : (routes : Routes) (m r q w t i : ℕ) → has_bit (set_at routes m r q w t) i ≡ true
    → (m < routes.classes) × (r < nodes routes.grid) × (q < ports routes.grid) × (w < routes.vcs) × (t < nodes routes.grid)
entry-known routes m r q w t i e = at (is_entry routes.grid routes.vcs routes.classes m r q w t) refl
  where
    at : (b : Bool) → is_entry routes.grid routes.vcs routes.classes m r q w t ≡ b → (m < routes.classes) × (r < nodes routes.grid) × (q < ports routes.grid) × (w < routes.vcs) × (t < nodes routes.grid)
    at true f =
        let a = and_parts _ (nat_lt t (nodes routes.grid)) f in
        let b = and_parts _ (nat_lt w routes.vcs) a.0 in
        let c = and_parts _ (nat_lt q (ports routes.grid)) b.0 in
        let d = and_parts (nat_lt m routes.classes) (nat_lt r (nodes routes.grid)) c.0 in
        (ltb-true m routes.classes d.0, ltb-true r (nodes routes.grid) d.1, ltb-true q (ports routes.grid) c.1, ltb-true w routes.vcs b.1, ltb-true t (nodes routes.grid) a.1)
    at false f =
        let none : set_at routes m r q w t ≡ 0 = rw f refl in
        absurd (false≢true (sym (has_bit-zero i) ∙ ap (λ s. has_bit s i) (sym none) ∙ e))

module _ (routes : Routes) (ranks : List (Option ℕ)) (sound : IsGrid routes.grid) where
  abbrev pub over : Ranking
  over = record { grid = routes.grid; vcs = routes.vcs; ranks = ranks }

  step_of : (m a o w t r p v : ℕ) → permits routes m (Link a o w) t (Link r p v) ≡ true → IsStep routes over m a o w t r p v
  step_of m a o w t r p v permitted =
      let h = PermitsLink-from_test routes m (Link a o w) t r p v permitted in
      let known = entry-known routes m r h.in_port w t (p * routes.vcs + v) h.member in
      let back = link_back routes.grid a o r h.in_port sound (ltb-true a (nodes routes.grid) h.sent) h.arrives in
      record {
        port = h.in_port;
        arrives = h.arrives;
        class_known = known.0;
        router_known = known.1;
        port_known = known.2;
        vc_known = known.3;
        dst_known = known.4;
        out_port_known = h.port;
        out_vc_known = h.vc;
        member = h.member;
        rank = ap (rank_from over w) back.back;
      }

  -- the number of a class and an input channel
  abbrev number : ℕ → ℕ → ℕ → ℕ → ℕ
  number m r q w = ((m * nodes routes.grid + r) * ports routes.grid + q) * routes.vcs + w

  number-below : (m r q w : ℕ) → m < routes.classes → r < nodes routes.grid → q < ports routes.grid → w < routes.vcs → number m r q w < routes.classes * input_count over
  number-below m r q w a b c d =
      let whole : routes.classes * input_count over ≡ routes.classes * nodes routes.grid * ports routes.grid * routes.vcs
      = sym (mul_assoc routes.classes (nodes routes.grid * ports routes.grid) routes.vcs) ∙ ap (λ x. x * routes.vcs) (sym (mul_assoc routes.classes (nodes routes.grid) (ports routes.grid))) in
      let pair : m * nodes routes.grid + r < routes.classes * nodes routes.grid = flat-below m routes.classes r (nodes routes.grid) a b in
      let port : (m * nodes routes.grid + r) * ports routes.grid + q < routes.classes * nodes routes.grid * ports routes.grid = flat-below _ _ q (ports routes.grid) pair c in
      rw whole (flat-below _ _ w routes.vcs port d)

  number-vc : (m r q w : ℕ) → w < routes.vcs → number m r q w % routes.vcs ≡ w
  number-vc m r q w d = flat-mod _ routes.vcs w d

  number-port : (m r q w : ℕ) → q < ports routes.grid → w < routes.vcs → input_port_of over (number m r q w) ≡ q
  number-port m r q w c d = rw (flat-div ((m * nodes routes.grid + r) * ports routes.grid + q) routes.vcs w d) (flat-mod _ (ports routes.grid) q c)

  number-router : (m r q w : ℕ) → r < nodes routes.grid → q < ports routes.grid → w < routes.vcs → router_of over (number m r q w) ≡ r
  number-router m r q w b c d =
      rw (flat-div ((m * nodes routes.grid + r) * ports routes.grid + q) routes.vcs w d, flat-div (m * nodes routes.grid + r) (ports routes.grid) q c) (flat-mod m (nodes routes.grid) r b)

  number-class : (m r q w : ℕ) → r < nodes routes.grid → q < ports routes.grid → w < routes.vcs → class_of over (number m r q w) ≡ m
  number-class m r q w b c d =
      rw (flat-div ((m * nodes routes.grid + r) * ports routes.grid + q) routes.vcs w d, flat-div (m * nodes routes.grid + r) (ports routes.grid) q c) (flat-div m (nodes routes.grid) r b)

  -- whether a step falls, by its numbers and by its entry
  falls-number : (m a o w t r p v before : ℕ) (s : IsStep routes over m a o w t r p v) → rank_at over a o w ≡ Some before
      → falls_at routes over (number m r s.port w) t (p * routes.vcs + v) ≡ is_not_above before (rank_at over r p v)
  falls-number m a o w t r p v before s ranked =
      let class = number-class m r s.port w s.router_known s.port_known s.vc_known in
      let router = number-router m r s.port w s.router_known s.port_known s.vc_known in
      let port = number-port m r s.port w s.port_known s.vc_known in
      let vc = number-vc m r s.port w s.vc_known in
      let set : set_at routes (class_of over (number m r s.port w)) (router_of over (number m r s.port w)) (input_port_of over (number m r s.port w)) (number m r s.port w % routes.vcs) t ≡ set_at routes m r s.port w t
      = ap (λ x. set_at routes x (router_of over (number m r s.port w)) (input_port_of over (number m r s.port w)) (number m r s.port w % routes.vcs) t) class
      ∙ ap (λ x. set_at routes m x (input_port_of over (number m r s.port w)) (number m r s.port w % routes.vcs) t) router
      ∙ ap (λ x. set_at routes m r x (number m r s.port w % routes.vcs) t) port
      ∙ ap (λ x. set_at routes m r s.port x t) vc in
      let came : arrival_rank over (router_of over (number m r s.port w)) (input_port_of over (number m r s.port w)) (number m r s.port w % routes.vcs) ≡ Some before
      = ap (λ x. arrival_rank over x (input_port_of over (number m r s.port w)) (number m r s.port w % routes.vcs)) router
      ∙ ap (λ x. arrival_rank over r x (number m r s.port w % routes.vcs)) port
      ∙ ap (λ x. arrival_rank over r s.port x) vc
      ∙ s.rank
      ∙ ranked in
      let out_port : (p * routes.vcs + v) / routes.vcs ≡ p = flat-div p routes.vcs v s.out_vc_known in
      let out_vc : (p * routes.vcs + v) % routes.vcs ≡ v = flat-mod p routes.vcs v s.out_vc_known in
      ap (λ x. falls_from over x (set_at routes (class_of over (number m r s.port w)) (router_of over (number m r s.port w)) (input_port_of over (number m r s.port w)) (number m r s.port w % routes.vcs) t) (arrival_rank over (router_of over (number m r s.port w)) (input_port_of over (number m r s.port w)) (number m r s.port w % routes.vcs)) (p * routes.vcs + v)) router
      ∙ ap (λ x. falls_from over r x (arrival_rank over (router_of over (number m r s.port w)) (input_port_of over (number m r s.port w)) (number m r s.port w % routes.vcs)) (p * routes.vcs + v)) set
      ∙ ap (λ x. falls_from over r (set_at routes m r s.port w t) x (p * routes.vcs + v)) came
      ∙ ap (λ x. x && is_not_above before (rank_at over r ((p * routes.vcs + v) / routes.vcs) ((p * routes.vcs + v) % routes.vcs))) s.member
      ∙ ap (λ x. is_not_above before (rank_at over r x ((p * routes.vcs + v) % routes.vcs))) out_port
      ∙ ap (λ x. is_not_above before (rank_at over r p x)) out_vc

  -- where nothing falls, the ranks rise
  pub rising : ((e : ℕ) → e < routes.classes * input_count over → HasNoFall routes over e) → IsRising routes (rank_at over)
  rising none m t a o w r p v before after permitted one other =
      let s = step_of m a o w t r p v permitted in
      let e = number m r s.port w in
      let here = none e (number-below m r s.port w s.class_known s.router_known s.port_known s.vc_known) t s.dst_known (p * routes.vcs + v) (flat-below p (local_port routes.grid) v routes.vcs s.out_port_known s.out_vc_known) in
      leb-false after before (sym (ap (is_not_above before) other) ∙ sym (falls-number m a o w t r p v before s one) ∙ here)

  -- the link channel of this rank that arrives at an input channel
  record IsCame (r q w before : ℕ) : Type 0 where
    router : ℕ
    port : ℕ
    sent : nat_lt router (nodes routes.grid) ≡ true
    link : neighbour routes.grid router port ≡ Some (r, q)
    rank : rank_at over router port w ≡ Some before

  came : (r q w before : ℕ) → r < nodes routes.grid → arrival_rank over r q w ≡ Some before → IsCame r q w before
  came r q w before here e = at (neighbour routes.grid r q) refl
    where
      at : (o : Option (ℕ × ℕ)) → neighbour routes.grid r q ≡ o → IsCame r q w before
      at None f = absurd (none-some before (sym (ap (rank_from over w) f) ∙ e))
      at (Some from) f =
          let back = link_back routes.grid r q from.0 from.1 sound here f in
          record { router = from.0; port = from.1; sent = lt-ltb from.0 (nodes routes.grid) back.node; link = back.back; rank = sym (ap (rank_from over w) f) ∙ e }

  -- the number of the parts of a number
  number-again : (e : ℕ) → 0 < routes.vcs → 0 < ports routes.grid → 0 < nodes routes.grid → number (class_of over e) (router_of over e) (input_port_of over e) (e % routes.vcs) ≡ e
  number-again e v p n = rw (div-mod (e / routes.vcs / ports routes.grid) (nodes routes.grid) n, div-mod (e / routes.vcs) (ports routes.grid) p) (div-mod e routes.vcs v)

  -- the step of an entry by an output channel
  abbrev step_at_number : ℕ → ℕ → ℕ → RouteRow
  step_at_number e t i =
      record { class = class_of over e; router = router_of over e; in_port = input_port_of over e; in_vc = e % routes.vcs; dst = t; out_port = i / routes.vcs; out_vc = i % routes.vcs }

  abbrev bases : List ℕ
  bases = routes.classes ∷ nodes routes.grid ∷ ports routes.grid ∷ routes.vcs ∷ nodes routes.grid ∷ local_port routes.grid ∷ routes.vcs ∷ []

  abbrev order : ℕ → ℕ → ℕ → ℕ → ℕ
  order e t p v = ((e * nodes routes.grid + t) * local_port routes.grid + p) * routes.vcs + v

  flat-number : (m r q w t p v : ℕ) → flat 0 bases (m ∷ r ∷ q ∷ w ∷ t ∷ p ∷ v ∷ []) ≡ order (number m r q w) t p v
  flat-number m r q w t p v = let first : 0 * routes.classes + m ≡ m = omega (arith, zero-mul routes.classes) in rw first refl

  -- what comes first by its order
  order-cases : (e t p v f u o x : ℕ) → t < nodes routes.grid → p < local_port routes.grid → v < routes.vcs → u < nodes routes.grid → o < local_port routes.grid → x < routes.vcs
      → order e t p v < order f u o x → (e < f) ⊎ ((e ≡ f) × ((t < u) ⊎ ((t ≡ u) × (p * routes.vcs + v < o * routes.vcs + x))))
  order-cases e t p v f u o x a b c d g h l = at (cases_lt e f)
    where
      rest : e ≡ f → (t < u) ⊎ (u ≤ t) → (t < u) ⊎ ((t ≡ u) × (p * routes.vcs + v < o * routes.vcs + x))
      rest same (inl less) = inl less
      rest same (inr more) = last same (cases_lt u t)
        where
          last : e ≡ f → (u < t) ⊎ (t ≤ u) → (t < u) ⊎ ((t ≡ u) × (p * routes.vcs + v < o * routes.vcs + x))
          last same (inl less) =
              let back : order f u o x < order e t p v = flat-rises (f * nodes routes.grid + u) (e * nodes routes.grid + t) (local_port routes.grid ∷ routes.vcs ∷ []) (o ∷ x ∷ []) (p ∷ v ∷ []) (g, (h, tt)) (b, (c, tt)) (rw same (omega arith)) in
              absurd (omega (arith, l, back))
          last same (inr most) =
              let equal : t ≡ u = omega arith in
              let there : order f u p v < order f u o x = rw (same, equal) at l in
              inr (equal, omega (arith, there))

      at : (e < f) ⊎ (f ≤ e) → (e < f) ⊎ ((e ≡ f) × ((t < u) ⊎ ((t ≡ u) × (p * routes.vcs + v < o * routes.vcs + x))))
      at (inl less) = inl less
      at (inr more) = later (cases_lt f e)
        where
          later : (f < e) ⊎ (e ≤ f) → (e < f) ⊎ ((e ≡ f) × ((t < u) ⊎ ((t ≡ u) × (p * routes.vcs + v < o * routes.vcs + x))))
          later (inl less) =
              let back : order f u o x < order e t p v = flat-rises f e (nodes routes.grid ∷ local_port routes.grid ∷ routes.vcs ∷ []) (u ∷ o ∷ x ∷ []) (t ∷ p ∷ v ∷ []) (d, (g, (h, tt))) (a, (b, (c, tt))) less in
              absurd (omega (arith, l, back))
          later (inr most) = let equal : e ≡ f = omega arith in inr (equal, rest equal (cases_lt t u))

  module _ (e t i before : ℕ) (arrival : arrival_rank over (router_of over e) (input_port_of over e) (e % routes.vcs) ≡ Some before) (inside : t < nodes routes.grid)
      (least : IsLeastBelow (falls_to over (router_of over e) (set_at routes (class_of over e) (router_of over e) (input_port_of over e) (e % routes.vcs) t) before) (link_output_count over) i) where
    here_falls : (u j : ℕ) → falls_at routes over e u j ≡ falls_to over (router_of over e) (set_at routes (class_of over e) (router_of over e) (input_port_of over e) (e % routes.vcs) u) before j
    here_falls u j = ap (λ x. falls_from over (router_of over e) (set_at routes (class_of over e) (router_of over e) (input_port_of over e) (e % routes.vcs) u) x j) arrival

    here_parts : (has_bit (set_at routes (class_of over e) (router_of over e) (input_port_of over e) (e % routes.vcs) t) i ≡ true) × (is_not_above before (rank_at over (router_of over e) (i / routes.vcs) (i % routes.vcs)) ≡ true)
    here_parts = and_parts (has_bit (set_at routes (class_of over e) (router_of over e) (input_port_of over e) (e % routes.vcs) t) i) (is_not_above before (rank_at over (router_of over e) (i / routes.vcs) (i % routes.vcs))) least.holds

    here_known : (class_of over e < routes.classes) × (router_of over e < nodes routes.grid) × (input_port_of over e < ports routes.grid) × (e % routes.vcs < routes.vcs) × (t < nodes routes.grid)
    here_known = entry-known routes (class_of over e) (router_of over e) (input_port_of over e) (e % routes.vcs) t i here_parts.0

    vcs_some : 0 < routes.vcs
    vcs_some = omega (arith, here_known.3)

    out_known : (i / routes.vcs < local_port routes.grid) × (i % routes.vcs < routes.vcs)
    out_known = let port : i / routes.vcs < local_port routes.grid = (div-lt_iff_lt-mul {k = routes.vcs} {x = i} {y = local_port routes.grid} vcs_some).1 least.inside in (port, mod-lt i vcs_some)

    here_permits : (c : Channel) → is_sent routes c ≡ true → arrival_of routes.grid c ≡ Some (router_of over e, input_port_of over e) → channel_vc c ≡ e % routes.vcs
        → permits routes (class_of over e) c t (Link (router_of over e) (i / routes.vcs) (i % routes.vcs)) ≡ true
    here_permits c sent place channel =
        let own : nat_eq (router_of over e) (router_of over e) ≡ true = eq-eqb (router_of over e) (router_of over e) refl in
        let port : nat_lt (i / routes.vcs) (local_port routes.grid) ≡ true = lt-ltb (i / routes.vcs) (local_port routes.grid) out_known.0 in
        let vc : nat_lt (i % routes.vcs) routes.vcs ≡ true = lt-ltb (i % routes.vcs) routes.vcs out_known.1 in
        let member : has_bit (set_at routes (class_of over e) (router_of over e) (input_port_of over e) (e % routes.vcs) t) (i / routes.vcs * routes.vcs + i % routes.vcs) ≡ true
        = ap (has_bit (set_at routes (class_of over e) (router_of over e) (input_port_of over e) (e % routes.vcs) t)) (div-mod i routes.vcs vcs_some) ∙ here_parts.0 in
        ap (λ x. x && permits_at routes (class_of over e) (arrival_of routes.grid c) (channel_vc c) t (Link (router_of over e) (i / routes.vcs) (i % routes.vcs))) sent
        ∙ ap (λ x. permits_at routes (class_of over e) x (channel_vc c) t (Link (router_of over e) (i / routes.vcs) (i % routes.vcs))) place
        ∙ ap (λ w. permits_at routes (class_of over e) (Some (router_of over e, input_port_of over e)) w t (Link (router_of over e) (i / routes.vcs) (i % routes.vcs))) channel
        ∙ ap (λ x. x && nat_lt (i / routes.vcs) (local_port routes.grid) && nat_lt (i % routes.vcs) routes.vcs && has_bit (set_at routes (class_of over e) (router_of over e) (input_port_of over e) (e % routes.vcs) t) (i / routes.vcs * routes.vcs + i % routes.vcs)) own
        ∙ ap (λ x. x && nat_lt (i % routes.vcs) routes.vcs && has_bit (set_at routes (class_of over e) (router_of over e) (input_port_of over e) (e % routes.vcs) t) (i / routes.vcs * routes.vcs + i % routes.vcs)) port
        ∙ ap (λ x. x && has_bit (set_at routes (class_of over e) (router_of over e) (input_port_of over e) (e % routes.vcs) t) (i / routes.vcs * routes.vcs + i % routes.vcs)) vc
        ∙ member

    is_fall : (after : ℕ) → rank_at over (router_of over e) (i / routes.vcs) (i % routes.vcs) ≡ Some after → IsFall routes over (step_at_number e t i) before after
    is_fall after other =
        let c = came (router_of over e) (input_port_of over e) (e % routes.vcs) before here_known.1 arrival in
        record {
          router = c.router;
          port = c.port;
          link = c.link;
          permitted = here_permits (Link c.router c.port (e % routes.vcs)) c.sent c.link refl;
          before_is = c.rank;
          after_is = other;
          falls = leb-true after before (sym (ap (is_not_above before) other) ∙ here_parts.1);
        }

    not_before : ((u : ℕ) → u < t → HasNone (falls_to over (router_of over e) (set_at routes (class_of over e) (router_of over e) (input_port_of over e) (e % routes.vcs) u) before) (link_output_count over))
        → ((f : ℕ) → f < e → HasNoFall routes over f)
        → (other : RouteRow) (a b : ℕ) → IsFall routes over other a b → numbers_before (row_numbers other) (row_numbers (step_at_number e t i)) ≡ true → ⊥
    not_before earlier none other a b fall l =
        let w = other.in_vc in
        let s = step_of other.class fall.router fall.port w other.dst other.router other.out_port other.out_vc fall.permitted in
        let port : s.port ≡ other.in_port = (some_pair_parts other.router other.router s.port other.in_port (sym s.arrives ∙ fall.link)).1 in
        let f = number other.class other.router s.port w in
        let index = other.out_port * routes.vcs + other.out_vc in
        let falls : falls_at routes over f other.dst index ≡ true
        = falls-number other.class fall.router fall.port w other.dst other.router other.out_port other.out_vc a s fall.before_is ∙ ap (is_not_above a) fall.after_is ∙ le-leb b a fall.falls in
        let index_known : index < link_output_count over = flat-below other.out_port (local_port routes.grid) other.out_vc routes.vcs s.out_port_known s.out_vc_known in
        let digits : numbers_before (other.class ∷ other.router ∷ s.port ∷ w ∷ other.dst ∷ other.out_port ∷ other.out_vc ∷ []) (row_numbers (step_at_number e t i)) ≡ true
        = rw port l in
        let less : order f other.dst other.out_port other.out_vc < order (number (class_of over e) (router_of over e) (input_port_of over e) (e % routes.vcs)) t (i / routes.vcs) (i % routes.vcs)
        = rw (flat-number other.class other.router s.port w other.dst other.out_port other.out_vc, flat-number (class_of over e) (router_of over e) (input_port_of over e) (e % routes.vcs) t (i / routes.vcs) (i % routes.vcs))
        at (flat-before 0 bases (other.class ∷ other.router ∷ s.port ∷ w ∷ other.dst ∷ other.out_port ∷ other.out_vc ∷ []) (row_numbers (step_at_number e t i))
        (s.class_known, (s.router_known, (s.port_known, (s.vc_known, (s.dst_known, (s.out_port_known, (s.out_vc_known, tt)))))))
        (here_known.0, (here_known.1, (here_known.2, (here_known.3, (here_known.4, (out_known.0, (out_known.1, tt)))))))
        digits) in
        let again : number (class_of over e) (router_of over e) (input_port_of over e) (e % routes.vcs) ≡ e = number-again e vcs_some (omega (arith, here_known.2)) (omega (arith, here_known.1)) in
        let there : order f other.dst other.out_port other.out_vc < order e t (i / routes.vcs) (i % routes.vcs) = subst (λ x. order f other.dst other.out_port other.out_vc < order x t (i / routes.vcs) (i % routes.vcs)) again less in
        decide s.dst_known index_known falls (order-cases f other.dst other.out_port other.out_vc e t (i / routes.vcs) (i % routes.vcs) s.dst_known s.out_port_known s.out_vc_known inside out_known.0 out_known.1 there)
      where
        decide : {f u j : ℕ} → u < nodes routes.grid → j < link_output_count over → falls_at routes over f u j ≡ true → (f < e) ⊎ ((f ≡ e) × ((u < t) ⊎ ((u ≡ t) × (j < i / routes.vcs * routes.vcs + i % routes.vcs)))) → ⊥
        decide {f} {u} {j} known index falls (inl less) = false≢true (sym (none f less u known j index) ∙ falls)
        decide {f} {u} {j} known index falls (inr rest) =
            let here : falls_to over (router_of over e) (set_at routes (class_of over e) (router_of over e) (input_port_of over e) (e % routes.vcs) u) before j ≡ true
            = sym (here_falls u j) ∙ ap (λ x. falls_at routes over x u j) (sym rest.0) ∙ falls in
            same here rest.1
          where
            same : falls_to over (router_of over e) (set_at routes (class_of over e) (router_of over e) (input_port_of over e) (e % routes.vcs) u) before j ≡ true → (u < t) ⊎ ((u ≡ t) × (j < i / routes.vcs * routes.vcs + i % routes.vcs)) → ⊥
            same here (inl less) = false≢true (sym (earlier u less j index) ∙ here)
            same here (inr last) =
                let small : j < i = omega (arith, last.1, div-mod i routes.vcs vcs_some) in
                let moved = ap (λ x. falls_to over (router_of over e) (set_at routes (class_of over e) (router_of over e) (input_port_of over e) (e % routes.vcs) x) before j) (sym last.0) ∙ here in
                false≢true (sym (least.none j small) ∙ moved)

    is_first_fall : ((u : ℕ) → u < t → HasNone (falls_to over (router_of over e) (set_at routes (class_of over e) (router_of over e) (input_port_of over e) (e % routes.vcs) u) before) (link_output_count over))
        → ((f : ℕ) → f < e → HasNoFall routes over f)
        → (after : ℕ) → rank_at over (router_of over e) (i / routes.vcs) (i % routes.vcs) ≡ Some after → IsFirstFall routes over (step_at_number e t i) before after
    is_first_fall earlier none after other_is = record {
      fall = is_fall after other_is;
      first = λ other a b fall. at other a b fall (numbers_before (row_numbers other) (row_numbers (step_at_number e t i))) refl;
    }
      where
        at : (other : RouteRow) (a b : ℕ) → IsFall routes over other a b → (x : Bool) → numbers_before (row_numbers other) (row_numbers (step_at_number e t i)) ≡ x → x ≡ false
        at other a b fall true l = absurd (not_before earlier none other a b fall l)
        at other a b fall false l = refl

  -- the first of the falls is the first of all
  pub first_fall : (e : ℕ) (fall : Fall) → IsFirstAt routes over e fall → ((f : ℕ) → f < e → HasNoFall routes over f) → IsFirstFall routes over fall.step fall.rank fall.next
  first_fall e fall at none =
      let f = at.first in
      let whole = is_first_fall e f.dst f.index at.before at.arrival f.exists f.least f.earlier none fall.next f.next in
      subst (λ s. IsFirstFall routes over s fall.rank fall.next) (sym f.step)
      (subst (λ a. IsFirstFall routes over (step_at_number e f.dst f.index) a fall.next) (sym f.rank) whole)
