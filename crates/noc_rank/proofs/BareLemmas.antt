-- Entries at which no channel with a rank is permitted.
use Rattle.std.proofs.Common.{◌≡◌, ◌≢◌, ℕ, zero, suc, ◌+◌, ◌*◌, ◌/◌, ◌%◌, ◌<◌, Bool, true, false, List, [], ◌∷◌, Option, Some, None, refl, sym, subst, ap, ◌∙◌, arith, inl, inr}
use Rattle.std.specs.Prelude.{◌⊎◌, ◌↔◌, is_some, nat_eq, IfNone, IfSome, MatchOption}
use Rattle.std.proofs.Math.Nat.{div-lt_iff_lt-mul, mul_assoc, zero-mul}
use Rattle.std.proofs.lemmas.Bool.{ne_eqb, false≢true}
use Rattle.std.proofs.lemmas.Option.{some_pair_parts}
use Rattle.noc_packet.specs.Set.{has_bit}
use Rattle.noc_topo.specs.Shape.{Grid, nodes, ports, local_port}
use Rattle.noc_route.specs.Channel.{Channel, Link, Inject, Eject, arrival_of, channel_vc, output_at}
use Rattle.noc_route.specs.Order.{numbers_before, entry_numbers}
use Rattle.noc_route.specs.Routes.{Routes, set_at, permits, is_sent, IsRelation}
use Rattle.noc_route.specs.Ranks.{Ranking, rank_at}
use Rattle.noc_route.specs.declared.rule.Entry.{Entry}
use Rattle.noc_route.proofs.BuiltLemmas.{set_at-member}
use Rattle.noc_route.proofs.PermitsLemmas.{PermitsLink-from_test, PermitsEject-from_test, permits-inject, member-permits, coming-on}
use Rattle.noc_route.proofs.EntryLemmas.{flat-below, flat-div, flat-mod}
use Rattle.noc_route.proofs.OptionLemmas.{some-value}
use Rattle.noc_rank.specs.LeastAhead.{over}
use Rattle.noc_rank.specs.NoEscape.{entries, numbered_entry, IsRankedIn, IsBareSet}
use Rattle.noc_rank.specs.Faults.{IsBare, IsFirstBare, HasEscapes}
use Rattle.noc_rank.proofs.CheckLemmas.{IsFirstBut}
use Rattle.noc_rank.proofs.IndexLemmas.{flat, flat-before, div-mod}

-- ---- how many entries there are

pub count-entries : (routes : Routes) (c v : ℕ) (g : Grid) → c ≡ routes.classes → g ≡ routes.grid → v ≡ routes.vcs → c * (nodes g * ports g * v) * nodes g ≡ entries routes
count-entries routes c v g few grid vcs =
    let n = nodes routes.grid in
    let p = ports routes.grid in
    ap (λ x. x * (nodes g * ports g * v) * nodes g) few ∙ ap (λ x. routes.classes * (nodes x * ports x * v) * nodes x) grid ∙ ap (λ x. routes.classes * (n * p * x) * n) vcs
    ∙ ap (λ x. x * n) (sym (mul_assoc routes.classes (n * p) routes.vcs) ∙ ap (λ x. x * routes.vcs) (sym (mul_assoc routes.classes n p)))

-- ---- channels and sets

module _ (routes : Routes) (built : IsRelation routes) where
  -- what is permitted is a member of the set where the channel arrives
  pub member-at : (m : ℕ) (c : Channel) (t : ℕ) (o : Channel) (r q w : ℕ) → permits routes m c t o ≡ true → arrival_of routes.grid c ≡ Some (r, q) → channel_vc c ≡ w
      → (k : ℕ) × (has_bit (set_at routes m r q w t) k ≡ true)
  member-at m c t (Inject n v) r q w h arrives vc = absurd (permits-inject routes m c t n v h)
  member-at m c t (Eject n v) r q w h arrives vc =
      let e = PermitsEject-from_test routes m c t n v h in
      let same = some_pair_parts n r e.in_port q (sym e.arrives ∙ arrives) in
      let k = local_port routes.grid * routes.vcs + v in
      (k, ap (λ x. has_bit (set_at routes m x q w t) k) (sym same.0) ∙ ap (λ x. has_bit (set_at routes m n x w t) k) (sym same.1) ∙ ap (λ x. has_bit (set_at routes m n e.in_port x t) k) (sym vc) ∙ e.member)
  member-at m c t (Link b p v) r q w h arrives vc =
      let e = PermitsLink-from_test routes m c t b p v h in
      let same = some_pair_parts b r e.in_port q (sym e.arrives ∙ arrives) in
      let k = p * routes.vcs + v in
      (k, ap (λ x. has_bit (set_at routes m x q w t) k) (sym same.0) ∙ ap (λ x. has_bit (set_at routes m b x w t) k) (sym same.1) ∙ ap (λ x. has_bit (set_at routes m b e.in_port x t) k) (sym vc) ∙ e.member)

  -- what is permitted of a link channel is a member of the set, by its index
  pub link-member : (m : ℕ) (c : Channel) (t r p v q w : ℕ) → permits routes m c t (Link r p v) ≡ true → arrival_of routes.grid c ≡ Some (r, q) → channel_vc c ≡ w
      → has_bit (set_at routes m r q w t) (p * routes.vcs + v) ≡ true
  link-member m c t r p v q w h arrives vc =
      let e = PermitsLink-from_test routes m c t r p v h in
      let same = some_pair_parts r r e.in_port q (sym e.arrives ∙ arrives) in
      let k = p * routes.vcs + v in
      ap (λ x. has_bit (set_at routes m r x w t) k) (sym same.1) ∙ ap (λ x. has_bit (set_at routes m r e.in_port x t) k) (sym vc) ∙ e.member

  -- a member with an index of a link port is permitted
  pub member-link : (m : ℕ) (c : Channel) (t r q w i : ℕ) → is_sent routes c ≡ true → arrival_of routes.grid c ≡ Some (r, q) → channel_vc c ≡ w → i < local_port routes.grid * routes.vcs
      → has_bit (set_at routes m r q w t) i ≡ true → permits routes m c t (Link r (i / routes.vcs) (i % routes.vcs)) ≡ true
  member-link m c t r q w i sent arrives vc l has =
      let port : i / routes.vcs < local_port routes.grid = (div-lt_iff_lt-mul {k = routes.vcs} {x = i} {y = local_port routes.grid} (omega (arith, built.table.some_vcs))).1 l in
      let other : nat_eq (i / routes.vcs) (local_port routes.grid) ≡ false = ne_eqb _ _ (λ e. omega (arith, e, port)) in
      let member : has_bit (set_at routes m r q (channel_vc c) t) i ≡ true = ap (λ x. has_bit (set_at routes m r q x t) i) vc ∙ has in
      ap (permits routes m c t) (sym (rw other refl)) ∙ member-permits routes built m c t r q i sent arrives member

  module _ (ranks : List (Option ℕ)) where
    abbrev k : Ranking
    k = over routes ranks

    bare-from_set : (e : Entry) → IsBareSet routes k e → IsBare routes k e
    bare-from_set e bare =
        let from = coming-on routes built e.class e.router e.in_port e.in_vc e.dst bare.index bare.some in
        let member : has_bit (set_at routes e.class e.router e.in_port (channel_vc from.channel) e.dst) bare.index ≡ true
        = ap (λ x. has_bit (set_at routes e.class e.router e.in_port x e.dst) bare.index) from.vc ∙ bare.some in
        record {
          from = from.channel;
          input = from.arrives;
          channel = from.vc;
          next = output_at routes.grid routes.vcs e.router bare.index;
          permitted = member-permits routes built e.class from.channel e.dst e.router e.in_port bare.index from.sent from.arrives member;
          away = bare.away;
          none = λ p v h. none p v from.channel from.arrives from.vc h (rank_at k e.router p v) refl;
        }
      where
        none : (p v : ℕ) (c : Channel) → arrival_of routes.grid c ≡ Some (e.router, e.in_port) → channel_vc c ≡ e.in_vc → permits routes e.class c e.dst (Link e.router p v) ≡ true
            → (o : Option ℕ) → rank_at k e.router p v ≡ o → rank_at k e.router p v ≡ None
        none p v c arrives vc h None f = f
        none p v c arrives vc h (Some n) f =
            let there = PermitsLink-from_test routes e.class c e.dst e.router p v h in
            let index : p * routes.vcs + v < local_port routes.grid * routes.vcs = flat-below p (local_port routes.grid) v routes.vcs there.port there.vc in
            let port : (p * routes.vcs + v) / routes.vcs ≡ p = flat-div p routes.vcs v there.vc in
            let number : (p * routes.vcs + v) % routes.vcs ≡ v = flat-mod p routes.vcs v there.vc in
            let ranked : is_some (rank_at k e.router ((p * routes.vcs + v) / routes.vcs) ((p * routes.vcs + v) % routes.vcs)) ≡ true
            = ap (λ x. is_some (rank_at k e.router x ((p * routes.vcs + v) % routes.vcs))) port ∙ ap (λ x. is_some (rank_at k e.router p x)) number ∙ ap is_some f in
            absurd (bare.none (p * routes.vcs + v) index (record { member = link-member e.class c e.dst e.router p v e.in_port e.in_vc h arrives vc; ranked = ranked }))

    set-from_bare : (e : Entry) → IsBare routes k e → IsBareSet routes k e
    set-from_bare e bare =
        let some = member-at e.class bare.from e.dst bare.next e.router e.in_port e.in_vc bare.permitted bare.input bare.channel in
        let from = coming-on routes built e.class e.router e.in_port e.in_vc e.dst some.0 some.1 in
        record {
          away = bare.away;
          index = some.0;
          some = some.1;
          none = λ i l has.
              let h = member-link e.class bare.from e.dst e.router e.in_port e.in_vc i (sent-of bare.next bare.permitted) bare.input bare.channel l has.member in
              false≢true (sym (ap is_some (bare.none (i / routes.vcs) (i % routes.vcs) h)) ∙ has.ranked);
        }
      where
        sent-of : (o : Channel) → permits routes e.class bare.from e.dst o ≡ true → is_sent routes bare.from ≡ true
        sent-of (Link b p v) h = (PermitsLink-from_test routes e.class bare.from e.dst b p v h).sent
        sent-of (Eject n v) h = (PermitsEject-from_test routes e.class bare.from e.dst n v h).sent
        sent-of (Inject n v) h = absurd (permits-inject routes e.class bare.from e.dst n v h)

    -- ---- the numbers of entries

    abbrev number_of : Entry → ℕ
    number_of e = (((e.class * nodes routes.grid + e.router) * ports routes.grid + e.in_port) * routes.vcs + e.in_vc) * nodes routes.grid + e.dst

    record IsKnown (e : Entry) : Type 0 where
      class : e.class < routes.classes
      router : e.router < nodes routes.grid
      in_port : e.in_port < ports routes.grid
      in_vc : e.in_vc < routes.vcs
      dst : e.dst < nodes routes.grid

    known-bare : (e : Entry) → IsBareSet routes k e → IsKnown e
    known-bare e bare =
        let there = (set_at-member routes e.class e.router e.in_port e.in_vc e.dst bare.index bare.some).0 in
        record { class = there.place.class; router = there.place.router; in_port = there.port; in_vc = there.vc; dst = there.place.dst }

    number-below : (e : Entry) → IsKnown e → number_of e < entries routes
    number-below e h = flat-below _ _ _ _ (flat-below _ _ _ _ (flat-below _ _ _ _ (flat-below _ _ _ _ h.class h.router) h.in_port) h.in_vc) h.dst

    entry-again : (e : Entry) → IsKnown e → numbered_entry routes (number_of e) ≡ e
    entry-again e h =
        let a = (e.class * nodes routes.grid + e.router) * ports routes.grid + e.in_port in
        let dst : number_of e % nodes routes.grid ≡ e.dst = flat-mod (a * routes.vcs + e.in_vc) (nodes routes.grid) e.dst h.dst in
        let input : number_of e / nodes routes.grid ≡ a * routes.vcs + e.in_vc = flat-div (a * routes.vcs + e.in_vc) (nodes routes.grid) e.dst h.dst in
        let vc : (a * routes.vcs + e.in_vc) % routes.vcs ≡ e.in_vc = flat-mod a routes.vcs e.in_vc h.in_vc in
        let port_at : (a * routes.vcs + e.in_vc) / routes.vcs ≡ a = flat-div a routes.vcs e.in_vc h.in_vc in
        let port : a % ports routes.grid ≡ e.in_port = flat-mod _ (ports routes.grid) e.in_port h.in_port in
        let router_at : a / ports routes.grid ≡ e.class * nodes routes.grid + e.router = flat-div _ (ports routes.grid) e.in_port h.in_port in
        let router : (e.class * nodes routes.grid + e.router) % nodes routes.grid ≡ e.router = flat-mod e.class (nodes routes.grid) e.router h.router in
        let class : (e.class * nodes routes.grid + e.router) / nodes routes.grid ≡ e.class = flat-div e.class (nodes routes.grid) e.router h.router in
        rw (dst, input, vc, port_at, port, router_at, router, class) refl

    number-again : (n : ℕ) → 0 < nodes routes.grid → 0 < ports routes.grid → 0 < routes.vcs → number_of (numbered_entry routes n) ≡ n
    number-again n a b c =
        rw (div-mod (n / nodes routes.grid / routes.vcs / ports routes.grid) (nodes routes.grid) a, div-mod (n / nodes routes.grid / routes.vcs) (ports routes.grid) b, div-mod (n / nodes routes.grid) routes.vcs c)
        (div-mod n (nodes routes.grid) a)

    number-before : (x y : Entry) → IsKnown x → IsKnown y → numbers_before (entry_numbers x) (entry_numbers y) ≡ true → number_of x < number_of y
    number-before x y a b before =
        let ks = routes.classes ∷ nodes routes.grid ∷ ports routes.grid ∷ routes.vcs ∷ nodes routes.grid ∷ [] in
        let l : flat 0 ks (entry_numbers x) < flat 0 ks (entry_numbers y)
        = flat-before 0 ks (entry_numbers x) (entry_numbers y) (a.class, (a.router, (a.in_port, (a.in_vc, (a.dst, tt))))) (b.class, (b.router, (b.in_port, (b.in_vc, (b.dst, tt))))) before in
        let first : (c : ℕ) → 0 * routes.classes + c ≡ c = λ c. omega (arith, zero-mul routes.classes) in
        rw (first x.class, first y.class) at l

    -- ---- all entries

    no-bare : ((n : ℕ) → n < entries routes → IsBareSet routes k (numbered_entry routes n) → ⊥) → HasEscapes routes k
    no-bare none e bare =
        let set = set-from_bare e bare in
        let known = known-bare e set in
        none (number_of e) (number-below e known) (subst (IsBareSet routes k) (sym (entry-again e known)) set)

    one-bare : (n : ℕ) → IsBareSet routes k (numbered_entry routes n) → ((i : ℕ) → i < n → IsBareSet routes k (numbered_entry routes i) → ⊥) → IsFirstBare routes k (numbered_entry routes n)
    one-bare n here earlier = record {
      bare = bare-from_set (numbered_entry routes n) here;
      first = λ other bare. at other bare (numbers_before (entry_numbers other) (entry_numbers (numbered_entry routes n))) refl;
    }
      where
        at : (other : Entry) → IsBare routes k other → (b : Bool) → numbers_before (entry_numbers other) (entry_numbers (numbered_entry routes n)) ≡ b → b ≡ false
        at other bare false f = refl
        at other bare true f =
            let set = set-from_bare other bare in
            let known = known-bare other set in
            let mine = known-bare (numbered_entry routes n) here in
            let less = number-before other (numbered_entry routes n) known mine f in
            let again = number-again n (omega (arith, mine.dst)) (omega (arith, mine.in_port)) (omega (arith, mine.in_vc)) in
            absurd (earlier (number_of other) (omega (arith, less, again)) (subst (IsBareSet routes k) (sym (entry-again other known)) set))

-- ---- where no entry is bare

-- whether one of the first indices of a set has a rank
ranked-or_none : (k : Ranking) (r set n : ℕ) → ((i : ℕ) × (i < n) × IsRankedIn k r set i) ⊎ ((i : ℕ) → i < n → IsRankedIn k r set i → ⊥)
ranked-or_none k r set zero = inr (λ i l h. omega (arith, l))
ranked-or_none k r set (suc n) = elim (ranked-or_none k r set n) [
  | inl found ↦ inl (found.0, omega (arith, found.1), found.2)
  | inr none ↦ at none (has_bit set n) (is_some (rank_at k r (n / k.vcs) (n % k.vcs))) refl refl
]
  where
    at : ((i : ℕ) → i < n → IsRankedIn k r set i → ⊥) → (a b : Bool) → has_bit set n ≡ a → is_some (rank_at k r (n / k.vcs) (n % k.vcs)) ≡ b
        → ((i : ℕ) × (i < suc n) × IsRankedIn k r set i) ⊎ ((i : ℕ) → i < suc n → IsRankedIn k r set i → ⊥)
    at none true true e f = inl (n, omega arith, record { member = e; ranked = f })
    at none false b e f = inr (λ i l h. not_here i h (λ same. false≢true (sym (ap (has_bit set) same ∙ e) ∙ h.member)) none l)
      where
        not_here : (i : ℕ) → IsRankedIn k r set i → (i ≡ n → ⊥) → ((j : ℕ) → j < n → IsRankedIn k r set j → ⊥) → i < suc n → ⊥
        not_here i h other none l = none i (omega (arith, l, other)) h
    at none true false e f = inr (λ i l h. not_here i h (λ same. false≢true (sym (ap (λ j. is_some (rank_at k r (j / k.vcs) (j % k.vcs))) same ∙ f) ∙ h.ranked)) none l)
      where
        not_here : (i : ℕ) → IsRankedIn k r set i → (i ≡ n → ⊥) → ((j : ℕ) → j < n → IsRankedIn k r set j → ⊥) → i < suc n → ⊥
        not_here i h other none l = none i (omega (arith, l, other)) h

module _ (routes : Routes) (built : IsRelation routes) (ranks : List (Option ℕ)) (escapes : HasEscapes routes (over routes ranks)) where
  pub escape-of : (m t : ℕ) (c o : Channel) (r q : ℕ) → permits routes m c t o ≡ true → arrival_of routes.grid c ≡ Some (r, q) → r ≢ t
      → (p : ℕ) × (v : ℕ) × (n : ℕ) × (permits routes m c t (Link r p v) ≡ true) × (rank_at (over routes ranks) r p v ≡ Some n)
  escape-of m t c o r q h arrives away = at (ranked-or_none (over routes ranks) r (set_at routes m r q (channel_vc c) t) (local_port routes.grid * routes.vcs))
    where
      sent-of : (o : Channel) → permits routes m c t o ≡ true → is_sent routes c ≡ true
      sent-of (Link b p v) h = (PermitsLink-from_test routes m c t b p v h).sent
      sent-of (Eject n v) h = (PermitsEject-from_test routes m c t n v h).sent
      sent-of (Inject n v) h = absurd (permits-inject routes m c t n v h)

      at : ((i : ℕ) × (i < local_port routes.grid * routes.vcs) × IsRankedIn (over routes ranks) r (set_at routes m r q (channel_vc c) t) i)
          ⊎ ((i : ℕ) → i < local_port routes.grid * routes.vcs → IsRankedIn (over routes ranks) r (set_at routes m r q (channel_vc c) t) i → ⊥)
          → (p : ℕ) × (v : ℕ) × (n : ℕ) × (permits routes m c t (Link r p v) ≡ true) × (rank_at (over routes ranks) r p v ≡ Some n)
      at (inl found) =
          let i = found.0 in
          let rank = some-value (rank_at (over routes ranks) r (i / routes.vcs) (i % routes.vcs)) found.2.ranked in
          (i / routes.vcs, i % routes.vcs, rank.0, member-link routes built m c t r q (channel_vc c) i (sent-of o h) arrives refl found.1 found.2.member, rank.1)
      at (inr none) =
          let some = member-at routes built m c t o r q (channel_vc c) h arrives refl in
          let e : Entry = record { class = m; router = r; in_port = q; in_vc = channel_vc c; dst = t } in
          absurd (escapes e (bare-from_set routes built ranks e (record { away = away; index = some.0; some = some.1; none = none })))

-- ---- over any ranks of the same shape

pub class-known : (routes : Routes) (n : ℕ) → 0 < nodes routes.grid → 0 < ports routes.grid → 0 < routes.vcs → n < entries routes → n / nodes routes.grid / routes.vcs / ports routes.grid / nodes routes.grid < routes.classes
class-known routes n node port vc l =
    let a : n / nodes routes.grid < routes.classes * nodes routes.grid * ports routes.grid * routes.vcs = (div-lt_iff_lt-mul {k = nodes routes.grid} {x = n} {y = routes.classes * nodes routes.grid * ports routes.grid * routes.vcs} node).1 l in
    let b : n / nodes routes.grid / routes.vcs < routes.classes * nodes routes.grid * ports routes.grid = (div-lt_iff_lt-mul {k = routes.vcs} {x = n / nodes routes.grid} {y = routes.classes * nodes routes.grid * ports routes.grid} vc).1 a in
    let c : n / nodes routes.grid / routes.vcs / ports routes.grid < routes.classes * nodes routes.grid = (div-lt_iff_lt-mul {k = ports routes.grid} {x = n / nodes routes.grid / routes.vcs} {y = routes.classes * nodes routes.grid} port).1 b in
    (div-lt_iff_lt-mul {k = nodes routes.grid} {x = n / nodes routes.grid / routes.vcs / ports routes.grid} {y = routes.classes} node).1 c

pub over-same : (routes : Routes) (k : Ranking) → routes.grid ≡ k.grid → routes.vcs ≡ k.vcs → over routes k.ranks ≡ k
over-same routes k grid vcs = λ i. record { grid = grid i; vcs = vcs i; ranks = k.ranks }

abbrev pub IsNotBare : Routes → Ranking → ℕ → Type 0
IsNotBare routes k n = IsBareSet routes k (numbered_entry routes n) → ⊥

pub has-escapes : (routes : Routes) (k : Ranking) → IsRelation routes → routes.grid ≡ k.grid → routes.vcs ≡ k.vcs → (n : ℕ) → n ≡ entries routes → ((i : ℕ) → i < n → IsNotBare routes k i) → HasEscapes routes k
has-escapes routes k built grid vcs n count none =
    let P : Ranking → Type 0 = λ x. ((i : ℕ) → i < n → IsNotBare routes x i) → HasEscapes routes x in
    subst P (over-same routes k grid vcs) (λ none. no-bare routes built k.ranks (λ i l. none i (omega (arith, count, l)))) none

pub first-is_bare : (routes : Routes) (k : Ranking) → IsRelation routes → routes.grid ≡ k.grid → routes.vcs ≡ k.vcs → (n i : ℕ) (o : Option Entry) → IsFirstBut (IsNotBare routes k) 0 n i
    → IfNone o (IsNotBare routes k i) → IfSome o (λ e. (e ≡ numbered_entry routes i) × IsBareSet routes k e) → MatchOption o (HasEscapes routes k) (IsFirstBare routes k)
first-is_bare routes k built grid vcs n i None found none some = absurd (found.fails none)
first-is_bare routes k built grid vcs n i (Some e) found none some =
    let P : Ranking → Type 0 = λ x. IsBareSet routes x (numbered_entry routes i) → ((j : ℕ) → j < i → IsNotBare routes x j) → IsFirstBare routes x (numbered_entry routes i) in
    let here : IsBareSet routes k (numbered_entry routes i) = subst (IsBareSet routes k) some.0 some.1 in
    subst (IsFirstBare routes k) (sym some.0) (subst P (over-same routes k grid vcs) (one-bare routes built k.ranks i) here (λ j l. found.earlier j (omega arith) l))

pub told-bare : (routes : Routes) (k : Ranking) (n : ℕ) (o : Option Entry) → IfNone o (IsNotBare routes k n) → IfSome o (λ e. (e ≡ numbered_entry routes n) × IsBareSet routes k e) → (is_some o ≡ false) ↔ IsNotBare routes k n
told-bare routes k n None none some = (λ e. none, λ e. refl)
told-bare routes k n (Some e) none some = (λ f. absurd (false≢true (sym f)), λ not. absurd (not (subst (IsBareSet routes k) some.0 some.1)))
