-- What the parts of the check say together.
use Rattle.std.proofs.Common.{◌≡◌, ℕ, ◌/◌, ◌%◌, ◌<◌, ◌≤◌, true, List, Option, Some, sym, subst, ap, ◌∙◌, arith, inl, inr}
use Rattle.std.specs.Prelude.{◌⊎◌, is_some}
use Rattle.std.proofs.lemmas.Bool.{cases_lt}
use Rattle.std.proofs.lemmas.Option.{none-some}
use Rattle.noc_topo.specs.Shape.{local_port}
use Rattle.noc_route.specs.Routes.{Routes, IsRelation}
use Rattle.noc_route.specs.Ranks.{Ranking, is_channel, rank_count, rank_index, rank_at, AreAllRanked, IsRankedBy}
use Rattle.noc_route.specs.declared.rule.RouteRow.{RouteRow}
use Rattle.noc_route.specs.declared.rule.Entry.{Entry}
use Rattle.noc_route.proofs.RisingLemmas.{ranked-rising}
use Rattle.noc_rank.specs.LeastAhead.{over}
use Rattle.noc_rank.specs.NotRisingTo.{AreReal}
use Rattle.noc_rank.specs.Faults.{IsBare, HasEscapes, IsDescent, HasNoDescent}
use Rattle.noc_rank.specs.Ranking.{IsRanking}
use Rattle.noc_rank.specs.Rising.{IsFall}
use Rattle.noc_rank.specs.declared.channel.LinkChannel.{LinkChannel}
use Rattle.noc_rank.proofs.BareLemmas.{over-same, escape-of}
use Rattle.noc_rank.proofs.IndexLemmas.{is_channel-index, is_port_channel-parts, rank_index-below, rank_index-router, rank_index-port, rank_index-vc}

-- all places are looked at
pub full-decoded : (k : Ranking) (v p n : ℕ) → v ≡ k.vcs → p ≡ local_port k.grid → rank_count k.grid k.vcs ≤ n
    → ((i : ℕ) → i < n → is_channel k.grid k.vcs (i / v / p) (i / v % p) (i % v) ≡ true → is_some (rank_at k (i / v / p) (i / v % p) (i % v)) ≡ true) → AreAllRanked k.grid k.vcs (rank_at k)
full-decoded k v p n a b all whole r q w e =
    let parts = is_port_channel-parts k.grid k.vcs r q w (is_channel-index k.grid k.vcs r q w e) in
    let i = rank_index k.grid k.vcs r q w in
    let router : i / v / p ≡ r = ap (λ x. i / x / p) a ∙ ap (λ x. i / k.vcs / x) b ∙ rank_index-router k.grid k.vcs r q w parts.1 parts.2 in
    let port : i / v % p ≡ q = ap (λ x. i / x % p) a ∙ ap (λ x. i / k.vcs % x) b ∙ rank_index-port k.grid k.vcs r q w parts.1 parts.2 in
    let vc : i % v ≡ w = ap (λ x. i % x) a ∙ rank_index-vc k.grid k.vcs r q w parts.2 in
    let P : ℕ → ℕ → ℕ → Type 0 = λ r q w. is_channel k.grid k.vcs r q w ≡ true → is_some (rank_at k r q w) ≡ true in
    let here : P (i / v / p) (i / v % p) (i % v) = whole i (omega (arith, all, rank_index-below k.grid k.vcs r q w (is_channel-index k.grid k.vcs r q w e))) in
    subst (λ x. P x q w) router (subst (λ x. P (i / v / p) x w) port (subst (P (i / v / p) (i / v % p)) vc here)) e

-- only link channels of the relation have ranks
pub real-over : (routes : Routes) (k : Ranking) → routes.grid ≡ k.grid → routes.vcs ≡ k.vcs → IsRanking k → (l : List (Option ℕ)) → l ≡ k.ranks → AreReal routes l
real-over routes k grid vcs ranking l e =
    let s = over-same routes k grid vcs in
    subst (AreReal routes) (sym e) (λ r p v n h.
    subst (λ (x : Ranking). is_channel x.grid x.vcs r p v ≡ true) (sym s) (ranking.real r p v n (subst (λ (x : Ranking). rank_at x r p v ≡ Some n) s h)))

-- ---- ranked, or not

pub escape-over : (routes : Routes) (k : Ranking) → routes.grid ≡ k.grid → routes.vcs ≡ k.vcs → IsRelation routes → HasEscapes routes k → HasNoDescent routes k → IsRankedBy routes k
escape-over routes k grid vcs built escapes none =
    let P : Ranking → Type 0 = λ x. HasEscapes routes x → HasNoDescent routes x → IsRankedBy routes x in
    let core : P (over routes k.ranks) = λ escapes none. record {
      escape = λ m t c o r q h arrives away. escape-of routes built k.ranks escapes m t c o r q h arrives away;
      rising = λ m t r p v a q w n l leads one other.
          let rises : (n < l) ⊎ (l ≤ n) → n < l = elim [
            | inl less ↦ less
            | inr more ↦ absurd (none (record { router = r; port = p; vc = v }) (record { router = a; port = q; vc = w }) n l (record { class = m; dst = t; leads = leads; before_is = one; after_is = other; falls = more }))
          ] in
          rises (cases_lt n l);
    } in
    subst P (over-same routes k grid vcs) core escapes none

pub ranked-not_bare : (routes : Routes) (k : Ranking) → IsRankedBy routes k → (e : Entry) → IsBare routes k e → ⊥
ranked-not_bare routes k ranked e bare =
    let f = ranked.escape e.class e.dst bare.from bare.next e.router e.in_port bare.permitted bare.input bare.away in
    none-some f.2 (sym (bare.none f.0 f.1 f.3) ∙ f.4)

pub ranked-no_descent : (routes : Routes) (k : Ranking) → IsRankedBy routes k → (e o : LinkChannel) (x y : ℕ) → IsDescent routes k e o x y → ⊥
ranked-no_descent routes k ranked e o x y h =
    let l : x < y = ranked.rising h.class h.dst e.router e.port e.vc o.router o.port o.vc x y h.leads h.before_is h.after_is in
    omega (arith, l, h.falls)

pub ranked-no_fall : (routes : Routes) (k : Ranking) → IsRankedBy routes k → (step : RouteRow) (x y : ℕ) → IsFall routes k step x y → ⊥
ranked-no_fall routes k ranked step x y h =
    let l : x < y = ranked-rising routes (rank_at k) ranked step.class step.dst h.router h.port step.in_vc step.router step.out_port step.out_vc x y h.permitted h.before_is h.after_is in
    omega (arith, l, h.falls)
