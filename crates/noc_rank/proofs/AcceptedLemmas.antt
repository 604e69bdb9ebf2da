-- The ranks by formula of a rule make its relation ranked.
use Rattle.std.proofs.Common.{◌≡◌, ◌≢◌, ℕ, ◌/◌, ◌%◌, ◌<◌, Bool, true, false, List, get_or, set, Option, Some, None, refl, sym, ap, subst, ◌∙◌, arith}
use Rattle.std.specs.Prelude.{not, is_some}
use Rattle.std.proofs.lemmas.Bool.{eqb-true, and_parts, false≢true}
use Rattle.noc_topo.specs.Shape.{Grid, IsGrid, dimensions, coordinates, local_port, neighbour, moved_in, is_plus}
use Rattle.noc_topo.specs.Lists.{tabulate}
use Rattle.noc_topo.proofs.ListLemmas.{get_or-tabulate}
use Rattle.noc_topo.proofs.ShapeLemmas.{length-coordinates}
use Rattle.noc_topo.proofs.LinkLemmas.{IsWithin-at, IsWithin-coordinates, AreRadices, AreRadices-from_test, Hop, hop_of}
use Rattle.noc_topo.proofs.DistanceLemmas.{hop-coordinates}
use Rattle.noc_route.specs.Channel.{Link}
use Rattle.noc_route.specs.Relation.{leads, takes_port, is_nearer, resource_class}
use Rattle.noc_steps.specs.Ways.{is_of_class}
use Rattle.noc_route.specs.Routes.{Routes}
use Rattle.noc_route.specs.Built.{IsRelationOfRule, routing_of}
use Rattle.noc_route.specs.Ranks.{Ranking, is_channel, rank_count, rank_at, AreAllRanked, IsRankedBy, IsRising}
use Rattle.noc_route.proofs.AdaptiveLemmas.{nearer-link}
use Rattle.noc_route.specs.declared.rule.Rule.{Rule}
use Rattle.noc_route.specs.declared.rule.Rule.TheVariants.{Dor, Dateline, WestFirst, Adaptive, Rows}
use Rattle.noc_route.proofs.PermitsLemmas.{PermitsLink-from_test}
use Rattle.noc_route.proofs.RuleLemmas.{west-shape}
use Rattle.noc_rank.specs.Formulas.{has_ranks, is_ranked, formula, formula_at, west_first_rank}
use Rattle.noc_rank.proofs.RankedLemmas.{full-ranked}
use Rattle.noc_rank.proofs.FormulaLemmas.{has_ranks-right, listed-rank_at}
use Rattle.noc_rank.proofs.LedLemmas.{IsLedOn, is_led-on, rule_has-led, reached-led, formula-parts}
use Rattle.noc_rank.proofs.RiseLemmas.{order_rank, half_at, order-port, dor-rises, dateline-rises}
use Rattle.noc_rank.proofs.AdaptiveLemmas.{adaptive-ranked}
use Rattle.noc_rank.proofs.WestLemmas.{IsWestOf, west, east, north, south, rank_over, west-ways, west-rises}

-- ---- two steps, one after the other

module _ (grid : Grid) (vcs classes m t a o w r q p v : ℕ) (sound : IsGrid grid) (link : neighbour grid a o ≡ Some (r, q)) where
  abbrev xs : List ℕ
  xs = coordinates grid.radix a

  abbrev ts : List ℕ
  ts = coordinates grid.radix t

  hop : Hop grid a o r q
  hop = hop_of grid a o r q sound link

  radices : AreRadices grid.radix
  radices = AreRadices-from_test grid.radix sound.sizes

  changed : coordinates grid.radix r ≡ set xs (o / 2) hop.coordinate
  changed = hop-coordinates grid a o r q sound hop

  dor-step : grid.wraps ≡ false → IsLedOn (routing_of grid vcs classes Dor) m a t o w → IsLedOn (routing_of grid vcs classes Dor) m r t p v
      → formula grid vcs classes Dor a o w < formula grid vcs classes Dor r p v
  dor-step flat first next =
      let P : List ℕ → Type 0 = λ ys. takes_port grid Dor ys ts p ≡ true → order_rank grid xs o 0 < order_rank grid ys p 0 in
      let core : P (set xs (o / 2) hop.coordinate)
      = λ e. dor-rises grid xs ts o p hop.coordinate radices (IsWithin-coordinates grid.radix a radices) (IsWithin-coordinates grid.radix t radices) (length-coordinates grid.radix a) hop.moved
      (order-port grid xs ts o first.port) (order-port grid (set xs (o / 2) hop.coordinate) ts p e) flat in
      let l = subst P (sym changed) core next.port in
      omega (arith, l)

  dateline-step : grid.wraps ≡ true → IsLedOn (routing_of grid vcs classes Dateline) m a t o w → IsLedOn (routing_of grid vcs classes Dateline) m r t p v
      → formula grid vcs classes Dateline a o w < formula grid vcs classes Dateline r p v
  dateline-step round first next =
      let ys = coordinates grid.radix r in
      let P : List ℕ → Type 0 = λ ys. takes_port grid Dateline ys ts p ≡ true → order_rank grid xs o (half_at xs ts o) < order_rank grid ys p (half_at ys ts p) in
      let core : P (set xs (o / 2) hop.coordinate)
      = λ e. dateline-rises grid xs ts o p hop.coordinate radices (IsWithin-coordinates grid.radix a radices) (IsWithin-coordinates grid.radix t radices) (length-coordinates grid.radix a) hop.moved
      (order-port grid xs ts o first.port) (order-port grid (set xs (o / 2) hop.coordinate) ts p e) round in
      let before : resource_class vcs classes w ≡ half_at xs ts o = eqb-true _ _ (and_parts (is_of_class vcs classes m w) _ first.channel).1 in
      let after : resource_class vcs classes v ≡ half_at ys ts p = eqb-true _ _ (and_parts (is_of_class vcs classes m v) _ next.channel).1 in
      rw (before, after) (subst P (sym changed) core next.port)

  west-formula : (n i : ℕ) → IsWestOf (coordinates grid.radix n) ts i → west_first_rank grid n i ≡ rank_over grid.radix (coordinates grid.radix n) i
  west-formula n i (west e l) = ap (west_first_rank grid n) e ∙ sym (ap (rank_over grid.radix (coordinates grid.radix n)) e)
  west-formula n i (east e l) = ap (west_first_rank grid n) e ∙ sym (ap (rank_over grid.radix (coordinates grid.radix n)) e)
  west-formula n i (north e l h) = ap (west_first_rank grid n) e ∙ sym (ap (rank_over grid.radix (coordinates grid.radix n)) e)
  west-formula n i (south e l h) = ap (west_first_rank grid n) e ∙ sym (ap (rank_over grid.radix (coordinates grid.radix n)) e)

  west-step : grid.wraps ≡ false → dimensions grid ≡ 2 → IsLedOn (routing_of grid vcs classes WestFirst) m a t o w → IsLedOn (routing_of grid vcs classes WestFirst) m r t p v
      → formula grid vcs classes WestFirst a o w < formula grid vcs classes WestFirst r p v
  west-step flat two first next =
      let here = IsWithin-coordinates grid.radix a radices in
      let there = IsWithin-coordinates grid.radix t radices in
      let four : o < 4 = omega (arith, two, nearer-link grid a t o (and_parts (is_nearer grid xs ts o) _ first.port).0) in
      let few : p < 4 = omega (arith, two, nearer-link grid r t p (and_parts (is_nearer grid (coordinates grid.radix r) ts p) _ next.port).0) in
      let way = west-ways grid xs ts o flat four first.port in
      let M : Bool → Type 0 = λ b. moved_in b (get_or grid.radix (o / 2) 0) (is_plus o) (get_or xs (o / 2) 0) ≡ Some hop.coordinate in
      let P : List ℕ → Type 0 = λ ys. takes_port grid WestFirst ys ts p ≡ true → rank_over grid.radix xs o < rank_over grid.radix ys p in
      let core : P (set xs (o / 2) hop.coordinate)
      = λ e. west-rises grid.radix xs ts p hop.coordinate (length-coordinates grid.radix a ∙ two) (IsWithin-at grid.radix xs 0 here (omega (arith, two))) (IsWithin-at grid.radix xs 1 here (omega (arith, two)))
      (IsWithin-at grid.radix ts 1 there (omega (arith, two))) o way (west-ways grid (set xs (o / 2) hop.coordinate) ts p flat few e) (subst M flat hop.moved) in
      let l = subst P (sym changed) core next.port in
      omega (arith, l, west-formula a o way, west-formula r p (west-ways grid (coordinates grid.radix r) ts p flat few next.port))

  -- the ranks rise from a channel to which the rule leads to the next
  step-rises : (rule : Rule) → rule ≢ Adaptive → has_ranks grid vcs classes rule ≡ true → (i j : ℕ) → leads (routing_of grid vcs classes rule) m (a, i) j t o w ≡ true → o < local_port grid
      → (i' j' : ℕ) → leads (routing_of grid vcs classes rule) m (r, i') j' t p v ≡ true → p < local_port grid → formula grid vcs classes rule a o w < formula grid vcs classes rule r p v
  step-rises Dor other ruled i j first l i' j' next n = dor-step (flat grid.wraps (and_parts _ (not grid.wraps) ruled).1) (is_led-on _ m a t o w l first) (is_led-on _ m r t p v n next)
    where
      flat : (b : Bool) → not b ≡ true → b ≡ false
      flat true e = absurd (false≢true e)
      flat false e = refl
  step-rises Dateline other ruled i j first l i' j' next n =
      dateline-step (and_parts grid.wraps _ (and_parts _ _ (has_ranks-right grid vcs classes Dateline ruled)).1).0 (is_led-on _ m a t o w l first) (is_led-on _ m r t p v n next)
  step-rises WestFirst other ruled i j first l i' j' next n =
      let shape = west-shape grid vcs classes (has_ranks-right grid vcs classes WestFirst ruled) in
      west-step shape.0 shape.1 (is_led-on _ m a t o w l first) (is_led-on _ m r t p v n next)
  step-rises Adaptive other ruled i j first l i' j' next n = absurd (other refl)
  step-rises (Rows rows) other ruled i j first l i' j' next n = absurd (false≢true (and_parts _ false ruled).1)

-- ---- the relation

-- every rule but adaptive gives each link channel a rank
all-ranked : (grid : Grid) (vcs classes : ℕ) (rule : Rule) (v : ℕ) → rule ≢ Adaptive → is_ranked grid vcs classes rule v ≡ true
all-ranked grid vcs classes Dor v other = refl
all-ranked grid vcs classes Dateline v other = refl
all-ranked grid vcs classes WestFirst v other = refl
all-ranked grid vcs classes Adaptive v other = absurd (other refl)
all-ranked grid vcs classes (Rows rows) v other = refl

module _ (grid : Grid) (vcs classes : ℕ) (rule : Rule) (other_rule : rule ≢ Adaptive) (routes : Routes) (k : Ranking) (made : IsRelationOfRule (routing_of grid vcs classes rule) routes) (ruled : has_ranks grid vcs classes rule ≡ true)
    (same_grid : k.grid ≡ grid) (same_vcs : k.vcs ≡ vcs) (given : (r p v : ℕ) → rank_at k r p v ≡ formula_at grid vcs classes rule r p v) where
  sound : IsGrid grid
  sound = subst IsGrid made.grid made.built.table.grid

  full : AreAllRanked k.grid k.vcs (rank_at k)
  full r p v e =
      let known : is_channel grid vcs r p v ≡ true = sym (ap (λ x. is_channel x k.vcs r p v) same_grid ∙ ap (λ x. is_channel grid x r p v) same_vcs) ∙ e in
      ap is_some (given r p v) ∙ rw (known, all-ranked grid vcs classes rule v other_rule) refl

  rising : IsRising routes (rank_at k)
  rising m t a o w r p v n l e one other =
      let g = routing_of grid vcs classes rule in
      let comes = PermitsLink-from_test routes m (Link a o w) t r p v e in
      let link : neighbour grid a o ≡ Some (r, comes.in_port) = ap (λ x. neighbour x a o) (sym made.grid) ∙ comes.arrives in
      let permitted = (made.exact m (Link a o w) t (Link r p v)).0 e in
      let before = reached-led g m t a o w permitted.0 in
      let after = rule_has-led g m (Link a o w) t r p v permitted.1 in
      let rises = step-rises grid vcs classes m t a o w r comes.in_port p v sound link rule other_rule ruled before.1.in_port before.0 before.1.led before.1.link after.in_port w after.led after.link in
      omega (arith, rises, (formula-parts grid vcs classes rule a o w n (sym (given a o w) ∙ one)).1, (formula-parts grid vcs classes rule r p v l (sym (given r p v) ∙ other)).1)

  others-ranked : IsRankedBy routes k
  others-ranked = full-ranked routes made.built k (made.grid ∙ sym same_grid) (made.vcs ∙ sym same_vcs) full rising

-- a relation of any rule with ranks by formula is ranked by them
pub formula-ranked : (grid : Grid) (vcs classes : ℕ) (rule : Rule) (routes : Routes) (k : Ranking) → IsRelationOfRule (routing_of grid vcs classes rule) routes → has_ranks grid vcs classes rule ≡ true → k.grid ≡ grid → k.vcs ≡ vcs
    → ((r p v : ℕ) → rank_at k r p v ≡ formula_at grid vcs classes rule r p v) → IsRankedBy routes k
formula-ranked grid vcs classes Dor routes k made ruled same_grid same_vcs given = others-ranked grid vcs classes Dor (λ (e : Dor ≡ Adaptive). cc) routes k made ruled same_grid same_vcs given
formula-ranked grid vcs classes Dateline routes k made ruled same_grid same_vcs given = others-ranked grid vcs classes Dateline (λ (e : Dateline ≡ Adaptive). cc) routes k made ruled same_grid same_vcs given
formula-ranked grid vcs classes WestFirst routes k made ruled same_grid same_vcs given = others-ranked grid vcs classes WestFirst (λ (e : WestFirst ≡ Adaptive). cc) routes k made ruled same_grid same_vcs given
formula-ranked grid vcs classes Adaptive routes k made ruled same_grid same_vcs given = adaptive-ranked grid vcs classes routes k made ruled given
formula-ranked grid vcs classes (Rows rows) routes k made ruled same_grid same_vcs given = absurd (false≢true (and_parts _ false ruled).1)

-- ---- there are such ranks

-- the ranks by formula of all places
formula-ranking : Grid → ℕ → ℕ → Rule → Ranking
formula-ranking grid vcs classes rule =
    record { grid = grid; vcs = vcs; ranks = tabulate (rank_count grid vcs) (λ k. formula_at grid vcs classes rule (k / vcs / local_port grid) (k / vcs % local_port grid) (k % vcs)) }

pub formula-exists : (grid : Grid) (vcs classes : ℕ) (rule : Rule) (routes : Routes) → IsRelationOfRule (routing_of grid vcs classes rule) routes → has_ranks grid vcs classes rule ≡ true
    → (k : Ranking) × IsRankedBy routes k
unfolding formula-ranking
formula-exists grid vcs classes rule routes made ruled =
    let f : ℕ → Option ℕ = λ k. formula_at grid vcs classes rule (k / vcs / local_port grid) (k / vcs % local_port grid) (k % vcs) in
    let n = rank_count grid vcs in (
      formula-ranking grid vcs classes rule,
      formula-ranked grid vcs classes rule routes (formula-ranking grid vcs classes rule) made ruled refl refl (listed-rank_at grid vcs classes rule (tabulate n f) (λ k l. get_or-tabulate n k f None l)),
    )
