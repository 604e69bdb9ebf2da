-- The turns of all blocks, one block after the other.
use Rattle.std.proofs.Common.{◌≡◌, ◌≢◌, ℕ, ◌+◌, ◌*◌, ◌/◌, ◌<◌, Bool, false, List, [], Some, None, length, get_or-set_other, get_or-set_same, set as write, ap, ap₂, sym, ◌∙◌, subst, refl, arith, inl, inr}
use Rattle.std.specs.Prelude.{◌⊎◌, ◌||◌, slice_get, nat_eq, if◌then◌else◌}
use Rattle.std.proofs.lemmas.Bool.{cases_eq, eq-eqb, ne_eqb}
use Rattle.noc_topo.specs.Lists.{one_if}
use Rattle.noc_packet.specs.Set.{has_bit}
use Rattle.noc_view.specs.Found.{empty_finding}
use Rattle.noc_sets.specs.Counts.{with_verdicts}
use Rattle.noc_sets.specs.Cycle.{Router, Turn}
use Rattle.noc_sets.specs.Unions.{some_below}
use Rattle.noc_sets.proofs.UnionLemmas.{some-same}
use Rattle.noc_theory.specs.Network.{Setup}
use Rattle.noc_theory_bits.specs.Network.{tells_in}
use Rattle.noc_columns.specs.Heads.{packet_in}
use Rattle.noc_columns.specs.Picks.{channels_of}
use Rattle.noc_columns.specs.Words.{set_of}
use Rattle.noc_columns.specs.declared.channels.Links.{Links}
use Rattle.noc_counts.specs.Counts.{WaitsOn}
use Rattle.noc_counts.specs.Told.{told_at}
use Rattle.noc_cycles.specs.Gathered.{ShowsLeft, left_by}
use Rattle.noc_cycles.specs.Held.{held_at, links_at}
use Rattle.noc_cycles.specs.Taking.{links_count}
use Rattle.noc_cycles.specs.Told.{Tells, port_in, vc_in}
use Rattle.noc_cycles.specs.Turning.{ShowsTurn}
use Rattle.noc_cycles.specs.declared.block.Block.{Block}
use Rattle.noc_cycles.specs.declared.block.Work.{Work}
use Rattle.noc_theory_cycles.specs.Fits.{layout_of}
use Rattle.noc_theory_cycles.specs.Nodes.{IsNodeTurn}
use Rattle.noc_engine.specs.Turns.{HasTurnedBlock}
use Rattle.noc_engine.specs.declared.plan.Plan.{Plan}
use Rattle.noc_engine.proofs.ListLemmas.{others, same-item, written}
use Rattle.noc_engine.proofs.PassLemmas.{some-sum}

-- turns that change nothing
abbrev pub idle_turns : (ℕ → Router) → ℕ → Turn
idle_turns words s = record {
  column = (words s).column;
  marks = (words s).marks;
  ended = (words s).ended;
  source = (words s).source;
  counts = (words s).counts;
  left = (words s).links;
  grants = λ o. None;
  arrived = 0;
  found = λ i. empty_finding;
  happened = false;
}

-- the blocks from `first` on have had their turn, so many of them
pub record HaveTurnedBelow (net : Setup) (plan : Plan) (n first number : ℕ) (words : ℕ → Router) (turns : ℕ → Turn) (blocks : List Block) (works : List Work) (lefts : List (Links (List ℕ))) (happened : Bool) : Type 0 where
  pub each : (b : ℕ) (block : Block) (work : Work) → b < number → slice_get blocks b ≡ Some block → slice_get works b ≡ Some work
      → HasTurnedBlock net plan n (first + b) words turns block work (left_by lefts (first + b)) (some_below 64 (λ r. (turns (64 * (first + b) + r)).happened))
  pub happened_is : happened ≡ some_below (64 * number) (λ s. (turns (64 * first + s)).happened)

-- a block that has had its turn has it by all turns that are those of its routers
pub turned-same : (net : Setup) (plan : Plan) (n b : ℕ) (words : ℕ → Router) (t u : ℕ → Turn) (block : Block) (work : Work) (left : Links (List ℕ)) (happened : Bool)
    → ((r : ℕ) → r < 64 → t (64 * b + r) ≡ u (64 * b + r)) → HasTurnedBlock net plan n b words t block work left happened → HasTurnedBlock net plan n b words u block work left (some_below 64 (λ r. (u (64 * b + r)).happened))
turned-same net plan n b words t u block work left happened same has =
    let ports = plan.pattern.table.ports in
    record {
      turn = λ r l. subst (IsNodeTurn net plan.pattern (layout_of plan.pattern) n (64 * b + r) (words (64 * b + r))) (same r l) (has.turn r l);
      shows = λ r l. subst (ShowsTurn plan.pattern (held_at ports block r)) (same r l) (has.shows r l);
      packets = has.packets;
      leaves = λ r l. subst (λ (x : Turn). ShowsLeft (links_count plan.pattern) (links_at ports left r) x.left) (same r l) (has.leaves r l);
      arrived = λ r l. subst (λ (x : Turn). set_of (channels_of ports) r work.arrived ≡ x.arrived) (same r l) (has.arrived r l);
      leaving = has.leaving;
      arrive = has.arrive;
      told = λ r l.
          subst (λ (x : Turn). Tells net.relation.grid net.relation.vcs (64 * b + r) (set_of (channels_of ports) r block.grants.granted) (port_in ports block r) (vc_in ports block r) (packet_in block.packets r) (tells_in net (layout_of plan.pattern) n (words (64 * b + r)) x))
          (same r l) (has.told r l);
      counted = λ r i l m. subst (λ (x : Turn). x.counts i ≡ with_verdicts (told_at (channels_of ports) block work r) i ((words (64 * b + r)).counts i)) (same r l) (has.counted r i l m);
      waits = λ r i l. subst (λ (x : Turn). WaitsOn (told_at (channels_of ports) block work r) i (one_if (has_bit (words (64 * b + r)).column.waiting i)) (one_if (has_bit x.column.waiting i))) (same r l) (has.waits r i l);
      found = λ r i l. sym (ap (λ (x : Turn). x.found i) (same r l)) ∙ has.found r i l;
      happened_is = refl;
      punctual = has.punctual;
    }

-- ---- one block more
-- its turns, and those of the others
abbrev pub with_turns : ℕ → (ℕ → Turn) → (ℕ → Turn) → ℕ → Turn
with_turns b t u s = if nat_eq (s / 64) b then u s else t s

pub own-turns : (b r : ℕ) (t u : ℕ → Turn) → r < 64 → u (64 * b + r) ≡ with_turns b t u (64 * b + r)
own-turns b r t u l = let e : (64 * b + r) / 64 ≡ b = omega (arith, l) in sym (ap (λ x. if x then u (64 * b + r) else t (64 * b + r)) (eq-eqb ((64 * b + r) / 64) b e))

pub other-turns : (b s : ℕ) (t u : ℕ → Turn) → s / 64 ≢ b → t s ≡ with_turns b t u s
other-turns b s t u other = sym (ap (λ x. if x then u s else t s) (ne_eqb (s / 64) b other))

module _ (net : Setup) (plan : Plan) (n first number : ℕ) (words : ℕ → Router) (t u : ℕ → Turn) (blocks : List Block) (works : List Work) (lefts : List (Links (List ℕ))) (happened : Bool) (block : Block) (work : Work) (left : Links (List ℕ)) (here : Bool)
    (l : number < length blocks) (m : number < length works) (o : first + number < length lefts) (before : HaveTurnedBelow net plan n first number words t blocks works lefts happened) (has : HasTurnedBlock net plan n (first + number) words u block work left here) where
  abbrev later : ℕ → Turn
  later = with_turns (first + number) t u

  abbrev left-later : List (Links (List ℕ))
  left-later = write lefts (first + number) left

  left-here : left_by left-later (first + number) ≡ left
  left-here = get_or-set_same lefts (first + number) left (record { flits = []; tails = []; credits = [] }) o

  left-other : (b : ℕ) → b ≢ first + number → left_by left-later b ≡ left_by lefts b
  left-other b other = get_or-set_other lefts (first + number) b left (record { flits = []; tails = []; credits = [] }) other

  each : (b : ℕ) (x : Block) (y : Work) → b < number + 1 → slice_get (write blocks number block) b ≡ Some x → slice_get (write works number work) b ≡ Some y → (b ≡ number) ⊎ (b ≢ number)
      → HasTurnedBlock net plan n (first + b) words later x y (left_by left-later (first + b)) (some_below 64 (λ r. (later (64 * (first + b) + r)).happened))
  each b x y k is-block is-work (inl same) =
      subst (λ (c : ℕ). HasTurnedBlock net plan n (first + c) words later x y (left_by left-later (first + c)) (some_below 64 (λ r. (later (64 * (first + c) + r)).happened))) (sym same)
      (subst (λ (p : Block). HasTurnedBlock net plan n (first + number) words later p y (left_by left-later (first + number)) (some_below 64 (λ r. (later (64 * (first + number) + r)).happened)))
      (same-item block x _ (written blocks number block l) (subst (λ (c : ℕ). slice_get (write blocks number block) c ≡ Some x) same is-block))
      (subst (λ (q : Work). HasTurnedBlock net plan n (first + number) words later block q (left_by left-later (first + number)) (some_below 64 (λ r. (later (64 * (first + number) + r)).happened)))
      (same-item work y _ (written works number work m) (subst (λ (c : ℕ). slice_get (write works number work) c ≡ Some y) same is-work))
      (subst (λ (w : Links (List ℕ)). HasTurnedBlock net plan n (first + number) words later block work w (some_below 64 (λ r. (later (64 * (first + number) + r)).happened))) (sym left-here)
      (turned-same net plan n (first + number) words u later block work left here (λ r low. own-turns (first + number) r t u low) has))))
  each b x y k is-block is-work (inr other) =
      subst (λ (w : Links (List ℕ)). HasTurnedBlock net plan n (first + b) words later x y w (some_below 64 (λ r. (later (64 * (first + b) + r)).happened))) (sym (left-other (first + b) (λ e. other (omega (arith, e)))))
      (turned-same net plan n (first + b) words t later x y (left_by lefts (first + b)) _ (λ r low. other-turns (first + number) (64 * (first + b) + r) t u (λ e. other (omega (arith, e, low))))
      (before.each b x y (omega (arith, k, other)) (sym (others blocks number b block other) ∙ is-block) (sym (others works number b work other) ∙ is-work)))

  -- the routers of the block are the next ones
  next-place : (r : ℕ) → 64 * (first + number) + r ≡ 64 * first + (64 * number + r)
  next-place r = omega arith

  pub turned-next : HaveTurnedBelow net plan n first (number + 1) words later (write blocks number block) (write works number work) left-later (happened || here)
  turned-next = record {
    each = λ b x y k is-block is-work. each b x y k is-block is-work (cases_eq b number);
    happened_is =
        ap₂ (λ x y. x || y)
        (before.happened_is ∙ some-same (64 * number) _ _ (λ s k. ap (λ (x : Turn). x.happened) (other-turns (first + number) (64 * first + s) t u (λ e. omega (arith, e, k)))))
        (has.happened_is ∙ some-same 64 _ _ (λ r k. ap (λ (x : Turn). x.happened) (own-turns (first + number) r t u k) ∙ ap (λ s. (later s).happened) (next-place r)))
        ∙ sym (some-sum (64 * number) 64 (λ s. (later (64 * first + s)).happened))
        ∙ (let e : 64 * number + 64 ≡ 64 * (number + 1) = omega arith in ap (λ k. some_below k (λ s. (later (64 * first + s)).happened)) e);
  }
