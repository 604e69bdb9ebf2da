-- A router that a network does not have, through a cycle.
use Rattle.std.proofs.Common.{◌≡◌, ℕ, ◌*◌, ◌<◌, ◌≤◌, Bool, true, false, List, Some, None, ap, arith, bit_and, bit_or, mul-le-mul_right, refl, subst, sym, ◌∙◌}
use Rattle.std.specs.Prelude.{◌&&◌, nat_eq, nat_lt, not, if◌then◌else◌}
use Rattle.std.proofs.lemmas.Bool.{and_parts, eq-eqb, lt-leb, ltb-true}
use Rattle.noc_topo.specs.Shape.{local_port, ports}
use Rattle.noc_packet.specs.Set.{has_bit}
use Rattle.noc_packet.proofs.SetLemmas.{has_bit-zero}
use Rattle.noc_alloc.specs.Members.{MembersAreBelow}
use Rattle.noc_sets.specs.Column.{Column}
use Rattle.noc_sets.specs.Cycle.{HasWorked, Router, Still, Turn, begins_in, came_in, ready_source, still_of, went_in}
use Rattle.noc_sets.specs.Ended.{leads_tail}
use Rattle.noc_sets.specs.Grants.{Allocation}
use Rattle.noc_sets.specs.Layout.{IsLayoutOf, Layout}
use Rattle.noc_sets.specs.Moves.{chosen_by, dry_by, single_in}
use Rattle.noc_sets.specs.Passes.{AreOwners, lane_asks, lane_filled, lane_free, lane_home, lane_injected, lane_landed, lane_raised, settled_lane}
use Rattle.noc_sets.specs.Planes.{any_from, more_than_one, raised_by, wrong_from}
use Rattle.noc_sets.specs.Sets.{least, less, lowest, of_one}
use Rattle.noc_sets.specs.Source.{NEVER, Source, Start, first_source, next_source, start_in}
use Rattle.noc_sets.proofs.MemberLemmas.{or-zero}
use Rattle.noc_sets.proofs.TurnLemmas.{first-among}
use Rattle.noc_theory.specs.Network.{Setup}
use Rattle.noc_theory_bits.specs.Network.{HasTurned}
use Rattle.noc_theory_cycles.specs.Blank.{DoesNothing, IsBlank}
use Rattle.noc_theory_cycles.proofs.NoneLemmas.{and-none, empty-set, first-none, if-none, in-both, in-less, less-none, less-same, lowered-none, lowest-none, no-member, or-none, raised-none, rest-none, union-none, xor-none}

-- ---- once it has taken what comes
module _ (layout : Layout) (starts : List Start) (n up : ℕ) (b : Router) (soon : n < NEVER) (size : ℕ) (blank : IsBlank size b) (ups : AreOwners (lane_raised b.links.credits b.column) b.marks.owner up) where
  abbrev s : Still
  s = still_of layout starts n up b

  pub nothing-begins : begins_in layout n b ≡ 0
  nothing-begins =
      let late : n < b.source.due = subst (λ d. n < d) (sym blank.due) soon in
      ap (λ x. if x && nat_eq b.column.injecting 0 then lane_free layout.local b.column else 0) (lt-leb b.source.due n late)

  pub no-begins : lowest (begins_in layout n b) ≡ 0
  no-begins = lowest-none (begins_in layout n b) nothing-begins

  pub nothing-injected : lane_injected layout.places b.column ≡ 0
  nothing-injected = and-none b.column.injecting (wrong_from 0 b.column.len layout.places) blank.injecting

  pub nothing-lands : lane_landed layout.places b.links.flits b.column ≡ 0
  nothing-lands = or-none b.links.flits (lane_injected layout.places b.column) blank.flits_come nothing-injected

  nothing-went : went_in layout n b ≡ 0
  nothing-went = or-none (lane_injected layout.places b.column) (lowest (begins_in layout n b)) nothing-injected no-begins

  pub not-filled : (still_of layout starts n up b).filled ≡ 0
  not-filled =
      or-none (lane_filled layout.places b.links.flits b.column) (lowest (begins_in layout n b))
      (or-none (any_from 0 b.column.len) (lane_landed layout.places b.links.flits b.column) blank.flits nothing-lands) no-begins

  -- its source stays where it is
  pub source-waits : (still_of layout starts n up b).source ≡ b.source
  source-waits =
      let ready = ready_source layout starts n b in
      ap (λ x. if x then ready else next_source starts ready) (eq-eqb (went_in layout n b) 0 nothing-went)
      ∙ ap (λ x. if x then b.source else first_source (start_in starts b.source.queue) b.source) (eq-eqb (begins_in layout n b) 0 nothing-begins)

  pub len-stays : (still_of layout starts n up b).column.len ≡ b.column.len
  len-stays =
      first-none (lowest (begins_in layout n b)) (raised_by b.column.len (lane_landed layout.places b.links.flits b.column)) no-begins
      ∙ raised-none b.column.len (lane_landed layout.places b.links.flits b.column) nothing-lands

  nobody-up : up ≡ 0
  nobody-up = empty-set up (λ i e.
      let one = ups.some i e in
      no-member b.links.credits one.0 blank.credits_come (in-less b.links.credits _ one.0 one.1))

  none-home : lane_home layout.places b.links.credits b.column ≡ 0
  none-home = less-none b.column.draining _ blank.draining

  pub not-supplied : (still_of layout starts n up b).column.supplied ≡ 0
  not-supplied = or-none b.column.supplied up blank.supplied nobody-up

  pub idle-stays : (still_of layout starts n up b).column.idle ≡ b.column.idle
  idle-stays = ap (bit_or b.column.idle) none-home ∙ or-zero b.column.idle

  pub not-draining : (still_of layout starts n up b).column.draining ≡ 0
  not-draining = xor-none b.column.draining (lane_home layout.places b.links.credits b.column) none-home ∙ blank.draining

  pub not-injecting : (still_of layout starts n up b).column.injecting ≡ 0
  not-injecting = if-none _ (bit_or b.column.injecting (lowest (begins_in layout n b))) (or-none b.column.injecting (lowest (begins_in layout n b)) blank.injecting no-begins)

  pub no-heads : less (still_of layout starts n up b).filled (bit_or b.column.waiting b.column.active) ≡ 0
  no-heads = less-none s.filled (bit_or b.column.waiting b.column.active) not-filled

  pub nothing-ready : (k : ℕ) → has_bit (bit_and (bit_and b.column.active (still_of layout starts n up b).filled) (still_of layout starts n up b).column.supplied) k ≡ true → false ≡ true
  nothing-ready k e = no-member b.column.active k blank.active (in-both b.column.active s.filled k (in-both (bit_and b.column.active s.filled) s.column.supplied k e).0).0

-- ---- after the cycle
module _ (count : ℕ) (net : Setup) (layout : Layout) (laid : IsLayoutOf count net.relation net.depth layout) (starts : List Start) (sets : ℕ → ℕ → ℕ) (n : ℕ) (b : Router) (t : Turn) (soon : n < NEVER) (room : ℕ) (blank : IsBlank room b)
    (works : HasWorked (ports net.relation.grid) net.relation.vcs layout starts sets n b t) where
  abbrev size : ℕ
  size = ports net.relation.grid * net.relation.vcs

  abbrev still : Still
  still = still_of layout starts n works.up b

  abbrev start : Column
  start = works.before.column

  start-is : works.before.column ≡ (still_of layout starts n works.up b).column
  start-is = works.decided.column_was

  start-waiting : works.before.column.waiting ≡ 0
  start-waiting = ap (λ (c : Column). c.waiting) start-is ∙ blank.waiting

  start-active : works.before.column.active ≡ 0
  start-active = ap (λ (c : Column). c.active) start-is ∙ blank.active

  not-asked : lane_asks works.before.column ≡ 0
  not-asked = ap (λ x. if x then 0 else bit_and start.wanted start.idle) (eq-eqb start.waiting 0 start-waiting)

  -- what it has is as it was, but for what is wanted
  chosen-is : works.chosen ≡ record works.before { column = record works.before.column { wanted = works.chosen.column.wanted }; marks = works.chosen.marks }
  chosen-is = works.decided.chosen.rest ∙ ap (λ (g : Allocation). record g { column = record g.column { wanted = works.chosen.column.wanted }; marks = works.chosen.marks }) (works.decided.chosen.unasked not-asked)

  granted-none : works.chosen.granted ≡ 0
  granted-none = ap (λ (g : Allocation). g.granted) chosen-is ∙ works.decided.no_grant

  heads-none : works.effects.heads ≡ 0
  heads-none = works.decided.heads ∙ less-none still.filled (bit_or start.waiting start.active) (not-filled layout starts n works.up b soon room blank works.ups)

  given-none : works.effects.granted ≡ 0
  given-none = works.decided.granted ∙ granted-none

  picks-none : works.picked ≡ 0
  picks-none = empty-set works.picked (λ k e.
      no-member start.active k start-active (in-both start.active still.filled k (in-both (bit_and start.active still.filled) start.supplied k (works.decided.picks.among k e)).0).0)

  selects-none : (q : ℕ) → chosen_by works.picked works.chosen.marks q ≡ 0
  selects-none q = empty-set (chosen_by works.picked works.chosen.marks q) (λ k e.
      no-member works.picked k picks-none
      (in-both works.picked (works.chosen.marks.to_port q) k (first-among (bit_and works.picked (works.chosen.marks.to_port q)) (works.chosen.marks.port_turn q) k e)).0)

  of-none : (q : ℕ) (f : ℕ → ℕ) → of_one (chosen_by works.picked works.chosen.marks q) f ≡ 0
  of-none q f = ap (λ x. if x then 0 else f (least (chosen_by works.picked works.chosen.marks q))) (eq-eqb (chosen_by works.picked works.chosen.marks q) 0 (selects-none q))

  moved-none : works.effects.moved ≡ 0
  moved-none = works.decided.switched.moved ∙ union-none (ports net.relation.grid) (chosen_by works.picked works.chosen.marks) selects-none

  out-none : works.effects.out ≡ 0
  out-none = works.decided.switched.out ∙ union-none (ports net.relation.grid) (λ q. of_one (chosen_by works.picked works.chosen.marks q) works.chosen.marks.taken) (λ q. of-none q works.chosen.marks.taken)

  released-none : works.effects.released ≡ 0
  released-none = works.decided.released ∙ less-none (bit_and works.effects.moved still.ended) (more_than_one start.len) (and-none works.effects.moved still.ended moved-none)

  supplied-none : works.decided.supplied ≡ 0
  supplied-none =
      works.decided.switched.supplied
      ∙ rest-none works.chosen.column.supplied (ports net.relation.grid) (λ q. dry_by (single_in layout.links start) works.chosen.marks.taken (chosen_by works.picked works.chosen.marks q))
      (ap (λ (g : Allocation). g.column.supplied) chosen-is ∙ ap (λ (c : Column). c.supplied) start-is ∙ not-supplied layout starts n works.up b soon room blank works.ups)

  abbrev tail : ℕ → Bool
  tail = leads_tail (still_of layout starts n works.up b).ended works.before.column.len

  -- of the channels of the router none is freed
  freed-none : (o : ℕ) → o < ports net.relation.grid * net.relation.vcs → has_bit works.effects.freed o ≡ false
  freed-none o l =
      let f : ℕ → ℕ = λ i. if tail i then works.chosen.marks.taken i else 0 in
      works.decided.switched.freed o l
      ∙ ap (λ w. has_bit w o) (union-none (ports net.relation.grid) (λ q. of_one (chosen_by works.picked works.chosen.marks q) f) (λ q. of-none q f))
      ∙ has_bit-zero o

  freed-here : (side : ℕ) → ((k : ℕ) → has_bit side k ≡ true → k < ports net.relation.grid * net.relation.vcs) → bit_and works.effects.freed side ≡ 0
  freed-here side below = empty-set (bit_and works.effects.freed side) (λ k e.
      let both = in-both works.effects.freed side k e in
      sym (freed-none k (below k both.1)) ∙ both.0)

  links-below : (k : ℕ) → has_bit layout.links k ≡ true → k < ports net.relation.grid * net.relation.vcs
  links-below k e =
      let more : local_port net.relation.grid * net.relation.vcs ≤ ports net.relation.grid * net.relation.vcs = mul-le-mul_right net.relation.vcs (omega arith) in
      let low : k < local_port net.relation.grid * net.relation.vcs = ltb-true k (local_port net.relation.grid * net.relation.vcs) (sym (laid.sides.link_is k) ∙ e) in
      omega (arith, more, low)

  local-below : (k : ℕ) → has_bit layout.local k ≡ true → k < ports net.relation.grid * net.relation.vcs
  local-below k e = ltb-true k size (and_parts _ (nat_lt k size) (sym (laid.sides.local_is k) ∙ e)).1

  abbrev chosen : Column
  chosen = works.chosen.column

  -- what the cycle makes of a column of which nothing is wanted
  kept : (f : Column → ℕ) → ((c : Column) (w : ℕ) → f (record c { wanted = w }) ≡ f c) → f works.chosen.column ≡ f (still_of layout starts n works.up b).column
  kept f same = ap (λ (g : Allocation). f g.column) chosen-is ∙ same start works.chosen.column.wanted ∙ ap f start-is

  pub does-nothing : DoesNothing (ports net.relation.grid * net.relation.vcs) t
  does-nothing = record {
    flits = ap (λ l. l.flits) works.left_is ∙ out-none;
    tails = λ o l. ap (λ x. has_bit x.tails o) works.left_is ∙ freed-none o l;
    credits = ap (λ l. l.credits) works.left_is ∙ moved-none;
    grants = λ o l.
        works.grants_are o l
        ∙ ap (λ w. if has_bit w o then Some (works.chosen.marks.owner o) else None) (less-same start.idle chosen.idle (sym (ap (λ (g : Allocation). g.column.idle) chosen-is)))
        ∙ ap (λ x. if x then Some (works.chosen.marks.owner o) else None) (has_bit-zero o);
    arrived = works.arrived_are ∙ and-none works.effects.released _ released-none;
    happened = works.happened_is ∙ ap (λ w. not (nat_eq w 0)) (or-none _ works.effects.moved (or-none _ works.effects.granted (or-none _ works.effects.heads came-none heads-none) given-none) moved-none);
  }
    where
      came-none : came_in layout n b ≡ 0
      came-none =
          or-none (bit_or (lane_landed layout.places b.links.flits b.column) (lowest (begins_in layout n b))) b.links.credits
          (or-none (lane_landed layout.places b.links.flits b.column) (lowest (begins_in layout n b)) (nothing-lands layout starts n works.up b soon room blank works.ups) (no-begins layout starts n works.up b soon room blank works.ups))
          blank.credits_come

  pub stays-blank : (next : Router) → HasTurned t next → next.links.flits ≡ 0 → next.links.credits ≡ 0 → IsBlank room next
  stays-blank next turned flits credits = record {
    waiting = ap (λ (c : Column). c.waiting) settled ∙ or-none (less chosen.waiting works.effects.granted) works.effects.heads (less-none chosen.waiting works.effects.granted (kept (λ c. c.waiting) (λ c w. refl) ∙ blank.waiting)) heads-none;
    active = ap (λ (c : Column). c.active) settled ∙ less-none (bit_or chosen.active works.effects.granted) works.effects.released (or-none chosen.active works.effects.granted (kept (λ c. c.active) (λ c w. refl) ∙ blank.active) given-none);
    flits = ap (λ (c : Column). any_from 0 c.len) settled ∙ ap (any_from 0) (lowered-none chosen.len works.effects.moved moved-none) ∙ kept (λ c. any_from 0 c.len) (λ c w. refl) ∙ ap (any_from 0) (len-stays layout starts n works.up b soon room blank works.ups) ∙ blank.flits;
    supplied = ap (λ (c : Column). c.supplied) settled ∙ less-none works.decided.supplied works.effects.released supplied-none;
    idle = subst (MembersAreBelow room) (sym (ap (λ (c : Column). c.idle) settled ∙ ap (bit_or chosen.idle) (freed-here layout.local local-below) ∙ or-zero chosen.idle ∙ kept (λ c. c.idle) (λ c w. refl) ∙ idle-stays layout starts n works.up b soon room blank works.ups)) blank.idle;
    draining = ap (λ (c : Column). c.draining) settled ∙ or-none chosen.draining (bit_and works.effects.freed layout.links) (kept (λ c. c.draining) (λ c w. refl) ∙ not-draining layout starts n works.up b soon room blank works.ups) (freed-here layout.links links-below);
    injecting = ap (λ (c : Column). c.injecting) settled ∙ kept (λ c. c.injecting) (λ c w. refl) ∙ not-injecting layout starts n works.up b soon room blank works.ups;
    due = ap (λ (y : Source). y.due) (turned.source ∙ works.source_is ∙ source-waits layout starts n works.up b soon room blank works.ups) ∙ blank.due;
    flits_come = flits;
    credits_come = credits;
  }
    where
      settled : next.column ≡ settled_lane works.ahead layout.links layout.local works.effects (record works.chosen.column { supplied = works.decided.supplied })
      settled = turned.column ∙ works.decided.column
