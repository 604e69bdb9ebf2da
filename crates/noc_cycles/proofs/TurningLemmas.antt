-- What has taken effect in a router of a block is what the router makes of the cycle.
use Rattle.std.proofs.Common.{◌≡◌, ℕ, ◌+◌, ◌-◌, ◌*◌, ◌<◌, ◌≤◌, Bool, true, false, List, arith, ap, ap₂, refl, subst, sym, ◌∙◌, inl, inr, bit_and, bit_or}
use Rattle.std.specs.Prelude.{◌⊎◌, ◌&&◌, ◌||◌, not, nat_eq, nat_le, nat_lt}
use Rattle.std.proofs.lemmas.Bool.{and_from, false≢true, le-leb, lt-leb}
use Rattle.noc_alloc.specs.Members.{MembersAreBelow}
use Rattle.noc_sets.specs.Column.{Column}
use Rattle.noc_sets.specs.Counts.{ByVerdict, lane_verdicts, with_verdicts}
use Rattle.noc_sets.specs.Cycle.{HasDecided, Router, Turn, came_in, granted_in, still_of}
use Rattle.noc_sets.specs.Ended.{ended_next, lane_released, leads_tail}
use Rattle.noc_sets.specs.Found.{found_in}
use Rattle.noc_sets.specs.Moves.{HasSwitched, chosen_by, single_in}
use Rattle.noc_sets.specs.Passes.{Effects, lane_no_credit, lane_no_flit, lane_ready, settled_lane}
use Rattle.noc_sets.specs.Planes.{lowered_by, more_than_one}
use Rattle.noc_sets.specs.Turns.{ArePast}
use Rattle.noc_sets.proofs.MemberLemmas.{and-false, and-true, either-zero}
use Rattle.noc_sets.proofs.TurnLemmas.{first-among}
use Rattle.noc_sets.proofs.UnionLemmas.{union-members}
use Rattle.noc_columns.specs.Arrivals.{given_back}
use Rattle.noc_columns.specs.Switch.{ShowsOutputs, ShowsSends}
use Rattle.noc_columns.specs.declared.channels.Decided.{Decided}
use Rattle.noc_columns.specs.declared.channels.Verdicts.{Verdicts}
use Rattle.noc_columns.proofs.BackLemmas.{given-back}
use Rattle.noc_columns.proofs.PickLemmas.{some-each}
use Rattle.noc_cycles.proofs.Common.{and_parts, cases_lt, eqb-true, le-ltb, lt-ltb, true≢false, has_bit, both_members, either_members, has_bit-zero, RouterMarks, Still, Layout, less, up_by, Start, some_below, less_members, same-word, up_members, up_none, ShowsOwned, port_at, list_of, all_of, Links, Standing, blank, find-first, below-members, Held, ShowsStill, FitsLayout, Pattern}
use Rattle.noc_cycles.specs.Concluding.{HasConcludedHeld}
use Rattle.noc_cycles.specs.Deciding.{HasDecidedHeld, undecided}
use Rattle.noc_cycles.specs.Held.{ShowsMarks, column_by}
use Rattle.noc_cycles.specs.Taking.{HasTaken, links_count}
use Rattle.noc_cycles.specs.Through.{HasGoneThrough, Worked}
use Rattle.noc_cycles.specs.Turning.{HasWorkedHeld, verdict_sets_by}

-- ---- the channels of links and of the local port
module _ (pattern : Pattern) (layout : Layout) (fits : FitsLayout pattern layout) where
  abbrev wide : ℕ
  wide = pattern.table.ports.links.width

  abbrev vcs_is : ℕ
  vcs_is = pattern.table.ports.links.vcs

  pub links-members : (o : ℕ) → has_bit layout.links o ≡ nat_lt o (wide * vcs_is)
  links-members o = ap (λ s. has_bit s o) fits.links ∙ below-members (wide * vcs_is) (λ c. true) o ∙ and-true (nat_lt o (wide * vcs_is))

  pub local-members : (o : ℕ) → has_bit layout.local o ≡ (nat_le (wide * vcs_is) o && nat_lt o ((wide + 1) * vcs_is))
  local-members o = ap (λ s. has_bit s o) fits.local ∙ at (cases_lt o (wide * vcs_is))
    where
      all : ℕ
      all = all_of (port_at pattern.table.ports.local 0)

      at : (o < wide * vcs_is) ⊎ (wide * vcs_is ≤ o) → has_bit (up_by all (wide * vcs_is)) o ≡ (nat_le (wide * vcs_is) o && nat_lt o ((wide + 1) * vcs_is))
      at (inl l) = up_none all (wide * vcs_is) o l ∙ sym (ap (λ b. b && nat_lt o ((wide + 1) * vcs_is)) (lt-leb (wide * vcs_is) o l))
      at (inr m) =
          up_members all (wide * vcs_is) o m
          ∙ below-members pattern.table.ports.local.vcs (λ c. true) (o - wide * vcs_is)
          ∙ and-true (nat_lt (o - wide * vcs_is) pattern.table.ports.local.vcs)
          ∙ ap (nat_lt (o - wide * vcs_is)) pattern.table.ports.alike
          ∙ few (cases_lt (o - wide * vcs_is) vcs_is)
          ∙ sym (ap (λ b. b && nat_lt o ((wide + 1) * vcs_is)) (le-leb (wide * vcs_is) o m))
        where
          few : (o - wide * vcs_is < vcs_is) ⊎ (vcs_is ≤ o - wide * vcs_is) → nat_lt (o - wide * vcs_is) vcs_is ≡ nat_lt o ((wide + 1) * vcs_is)
          few (inl l) = lt-ltb (o - wide * vcs_is) vcs_is l ∙ sym (lt-ltb o ((wide + 1) * vcs_is) (omega (arith, l, m)))
          few (inr l) = le-ltb (o - wide * vcs_is) vcs_is l ∙ sym (le-ltb o ((wide + 1) * vcs_is) (omega (arith, l, m)))

  -- of the link channels a set of them has what another has there
  pub links-are : (set all : ℕ) → MembersAreBelow (wide * vcs_is) set → ((o : ℕ) → o < wide * vcs_is → has_bit set o ≡ has_bit all o) → bit_and all layout.links ≡ set
  links-are set all below same = same-word _ _ (λ o. both_members all layout.links o ∙ ap (λ b. has_bit all o && b) (links-members o) ∙ at o (cases_lt o (wide * vcs_is)))
    where
      none : (o : ℕ) (b : Bool) → has_bit set o ≡ b → wide * vcs_is ≤ o → false ≡ has_bit set o
      none o false e m = sym e
      none o true e m = (let l = below o e in absurd (omega (arith, l, m)))

      at : (o : ℕ) → (o < wide * vcs_is) ⊎ (wide * vcs_is ≤ o) → (has_bit all o && nat_lt o (wide * vcs_is)) ≡ has_bit set o
      at o (inl l) = ap (λ b. has_bit all o && b) (lt-ltb o (wide * vcs_is) l) ∙ and-true (has_bit all o) ∙ sym (same o l)
      at o (inr m) = ap (λ b. has_bit all o && b) (le-ltb o (wide * vcs_is) m) ∙ and-false (has_bit all o) ∙ none o (has_bit set o) refl m

-- ---- words by their members
-- a tail moves where its channel moves a flit and has a tail in front
released-as : (moved ended last : ℕ) (len : List ℕ) → ((i : ℕ) → has_bit last i ≡ leads_tail ended len i) → lane_released moved ended len ≡ bit_and moved last
released-as moved ended last len is = same-word _ _ (λ i.
    less_members (bit_and moved ended) (more_than_one len) i
    ∙ ap (λ b. b && not (has_bit (more_than_one len) i)) (both_members moved ended i)
    ∙ regroup (has_bit moved i) (has_bit ended i) (not (has_bit (more_than_one len) i))
    ∙ ap (λ b. has_bit moved i && b) (sym (is i))
    ∙ sym (both_members moved last i))
  where
    regroup : (a b c : Bool) → ((a && b) && c) ≡ (a && (b && c))
    regroup true b c = refl
    regroup false b c = refl

-- .. and who moves none, or is no tail, stays
stays : (a b : Bool) → (a ≡ true → b ≡ true) → a ≡ (a && b)
stays true b e = sym (e refl)
stays false b e = refl

-- ---- of one router
module _ (pattern : Pattern) (layout : Layout) (sets : ℕ → ℕ → ℕ) (s : Still) (a h n : Held) (standing : Standing ℕ) (decided : Decided ℕ) (granted lost gone arrived : ℕ) (left : Links ℕ) (v w : Verdicts ℕ)
    (fits : FitsLayout pattern layout) (shows : ShowsStill pattern a standing v.no_credit s) (d : HasDecidedHeld pattern layout sets s a h standing decided granted lost left)
    (c : HasConcludedHeld pattern standing decided granted (record left { credits = gone }) arrived h n v w) where
  abbrev width : ℕ
  width = pattern.table.ports.links.width

  abbrev vcs : ℕ
  vcs = pattern.table.ports.links.vcs

  abbrev size : ℕ
  size = (pattern.table.ports.links.width + 1) * pattern.table.ports.links.vcs

  abbrev deep : Bool
  deep = pattern.frame.deep

  abbrev e : Effects
  e = d.effects

  abbrev m : RouterMarks
  m = d.chosen.marks

  abbrev tail : ℕ → Bool
  tail = leads_tail s.ended s.column.len

  -- ---- the words of the passes are those of the effects
  moved-is : w.moved ≡ e.moved
  moved-is = ap (λ (x : Verdicts ℕ). x.moved) c.settles.verdicts ∙ sym d.moved

  released-is : bit_and w.moved standing.last ≡ e.released
  released-is = ap (λ x. bit_and x standing.last) moved-is ∙ sym (released-as e.moved s.ended standing.last s.column.len shows.last) ∙ sym d.released

  granted-is : granted ≡ e.granted
  granted-is = d.granted_are ∙ sym d.given

  heads-is : standing.heads ≡ e.heads
  heads-is = shows.heads ∙ sym d.heads

  flits-are : left.flits ≡ bit_and e.out layout.links
  flits-are = sym (links-are pattern layout fits left.flits e.out c.flits_below d.flits)

  tails-are : left.tails ≡ bit_and e.freed layout.links
  tails-are = sym (links-are pattern layout fits left.tails e.freed c.tails_below d.tails)

  -- ---- who is picked, moves and sends
  active-was : s.column.active ≡ h.inputs.active
  active-was = ap (λ (x : Column). x.active) shows.column ∙ sym (ap (λ x. x.active) d.inputs)

  picked-ready : (k : ℕ) → has_bit decided.picked k ≡ true → has_bit (lane_ready s.filled s.column) k ≡ true
  picked-ready k p = d.picks.among k p

  picked-active : (k : ℕ) → has_bit decided.picked k ≡ true → has_bit h.inputs.active k ≡ true
  picked-active k p =
      let ready = and_parts (has_bit (bit_and s.column.active s.filled) k) (has_bit s.column.supplied k) (sym (both_members (bit_and s.column.active s.filled) s.column.supplied k) ∙ picked-ready k p) in
      let active = and_parts (has_bit s.column.active k) (has_bit s.filled k) (sym (both_members s.column.active s.filled k) ∙ ready.0) in
      ap (λ x. has_bit x k) (sym active-was) ∙ active.0

  picked-below : MembersAreBelow size decided.picked
  picked-below k p = c.active_below k (picked-active k p)

  -- who may send after the grants
  abbrev owning : ℕ
  owning = bit_or a.inputs.active granted

  owning-is : owning ≡ bit_or h.inputs.active granted
  owning-is = ap (λ x. bit_or x granted) (sym (ap (λ x. x.active) d.inputs))

  owning-members : (i : ℕ) → has_bit owning i ≡ (has_bit h.inputs.active i || has_bit granted i)
  owning-members i = ap (λ x. has_bit x i) owning-is ∙ either_members h.inputs.active granted i

  picked-owning : (k : ℕ) → has_bit decided.picked k ≡ true → has_bit owning k ≡ true
  picked-owning k p = owning-members k ∙ ap (λ b. b || has_bit granted k) (picked-active k p)

  owning-below : (i : ℕ) → has_bit owning i ≡ true → i < size
  owning-below i o = at (has_bit h.inputs.active i) refl (sym (owning-members i) ∙ o)
    where
      at : (b : Bool) → has_bit h.inputs.active i ≡ b → (has_bit h.inputs.active i || has_bit granted i) ≡ true → i < size
      at true p q = c.active_below i p
      at false p q = c.granted_below i (sym (ap (λ b. b || has_bit granted i) p) ∙ q)

  sends-picked : ShowsSends (width + 1) vcs decided.picked h.out_port h.out_vc m
  sends-picked = record {
    port = λ i p. d.owned.sends.port i (picked-owning i p);
    vc = λ i p. d.owned.sends.vc i (picked-owning i p);
    taken = λ i p. d.owned.sends.taken i (picked-owning i p);
    to_port = λ i q p l. d.owned.sends.to_port i q (picked-owning i p) l;
  }

  -- a channel that an output port chooses is picked and sends by it, and moves
  chosen-sends : (q i : ℕ) → has_bit (chosen_by decided.picked m q) i ≡ true → (has_bit decided.picked i ≡ true) × (has_bit (m.to_port q) i ≡ true)
  chosen-sends q i is = and_parts (has_bit decided.picked i) (has_bit (m.to_port q) i) (sym (both_members decided.picked (m.to_port q) i) ∙ first-among (bit_and decided.picked (m.to_port q)) (m.port_turn q) i is)

  moved-members : (i : ℕ) → has_bit e.moved i ≡ some_below (width + 1) (λ q. has_bit (chosen_by decided.picked m q) i)
  moved-members i =
      ap (λ x. has_bit x i) d.switched.moved ∙ union-members 0 (width + 1) (chosen_by decided.picked m) i
      ∙ ap (λ b. b || some_below (width + 1) (λ q. has_bit (chosen_by decided.picked m q) i)) (has_bit-zero i)

  chosen-moves : (q i : ℕ) → q < width + 1 → has_bit (chosen_by decided.picked m q) i ≡ true → has_bit e.moved i ≡ true
  chosen-moves q i l is = moved-members i ∙ some-each (width + 1) (λ p. has_bit (chosen_by decided.picked m p) i) q l is

  moved-picked : (i : ℕ) → has_bit e.moved i ≡ true → has_bit decided.picked i ≡ true
  moved-picked i is = (and_parts (has_bit decided.picked i) (has_bit decided.sends i) (sym (both_members decided.picked decided.sends i) ∙ ap (λ x. has_bit x i) (sym d.moved) ∙ is)).0

  released-members : (i : ℕ) → has_bit e.released i ≡ (has_bit e.moved i && has_bit standing.last i)
  released-members i = ap (λ x. has_bit x i) (sym released-is ∙ ap (λ x. bit_and x standing.last) moved-is) ∙ both_members e.moved standing.last i

  -- who moves by a port is chosen by it
  moves-by : (q i : ℕ) → has_bit e.moved i ≡ true → q < width + 1 → has_bit (m.to_port q) i ≡ true → has_bit (chosen_by decided.picked m q) i ≡ true
  moves-by q i is l to = at (find-first (width + 1) (λ p. has_bit (chosen_by decided.picked m p) i))
    where
      at : (some_below (width + 1) (λ p. has_bit (chosen_by decided.picked m p) i) ≡ false)
          ⊎ ((p : ℕ) × (p < width + 1) × (has_bit (chosen_by decided.picked m p) i ≡ true) × (some_below p (λ x. has_bit (chosen_by decided.picked m x) i) ≡ false))
          → has_bit (chosen_by decided.picked m q) i ≡ true
      at (inl none) = absurd (true≢false (sym is ∙ moved-members i ∙ none))
      at (inr found) =
          let p = found.0 in
          let sends = chosen-sends p i found.2 in
          let here : h.out_port i ≡ p = eqb-true (h.out_port i) p (sym (sends-picked.to_port i p sends.0 found.1) ∙ sends.1) in
          let there : h.out_port i ≡ q = eqb-true (h.out_port i) q (sym (sends-picked.to_port i q sends.0 l) ∙ to) in
          subst (λ x. has_bit (chosen_by decided.picked m x) i ≡ true) (sym here ∙ there) found.2

  -- ---- what arrives
  arrived-are : arrived ≡ bit_and e.released (m.to_port width)
  arrived-are = same-word _ _ (λ k. at k (cases_lt k size) ∙ sym (both_members e.released (m.to_port width) k))
    where
      released-below : (k : ℕ) → has_bit e.released k ≡ true → has_bit decided.picked k ≡ true
      released-below k is = moved-picked k (and_parts (has_bit e.moved k) (has_bit standing.last k) (sym (released-members k) ∙ is)).0

      none : (k : ℕ) (b : Bool) → has_bit arrived k ≡ b → size ≤ k → has_bit arrived k ≡ false
      none k false is u = is
      none k true is u = (let l = c.arrived_below k is in absurd (omega (arith, l, u)))

      still-none : (k : ℕ) (b : Bool) → has_bit e.released k ≡ b → size ≤ k → (has_bit e.released k && has_bit (m.to_port width) k) ≡ false
      still-none k false is u = ap (λ x. x && has_bit (m.to_port width) k) is
      still-none k true is u = (let l = picked-below k (released-below k is) in absurd (omega (arith, l, u)))

      by : (k : ℕ) (b : Bool) → has_bit e.released k ≡ b → (has_bit e.released k && nat_eq (h.out_port k) width) ≡ (has_bit e.released k && has_bit (m.to_port width) k)
      by k true is = ap (λ x. has_bit e.released k && x) (sym (sends-picked.to_port k width (released-below k is) (omega arith)))
      by k false is = ap (λ x. x && nat_eq (h.out_port k) width) is ∙ sym (ap (λ x. x && has_bit (m.to_port width) k) is)

      at : (k : ℕ) → (k < size) ⊎ (size ≤ k) → has_bit arrived k ≡ (has_bit e.released k && has_bit (m.to_port width) k)
      at k (inl l) =
          c.leaves k l
          ∙ ap (λ b. b && nat_eq (h.out_port k) width) (ap (λ x. has_bit x k && has_bit standing.last k) moved-is ∙ sym (released-members k))
          ∙ by k (has_bit e.released k) refl
      at k (inr u) = none k (has_bit arrived k) refl u ∙ sym (still-none k (has_bit e.released k) refl u)

  -- .. frees its output channel
  idle-is : n.idle ≡ bit_or h.idle (bit_and e.freed layout.local)
  idle-is =
      c.idle ∙ ap (λ x. given_back h.idle size (width * vcs) x h.out_vc) arrived-are
      ∙ given-back width vcs decided.picked (single_in layout.links s.column) tail m d.marks e d.chosen.column.supplied d.supplied h.out_port h.out_vc layout.local (pattern.table.few) picked-below sends-picked d.switched
      (local-members pattern layout fits) h.idle

  -- ---- the words after the cycle
  abbrev supplied : ℕ
  supplied = less d.supplied e.released

  of-settled : {A : Type 0} (f : Column → A) → f (record blank { waiting = n.inputs.waiting; active = n.inputs.active; supplied = 0; ahead = n.inputs.ahead; len = list_of deep n.inputs.len })
      ≡ f (record blank {
        waiting = bit_or (less h.inputs.waiting granted) standing.heads;
        active = less (bit_or h.inputs.active granted) (bit_and w.moved standing.last);
        supplied = 0;
        ahead = n.inputs.ahead;
        len = lowered_by (list_of deep h.inputs.len) w.moved;
      })
  of-settled f = ap f (c.settles.column 0 0 0 blank)

  waiting-is : n.inputs.waiting ≡ bit_or (less h.inputs.waiting e.granted) e.heads
  waiting-is = of-settled (λ (x : Column). x.waiting) ∙ ap₂ (λ g x. bit_or (less h.inputs.waiting g) x) granted-is heads-is

  pub active-is : n.inputs.active ≡ less (bit_or h.inputs.active e.granted) e.released
  active-is = of-settled (λ (x : Column). x.active) ∙ ap₂ (λ g x. less (bit_or h.inputs.active g) x) granted-is released-is

  len-is : list_of deep n.inputs.len ≡ lowered_by (list_of deep h.inputs.len) e.moved
  len-is = of-settled (λ (x : Column). x.len) ∙ ap (lowered_by (list_of deep h.inputs.len)) moved-is

  draining-is : n.outputs.draining ≡ bit_or h.outputs.draining (bit_and e.freed layout.links)
  draining-is = c.pays.draining ∙ ap (bit_or h.outputs.draining) tails-are

  credit-is : list_of deep n.outputs.credit ≡ lowered_by (list_of deep h.outputs.credit) (bit_and e.out layout.links)
  credit-is = c.pays.credit ∙ ap (lowered_by (list_of deep h.outputs.credit)) flits-are

  column-is : column_by (width * vcs) deep n supplied ≡ settled_lane n.inputs.ahead layout.links layout.local e (record d.chosen.column { supplied = d.supplied })
  column-is =
      (λ x. record {
        waiting = waiting-is x;
        active = active-is x;
        len = len-is x;
        supplied = supplied;
        ahead = n.inputs.ahead;
        wanted = (c.rest x).wanted;
        idle = idle-is x;
        draining = draining-is x;
        credit = credit-is x;
        injecting = up_by (c.rest x).injecting (width * vcs);
      })
      ∙ sym (ap (λ (x : Column). settled_lane n.inputs.ahead layout.links layout.local e (record x { supplied = d.supplied })) d.column)

  ended-is : n.inputs.ended ≡ ended_next s.ended e.released
  ended-is = c.settles.ended ∙ ap₂ ended_next (ap (λ x. x.ended) d.inputs ∙ sym shows.ended) released-is

  past-is : ArePast vcs (width + 1) s.column.ahead e.moved n.inputs.ahead
  past-is = subst (λ x. ArePast vcs (width + 1) s.column.ahead e.moved x) (sym (c.settles.ahead ∙ ap (λ x. bit_or (less x decided.sends) (bit_and decided.past decided.sends)) (ap (λ x. x.ahead) d.inputs))) d.past

  -- ---- who owns what
  active-members : (i : ℕ) → has_bit n.inputs.active i ≡ (has_bit owning i && not (has_bit e.released i))
  active-members i =
      ap (λ x. has_bit x i) active-is ∙ less_members (bit_or h.inputs.active e.granted) e.released i
      ∙ ap (λ x. has_bit (bit_or h.inputs.active x) i && not (has_bit e.released i)) (sym granted-is)
      ∙ ap (λ x. has_bit x i && not (has_bit e.released i)) (sym owning-is)

  active-owning : (i : ℕ) → has_bit n.inputs.active i ≡ true → (has_bit owning i ≡ true) × (not (has_bit e.released i) ≡ true)
  active-owning i is = and_parts (has_bit owning i) (not (has_bit e.released i)) (sym (active-members i) ∙ is)

  -- an input channel that an output port chooses and that has a tail in front is released
  tail-released : (q i : ℕ) → q < width + 1 → i < size → has_bit (chosen_by decided.picked m q) i ≡ true → tail i ≡ true → has_bit e.released i ≡ true
  tail-released q i l few chosen last = d.switched.released i few ∙ and_from (has_bit e.moved i) (tail i) (chosen-moves q i l chosen) last

  abbrev keeps : ℕ → ℕ → Bool
  keeps q i = has_bit (m.to_port q) i && not (has_bit (chosen_by decided.picked m q) i && tail i)

  -- who still sends by a port is active
  keeps-active : (q i : ℕ) → q < width + 1 → i < size → keeps q i ≡ true → has_bit n.inputs.active i ≡ true
  keeps-active q i l few is = active-members i ∙ and_from (has_bit owning i) (not (has_bit e.released i)) (d.owned.only q i parts.0) (ap not (free (has_bit e.released i) refl))
    where
      parts : (has_bit (m.to_port q) i ≡ true) × (not (has_bit (chosen_by decided.picked m q) i && tail i) ≡ true)
      parts = and_parts (has_bit (m.to_port q) i) (not (has_bit (chosen_by decided.picked m q) i && tail i)) is

      free : (b : Bool) → has_bit e.released i ≡ b → has_bit e.released i ≡ false
      free false r = r
      free true r =
          let moves = and_parts (has_bit e.moved i) (tail i) (sym (d.switched.released i few) ∙ r) in
          let chosen = moves-by q i moves.0 l parts.0 in
          absurd (false≢true (ap not (sym (and_from (has_bit (chosen_by decided.picked m q) i) (tail i) chosen moves.1)) ∙ parts.1))

  -- who is active keeps its ports
  active-keeps : (q i : ℕ) → q < width + 1 → has_bit n.inputs.active i ≡ true → keeps q i ≡ has_bit (m.to_port q) i
  active-keeps q i l is = ap (λ b. has_bit (m.to_port q) i && not b) (none (has_bit (chosen_by decided.picked m q) i) (tail i) refl refl) ∙ and-true (has_bit (m.to_port q) i)
    where
      own : (has_bit owning i ≡ true) × (not (has_bit e.released i) ≡ true)
      own = active-owning i is

      none : (x y : Bool) → has_bit (chosen_by decided.picked m q) i ≡ x → tail i ≡ y → (x && y) ≡ false
      none true true p r = absurd (false≢true (ap not (sym (tail-released q i l (owning-below i own.0) p r)) ∙ own.1))
      none true false p r = refl
      none false y p r = refl

  -- its marks, where no other channel sends
  abbrev marks : RouterMarks
  marks = record d.marks { to_port = λ q. bit_and (d.marks.to_port q) n.inputs.active }

  to_port-is : (q i : ℕ) → q < width + 1 → i < size → has_bit (marks.to_port q) i ≡ keeps q i
  to_port-is q i l few =
      both_members (d.marks.to_port q) n.inputs.active i
      ∙ ap (λ b. b && has_bit n.inputs.active i) (d.switched.to_port q i l few)
      ∙ sym (stays (keeps q i) (has_bit n.inputs.active i) (keeps-active q i l few))

  switched-is : HasSwitched vcs (width + 1) decided.picked (single_in layout.links s.column) tail m marks e d.chosen.column.supplied d.supplied
  switched-is = record {
    moved = d.switched.moved;
    out = d.switched.out;
    supplied = d.switched.supplied;
    released = d.switched.released;
    freed = d.switched.freed;
    turns = d.switched.turns;
    to_port = to_port-is;
    rest = ap (λ (x : RouterMarks). record x { to_port = marks.to_port }) d.switched.rest;
    released_fits = d.switched.released_fits;
    freed_fits = d.switched.freed_fits;
  }

  decides : HasDecided (width + 1) vcs layout sets s (undecided s) d.chosen decided.picked n.inputs.ahead e (column_by (width * vcs) deep n supplied) marks n.inputs.ended
  decides = record {
    column_was = refl;
    marks_were = refl;
    no_grant = refl;
    no_loss = refl;
    chosen = d.choice;
    picks = d.picks;
    supplied = d.supplied;
    switched = switched-is;
    heads = d.heads;
    granted = d.given;
    released = d.released;
    past = past-is;
    column = column-is;
    ended_is = ended-is;
  }

  -- ---- what it holds after the cycle shows that
  kept-marks : {A : Type 0} (f : RouterMarks → A) → f d.marks ≡ f (record m { port_turn = d.marks.port_turn; to_port = d.marks.to_port })
  kept-marks f = ap f d.switched.rest

  owned-is : ShowsOwned (width + 1) vcs n.inputs.active h.out_port h.out_vc marks
  owned-is = record {
    sends = record {
      port = λ i is. d.owned.sends.port i (active-owning i is).0;
      vc = λ i is. d.owned.sends.vc i (active-owning i is).0;
      taken = λ i is. kept-marks (λ x. x.taken i) ∙ d.owned.sends.taken i (active-owning i is).0;
      to_port = λ i q is l.
          let own = (active-owning i is).0 in
          to_port-is q i l (owning-below i own) ∙ active-keeps q i l is ∙ d.owned.sends.to_port i q own l;
    };
    only = λ q i is. (and_parts (has_bit (d.marks.to_port q) i) (has_bit n.inputs.active i) (sym (both_members (d.marks.to_port q) n.inputs.active i) ∙ is)).1;
    owner = λ i is. kept-marks (λ x. x.owner (h.out_port i * vcs + h.out_vc i)) ∙ d.owned.owner i (active-owning i is).0;
  }

  marks-are : ShowsMarks (width + 1) vcs n marks
  marks-are = record {
    set = kept-marks (λ x. x.set) ∙ d.set ∙ sym (ap (λ (x : Held). x.set) c.rest);
    turn = kept-marks (λ x. x.turn) ∙ d.turn ∙ sym (ap (λ (x : Held). x.turn) c.rest);
    packet = kept-marks (λ x. x.packet) ∙ d.held_packet ∙ sym (ap (λ (x : Held). x.packet) c.rest);
    owned = coe 0 1 (x. ShowsOwned (width + 1) vcs n.inputs.active (sym c.rest x).out_port (sym c.rest x).out_vc marks) owned-is;
    outputs = subst (λ (x : ℕ → ℕ). ShowsOutputs (width + 1) vcs x marks) (sym (ap (λ (x : Held). x.pointers) c.rest)) d.pointers;
  }

  waits-is : n.waiting ≡ n.inputs.waiting
  waits-is =
      ap (λ (x : Held). x.waiting) c.rest ∙ d.waiting
      ∙ ap₂ (λ g x. bit_or (less g granted) x) (shows.waiting ∙ sym (ap (λ x. x.waiting) d.inputs)) refl
      ∙ sym (of-settled (λ (x : Column). x.waiting))

  source-is : s.source ≡ n.source
  source-is = shows.source ∙ sym d.source ∙ sym (ap (λ (x : Held). x.source) c.rest)

  -- ---- its verdicts
  abbrev told : ByVerdict
  told = lane_verdicts s.filled decided.picked e.heads e.granted d.chosen.lost e.moved s.column

  told-is : (f : Verdicts ℕ → ℕ) → f w ≡ f (record { active = h.inputs.active; no_credit = v.no_credit; moved = bit_and decided.picked decided.sends })
  told-is f = ap f c.settles.verdicts

  no_credit-is : lane_no_credit s.filled s.column ≡ w.no_credit
  no_credit-is = sym shows.no_credit_is ∙ sym (told-is (λ x. x.no_credit))

  lost_input-is : less (lane_ready s.filled s.column) decided.picked ≡ less standing.ready decided.picked
  lost_input-is = ap (λ x. less x decided.picked) (sym shows.ready)

  lost_switch-is : less decided.picked e.moved ≡ less decided.picked w.moved
  lost_switch-is = ap (less decided.picked) (sym moved-is)

  w-active : s.column.active ≡ w.active
  w-active = active-was ∙ sym (told-is (λ x. x.active))

  -- who owns an output channel, misses no credit and is not ready has no flit
  no_flit-is : lane_no_flit s.filled s.column ≡ less w.active (bit_or w.no_credit standing.ready)
  no_flit-is =
      same-word _ _ (λ k. less_members s.column.active s.filled k ∙ by (has_bit s.column.active k) (has_bit s.filled k) (has_bit s.column.supplied k) ∙ sym (second k))
      ∙ ap₂ less w-active (ap₂ bit_or no_credit-is (sym shows.ready))
    where
      ready : ℕ
      ready = lane_ready s.filled s.column

      by : (x f u : Bool) → (x && not f) ≡ (x && not (((x && f) && not ((x && f) && u)) || ((x && f) && u)))
      by false f u = refl
      by true false u = refl
      by true true true = refl
      by true true false = refl

      filled : (k : ℕ) → has_bit (bit_and s.column.active s.filled) k ≡ (has_bit s.column.active k && has_bit s.filled k)
      filled k = both_members s.column.active s.filled k

      readies : (k : ℕ) → has_bit ready k ≡ ((has_bit s.column.active k && has_bit s.filled k) && has_bit s.column.supplied k)
      readies k = both_members (bit_and s.column.active s.filled) s.column.supplied k ∙ ap (λ b. b && has_bit s.column.supplied k) (filled k)

      second : (k : ℕ) → has_bit (less s.column.active (bit_or (lane_no_credit s.filled s.column) ready)) k
          ≡ (has_bit s.column.active k
          && not (((has_bit s.column.active k && has_bit s.filled k) && not ((has_bit s.column.active k && has_bit s.filled k) && has_bit s.column.supplied k))
          || ((has_bit s.column.active k && has_bit s.filled k) && has_bit s.column.supplied k)))
      second k =
          less_members s.column.active _ k
          ∙ ap (λ b. has_bit s.column.active k && not b)
          (either_members (lane_no_credit s.filled s.column) ready k
          ∙ ap₂ (λ x y. x || y) (less_members (bit_and s.column.active s.filled) ready k ∙ ap₂ (λ x y. x && not y) (filled k) (readies k)) (readies k))

  -- who waits afterwards, has not come to wait and has not lost one finds no idle output channel
  no_idle-is : less s.column.waiting (bit_or e.granted d.chosen.lost) ≡ less n.inputs.waiting (bit_or standing.heads lost)
  no_idle-is = same-word _ _ (λ k. first k ∙ by (has_bit s.column.waiting k) (has_bit granted k) (has_bit lost k) (has_bit standing.heads k) (heads k) ∙ sym (second k))
    where
      heads : (k : ℕ) → has_bit standing.heads k ≡ true → has_bit s.column.waiting k ≡ false
      heads k is = free (has_bit s.column.waiting k) refl (and_parts (has_bit s.filled k) (not (has_bit (bit_or s.column.waiting s.column.active) k)) (sym (less_members s.filled (bit_or s.column.waiting s.column.active) k) ∙ ap (λ x. has_bit x k) (sym shows.heads) ∙ is)).1
        where
          free : (b : Bool) → has_bit s.column.waiting k ≡ b → not (has_bit (bit_or s.column.waiting s.column.active) k) ≡ true → has_bit s.column.waiting k ≡ false
          free false p q = p
          free true p q = absurd (false≢true (ap not (sym (either_members s.column.waiting s.column.active k ∙ ap (λ b. b || has_bit s.column.active k) p)) ∙ q))

      waits : s.column.waiting ≡ h.inputs.waiting
      waits = ap (λ (x : Column). x.waiting) shows.column ∙ sym (ap (λ x. x.waiting) d.inputs)

      first : (k : ℕ) → has_bit (less s.column.waiting (bit_or e.granted d.chosen.lost)) k ≡ (has_bit s.column.waiting k && not (has_bit granted k || has_bit lost k))
      first k = less_members s.column.waiting (bit_or e.granted d.chosen.lost) k ∙ ap (λ b. has_bit s.column.waiting k && not b) (ap₂ (λ x y. has_bit (bit_or x y) k) (sym granted-is) (sym d.lost_are) ∙ either_members granted lost k)

      by : (x g l y : Bool) → (y ≡ true → x ≡ false) → (x && not (g || l)) ≡ (((x && not g) || y) && not (y || l))
      by true g l true i = absurd (true≢false (i refl))
      by true true l false i = refl
      by true false true false i = refl
      by true false false false i = refl
      by false g l true i = refl
      by false g l false i = refl

      second : (k : ℕ) → has_bit (less n.inputs.waiting (bit_or standing.heads lost)) k ≡ (((has_bit s.column.waiting k && not (has_bit granted k)) || has_bit standing.heads k) && not (has_bit standing.heads k || has_bit lost k))
      second k =
          less_members n.inputs.waiting (bit_or standing.heads lost) k
          ∙ ap₂ (λ x y. x && not y)
          (ap (λ x. has_bit x k) (of-settled (λ (x : Column). x.waiting) ∙ ap (λ x. bit_or (less x granted) standing.heads) (sym waits))
          ∙ either_members (less s.column.waiting granted) standing.heads k
          ∙ ap (λ b. b || has_bit standing.heads k) (less_members s.column.waiting granted k))
          (either_members standing.heads lost k)

  told-sets : told ≡ verdict_sets_by standing decided w n.inputs.waiting granted lost
  told-sets x = record {
    routed = sym heads-is x;
    granted = sym granted-is x;
    moved = sym moved-is x;
    no_flit = no_flit-is x;
    no_idle_channel = no_idle-is x;
    lost_channel = sym d.lost_are x;
    no_credit = no_credit-is x;
    lost_input = lost_input-is x;
    lost_switch = lost_switch-is x;
  }

-- ---- the whole cycle of a router
module _ (pattern : Pattern) (layout : Layout) (starts : List Start) (sets : ℕ → ℕ → ℕ) (cycle : ℕ) (b : Router) (a h n : Held) (standing : Standing ℕ) (decided : Decided ℕ) (granted lost gone arrived : ℕ) (left : Links ℕ)
    (v w : Verdicts ℕ) (comes happens : Bool) (fits : FitsLayout pattern layout) (takes : HasTaken pattern layout starts cycle b a standing v.no_credit comes)
    (d : HasDecidedHeld pattern layout sets (still_of layout starts cycle takes.up b) a h standing decided granted lost left) (c : HasConcludedHeld pattern standing decided granted (record left { credits = gone }) arrived h n v w)
    (happening : happens ≡ (comes || not (nat_eq (bit_or (bit_or standing.heads granted) w.moved) 0))) where
  abbrev s : Still
  s = still_of layout starts cycle takes.up b

  abbrev ports : ℕ
  ports = pattern.table.ports.links.width + 1

  abbrev told-of : ByVerdict
  told-of = lane_verdicts s.filled decided.picked d.effects.heads d.effects.granted d.chosen.lost d.effects.moved s.column

  abbrev marks-of : RouterMarks
  marks-of = marks pattern layout sets s a h n standing decided granted lost gone arrived left v w fits takes.shows d c

  abbrev the-turn : Turn
  the-turn = record {
    column = column_by (links_count pattern) pattern.frame.deep n (less d.supplied d.effects.released);
    marks = marks-of;
    ended = n.inputs.ended;
    source = n.source;
    counts = λ i. with_verdicts told-of i (b.counts i);
    left = record { flits = d.effects.out; tails = d.effects.freed; credits = d.effects.moved };
    grants = granted_in (undecided s) d.chosen;
    arrived = bit_and d.effects.released (d.chosen.marks.to_port (ports - 1));
    found = found_in pattern.table.ports.links.vcs told-of s.filled s.column s.marks;
    happened = not (nat_eq (bit_or (bit_or (bit_or (came_in layout cycle b) d.effects.heads) d.effects.granted) d.effects.moved) 0);
  }

  pub has-worked : HasWorkedHeld pattern layout starts sets cycle b s d.chosen n (verdict_sets_by standing decided w n.inputs.waiting granted lost) (record left { credits = gone }) arrived happens
  has-worked = record {
    turn = the-turn;
    works = record {
      up = takes.up;
      ups = takes.ups;
      up_fits = takes.up_fits;
      before = undecided s;
      chosen = d.chosen;
      picked = decided.picked;
      ahead = n.inputs.ahead;
      effects = d.effects;
      decided = decides pattern layout sets s a h n standing decided granted lost gone arrived left v w fits takes.shows d c;
      source_is = sym (source-is pattern layout sets s a h n standing decided granted lost gone arrived left v w fits takes.shows d c);
      counted = λ i l. refl;
      found_are = λ i l. refl;
      left_is = refl;
      grants_are = λ o l. refl;
      arrived_are = refl;
      happened_is = refl;
    };
    shows = record {
      column = refl;
      marks = marks-are pattern layout sets s a h n standing decided granted lost gone arrived left v w fits takes.shows d c;
      waiting = waits-is pattern layout sets s a h n standing decided granted lost gone arrived left v w fits takes.shows d c;
      ended = refl;
      source = refl;
    };
    leaves = record {
      flits = d.flits;
      tails = d.tails;
      credits = λ o l. c.credits o l ∙ ap (λ x. has_bit x o) moved;
    };
    arrived_is =
        arrived-are pattern layout sets s a h n standing decided granted lost gone arrived left v w fits takes.shows d c
        ∙ (let one : pattern.table.ports.links.width ≡ ports - 1 = omega arith in ap (λ q. bit_and d.effects.released (d.chosen.marks.to_port q)) one);
    counted = λ i. ap (λ x. with_verdicts x i (b.counts i)) (told-sets pattern layout sets s a h n standing decided granted lost gone arrived left v w fits takes.shows d c);
    grants = refl;
    found = λ i. ap (λ x. found_in pattern.table.ports.links.vcs x s.filled s.column s.marks i) (told-sets pattern layout sets s a h n standing decided granted lost gone arrived left v w fits takes.shows d c);
    happened = something ∙ sym happening;
  }
    where
      moved : w.moved ≡ d.effects.moved
      moved = moved-is pattern layout sets s a h n standing decided granted lost gone arrived left v w fits takes.shows d c

      split : (x y z u : ℕ) → not (nat_eq (bit_or (bit_or (bit_or x y) z) u) 0) ≡ (not (nat_eq x 0) || not (nat_eq (bit_or (bit_or y z) u) 0))
      split x y z u =
          ap not (either-zero (bit_or (bit_or x y) z) u ∙ ap (λ p. p && nat_eq u 0) (either-zero (bit_or x y) z ∙ ap (λ p. p && nat_eq z 0) (either-zero x y)))
          ∙ by (nat_eq x 0) (nat_eq y 0) (nat_eq z 0) (nat_eq u 0)
          ∙ sym (ap (λ p. not (nat_eq x 0) || not p) (either-zero (bit_or y z) u ∙ ap (λ p. p && nat_eq u 0) (either-zero y z)))
        where
          by : (p q r t : Bool) → not (((p && q) && r) && t) ≡ (not p || not ((q && r) && t))
          by true q r t = refl
          by false q r t = refl

      something : the-turn.happened ≡ (comes || not (nat_eq (bit_or (bit_or standing.heads granted) w.moved) 0))
      something =
          split (came_in layout cycle b) d.effects.heads d.effects.granted d.effects.moved
          ∙ (λ x. sym takes.happened x
          || not (nat_eq (bit_or
          (bit_or (sym (heads-is pattern layout sets s a h n standing decided granted lost gone arrived left v w fits takes.shows d c) x)
          (sym (granted-is pattern layout sets s a h n standing decided granted lost gone arrived left v w fits takes.shows d c) x))
          (sym moved x)) 0))

pub worked-through : (pattern : Pattern) (layout : Layout) (starts : List Start) (sets : ℕ → ℕ → ℕ) (cycle : ℕ) (b : Router) (n : Held) (x : Worked) (happens : Bool) (goes : HasGoneThrough pattern layout starts sets cycle b n x happens)
    → FitsLayout pattern layout
    → HasWorkedHeld pattern layout starts sets cycle b (still_of layout starts cycle goes.takes.up b) goes.decides.chosen n (verdict_sets_by x.standing x.decided x.verdicts n.inputs.waiting x.granted x.lost) x.left x.arrived happens
worked-through pattern layout starts sets cycle b n x happens goes fits =
    let concludes = coe 0 1 (y. HasConcludedHeld pattern x.standing x.decided x.granted (goes.sent_is y) x.arrived goes.chosen n goes.before x.verdicts) goes.concludes in
    coe 0 1
    (y. HasWorkedHeld pattern layout starts sets cycle b (still_of layout starts cycle goes.takes.up b) goes.decides.chosen n (verdict_sets_by x.standing x.decided x.verdicts n.inputs.waiting x.granted x.lost) (sym goes.sent_is y) x.arrived happens)
    (has-worked pattern layout starts sets cycle b goes.still goes.chosen n x.standing x.decided x.granted x.lost x.left.credits x.arrived goes.sent goes.before x.verdicts goes.comes happens fits goes.takes goes.decides concludes goes.happened)
