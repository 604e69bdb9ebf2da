-- A router of a block that has taken what comes is still.
use Rattle.std.proofs.Common.{◌≡◌, ◌⊎◌, ℕ, ◌+◌, ◌*◌, ◌<◌, ◌≤◌, Bool, true, false, List, [], ◌∷◌, ap, ap₂, sym, ◌∙◌, subst, refl, inl, inr, bit_and, bit_or, bit_xor}
use Rattle.std.specs.Prelude.{◌&&◌, ◌||◌, not, nat_eq, nat_le, nat_lt, if◌then◌else◌}
use Rattle.std.proofs.lemmas.Bool.{cases_Bool}
use Rattle.noc_sets.specs.Counts.{ByVerdict}
use Rattle.noc_sets.specs.Cycle.{Links as Bits, Router, begins_in, ready_source, still_of, went_in}
use Rattle.noc_sets.specs.Passes.{injecting_after, lane_injected, with_first}
use Rattle.noc_sets.specs.Planes.{more_than_one, plane_number, raised_by}
use Rattle.noc_sets.specs.Sets.{differ}
use Rattle.noc_sets.specs.Source.{packet_begun, sent_source}
use Rattle.noc_sets.proofs.MemberLemmas.{or-false, or-none, xor_members, zero_members}
use Rattle.noc_sets.proofs.PlaneLemmas.{any-members}
use Rattle.noc_columns.specs.Steps.{Lands}
use Rattle.noc_columns.specs.Supply.{is_fed}
use Rattle.noc_columns.specs.Switch.{channels_at}
use Rattle.noc_columns.proofs.TableLemmas.{or-joined}
use Rattle.noc_cycles.proofs.Common.{and_parts, cases_lt, eqb-true, true≢false, has_bit, both_members, either_members, has_bit-zero, RouterMarks, Still, Layout, any_from, wrong_from, less, lowest, up_by, Start, less_members, same-word, up_none, ShowsOwned, port_at, list_of, all_of, Outputs, Planes, Links, Inputs, Standing, blank, Held, ShowsStill, FitsLayout, Pattern}
use Rattle.noc_cycles.specs.Held.{ShowsHeld, ShowsMarks, column_by}
use Rattle.noc_cycles.specs.May.{MayTake, owned_by, with_credit}
use Rattle.noc_cycles.specs.Taking.{HasCredits, HasInjected, HasTaken, begins_held, ready_held, went_held}
use Rattle.noc_cycles.proofs.UpLemmas.{supplied-now, up-fits, up-owners, up_of}

-- ---- a head that comes to an empty buffer is its first flit
-- where `first` is neither among the set nor in the lowest plane
pub raised-first : (plane : ℕ) (planes : List ℕ) (set first : ℕ) → ((k : ℕ) → has_bit first k ≡ true → (has_bit set k ≡ false) × (has_bit plane k ≡ false))
    → raised_by (plane ∷ planes) (bit_or set first) ≡ with_first first (raised_by (plane ∷ planes) set)
raised-first plane planes set first apart = ap₂ (λ x y. x ∷ raised_by planes y) lowest-plane carried
  where
    lowest-plane : bit_xor plane (bit_or set first) ≡ bit_or (bit_xor plane set) first
    lowest-plane = same-word _ _ (λ k.
        xor_members plane (bit_or set first) k
        ∙ ap (differ (has_bit plane k)) (either_members set first k)
        ∙ at k (cases_Bool (has_bit first k))
        ∙ ap (λ b. b || has_bit first k) (sym (xor_members plane set k))
        ∙ sym (either_members (bit_xor plane set) first k))
      where
        past : (a b f : Bool) → f ≡ false → differ a (b || f) ≡ (differ a b || f)
        past true true false e = refl
        past true false false e = refl
        past false true false e = refl
        past false false false e = refl
        past a b true e = absurd (true≢false e)

        at : (k : ℕ) → (has_bit first k ≡ true) ⊎ (has_bit first k ≡ false) → differ (has_bit plane k) (has_bit set k || has_bit first k) ≡ (differ (has_bit plane k) (has_bit set k) || has_bit first k)
        at k (inl e) = rw (e, (apart k e).0, (apart k e).1) refl
        at k (inr e) = past (has_bit plane k) (has_bit set k) (has_bit first k) e

    carried : bit_and (bit_or set first) plane ≡ bit_and set plane
    carried = same-word _ _ (λ k. both_members (bit_or set first) plane k ∙ ap (λ b. b && has_bit plane k) (either_members set first k) ∙ at k (cases_Bool (has_bit first k)) ∙ sym (both_members set plane k))
      where
        at : (k : ℕ) → (has_bit first k ≡ true) ⊎ (has_bit first k ≡ false) → ((has_bit set k || has_bit first k) && has_bit plane k) ≡ (has_bit set k && has_bit plane k)
        at k (inl e) = rw (e, (apart k e).0, (apart k e).1) refl
        at k (inr e) = rw e (ap (λ b. b && has_bit plane k) (or-false (has_bit set k)))

-- the planes behind the lowest
abbrev list_of_rest : Bool → Planes ℕ → List ℕ
list_of_rest deep planes = planes.twos ∷ planes.fours ∷ (if deep then planes.eights ∷ planes.sixteens ∷ [] else [])

none-first : (plane : ℕ) (planes : List ℕ) (k : ℕ) → has_bit (any_from 0 (plane ∷ planes)) k ≡ false → has_bit plane k ≡ false
none-first plane planes k none =
    let both = or-none (has_bit (bit_or 0 plane) k) (nat_lt 0 (plane_number planes k)) (sym (any-members (bit_or 0 plane) planes k) ∙ none) in
    (or-none (has_bit 0 k) (has_bit plane k) (sym (either_members 0 plane k) ∙ both.0)).1

pub apart-begins : (layout : Layout) (all n cycle due injecting waiting active : ℕ) (len : List ℕ) (k : ℕ) → layout.local ≡ up_by all n
    → has_bit (lowest (if nat_le due cycle && nat_eq injecting 0 then less layout.local (bit_or (bit_or waiting active) (any_from 0 len)) else 0)) k ≡ true
    → (n ≤ k) × (injecting ≡ 0) × (has_bit (any_from 0 len) k ≡ false)
apart-begins layout all n cycle due injecting waiting active len k is e = at (nat_le due cycle && nat_eq injecting 0) refl
  where
    free : ℕ
    free = less layout.local (bit_or (bit_or waiting active) (any_from 0 len))

    busy-none : (a b : Bool) → not (a || b) ≡ true → b ≡ false
    busy-none true b f = absurd (true≢false (sym f))
    busy-none false true f = absurd (true≢false (sym f))
    busy-none false false f = refl

    at : (b : Bool) → (nat_le due cycle && nat_eq injecting 0) ≡ b → (n ≤ k) × (injecting ≡ 0) × (has_bit (any_from 0 len) k ≡ false)
    at false f = absurd (true≢false
        (sym (ap (λ b. has_bit (lowest (if b then less layout.local (bit_or (bit_or waiting active) (any_from 0 len)) else 0)) k) (sym f) ∙ e) ∙ zero_members k))
    at true f =
        let here : has_bit (lowest (less layout.local (bit_or (bit_or waiting active) (any_from 0 len)))) k ≡ true =
        ap (λ b. has_bit (lowest (if b then less layout.local (bit_or (bit_or waiting active) (any_from 0 len)) else 0)) k) (sym f) ∙ e in
        let member = (and_parts _ _ (sym (less_members (less layout.local (bit_or (bit_or waiting active) (any_from 0 len))) _ k) ∙ here)).0 in
        let parts = and_parts _ _ (sym (less_members layout.local (bit_or (bit_or waiting active) (any_from 0 len)) k) ∙ member) in (
          elim (cases_lt k n) [
            | inl l ↦ absurd (true≢false (sym parts.0 ∙ ap (λ w. has_bit w k) is ∙ up_none all n k l))
            | inr m ↦ m
          ],
          eqb-true injecting 0 (and_parts (nat_le due cycle) (nat_eq injecting 0) f).1,
          busy-none (has_bit (bit_or waiting active) k) (has_bit (any_from 0 len) k) (ap not (sym (either_members (bit_or waiting active) (any_from 0 len) k)) ∙ parts.1),
        )

module _ (pattern : Pattern) (layout : Layout) (fits : FitsLayout pattern layout) (starts : List Start) (cycle : ℕ) (h : Held) (m : RouterMarks) (sup : ℕ) (counts : ℕ → ByVerdict) (came : Links ℕ)
    (marks : ShowsMarks (pattern.table.ports.links.width + 1) pattern.table.ports.links.vcs h m) (waits : h.waiting ≡ h.inputs.waiting)
    (had : (i : ℕ) → i < (pattern.table.ports.links.width + 1) * pattern.table.ports.links.vcs
    → has_bit sup i
    ≡ (has_bit h.inputs.active i
    && is_fed pattern.table.ports.links.width (with_credit pattern.table.ports.links.vcs (list_of pattern.frame.deep h.outputs.credit)) (h.out_port i) (h.out_vc i)))
    (busy : (i : ℕ) → has_bit h.inputs.active i ≡ true
    → (has_bit h.idle (owned_by pattern.table.ports.links.vcs h i) ≡ false) × (has_bit h.outputs.draining (owned_by pattern.table.ports.links.vcs h i) ≡ false))
    (owner : (o : ℕ) → o < pattern.table.ports.links.width * pattern.table.ports.links.vcs → has_bit came.credits o ≡ true → has_bit h.idle o ≡ false → has_bit h.outputs.draining o ≡ false
    → (i : ℕ) × (has_bit h.inputs.active i ≡ true) × (owned_by pattern.table.ports.links.vcs h i ≡ o))
    (below : (i : ℕ) → has_bit h.inputs.active i ≡ true → i < (pattern.table.ports.links.width + 1) * pattern.table.ports.links.vcs)
    (link-flits : (k : ℕ) → pattern.table.ports.links.width * pattern.table.ports.links.vcs ≤ k → has_bit came.flits k ≡ false)
    (link-credits : (o : ℕ) → has_bit came.credits o ≡ true → o < pattern.table.ports.links.width * pattern.table.ports.links.vcs)
    (a d n : Held) (supplied flits tails x no_credit : ℕ) (s t : Standing ℕ) (comes : Bool)
    (credits : HasCredits pattern layout came.credits h a supplied) (injects : HasInjected pattern layout starts cycle came a d flits tails)
    (lands : Lands pattern.frame.deep (record { flits = flits; tails = tails; credits = x }) d.inputs n.inputs s t no_credit) (s_is : s.supplied ≡ supplied) (rest : n ≡ record d { inputs = n.inputs })
    (comes_is : comes ≡ not (nat_eq (bit_or flits came.credits) 0)) where
  abbrev deep : Bool
  deep = pattern.frame.deep

  abbrev ls : ℕ
  ls = pattern.table.ports.links.width * pattern.table.ports.links.vcs

  -- the words of the router before
  abbrev pub router_of : Router
  router_of = record {
    column = column_by (pattern.table.ports.links.width * pattern.table.ports.links.vcs) pattern.frame.deep h sup;
    marks = m;
    ended = h.inputs.ended;
    links = record { flits = came.flits; tails = came.tails; credits = came.credits };
    source = h.source;
    counts = counts;
  }

  abbrev up : ℕ
  up = up_of pattern h m came.credits sup marks.owned below busy

  abbrev still : Still
  still = still_of layout starts cycle up router_of

  abbrev begins : ℕ
  begins = begins_in layout cycle router_of

  abbrev injected : ℕ
  injected = lane_injected layout.places (column_by (pattern.table.ports.links.width * pattern.table.ports.links.vcs) pattern.frame.deep h sup)

  inputs-kept : d.inputs ≡ h.inputs
  inputs-kept = ap (λ (k : Held). k.inputs) injects.rest ∙ ap (λ (k : Held). k.inputs) credits.rest

  waiting-is : n.inputs.waiting ≡ h.inputs.waiting
  waiting-is = ap (λ (i : Inputs ℕ). i.waiting) lands.ended ∙ ap (λ (i : Inputs ℕ). i.waiting) inputs-kept

  active-is : n.inputs.active ≡ h.inputs.active
  active-is = ap (λ (i : Inputs ℕ). i.active) lands.ended ∙ ap (λ (i : Inputs ℕ). i.active) inputs-kept

  ahead-is : n.inputs.ahead ≡ h.inputs.ahead
  ahead-is = ap (λ (i : Inputs ℕ). i.ahead) lands.ended ∙ ap (λ (i : Inputs ℕ). i.ahead) inputs-kept

  flits-are : flits ≡ bit_or (bit_or came.flits injected) (lowest begins)
  flits-are = injects.flits_are ∙ ap (λ k. bit_or came.flits (went_held pattern layout cycle k)) credits.rest ∙ sym (or-joined came.flits injected (lowest begins))

  apart : (k : ℕ) → has_bit (lowest begins) k ≡ true → (has_bit (bit_or came.flits injected) k ≡ false) × (has_bit h.inputs.len.ones k ≡ false)
  apart k e =
      let free = apart-begins layout (all_of (port_at pattern.table.ports.local 0)) ls cycle h.source.due (up_by h.injecting ls) h.inputs.waiting h.inputs.active (list_of deep h.inputs.len) k fits.local e in (
        either_members came.flits injected k
            ∙ ap₂ (λ y z. y || z) (link-flits k free.0)
            (both_members (up_by h.injecting ls) _ k ∙ ap (λ w. has_bit w k && has_bit (wrong_from 0 (list_of deep h.inputs.len) layout.places) k) free.1 ∙ ap (λ b. b && has_bit (wrong_from 0 (list_of deep h.inputs.len) layout.places) k) (has_bit-zero k)),
        none-first h.inputs.len.ones (list_of_rest deep h.inputs.len) k free.2,
      )

  len-is : list_of pattern.frame.deep n.inputs.len ≡ still.column.len
  len-is =
      lands.len
      ∙ ap₂ (λ (i : Inputs ℕ) w. raised_by (list_of pattern.frame.deep i.len) w) inputs-kept flits-are
      ∙ raised-first h.inputs.len.ones (list_of_rest deep h.inputs.len) (bit_or came.flits injected) (lowest begins) apart

  injecting-is : up_by n.injecting ls ≡ still.column.injecting
  injecting-is =
      ap (λ (k : Held). up_by k.injecting ls) rest
      ∙ injects.injecting
      ∙ ap (λ k. injecting_after (went_held pattern layout cycle k) (ready_held pattern layout starts cycle k).left (bit_or (up_by k.injecting ls) (lowest (begins_held pattern layout cycle k)))) credits.rest

  wanted-is : n.wanted ≡ h.wanted
  wanted-is = ap (λ (k : Held). k.wanted) rest ∙ ap (λ (k : Held). k.wanted) injects.rest ∙ ap (λ (k : Held). k.wanted) credits.rest

  outputs-kept : n.outputs ≡ a.outputs
  outputs-kept = ap (λ (k : Held). k.outputs) rest ∙ ap (λ (k : Held). k.outputs) injects.rest

  idle-is : n.idle ≡ still.column.idle
  idle-is = ap (λ (k : Held). k.idle) rest ∙ ap (λ (k : Held). k.idle) injects.rest ∙ credits.idle

  draining-is : n.outputs.draining ≡ still.column.draining
  draining-is = ap (λ (o : Outputs ℕ). o.draining) outputs-kept ∙ credits.draining

  credit-is : list_of pattern.frame.deep n.outputs.credit ≡ still.column.credit
  credit-is = ap (λ (o : Outputs ℕ). list_of pattern.frame.deep o.credit) outputs-kept ∙ credits.credit

  column-is : still.column ≡ column_by (pattern.table.ports.links.width * pattern.table.ports.links.vcs) pattern.frame.deep n still.column.supplied
  column-is = λ i. record {
    waiting = sym waiting-is i;
    active = sym active-is i;
    len = sym len-is i;
    supplied = bit_or sup up;
    ahead = sym ahead-is i;
    wanted = sym wanted-is i;
    idle = sym idle-is i;
    draining = sym draining-is i;
    credit = sym credit-is i;
    injecting = sym injecting-is i;
  }

  ended-is : n.inputs.ended ≡ still.ended
  ended-is =
      ap (λ (i : Inputs ℕ). i.ended) lands.ended
      ∙ ap₂ (λ (i : Inputs ℕ) w. bit_or i.ended w) inputs-kept
      (injects.tails_are
      ∙ ap (λ k. bit_or came.tails (if nat_eq (ready_held pattern layout starts cycle k).left 1 then went_held pattern layout cycle k else 0)) credits.rest)
      ∙ sym (or-joined h.inputs.ended came.tails (if nat_eq (ready_source layout starts cycle router_of).left 1 then went_in layout cycle router_of else 0))

  -- ---- what its channels can do
  filled-is : bit_or (any_from 0 (list_of pattern.frame.deep d.inputs.len)) flits ≡ still.filled
  filled-is =
      ap₂ (λ (i : Inputs ℕ) w. bit_or (any_from 0 (list_of pattern.frame.deep i.len)) w) inputs-kept flits-are
      ∙ sym (or-joined (any_from 0 (list_of deep h.inputs.len)) (bit_or came.flits injected) (lowest begins))

  heads-are : t.heads ≡ less still.filled (bit_or h.inputs.waiting h.inputs.active)
  heads-are = lands.heads blank ∙ ap₂ (λ f (i : Inputs ℕ). less f (bit_or i.waiting i.active)) filled-is inputs-kept

  -- what does not drain does not when credits have come
  still-kept : (o : ℕ) → has_bit h.outputs.draining o ≡ false → has_bit a.outputs.draining o ≡ false
  still-kept o kept =
      let wrong = wrong_from 0 (raised_by (list_of deep h.outputs.credit) came.credits) layout.places in
      ap (λ w. has_bit w o) credits.draining
      ∙ xor_members h.outputs.draining (less h.outputs.draining wrong) o
      ∙ ap₂ differ kept (less_members h.outputs.draining wrong o ∙ ap (λ b. b && not (has_bit wrong o)) kept)

  supplied-is : (i : ℕ) → has_bit h.inputs.active i ≡ true → has_bit supplied i ≡ has_bit (bit_or sup up) i
  supplied-is = supplied-now pattern h m came.credits sup marks.owned below busy supplied had (λ i l port vc kept. credits.fed i l port vc (still-kept (owned_by pattern.table.ports.links.vcs h i) kept))

  ready-are : t.ready ≡ bit_and (bit_and h.inputs.active still.filled) (bit_or sup up)
  ready-are =
      lands.ready blank
      ∙ (λ i. bit_and (bit_and (inputs-kept i).active (filled-is i)) (s_is i))
      ∙ same-word _ _ (λ k. both_members (bit_and h.inputs.active still.filled) supplied k ∙ at k (cases_Bool (has_bit h.inputs.active k)) ∙ sym (both_members (bit_and h.inputs.active still.filled) (bit_or sup up) k))
    where
      at : (k : ℕ) → (has_bit h.inputs.active k ≡ true) ⊎ (has_bit h.inputs.active k ≡ false)
          → (has_bit (bit_and h.inputs.active still.filled) k && has_bit supplied k) ≡ (has_bit (bit_and h.inputs.active still.filled) k && has_bit (bit_or sup up) k)
      at k (inl e) = ap (λ b. has_bit (bit_and h.inputs.active still.filled) k && b) (supplied-is k e)
      at k (inr e) =
          let none : has_bit (bit_and h.inputs.active still.filled) k ≡ false = both_members h.inputs.active still.filled k ∙ ap (λ b. b && has_bit still.filled k) e in
          ap (λ b. b && has_bit supplied k) none ∙ sym (ap (λ b. b && has_bit (bit_or sup up) k) none)

  last-are : (i : ℕ) → has_bit t.last i ≡ (has_bit still.ended i && not (has_bit (more_than_one still.column.len) i))
  last-are i =
      ap (λ w. has_bit w i) lands.last
      ∙ less_members n.inputs.ended (more_than_one (list_of pattern.frame.deep n.inputs.len)) i
      ∙ ap₂ (λ e l. has_bit e i && not (has_bit (more_than_one l) i)) ended-is len-is

  no-credit-are : no_credit ≡ less (bit_and h.inputs.active still.filled) (bit_and (bit_and h.inputs.active still.filled) (bit_or sup up))
  no-credit-are =
      lands.no_credit blank
      ∙ ap₂ less (ap₂ (λ (i : Inputs ℕ) f. bit_and i.active f) inputs-kept filled-is) (sym (lands.ready blank) ∙ ready-are)

  -- ---- its marks
  out-port-is : n.out_port ≡ h.out_port
  out-port-is = ap (λ (k : Held). k.out_port) rest ∙ ap (λ (k : Held). k.out_port) injects.rest ∙ ap (λ (k : Held). k.out_port) credits.rest

  out-vc-is : n.out_vc ≡ h.out_vc
  out-vc-is = ap (λ (k : Held). k.out_vc) rest ∙ ap (λ (k : Held). k.out_vc) injects.rest ∙ ap (λ (k : Held). k.out_vc) credits.rest

  still-owned : ShowsOwned (pattern.table.ports.links.width + 1) pattern.table.ports.links.vcs h.inputs.active h.out_port h.out_vc still.marks
  still-owned = record {
    sends = record { port = marks.owned.sends.port; vc = marks.owned.sends.vc; taken = marks.owned.sends.taken; to_port = marks.owned.sends.to_port };
    only = marks.owned.only;
    owner = marks.owned.owner;
  }

  marks-are : ShowsMarks (pattern.table.ports.links.width + 1) pattern.table.ports.links.vcs n still.marks
  marks-are = record {
    set = marks.set ∙ sym (ap (λ (k : Held). k.set) rest ∙ ap (λ (k : Held). k.set) injects.rest ∙ ap (λ (k : Held). k.set) credits.rest);
    turn = marks.turn ∙ sym (ap (λ (k : Held). k.turn) rest ∙ ap (λ (k : Held). k.turn) injects.rest ∙ ap (λ (k : Held). k.turn) credits.rest);
    packet =
        ap (packet_begun starts begins h.source) marks.packet
        ∙ sym
        (ap (λ (k : Held). k.packet) rest
        ∙ injects.packet
        ∙ ap (λ k. packet_begun starts (begins_held pattern layout cycle k) k.source k.packet) credits.rest);
    owned = coe 0 1 (i. ShowsOwned (pattern.table.ports.links.width + 1) pattern.table.ports.links.vcs (sym active-is i) (sym out-port-is i) (sym out-vc-is i) still.marks) still-owned;
    outputs = λ q l. marks.outputs q l ∙ ap (λ (f : ℕ → ℕ). channels_at (pattern.table.ports.links.width + 1) pattern.table.ports.links.vcs (f q)) (sym pointers-are);
  }
    where
      pointers-are : n.pointers ≡ h.pointers
      pointers-are = ap (λ (k : Held). k.pointers) rest ∙ ap (λ (k : Held). k.pointers) injects.rest ∙ ap (λ (k : Held). k.pointers) credits.rest

  waiting-kept : n.waiting ≡ h.waiting
  waiting-kept = ap (λ (k : Held). k.waiting) rest ∙ ap (λ (k : Held). k.waiting) injects.rest ∙ ap (λ (k : Held). k.waiting) credits.rest

  source-is : still.source ≡ n.source
  source-is =
      sym
      (ap (λ (k : Held). k.source) rest
      ∙ injects.source
      ∙ ap (λ k. sent_source starts (went_held pattern layout cycle k) (ready_held pattern layout starts cycle k)) credits.rest)

  pub is-still : ShowsStill pattern n t no_credit still
  is-still = record {
    column = column-is;
    marks = marks-are;
    waiting = waiting-kept ∙ waits ∙ sym waiting-is;
    ended = sym ended-is;
    source = source-is;
    heads = heads-are;
    ready = ready-are;
    last = last-are;
    no_credit_is = no-credit-are;
  }

  pub is-taken : HasTaken pattern layout starts cycle router_of n t no_credit comes
  is-taken = record {
    up = up;
    ups = up-owners pattern h m came.credits sup marks.owned below busy link-credits owner;
    up_fits = up-fits pattern h m came.credits sup marks.owned below busy;
    shows = is-still;
    happened = comes_is ∙ ap (λ f. not (nat_eq (bit_or f came.credits) 0)) flits-are;
  }

-- ---- the words of a router
pub has-taken : (pattern : Pattern) (layout : Layout) (fits : FitsLayout pattern layout) (starts : List Start) (cycle : ℕ) (h : Held) (b : Router) (came : Links ℕ) → ShowsHeld pattern h came b → MayTake pattern starts h b
    → ((i : ℕ) → has_bit h.inputs.active i ≡ true → i < (pattern.table.ports.links.width + 1) * pattern.table.ports.links.vcs)
    → ((k : ℕ) → pattern.table.ports.links.width * pattern.table.ports.links.vcs ≤ k → has_bit came.flits k ≡ false)
    → ((o : ℕ) → has_bit came.credits o ≡ true → o < pattern.table.ports.links.width * pattern.table.ports.links.vcs)
    → (a d n : Held) (supplied flits tails x no_credit : ℕ) (s t : Standing ℕ) (comes : Bool)
    → HasCredits pattern layout came.credits h a supplied → HasInjected pattern layout starts cycle came a d flits tails
    → Lands pattern.frame.deep (record { flits = flits; tails = tails; credits = x }) d.inputs n.inputs s t no_credit → s.supplied ≡ supplied → n ≡ record d { inputs = n.inputs }
    → comes ≡ not (nat_eq (bit_or flits came.credits) 0)
    → HasTaken pattern layout starts cycle b n t no_credit comes
has-taken pattern layout fits starts cycle h b came shows may below link-flits link-credits a d n supplied flits tails x no_credit s t comes credits injects lands s_is rest comes_is =
    subst (λ y. HasTaken pattern layout starts cycle y n t no_credit comes)
    (λ i. record b { column = sym shows.column i; ended = sym shows.ended i; links = sym shows.links_are i; source = sym shows.source i })
    (is-taken pattern layout fits starts cycle h b.marks b.column.supplied b.counts came shows.marks shows.waiting may.supplied may.busy
    (λ o l c idle draining. may.owned o l (ap (λ (w : Bits). has_bit w.credits o) shows.links_are ∙ c) idle draining)
    below link-flits link-credits a d n supplied flits tails x no_credit s t comes credits injects lands s_is rest comes_is)
