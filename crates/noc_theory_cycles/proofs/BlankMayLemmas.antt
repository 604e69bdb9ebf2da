-- A router of a block that the network does not have has what each part of a cycle asks for, and
-- what it holds shows that.
use Rattle.std.proofs.Common.{◌≡◌, ℕ, ◌+◌, ◌-◌, ◌*◌, ◌<◌, Bool, true, false, List, ap, arith, refl, subst, sym, ◌∙◌}
use Rattle.std.specs.Prelude.{nat_lt}
use Rattle.std.proofs.lemmas.Bool.{and_left, and_parts, false≢true, ltb-true}
use Rattle.noc_packet.specs.Set.{has_bit}
use Rattle.noc_packet.proofs.SetLemmas.{has_bit-zero, zero_from_none}
use Rattle.noc_alloc.specs.Members.{MembersAreBelow}
use Rattle.noc_sets.specs.Column.{Column}
use Rattle.noc_sets.specs.Cycle.{Router, still_of}
use Rattle.noc_sets.specs.Layout.{Layout}
use Rattle.noc_sets.specs.Planes.{any_from}
use Rattle.noc_sets.specs.Sets.{up_by}
use Rattle.noc_sets.specs.Source.{NEVER, Source, Start}
use Rattle.noc_sets.proofs.MemberLemmas.{up_members}
use Rattle.noc_columns.specs.Planes.{list_of}
use Rattle.noc_columns.specs.declared.channels.Decided.{Decided}
use Rattle.noc_columns.specs.declared.channels.Inputs.{Inputs}
use Rattle.noc_columns.specs.declared.channels.Links.{Links}
use Rattle.noc_columns.specs.declared.channels.Outputs.{Outputs}
use Rattle.noc_columns.specs.declared.channels.Standing.{Standing}
use Rattle.noc_columns.proofs.SetLemmas.{below-members}
use Rattle.noc_cycles.specs.Deciding.{HasDecidedHeld}
use Rattle.noc_cycles.specs.Held.{Held, ShowsHeld}
use Rattle.noc_cycles.specs.Taking.{HasTaken}
use Rattle.noc_cycles.specs.May.{MayConclude, MayDecide, MayInject, MayTake}
use Rattle.noc_cycles.specs.Opened.{HoldsNothing, router_of}
use Rattle.noc_cycles.specs.declared.first.First.{First}
use Rattle.noc_cycles.specs.declared.pattern.Pattern.{Pattern}
use Rattle.noc_theory_cycles.specs.Blank.{HoldsBlank, IsBlank, channels_count}
use Rattle.noc_theory_cycles.proofs.BlankLemmas.{no-heads, idle-stays, nothing-ready}
use Rattle.noc_theory_cycles.proofs.NoneLemmas.{no-member}

-- ---- what it holds
-- a set is empty where it is after it has moved up
up-empty : (a links : ℕ) → up_by a links ≡ 0 → a ≡ 0
up-empty a links none = zero_from_none a (λ k.
    let back : links + k - links ≡ k = omega arith in
    sym (ap (has_bit a) back) ∙ sym (up_members a links (links + k) (omega arith)) ∙ ap (λ w. has_bit w (links + k)) none ∙ has_bit-zero (links + k))

pub no-shift : (links : ℕ) → up_by 0 links ≡ 0
no-shift links = omega arith

module _ (pattern : Pattern) (h : Held) (links : Links ℕ) (b : Router) (held : ShowsHeld pattern h links b) (blank : IsBlank (channels_count pattern) b) where
  pub holds-blank : HoldsBlank pattern h
  holds-blank = record {
    waiting = held.waiting ∙ sym (ap (λ (c : Column). c.waiting) held.column) ∙ blank.waiting;
    inputs = sym (ap (λ (c : Column). c.waiting) held.column) ∙ blank.waiting;
    active = sym (ap (λ (c : Column). c.active) held.column) ∙ blank.active;
    flits = sym (ap (λ (c : Column). any_from 0 c.len) held.column) ∙ blank.flits;
    idle = subst (MembersAreBelow (channels_count pattern)) (ap (λ (c : Column). c.idle) held.column) blank.idle;
    draining = sym (ap (λ (c : Column). c.draining) held.column) ∙ blank.draining;
    injecting = up-empty h.injecting (pattern.table.ports.links.width * pattern.table.ports.links.vcs) (sym (ap (λ (c : Column). c.injecting) held.column) ∙ blank.injecting);
    due = sym (ap (λ (s : Source). s.due) held.source) ∙ blank.due;
  }

  -- ---- to take what comes
  pub blank-may-take : (starts : List Start) → MayTake pattern starts h b
  blank-may-take starts = record {
    supplied = λ i u.
        ap (λ w. has_bit w i) blank.supplied ∙ has_bit-zero i
        ∙ sym (and_left (has_bit h.inputs.active i) _ (ap (λ w. has_bit w i) holds-blank.active ∙ has_bit-zero i));
    busy = λ i e. absurd (false≢true (no-member h.inputs.active i holds-blank.active e));
    owned = λ o u came idle draining. absurd (false≢true (no-member b.links.credits o blank.credits_come came));
    one = λ x y ex ey. absurd (false≢true (no-member h.injecting x holds-blank.injecting ex));
    left = λ some. absurd (some holds-blank.injecting);
    queue = λ cycle due soon. let never = holds-blank.due in absurd (omega (arith, due, soon, never));
    due = λ some. absurd (some holds-blank.injecting);
  }

  pub blank-may-inject : (starts : List Start) (n : ℕ) → n < NEVER → MayInject starts n h
  blank-may-inject starts n soon = record {
    one = (blank-may-take starts).one;
    left = (blank-may-take starts).left;
    queue = λ due. (blank-may-take starts).queue n due soon;
  }

-- an opened router without a packet is blank
pub opened-blank : (pattern : Pattern) (one : First) (r : ℕ) (h : Held) → HoldsNothing pattern one r h → one.due ≡ NEVER → HoldsBlank pattern h
opened-blank pattern one r h holds never = record {
  waiting = holds.waiting;
  inputs = ap (λ (i : Inputs ℕ). i.waiting) holds.inputs;
  active = ap (λ (i : Inputs ℕ). i.active) holds.inputs;
  flits = ap (λ (i : Inputs ℕ). any_from 0 (list_of pattern.frame.deep i.len)) holds.inputs ∙ none pattern.frame.deep;
  idle = λ k e. ltb-true k (channels_count pattern) (and_parts (nat_lt k (channels_count pattern)) true (sym (below-members (channels_count pattern) (λ c. true) k) ∙ ap (λ w. has_bit w k) (sym holds.idle) ∙ e)).0;
  draining = ap (λ (o : Outputs ℕ). o.draining) holds.outputs;
  injecting = holds.injecting;
  due = ap (λ (s : Source). s.due) holds.source ∙ never;
}
  where
    none : (deep : Bool) → any_from 0 (list_of deep (record { ones = 0; twos = 0; fours = 0; eights = 0; sixteens = 0 })) ≡ 0
    none true = refl
    none false = refl

-- what holds nothing is of a blank router
pub words-blank : (pattern : Pattern) (h : Held) → HoldsBlank pattern h → IsBlank (channels_count pattern) (router_of pattern h)
words-blank pattern h holds = record {
  waiting = holds.inputs;
  active = holds.active;
  flits = holds.flits;
  supplied = refl;
  idle = holds.idle;
  draining = holds.draining;
  injecting = ap (λ w. up_by w (pattern.table.ports.links.width * pattern.table.ports.links.vcs)) holds.injecting ∙ no-shift (pattern.table.ports.links.width * pattern.table.ports.links.vcs);
  due = holds.due;
  flits_come = refl;
  credits_come = refl;
}

-- ---- once it has taken what comes
module _ (pattern : Pattern) (layout : Layout) (starts : List Start) (n : ℕ) (b : Router) (h : Held) (standing : Standing ℕ) (no_credit : ℕ) (comes : Bool) (soon : n < NEVER) (blank : IsBlank (channels_count pattern) b)
    (taken : HasTaken pattern layout starts n b h standing no_credit comes) where
  heads-none : standing.heads ≡ 0
  heads-none = taken.shows.heads ∙ no-heads layout starts n taken.up b soon (channels_count pattern) blank taken.ups

  waiting-none : h.waiting ≡ 0
  waiting-none = taken.shows.waiting ∙ sym (ap (λ (c : Column). c.waiting) taken.shows.column) ∙ blank.waiting

  active-none : h.inputs.active ≡ 0
  active-none = sym (ap (λ (c : Column). c.active) taken.shows.column) ∙ blank.active

  idle-same : b.column.idle ≡ h.idle
  idle-same = sym (sym (ap (λ (c : Column). c.idle) taken.shows.column) ∙ idle-stays layout starts n taken.up b soon (channels_count pattern) blank taken.ups)

  pub blank-may-decide : (packets nodes node : ℕ) → MayDecide pattern packets nodes node h standing
  blank-may-decide packets nodes node = record {
    waiting = λ k e. absurd (false≢true (no-member h.waiting k waiting-none e));
    idle = subst (MembersAreBelow (channels_count pattern)) idle-same blank.idle;
    apart = λ i e. absurd (false≢true (no-member h.inputs.active i active-none e));
    busy = λ i e. absurd (false≢true (no-member h.inputs.active i active-none e));
    sends = λ i e. absurd (false≢true (nothing-ready layout starts n taken.up b soon (channels_count pattern) blank taken.ups i (ap (λ w. has_bit w i) (sym taken.shows.ready) ∙ e)));
    node_is = λ some. absurd (some heads-none);
    heads = λ k e. absurd (false≢true (no-member standing.heads k heads-none e));
  }

  pub blank-may-conclude : (sets : ℕ → ℕ → ℕ) (d : Held) (decided : Decided ℕ) (granted lost released packets : ℕ) (left : Links ℕ)
      → HasDecidedHeld pattern layout sets (still_of layout starts n taken.up b) h d standing decided granted lost left
      → ((i : ℕ) → has_bit released i ≡ true → has_bit decided.picked i ≡ true) → MayConclude packets d released
  blank-may-conclude sets d decided granted lost released packets left has among = record {
    packet = λ i e. absurd (false≢true (nothing-ready layout starts n taken.up b soon (channels_count pattern) blank taken.ups i (has.picks.among i (among i e))));
  }
