-- What is decided in one router of a block.
use Rattle.std.proofs.Common.{◌≡◌, ◌≢◌, ℕ, ◌+◌, ◌*◌, ◌/◌, ◌%◌, ◌^◌, ◌<◌, Bool, true, false, List, [], ap, sym, ◌∙◌, subst, refl, bit_and, bit_or}
use Rattle.std.specs.Prelude.{not, nat_eq, slice_index, slice_index_or}
use Rattle.noc_sets.specs.Ended.{leads_tail}
use Rattle.noc_sets.specs.Grants.{Allocation}
use Rattle.noc_sets.specs.Moves.{single_in}
use Rattle.noc_sets.specs.Passes.{Effects, lane_heads, lane_ready}
use Rattle.noc_sets.specs.Routed.{HasRouted}
use Rattle.noc_sets.specs.Turns.{ArePast, ArePicked}
use Rattle.noc_sets.proofs.MemberLemmas.{or-left}
use Rattle.noc_columns.specs.Allotted.{Allotment, HasAllotted, allotment_at}
use Rattle.noc_columns.specs.Channels.{decided_by, standing_by}
use Rattle.noc_columns.specs.Heads.{headed_marks, heading_at}
use Rattle.noc_columns.specs.Picks.{HasPick, IsPicked, output_of, port_of}
use Rattle.noc_columns.specs.Supply.{digits_by, number_in}
use Rattle.noc_columns.specs.Switch.{HasTraversed, ShowsSends, leaves_by, picks_in}
use Rattle.noc_columns.specs.Wants.{asks_of}
use Rattle.noc_columns.specs.declared.channels.Decided.{Decided}
use Rattle.noc_columns.specs.declared.given.Grants.{Grants}
use Rattle.noc_columns.specs.declared.marks.Marks.{Marks}
use Rattle.noc_columns.specs.declared.picks.Picks.{Picks}
use Rattle.noc_columns.specs.declared.supply.Sends.{Sends}
use Rattle.noc_columns.specs.declared.switch.Switch.{Switch}
use Rattle.noc_alloc.specs.Members.{MembersAreBelow}
use Rattle.noc_columns.proofs.AllocatedLemmas.{sends-within}
use Rattle.noc_columns.proofs.AllotmentLemmas.{the-allotment}
use Rattle.noc_cycles.proofs.Common.{and_parts, eq-eqb, ne_eqb, has_bit, both_members, either_members, RouterMarks, Still, Layout, less, ShowsOwned, packet_in, channels_of, Numbering, set_of, word, Links, Standing, below-members, Held, ShowsStill, held_at, links_at, Block, Pattern}
use Rattle.noc_cycles.specs.Deciding.{HasDecidedHeld}
use Rattle.noc_cycles.specs.May.{MayDecide}
use Rattle.noc_cycles.proofs.ChoiceLemmas.{choice, chosen, owned, waits-then}
use Rattle.noc_cycles.proofs.SwitchedLemmas.{effects, link-leaves, marks, moved-then, past-then, picked-then, released-then, supplied, switched}

-- what allocation finds of router r, where these are its grants before it, and its losses
abbrev pub found_at : Numbering → Marks → List ℕ → Sends (List ℕ) → List ℕ → ℕ → Allotment
found_at n marks granted sends lost r =
    the-allotment (word r marks.waiting) (word r marks.idle) (word r marks.wanted) (λ k. word k (slice_index_or marks.sets r [])) (λ o. word o (slice_index_or marks.turns r [])) (set_of n r granted) (set_of n r lost)
    (λ k. number_in (digits_by (set_of n r) sends.port) k) (λ k. number_in (digits_by (set_of n r) sends.vc) k)

-- who sends by a virtual channel that a port has still does when output channels are granted
pub sends-then : (pattern : Pattern) (r : ℕ) (block : Block) (granted_before lost_before : List ℕ) → set_of (channels_of pattern.table.ports) r granted_before ≡ 0 → (granting : Marks) (grants : Grants) (lost : List ℕ)
    → (has_bit block.marks.asking r ≡ true
    → HasAllotted pattern.table.ports.links.vcs (found_at (channels_of pattern.table.ports) block.marks granted_before block.grants.sends lost_before r)
    (allotment_at (channels_of pattern.table.ports) granting grants lost r))
    → (has_bit block.marks.asking r ≡ false
    → allotment_at (channels_of pattern.table.ports) granting grants lost r
    ≡ found_at (channels_of pattern.table.ports) block.marks granted_before block.grants.sends lost_before r)
    → MembersAreBelow ((pattern.table.ports.links.width + 1) * pattern.table.ports.links.vcs) (word r block.marks.waiting)
    → (k : ℕ) → (held_at pattern.table.ports block r).out_vc k < pattern.table.ports.links.vcs
    → (allotment_at (channels_of pattern.table.ports) granting grants lost r).out_vc k < pattern.table.ports.links.vcs
sends-then pattern r block granted_before lost_before clear granting grants lost asked others waits k low = at (has_bit block.marks.asking r) refl
  where
    at : (x : Bool) → has_bit block.marks.asking r ≡ x → (allotment_at (channels_of pattern.table.ports) granting grants lost r).out_vc k < pattern.table.ports.links.vcs
    at true e =
        sends-within ((pattern.table.ports.links.width + 1) * pattern.table.ports.links.vcs) pattern.table.ports.links.vcs
        (found_at (channels_of pattern.table.ports) block.marks granted_before block.grants.sends lost_before r) (allotment_at (channels_of pattern.table.ports) granting grants lost r)
        pattern.some pattern.table.few waits clear (asked e) k low
    at false e = subst (λ (b : Allotment). b.out_vc k < pattern.table.ports.links.vcs) (sym (others e)) low

module _ (pattern : Pattern) (r : ℕ) (within : r < 64) (block : Block) (standing : Standing (List ℕ)) (granted_before lost_before : List ℕ)
    (clear : set_of (channels_of pattern.table.ports) r granted_before ≡ 0) (unlost : set_of (channels_of pattern.table.ports) r lost_before ≡ 0)
    -- output channels are granted
    (granting : Marks) (grants : Grants) (lost : List ℕ)
    (asked : has_bit block.marks.asking r ≡ true
    → HasAllotted pattern.table.ports.links.vcs (found_at (channels_of pattern.table.ports) block.marks granted_before block.grants.sends lost_before r)
    (allotment_at (channels_of pattern.table.ports) granting grants lost r))
    (others : has_bit block.marks.asking r ≡ false
    → allotment_at (channels_of pattern.table.ports) granting grants lost r
    ≡ found_at (channels_of pattern.table.ports) block.marks granted_before block.grants.sends lost_before r)
    -- heads are routed
    (sets : ℕ → ℕ → ℕ) (routing : Marks)
    (routed : (m : RouterMarks)
    → HasRouted (set_of (channels_of pattern.table.ports) r standing.heads) sets (headed_marks (heading_at granting r) (packet_in block.packets r) m) (headed_marks (heading_at routing r) (packet_in block.packets r) m)
    (word r granting.wanted) (word r routing.wanted))
    (waiting : word r routing.waiting ≡ bit_or (word r granting.waiting) (set_of (channels_of pattern.table.ports) r standing.heads))
    (idle : word r routing.idle ≡ word r granting.idle) (turns : routing.turns ≡ granting.turns) (fits : word r routing.wanted < 2 ^ 64)
    -- flits go through the switch
    (decided : Decided (List ℕ)) (picks : Picks) (switch : Switch (List ℕ)) (left : Links (List ℕ))
    (first : (p : ℕ) → p < pattern.table.ports.links.width + 1 → IsPicked (port_of pattern.table.ports p) r standing.ready block.inputs.ahead decided.picked decided.past)
    (each : (p c : ℕ) → p < pattern.table.ports.links.width + 1 → c < pattern.table.ports.links.vcs → has_bit (set_of (port_of pattern.table.ports p) r decided.picked) c ≡ true
    → HasPick (port_of pattern.table.ports p) r p c standing.last grants.sends picks)
    (any : (p : ℕ) → p < pattern.table.ports.links.width + 1 → has_bit (slice_index picks.any p) r ≡ not (nat_eq (set_of (port_of pattern.table.ports p) r standing.ready) 0))
    (traversed : HasTraversed (pattern.table.ports.links.width + 1) pattern.table.ports.links.vcs (picks_in picks r) (λ q. set_of (output_of pattern.table.ports q) r block.switch.ahead)
    (λ q. set_of (output_of pattern.table.ports q) r switch.ahead) (λ p. has_bit (set_of (port_of pattern.table.ports p) r decided.sends))
    (λ q. has_bit (set_of (port_of pattern.table.ports q) r left.flits)) (λ q. has_bit (set_of (port_of pattern.table.ports q) r left.tails)))
    (headers nodes node : ℕ) (may : MayDecide pattern headers nodes node (held_at pattern.table.ports block r) (standing_by (set_of (channels_of pattern.table.ports) r) standing))
    (layout : Layout) (s : Still) (no_credit : ℕ) (shows : ShowsStill pattern (held_at pattern.table.ports block r) (standing_by (set_of (channels_of pattern.table.ports) r) standing) no_credit s)
  where
    abbrev count : ℕ
    count = pattern.table.ports.links.width + 1

    abbrev vcs : ℕ
    vcs = pattern.table.ports.links.vcs

    abbrev size : ℕ
    size = count * vcs

    abbrev set : List ℕ → ℕ
    set words = set_of (channels_of pattern.table.ports) r words

    abbrev a : Held
    a = held_at pattern.table.ports block r

    abbrev h : Held
    h = held_at pattern.table.ports (record block { grants = grants; marks = routing; switch = switch }) r

    abbrev given : Allotment
    given = allotment_at (channels_of pattern.table.ports) granting grants lost r

    abbrev before : Allotment
    before = found_at (channels_of pattern.table.ports) block.marks granted_before block.grants.sends lost_before r

    asks : (asks_of a.waiting a.wanted a.idle ≢ 0) → HasAllotted vcs before given
    asks some = asked (block.marks.asks r within ∙ ap not (ne_eqb (asks_of a.waiting a.wanted a.idle) 0 some))

    unasked : (asks_of a.waiting a.wanted a.idle ≡ 0) → given ≡ before
    unasked none = others (block.marks.asks r within ∙ ap not (eq-eqb (asks_of a.waiting a.wanted a.idle) 0 none))

    then-waiting : h.waiting ≡ bit_or (less a.waiting given.granted) (set standing.heads)
    then-waiting = waiting ∙ ap (λ w. bit_or w (set standing.heads)) (waits-then pattern s a (standing_by set standing) no_credit shows (set granted_before) (set lost_before) clear unlost given asks unasked headers nodes node may)

    abbrev after : Allocation
    after = chosen pattern s a (standing_by set standing) no_credit shows (set granted_before) (set lost_before) clear unlost given asks unasked headers nodes node may sets h.set h.wanted fits routed

    -- ---- who is picked is active, and so owns an output channel
    ahead-is : s.column.ahead ≡ a.inputs.ahead
    ahead-is = λ x. (shows.column x).ahead

    are-picked : ArePicked vcs count (set standing.ready) (set block.inputs.ahead) (set decided.picked)
    are-picked = picked-then pattern.table.ports r pattern.some pattern.table.few standing.ready block.inputs.ahead decided.picked decided.past standing.last grants.sends picks first each any
        block.switch.ahead switch.ahead decided.sends left.flits left.tails traversed

    active-is : s.column.active ≡ a.inputs.active
    active-is = λ x. (shows.column x).active

    picked-owns : (i : ℕ) → has_bit (set decided.picked) i ≡ true → has_bit (bit_or a.inputs.active given.granted) i ≡ true
    picked-owns i is =
        let ready : has_bit (lane_ready s.filled s.column) i ≡ true = ap (λ w. has_bit w i) (sym shows.ready) ∙ are-picked.among i is in
        let some = (and_parts (has_bit (bit_and s.column.active s.filled) i) (has_bit s.column.supplied i) (sym (both_members (bit_and s.column.active s.filled) s.column.supplied i) ∙ ready)).0 in
        let active = (and_parts (has_bit s.column.active i) (has_bit s.filled i) (sym (both_members s.column.active s.filled i) ∙ some)).0 in
        either_members a.inputs.active given.granted i ∙ or-left (has_bit a.inputs.active i) (has_bit given.granted i) (ap (λ w. has_bit w i) (sym active-is) ∙ active)

    owned-after : ShowsOwned count vcs (bit_or a.inputs.active given.granted) given.out_port given.out_vc after.marks
    owned-after = owned pattern s a (standing_by set standing) no_credit shows (set granted_before) (set lost_before) clear unlost given asks unasked headers nodes node may sets h.set h.wanted fits routed

    picked-sends : ShowsSends count vcs (set decided.picked) given.out_port given.out_vc after.marks
    picked-sends = record {
      port = λ i e. owned-after.sends.port i (picked-owns i e);
      vc = λ i e. owned-after.sends.vc i (picked-owns i e);
      taken = λ i e. owned-after.sends.taken i (picked-owns i e);
      to_port = λ i q e l. owned-after.sends.to_port i q (picked-owns i e) l;
    }

    abbrev tail : ℕ → Bool
    tail = leads_tail s.ended s.column.len

    tail-is : has_bit (set standing.last) ≡ tail
    tail-is = λ x i. shows.last i x

    abbrev single : ℕ
    single = single_in layout.links s.column

    abbrev blank : Effects
    blank = record { heads = lane_heads s.filled s.column; granted = given.granted; moved = 0; out = 0; released = 0; freed = 0 }

    pub decided-then : HasDecidedHeld pattern layout sets s a h (standing_by set standing) (decided_by set decided) (set grants.granted) (set lost) (links_at pattern.table.ports left r)
    decided-then = record {
      chosen = after;
      choice = choice pattern s a (standing_by set standing) no_credit shows (set granted_before) (set lost_before) clear unlost given asks unasked headers nodes node may sets h.set h.wanted fits routed;
      picks = subst (λ w. ArePicked vcs count w s.column.ahead (set decided.picked)) shows.ready (subst (λ w. ArePicked vcs count (set standing.ready) w (set decided.picked)) (sym ahead-is) are-picked);
      marks = marks pattern.table.ports r pattern.some pattern.table.few standing.ready block.inputs.ahead decided.picked decided.past standing.last grants.sends picks first each any
          block.switch.ahead switch.ahead decided.sends left.flits left.tails traversed
          after.marks tail tail-is shows.marks.outputs picked-sends single after.column.supplied blank;
      supplied = supplied pattern.table.ports r pattern.some pattern.table.few standing.ready block.inputs.ahead decided.picked decided.past standing.last grants.sends picks first each any
          block.switch.ahead switch.ahead decided.sends left.flits left.tails traversed
          after.marks tail tail-is shows.marks.outputs picked-sends single after.column.supplied blank;
      effects = effects pattern.table.ports r pattern.some pattern.table.few standing.ready block.inputs.ahead decided.picked decided.past standing.last grants.sends picks first each any
          block.switch.ahead switch.ahead decided.sends left.flits left.tails traversed
          after.marks tail tail-is shows.marks.outputs picked-sends single after.column.supplied blank;
      switched = switched pattern.table.ports r pattern.some pattern.table.few standing.ready block.inputs.ahead decided.picked decided.past standing.last grants.sends picks first each any
          block.switch.ahead switch.ahead decided.sends left.flits left.tails traversed
          after.marks tail tail-is shows.marks.outputs picked-sends single after.column.supplied blank;
      granted_are = refl;
      lost_are = refl;
      heads = refl;
      given = refl;
      moved = moved-then pattern.table.ports r pattern.some pattern.table.few standing.ready block.inputs.ahead decided.picked decided.past standing.last grants.sends picks first each any
          block.switch.ahead switch.ahead decided.sends left.flits left.tails traversed
          after.marks tail tail-is shows.marks.outputs picked-sends single after.column.supplied blank;
      released = released-then pattern.table.ports r pattern.some pattern.table.few standing.ready block.inputs.ahead decided.picked decided.past standing.last grants.sends picks first each any
          block.switch.ahead switch.ahead decided.sends left.flits left.tails traversed
          after.marks tail tail-is shows.marks.outputs picked-sends single after.column.supplied blank s.ended s.column.len refl;
      flits = λ o l. link-leaves pattern.table.ports r pattern.some pattern.table.few standing.ready block.inputs.ahead decided.picked decided.past standing.last grants.sends picks first each any
          block.switch.ahead switch.ahead decided.sends left.flits left.tails traversed
          left.flits (λ p. true) o l
          ∙ sym (below-members size (λ k. leaves_by count (picks_in picks r) (λ q. set_of (output_of pattern.table.ports q) r block.switch.ahead) (λ p. true) (λ q. has_bit (set_of (port_of pattern.table.ports q) r left.flits)) (k / vcs) (k % vcs)) o);
      tails = λ o l. link-leaves pattern.table.ports r pattern.some pattern.table.few standing.ready block.inputs.ahead decided.picked decided.past standing.last grants.sends picks first each any
          block.switch.ahead switch.ahead decided.sends left.flits left.tails traversed
          left.tails (picks_in picks r).tail o l
          ∙ sym (below-members size (λ k. leaves_by count (picks_in picks r) (λ q. set_of (output_of pattern.table.ports q) r block.switch.ahead) (picks_in picks r).tail (λ q. has_bit (set_of (port_of pattern.table.ports q) r left.tails)) (k / vcs) (k % vcs)) o);
      past =
          let pointers = bit_or (less a.inputs.ahead (set decided.sends)) (bit_and (set decided.past) (set decided.sends)) in
          let moved = moved-then pattern.table.ports r pattern.some pattern.table.few standing.ready block.inputs.ahead decided.picked decided.past standing.last grants.sends picks first each any
          block.switch.ahead switch.ahead decided.sends left.flits left.tails traversed
          after.marks tail tail-is shows.marks.outputs picked-sends single after.column.supplied blank in
          subst (λ w. ArePast vcs count s.column.ahead w pointers) (sym moved) (subst (λ w. ArePast vcs count w (bit_and (set decided.picked) (set decided.sends)) pointers) (sym ahead-is)
          (past-then pattern.table.ports r pattern.some pattern.table.few standing.ready block.inputs.ahead decided.picked decided.past standing.last grants.sends picks first each any
          block.switch.ahead switch.ahead decided.sends left.flits left.tails traversed));
      column = λ x. record (shows.column x) {
        waiting = shows.waiting x;
        supplied = after.column.supplied;
        wanted = h.wanted;
        idle = sym idle x;
      };
      waiting = then-waiting;
      inputs = refl;
      outputs = refl;
      packet = refl;
      injecting = refl;
      source = refl;
      set = refl;
      turn = λ x o. word o (slice_index_or (sym turns x) r []);
      held_packet = shows.marks.packet;
      owned = owned-after;
      pointers = λ q l. refl;
    }
