-- What the source of a router of a block injects.
use Rattle.std.proofs.Common.{◌≡◌, ◌≢◌, ℕ, ◌+◌, ◌*◌, ◌^◌, ◌<◌, ◌≤◌, Bool, true, false, List, length, arith, ap, ap₂, sym, ◌∙◌, subst, refl, inl, inr, bit_and, bit_or}
use Rattle.std.specs.Prelude.{◌⊎◌, ◌&&◌, ◌||◌, not, nat_eq, nat_le, slice_index, if◌then◌else◌}
use Rattle.noc_sets.specs.Passes.{injecting_after, lane_begins, lane_free, lane_injected}
use Rattle.noc_sets.specs.Source.{first_source, sent_source}
use Rattle.noc_sets.proofs.MemberLemmas.{or-cases}
use Rattle.noc_columns.specs.Channels.{inputs_by}
use Rattle.noc_columns.specs.Sources.{AreDue}
use Rattle.noc_columns.specs.Steps.{with_source}
use Rattle.noc_columns.specs.declared.due.Due.{Due}
use Rattle.noc_columns.proofs.SourceLemmas.{sends-and-begins}
use Rattle.noc_cycles.proofs.Common.{eq-eqb, eqb-true, pow_mono, has_bit, either_members, has_bit-zero, Layout, wrong_from, less, lowest, up_by, Source, Start, start_in, port_at, list_of, planes_by, begun_if, sent_if, source_in, all_of, set_alike, set_of, word, Links, blank, below-fits, RouterPorts, Held, held_at, FitsLayout, Block, Pattern}
use Rattle.noc_cycles.specs.May.{MayInject}
use Rattle.noc_cycles.specs.Taking.{HasInjected, MaySend, begins_held, column_in, ready_held, went_held}
use Rattle.noc_cycles.proofs.FreshLemmas.{begun-due, begun-free, due-kept, is-apart, lowest-none, test-some, went-all, went-some}
use Rattle.noc_cycles.proofs.LocalLemmas.{all-fit, begins-fit, begins-up, injected-up}
use Rattle.noc_cycles.proofs.SendLemmas.{injecting-sent, still-injecting, tails-sent}
use Rattle.noc_cycles.proofs.ShiftLemmas.{up-lowest, up-or, up-some, up-zero}
use Rattle.noc_cycles.proofs.SomeLemmas.{in-neither}

-- something is injected where a flit of a packet that has begun is, or where one begins
pub some-injected : (went begins sent begun r : ℕ) → has_bit went r ≡ not (nat_eq sent 0) → has_bit begins r ≡ not (nat_eq begun 0) → has_bit (bit_or went begins) r ≡ not (nat_eq (bit_or sent begun) 0)
some-injected went begins sent begun r a b = either_members went begins r ∙ ap₂ (λ x y. x || y) a b ∙ in-neither sent begun

-- .. where no packet begins, it does so in no channel
pub none-begun : (begins begun r : ℕ) → has_bit begins r ≡ not (nat_eq begun 0) → begins ≡ 0 → begun ≡ 0
none-begun begins begun r is none = eqb-true begun 0 (of (nat_eq begun 0) (sym is ∙ ap (λ w. has_bit w r) none ∙ has_bit-zero r))
  where
    of : (b : Bool) → not b ≡ false → b ≡ true
    of true e = refl
    of false e = sym e

-- the routers whose next packet is due
due-is : (cycle : ℕ) (due : Due) (at : List ℕ) (r : ℕ) → due.at ≡ at → AreDue cycle due → r < 64 → has_bit due.ready r ≡ nat_le (slice_index at r) cycle
due-is cycle due at r same are few = are.ready r few ∙ ap (λ a. nat_le (slice_index a r) cycle) same

-- what is decided of one router of a block: a flit goes into `went`, or a packet begins in `begun`
abbrev pub begins_local : Pattern → Block → ℕ → ℕ → ℕ
begins_local pattern block cycle r =
    lane_begins (all_of (port_at pattern.table.ports.local 0)) cycle (slice_index block.sources.due.at r)
    (with_source pattern.frame.deep (inputs_by (set_of (port_at pattern.table.ports.local 0) r) block.inputs) (set_of (port_at pattern.table.ports.local 0) r block.injection.injecting) blank)

pub record Injects (pattern : Pattern) (starts : List Start) (cycle : ℕ) (block : Block) (r went begun : ℕ) (goes starting : Bool) : Type 0 where
  pub went_is : went
      ≡ bit_and (set_of (port_at pattern.table.ports.local 0) r block.injection.injecting)
      (wrong_from 0 (list_of pattern.frame.deep (planes_by (set_of (port_at pattern.table.ports.local 0) r) block.inputs.len))
      (list_of pattern.frame.deep (planes_by (set_alike (port_at pattern.table.ports.local 0) r) pattern.frame.places)))
  pub begun_is : begun ≡ lowest (begins_local pattern block cycle r)
  pub goes_is : goes ≡ not (nat_eq went 0)
  pub starting_is : starting ≡ not (nat_eq begun 0)
  pub may : MayInject starts cycle (held_at pattern.table.ports block r)
  pub punctual : set_of (port_at pattern.table.ports.local 0) r block.injection.injecting ≢ 0 → slice_index block.sources.due.at r ≤ cycle

-- where a source may inject in a cycle
may-be : (ports : RouterPorts) (starts : List Start) (cycle : ℕ) (block : Block) (r : ℕ) → r < 64 → MaySend ports starts cycle block
    → set_of (port_at ports.local 0) r block.injection.injecting ≢ 0 → slice_index block.sources.due.at r ≤ cycle
may-be ports starts cycle block r few may some =
    let due = may.punctual.injected r few some in
    let earlier = may.earlier in
    omega (arith, due, earlier)

-- .. as the passes tell it
pub injects-so : (pattern : Pattern) (starts : List Start) (cycle : ℕ) (block : Block) (r : ℕ) (few : r < 64) (due : Due) (went begun : ℕ) (goes starting : Bool) → MaySend pattern.table.ports starts cycle block
    → due.at ≡ block.sources.due.at → ((before : ℕ) → before ≤ cycle → AreDue before block.sources.due → AreDue cycle due)
    → went
    ≡ bit_and (set_of (port_at pattern.table.ports.local 0) r block.injection.injecting)
    (wrong_from 0 (list_of pattern.frame.deep (planes_by (set_of (port_at pattern.table.ports.local 0) r) block.inputs.len))
    (list_of pattern.frame.deep (planes_by (set_alike (port_at pattern.table.ports.local 0) r) pattern.frame.places)))
    → (has_bit due.ready r ≡ nat_le (slice_index block.sources.due.at r) cycle → begun ≡ lowest (begins_local pattern block cycle r))
    → goes ≡ not (nat_eq went 0) → starting ≡ not (nat_eq begun 0)
    → Injects pattern starts cycle block r went begun goes starting
injects-so pattern starts cycle block r few due went begun goes starting may same pass went_is begun_at goes_is starting_is = record {
  went_is = went_is;
  begun_is = begun_at (due-is cycle due block.sources.due.at r same (pass may.before may.earlier may.punctual.due) few);
  goes_is = goes_is;
  starting_is = starting_is;
  may = may.each r few;
  punctual = may-be pattern.table.ports starts cycle block r few may;
}

module _ {pattern : Pattern} {starts : List Start} {cycle : ℕ} {block : Block} {r went begun : ℕ} {goes starting : Bool} (is : Injects pattern starts cycle block r went begun goes starting) where
  abbrev inj : ℕ
  inj = set_of (port_at pattern.table.ports.local 0) r block.injection.injecting

  abbrev full : ℕ
  full = wrong_from 0 (list_of pattern.frame.deep (planes_by (set_of (port_at pattern.table.ports.local 0) r) block.inputs.len))
      (list_of pattern.frame.deep (planes_by (set_alike (port_at pattern.table.ports.local 0) r) pattern.frame.places))

  abbrev free : ℕ
  free = lane_free (all_of (port_at pattern.table.ports.local 0))
      (with_source pattern.frame.deep (inputs_by (set_of (port_at pattern.table.ports.local 0) r) block.inputs) (set_of (port_at pattern.table.ports.local 0) r block.injection.injecting) blank)

  abbrev due : ℕ
  due = slice_index block.sources.due.at r

  goes-some : goes ≡ true → inj ≢ 0
  goes-some e = went-some inj full free cycle due went begun is.went_is is.begun_is (test-some went (sym is.goes_is ∙ e))

  pub goes-left : goes ≡ true → 0 < (source_in block.sources r).left
  goes-left e = is.may.left (goes-some e)

  pub begun-now : begun ≢ 0 → slice_index block.sources.due.at r ≤ cycle
  begun-now some = begun-due inj full free cycle due went begun is.went_is is.begun_is some

  pub comes-due : (goes || starting) ≡ true → slice_index block.sources.due.at r ≤ cycle
  comes-due e = elim (or-cases goes starting e) [
    | inl some ↦ is.punctual (goes-some some)
    | inr some ↦ begun-now (test-some begun (sym is.starting_is ∙ some))
  ]

  pub comes-queue : (goes || starting) ≡ true → slice_index block.sources.queue r + 1 < length starts
  comes-queue e = is.may.queue (comes-due e)

  pub comes-apart : starting ≡ true → goes ≡ false
  comes-apart e = at goes refl
    where
      at : (b : Bool) → goes ≡ b → goes ≡ false
      at false f = f
      at true f = absurd (goes-some f (begun-free inj full free cycle due went begun is.went_is is.begun_is (test-some begun (sym is.starting_is ∙ e))))

  abbrev left : ℕ
  left = (source_in block.sources r).left

  abbrev long : ℕ
  long = (start_in starts (slice_index block.sources.queue r)).length

  one-of : (went ≡ 0) ⊎ (begun ≡ 0)
  one-of = is-apart inj full free cycle due went begun is.went_is is.begun_is

  inj-fits : inj < 2 ^ 64
  inj-fits =
      let low = below-fits pattern.table.ports.local.vcs (λ v. has_bit (word ((port_at pattern.table.ports.local 0).index v) block.injection.injecting) r) in
      let eight = pattern.table.ports.few in
      let alike = pattern.table.ports.alike in
      let small : pattern.table.ports.local.vcs ≤ 64 = omega (arith, eight, alike) in
      let mono : 2 ^ pattern.table.ports.local.vcs ≤ 2 ^ 64 = pow_mono small in
      omega (arith, low, mono)

  all-of : went ≢ 0 → (k : ℕ) → has_bit inj k ≡ true → has_bit went k ≡ true
  all-of = went-all inj full free cycle due went begun is.went_is is.begun_is inj-fits is.may.one

  free-of : begun ≢ 0 → inj ≡ 0
  free-of = begun-free inj full free cycle due went begun is.went_is is.begun_is

  -- the flit is the last of its packet
  abbrev IsLast : Bool → Type 0
  IsLast last = last ≡ ((goes && nat_eq left 1) || (starting && nat_eq long 1))

  last-now : (last : Bool) → IsLast last → last ≡ ((not (nat_eq went 0) && nat_eq left 1) || (not (nat_eq begun 0) && nat_eq long 1))
  last-now last e = e ∙ ap₂ (λ a b. (a && nat_eq left 1) || (b && nat_eq long 1)) is.goes_is is.starting_is

  -- ---- what the router holds then
  module _ (layout : Layout) (fits : FitsLayout pattern layout) (few : r < 64) where
    abbrev n : ℕ
    n = pattern.table.ports.links.width * pattern.table.ports.links.vcs

    abbrev h : Held
    h = held_at pattern.table.ports block r

    begins-are : begins_held pattern layout cycle (held_at pattern.table.ports block r) ≡ up_by (begins_local pattern block cycle r) n
    begins-are = begins-up pattern layout fits block r few cycle due

    lowest-are : lowest (begins_held pattern layout cycle (held_at pattern.table.ports block r)) ≡ up_by begun n
    lowest-are =
        ap lowest begins-are
        ∙ up-lowest (begins_local pattern block cycle r) n (begins-fit pattern layout fits block r few cycle due)
        ∙ ap (λ w. up_by w n) (sym is.begun_is)

    injected-are : lane_injected layout.places (column_in pattern (held_at pattern.table.ports block r)) ≡ up_by went n
    injected-are = injected-up pattern layout fits block r few ∙ ap (λ w. up_by w n) (sym is.went_is)

    went-are : went_held pattern layout cycle (held_at pattern.table.ports block r) ≡ up_by (bit_or went begun) n
    went-are = ap₂ bit_or injected-are lowest-are ∙ up-or went begun n

    none-begins : nat_eq (begins_held pattern layout cycle (held_at pattern.table.ports block r)) 0 ≡ nat_eq begun 0
    none-begins =
        ap (λ w. nat_eq w 0) begins-are
        ∙ up-some (begins_local pattern block cycle r) n
        ∙ sym (lowest-none (begins_local pattern block cycle r) (begins-fit pattern layout fits block r few cycle due))
        ∙ ap (λ w. nat_eq w 0) (sym is.begun_is)

    ready-left : (ready_held pattern layout starts cycle (held_at pattern.table.ports block r)).left ≡ (if nat_eq begun 0 then left else long)
    ready-left = ap (λ b. (if b then h.source else first_source (start_in starts h.source.queue) h.source).left) none-begins ∙ at (nat_eq begun 0)
      where
        at : (b : Bool) → (if b then h.source else first_source (start_in starts h.source.queue) h.source).left ≡ (if b then left else long)
        at true = refl
        at false = refl

    begins-fits : begins_held pattern layout cycle (held_at pattern.table.ports block r) < 2 ^ 64
    begins-fits = all-fit pattern layout fits block r few cycle due

    pub source-is : begun_if starts starting (sent_if starts goes (source_in block.sources r))
        ≡ sent_source starts (went_held pattern layout cycle (held_at pattern.table.ports block r)) (ready_held pattern layout starts cycle (held_at pattern.table.ports block r))
    source-is =
        ap₂ (λ a b. begun_if starts a (sent_if starts b h.source))
        (is.starting_is ∙ ap not (sym (up-some begun n)) ∙ ap (λ w. not (nat_eq w 0)) (sym lowest-are))
        (is.goes_is ∙ ap not (sym (up-some went n)) ∙ ap (λ w. not (nat_eq w 0)) (sym injected-are))
        ∙ sym (sends-and-begins starts (lane_injected layout.places (column_in pattern (held_at pattern.table.ports block r))) (begins_held pattern layout cycle (held_at pattern.table.ports block r)) h.source begins-fits one)
      where
        one : (lane_injected layout.places (column_in pattern (held_at pattern.table.ports block r)) ≡ 0) ⊎ (begins_held pattern layout cycle (held_at pattern.table.ports block r) ≡ 0)
        one = elim one-of [
          | inl none ↦ inl (injected-are ∙ ap (λ w. up_by w n) none ∙ up-zero n)
          | inr none ↦ inr (eqb-true _ 0 (none-begins ∙ eq-eqb begun 0 none))
        ]

    -- from what the passes say of its sets
    pub has-injected : (came : Links ℕ) (k : Held) (flits tails : ℕ) (last : Bool) → IsLast last
        → flits ≡ bit_or came.flits (up_by (bit_or went begun) n)
        → tails ≡ bit_or came.tails (up_by (if last then bit_or went begun else 0) n)
        → k.injecting ≡ less (bit_or inj begun) (if last then bit_or went begun else 0)
        → ((i : ℕ) → k.packet i ≡ (if has_bit (up_by begun n) i then (start_in starts h.source.queue).number else h.packet i))
        → k.source ≡ begun_if starts starting (sent_if starts goes h.source)
        → k ≡ record h { packet = k.packet; injecting = k.injecting; source = k.source }
        → HasInjected pattern layout starts cycle came h k flits tails
    has-injected came k flits tails last last_is flits_is tails_is injecting_is packet_is source_is rest_is = record {
      flits_are = flits_is ∙ ap (bit_or came.flits) (sym went-are);
      tails_are =
          tails_is
          ∙ ap (bit_or came.tails)
          (tails-sent n inj went begun left long (if nat_eq begun 0 then left else long) last one-of free-of all-of (last-now last last_is) refl
          ∙ ap₂ (λ a b. if nat_eq a 1 then b else 0) (sym ready-left) (sym went-are));
      injecting =
          ap (λ w. up_by w n) injecting_is
          ∙ injecting-sent n inj went begun left long (if nat_eq begun 0 then left else long) last one-of free-of all-of (last-now last last_is) refl
          ∙ (λ i. injecting_after (sym went-are i) (sym ready-left i) (bit_or (up_by inj n) (sym lowest-are i)));
      packet = λ i j. (packet_is j ∙ ap (λ w. if has_bit w j then (start_in starts h.source.queue).number else h.packet j) (sym lowest-are)) i;
      source = source_is ∙ source-is;
      rest = rest_is;
    }

  -- ---- who goes on to inject was due
  pub still-due : (last : Bool) (after : ℕ) (source : Source) → IsLast last
      → after ≡ less (bit_or inj begun) (if last then bit_or went begun else 0)
      → source ≡ begun_if starts starting (sent_if starts goes (source_in block.sources r)) → after ≢ 0 → source.due ≤ cycle
  still-due last after source last_is after_is source_is some =
      let still = still-injecting 0 inj went begun left long (if nat_eq begun 0 then left else long) last one-of free-of all-of (last-now last last_is) refl (λ none. some (after_is ∙ none)) in
      let kept = due-kept starts starting goes (source_in block.sources r) comes-apart (sym last_is ∙ still.0) in
      let same = ap (λ (s : Source). s.due) source_is ∙ kept in
      subst (λ d. d ≤ cycle) (sym same) (elim still.1 [ inl on ↦ is.punctual on | inr began ↦ begun-now began ])
