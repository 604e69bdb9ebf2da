-- The verdicts of a router after a cycle, by its words before the cycle takes effect.
use Rattle.std.proofs.Common.{◌≡◌, ℕ, ◌+◌, Bool, true, false, refl, ap, ap₂, sym, ◌∙◌, bit_and, bit_or}
use Rattle.std.specs.Prelude.{◌&&◌, ◌||◌, not}
use Rattle.std.proofs.lemmas.Bool.{false≢true, true≢false}
use Rattle.noc_packet.specs.Set.{has_bit}
use Rattle.noc_topo.specs.Lists.{one_if}
use Rattle.noc_packet.proofs.SetLemmas.{both_members, either_members, first_of_both}
use Rattle.noc_sets.specs.Column.{Column}
use Rattle.noc_sets.specs.Counts.{ByVerdict}
use Rattle.noc_sets.specs.Passes.{lane_heads, lane_no_credit, lane_ready}
use Rattle.noc_sets.specs.Sets.{less}
use Rattle.noc_sets.proofs.MemberLemmas.{less_members}
use Rattle.noc_columns.specs.declared.channels.Decided.{Decided}
use Rattle.noc_columns.specs.declared.channels.Standing.{Standing}
use Rattle.noc_columns.specs.declared.channels.Verdicts.{Verdicts}
use Rattle.noc_cycles.specs.Turning.{verdict_sets_by}

-- each member of the part is one of the whole
abbrev pub AreAmong : ℕ → ℕ → Type 0
AreAmong whole part = (i : ℕ) → has_bit part i ≡ true → has_bit whole i ≡ true

-- this is told of a router with these words before the cycle takes effect, where these channels are filled, and these are picked
pub record IsTold (filled picked : ℕ) (c : Column) (standing : Standing ℕ) (w : Verdicts ℕ) (waiting granted lost : ℕ) : Type 0 where
  pub heads_are : standing.heads ≡ lane_heads filled c
  pub ready_are : standing.ready ≡ lane_ready filled c
  pub granted_are : AreAmong c.waiting granted
  pub lost_are : AreAmong c.waiting lost
  pub waiting_are : waiting ≡ bit_or (less c.waiting granted) standing.heads
  pub active : w.active ≡ c.active
  pub no_credit : w.no_credit ≡ lane_no_credit filled c
  pub picked_are : AreAmong (lane_ready filled c) picked
  pub moved_are : AreAmong picked w.moved

pub no : {x : Type 0} → false ≡ true → x
no e = absurd (false≢true e)

-- who waits is no head: whether a channel finds no idle one, where it waits, is granted one, has lost one or is a head
idle-bits : (w g l h : Bool) → (w && h) ≡ false → (((w && not g) || h) && not (h || l)) ≡ (w && not (g || l))
idle-bits true g l true e = absurd (true≢false e)
idle-bits true true l false e = refl
idle-bits true false l false e = refl
idle-bits false g l true e = refl
idle-bits false g l false e = refl

waits-bits : (w g h : Bool) → (g ≡ true → w ≡ true) → (w && h) ≡ false → one_if w + one_if h ≡ one_if g + one_if ((w && not g) || h)
waits-bits true g true gw e = absurd (true≢false e)
waits-bits true true false gw e = refl
waits-bits true false false gw e = refl
waits-bits false true h gw e = no (gw refl)
waits-bits false false true gw e = refl
waits-bits false false false gw e = refl

head-waits : (w a f : Bool) → (w && (f && not (w || a))) ≡ false
head-waits true a true = refl
head-waits true a false = refl
head-waits false a f = refl

-- who has a flit is short of a credit or ready, where the ready ones are r
two-bits : (x r : Bool) → (r ≡ true → x ≡ true) → ((x && not r) || r) ≡ x
two-bits true true rx = refl
two-bits true false rx = refl
two-bits false true rx = no (rx refl)
two-bits false false rx = refl

flit-bits : (a f : Bool) → (a && not (a && f)) ≡ (a && not f)
flit-bits true f = refl
flit-bits false f = refl

-- ---- whether channel k has each verdict
module _ (filled : ℕ) (c : Column) (standing : Standing ℕ) (decided : Decided ℕ) (v : Verdicts ℕ) (waiting granted lost : ℕ) (told : IsTold filled decided.picked c standing v waiting granted lost) (k : ℕ) where
  abbrev sets : ByVerdict
  sets = verdict_sets_by standing decided v waiting granted lost

  abbrev ready : ℕ
  ready = lane_ready filled c

  pub head-is : has_bit sets.routed k ≡ (has_bit filled k && not (has_bit c.waiting k || has_bit c.active k))
  head-is =
      ap (λ n. has_bit n k) told.heads_are ∙ less_members filled (bit_or c.waiting c.active) k
      ∙ ap (λ b. has_bit filled k && not b) (either_members c.waiting c.active k)

  head-apart : (has_bit c.waiting k && has_bit sets.routed k) ≡ false
  head-apart = ap (λ b. has_bit c.waiting k && b) head-is ∙ head-waits (has_bit c.waiting k) (has_bit c.active k) (has_bit filled k)

  waits-then : has_bit waiting k ≡ ((has_bit c.waiting k && not (has_bit granted k)) || has_bit sets.routed k)
  waits-then =
      ap (λ n. has_bit n k) told.waiting_are ∙ either_members (less c.waiting granted) sets.routed k
      ∙ ap (λ b. b || has_bit sets.routed k) (less_members c.waiting granted k)

  -- whoever waits or is a head is granted an output channel or waits then
  pub waits-on : one_if (has_bit c.waiting k) + one_if (has_bit sets.routed k) ≡ one_if (has_bit granted k) + one_if (has_bit waiting k)
  waits-on =
      waits-bits (has_bit c.waiting k) (has_bit granted k) (has_bit sets.routed k) (told.granted_are k) head-apart
      ∙ ap (λ b. one_if (has_bit granted k) + one_if b) (sym waits-then)

  pub idle-is : has_bit sets.no_idle_channel k ≡ (has_bit c.waiting k && not (has_bit granted k || has_bit lost k))
  idle-is =
      less_members waiting (bit_or sets.routed lost) k
      ∙ ap₂ (λ a b. a && not b) waits-then (either_members sets.routed lost k)
      ∙ idle-bits (has_bit c.waiting k) (has_bit granted k) (has_bit lost k) (has_bit sets.routed k) head-apart

  sending-is : has_bit (bit_and c.active filled) k ≡ (has_bit c.active k && has_bit filled k)
  sending-is = both_members c.active filled k

  pub ready-sends : has_bit ready k ≡ true → (has_bit c.active k && has_bit filled k) ≡ true
  ready-sends e = sym sending-is ∙ first_of_both (has_bit (bit_and c.active filled) k) (has_bit c.supplied k) (sym (both_members (bit_and c.active filled) c.supplied k) ∙ e)

  pub credit-is : has_bit sets.no_credit k ≡ ((has_bit c.active k && has_bit filled k) && not (has_bit ready k))
  credit-is = ap (λ n. has_bit n k) told.no_credit ∙ less_members (bit_and c.active filled) ready k ∙ ap (λ b. b && not (has_bit ready k)) sending-is

  pub input-is : has_bit sets.lost_input k ≡ (has_bit ready k && not (has_bit decided.picked k))
  input-is = ap (λ n. has_bit (less n decided.picked) k) told.ready_are ∙ less_members ready decided.picked k

  pub switch-is : has_bit sets.lost_switch k ≡ (has_bit decided.picked k && not (has_bit sets.moved k))
  switch-is = less_members decided.picked sets.moved k

  pub flit-is : has_bit sets.no_flit k ≡ (has_bit c.active k && not (has_bit filled k))
  flit-is =
      less_members v.active (bit_or v.no_credit standing.ready) k
      ∙ ap₂ (λ a b. a && not b) (ap (λ n. has_bit n k) told.active)
      (either_members v.no_credit standing.ready k
      ∙ ap₂ (λ a b. a || b) credit-is (ap (λ n. has_bit n k) told.ready_are)
      ∙ two-bits (has_bit c.active k && has_bit filled k) (has_bit ready k) ready-sends)
      ∙ flit-bits (has_bit c.active k) (has_bit filled k)
