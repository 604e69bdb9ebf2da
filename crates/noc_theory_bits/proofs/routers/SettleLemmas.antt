-- A cycle takes effect: the words of a lane show the view of its router after the cycle.
use Rattle.std.proofs.Common.{◌≡◌, ℕ, ◌/◌, ◌^◌, ◌<◌, ◌≤◌, Bool, true, false, List, Option, Some, None, refl, ap, sym, ◌∙◌, subst, arith, bit_and, bit_or}
use Rattle.std.specs.Prelude.{◌⊎◌, ◌&&◌, ◌||◌, not, nat_le, slice_index_or, if◌then◌else◌}
use Rattle.noc_sets.specs.Column.{ShowsTurns}
use Rattle.noc_sets.proofs.PlaneLemmas.{lowered-fits, lowered-length, lowered-number}
use Rattle.noc_sets.proofs.StandLemmas.{draws}
use Rattle.noc_sets.proofs.SettleLemmas.{SaysOut, settled-output}
use Rattle.noc_sets.proofs.SuppliedLemmas.{Turn, Says, supplied-after}
use Rattle.noc_sets.proofs.SwitchLemmas.{ahead-after}
use Rattle.noc_theory_bits.proofs.Common.{and_parts, ports, local_port, one_if, has_bit, Beat, both_members, either_members, Routes, arbiter_at, MembersAreBelow, Output, is_expected_in, arrivals_after, is_supplied, is_won_from, ArbiterStates, arbiters_after, Site, View, Decisions, size_of, local_channel, view_buffer, view_input, view_output, view_round, mover_to, decisions_of, view_after_commit, with_arrival, with_misfit, tail_packet, flit_out, view_after_inject, view_after_takes, local_step, less, ShowsPointer, ArePicked, ArePast, plane_number, HasSize, Column, RouterMarks, AreWords, ShowsInput, ShowsOutput, ShowsChannels, ShowsMarks, ShowsSending, IsColumn, lane_ready, Effects, settled_lane, and_fits, or_fits, less_fits, less_members, AreFilled, AreEffects}
use Rattle.noc_theory_bits.proofs.routers.CommittedLemmas.{output-committed, arbiters-committed}
use Rattle.noc_theory_bits.proofs.routers.DecideLemmas.{AreDecided, HasTurns, inputs-decided}

-- the lane once channels were granted, heads were routed and flits have moved: these output
-- channels were granted, this set holds the sets of all that wait, and these input channels are
-- supplied
abbrev pub decided_lane : ℕ → ℕ → ℕ → Column → Column
decided_lane outs wanted supplied c = record c { idle = less c.idle outs; wanted = wanted; supplied = supplied }

-- ---- sets below a number
or-below : (n a b : ℕ) → MembersAreBelow n a → MembersAreBelow n b → MembersAreBelow n (bit_or a b)
or-below n a b p q k e = at (has_bit a k) refl
  where
    at : (x : Bool) → has_bit a k ≡ x → k < n
    at true z = p k z
    at false z = q k (sym (ap (λ x. x || has_bit b k) z) ∙ sym (either_members a b k) ∙ e)

pub less-below : (n a b : ℕ) → MembersAreBelow n a → MembersAreBelow n (less a b)
less-below n a b p k e = p k (and_parts (has_bit a k) (not (has_bit b k)) (sym (less_members a b k) ∙ e)).0

and-below : (n a b : ℕ) → MembersAreBelow n b → MembersAreBelow n (bit_and a b)
and-below n a b p k e = p k (and_parts (has_bit a k) (has_bit b k) (sym (both_members a b k) ∙ e)).1

pub none-above : (n a k : ℕ) → MembersAreBelow n a → n ≤ k → has_bit a k ≡ false
none-above n a k below l = at (has_bit a k) refl
  where
    at : (b : Bool) → has_bit a k ≡ b → has_bit a k ≡ false
    at true e = let m : k < n = below k e in absurd (omega arith)
    at false e = e

-- ---- what a commit leaves
arrival-site : (p : Option ℕ) (v : View) → ((with_arrival p v).site ≡ v.site) × ((with_arrival p v).sending ≡ v.sending)
arrival-site None v = (refl, refl)
arrival-site (Some p) v = at (is_expected_in p v.ends)
  where
    at : (b : Bool) → let w = if b then record v { ends = arrivals_after p v.given v.ends } else with_misfit v in (w.site ≡ v.site) × (w.sending ≡ v.sending)
    at true = (refl, refl)
    at false = (refl, refl)

pub committed-site : (d : Decisions) (v : View) → ((view_after_commit d v).site ≡ v.site) × ((view_after_commit d v).sending ≡ v.sending)
unfolding view_after_commit
committed-site d v = (
  (arrival-site (tail_packet (flit_out v d.round (local_port v.site.grid))) _).0,
  (arrival-site (tail_packet (flit_out v d.round
      (local_port v.site.grid))) _).1,
)

-- ---- the parts of what a column shows, for a site
record ChannelsIn (site : Site) (c : Column) (v : View) : Type 0 where
  inputs : (i : ℕ) → i < size_of site → ShowsInput c i (view_buffer v i) (view_input v i)
  outputs : (o : ℕ) → o < size_of site → ShowsOutput c o (view_output v o)
  supplied : (i : ℕ) → i < size_of site → has_bit c.supplied i ≡ is_supplied v.outputs (view_input v i).phase
  waiting_below : MembersAreBelow (size_of site) c.waiting
  active_below : MembersAreBelow (size_of site) c.active
  idle_below : MembersAreBelow (size_of site) c.idle
  draining_below : MembersAreBelow (size_of site) c.draining
  len_below : (i : ℕ) → size_of site ≤ i → plane_number c.len i ≡ 0

shows-channels : (c : Column) (v : View) (parts : ChannelsIn v.site c v) → ShowsChannels c v
shows-channels c v parts = record {
  inputs = parts.inputs;
  outputs = parts.outputs;
  supplied = parts.supplied;
  waiting_below = parts.waiting_below;
  active_below = parts.active_below;
  idle_below = parts.idle_below;
  draining_below = parts.draining_below;
  len_below = parts.len_below;
}

-- the pointers of the arbiters of a site
pub record TurnsIn (site : Site) (arbiters : ArbiterStates) (c : Column) (m : RouterMarks) : Type 0 where
  pub inputs : (p : ℕ) → p < ports site.grid → ShowsPointer site.vcs c.ahead p (arbiter_at arbiters.inputs p).pointer
  pub channels : (o : ℕ) → o < size_of site → ShowsPointer (size_of site) (m.turn o) 0 (arbiter_at arbiters.channels o).pointer
  pub outputs : (q i : ℕ) → q < ports site.grid → i < size_of site
      → (has_bit (m.port_turn q) i ≡ nat_le (arbiter_at arbiters.outputs q).pointer (i / site.vcs))
      ⊎ (((arbiter_at arbiters.outputs q).pointer ≡ 0) × ((k : ℕ) → k < size_of site → has_bit (m.port_turn q) k ≡ false))

shows-turns : (c : Column) (m : RouterMarks) (v : View) (parts : TurnsIn v.site v.arbiters c m) → ShowsTurns c m v
shows-turns c m v parts = record { inputs = parts.inputs; channels = parts.channels; outputs = parts.outputs }

sending-same : (c d : Column) (v w : View) → d.injecting ≡ c.injecting → w.site ≡ v.site → (s : Option (ℕ × ℕ)) → ShowsSending c v s → ShowsSending d w s
sending-same c d v w e site None h = e ∙ h
sending-same c d v w e site (Some (vc, index)) h = (
  subst (λ (s : Site). vc < s.vcs) (sym site) h.0,
  e ∙ h.1
      ∙ ap (λ (s : Site). 2 ^ local_channel s vc) (sym site),
)

-- ---- what the scalar parts of a cycle have decided of channels and ports
-- input channel i: whether the flit that it moves took the last credit (`dry`), and what becomes of
-- the channel
pub record SaysSupplied (v w : View) (c : Column) (e : Effects) (supplied dry i : ℕ) : Type 0 where
  pub bit : has_bit supplied i ≡ ((has_bit c.supplied i || has_bit e.granted i) && not (has_bit dry i))
  pub turn : Turn v w (view_input v i).phase (view_input w i).phase
  pub says : Says v w (view_input v i).phase (view_input w i).phase (has_bit dry i) (has_bit e.granted i) (has_bit e.released i) turn

-- for all channels and ports, where v is the view before the verdicts and w the one after them
pub record AreSettling (v w : View) (c : Column) (m : RouterMarks) (links local outs wanted supplied dry : ℕ) (e : Effects) : Type 0 where
  pub links_fit : links < 2 ^ 64
  pub outs_fit : outs < 2 ^ 64
  pub wanted_fits : wanted < 2 ^ 64
  pub supplied_fits : supplied < 2 ^ 64
  pub granted_below : MembersAreBelow (size_of v.site) e.granted
  pub moved_below : MembersAreBelow (size_of v.site) e.moved
  pub local_below : MembersAreBelow (size_of v.site) local
  pub links_below : MembersAreBelow (size_of v.site) links
  pub sizes : (p : ℕ) → p < ports v.site.grid → (arbiter_at v.arbiters.inputs p).size ≡ v.site.vcs
  pub outputs : (o : ℕ) → o < size_of v.site → SaysOut v links local outs e o (view_output v o) (slice_index_or (view_round v).grants o None) (mover_to v
      (view_round v) o)
  pub supplies : (i : ℕ) → i < size_of v.site → SaysSupplied v w c e supplied dry i
  -- the pointers of output channels and output ports
  pub channel_turns : (o : ℕ) → o < size_of v.site → ShowsPointer (size_of v.site) (m.turn o) 0 (arbiter_at (arbiters_after
      (view_round v) v.arbiters).channels o).pointer
  pub port_turns : (q i : ℕ) → q < ports v.site.grid → i < size_of v.site
      → (has_bit (m.port_turn q) i ≡ nat_le (arbiter_at (arbiters_after (view_round v) v.arbiters).outputs q).pointer (i / v.site.vcs))
      ⊎ (((arbiter_at (arbiters_after (view_round v) v.arbiters).outputs q).pointer ≡ 0) × ((k : ℕ) → k < size_of v.site → has_bit (m.port_turn q) k ≡ false))

module _ (relation : Routes) (count : ℕ) (picked ahead : ℕ) (c : Column) (v : View) (filled links local lost_set : ℕ) (e : Effects) (words : AreWords count c)
    (effects : AreEffects e) (size : HasSize v) (picks : ArePicked v.site.vcs (ports v.site.grid) (lane_ready filled c) c.ahead picked)
    (shows : ShowsChannels c v) (fill : AreFilled v filled) (turns : HasTurns c v) (are : AreDecided picked c v filled lost_set e) (outs wanted supplied : ℕ) where
  -- the lane after the cycle
  abbrev pub settled : Column
  settled = settled_lane ahead links local e (decided_lane outs wanted supplied c)

  -- an output channel after the verdicts
  pub outputs-decided : links < 2 ^ 64 → outs < 2 ^ 64 → (o : ℕ) → o < size_of v.site
      → SaysOut v links local outs e o (view_output v o) (slice_index_or (view_round v).grants o None) (mover_to v (view_round v) o)
      → ShowsOutput settled o (view_output (view_after_commit (decisions_of relation v) v) o)
  unfolding decisions_of
  outputs-decided links_fit outs_fit o l says =
      let s = settled-output count c v ahead links local outs e words effects links_fit outs_fit o (view_output v o) (slice_index_or
      (view_round v).grants o None) (mover_to v (view_round v) o) (shows.outputs o l) says in
      subst (λ (x : Output). ShowsOutput settled o x) (sym (output-committed (decisions_of relation v) v size o l))
      (record { idle = s.idle; draining = s.draining; credit = s.credit })

  module _ (m : RouterMarks) (dry : ℕ) (s : AreSettling v (view_after_commit (decisions_of relation v) v) c m links local outs wanted supplied dry e)
      (past : ArePast v.site.vcs (ports v.site.grid) c.ahead e.moved ahead) where
    settled-words : AreWords count settled
    settled-words =
        record {
          len_bits = lowered-length c.len e.moved ∙ words.len_bits;
          credit_bits = lowered-length c.credit (bit_and e.out links) ∙ words.credit_bits;
          waiting = or_fits (less c.waiting e.granted) e.heads (less_fits c.waiting e.granted words.waiting) effects.heads;
          active = less_fits (bit_or c.active e.granted) e.released (or_fits c.active e.granted words.active effects.granted);
          len = lowered-fits c.len e.moved words.len effects.moved;
          supplied = less_fits supplied e.released s.supplied_fits;
          ahead = past.fits;
          wanted = s.wanted_fits;
          idle = or_fits (less c.idle outs) (bit_and e.freed local) (less_fits c.idle outs words.idle) (and_fits e.freed local effects.freed);
          draining = or_fits c.draining (bit_and e.freed links) words.draining (and_fits e.freed links effects.freed);
          credit = lowered-fits c.credit (bit_and e.out links) words.credit (and_fits e.out links effects.out);
          injecting = words.injecting;
        }

    settled-channels : ChannelsIn v.site settled (view_after_commit (decisions_of relation v) v)
    settled-channels = record {
      inputs = λ i l. let x = inputs-decided relation count picked ahead c v filled links local lost_set e words effects size picks shows fill turns are i l in
          record { waiting = x.waiting; active = x.active; len = x.len };
      outputs = λ o l. outputs-decided s.links_fit s.outs_fit o l (s.outputs o l);
      supplied = λ i l.
          let says = s.supplies i l in
          less_members supplied e.released i
          ∙ ap (λ b. b && not (has_bit e.released i)) says.bit
          ∙ supplied-after v (view_after_commit (decisions_of relation v) v) (view_input v i).phase (view_input (view_after_commit (decisions_of relation v) v) i).phase says.turn
          (has_bit c.supplied i) (has_bit dry i) (has_bit e.granted i) (has_bit e.released i) (shows.supplied i l) says.says;
      waiting_below = or-below (size_of v.site) (less c.waiting e.granted) e.heads (less-below
          (size_of v.site) c.waiting e.granted shows.waiting_below)
          (subst (λ w. MembersAreBelow (size_of v.site) w) (sym are.heads) (less-below (size_of v.site) filled (bit_or c.waiting c.active) fill.below));
      active_below = less-below (size_of v.site) (bit_or c.active e.granted) e.released (or-below
          (size_of v.site) c.active e.granted shows.active_below s.granted_below);
      idle_below = or-below (size_of v.site) (less c.idle outs) (bit_and e.freed local) (less-below
          (size_of v.site) c.idle outs shows.idle_below) (and-below (size_of v.site) e.freed local s.local_below);
      draining_below = or-below (size_of v.site) c.draining (bit_and e.freed links) shows.draining_below
          (and-below (size_of v.site) e.freed links s.links_below);
      len_below = λ i l.
          let none : one_if (has_bit e.moved i) ≡ 0 = ap one_if (none-above (size_of v.site) e.moved i s.moved_below l) in
          omega (arith, lowered-number c.len e.moved i words.len effects.moved (omega (arith, none)), none, shows.len_below i l);
    }

    settled-turns : TurnsIn v.site (arbiters_after (view_round v) v.arbiters) settled m
    settled-turns = record {
      inputs = ahead-after v e.moved size.some
          (record {
            each = λ k l. are.moved k l ∙ ap (λ b. b && is_won_from v (view_round v) k (view_input v k).phase)
                (draws count c v filled words shows fill picked size.some picks turns.ahead turns.pointers turns.arbiters k l);
          })
          c.ahead ahead past turns.arbiters s.sizes turns.ahead;
      channels = s.channel_turns;
      outputs = s.port_turns;
    }

    -- the column after the cycle shows the view after it, where the marks do
    pub settled-column : ShowsMarks settled m (view_after_commit (decisions_of relation v) v) → ShowsSending c v v.sending
        → IsColumn count settled m (view_after_commit (decisions_of relation v) v)
    unfolding decisions_of
    settled-column marks sending =
        let rest = committed-site (decisions_of relation v) v in
        record {
          words = settled-words;
          channels = shows-channels settled (view_after_commit (decisions_of relation v) v) (subst (λ site. ChannelsIn site settled (view_after_commit (decisions_of relation v) v))
              (sym rest.0) settled-channels);
          turns = shows-turns settled m (view_after_commit (decisions_of relation v) v)
              (subst (λ site. TurnsIn site (view_after_commit (decisions_of relation v) v).arbiters settled m) (sym rest.0)
              (subst (λ arbiters. TurnsIn v.site arbiters settled m) (sym (arbiters-committed (decisions_of relation v) v size)) settled-turns));
          marks = marks;
          sending = sending-same c settled v (view_after_commit (decisions_of relation v) v) refl rest.0 (view_after_commit (decisions_of relation v) v).sending (subst
              (λ x. ShowsSending c v x) (sym rest.1) sending);
        }

-- what holds of a view after its commit holds of it after the cycle, once its beats are put
pub column-put : (count : ℕ) (c : Column) (m : RouterMarks) (relation : Routes) (v : View) (beats : List Beat) (n : ℕ)
    → IsColumn count c m (view_after_commit (decisions_of relation (view_after_inject n (view_after_takes relation beats v))) (view_after_inject n (view_after_takes relation beats v)))
    → IsColumn count c m (local_step relation v beats n).0
unfolding local_step
column-put count c m relation v beats n is = record {
  words = is.words;
  channels = record {
    inputs = is.channels.inputs;
    outputs = is.channels.outputs;
    supplied = is.channels.supplied;
    waiting_below = is.channels.waiting_below;
    active_below = is.channels.active_below;
    idle_below = is.channels.idle_below;
    draining_below = is.channels.draining_below;
    len_below = is.channels.len_below;
  };
  turns = record { inputs = is.turns.inputs; channels = is.turns.channels; outputs = is.turns.outputs };
  marks = record { phases = is.marks.phases; holders = is.marks.holders; packets = is.marks.packets; to_port = is.marks.to_port };
  sending = sending-same c c (view_after_commit (decisions_of relation (view_after_inject n (view_after_takes relation beats v))) (view_after_inject n (view_after_takes relation beats v)))
      (local_step relation v beats n).0 refl (refl {a = (view_after_commit (decisions_of relation (view_after_inject n (view_after_takes relation beats v))) (view_after_inject n
      (view_after_takes relation beats v))).site}) (view_after_commit (decisions_of relation (view_after_inject n (view_after_takes relation beats v))) (view_after_inject n
      (view_after_takes relation beats v))).sending is.sending;
}
