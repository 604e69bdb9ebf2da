-- What the passes make of one router, in the words of its sets of channels.
use Rattle.std.specs.Prelude.{◌≡◌, ℕ, ◌<◌, Bool, List, bit_and, bit_or}
use Rattle.noc_packet.specs.Set.{has_bit}
use Rattle.noc_sets.specs.Column.{Column}
use Rattle.noc_sets.specs.Ended.{ended_next, ended_taken}
use Rattle.noc_sets.specs.Passes.{Effects, lane_heads, lane_home, lane_no_credit, lane_ready, settled_lane, with_credits}
use Rattle.noc_sets.specs.Planes.{any_from, lowered_by, more_than_one, raised_by}
use Rattle.noc_sets.specs.Sets.{less}
use Rattle.noc_sets.specs.Unions.{some_below}
use Rattle.noc_columns.specs.Arrivals.{leaves_from}
use Rattle.noc_columns.specs.Channels.{decided_by, inputs_by, links_by, standing_by, verdicts_by}
use Rattle.noc_columns.specs.Planes.{list_of}
use Rattle.noc_columns.specs.Supply.{digits_by, number_in}
use Rattle.noc_columns.specs.Words.{IsWithin, Numbering, set_of, word}
use Rattle.noc_columns.specs.declared.channels.Decided.{Decided}
use Rattle.noc_columns.specs.declared.channels.Inputs.{Inputs}
use Rattle.noc_columns.specs.declared.channels.Links.{Links}
use Rattle.noc_columns.specs.declared.channels.Outputs.{Outputs}
use Rattle.noc_columns.specs.declared.channels.Returned.{Returned}
use Rattle.noc_columns.specs.declared.channels.Standing.{Standing}
use Rattle.noc_columns.specs.declared.channels.Verdicts.{Verdicts}
use Rattle.noc_columns.specs.declared.given.Grants.{Grants}

-- a router with these output channels
abbrev pub with_outputs : Bool → Outputs ℕ → Column → Column
with_outputs deep o c = record c { draining = o.draining; credit = list_of deep o.credit }

-- ---- credits come, where buffers have so many places
pub record TakesCredits (deep : Bool) (places : List ℕ) (came : ℕ) (old new : Outputs ℕ)
    (what : Returned ℕ) : Type 0 where
  pub column : (c : Column)
      → with_outputs deep new (record c { idle = bit_or c.idle what.home })
      ≡ with_credits places came (with_outputs deep old c)
  pub home : (c : Column) → what.home ≡ lane_home places came (with_outputs deep old c)
  pub some : what.some ≡ any_from came (list_of deep old.credit)

-- ---- flits come
-- a router with these input channels, of which these are supplied
abbrev pub with_inputs : Bool → Inputs ℕ → ℕ → Column → Column
with_inputs deep i supplied c = record c {
  waiting = i.waiting;
  active = i.active;
  supplied = supplied;
  ahead = i.ahead;
  len = list_of deep i.len;
}

-- a router with these input channels, of which the source injects into these
abbrev pub with_source : Bool → Inputs ℕ → ℕ → Column → Column
with_source deep i injecting c = record (with_inputs deep i c.supplied c) { injecting = injecting }

-- the channels that have a flit where these come
abbrev pub filled_by : Bool → Inputs ℕ → ℕ → ℕ
filled_by deep i flits = bit_or (any_from 0 (list_of deep i.len)) flits

pub record Lands (deep : Bool) (links : Links ℕ) (i j : Inputs ℕ) (s t : Standing ℕ)
    (short : ℕ) : Type 0 where
  pub len : list_of deep j.len ≡ raised_by (list_of deep i.len) links.flits
  pub ended : j ≡ record i { ended = ended_taken i.ended links.tails; len = j.len }
  pub supplied : t.supplied ≡ s.supplied
  pub heads : (c : Column)
      → t.heads ≡ lane_heads (filled_by deep i links.flits) (with_inputs deep i s.supplied c)
  pub ready : (c : Column)
      → t.ready ≡ lane_ready (filled_by deep i links.flits) (with_inputs deep i s.supplied c)
  pub last : t.last ≡ less j.ended (more_than_one (list_of deep j.len))
  pub no_credit : (c : Column)
      → short ≡ lane_no_credit (filled_by deep i links.flits) (with_inputs deep i s.supplied c)

-- flits land in every router of so many words, and these routers have a head
pub record LandsAll (count : ℕ) (deep : Bool) (links : Links (List ℕ)) (i j : Inputs (List ℕ))
    (s t : Standing (List ℕ)) (short : List ℕ) (heading : ℕ) : Type 0 where
  pub flits : (n : Numbering) (r : ℕ) → IsWithin count n
      → Lands deep (links_by (set_of n r) links)
      (inputs_by (set_of n r) i) (inputs_by (set_of n r) j)
      (standing_by (set_of n r) s) (standing_by (set_of n r) t) (set_of n r short)
  pub heads : (r : ℕ) → has_bit heading r ≡ some_below count (λ k. has_bit (word k t.heads) r)

-- ---- what is decided takes effect
-- the effects on the input channels, of which these are granted an output channel, and these move
-- a flit
abbrev pub effects_of : Standing ℕ → ℕ → ℕ → Effects
effects_of s granted moved = record {
  heads = s.heads;
  granted = granted;
  moved = moved;
  out = 0;
  released = bit_and moved s.last;
  freed = 0;
}

pub record Settles (deep : Bool) (s : Standing ℕ) (d : Decided ℕ) (granted : ℕ) (i j : Inputs ℕ)
    (v w : Verdicts ℕ) : Type 0 where
  pub column : (links local supplied : ℕ) (c : Column)
      → with_inputs deep j supplied c
      ≡ record (settled_lane j.ahead links local (effects_of s granted w.moved)
      (with_inputs deep i supplied c)) {
        supplied = supplied;
        draining = c.draining;
        idle = c.idle;
        credit = c.credit;
      }
  pub ended : j.ended ≡ ended_next i.ended (bit_and w.moved s.last)
  -- the pointer of a port that sends goes past the channel that is picked
  pub ahead : j.ahead ≡ bit_or (less i.ahead d.sends) (bit_and d.past d.sends)
  pub verdicts : w ≡ record {
    active = i.active;
    no_credit = v.no_credit;
    moved = bit_and d.picked d.sends;
  }

-- what is decided takes effect in every router of so many words, of which a flit moves in these
-- and a packet leaves the network from those, by the port with this number
pub record SettlesAll (count : ℕ) (deep : Bool) (local : ℕ) (s : Standing (List ℕ))
    (d : Decided (List ℕ)) (g : Grants) (i j : Inputs (List ℕ)) (v w : Verdicts (List ℕ))
    (gone : List ℕ) (moving leaving : ℕ) : Type 0 where
  pub settles : (n : Numbering) (r : ℕ) → IsWithin count n
      → Settles deep (standing_by (set_of n r) s) (decided_by (set_of n r) d) (set_of n r g.granted)
      (inputs_by (set_of n r) i) (inputs_by (set_of n r) j)
      (verdicts_by (set_of n r) v) (verdicts_by (set_of n r) w)
  pub arrived : (n : Numbering) (r c : ℕ) → IsWithin count n → c < n.size
      → has_bit (set_of n r gone) c
      ≡ leaves_from local (set_of n r w.moved) (set_of n r s.last)
      (number_in (digits_by (set_of n r) g.sends.port)) c
  pub moved : (r : ℕ) → has_bit moving r ≡ some_below count (λ k. has_bit (word k w.moved) r)
  pub some : (r : ℕ) → has_bit leaving r ≡ some_below count (λ k. has_bit (word k gone) r)

-- ---- flits are sent by these output channels of links, and tails by those
pub record Pays (deep : Bool) (out freed : ℕ) (o p : Outputs ℕ) : Type 0 where
  pub credit : list_of deep p.credit ≡ lowered_by (list_of deep o.credit) out
  pub draining : p.draining ≡ bit_or o.draining freed
