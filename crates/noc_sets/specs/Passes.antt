-- What a cycle makes of the words of one router, step by step.
use Rattle.std.specs.Prelude.{◌≡◌, ℕ, ◌&&◌, not, true, List, [], ◌∷◌, bit_and, bit_or, bit_xor, nat_eq, nat_le, if◌then◌else◌}
use Rattle.noc_packet.specs.Set.{has_bit}
use Rattle.noc_sets.specs.Column.{Column}
use Rattle.noc_sets.specs.Planes.{any_from, lowered_by, raised_by, wrong_from}
use Rattle.noc_sets.specs.Sets.{less, lowest}

-- ---- credits come
-- the draining channels that then have all their credits
abbrev pub lane_home : List ℕ → ℕ → Column → ℕ
lane_home bits came c = less c.draining (wrong_from 0 (raised_by c.credit came) bits)

-- the owned channels that had none and have one now
abbrev pub lane_raised : ℕ → Column → ℕ
lane_raised came c = less came (bit_or (bit_or (any_from 0 c.credit) c.idle) c.draining)

abbrev pub with_credits : List ℕ → ℕ → Column → Column
with_credits bits came c = record c {
  credit = raised_by c.credit came;
  draining = bit_xor c.draining (lane_home bits came c);
  idle = bit_or c.idle (lane_home bits came c);
}

-- the input channels that own one of these output channels
pub record AreOwners (raised : ℕ) (owner : ℕ → ℕ) (up : ℕ) : Type 0 where
  pub each : (o : ℕ) → has_bit raised o ≡ true → has_bit up (owner o) ≡ true
  pub some : (i : ℕ) → has_bit up i ≡ true → (o : ℕ) × (has_bit raised o ≡ true) × (owner o ≡ i)

-- ---- flits come
-- those that the source injects: into the channel of its packet, where that is not full
abbrev pub lane_injected : List ℕ → Column → ℕ
lane_injected bits c = bit_and c.injecting (wrong_from 0 c.len bits)

abbrev pub lane_landed : List ℕ → ℕ → Column → ℕ
lane_landed bits came c = bit_or came (lane_injected bits c)

abbrev pub lane_filled : List ℕ → ℕ → Column → ℕ
lane_filled bits came c = bit_or (any_from 0 c.len) (lane_landed bits came c)

-- the local channels that may begin a packet
abbrev pub lane_free : ℕ → Column → ℕ
lane_free local c = less local (bit_or (bit_or c.waiting c.active) (any_from 0 c.len))

-- the local channels that may begin a packet, where the source injects nothing and its next packet
-- is due
abbrev pub lane_begins : ℕ → ℕ → ℕ → Column → ℕ
lane_begins local cycle due c =
    if nat_le due cycle && nat_eq c.injecting 0 then lane_free local c else 0

-- ---- a packet begins in the least of these channels, if there is one, and its head is injected
abbrev pub with_first : ℕ → List ℕ → List ℕ
with_first bit [] = []
with_first bit (plane ∷ planes) = bit_or plane bit ∷ planes

-- the channel from which a packet is injected, after a flit is injected where so many are left with
-- it
abbrev pub injecting_after : ℕ → ℕ → ℕ → ℕ
injecting_after injected left injecting =
    if not (nat_eq injected 0) && nat_eq left 1 then 0 else injecting

-- the words of a router after the beats are taken and a flit is injected: into `went`, from a
-- source with so many flits left, where `up` are supplied, and a packet begins in one of the
-- channels `begins`
abbrev pub frozen_column : List ℕ → ℕ → ℕ → ℕ → ℕ → ℕ → ℕ → Column → Column
frozen_column bits credits up flits begins went left c = record c {
  credit = raised_by c.credit credits;
  draining = bit_xor c.draining (lane_home bits credits c);
  idle = bit_or c.idle (lane_home bits credits c);
  supplied = bit_or c.supplied up;
  len = with_first (lowest begins) (raised_by c.len (lane_landed bits flits c));
  injecting = injecting_after went left (bit_or c.injecting (lowest begins));
}

-- ---- what each channel can do, where these are filled
abbrev pub lane_heads : ℕ → Column → ℕ
lane_heads filled c = less filled (bit_or c.waiting c.active)

abbrev pub lane_asks : Column → ℕ
lane_asks c = if nat_eq c.waiting 0 then 0 else bit_and c.wanted c.idle

abbrev pub lane_ready : ℕ → Column → ℕ
lane_ready filled c = bit_and (bit_and c.active filled) c.supplied

-- ---- what is counted
abbrev pub lane_no_flit : ℕ → Column → ℕ
lane_no_flit filled c = less c.active filled

abbrev pub lane_no_idle_channel : ℕ → ℕ → Column → ℕ
lane_no_idle_channel granted lost c = less c.waiting (bit_or granted lost)

abbrev pub lane_no_credit : ℕ → Column → ℕ
lane_no_credit filled c = less (bit_and c.active filled) (lane_ready filled c)

-- ---- grants, moves and tails take effect
pub record Effects : Type 0 where
  pub heads : ℕ
  pub granted : ℕ
  pub moved : ℕ
  pub out : ℕ
  pub released : ℕ
  pub freed : ℕ

-- the words of a router after these effects, where its pointers of input ports become these
abbrev pub settled_lane : ℕ → ℕ → ℕ → Effects → Column → Column
settled_lane ahead links local e c = record c {
  ahead = ahead;
  waiting = bit_or (less c.waiting e.granted) e.heads;
  active = less (bit_or c.active e.granted) e.released;
  supplied = less c.supplied e.released;
  draining = bit_or c.draining (bit_and e.freed links);
  idle = bit_or c.idle (bit_and e.freed local);
  len = lowered_by c.len e.moved;
  credit = lowered_by c.credit (bit_and e.out links);
}
