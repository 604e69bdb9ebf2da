-- What allocation makes of the routers of a block.
use Rattle.std.specs.Prelude.{◌≡◌, ◌≢◌, ℕ, ◌+◌, ◌*◌, ◌/◌, ◌%◌, ◌^◌, ◌<◌, ◌≤◌, true, false, List, [], ◌&&◌, nat_eq, nat_lt, bit_or, slice_index_or, if◌then◌else◌}
use Rattle.noc_packet.specs.Set.{has_bit}
use Rattle.noc_alloc.specs.Members.{MembersAreBelow}
use Rattle.noc_sets.specs.Column.{Column, RouterMarks}
use Rattle.noc_sets.specs.Grants.{Allocation, AreAsks}
use Rattle.noc_sets.specs.Sets.{least, less}
use Rattle.noc_columns.specs.Grants.{first_of}
use Rattle.noc_columns.specs.Picks.{channels_of}
use Rattle.noc_columns.specs.Supply.{digits_by, number_in}
use Rattle.noc_columns.specs.Switch.{ShowsSends}
use Rattle.noc_columns.specs.Words.{Numbering, set_below, set_of, word}
use Rattle.noc_columns.specs.declared.given.Grants.{Grants}
use Rattle.noc_columns.specs.declared.marks.Marks.{Marks}
use Rattle.noc_columns.specs.declared.ports.RouterPorts.{RouterPorts}
use Rattle.noc_columns.specs.declared.sets.TheConstants.{CHANNELS}
use Rattle.noc_columns.specs.declared.words.TheConstants.{ROUTERS}

-- what it finds and changes of one router
pub record Allotment : Type 0 where
  pub waiting : ℕ  -- input channels
  pub idle : ℕ  -- output channels
  pub wanted : ℕ
  pub set : ℕ → ℕ  -- by waiting input channel, where it may go
  pub turn : ℕ → ℕ  -- by output channel, the input channels at or after the pointer of its arbiter
  pub granted : ℕ  -- input channels that are granted an output channel
  pub lost : ℕ  -- those that ask for one and are not granted it
  pub out_port : ℕ → ℕ  -- by input channel, the port of the output channel by which it sends
  pub out_vc : ℕ → ℕ  -- by input channel, its virtual channel

-- what it finds and changes of router r of a block
abbrev pub allotment_at : Numbering → Marks → Grants → List ℕ → ℕ → Allotment
allotment_at n marks grants lost r = record {
  waiting = word r marks.waiting;
  idle = word r marks.idle;
  wanted = word r marks.wanted;
  set = λ k. word k (slice_index_or marks.sets r []);
  turn = λ o. word o (slice_index_or marks.turns r []);
  granted = set_of n r grants.granted;
  lost = set_of n r lost;
  out_port = λ k. number_in (digits_by (set_of n r) grants.sends.port) k;
  out_vc = λ k. number_in (digits_by (set_of n r) grants.sends.vc) k;
}

-- from a to b its waiting channels have asked, and each output channel that was asked for is
-- granted to the first that asks for it, from its pointer on and around; a port has so many
-- channels
pub record HasAllotted (vcs : ℕ) (a b : Allotment) : Type 0 where
  pub requests : ℕ → ℕ
  pub outs : ℕ
  pub inputs : ℕ
  pub granted : ℕ
  pub asks : AreAsks (has_bit a.waiting) a.idle a.set requests outs inputs b.wanted
  pub given : (o k : ℕ) → has_bit outs o ≡ true → has_bit (first_of requests a.turn o) k ≡ true
      → has_bit granted k ≡ true
  pub none : (k : ℕ)
      → ((o : ℕ) → has_bit outs o ≡ true → has_bit (first_of requests a.turn o) k ≡ false)
      → has_bit granted k ≡ false
  pub numbers : (o k : ℕ) → has_bit outs o ≡ true → has_bit (first_of requests a.turn o) k ≡ true
      → (b.out_port k ≡ o / vcs) × (b.out_vc k ≡ o % vcs)
  pub kept : (k : ℕ) → has_bit granted k ≡ false
      → (b.out_port k ≡ a.out_port k) × (b.out_vc k ≡ a.out_vc k)
  -- a pointer goes past the channel that is granted
  pub turns : (o k i : ℕ) → has_bit outs o ≡ true → has_bit (first_of requests a.turn o) k ≡ true
      → i < CHANNELS → has_bit (b.turn o) i ≡ nat_lt k i
  pub others : (o : ℕ) → has_bit outs o ≡ false → b.turn o ≡ a.turn o
  pub outs_fit : outs < 2 ^ 64
  pub waiting : b.waiting ≡ less a.waiting granted
  pub idle : b.idle ≡ less a.idle outs
  pub set : b.set ≡ a.set
  pub granted_is : b.granted ≡ bit_or a.granted granted
  pub lost_is : b.lost ≡ bit_or a.lost (less inputs granted)

-- ---- of one router of a block
-- its channels wait, and none of them is granted an output channel yet
pub record MayAllot (ports : RouterPorts) (router : ℕ) (marks : Marks) (grants : Grants)
    : Type 0 where
  pub router_within : router < ROUTERS
  pub some : 0 < word router marks.waiting
  pub waiting : MembersAreBelow ((ports.links.width + 1) * ports.links.vcs)
      (word router marks.waiting)
  pub idle : MembersAreBelow ((ports.links.width + 1) * ports.links.vcs) (word router marks.idle)
  pub free : set_of (channels_of ports) router grants.granted ≡ 0
  pub room : grants.count + CHANNELS ≤ ROUTERS * CHANNELS

-- it has allotted its own, and the others are as they were
pub record HasAllottedOne (ports : RouterPorts) (router : ℕ) (marks marks' : Marks)
    (grants grants' : Grants) (lost lost' : List ℕ) : Type 0 where
  pub here : HasAllotted ports.links.vcs
      (allotment_at (channels_of ports) marks grants lost router)
      (allotment_at (channels_of ports) marks' grants' lost' router)
  pub others : (r : ℕ) → r ≢ router
      → allotment_at (channels_of ports) marks' grants' lost' r
      ≡ allotment_at (channels_of ports) marks grants lost r
  pub few : grants'.count ≤ grants.count + CHANNELS

-- ---- of all routers of a block, where nothing is granted yet
pub record MayAllotAll (ports : RouterPorts) (marks : Marks) (grants : Grants) : Type 0 where
  pub waiting : (r : ℕ) → r < ROUTERS
      → MembersAreBelow ((ports.links.width + 1) * ports.links.vcs) (word r marks.waiting)
  pub idle : (r : ℕ) → r < ROUTERS
      → MembersAreBelow ((ports.links.width + 1) * ports.links.vcs) (word r marks.idle)
  pub free : (r : ℕ) → r < ROUTERS → set_of (channels_of ports) r grants.granted ≡ 0
  pub none : grants.count ≡ 0

-- those in which a channel asks have allotted theirs, and the others are as they were
pub record HasAllottedAll (ports : RouterPorts) (marks marks' : Marks) (grants grants' : Grants)
    (lost lost' : List ℕ) : Type 0 where
  pub asked : (r : ℕ) → r < ROUTERS → has_bit marks.asking r ≡ true
      → HasAllotted ports.links.vcs (allotment_at (channels_of ports) marks grants lost r)
      (allotment_at (channels_of ports) marks' grants' lost' r)
  pub others : (r : ℕ) → has_bit marks.asking r ≡ false
      → allotment_at (channels_of ports) marks' grants' lost' r
      ≡ allotment_at (channels_of ports) marks grants lost r

-- ---- of the column and the marks of the router
-- before it, where the rest of them are these
abbrev pub allotted_before : Allotment → Column → RouterMarks → Allocation
allotted_before a c m = record {
  column = record c { waiting = a.waiting; idle = a.idle; wanted = a.wanted };
  marks = record m { set = a.set; turn = a.turn };
  granted = 0;
  lost = 0;
}

-- of so many input channels those that are granted output channel o: the ones with its number
abbrev pub given_to : ℕ → ℕ → Allotment → ℕ → ℕ
given_to size vcs b o =
    set_below size (λ k. has_bit b.granted k && nat_eq (b.out_port k * vcs + b.out_vc k) o)

-- the marks after it: who is granted an output channel owns it, and sends by its port
abbrev pub allotted_marks : ℕ → ℕ → Allotment → RouterMarks → RouterMarks
allotted_marks size vcs b m = record m {
  set = b.set;
  turn = b.turn;
  taken = λ k. if has_bit b.granted k then 2 ^ (b.out_port k * vcs + b.out_vc k) else m.taken k;
  owner = λ o.
      if nat_eq (given_to size vcs b o) 0 then m.owner o else least (given_to size vcs b o);
  to_port = λ q.
      bit_or (m.to_port q)
      (set_below size (λ k. has_bit b.granted k && nat_eq (b.out_port k) q));
}

-- after it, where a was before (who is granted a channel waits until the end of the cycle)
abbrev pub allotted_after : ℕ → ℕ → Allotment → Allotment → Column → RouterMarks → Allocation
allotted_after size vcs a b c m = record {
  column = record c {
    waiting = a.waiting;
    idle = b.idle;
    wanted = b.wanted;
    supplied = bit_or c.supplied b.granted;
  };
  marks = allotted_marks size vcs b m;
  granted = b.granted;
  lost = b.lost;
}

-- after it, where then each waiting channel has one of these sets, which are all wanted
abbrev pub routed_after : Allocation → (ℕ → ℕ) → ℕ → Allocation
routed_after b sets all = record b {
  column = record b.column { wanted = all };
  marks = record b.marks { set = sets };
}

-- the marks show which output channel each of these input channels owns, and no other sends
pub record ShowsOwned (ports vcs active : ℕ) (out_port out_vc : ℕ → ℕ) (m : RouterMarks)
    : Type 0 where
  pub sends : ShowsSends ports vcs active out_port out_vc m
  pub only : (q i : ℕ) → has_bit (m.to_port q) i ≡ true → has_bit active i ≡ true
  pub owner : (i : ℕ) → has_bit active i ≡ true → m.owner (out_port i * vcs + out_vc i) ≡ i
