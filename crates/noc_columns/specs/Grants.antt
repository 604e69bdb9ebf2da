-- What a grant changes of the words of a block.
use Rattle.std.specs.Prelude.{◌≡◌, ℕ, ◌+◌, ◌*◌, ◌/◌, ◌%◌, ◌^◌, ◌<◌, ◌≤◌, Bool, true, false, ◌&&◌, nat_eq, nat_lt, bit_or, if◌then◌else◌}
use Rattle.noc_packet.specs.Set.{has_bit}
use Rattle.noc_alloc.specs.Members.{MembersAreBelow}
use Rattle.noc_sets.specs.Turns.{first_bit}
use Rattle.noc_columns.specs.Supply.{digits_by, number_in}
use Rattle.noc_columns.specs.Words.{Numbering, set_of}
use Rattle.noc_columns.specs.declared.given.Grants.{Grants}
use Rattle.noc_columns.specs.declared.sets.TheConstants.{CHANNELS}
use Rattle.noc_columns.specs.declared.words.TheConstants.{ROUTERS}

-- output channel `out` of a router may be granted to the one channel of this set, which is granted
-- none yet
pub record MayGrant (n : Numbering) (router out set : ℕ) (grants : Grants) : Type 0 where
  pub router_within : router < ROUTERS
  pub out_within : out < n.size
  pub one : (k : ℕ) × (k < n.size) × (set ≡ 2 ^ k)
  pub free : (k : ℕ) → has_bit set k ≡ true
      → has_bit (set_of n router grants.granted) k ≡ false
  pub room : grants.count < ROUTERS * CHANNELS

-- the channels of this set are granted an output channel of this port and virtual channel, if r is
-- the router; all else is as it was
pub record IsNumbered (n : Numbering) (r router set out_port out_vc : ℕ) (old new : Grants)
    : Type 0 where
  pub granted : set_of n r new.granted
      ≡ (if nat_eq r router then bit_or (set_of n r old.granted) set else set_of n r old.granted)
  pub port : (c : ℕ) → c < n.size
      → number_in (digits_by (set_of n r) new.sends.port) c
      ≡ (if nat_eq r router && has_bit set c then out_port
      else number_in (digits_by (set_of n r) old.sends.port) c)
  pub vc : (c : ℕ) → c < n.size
      → number_in (digits_by (set_of n r) new.sends.vc) c
      ≡ (if nat_eq r router && has_bit set c then out_vc
      else number_in (digits_by (set_of n r) old.sends.vc) c)

-- ---- all grants of a router
-- the one of its requests that output channel o goes to
abbrev pub first_of : (ℕ → ℕ) → (ℕ → ℕ) → ℕ → ℕ
first_of requests turn o = first_bit (requests o) (turn o)

-- each of these output channels may be granted to the first of its requests: it has some, no channel
-- asks for two, and none that asks is granted one yet
pub record MayGrantAll (n : Numbering) (router : ℕ) (outs : ℕ → Bool) (requests : ℕ → ℕ)
    (grants : Grants) : Type 0 where
  pub router_within : router < ROUTERS
  pub asked : (o : ℕ) → outs o ≡ true
      → (o < n.size) × (0 < requests o) × MembersAreBelow n.size (requests o)
  pub apart : (a b k : ℕ) → outs a ≡ true → outs b ≡ true → has_bit (requests a) k ≡ true
      → has_bit (requests b) k ≡ true → a ≡ b
  pub free : (o k : ℕ) → outs o ≡ true → has_bit (requests o) k ≡ true
      → has_bit (set_of n router grants.granted) k ≡ false
  pub room : grants.count + CHANNELS ≤ ROUTERS * CHANNELS

-- each of these output channels goes to the first of its requests, whose number is written; the
-- other channels of the router, and the other routers, are as they were
pub record AreGranted (n : Numbering) (vcs router : ℕ) (outs : ℕ → Bool) (requests turn : ℕ → ℕ)
    (granted : ℕ) (old new : Grants) : Type 0 where
  pub given : (o k : ℕ) → outs o ≡ true → has_bit (first_of requests turn o) k ≡ true
      → has_bit granted k ≡ true
  pub none : (k : ℕ) → ((o : ℕ) → outs o ≡ true → has_bit (first_of requests turn o) k ≡ false)
      → has_bit granted k ≡ false
  pub bits : (r : ℕ)
      → set_of n r new.granted
      ≡ (if nat_eq r router then bit_or (set_of n r old.granted) granted
      else set_of n r old.granted)
  pub numbers : (o c : ℕ) → c < n.size → outs o ≡ true → has_bit (first_of requests turn o) c ≡ true
      → (number_in (digits_by (set_of n router) new.sends.port) c ≡ o / vcs)
      × (number_in (digits_by (set_of n router) new.sends.vc) c ≡ o % vcs)
  pub kept : (r c : ℕ) → c < n.size → (nat_eq r router && has_bit granted c) ≡ false
      → (number_in (digits_by (set_of n r) new.sends.port) c
      ≡ number_in (digits_by (set_of n r) old.sends.port) c)
      × (number_in (digits_by (set_of n r) new.sends.vc) c
      ≡ number_in (digits_by (set_of n r) old.sends.vc) c)

-- the pointer of each of these output channels is past the one of its requests that it goes to, and
-- the other pointers are where they were
pub record ArePointersPast (outs : ℕ → Bool) (requests turn turn' : ℕ → ℕ) : Type 0 where
  pub past : (o k i : ℕ) → outs o ≡ true → has_bit (first_of requests turn o) k ≡ true
      → i < CHANNELS → has_bit (turn' o) i ≡ nat_lt k i
  pub others : (o : ℕ) → outs o ≡ false → turn' o ≡ turn o
