-- The grants of a cycle, one after the other.
use Rattle.std.specs.Prelude.{◌≡◌, ℕ, ◌*◌, ◌<◌, Bool, true, false, ◌&&◌, List, nat_eq, slice_index_or, if◌then◌else◌}
use Rattle.noc_packet.specs.Set.{has_bit}
use Rattle.noc_sets.specs.Unions.{some_below}
use Rattle.noc_columns.specs.Supply.{digits_by, number_in}
use Rattle.noc_columns.specs.Words.{word}
use Rattle.noc_columns.specs.declared.given.Grant.{Grant}
use Rattle.noc_columns.specs.declared.sets.TheConstants.{CHANNELS}
use Rattle.noc_columns.specs.declared.supply.Digits.{Digits}
use Rattle.noc_columns.specs.declared.supply.Sends.{Sends}
use Rattle.noc_columns.specs.declared.supply.TheConstants.{NUMBERS}
use Rattle.noc_columns.specs.declared.words.TheConstants.{ROUTERS}

-- by these words it is granted, and sends by this output channel
pub record IsGiven (e : Grant) (granted : List ℕ) (sends : Sends (List ℕ)) : Type 0 where
  pub router : e.router < ROUTERS
  pub index : e.index < CHANNELS
  pub granted_is : has_bit (word e.index granted) e.router ≡ true
  pub port : number_in (digits_by (word e.index) sends.port) e.router ≡ e.port
  pub vc : number_in (digits_by (word e.index) sends.vc) e.router ≡ e.vc

-- the first so many are grants
abbrev pub AreGiven : List Grant → ℕ → List ℕ → Sends (List ℕ) → Type 0
AreGiven given count granted sends =
    (i : ℕ) (d : Grant) → i < count → IsGiven (slice_index_or given i d) granted sends

-- whether the one at place i is of router r, to the channel whose word has index k
abbrev pub is_of : List Grant → ℕ → ℕ → ℕ → Bool
is_of given r k i =
    let none : Grant = record { router = 0; index = 0; port = 0; vc = 0 } in
    nat_eq (slice_index_or given i none).router r && nat_eq (slice_index_or given i none).index k

-- these are all
abbrev pub AreAllGiven : List Grant → ℕ → List ℕ → Type 0
AreAllGiven given count granted =
    (r k : ℕ) → r < ROUTERS → k < CHANNELS → has_bit (word k granted) r ≡ true
    → some_below count (is_of given r k) ≡ true

-- ---- one grant more
-- where there are so many, the channel of a router whose word has this index is granted none yet,
-- and may be granted the output channel of this port and virtual channel
pub record MayPut (index router port vc : ℕ) (granted : List ℕ) (count : ℕ) : Type 0 where
  pub index_within : index < CHANNELS
  pub router_within : router < ROUTERS
  pub port_within : port < NUMBERS
  pub vc_within : vc < NUMBERS
  pub free : has_bit (word index granted) router ≡ false
  pub room : count < ROUTERS * CHANNELS

-- the channel of a router whose word has this index has this number, and the others have theirs
abbrev pub IsNumberPut : ℕ → ℕ → ℕ → Digits (List ℕ) → Digits (List ℕ) → Type 0
IsNumberPut index router number old new =
    (k r : ℕ)
    → number_in (digits_by (word k) new) r
    ≡ (if nat_eq k index && nat_eq r router
    then number
    else number_in (digits_by (word k) old) r)
