-- By which output channel an input channel sends, and whether that has a credit.
use Rattle.std.specs.Prelude.{◌≡◌, ℕ, ◌+◌, ◌*◌, ◌<◌, ◌≤◌, Bool, true, false, List, [], ◌∷◌, ◌||◌, nat_lt, if◌then◌else◌}
use Rattle.noc_packet.specs.Set.{has_bit}
use Rattle.noc_sets.specs.Planes.{plane_number}
use Rattle.noc_columns.specs.Words.{word}
use Rattle.noc_columns.specs.declared.supply.Digits.{Digits}
use Rattle.noc_columns.specs.declared.supply.Sends.{Sends}
use Rattle.noc_columns.specs.declared.words.TheConstants.{ROUTERS}

-- each digit as what f makes of it
abbrev pub digits_by : {A B : Type 0} → (A → B) → Digits A → Digits B
digits_by f d = record { ones = f d.ones; twos = f d.twos; fours = f d.fours }

-- the number of a channel
abbrev pub number_in : Digits ℕ → ℕ → ℕ
number_in d c = plane_number (d.ones ∷ d.twos ∷ d.fours ∷ []) c

-- what is at the number of these two bits
abbrev pub by_four : Bool → Bool → (ℕ → Bool) → Bool
by_four a b f = if b then (if a then f 3 else f 2) else (if a then f 1 else f 0)

-- whether virtual channel v of port q has a credit, where `some` has those of each link port, or
-- port q is none of so many link ports
abbrev pub is_fed : ℕ → (ℕ → ℕ) → ℕ → ℕ → Bool
is_fed links some q v = if nat_lt q links then has_bit (some q) v else true

-- whether it has so in router r, by the words of all link channels
abbrev pub is_fed_word : ℕ → List ℕ → ℕ → ℕ → ℕ → Bool
is_fed_word links some r q v =
    if nat_lt q links then has_bit (word (v * links + q) some) r else true

-- the same where only so many virtual channels are looked at, and all others are taken to have one
abbrev pub is_fed_among : ℕ → ℕ → List ℕ → ℕ → ℕ → ℕ → Bool
is_fed_among looked links some r q v =
    if nat_lt v looked then is_fed_word links some r q v else true

-- so many words tell that of the output channels by which channels send, where these have numbers
-- below so many virtual channels
abbrev pub TellFedAmong : ℕ → ℕ → ℕ → ℕ → Sends (List ℕ) → List ℕ → List ℕ → Type 0
TellFedAmong count links vcs looked sends some supplied =
    (k r : ℕ) → k < count
    → number_in (digits_by (word k) sends.vc) r < vcs
    → number_in (digits_by (word k) sends.port) r ≤ links
    → has_bit (word k supplied) r
    ≡ is_fed_among looked links some r (number_in (digits_by (word k) sends.port) r)
    (number_in (digits_by (word k) sends.vc) r)

-- virtual channel v of port q does not drain, where `draining` has those of each link port
abbrev pub DoesNotDrain : ℕ → (ℕ → ℕ) → ℕ → ℕ → Type 0
DoesNotDrain links draining q v = q < links → has_bit (draining q) v ≡ false

-- so many words tell whether the output channels by which channels send have a credit, or are of
-- no link port, where these have numbers below so many virtual channels and do not drain
abbrev pub TellFed : ℕ → ℕ → ℕ → Sends (List ℕ) → List ℕ → List ℕ → List ℕ → Type 0
TellFed count links vcs sends some draining supplied =
    (k r : ℕ) → k < count → r < ROUTERS
    → (let port = number_in (digits_by (word k) sends.port) r in
    let vc = number_in (digits_by (word k) sends.vc) r in
    vc < vcs → port ≤ links
    → (port < links → has_bit (word (vc * links + port) draining) r ≡ false)
    → has_bit (word k supplied) r ≡ is_fed_word links some r port vc)

-- in each router each channel of the words from `first` to before `end` has a credit or drains
abbrev pub NoneIsDry : ℕ → ℕ → List ℕ → List ℕ → Type 0
NoneIsDry first end some draining =
    (k r : ℕ) → first ≤ k → k < end → r < ROUTERS
    → (has_bit (word k some) r || has_bit (word k draining) r) ≡ true
